-- Line feeds one after another: the row is closed once, then come equal advances.
use Rattle.std.proofs.Common.{◌≡◌, ℕ, zero, suc, ◌+◌, ◌-◌, ◌≤◌, List, [], ◌++◌, sym, refl, ap, ◌∙◌, append-nil, not-suc-le-zero, add-one}
use Rattle.job.specs.Actions.{Act}
use Rattle.job.specs.Printer.{Printer, change_paper, emptied}
use Rattle.job.specs.Row.{closing}
use Rattle.job.specs.Effects.{times}
use Rattle.job.specs.Lines.{feed_line, next_line, close_and_feed}
use Rattle.job.proofs.Feeds.{advances, bare_blanks, bare_feeds, feeds}

-- one line feed more counts a line
pub feeds_more : (n : ℕ) (p : Printer) → (times (n + 1) feed_line (emptied p)).printer ≡ change_paper next_line (times n feed_line (emptied p)).printer
feeds_more n p = ap (λ (k : ℕ). (times k feed_line (emptied p)).printer) (add-one n) ∙ more n p
  where
    more : (n : ℕ) (p : Printer) → (times (suc n) feed_line (emptied p)).printer ≡ change_paper next_line (times n feed_line (emptied p)).printer
    more zero p = refl
    more (suc n) p = more n (change_paper next_line p)

pub feeds_space : (n : ℕ) (p : Printer) → (times n feed_line (emptied p)).printer.settings.paper.spacing ≡ p.settings.paper.spacing
feeds_space zero p = refl
feeds_space (suc n) p = feeds_space n (change_paper next_line p)

pub feeds_acts : (n : ℕ) (p : Printer) → (times n feed_line (emptied p)).acts ≡ advances n p.settings.paper.spacing
feeds_acts n p = bare_feeds n (emptied p) (bare_blanks (p.settings.margins.left - 1))

-- one line feed or more close the row first
pub feeds_close : (n : ℕ) (p : Printer) → 1 ≤ n
    → ((times n feed_line p).acts ≡ (close_and_feed n p).acts ++ []) × ((times n feed_line p).printer ≡ (close_and_feed n p).printer)
feeds_close zero p h = absurd (not-suc-le-zero h)
feeds_close (suc n) p h = (
  feeds n p ∙ ap (λ (acts : List Act). closing p.row ++ acts) (sym (feeds_acts (suc n) p)) ∙ sym (append-nil (close_and_feed (suc n) p).acts),
  refl,
)
