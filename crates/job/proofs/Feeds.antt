-- Line feeds one after another.
use Rattle.std.proofs.Common.{◌≡◌, ℕ, zero, suc, ◌-◌, ◌<◌, Bool, true, false, cond, ◌&&◌, eqb, List, [], ◌∷◌, ◌++◌, map, length, get_or, replicate, sym, refl, ap, ◌∙◌, append_assoc, append-nil, arith}
use Rattle.std.proofs.lemmas.Bool.{cond-true, cond-false, ne_eqb, eq-eqb, le-leb, and_left, and_right}
use Rattle.reading.specs.Tests.{every}
use Rattle.job.specs.Actions.{Cell, Blank, Act, row, advance}
use Rattle.job.specs.Printer.{Printer}
use Rattle.job.specs.Row.{closed_cell, is_blank, padded, closing}
use Rattle.job.specs.Effects.{times}
use Rattle.job.specs.Lines.{feed_line, lines_to_stop, lines_to_page}
use Rattle.job.specs.Job.{Run, run, run_byte, followed_by}
use Rattle.job.specs.CommandLaws.{between_commands, Shows, LineFeeds, FeedsAreLineFeeds}
use Rattle.job.proofs.Runs.{Reads}

-- nothing of the row shows
abbrev pub Bare : List Cell → Type 0
Bare r = every is_blank (map closed_cell r) ≡ true

pub bare_blanks : (n : ℕ) → Bare (replicate n Blank)
bare_blanks zero = refl
bare_blanks (suc n) = bare_blanks n

pub bare_closing : (r : List Cell) → Bare r → closing r ≡ []
bare_closing r h = rw h

-- so many equal advances; none of 0 steps
abbrev pub advances : ℕ → ℕ → List Act
advances n steps = cond (eqb steps 0) [] (replicate n (advance steps))

pub no_advances : (steps : ℕ) → advances 0 steps ≡ []
no_advances steps = go (eqb steps 0)
  where
    go : (b : Bool) → cond {A = List Act} b [] [] ≡ []
    go true = refl
    go false = refl

pub more_advances : (n steps : ℕ) → advances 1 steps ++ advances n steps ≡ advances (suc n) steps
more_advances n steps = go (eqb steps 0)
  where
    go : (b : Bool) → cond b [] (advance steps ∷ []) ++ cond b [] (replicate n (advance steps)) ≡ cond b [] (advance steps ∷ replicate n (advance steps))
    go true = refl
    go false = refl

pub feed_acts : (p : Printer) → (feed_line p).acts ≡ closing p.row ++ advances 1 p.settings.paper.spacing
feed_acts p = append-nil (closing p.row ++ advances 1 p.settings.paper.spacing)

pub bare_feeds : (n : ℕ) (p : Printer) → Bare p.row → (times n feed_line p).acts ≡ advances n p.settings.paper.spacing
bare_feeds zero p h = sym (no_advances p.settings.paper.spacing)
bare_feeds (suc n) p h =
    let steps : ℕ = p.settings.paper.spacing in
    ap (λ (x : List Act). x ++ (times n feed_line (feed_line p).printer).acts) (feed_acts p ∙ ap (λ (x : List Act). x ++ advances 1 steps) (bare_closing p.row h))
    ∙ ap (λ (x : List Act). advances 1 steps ++ x) (bare_feeds n (feed_line p).printer (bare_blanks (p.settings.margins.left - 1)))
    ∙ more_advances n steps

pub feeds : (n : ℕ) (p : Printer) → (times (suc n) feed_line p).acts ≡ closing p.row ++ advances (suc n) p.settings.paper.spacing
feeds n p =
    let steps : ℕ = p.settings.paper.spacing in
    let rest : List Act = (times n feed_line (feed_line p).printer).acts in
    ap (λ (x : List Act). x ++ rest) (feed_acts p)
    ∙ append_assoc (closing p.row) (advances 1 steps) rest
    ∙ ap (λ (x : List Act). closing p.row ++ (advances 1 steps ++ x)) (bare_feeds n (feed_line p).printer (bare_blanks (p.settings.margins.left - 1)))
    ∙ ap (λ (x : List Act). closing p.row ++ x) (more_advances n steps)

-- as bytes

pub fed : (n : ℕ) (p : Printer) → Reads (between_commands p) (replicate n 0x0A) (times n feed_line p).acts (between_commands (times n feed_line p).printer)
fed zero p = refl
fed (suc n) p = ap (λ (r : Run). followed_by (run_byte (between_commands p) 0x0A) 1 r) (fed n (feed_line p).printer)

once : (n : ℕ) (p : Printer) (s : List ℕ) → Reads (between_commands p) s ((times n feed_line p).acts ++ []) (between_commands (times n feed_line p).printer)
    → run (between_commands p) s ≡ run (between_commands p) (replicate n 0x0A)
once n p s h =
    h ∙ ap (λ (x : List Act). let r : Run = record { acts = x; refusals = []; state = between_commands (times n feed_line p).printer } in r) (append-nil (times n feed_line p).acts)
    ∙ sym (fed n p)

pub feeds_are_line_feeds : FeedsAreLineFeeds
feeds_are_line_feeds p = record {
  vertical_tab = once (lines_to_stop p.settings) p (0x0B ∷ []) refl;
  form_feed = once (lines_to_page p.settings) p (0x0C ∷ []) refl;
  repeated = λ n h. once n p (0x1B ∷ 0x66 ∷ 0x01 ∷ n ∷ []) (rw (le-leb n 127 h));
}

-- a row shows if not all of it is blank

shown : (r : List Cell) (k : ℕ) → k < length r → is_blank (closed_cell (get_or r k Blank)) ≡ false → every is_blank (map closed_cell r) ≡ false
shown [] k h e = absurd (omega arith)
shown (c ∷ r) zero h e = and_left (is_blank (closed_cell c)) (every is_blank (map closed_cell r)) e
shown (c ∷ r) (suc k) h e = and_right (is_blank (closed_cell c)) (every is_blank (map closed_cell r)) (shown r k (omega arith) e)

not_shown : (r : List Cell) → (Shows r → ⊥) → Bare r
not_shown [] f = refl
not_shown (c ∷ r) f = go (is_blank (closed_cell c)) refl (not_shown r (λ w. f (suc w.0, omega (arith, w.1), w.2)))
  where
    go : (b : Bool) → is_blank (closed_cell c) ≡ b → Bare r → (b && every is_blank (map closed_cell r)) ≡ true
    go true e h = h
    go false e h = absurd (f (0, omega arith, e))

pub line_feeds : LineFeeds
line_feeds zero p h = absurd (omega arith)
line_feeds (suc n) p h =
    let steps : ℕ = p.settings.paper.spacing in
    let test : Bool = every is_blank (map closed_cell p.row) in
    record {
      rows = closing p.row;
      advances = advances (suc n) steps;
      in_order = ap (λ (r : Run). r.acts) (fed (suc n) p) ∙ feeds n p;
      row_if_shown = λ w. cond-false test [] (row (padded (map closed_cell p.row)) ∷ []) (shown p.row w.0 w.1 w.2);
      no_row_else = λ f. bare_closing p.row (not_shown p.row f);
      equal_advances = λ k. cond-false (eqb steps 0) [] (replicate (suc n) (advance steps)) (ne_eqb steps 0 (λ e. omega arith));
      no_advance_else = λ e. cond-true (eqb steps 0) [] (replicate (suc n) (advance steps)) (eq-eqb steps 0 e);
    }
