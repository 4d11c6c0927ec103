-- What holds of tabulation and of the line number, in the words of their rules.
use Rattle.std.specs.Prelude.{◌≡◌, ℕ, suc, ◌+◌, ◌-◌, ◌%◌, ◌<◌, ◌≤◌, true, List, [], ◌∷◌, ◌++◌, replicate}
use Rattle.reading.specs.Tests.{one_of}
use Rattle.job.specs.Actions.{Blank}
use Rattle.job.specs.Printer.{Printer, position, with_row}
use Rattle.job.specs.Changes.{rising}
use Rattle.job.specs.Job.{run}
use Rattle.job.specs.CommandLaws.{between_commands}

-- n is the first stop that, counted from an origin, lies beyond a limit
pub record NextStop (origin limit : ℕ) (stops : List ℕ) (n : ℕ) : Type 0 where
  pub is_stop : one_of stops n ≡ true
  pub beyond : limit < origin + n
  pub first : (x : ℕ) → one_of stops x ≡ true → limit < origin + x → n ≤ x

-- HT moves to the first column left + n, n a stop, beyond the position and not beyond the right margin, or does nothing
pub record Tabulates (p : Printer) : Type 0 where
  pub to_stop :
      (n : ℕ) → NextStop p.settings.margins.left (position p) p.settings.horizontal_stops n → p.settings.margins.left + n ≤ p.settings.margins.right
      → (k : ℕ) × (run (between_commands p) (0x09 ∷ []) ≡ record { acts = []; refusals = []; state = between_commands (with_row (p.row ++ replicate k Blank) p) })
      × (position (with_row (p.row ++ replicate k Blank) p) ≡ p.settings.margins.left + n)
  pub else_nothing :
      ((n : ℕ) → NextStop p.settings.margins.left (position p) p.settings.horizontal_stops n → p.settings.margins.left + n ≤ p.settings.margins.right → ⊥)
      → run (between_commands p) (0x09 ∷ []) ≡ record { acts = []; refusals = []; state = between_commands p }

-- of every printer whose stops rise
abbrev pub Tabulation : Type 0
Tabulation = (p : Printer) → rising 0 p.settings.horizontal_stops ≡ true → Tabulates p

-- the line number behind some bytes
abbrev pub line_behind : Printer → List ℕ → ℕ
line_behind p s = (run (between_commands p) s).state.printer.settings.paper.line

-- a line feed adds 1 to the line number, with 1 after the page's last line; VT leads to the next stop within the page or one line on; FF leads to line 1
pub record CountsLines (p : Printer) : Type 0 where
  pub line_feeds : (n : ℕ) → line_behind p (replicate n 0x0A) ≡ suc ((p.settings.paper.line - 1 + n) % p.settings.paper.page)
  pub form_feed : line_behind p (0x0C ∷ []) ≡ 1
  pub vertical_tab :
      (n : ℕ) → NextStop 0 p.settings.paper.line p.settings.vertical_stops n → n ≤ p.settings.paper.page → line_behind p (0x0B ∷ []) ≡ n
  pub else_one_line :
      ((n : ℕ) → NextStop 0 p.settings.paper.line p.settings.vertical_stops n → n ≤ p.settings.paper.page → ⊥)
      → run (between_commands p) (0x0B ∷ []) ≡ run (between_commands p) (0x0A ∷ [])

-- of every printer whose line is on its page and whose stops rise
abbrev pub LinesAreCounted : Type 0
LinesAreCounted =
    (p : Printer) → 1 ≤ p.settings.paper.line → p.settings.paper.line ≤ p.settings.paper.page → rising 0 p.settings.vertical_stops ≡ true
    → CountsLines p
