-- Row, line and page: closing a row, advancing the paper, line feeds, and characters that wrap.
use Rattle.std.specs.Prelude.{ℕ, suc, ◌+◌, ◌-◌, Bool, cond, ◌&&◌, [], ◌∷◌, ◌==◌, nat_le, nat_lt}
use Rattle.job.specs.Actions.{advance}
use Rattle.job.specs.Printer.{Printer, Settings, Paper, change_paper, emptied}
use Rattle.job.specs.Row.{closing, fits, with_character, next_beyond}
use Rattle.job.specs.Effects.{Effect, quiet, ◌then◌, times}

-- close the row
abbrev pub close : Printer → Effect
close p = record { acts = closing p.row; printer = emptied p }

-- an advance of 0 is not ordered
abbrev pub advance_by : ℕ → Printer → Effect
advance_by n p = record { acts = cond (n == 0) [] (advance n ∷ []); printer = p }

-- behind the page's last line comes line 1
abbrev pub next_line : Paper → Paper
next_line q = record { spacing = q.spacing; page = q.page; line = cond (q.line == q.page) 1 (q.line + 1) }

-- close the row, advance by the spacing, and count the line
abbrev pub feed_line : Printer → Effect
feed_line p = close p then advance_by p.settings.paper.spacing then (λ q. quiet (change_paper next_line q))

-- close the row, then so many line feeds
abbrev pub close_and_feed : ℕ → Printer → Effect
close_and_feed n p = close p then times n feed_line

-- put a character; a line feed comes first if it would pass the right margin
abbrev pub put : Bool → ℕ → Printer → Effect
put typed code p = cond (fits typed p) (quiet (with_character typed code p)) (feed_line p then (λ q. quiet (with_character typed code q)))

-- line feeds to the next vertical stop within the page, or one
abbrev pub lines_to_stop : Settings → ℕ
lines_to_stop s =
    let stop : ℕ = next_beyond 0 s.paper.line s.vertical_stops in
    cond (nat_lt s.paper.line stop && nat_le stop s.paper.page) (stop - s.paper.line) 1

-- line feeds to the top of the next page: one, and more until line 1
abbrev pub lines_to_page : Settings → ℕ
lines_to_page s = suc (s.paper.page - s.paper.line)
