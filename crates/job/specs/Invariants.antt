-- What always holds of an interpreter.
use Rattle.std.specs.Prelude.{◌≡◌, ℕ, ◌+◌, ◌<◌, ◌≤◌, true, List, length}
use Rattle.reading.specs.Tests.{between, every}
use Rattle.reading.specs.Reading.{is_text}
use Rattle.reading.specs.Unfinished.{begun}
use Rattle.job.specs.Actions.{Attributes, Cell}
use Rattle.job.specs.Printer.{Margins, Paper, Settings}
use Rattle.job.specs.Changes.{rising}
use Rattle.job.specs.Job.{State, run, new}
use Rattle.job.specs.Orderable.{LaidOut}
use Rattle.job.specs.Laws.{Bytes}

-- left < right − 2, right ≤ columns
pub record MarginsHold (m : Margins) : Type 0 where
  pub first : 1 ≤ m.left
  pub apart : m.left + 2 < m.right
  pub within : m.right ≤ m.columns
  pub at_most : m.columns ≤ 48

-- at most so many stops, rising, from 1 to a limit
pub record StopsHold (most limit : ℕ) (stops : List ℕ) : Type 0 where
  pub few : length stops ≤ most
  pub rise : rising 0 stops ≡ true
  pub in_reach : every (between 1 limit) stops ≡ true

-- a spacing of one byte, a line number from 1 to the page length
pub record PaperHolds (q : Paper) : Type 0 where
  pub byte : q.spacing ≤ 255
  pub first : 1 ≤ q.line
  pub on_page : q.line ≤ q.page
  pub at_most : q.page ≤ 127

-- a character of the open row is a text byte
abbrev pub TextCharacter : ℕ → Attributes → Type 0
TextCharacter code a = is_text code ≡ true

-- the columns before the position: a tail exactly behind each wide character, none beyond the last column
pub record RowHolds (columns : ℕ) (r : List Cell) : Type 0 where
  pub laid_out : LaidOut TextCharacter r
  pub within : length r ≤ columns

-- all settings that have bounds
pub record SettingsHold (s : Settings) : Type 0 where
  pub margins : MarginsHold s.margins
  pub horizontal : StopsHold 8 47 s.horizontal_stops
  pub vertical : StopsHold 16 127 s.vertical_stops
  pub paper : PaperHolds s.paper
  pub cutter : s.cutter.lines ≤ 20

-- settings, open row, and at most 41 bytes of an unfinished command
pub record Holds (st : State) : Type 0 where
  pub settings : SettingsHold st.printer.settings
  pub row : RowHolds st.printer.settings.margins.columns st.printer.row
  pub unfinished : length (begun st.reading) ≤ 41

-- behind every stream of bytes
abbrev pub AlwaysHolds : Type 0
AlwaysHolds = (s : List ℕ) → Bytes s → Holds (run new s).state
