-- What holds of single commands, in the words of their rules.
use Rattle.std.specs.Prelude.{◌≡◌, ℕ, ◌+◌, ◌<◌, ◌≤◌, true, false, List, [], ◌∷◌, ◌++◌, map, length, replicate, pos, Some, slice_index_or}
use Rattle.std.specs.List.{AllByRecursion}
use Rattle.reading.specs.declared.Refusal.{Refusal}
use Rattle.reading.specs.Reading.{text, is_text, reading_after}
use Rattle.reading.specs.Unfinished.{begun}
use Rattle.job.specs.Actions.{Cell, Blank, Act, row, advance, bars, total_cut, partial_cut, pulse, beep, reply}
use Rattle.job.specs.Printer.{Settings, Printer, position, with_one_line_width, with_margins, with_cutter, with_row, margins_of, reset_settings}
use Rattle.job.specs.Row.{closed_cell, is_blank, padded, cells_of, width_of, next_attributes, fits}
use Rattle.job.specs.Configuration.{body_in_range, body_settings}
use Rattle.job.specs.Lines.{lines_to_stop, lines_to_page}
use Rattle.job.specs.Commands.{cut_of}
use Rattle.job.specs.Job.{State, Run, step, run, followed_by}

-- an interpreter between two commands
abbrev pub between_commands : Printer → State
between_commands p = record { reading = text; printer = p }

-- line feeds

-- a column of the open row is not blank once the row is closed
abbrev pub Shows : List Cell → Type 0
Shows r = (k : ℕ) × (k < length r) × (is_blank (closed_cell (slice_index_or r k Blank)) ≡ false)

-- the closed row if a column is not blank, and then so many equal advances unless the spacing is 0
pub record FeedsOrder (n : ℕ) (p : Printer) (acts : List Act) : Type 0 where
  pub rows : List Act
  pub advances : List Act
  pub in_order : acts ≡ rows ++ advances
  pub row_if_shown : Shows p.row → rows ≡ row (padded (map closed_cell p.row)) ∷ []
  pub no_row_else : (Shows p.row → ⊥) → rows ≡ []
  pub equal_advances : 1 ≤ p.settings.paper.spacing → advances ≡ replicate n (advance p.settings.paper.spacing)
  pub no_advance_else : p.settings.paper.spacing ≡ 0 → advances ≡ []

-- n line feeds, one or more
abbrev pub LineFeeds : Type 0
LineFeeds = (n : ℕ) (p : Printer) → 1 ≤ n → FeedsOrder n p (run (between_commands p) (replicate n 0x0A)).acts

-- VT, FF and 1B 66 01 n do what as many line feeds do
pub record FeedsLines (p : Printer) : Type 0 where
  pub vertical_tab : run (between_commands p) (0x0B ∷ []) ≡ run (between_commands p) (replicate (lines_to_stop p.settings) 0x0A)
  pub form_feed : run (between_commands p) (0x0C ∷ []) ≡ run (between_commands p) (replicate (lines_to_page p.settings) 0x0A)
  pub repeated : (n : ℕ) → n ≤ 127 → run (between_commands p) (0x1B ∷ 0x66 ∷ 0x01 ∷ n ∷ []) ≡ run (between_commands p) (replicate n 0x0A)

-- of every printer
abbrev pub FeedsAreLineFeeds : Type 0
FeedsAreLineFeeds = (p : Printer) → FeedsLines p

-- one byte

-- neither a row nor an advance
abbrev pub Other : Act → Type 0
Other (row cells) = ⊥
Other (advance n) = ⊥
Other (bars kind width height shown s) = Unit {0}
Other total_cut = Unit {0}
Other partial_cut = Unit {0}
Other pulse = Unit {0}
Other beep = Unit {0}
Other (reply r) = Unit {0}

-- at most one row, then equal advances, then at most one other action
pub record InOrder (acts : List Act) : Type 0 where
  pub rows : List (List Cell)
  pub count : ℕ
  pub steps : ℕ
  pub others : List Act
  pub parts : acts ≡ map row rows ++ (replicate count (advance steps) ++ others)
  pub one_row : length rows ≤ 1
  pub one_other : length others ≤ 1
  pub no_more : AllByRecursion Other others

-- everything that one byte orders
abbrev pub OneByteOrders : Type 0
OneByteOrders = (st : State) (b : ℕ) → InOrder (step st b).acts

-- refused commands

-- the first bytes of a command, all of which an unfinished command keeps
abbrev pub BeginsACommand : List ℕ → Type 0
BeginsACommand c = begun (reading_after text c) ≡ c

-- a command that is refused at the byte behind its first ones orders nothing and leaves the printer as it was,
-- is reported at the place of its first byte, and what follows it does what it does by itself
abbrev pub RefusedCommandsArePassedOver : Type 0
RefusedCommandsArePassedOver =
    (p : Printer) (c : List ℕ) (b : ℕ) (why : Refusal) (t : List ℕ) → BeginsACommand c
    → (step (record { reading = reading_after text c; printer = p }) b).refusal ≡ Some why
    → run (between_commands p) (c ++ b ∷ t)
    ≡ followed_by (record { acts = []; refusals = (why, pos 0) ∷ []; state = between_commands p }) (length (c ++ b ∷ [])) (run (between_commands p) t)

-- cancelling and deleting

-- the row is empty and the position is the left margin; one-line width is off
pub record RowIsEmpty (p : Printer) : Type 0 where
  pub no_column : Shows p.row → ⊥
  pub at_margin : position p ≡ p.settings.margins.left
  pub one_line_off : p.settings.one_line_width ≡ false

-- these bytes order nothing, refuse nothing, and leave an empty row, whatever stood in it, and these settings
pub record Cancels (p : Printer) (s : List ℕ) (settings : Settings) : Type 0 where
  pub after : Printer
  pub quietly : run (between_commands p) s ≡ record { acts = []; refusals = []; state = between_commands after }
  pub empty : RowIsEmpty after
  pub left_as : after.settings ≡ settings

-- CAN, reset and an accepted body cancel the row
pub record Cancelled (p : Printer) : Type 0 where
  pub by_cancel : Cancels p (0x18 ∷ []) (with_one_line_width false p.settings)
  pub by_reset : Cancels p (0x1B ∷ 0x40 ∷ []) (reset_settings p.settings.paper p.settings.cutter)
  pub by_body :
      (bs : List ℕ) → length bs ≡ 40 → body_in_range bs ≡ true
      → Cancels p (0x1B ∷ 0xC6 ∷ bs)
      (with_one_line_width false (with_cutter (body_settings bs).cutter (with_margins (margins_of (body_settings bs).columns) p.settings)))

-- of every printer whose left margin is a column
abbrev pub CancellingOrdersNothing : Type 0
CancellingOrdersNothing = (p : Printer) → 1 ≤ p.settings.margins.left → Cancelled p

-- DEL takes back the character before the position, with both columns of a wide one, steps over an unset column, and does nothing left of the margin
pub record Deletes (p : Printer) : Type 0 where
  pub takes_back :
      (code : ℕ) → is_text code ≡ true → fits true p ≡ true → p.settings.margins.left ≤ position p
      → run (between_commands p) (code ∷ 0x7F ∷ []) ≡ record { acts = []; refusals = []; state = between_commands p }
  pub steps_over :
      (r : List Cell) → p.row ≡ r ++ Blank ∷ [] → p.settings.margins.left ≤ length p.row
      → run (between_commands p) (0x7F ∷ []) ≡ record { acts = []; refusals = []; state = between_commands (with_row r p) }
  pub stops_at_margin :
      length p.row < p.settings.margins.left
      → run (between_commands p) (0x7F ∷ []) ≡ record { acts = []; refusals = []; state = between_commands p }

-- of every printer
abbrev pub DeletingTakesBack : Type 0
DeletingTakesBack = (p : Printer) → Deletes p

-- typing

-- a character is put at the position; if it would pass the right margin, a line feed comes first and it takes the width then in force
pub record Types (p : Printer) (code : ℕ) : Type 0 where
  pub within :
      length p.row + width_of (next_attributes true p.settings) ≤ p.settings.margins.right
      → run (between_commands p) (code ∷ [])
      ≡ record { acts = []; refusals = []; state = between_commands (with_row (p.row ++ cells_of code (next_attributes true p.settings)) p) }
  pub beyond :
      p.settings.margins.right < length p.row + width_of (next_attributes true p.settings)
      → run (between_commands p) (code ∷ []) ≡ run (between_commands p) (0x0A ∷ code ∷ [])

-- of every text byte, and every printer whose margins stand apart
abbrev pub Typing : Type 0
Typing =
    (p : Printer) (code : ℕ) → is_text code ≡ true → 1 ≤ p.settings.margins.left → p.settings.margins.left + 2 < p.settings.margins.right
    → Types p code

-- 1B 66 00 n does what n spaces do that are not underlined
abbrev pub RepeatedSpaces : Type 0
RepeatedSpaces =
    (p : Printer) (n : ℕ) → n ≤ 127 → p.settings.attributes.underlined ≡ false
    → run (between_commands p) (0x1B ∷ 0x66 ∷ 0x00 ∷ n ∷ []) ≡ run (between_commands p) (replicate n 0x20)

-- cutting

-- with the cutter on, a cut closes the row, makes the line feeds before a cut and orders the cut; with the cutter off, it does nothing
pub record Cuts (p : Printer) : Type 0 where
  pub on :
      p.settings.cutter.on ≡ true
      → run (between_commands p) (0x1B ∷ 0x6D ∷ [])
      ≡ (let r : Run = run (between_commands p) (0x1B ∷ 0x4A ∷ 0x00 ∷ replicate p.settings.cutter.lines 0x0A) in
      record { acts = r.acts ++ cut_of p.settings.cutter ∷ []; refusals = r.refusals; state = r.state })
  pub off : p.settings.cutter.on ≡ false → run (between_commands p) (0x1B ∷ 0x6D ∷ []) ≡ record { acts = []; refusals = []; state = between_commands p }

-- of every printer
abbrev pub Cutting : Type 0
Cutting = (p : Printer) → Cuts p
