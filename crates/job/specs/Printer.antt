-- The printer: its settings and its open row.
use Rattle.std.specs.Prelude.{ℕ, suc, ◌-◌, Bool, true, false, List, [], ◌∷◌, length, replicate}
use Rattle.job.specs.Actions.{Attributes, plain, Cell, Blank}
pub use Rattle.job.specs.declared.settings.Margins.{Margins}
pub use Rattle.job.specs.declared.settings.Paper.{Paper}
pub use Rattle.job.specs.declared.settings.Cutter.{Cutter}

-- what commands set
pub record Settings : Type 0 where
  pub attributes : Attributes
  -- characters are wide until the row is closed or cancelled
  pub one_line_width : Bool
  pub margins : Margins
  -- horizontal stops count from the left margin
  pub horizontal_stops : List ℕ
  pub vertical_stops : List ℕ
  pub paper : Paper
  pub cutter : Cutter

-- settings and open row
pub record Printer : Type 0 where
  pub settings : Settings
  -- the columns of the open row before the position; those from the position on are unset
  pub row : List Cell

-- the column where the next character is put
abbrev pub position : Printer → ℕ
position p = suc (length p.row)

-- settings with one of them replaced:

-- other attributes
abbrev pub with_attributes : Attributes → Settings → Settings
with_attributes v s = record { attributes = v; one_line_width = s.one_line_width; margins = s.margins; horizontal_stops = s.horizontal_stops; vertical_stops = s.vertical_stops; paper = s.paper; cutter = s.cutter }

-- one-line width on or off
abbrev pub with_one_line_width : Bool → Settings → Settings
with_one_line_width v s = record { attributes = s.attributes; one_line_width = v; margins = s.margins; horizontal_stops = s.horizontal_stops; vertical_stops = s.vertical_stops; paper = s.paper; cutter = s.cutter }

-- other margins
abbrev pub with_margins : Margins → Settings → Settings
with_margins v s = record { attributes = s.attributes; one_line_width = s.one_line_width; margins = v; horizontal_stops = s.horizontal_stops; vertical_stops = s.vertical_stops; paper = s.paper; cutter = s.cutter }

-- other horizontal stops
abbrev pub with_horizontal_stops : List ℕ → Settings → Settings
with_horizontal_stops v s = record { attributes = s.attributes; one_line_width = s.one_line_width; margins = s.margins; horizontal_stops = v; vertical_stops = s.vertical_stops; paper = s.paper; cutter = s.cutter }

-- other vertical stops
abbrev pub with_vertical_stops : List ℕ → Settings → Settings
with_vertical_stops v s = record { attributes = s.attributes; one_line_width = s.one_line_width; margins = s.margins; horizontal_stops = s.horizontal_stops; vertical_stops = v; paper = s.paper; cutter = s.cutter }

-- another spacing, page or line number
abbrev pub with_paper : Paper → Settings → Settings
with_paper v s = record { attributes = s.attributes; one_line_width = s.one_line_width; margins = s.margins; horizontal_stops = s.horizontal_stops; vertical_stops = s.vertical_stops; paper = v; cutter = s.cutter }

-- another cutter
abbrev pub with_cutter : Cutter → Settings → Settings
with_cutter v s = record { attributes = s.attributes; one_line_width = s.one_line_width; margins = s.margins; horizontal_stops = s.horizontal_stops; vertical_stops = s.vertical_stops; paper = s.paper; cutter = v }

-- a printer with its row replaced, or its settings changed:

-- another open row
abbrev pub with_row : List Cell → Printer → Printer
with_row r p = record { settings = p.settings; row = r }

-- settings changed by a function
abbrev pub change : (Settings → Settings) → Printer → Printer
change f p = record { settings = f p.settings; row = p.row }

-- attributes changed by a function
abbrev pub change_attributes : (Attributes → Attributes) → Printer → Printer
change_attributes f = change (λ s. with_attributes (f s.attributes) s)

-- margins changed by a function
abbrev pub change_margins : (Margins → Margins) → Printer → Printer
change_margins f = change (λ s. with_margins (f s.margins) s)

-- spacing, page or line number changed by a function
abbrev pub change_paper : (Paper → Paper) → Printer → Printer
change_paper f = change (λ s. with_paper (f s.paper) s)

-- the row is empty, the position is the left margin and one-line width ends
abbrev pub emptied : Printer → Printer
emptied p = with_row (replicate (p.settings.margins.left - 1) Blank) (change (with_one_line_width false) p)

-- so many columns, all between the margins
abbrev pub margins_of : ℕ → Margins
margins_of n = record { columns = n; left = 1; right = n }

-- after a reset, with this paper and cutter
abbrev pub reset_settings : Paper → Cutter → Settings
reset_settings paper cutter = record {
  attributes = plain;
  one_line_width = false;
  margins = margins_of 48;
  horizontal_stops = 8 ∷ 16 ∷ 24 ∷ 32 ∷ 40 ∷ [];
  vertical_stops = [];
  paper = paper;
  cutter = cutter;
}

-- a reset cancels the row and keeps spacing, page, line number and cutter
abbrev pub reset_printer : Printer → Printer
reset_printer p = emptied (change (λ s. reset_settings s.paper s.cutter) p)

-- a new printer but for its line number: the cutter is on, for total cuts with no line before them
abbrev pub new_printer_at : ℕ → Printer
new_printer_at line = record {
  settings = reset_settings (record { spacing = 25; page = 66; line = line }) (record { on = true; partial = false; lines = 0 });
  row = [];
}
