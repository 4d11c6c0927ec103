-- The open row: its columns, its end, tabulation and deletion.
use Rattle.std.specs.Prelude.{ℕ, ◌+◌, ◌-◌, Bool, true, false, cond, not, ◌&&◌, ◌||◌, List, [], ◌∷◌, ◌++◌, map, length, take, replicate, ◌==◌, nat_le, nat_lt, slice_index_or}
use Rattle.reading.specs.Tests.{every}
use Rattle.job.specs.Actions.{Attributes, Cell, Blank, Character, Tail, Act, row}
use Rattle.job.specs.Printer.{Printer, Settings, position, with_row, change_margins}

-- a space without underline
abbrev pub is_invisible : ℕ → Attributes → Bool
is_invisible code a = code == 0x20 && not a.underlined

-- what becomes of a column when the row is closed: a space without underline, and its tail, becomes blank
abbrev pub closed_cell : Cell → Cell
closed_cell Blank = Blank
closed_cell (Character code a) = cond (is_invisible code a) Blank (Character code a)
closed_cell (Tail code a) = cond (is_invisible code a) Blank (Tail code a)

-- nothing stands in the column
abbrev pub is_blank : Cell → Bool
is_blank Blank = true
is_blank (Character code a) = false
is_blank (Tail code a) = false

-- the second column of a wide character
abbrev pub is_tail : Cell → Bool
is_tail Blank = false
is_tail (Character code a) = false
is_tail (Tail code a) = true

-- all 48 columns, the unset ones blank
abbrev pub padded : List Cell → List Cell
padded cells = cells ++ replicate (48 - length cells) Blank

-- what closing a row orders: the row, if a column is not blank
abbrev pub closing : List Cell → List Act
closing cells =
    let closed : List Cell = map closed_cell cells in
    cond (every is_blank closed) [] (row (padded closed) ∷ [])

-- the columns of a character
abbrev pub cells_of : ℕ → Attributes → List Cell
cells_of code a = Character code a ∷ cond a.wide (Tail code a ∷ []) []

-- how many columns a character with these attributes fills
abbrev pub width_of : Attributes → ℕ
width_of a = cond a.wide 2 1

-- the attributes of the next character; a space that is not typed takes no underline
abbrev pub next_attributes : Bool → Settings → Attributes
next_attributes typed s = record {
  emphasised = s.attributes.emphasised;
  tall = s.attributes.tall;
  wide = s.one_line_width || s.attributes.wide;
  underlined = typed && s.attributes.underlined;
  italic = s.attributes.italic;
}

-- the next character ends within the right margin
abbrev pub fits : Bool → Printer → Bool
fits typed p = nat_le (length p.row + width_of (next_attributes typed p.settings)) p.settings.margins.right

-- the character put at the position
abbrev pub with_character : Bool → ℕ → Printer → Printer
with_character typed code p = with_row (p.row ++ cells_of code (next_attributes typed p.settings)) p

-- the first of a rising list that, counted from an origin, lies beyond a limit; 0 if there is none
abbrev pub next_beyond : ℕ → ℕ → List ℕ → ℕ
next_beyond origin limit [] = 0
next_beyond origin limit (x ∷ xs) = cond (nat_lt limit (origin + x)) (origin + x) (next_beyond origin limit xs)

-- HT: to the next stop within the right margin, if there is one
abbrev pub tabbed : Printer → Printer
tabbed p =
    let column : ℕ = next_beyond p.settings.margins.left (position p) p.settings.horizontal_stops in
    cond (nat_lt (position p) column && nat_le column p.settings.margins.right)
    (with_row (p.row ++ replicate (column - position p) Blank) p)
    p

-- how many columns the last column's character fills
abbrev pub last_width : List Cell → ℕ
last_width cells = cond (is_tail (slice_index_or cells (length cells - 1) Blank)) 2 1

-- DEL: if the column before the position is not left of the margin, it is unset, with all of its character
abbrev pub deleted : Printer → Printer
deleted p =
    cond (nat_le p.settings.margins.left (length p.row))
    (with_row (take (length p.row - last_width p.row) p.row) p)
    p

-- a new left margin moves the position only if no column is set and the position was the old left margin
abbrev pub left_margin_at : ℕ → Printer → Printer
left_margin_at n p =
    let q : Printer = change_margins (λ m. record { columns = m.columns; left = n; right = m.right }) p in
    cond (every is_blank p.row && position p == p.settings.margins.left) (with_row (replicate (n - 1) Blank) q) q
