-- What a page shows of an action.
use Rattle.std.specs.Prelude.{ℕ, ◌/◌, ◌%◌, ◌^◌, List, [], ◌∷◌, ◌++◌, map}
use Rattle.job.specs.declared.cells.Cell.{Cell}
use Rattle.job.specs.declared.cells.Cell.TheVariants.{Blank, Character, Tail}
use Rattle.job.specs.Actions.{Act, row, advance, bars, total_cut, partial_cut, pulse, beep, reply}

-- a number below 2^32 as four bytes, the high one first
abbrev pub four_bytes : ℕ → List ℕ
four_bytes n = n / 2 ^ 24 % 256 ∷ n / 2 ^ 16 % 256 ∷ n / 2 ^ 8 % 256 ∷ n % 256 ∷ []

-- what a column shows; blank and tail are spaces
abbrev pub character_of : Cell → ℕ
character_of Blank = 0x20
character_of (Character code a) = code
character_of (Tail code a) = 0x20

-- a row at an advance count
abbrev pub row_picture : ℕ → List Cell → List ℕ
row_picture advanced cells = four_bytes advanced ++ map character_of cells

-- only rows are shown
abbrev pub picture : ℕ → Act → List ℕ
picture advanced (row cells) = row_picture advanced cells
picture advanced (advance n) = []
picture advanced (bars kind width height shown s) = []
picture advanced total_cut = []
picture advanced partial_cut = []
picture advanced pulse = []
picture advanced beep = []
picture advanced (reply r) = []

-- a row needs 52 bytes, all else nothing
abbrev pub page_need : Act → ℕ
page_need (row cells) = 52
page_need (advance n) = 0
page_need (bars kind width height shown s) = 0
page_need total_cut = 0
page_need partial_cut = 0
page_need pulse = 0
page_need beep = 0
page_need (reply r) = 0
