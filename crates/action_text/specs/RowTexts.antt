-- A row's text, column by column.
use Rattle.std.specs.Prelude.{ℕ, cond, List, [], ◌∷◌, ◌++◌, ◌==◌}
use Rattle.job.specs.declared.cells.Attributes.{Attributes}
use Rattle.job.specs.declared.cells.Cell.{Cell}
use Rattle.job.specs.declared.cells.Cell.TheVariants.{Blank, Character, Tail}
use Rattle.job.specs.Actions.{plain}
use Rattle.job.specs.NormalText.{attribute_change}

-- 1B, a code and a new value, if it is another than the old one
abbrev pub switched : ℕ → ℕ → ℕ → List ℕ
switched code old new = cond (old == new) [] (0x1B ∷ code ∷ new ∷ [])

-- a column, by the attributes in force before it
abbrev pub cell_text : Attributes → Cell → List ℕ
cell_text now Blank = attribute_change now plain ++ 0x20 ∷ []
cell_text now (Character code a) = attribute_change now a ++ code ∷ []
cell_text now (Tail code a) = []

-- the attributes in force behind it
abbrev pub attributes_after : Attributes → Cell → Attributes
attributes_after now Blank = plain
attributes_after now (Character code a) = a
attributes_after now (Tail code a) = now
