-- What a stream orders.
use Rattle.std.specs.Prelude.{ℕ, Bool, false, List}
use Rattle.reading.specs.declared.Reply.{Reply}
pub use Rattle.job.specs.declared.cells.Attributes.{Attributes}
pub use Rattle.job.specs.declared.cells.Cell.{Cell}
pub use Rattle.job.specs.declared.cells.Cell.TheVariants.{Blank, Character, Tail}
pub use Rattle.job.specs.declared.bars.BarKind.{BarKind}

-- all five attributes off
abbrev pub plain : Attributes
plain = record { emphasised = false; tall = false; wide = false; underlined = false; italic = false }

-- an action: what the mechanism is to do
pub data Act : Type 0 where
  -- print the columns of a row
  row : List Cell → Act
  -- move the paper on by so many steps
  advance : ℕ → Act
  -- print a bar code: its kind, the width of its modules, its height, whether its string is shown below it, its string
  bars : BarKind → ℕ → ℕ → Bool → List ℕ → Act
  total_cut partial_cut : Act
  -- pulse the drawer; beep
  pulse beep : Act
  reply : Reply → Act
