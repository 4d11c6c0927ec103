-- What a part of a stream is.
use Rattle.std.specs.Prelude.{ℕ}

-- text, a single byte that is a whole command, a complete command, a refused one, an unfinished one
pub data Kind : Type 0 where
  Text : Kind
  Control : Kind
  Command : Kind
  Refused : Kind
  Unfinished : Kind

-- the kind of the part that some bytes begin with, and how many of them it has
pub record Extent : Type 0 where
  pub kind : Kind
  pub count : ℕ
