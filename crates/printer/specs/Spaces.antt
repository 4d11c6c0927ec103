-- Spaces that are not underlined, one after another.
use Rattle.std.specs.Prelude.{◌≡◌, ℕ, ◌+◌, false, cond, List, MatchBool, ◌==◌}
use Rattle.job.specs.Actions.{Act}
use Rattle.job.specs.Printer.{Printer}
use Rattle.job.specs.Row.{fits, closing}
use Rattle.job.specs.Effects.{Effect}
use Rattle.job.specs.Lines.{put}

-- a space that is not underlined
abbrev pub space : Printer → Effect
space = put false 0x20

-- a line feed that comes first is counted; what the first one closes is kept
pub record SpacePut (b : Printer) (rows : List Act) (feeds : ℕ) (after : Printer) (rows_after : List Act) (feeds_after : ℕ) : Type 0 where
  pub moved : after ≡ (space b).printer
  pub counted :
      MatchBool (fits false b) ((rows_after ≡ rows) × (feeds_after ≡ feeds))
      ((rows_after ≡ cond (feeds == 0) (closing b.row) rows) × (feeds_after ≡ feeds + 1))
