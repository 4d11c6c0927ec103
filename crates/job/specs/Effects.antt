-- Effects on the printer, and how they follow each other.
use Rattle.std.specs.Prelude.{ℕ, zero, suc, List, [], ◌∷◌, ◌++◌}
use Rattle.job.specs.Actions.{Act}
use Rattle.job.specs.Printer.{Printer}

-- what was ordered, and the printer after it
pub record Effect : Type 0 where
  pub acts : List Act
  pub printer : Printer

-- orders nothing
abbrev pub quiet : Printer → Effect
quiet p = record { acts = []; printer = p }

-- orders one action
abbrev pub order : Act → Printer → Effect
order a p = record { acts = a ∷ []; printer = p }

-- one effect, then another on the printer that it leaves
infixl 40 ◌then◌
abbrev pub ◌then◌ : Effect → (Printer → Effect) → Effect
e then f = let g : Effect = f e.printer in record { acts = e.acts ++ g.acts; printer = g.printer }

-- the same effect so many times
abbrev pub times : ℕ → (Printer → Effect) → Printer → Effect
times zero f p = quiet p
times (suc n) f p = f p then times n f
