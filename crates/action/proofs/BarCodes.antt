-- Bar codes that are accepted.
use Rattle.std.proofs.Common.{◌≡◌, ℕ, Bool, List, Some, Option, Ok, ap, ◌∙◌}
use Rattle.job.specs.declared.bars.BarKind.{BarKind}
use Rattle.job.specs.Actions.{bars}
use Rattle.job.specs.BarCodes.{verdict}
use Rattle.job.specs.Orderable.{Orderable}
use Rattle.job.proofs.Simple.{known}
use Rattle.action.specs.declared.bars.BarSize.{BarSize}

pub accepted_orderable : (kind : BarKind) (size : BarSize) (shown : Bool) (s t : List ℕ) → t ≡ s → verdict (Some kind) s ≡ Ok tt
    → Orderable (bars kind size.width size.height shown t)
accepted_orderable kind size shown s t e v = (
  size.widths.0,
  size.widths.1,
  size.heights.0,
  size.heights.1,
  ap (λ (k : Option BarKind). verdict k t) (known kind) ∙ (ap (λ (x : List ℕ). verdict (Some kind) x) e ∙ v),
)
