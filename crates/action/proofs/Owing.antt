-- Advances that are owed.
use Rattle.std.proofs.Common.{◌≡◌, ℕ, ◌≤◌, false, List, [], ◌++◌, length, is_none, Some, None, Option, ap, arith, length-append}
use lib.ListN.{length-replicate}
use Rattle.job.specs.Actions.{Act}
use Rattle.action.specs.declared.advances.Advances.{Advances}
use Rattle.action.specs.declared.owed.Owed.{Owed}
use Rattle.action.specs.Meanings.{advance_act, advances_acts}
use Rattle.action.specs.Owed.{owed_acts, owed_row, owed_other}

some_advances : (a : Option Advances) → is_none a ≡ false → 1 ≤ length (advances_acts a)
some_advances None h = let z : ◌≡◌ {A = ℕ} 0 1 = cc in absurd (omega arith)
some_advances (Some a) h = omega (arith, length-replicate a.count (advance_act a.steps), a.some)

pub advances_owed : (o : Owed) → is_none o.advances ≡ false → owed_acts o ≡ [] → ⊥
advances_owed o h e =
    omega (arith, some_advances o.advances h, ap (λ (xs : List Act). length xs) e, length-append (owed_row o) (advances_acts o.advances ++ owed_other o), length-append (advances_acts o.advances) (owed_other o))
