-- The exit of a `?`.
use Rattle.std.proofs.Common.{◌≡◌, IsErrAnd, Ok, Err, Result, sym, subst}

pub at_exit : {T E : Type 0} (P : Result T E → Type 0) (r : Result T E) (f : E) → IsErrAnd r (λ y. y ≡ f) → P (Err f) → P r
at_exit P (Ok x) f h p = absurd h
at_exit {T} {E} P (Err y) f h p = let Q : E → Type 0 = λ x. P (Err x) in subst Q (sym h) p
