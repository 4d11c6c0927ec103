-- Actions owed are offered, one after the other.
use Rattle.std.proofs.Common.{◌≡◌, List, [], ◌∷◌, ◌++◌, Ok, Err, sym, refl, ap, ◌∙◌, subst, append_assoc}
use Rattle.job.specs.Actions.{Act}
use Rattle.mechanism.specs.declared.fault.Fault.{Fault}
use Rattle.mechanism.specs.declared.mechanism.Mechanism.{Ghosts}
use Rattle.mechanism.specs.Refusals.{Barred}
use Rattle.mechanism.specs.Mechanisms.{Taken}
use Rattle.runs.specs.Offers.{Chain, Settled}

module _ {S : Type 0} (took : S → Act → S → Type 0) where
  chain_push : (done : List Act) (a : Act) (m n p : S) → Chain took m done n → took n a p → Chain took m (done ++ a ∷ []) p
  chain_push [] a m n p e t = let P : S → Type 0 = λ x. took x a p in (p, subst P (sym e) t, refl)
  chain_push (b ∷ done) a m n p (q, u, c) t = (q, u, chain_push done a q n p c t)

module _ {S : Type 0} (g : Ghosts S) where
  -- some of the actions owed are taken, and these are left
  unfoldable pub Settling : List Act → S → List Act → S → Type 0
  Settling owed m left n = (done : List Act) × (owed ≡ done ++ left) × Chain (Taken g.reserve g.stopped g.need g.took) m done n

  pub settling_none : (owed : List Act) (m : S) → Settling owed m owed m
  unfolding Settling
  settling_none owed m = ([], refl, refl)

  pub settling_more : (owed left more : List Act) (a : Act) (m n p : S) → Settling owed m left n → left ≡ a ∷ more
      → Taken g.reserve g.stopped g.need g.took n a p → Settling owed m more p
  unfolding Settling
  settling_more owed left more a m n p (done, is, chain) next t = (
    done ++ a ∷ [],
    is ∙ ap (λ (l : List Act). done ++ l) next ∙ sym (append_assoc done (a ∷ []) more),
    chain_push (Taken g.reserve g.stopped g.need g.took) done a m n p chain t,
  )

  pub settling_ends : (owed left : List Act) (m n : S) → Settling owed m left n → left ≡ [] → Settled g owed m (Ok tt) left n
  unfolding Settling
  settling_ends owed left m n (done, is, chain) none = (done, is, chain, none)

  pub settling_stuck : (owed left more : List Act) (a : Act) (m n : S) (f : Fault) → Settling owed m left n → left ≡ a ∷ more
      → Barred (g.need a) (g.reserve n) (g.stopped n) a f → Settled g owed m (Err f) left n
  unfolding Settling
  settling_stuck owed left more a m n f (done, is, chain) next b = (done, is, chain, (a, more, next, b))
