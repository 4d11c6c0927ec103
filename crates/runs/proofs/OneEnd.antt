-- A feed has one end.
use Rattle.std.proofs.Common.{◌≡◌, ℕ, List, [], ◌∷◌, Err, refl, ap, subst}
use Rattle.reading.specs.declared.Refusal.{Refusal}
use Rattle.job.specs.Actions.{Act}
use Rattle.job.specs.Job.{State, step}
use Rattle.mechanism.specs.declared.fault.Fault.{Fault}
use Rattle.mechanism.specs.declared.mechanism.Mechanism.{Ghosts}
use Rattle.runs.specs.Outcomes.{Command, Mechanism, refused_at_once}
use Rattle.runs.specs.Feeds.{End, ended, later, FeedsTo, takes, stuck, reads, refused, ends}
use Rattle.runs.proofs.Counts.{never_both, same_fault}

module _ {S : Type 0} (g : Ghosts S) (one : (m : S) (a : Act) (n p : S) → g.took m a n → g.took m a p → n ≡ p) where
  pub one_end : (owed : List Act) (st : State) (m : S) (bs : List ℕ) (e f : End S) → FeedsTo g owed st m bs e → FeedsTo g owed st m bs f → e ≡ f
  one_end _ st m bs e f (takes {a} {more} {n = n} t d) (takes {n = p} u h) =
      let P : S → Type 0 = λ x. FeedsTo g more st x bs f in
      one_end more st n bs e f d (subst P (one m a p n u.1 t.1) h)
  one_end _ st m bs e f (takes {a} t d) (stuck {f = x} y) = absurd (never_both (g.need a) (g.reserve m) (g.stopped m) a x t.0 y)
  one_end _ st m bs e f (stuck {a} {f = x} y) (takes t d) = absurd (never_both (g.need a) (g.reserve m) (g.stopped m) a x t.0 y)
  one_end _ st m bs e f (stuck {a} {more} {f = x} y) (stuck {f = z} w) =
      ap (λ (i : Fault). ended 0 (Err (Mechanism i)) (a ∷ more) st m) (same_fault (g.need a) (g.reserve m) (g.stopped m) a x z y w)
  one_end _ st m _ e f (reads {b = b} {piece = bs} {e = i} x d) (reads {e = j} y h) =
      ap (later 1) (one_end (step st b).acts (step st b).next m bs i j d h)
  one_end _ st m _ e f (reads {b = b} x d) (refused {why = why} y) = absurd cc
  one_end _ st m _ e f (refused {why = why} y) (reads {b = b} x d) = absurd cc
  one_end _ st m _ e f (refused {b = b} {why = why} x) (refused {why = other} y) =
      ap (λ (w : Refusal). ended 1 (Err (Command (refused_at_once st.reading w))) [] (step st b).next m) (let same : why ≡ other = cc in same)
  one_end _ st m _ e f ends ends = refl
