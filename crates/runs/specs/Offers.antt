-- Actions offered to a mechanism, one after the other.
use Rattle.std.specs.Prelude.{◌≡◌, ℕ, List, [], ◌∷◌, ◌++◌, Ok, Err, Result}
use Rattle.job.specs.Actions.{Act}
use Rattle.mechanism.specs.declared.fault.Fault.{Fault}
use Rattle.mechanism.specs.declared.mechanism.Mechanism.{Ghosts}
use Rattle.mechanism.specs.Refusals.{Barred}
use Rattle.mechanism.specs.Mechanisms.{Taken}

-- from one state of a mechanism to another, by the actions taken between them, in order
abbrev pub Chain : {S : Type 0} → (S → Act → S → Type 0) → S → List Act → S → Type 0
Chain took m [] n = m ≡ n
Chain {S} took m (a ∷ more) n = (p : S) × took m a p × Chain took p more n

-- the sheet that the rule makes of a sheet, action by action
abbrev pub along : (List ℕ → Act → List ℕ) → List ℕ → List Act → List ℕ
along rule sheet [] = sheet
along rule sheet (a ∷ more) = along rule (rule sheet a) more

-- nothing is left, or the first of what is left is refused as the fault says
abbrev pub Left : {S : Type 0} → Ghosts S → Result Unit Fault → List Act → S → Type 0
Left g (Ok _) left n = left ≡ []
Left g (Err f) left n = (a : Act) × (more : List Act) × (left ≡ a ∷ more) × Barred (g.need a) (g.reserve n) (g.stopped n) a f

-- some of the actions owed are taken, in order, and the others are left
abbrev pub Settled : {S : Type 0} → Ghosts S → List Act → S → Result Unit Fault → List Act → S → Type 0
Settled g owed m r left n =
    (done : List Act) × (owed ≡ done ++ left) × Chain (Taken g.reserve g.stopped g.need g.took) m done n × Left g r left n
