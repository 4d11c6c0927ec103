-- Choices that a mechanism makes by a rule of its own.
use Rattle.std.specs.Prelude.{◌≡◌, ℕ, Bool, List, ◌∷◌}
use Rattle.job.specs.Actions.{Act}
use Rattle.runs.specs.Outcomes.{Outcome}
use Rattle.runs.specs.Count.{Count, counting, Goes, acts, stuck, reads, refused, ends}
use Rattle.runs.specs.Calls.{Call, Choice, Counted, none, then_fed, then_covered, then_supplied, then_status, then_settings}

-- in a feed, every action taken lowers the reserve by what the rule says of the count and the action
abbrev pub FallsBy : (need : Act → ℕ) → (Count → Act → ℕ) → {fs : List ℕ} {c : Count} {piece : List ℕ} {k : ℕ} {e : Outcome} {d : Count} → Goes need fs c piece k e d → Type 0
FallsBy need rule (acts {t} {a} {o} {r} {s} {fall = x} p q g) = (x ≡ rule (counting t (a ∷ o) r s) a) × FallsBy need rule g
FallsBy need rule (stuck w) = Unit {0}
FallsBy need rule (reads p g) = FallsBy need rule g
FallsBy need rule (refused p) = Unit {0}
FallsBy need rule ends = Unit {0}

-- in a run, the same of every feed, and every grant is what the other rule says of the count and the offer
abbrev pub ChosenBy : (need : Act → ℕ) → (Count → Act → ℕ) → (Count → ℕ → ℕ) → {reserve : ℕ} {stopped : Bool} {choices : List Choice} {calls : List Call} {c : Count}
    → Counted need reserve stopped choices calls c → Type 0
ChosenBy need rule grants none = Unit {0}
ChosenBy need rule grants (then_fed x g) = FallsBy need rule g × ChosenBy need rule grants x
ChosenBy need rule grants (then_covered x) = ChosenBy need rule grants x
ChosenBy need rule grants (then_supplied {c = c} {offered = offered} {granted = n} x p) = (n ≡ grants c offered) × ChosenBy need rule grants x
ChosenBy need rule grants (then_status x) = ChosenBy need rule grants x
ChosenBy need rule grants (then_settings x) = ChosenBy need rule grants x
