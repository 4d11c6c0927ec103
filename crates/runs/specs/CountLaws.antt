-- What holds of the count of a run.
use Rattle.std.specs.Prelude.{◌≡◌, ℕ, ◌≤◌, Bool, List, ◌∷◌, ◌++◌, length, take}
use Rattle.job.specs.Actions.{Act}
use Rattle.job.specs.Job.{run, new}
use Rattle.runs.specs.Outcomes.{Outcome, Placed}
use Rattle.runs.specs.Count.{Count, Goes}
use Rattle.runs.specs.Calls.{Call, fed, Choice, Counted, Asked, all_asked, bytes_taken, refusals_told}
use Rattle.runs.specs.Choices.{FallsBy, ChosenBy}

-- every answer and the count follow from what is asked, the needs, the reserve and mark at the start, and the choices
abbrev pub Follows : Type 0
Follows =
    (need : Act → ℕ) (reserve : ℕ) (stopped : Bool) (choices : List Choice) (calls others : List Call) (c d : Count)
    → Counted need reserve stopped choices calls c → Counted need reserve stopped choices others d → all_asked calls ≡ all_asked others
    → (calls ≡ others) × (c ≡ d)

-- a feed's answer counts the bytes that it took
abbrev pub CountsBytes : Type 0
CountsBytes =
    (need : Act → ℕ) (falls : List ℕ) (c d : Count) (piece : List ℕ) (k : ℕ) (e : Outcome)
    → Goes need falls c piece k e d → (k ≤ length piece) × (d.taken ≡ c.taken ++ take k piece)

-- joined, these are the bytes taken
abbrev pub Joins : Type 0
Joins =
    (need : Act → ℕ) (reserve : ℕ) (stopped : Bool) (choices : List Choice) (calls : List Call) (c : Count)
    → Counted need reserve stopped choices calls c → c.taken ≡ bytes_taken calls

-- the answers tell of every command refused in the bytes taken, once, by its number and place
abbrev pub RefusalsAreTold : Type 0
RefusalsAreTold =
    (need : Act → ℕ) (reserve : ℕ) (stopped : Bool) (choices : List Choice) (calls : List Call) (c : Count)
    → Counted need reserve stopped choices calls c → (run new (bytes_taken calls)).refusals ≡ refusals_told calls

-- the place of a refused command is that of a byte taken, at most 41 before the piece
abbrev pub PlacesAreNear : Type 0
PlacesAreNear =
    (need : Act → ℕ) (reserve : ℕ) (stopped : Bool) (choices : List Choice) (calls : List Call) (piece : List ℕ) (k : ℕ) (e : Outcome) (c : Count)
    → Counted need reserve stopped choices (fed piece k e ∷ calls) c → Placed (length (bytes_taken calls)) k e

-- whatever is taken and owed, a feed of any piece has an end, where the actions taken lower the reserve by any rule within their needs
abbrev pub GoesOn : Type 0
GoesOn =
    (need : Act → ℕ) (rule : Count → Act → ℕ) → ((c : Count) (a : Act) → rule c a ≤ need a)
    → (c : Count) (piece : List ℕ)
    → (falls : List ℕ) × (k : ℕ) × (e : Outcome) × (d : Count) × (w : Goes need falls c piece k e d) × FallsBy need rule w

-- whatever is asked, in any order, there is a run of calls that ask it, where the grants too follow any rule within the offers
abbrev pub RunsOn : Type 0
RunsOn =
    (need : Act → ℕ) (rule : Count → Act → ℕ) (grants : Count → ℕ → ℕ)
    → ((c : Count) (a : Act) → rule c a ≤ need a) → ((c : Count) (offered : ℕ) → grants c offered ≤ offered)
    → (reserve : ℕ) (stopped : Bool) (asks : List Asked)
    → (choices : List Choice) × (calls : List Call) × (c : Count) × (all_asked calls ≡ asks)
    × (w : Counted need reserve stopped choices calls c) × ChosenBy need rule grants w
