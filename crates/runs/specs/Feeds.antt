-- One feed of an interpreter's piece to a mechanism, offer by offer and byte by byte.
use Rattle.std.specs.Prelude.{◌≡◌, ℕ, ◌+◌, Bool, List, [], ◌∷◌, Some, None, Ok, Err}
use Rattle.reading.specs.declared.Refusal.{Refusal}
use Rattle.job.specs.Actions.{Act}
use Rattle.job.specs.Job.{State, step}
use Rattle.mechanism.specs.declared.fault.Fault.{Fault}
use Rattle.mechanism.specs.declared.mechanism.Mechanism.{Ghosts}
use Rattle.mechanism.specs.Refusals.{Barred}
use Rattle.mechanism.specs.Mechanisms.{Taken}
use Rattle.runs.specs.Outcomes.{Outcome, Command, Mechanism, refused_at_once, outcome_later}

-- the end of a feed: the bytes it took, its outcome, the actions owed then, the interpreter and the mechanism
pub record End (S : Type 0) : Type 0 where
  pub taken : ℕ
  pub outcome : Outcome
  pub owed : List Act
  pub state : State
  pub mechanism : S

-- an end of these five
abbrev pub ended : {S : Type 0} → ℕ → Outcome → List Act → State → S → End S
ended k e owed st m = record { taken = k; outcome = e; owed = owed; state = st; mechanism = m }

-- the same end, counted from so many bytes earlier
abbrev pub later : {S : Type 0} → ℕ → End S → End S
later n e = ended (n + e.taken) (outcome_later n e.outcome) e.owed e.state e.mechanism

-- from the actions owed, the interpreter and the mechanism, with what is left of the piece, to the end
module _ {S : Type 0} (reserve : S → ℕ) (stopped : S → Bool) (need : Act → ℕ) (took : S → Act → S → Type 0) where
  pub data Feeds : List Act → State → S → List ℕ → End S → Type 0 where
    -- the first action owed is taken
    takes : {a : Act} {more : List Act} {st : State} {m n : S} {piece : List ℕ} {e : End S}
        → Taken reserve stopped need took m a n → Feeds more st n piece e
        → Feeds (a ∷ more) st m piece e
    -- it is refused, stays first, and ends the feed
    stuck : {a : Act} {more : List Act} {st : State} {m : S} {piece : List ℕ} {f : Fault}
        → Barred (need a) (reserve m) (stopped m) a f
        → Feeds (a ∷ more) st m piece (ended 0 (Err (Mechanism f)) (a ∷ more) st m)
    -- with nothing owed the next byte is taken, and what it orders becomes owed
    reads : {st : State} {m : S} {b : ℕ} {piece : List ℕ} {e : End S}
        → (step st b).refusal ≡ None → Feeds (step st b).acts (step st b).next m piece e
        → Feeds [] st m (b ∷ piece) (later 1 e)
    -- a command refused at that byte ends the feed
    refused : {st : State} {m : S} {b : ℕ} {piece : List ℕ} {why : Refusal}
        → (step st b).refusal ≡ Some why
        → Feeds [] st m (b ∷ piece) (ended 1 (Err (Command (refused_at_once st.reading why))) [] (step st b).next m)
    -- with nothing owed, the piece's end ends it
    ends : {st : State} {m : S} → Feeds [] st m [] (ended 0 (Ok tt) [] st m)

-- one feed to a mechanism, by the members of its interface
abbrev pub FeedsTo : {S : Type 0} → Ghosts S → List Act → State → S → List ℕ → End S → Type 0
FeedsTo g = Feeds g.reserve g.stopped g.need g.took

-- a feed has one end, where what the mechanism makes of an action is no choice
abbrev pub OneEnd : {S : Type 0} → Ghosts S → Type 0
OneEnd {S} g =
    ((m : S) (a : Act) (n p : S) → g.took m a n → g.took m a p → n ≡ p)
    → (owed : List Act) (st : State) (m : S) (piece : List ℕ) (e f : End S) → FeedsTo g owed st m piece e → FeedsTo g owed st m piece f → e ≡ f
