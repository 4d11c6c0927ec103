-- A whole stream fed to a mechanism: each feed begins where the one before it ended, and refused commands are passed over.
use Rattle.std.specs.Prelude.{◌≡◌, ℕ, ◌+◌, ◌-◌, ◌<◌, ◌≤◌, List, [], ◌∷◌, ◌++◌, length, take, drop, Ok, Err}
use Rattle.job.specs.Actions.{Act}
use Rattle.job.specs.Job.{State, run}
use Rattle.mechanism.specs.declared.mechanism.Mechanism.{Ghosts}
use Rattle.mechanism.specs.Mechanisms.{Taken}
use Rattle.runs.specs.Outcomes.{Outcome, Command, Mechanism}
use Rattle.runs.specs.Calls.{Call, fed}
use Rattle.runs.specs.Offers.{Chain, Left}
use Rattle.runs.specs.Feeds.{End}
use Rattle.runs.specs.FeedLaws.{Does}
use Rattle.runs.specs.Stands.{View, Stands, viewed}

-- a list of actions begins with others
abbrev pub BeginsWith : List Act → List Act → Type 0
BeginsWith acts first = (rest : List Act) × (acts ≡ first ++ rest)

-- what a feed has done, and that it was done in turn
pub record DoesInTurn {S : Type 0} (g : Ghosts S) (owed : List Act) (st : State) (m : S) (piece : List ℕ) (e : End S) : Type 0 where
  pub does : Does g owed st m piece e
  -- the mechanism took what was done, in order: none of it was refused, and whatever else it promises of an action taken holds
  pub taken_in_order : Chain (Taken g.reserve g.stopped g.need g.took) m does.done e.mechanism
  -- when the last byte was taken, nothing was owed: what was owed, and what the bytes before that one order, was done
  pub before_last : 0 < e.taken → BeginsWith does.done (owed ++ (run st (take (e.taken - 1) piece)).acts)

-- feeds along a stream, the latest first, and how many bytes they took: each is offered what those before it left
pub data FeedsAlong (stream : List ℕ) : List Call → ℕ → Type 0 where
  none : FeedsAlong stream [] 0
  then_fed : {feeds : List Call} {n k : ℕ} {e : Outcome} → FeedsAlong stream feeds n → FeedsAlong stream (fed (drop n stream) k e ∷ feeds) (n + k)

-- what feeds along a stream have done when they took so many bytes of it and passed over so many refused commands
pub record Passing {S : Type 0} (g : Ghosts S) (owed : List Act) (st : State) (m : S) (stream : List ℕ) (k passed : ℕ) (owed' : List Act) (st' : State) (n : S) : Type 0 where
  pub within : k ≤ length stream
  -- the interpreter stands behind the bytes taken
  pub reads : st' ≡ (run st (take k stream)).state
  -- what was owed, and then what these bytes order, is what was done, and then what is owed
  pub done : List Act
  pub jobs : owed ++ (run st (take k stream)).acts ≡ done ++ owed'
  -- the mechanism took what was done, in order
  pub chain : Chain (Taken g.reserve g.stopped g.need g.took) m done n
  -- when the last byte was taken, nothing was owed
  pub before_last : 0 < k → BeginsWith done (owed ++ (run st (take (k - 1) stream)).acts)
  -- every command refused in these bytes is counted
  pub counts : passed ≡ length (run st (take k stream)).refusals
  -- the feeds that did this: whatever calls led here, the run with them stands there
  pub feeds : List Call
  pub follow : FeedsAlong stream feeds k
  pub stands : (first : View) (calls : List Call) → Stands g.need g.rule first calls st owed (viewed g m)
      → Stands g.need g.rule first (feeds ++ calls) st' owed' (viewed g n)

-- why they ended there: the whole stream is taken and nothing is owed, or the first action owed is refused; a refused command does not end them
abbrev pub PassedTo : {S : Type 0} → Ghosts S → List ℕ → ℕ → Outcome → List Act → S → Type 0
PassedTo g stream k (Ok u) owed n = (k ≡ length stream) × (owed ≡ [])
PassedTo g stream k (Err (Mechanism f)) owed n = Left g (Err f) owed n
PassedTo g stream k (Err (Command c)) owed n = ⊥

-- a whole stream, up to its end or to an action that is refused
pub record Passes {S : Type 0} (g : Ghosts S) (owed : List Act) (st : State) (m : S) (stream : List ℕ) (k passed : ℕ) (e : Outcome) (owed' : List Act) (st' : State) (n : S) : Type 0 where
  pub passing : Passing g owed st m stream k passed owed' st' n
  pub ended_there : PassedTo g stream k e owed' n
