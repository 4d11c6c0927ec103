-- What one feed does, from whatever was read and owed before it.
use Rattle.std.specs.Prelude.{◌≡◌, ℕ, ◌≤◌, List, [], ◌++◌, length, take, Ok, Err}
use Rattle.job.specs.Actions.{Act}
use Rattle.job.specs.Job.{State, Run, run}
use Rattle.mechanism.specs.declared.mechanism.Mechanism.{Ghosts}
use Rattle.runs.specs.Outcomes.{Outcome, Command, Mechanism, told}
use Rattle.runs.specs.Offers.{Chain, Left, along}
use Rattle.runs.specs.Feeds.{End, FeedsTo}

-- why a feed that took so many bytes of a piece, and leaves these actions owed, ended there
abbrev pub EndedThere : {S : Type 0} → Ghosts S → List ℕ → ℕ → Outcome → List Act → S → Type 0
EndedThere g piece k (Ok u) owed m = (k ≡ length piece) × (owed ≡ [])
EndedThere g piece k (Err (Command c)) owed m = owed ≡ []
EndedThere g piece k (Err (Mechanism f)) owed m = Left g (Err f) owed m

-- what the bytes taken of a piece do to an interpreter
abbrev pub bytes_run : {S : Type 0} → State → List ℕ → End S → Run
bytes_run st piece e = run st (take e.taken piece)

-- what a feed has done from the actions owed, the interpreter and the mechanism, with a piece, to its end
pub record Does {S : Type 0} (g : Ghosts S) (owed : List Act) (st : State) (m : S) (piece : List ℕ) (e : End S) : Type 0 where
  -- it took no more bytes than there are, and the interpreter stands behind them
  pub within : e.taken ≤ length piece
  pub reads : e.state ≡ (bytes_run st piece e).state
  -- what was owed, and then what these bytes order, is what was done, and then what is owed
  pub done : List Act
  pub jobs : owed ++ (bytes_run st piece e).acts ≡ done ++ e.owed
  -- the mechanism took what was done, in order, with whatever else it promises of an action taken
  pub chain : Chain g.took m done e.mechanism
  pub sheets : g.sheet e.mechanism ≡ along g.rule (g.sheet m) done
  -- no command was refused in these bytes but the one that it tells of, if that ended it
  pub refusals : (bytes_run st piece e).refusals ≡ told e.outcome
  pub ended_there : EndedThere g piece e.taken e.outcome e.owed e.mechanism

-- every feed has done that
abbrev pub FeedsDoTheJob : {S : Type 0} → Ghosts S → Type 0
FeedsDoTheJob {S} g =
    (owed : List Act) (st : State) (m : S) (piece : List ℕ) (e : End S) → FeedsTo g owed st m piece e → Does g owed st m piece e
