-- What a feed and its parts do, over an interpreter and a mechanism.
use Rattle.std.specs.Prelude.{◌≡◌, ℕ, List, [], ◌∷◌, Ok, Err, Result}
use Rattle.mechanism.specs.declared.fault.Fault.{Fault}
use Rattle.mechanism.specs.declared.mechanism.Mechanism.{Ghosts}
use Rattle.interpreter.specs.declared.Interpreter.{Interpreter}
use Rattle.interpreter.specs.Interpreter.{Takes, owes, state_of}
use Rattle.runs.specs.Calls.{Call}
use Rattle.runs.specs.Feeds.{FeedsTo, ended}
use Rattle.runs.specs.Offers.{Settled}
use Rattle.runs.specs.Outcomes.{Outcome}
use Rattle.runs.specs.declared.fault.RefusedCommand.{RefusedCommand}
use Rattle.runs.specs.declared.fault.FeedFault.TheVariants.{Command, Mechanism}
use Rattle.runs.specs.Stands.{Keeps}

-- what was owed is taken, in order, until nothing is left or an action is refused; no byte is read
pub record Settles {S : Type 0} (g : Ghosts S) (i : Interpreter) (m : S) (r : Result Unit Fault) (j : Interpreter) (n : S) : Type 0 where
  pub settled : Settled g (owes i) m r (owes j) n
  pub state : state_of j ≡ state_of i

-- a byte of a piece is taken, and its command refused as the answer says
abbrev pub TakesByte : List ℕ → ℕ → Interpreter → Result Unit RefusedCommand → Interpreter → Type 0
TakesByte piece index i (Ok _) j = Takes piece index i [] j
TakesByte piece index i (Err c) j = Takes piece index i ((c.refusal, c.place) ∷ []) j

-- a byte of a piece is taken, and what it orders is offered; how it ended says which of the two was refused, if any was
abbrev pub FeedsByte : {S : Type 0} → Ghosts S → List ℕ → ℕ → Interpreter → S → Outcome → Interpreter → S → Type 0
FeedsByte g piece index i m (Ok _) j n = (taken : Interpreter) × TakesByte piece index i (Ok tt) taken × Settles g taken m (Ok tt) j n
FeedsByte g piece index i m (Err (Command c)) j n = TakesByte piece index i (Err c) j × (n ≡ m)
FeedsByte g piece index i m (Err (Mechanism f)) j n = (taken : Interpreter) × TakesByte piece index i (Ok tt) taken × Settles g taken m (Err f) j n

-- one feed of a piece: so many bytes taken, and this outcome
abbrev pub Fed : {S : Type 0} → Ghosts S → Interpreter → S → List ℕ → ℕ → Outcome → Interpreter → S → Type 0
Fed g i m piece k e j n = FeedsTo g (owes i) (state_of i) m piece (ended k e (owes j) (state_of j) n)

-- whatever calls led to this interpreter and mechanism, the run with one call more stands at the next ones
abbrev pub Extends : {S : Type 0} → Ghosts S → Call → Interpreter → S → Interpreter → S → Type 0
Extends g call i m j n = Keeps g call (state_of i) (owes i) m (state_of j) (owes j) n
