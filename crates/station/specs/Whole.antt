-- A whole stream fed to a mechanism.
use Rattle.std.specs.Prelude.{ℕ, Bool, true, false, List, Ok, Err}
use Rattle.mechanism.specs.declared.mechanism.Mechanism.{Ghosts}
use Rattle.interpreter.specs.declared.Interpreter.{Interpreter}
use Rattle.interpreter.specs.Interpreter.{owes, state_of}
use Rattle.runs.specs.declared.fault.FeedFault.TheVariants.{Command, Mechanism}
use Rattle.runs.specs.Outcomes.{Outcome}
use Rattle.runs.specs.Whole.{Passes}

-- so many bytes were taken, so many refused commands passed over, and this was the outcome
abbrev pub FedWhole : {S : Type 0} → Ghosts S → Interpreter → S → List ℕ → ℕ → ℕ → Outcome → Interpreter → S → Type 0
FedWhole g i m stream k passed e j n = Passes g (owes i) (state_of i) m stream k passed e (owes j) (state_of j) n

-- a refused command ended the feed
abbrev pub by_command : Outcome → Bool
by_command (Ok u) = false
by_command (Err (Command c)) = true
by_command (Err (Mechanism f)) = false
