-- What an interpreter stands for, and what a step does.
use Rattle.std.specs.Prelude.{◌≡◌, ℕ, ◌<◌, ◌≤◌, List, [], ◌∷◌, length, Some, None, Ok, Err, Result, ◌≢◌, slice_index}
use Rattle.reading.specs.declared.Refusal.{Refusal}
use Rattle.job.specs.Actions.{Act}
use Rattle.job.specs.Job as job
use Rattle.action.specs.Owed.{owed_acts}
use Rattle.reader.specs.Reading.{reading_of}
use Rattle.printer.specs.Printer.{printer_of}
use Rattle.interpreter.specs.declared.Interpreter.{Interpreter}
use Rattle.interpreter.specs.declared.StepFault.{StepFault}
use Rattle.interpreter.specs.declared.StepFault.TheVariants.{Refused, Ended, Owing}

-- what it is reading, and its printer
abbrev pub state_of : Interpreter → job.State
state_of i = record { reading = reading_of i.reading; printer = printer_of i.printer }

-- the actions that it owes, in order
abbrev pub owes : Interpreter → List Act
owes i = owed_acts i.owed

-- a byte's answer, with what is owed and the state after it
abbrev pub step_of : Result (Unit {0}) Refusal → Interpreter → job.Step
step_of (Ok done) after = record { acts = owes after; refusal = None; next = state_of after }
step_of (Err why) after = record { acts = owes after; refusal = Some why; next = state_of after }

-- nothing was owed, and the byte at an index of a piece was taken: what it orders is owed, and what is refused is placed from the piece's start
pub record Takes (piece : List ℕ) (index : ℕ) (before : Interpreter) (refusals : List job.Refused) (after : Interpreter) : Type 0 where
  pub nothing_owed : owes before ≡ []
  pub within : index < length piece
  pub does :
      ◌≡◌ {A = job.Run} (record { acts = owes after; refusals = refusals; state = state_of after })
      (job.followed_by (job.stay (state_of before)) index (job.run_byte (state_of before) (slice_index piece index)))

-- a step and its answer
abbrev pub Steps : List ℕ → ℕ → Interpreter → Result (Unit {0}) StepFault → Interpreter → Type 0
Steps piece index before (Ok done) after = Takes piece index before [] after
Steps piece index before (Err (Refused why place)) after = Takes piece index before ((why, place) ∷ []) after
Steps piece index before (Err Ended) after = (owes before ≡ []) × (length piece ≤ index) × (after ≡ before)
Steps piece index before (Err Owing) after = (owes before ≢ []) × (after ≡ before)
