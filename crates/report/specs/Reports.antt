-- A stream's job for people.
use Rattle.std.specs.Prelude.{◌≡◌, ℕ, List, [], ◌∷◌, ◌++◌, map, Some, None, Option, slice_index}
use Rattle.std.specs.List.{flat_map}
use Rattle.hexadecimal.specs.Digits.{encoded}
use Rattle.job.specs.Actions.{Act}
use Rattle.job.specs.Job.{Refused, later, run_byte, run, new, job}
use Rattle.job.specs.NormalText.{action_text}
use Rattle.interpreter.specs.declared.Interpreter.{Interpreter}
use Rattle.interpreter.specs.Interpreter.{owes, state_of}
use Rattle.runs.specs.declared.fault.RefusedCommand.{RefusedCommand}

-- an action's text in hexadecimal, and the byte 0A
abbrev pub action_line : Act → List ℕ
action_line a = encoded (action_text a) ++ 0x0A ∷ []

-- the lines of actions, one behind the other
abbrev pub action_lines : List Act → List ℕ
action_lines = flat_map action_line

-- a refused command, by its number and place
abbrev pub refused_of : RefusedCommand → Refused
refused_of c = (c.refusal, c.place)

-- the refused command, if there is one
abbrev pub refused_list : Option RefusedCommand → List Refused
refused_list None = []
refused_list (Some c) = refused_of c ∷ []

-- the lines of what was owed are added, and nothing is owed any more
pub record AddsOwed (i : Interpreter) (lines : List ℕ) (j : Interpreter) (after : List ℕ) : Type 0 where
  pub added : after ≡ lines ++ action_lines (owes i)
  pub nothing_owed : owes j ≡ []
  pub state_stays : state_of j ≡ state_of i

-- a byte of a stream is taken: the lines of what it orders are added, and the command that is refused at it, placed from the stream's start
pub record AddsByte (stream : List ℕ) (index : ℕ) (i : Interpreter) (lines : List ℕ) (refused : List RefusedCommand) (j : Interpreter) (lines' : List ℕ) (refused' : List RefusedCommand) : Type 0 where
  pub ordered : lines' ≡ lines ++ action_lines (run_byte (state_of i) (slice_index stream index)).acts
  pub refusals : map refused_of refused' ≡ map refused_of refused ++ later index (run_byte (state_of i) (slice_index stream index)).refusals
  pub nothing_owed : owes j ≡ []
  pub state : state_of j ≡ (run_byte (state_of i) (slice_index stream index)).state

-- the lines of the job's actions, in order, and every command refused in the stream, by its number and place
pub record Reports (stream : List ℕ) (lines : List ℕ) (refused : List RefusedCommand) : Type 0 where
  pub job_lines : lines ≡ action_lines (job stream)
  pub refusals : map refused_of refused ≡ (run new stream).refusals
