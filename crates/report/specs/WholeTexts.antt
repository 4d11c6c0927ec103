-- The whole normal text of a stream, in as much memory as it takes.
use Rattle.std.specs.Prelude.{◌≡◌, ℕ, ◌^◌, true, List}
use Rattle.stream.specs.Answers.{too_long}
use Rattle.job.specs.Job.{job}
use Rattle.mechanism.specs.Buffers.{room_left}
use Rattle.normal.specs.Fitting.{Fit}
use Rattle.report.specs.declared.fault.TextFault.{TextFault}
use Rattle.report.specs.declared.fault.TextFault.TheVariants.{StreamTooLong, TextTooLong, OutOfMemory}

-- not every action of the job finds the room it needs in a buffer of this size
abbrev pub TooSmall : List ℕ → ℕ → Type 0
TooSmall stream size = Fit (room_left size 0) (job stream) → ⊥

-- why there is no text
abbrev pub Untold : List ℕ → TextFault → Type 0
Untold stream StreamTooLong = too_long stream ≡ true
Untold stream TextTooLong = TooSmall stream (2 ^ 26)
Untold stream OutOfMemory = Unit {0}
