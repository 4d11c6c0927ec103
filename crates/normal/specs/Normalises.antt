-- What normalise answers and leaves in its buffer.
use Rattle.std.specs.Prelude.{◌≡◌, ℕ, ◌+◌, ◌-◌, ◌<◌, ◌≤◌, true, false, List, ◌∷◌, ◌++◌, length, take, Ok, Err, Result}
use Rattle.stream.specs.Answers.{too_long}
use Rattle.job.specs.Actions.{Act}
use Rattle.job.specs.Job.{run, new, job}
use Rattle.job.specs.NormalText.{job_text, normal_text}
use Rattle.mechanism.specs.Buffers.{Appended}
use Rattle.mechanism.specs.declared.fault.Fault.TheVariants.{Stopped, ShortReserve}
use Rattle.action_text.specs.Needs.{text_need}
use Rattle.runs.specs.declared.fault.FeedFault.TheVariants.{Command, Mechanism}
use Rattle.normal.specs.declared.answer.NormaliseFault.{NormaliseFault}
use Rattle.normal.specs.declared.answer.NormaliseFault.TheVariants.{StreamTooLong, Feed}
use Rattle.normal.specs.declared.answer.Normalised.{Normalised}
use Rattle.normal.specs.Fitting.{Fit, room}
use Rattle.normal.specs.Releases.{Releases}

-- how many commands are refused in some bytes
abbrev pub refused_in : List ℕ → ℕ
refused_in bytes = length (run new bytes).refusals

-- The whole normal text stands at the buffer's front, and the rest of the buffer is as found.
-- This is so exactly where every action of the job finds the room it needs.
pub record WholeText (stream found : List ℕ) (written passed : ℕ) (out : List ℕ) : Type 0 where
  pub not_too_long : too_long stream ≡ false
  pub all_fit : Fit (room found) (job stream)
  pub writes : Appended found 0 (normal_text stream) written out
  pub passes : passed ≡ refused_in stream
  pub releases : Releases stream (take written out)

-- The texts of the job's first actions stand at the buffer's front, as many as find the room they need, and the rest of the buffer is as found.
-- The next action does not; it was ordered by the last of the bytes taken, and the commands refused before are counted.
pub record PartText (stream found : List ℕ) (written passed : ℕ) (out : List ℕ) : Type 0 where
  pub not_too_long : too_long stream ≡ false
  pub not_all_fit : Fit (room found) (job stream) → ⊥
  pub taken : ℕ
  pub within : taken ≤ length stream
  pub done : List Act
  pub next : Act
  pub more : List Act
  pub jobs : job (take taken stream) ≡ done ++ next ∷ more
  pub ordered_last : length (job (take (taken - 1) stream)) ≤ length done
  pub done_fit : Fit (room found) done
  pub no_room : room found < length (job_text done) + text_need next
  pub writes : Appended found 0 (job_text done) written out
  pub passes : passed ≡ refused_in (take taken stream)

-- by its outcome: whole; 6 for a stream that is too long, with nothing written; 5 where the writer refuses an action; nothing else
abbrev pub EndsSo : (stream found : List ℕ) (written passed : ℕ) → Result Unit NormaliseFault → (out : List ℕ) → Type 0
EndsSo stream found written passed (Ok u) out = WholeText stream found written passed out
EndsSo stream found written passed (Err StreamTooLong) out = (too_long stream ≡ true) × (written ≡ 0) × (passed ≡ 0) × (out ≡ found)
EndsSo stream found written passed (Err (Feed (Mechanism ShortReserve))) out = PartText stream found written passed out
EndsSo stream found written passed (Err (Feed (Mechanism Stopped))) out = ⊥
EndsSo stream found written passed (Err (Feed (Command c))) out = ⊥

-- a stream, the buffer as found, the answer, and the buffer afterwards
pub record Normalises (stream found : List ℕ) (r : Normalised) (out : List ℕ) : Type 0 where
  pub ends : EndsSo stream found r.written r.passed_over r.outcome out
