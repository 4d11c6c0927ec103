-- Normalise as a run of feeds: a new interpreter meets a new writer and nothing else.
use Rattle.std.specs.Prelude.{◌≡◌, ℕ, ◌-◌, false, List, ◌++◌, take, replicate}
use Rattle.stream.specs.Answers.{too_long}
use Rattle.job.specs.Actions.{Act}
use Rattle.job.specs.Job.{State}
use Rattle.action_text.specs.Needs.{text_need}
use Rattle.runs.specs.Calls.{Call}
use Rattle.runs.specs.Stands.{View, Stands}
use Rattle.runs.specs.Whole.{FeedsAlong}
use Rattle.writer.specs.Writers.{writer_rule}
use Rattle.normal.specs.declared.answer.Normalised.{Normalised}
use Rattle.normal.specs.Fitting.{room}

-- a writer in a buffer of so much room, with these counts, that has written this text
abbrev pub writer_view : ℕ → List ℕ → List ℕ → ℕ → View
writer_view size counts text written = record { sheet = counts ++ text; reserve = size - written; stopped = false }

-- The feeds along the stream keep the law of every run: the writer's sheet is its first sheet, moved by the job of the bytes taken,
-- less the actions owed, which stand at that job's end.
pub record RunStands (stream found : List ℕ) (written : ℕ) (out : List ℕ) : Type 0 where
  pub feeds : List Call
  pub taken : ℕ
  pub follow : FeedsAlong stream feeds taken
  pub state : State
  pub owed : List Act
  pub counts : List ℕ
  pub stands : Stands text_need writer_rule (writer_view (room found) (replicate 7 0) (take 0 out) 0) feeds state owed (writer_view (room found) counts (take written out) written)

-- of every stream that is not too long
abbrev pub StandsBehindFeeds : List ℕ → List ℕ → Normalised → List ℕ → Type 0
StandsBehindFeeds stream found r out = too_long stream ≡ false → RunStands stream found r.written out
