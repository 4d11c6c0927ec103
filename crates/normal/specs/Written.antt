-- What a writer has made of a stream that was fed to it through a new interpreter.
use Rattle.std.specs.Prelude.{◌≡◌, ℕ, true, false, List, [], Ok, Err, Result}
use Rattle.stream.specs.Answers.{too_long}
use Rattle.job.specs.Actions.{Act}
use Rattle.job.specs.Job.{State, new}
use Rattle.mechanism.specs.declared.mechanism.Mechanism.{Ghosts}
use Rattle.mechanism.specs.Counts.{leading_counts}
use Rattle.action_text.specs.Needs.{text_need}
use Rattle.runs.specs.Outcomes.{Outcome}
use Rattle.runs.specs.Whole.{Passes}
use Rattle.writer.specs.Writers.{Writer, writer_reserve, writer_rule, writer_sheet, Stays, Took}
use Rattle.writer.specs.Lawful.{lawful}
use Rattle.normal.specs.declared.answer.NormaliseFault.{NormaliseFault}
use Rattle.normal.specs.declared.answer.NormaliseFault.TheVariants.{StreamTooLong, Feed}

-- the writer, by the members of the interface of mechanisms
abbrev pub text_writer : Ghosts Writer
text_writer = record {
  sheet = writer_sheet;
  reserve = writer_reserve;
  stopped = λ w. w.stopped;
  need = text_need;
  rule = writer_rule;
  counts = leading_counts;
  took = Took;
  grants = λ w offered grant. grant ≡ 0;
  stays = Stays;
  laws = lawful;
}

-- the feeds of a whole stream, from a new interpreter on
pub record FedToWriter (w : Writer) (stream : List ℕ) (passed : ℕ) (e : Outcome) (v : Writer) : Type 0 where
  pub not_too_long : too_long stream ≡ false
  pub taken : ℕ
  pub owed : List Act
  pub state : State
  pub passes : Passes text_writer [] new w stream taken passed e owed state v

-- a stream that is too long is not fed at all
abbrev pub WritesText : Writer → List ℕ → ℕ → Result Unit NormaliseFault → Writer → Type 0
WritesText w stream passed (Ok u) v = FedToWriter w stream passed (Ok u) v
WritesText w stream passed (Err (Feed f)) v = FedToWriter w stream passed (Err f) v
WritesText w stream passed (Err StreamTooLong) v = (too_long stream ≡ true) × (passed ≡ 0) × (v ≡ w)
