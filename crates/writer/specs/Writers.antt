-- The writer: a recorder of normal texts. Its sheet is its counts, and then the normal text of the actions taken.
use Rattle.std.specs.Prelude.{ℕ, List}
use Rattle.job.specs.Actions.{Act}
use Rattle.recorder.specs.declared.recorder.Recorder.{Recorder}
use Rattle.recorder.specs.Recorders.{recorder_reserve, recorder_rule, recorder_sheet}
use Rattle.recorder.specs.Recorders as recorder
use Rattle.action_text.specs.Needs.{text_need}
use Rattle.writer.specs.declared.writer.NormalText.{NormalText}
use Rattle.writer.specs.Texts.{size, text}

abbrev pub Writer : Type 0
Writer = Recorder NormalText

-- an action moves the counts, and its text follows those before
abbrev pub writer_rule : List ℕ → Act → List ℕ
writer_rule = recorder_rule text

abbrev pub writer_sheet : Writer → List ℕ
writer_sheet = recorder_sheet

-- the room left in the buffer
abbrev pub writer_reserve : Writer → ℕ
writer_reserve = recorder_reserve

-- a writer that has written nothing into the buffer that it found
abbrev pub Begins : Writer → List ℕ → Type 0
Begins = recorder.Begins

-- what the writer makes of an action: its text stands behind what was written, and the rest of the buffer is as found;
-- the reserve falls by the text's length, which is within the need
abbrev pub Took : Writer → Act → Writer → Type 0
Took = recorder.Took text_need size text

-- the buffer stays, and how much of it is written
abbrev pub Stays : Writer → Writer → Type 0
Stays = recorder.Stays
