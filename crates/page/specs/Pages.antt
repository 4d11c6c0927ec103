-- The page: a recorder of pictures. Its sheet is its counts, and then the picture of each row.
use Rattle.std.specs.Prelude.{ℕ, List}
use Rattle.job.specs.Actions.{Act}
use Rattle.recorder.specs.declared.recorder.Recorder.{Recorder}
use Rattle.recorder.specs.Recorders.{recorder_reserve, recorder_rule, recorder_sheet}
use Rattle.recorder.specs.Recorders as recorder
use Rattle.page.specs.declared.page.Picture.{Picture}
use Rattle.page.specs.Pictures.{page_need, picture}

abbrev pub Page : Type 0
Page = Recorder Picture

-- an action moves the counts, and its picture follows those before
abbrev pub page_rule : List ℕ → Act → List ℕ
page_rule = recorder_rule picture

abbrev pub page_sheet : Page → List ℕ
page_sheet = recorder_sheet

-- the room left in the buffer; no more than 2^32 - 1 bytes of it are used
abbrev pub page_reserve : Page → ℕ
page_reserve = recorder_reserve

-- a page that has written nothing into the buffer that it found
abbrev pub Begins : Page → List ℕ → Type 0
Begins = recorder.Begins

-- what the page makes of an action: its picture stands behind what was written, the rest of the buffer is as found,
-- and the reserve falls by the need
abbrev pub Took : Page → Act → Page → Type 0
Took = recorder.Took page_need page_need picture

-- the buffer stays, and how much of it is written
abbrev pub Stays : Page → Page → Type 0
Stays = recorder.Stays
