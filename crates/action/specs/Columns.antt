-- What an open row holds.
use Rattle.std.specs.Prelude.{List, take}
use Rattle.job.specs.declared.cells.Cell.{Cell}
use Rattle.action.specs.declared.open_row.OpenRow.{OpenRow}

-- the columns before the position
abbrev pub columns : OpenRow → List Cell
columns r = take r.len r.cells
