use Rattle.std.proofs.Common.{[], ◌∷◌, ◌++◌, ap}
use Rattle.job.specs.Actions.{plain}
use Rattle.job.specs.NormalText.{cells_text}
use Rattle.action_text.proofs.Progress.{next, spelt}
use Rattle.action_text.proofs.pen.Pen.put_row.Goals as goal

pub returns : goal.returns
returns c = spelt (ap (λ cells. cells_text plain cells ++ 0x1B ∷ 0x4A ∷ 0x00 ∷ []) c.columns_used.ensures.value) (next c.put_cells.ensures c.put.ensures)
