use Rattle.std.proofs.Common.{◌≡◌, ℕ, ◌+◌, ◌<◌, ◌≤◌, List, ◌++◌, length, get_or, drop, sym, ap, ◌∙◌, append-nil, arith}
use Rattle.std.proofs.lemmas.List.{at_drop_more, at_drop_all}
use Rattle.job.specs.declared.cells.Attributes.{Attributes}
use Rattle.job.specs.declared.cells.Cell.{Cell}
use Rattle.job.specs.declared.cells.Cell.TheVariants.{Blank}
use Rattle.job.specs.Actions.{plain}
use Rattle.job.specs.NormalText.{attribute_change, cells_text}
use Rattle.action_text.specs.RowTexts.{cell_text, attributes_after}
use Rattle.action_text.proofs.Progress.{start, room, onward, finished}
use Rattle.action_text.proofs.Columns.{one_column}
use Rattle.action_text.proofs.pen.Pen.put_cells.Goals as goal

pub loop-cell-init : goal.loop-cell-init
loop-cell-init c = start _ _

-- the text of what is left begins with that of the next column
first : (a : Attributes) (cells : List Cell) (i : ℕ) → i < length cells
    → cells_text a (drop i cells) ≡ cell_text a (get_or cells i Blank) ++ cells_text (attributes_after a (get_or cells i Blank)) (drop (i + 1) cells)
first a cells i h = at_drop_more (cells_text a) cells i Blank h ∙ one_column a (get_or cells i Blank) (drop (i + 1) cells)

pub put_cell-in_force-requires : goal.put_cell-in_force-requires
put_cell-in_force-requires c =
    room c.loop-cell.invariant _ _ (first c.loop-cell.in_force c.args.cells.now c.loop-cell.cell-index c.loop-cell-test.true) (omega arith)

pub loop-cell-preserved : goal.loop-cell-preserved
loop-cell-preserved c =
    onward c.loop-cell.invariant _ _
    (first c.loop-cell.in_force c.args.cells.now c.loop-cell.cell-index c.loop-cell-test.true
    ∙ ap (λ a. cell_text c.loop-cell.in_force (get_or c.args.cells.now c.loop-cell.cell-index Blank) ++ cells_text a (drop (c.loop-cell.cell-index + 1) c.args.cells.now)) (sym c.put_cell-in_force.ensures.attributes))
    c.put_cell-in_force.ensures.text

-- at the end only the return to no attributes is left
last : (a : Attributes) (cells : List Cell) (i : ℕ) → length cells ≤ i → cells_text a (drop i cells) ≡ attribute_change a plain
last a cells i h = at_drop_all (cells_text a) cells i h

pub put_change-requires : goal.put_change-requires
put_change-requires c =
    room c.loop-cell.invariant _ _ (last c.loop-cell.in_force c.args.cells.now c.loop-cell.cell-index c.loop-cell-test.false ∙ sym (append-nil _)) (omega arith)

pub returns : goal.returns
returns c =
    finished c.loop-cell.invariant (last c.loop-cell.in_force c.args.cells.now c.loop-cell.cell-index c.loop-cell-test.false) c.put_change.ensures
