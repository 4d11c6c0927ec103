use Rattle.std.proofs.Common.{◌≡◌, ℕ, ◌+◌, ◌≤◌, List, ◌++◌, take, MutBor, ap, arith}
use Rattle.job.specs.declared.cells.Cell.{Cell}
use Rattle.job.specs.Row.{cells_of}
use Rattle.action.specs.declared.open_row.OpenRow.{OpenRow}
use Rattle.action.specs.Columns.{columns}
use Rattle.action.proofs.Rows.{put_narrow, put_wide, put_laid}
use Rattle.action.proofs.open_row.OpenRow.put.Goals as goal
use Rattle.action.proofs.open_row.OpenRow.put.Goals.{then-attributes, else-attributes}

-- the row where the branches join
abbrev Joined : Type 0
Joined = MutBor OpenRow × (List Cell × (ℕ × Unit {0}))

pub invariant_of-self-clause-laid : goal.invariant_of-self-clause-laid
invariant_of-self-clause-laid c =
    let r = c.args.self.now in
    let w = c.width-2.result in
    let a = c.args.attributes in
    let room : r.len + w ≤ 48 = omega (arith, c.width.ensures, c.width-2.ensures) in
    let cells : List Cell = c.if-attributes.self.1.0 in
    let p : take (r.len + w) cells ≡ columns r ++ cells_of c.args.code a =
    elim c.if-attributes.branch [
      | then-attributes b ↦ put_wide r c.args.code w a cells c.width-2.ensures room b.if-attributes.true (ap (λ (s : Joined). s.1.0) b.self-is)
      | else-attributes b ↦ put_narrow r c.args.code w a cells c.width-2.ensures room b.if-attributes.false (ap (λ (s : Joined). s.1.0) b.self-is)
    ] in
    put_laid r c.args.code a _ c.if-not-is_text.ensures p
