use Rattle.std.proofs.Common.{◌≡◌, ◌+◌, ◌-◌, ◌++◌, length, replicate, List, ap, ◌∙◌, arith, rules}
use lib.ListN.{length-replicate}
use Rattle.std.proofs.lemmas.Slice.{take-put_mid}
use Rattle.job.specs.declared.cells.Cell.{Cell}
use Rattle.job.specs.declared.cells.Cell.TheVariants.{Blank}
use Rattle.job.proofs.Columns.{laid_blanks}
use Rattle.action.specs.Columns.{columns}
use Rattle.action.proofs.Rows.{laid_more}
use Rattle.action.proofs.open_row.OpenRow.skip.Goals as goal

pub invariant_of-self-clause-laid : goal.invariant_of-self-clause-laid
invariant_of-self-clause-laid c =
    let r = c.args.self.now in
    let n = c.args.count in
    let f : c.fill.new.self ≡ replicate n Blank = search rules in
    let k : length c.fill.new.self ≡ n = ap (λ (xs : List Cell). length xs) f ∙ length-replicate n Blank in
    laid_more (columns r) (replicate n Blank) _ r.laid (laid_blanks n)
    (take-put_mid r.len (r.len + n - r.len) r.cells c.fill.new.self (r.len + n) (omega arith) (omega (arith, r.within, r.sized)) ∙ ap (λ (xs : List Cell). columns r ++ xs) f)
