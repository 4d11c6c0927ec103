use Rattle.std.proofs.Common.{◌≡◌, length, sym, refl, rules}
use Rattle.std.proofs.lemmas.Bool.{both_ways}
use Rattle.reading.specs.Tests.{every}
use Rattle.job.specs.declared.cells.Cell.TheVariants.{Blank}
use Rattle.job.specs.Row.{is_blank}
use Rattle.action.specs.Tests.{laid_behind}
use Rattle.action.proofs.Decides.{laid_out_from_test, test_from_laid_out}
use Rattle.action.proofs.row.Row.new.Goals as goal
use Rattle.action.proofs.row.Row.new.Goals.{else-laid_out-via-then-laid_out+else-not-all_blank, else-laid_out-via-else-laid_out}

pub invariant_of-result : goal.invariant_of-result
invariant_of-result c =
    let n : length c.args.cells ≡ 48 = search rules in
    record { ok = ∣ (laid_out_from_test Blank _ refl (sym c.if-laid_out.ensures), n, sym c.if-not-all_blank.ensures) ∣₁ }

pub returns-else-laid_out : goal.returns-else-laid_out
returns-else-laid_out c h =
    elim c.else-laid_out.branch [
      | else-laid_out-via-then-laid_out+else-not-all_blank w ↦ both_ways (every is_blank c.args.cells) h.2 (sym w.if-not-all_blank.ensures)
      | else-laid_out-via-else-laid_out w ↦ both_ways (laid_behind Blank c.args.cells) (sym w.if-laid_out.ensures) (test_from_laid_out Blank refl h.0)
    ]
