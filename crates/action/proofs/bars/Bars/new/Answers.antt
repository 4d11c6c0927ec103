use Rattle.std.proofs.Common.{◌≡◌, Some, Option, Ok, sym, ap, ◌∙◌}
use Rattle.job.specs.declared.bars.BarKind.{BarKind}
use Rattle.job.specs.BarCodes.{verdict}
use Rattle.job.proofs.Strings.{accepted_short}
use Rattle.action.proofs.BarCodes.{accepted_orderable}
use Rattle.action.proofs.bars.Bars.new.Goals as goal

pub invariant_of-result : goal.invariant_of-result
invariant_of-result c =
    let s = c.args.string.now in
    let v : verdict (Some c.unwrap.result) s ≡ Ok tt = ap (λ (k : Option BarKind). verdict k s) (sym c.unwrap.ensures) ∙ (sym c.judge.ensures ∙ c.in_ok-judge.was) in
    record { within = accepted_short (Some c.unwrap.result) s v; ok = ∣ accepted_orderable c.unwrap.result c.args.size c.args.shown s _ c.copied.ensures v ∣₁ }
