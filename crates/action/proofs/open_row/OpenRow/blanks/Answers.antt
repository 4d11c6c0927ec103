use Rattle.std.proofs.Common.{ℕ, ◌≤◌, List, replicate, sym, refl, ap, ◌∙◌, subst, arith}
use Rattle.std.proofs.lemmas.List.{take-replicate}
use Rattle.job.specs.declared.cells.Cell.{Cell}
use Rattle.job.specs.declared.cells.Cell.TheVariants.{Blank}
use Rattle.job.specs.Orderable.{LaidOut}
use Rattle.job.specs.Invariants.{TextCharacter}
use Rattle.job.proofs.Columns.{laid_blanks}
use Rattle.action.proofs.open_row.OpenRow.blanks.Goals as goal

pub invariant_of-result : goal.invariant_of-result
invariant_of-result c =
    let n = c.min.result in
    let h : n ≤ 48 = omega (arith, c.min.ensures) in
    record { sized = refl; within = h; laid = ∣ subst (λ (x : List Cell). LaidOut TextCharacter x) (sym (take-replicate n 48 Blank h)) (laid_blanks n) ∣₁ }

pub returns : goal.returns
returns c = take-replicate c.min.result 48 Blank (omega (arith, c.min.ensures)) ∙ ap (λ (n : ℕ). replicate n Blank) c.min.ensures
