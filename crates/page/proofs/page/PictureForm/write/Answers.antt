use Rattle.std.proofs.Common.{◌≡◌, length, drop, sym, ap, ◌∙◌, arith, length-take}
use Rattle.std.proofs.lemmas.List.{take_at, drop_at}
use mathlib.Core.Logic.{∥∥₁_elim}
use native.Mathlib.Nat.{ℕ_set}
use Rattle.action.specs.declared.row.Row.{Row}
use Rattle.action.specs.Meanings.{act_of}
use Rattle.page.specs.Pictures.{page_need, picture, row_picture}
use Rattle.page.proofs.page.PictureForm.write.Goals as goal

-- a row that can be ordered has 48 columns
columns : (row : Row) → length row.cells ≡ 48
columns row = ∥∥₁_elim row.ok (ℕ_set _ _) (λ o. o.1)

pub put_row-requires : goal.put_row-requires
put_row-requires c = omega (arith, length-take 52 c.args.out.now, columns c.in-Row.row, ap length c.cells.ensures)

pub returns : goal.returns
returns c =
    let advance = c.args.advance in
    let written = c.put_row.new.out in
    let shown : written ≡ picture advance (act_of c.args.action.now) =
    c.put_row.ensures ∙ ap (row_picture advance) c.cells.ensures ∙ sym (ap (λ a. picture advance (act_of a)) c.in-Row.is) in
    let need : page_need (act_of c.args.action.now) ≡ 52 = ap (λ a. page_need (act_of a)) c.in-Row.is in
    let size : length written ≡ 52 = omega (arith, c.put_row.auto.out, length-take 52 c.args.out.now) in (
      omega arith,
      record {
        ends = omega (arith, ap length shown);
        front = take_at written (drop 52 c.args.out.now) 52 size ∙ shown;
        rest = drop_at written (drop 52 c.args.out.now) 52 size;
      },
    )
