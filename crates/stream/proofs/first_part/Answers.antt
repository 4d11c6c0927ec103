use Rattle.std.proofs.Common.{◌≡◌, ℕ, List, ◌∷◌, get_or, drop, Ok, sym, ap, ◌∙◌, arith}
use Rattle.std.proofs.lemmas.List.{drop_more, length-take-le}
use Rattle.stream.specs.Kind.{Extent}
use Rattle.stream.specs.Parts.{first, cut}
use Rattle.stream.proofs.Answered.{begins, begins_text, text_there}
use Rattle.stream.proofs.first_part.Goals as goal

pub returns-in-Ok-Some : goal.returns-in-Ok-Some
returns-in-Ok-Some c =
    let s : List ℕ = c.args.s.now in
    let whole : s ≡ get_or s 0 0 ∷ drop 1 s = drop_more s 0 0 (omega (arith, c.requires)) in
    c.command.ensures
    ∙ ap (λ (e : Extent). cut e s)
    (begins (get_or s 0 0) (drop 1 s) c.in-Ok-Some.next (sym c.is_text.ensures ∙ c.if-is_text.false) (ap Ok (sym c.in-Ok-Some.field-0-is) ∙ c.in-Ok-Some.ensures)
    ∙ ap first (sym whole))

pub slice_bounds-result-end : goal.slice_bounds-result-end
slice_bounds-result-end c = sym (length-take-le c.text_run.result c.args.s.now (omega (arith, text_there c.args.s.now, c.text_run.ensures)))

pub returns-then-is_text : goal.returns-then-is_text
returns-then-is_text c =
    begins_text c.args.s.now c.text_run.result (omega (arith, c.requires)) (sym c.is_text.ensures ∙ c.if-is_text.true) c.text_run.ensures
