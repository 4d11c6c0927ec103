use Rattle.std.proofs.Common.{◌≡◌, ℕ, ◌+◌, length, Some, None, Ok, vec_items, Option, sym, ap, ◌∙◌, subst, arith}
use Rattle.std.specs.Option.{option_map}
use Rattle.stream.specs.declared.parts.Token.{Token}
use Rattle.stream.specs.Answers.{part_of}
use Rattle.stream.specs.Parts.{Part, part_at}
use Rattle.stream.proofs.Answered.{from_ok, some_within}
use Rattle.stream.proofs.Whole.{from_some}
use Rattle.listing.specs.Listed.{Listed}
use Rattle.listing.proofs.Added.{added, whole}
use Rattle.listing.proofs.listing.Goals as goal

pub loop-text-preserved : goal.loop-text-preserved
loop-text-preserved c =
    let s = c.args.stream.now in
    let place = c.loop-text.place in
    let p : Part = part_of c.in-Some.part in
    let told = ap (λ (o : Option Token). Ok (option_map part_of o)) (sym c.in-Some.is) ∙ c.in_ok-part.ensures.answer in
    let here : part_at s place ≡ Some p = (from_ok s place (Some p) told).1 in
    let there = from_some s place p here in
    let as_long : length p.bytes ≡ length c.bytes.result.now = sym (ap length c.bytes.ensures) in (
      omega (arith, (some_within s place p there.0 (sym there.1)).1, as_long),
      λ rest h. added s place p (vec_items c.loop-text.text) (vec_items c.add_line.new.text) here c.in_ok-add_line.ensures.1 c.loop-text.invariant.1 rest
          (subst (λ (n : ℕ). Listed s (place + n) rest) (sym as_long) h),
    )

pub returns : goal.returns
returns c =
    let s = c.args.stream.now in
    let place = c.loop-text.place in
    let told = ap (λ (o : Option Token). Ok (option_map part_of o)) (sym c.in_default.is) ∙ c.in_ok-part.ensures.answer in
    let h = from_ok s place None told in
    whole s place (vec_items c.loop-text.text) h.1 c.loop-text.invariant.1 h.0
