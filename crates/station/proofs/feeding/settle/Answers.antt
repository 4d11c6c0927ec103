use Rattle.std.proofs.Common.{Err, sym, ap, ◌∙◌, subst}
use Rattle.interpreter.specs.Interpreter.{owes}
use Rattle.runs.proofs.Settling.{settling_stuck}
use Rattle.runs.proofs.Exits.{at_exit}
use Rattle.runs.specs.Offers.{Settled}
use Rattle.action.specs.declared.owed.Owed.{Owed}
use Rattle.action.specs.Owed.{owed_acts}
use Rattle.station.specs.Feeding.{Settles}
use Rattle.station.proofs.feeding.settle.Goals as goal

pub returns-in_err-act : goal.returns-in_err-act
returns-in_err-act g c =
    let m = g.M.Mechanism in
    let f = c.in_err-act.field-0.0 in
    let h = c.in_err-act.ensures in
    let next = ap (λ (o : Owed). owed_acts o) (sym c.owed.ensures) ∙ c.in-Some.ensures in
    let P : g.row.M.Denot → Type 0 = λ n. Settled m (owes c.args.interpreter.now) c.args.mechanism.now (Err f) (owes c.loop-action.interpreter) n in
    at_exit (λ r. Settles m c.args.interpreter.now c.args.mechanism.now r c.loop-action.interpreter c.act.new.self) c.from_residual.result f c.from_residual.ensures.1
    (record { settled = subst P (sym h.1) (settling_stuck m _ _ _ _ _ _ f c.loop-action.invariant.0 next h.0); state = c.loop-action.invariant.1 })
