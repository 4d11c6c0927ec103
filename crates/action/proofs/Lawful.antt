-- Every action means what a stream can order.
use Rattle.job.specs.Orderable.{Orderable}
use Rattle.action.specs.Meanings.{act_of}
use Rattle.action.specs.declared.actions.Action.{Action}
use Rattle.action.specs.declared.actions.Action.TheVariants.{Row, Advance, Bars, Cut, Pulse, Beep, Reply}
use Rattle.action.specs.declared.actions.Cut.TheVariants.{Total, Partial}
use Rattle.action.proofs.Decides.{orderable}

pub lawful : (a : Action) → Orderable (act_of a)
lawful (Row r) = orderable (act_of (Row r)) r.ok
lawful (Advance s) = s.ok
lawful (Bars b) = orderable (act_of (Bars b)) b.ok
lawful (Cut Total) = tt
lawful (Cut Partial) = tt
lawful Pulse = tt
lawful Beep = tt
lawful (Reply r) = tt
