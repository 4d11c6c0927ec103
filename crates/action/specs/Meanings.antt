-- What actions mean.
use Rattle.std.specs.Prelude.{ℕ, cond, List, [], ◌∷◌, take, replicate, Some, None, Option, ◌==◌}
use Rattle.job.specs.Actions.{Act, row, advance, bars, total_cut, partial_cut, pulse, beep, reply}
use Rattle.action.specs.declared.row.Row.{Row}
use Rattle.action.specs.declared.steps.Steps.{Steps}
use Rattle.action.specs.declared.advances.Advances.{Advances}
use Rattle.action.specs.declared.bars.Bars.{Bars}
use Rattle.action.specs.declared.actions.Cut.{Cut}
use Rattle.action.specs.declared.actions.Cut.TheVariants.{Total, Partial}
use Rattle.action.specs.declared.actions.Action.{Action}
use Rattle.action.specs.declared.actions.Action.TheVariants as action
use Rattle.action.specs.declared.actions.Other.{Other}
use Rattle.action.specs.declared.actions.Other.TheVariants as other

abbrev pub row_act : Row → Act
row_act r = row r.cells

abbrev pub advance_act : Steps → Act
advance_act s = advance s.count

abbrev pub bars_act : Bars → Act
bars_act b = bars b.kind b.size.width b.size.height b.shown (take b.len b.string)

abbrev pub cut_act : Cut → Act
cut_act Total = total_cut
cut_act Partial = partial_cut

abbrev pub act_of : Action → Act
act_of (action.Row r) = row_act r
act_of (action.Advance s) = advance_act s
act_of (action.Bars b) = bars_act b
act_of (action.Cut c) = cut_act c
act_of action.Pulse = pulse
act_of action.Beep = beep
act_of (action.Reply r) = reply r

abbrev pub other_act : Other → Act
other_act (other.Bars b) = bars_act b
other_act (other.Cut c) = cut_act c
other_act other.Pulse = pulse
other_act other.Beep = beep
other_act (other.Reply r) = reply r

-- the row, if there is one
abbrev pub row_acts : Option Row → List Act
row_acts None = []
row_acts (Some r) = row_act r ∷ []

-- the advance, if there is one
abbrev pub advance_acts : Option Steps → List Act
advance_acts None = []
advance_acts (Some s) = advance_act s ∷ []

-- the equal advances, if there are any
abbrev pub advances_acts : Option Advances → List Act
advances_acts None = []
advances_acts (Some a) = replicate a.count (advance_act a.steps)

-- the other action, if there is one
abbrev pub other_acts : Option Other → List Act
other_acts None = []
other_acts (Some o) = other_act o ∷ []

-- so many equal advances; an advance of 0 steps is none
abbrev pub advances_of : ℕ → ℕ → List Act
advances_of count steps = cond (steps == 0) [] (replicate count (advance steps))
