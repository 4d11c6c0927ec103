-- How a station stands behind the calls that were made to it.
use Rattle.std.specs.Prelude.{List}
use Rattle.mechanism.specs.declared.mechanism.Mechanism.{Ghosts}
use Rattle.interpreter.specs.Interpreter.{owes, state_of}
use Rattle.runs.specs.Calls.{Call}
use Rattle.runs.specs.Stands.{View, Stands, viewed}
use Rattle.station.specs.declared.station.Station.{Station}
use Rattle.station.specs.Feeding.{Extends}

-- a station behind these calls, the latest first, whose mechanism showed this view at the start
abbrev pub At : {S : Type 0} → Ghosts S → View → List Call → Station S → Type 0
At g first calls s = Stands g.need g.rule first calls (state_of s.interpreter) (owes s.interpreter) (viewed g s.mechanism)

-- whatever calls led here, one call more
abbrev pub Calling : {S : Type 0} → Ghosts S → Call → Station S → Station S → Type 0
Calling g call s t = Extends g call s.interpreter s.mechanism t.interpreter t.mechanism
