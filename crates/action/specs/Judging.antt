-- How a bar code command is judged.
use Rattle.std.specs.Prelude.{◌≡◌, ℕ, Bool, ◌&&◌, ◌||◌, List, [], ◌∷◌, Ok, Err, Result, ◌==◌}
use Rattle.reading.specs.Tests.{between}
use Rattle.reading.specs.declared.Reply.{Reply}
use Rattle.job.specs.Actions.{Act}
use Rattle.job.specs.declared.bars.BarFault.{BarFault}
use Rattle.job.specs.BarCodes.{Verdict, fault_reply}
use Rattle.action.specs.declared.bars.Bars.{Bars}
use Rattle.action.specs.Meanings.{bars_act}

-- the width and the height of a bar code command are 0 or in range
abbrev pub size_in_range : ℕ → ℕ → Bool
size_in_range width height = (width == 0 || between 2 5 width) && (height == 0 || between 50 200 height)

-- accepted, with the bars that are ordered then; or the reply to the fault that was found
abbrev pub Judged : Verdict → List Act → Result Bars Reply → Type 0
Judged v acts (Ok b) = (v ≡ Ok tt) × (acts ≡ bars_act b ∷ [])
Judged v acts (Err r) = (f : BarFault) × (v ≡ Err f) × (r ≡ fault_reply f)
