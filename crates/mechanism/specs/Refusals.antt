-- When an action is refused.
use Rattle.std.specs.Prelude.{◌≡◌, ℕ, ◌<◌, ◌≤◌, Bool, true, false, Ok, Err, Result}
use Rattle.job.specs.Actions.{Act, row, advance, bars, total_cut, partial_cut, pulse, beep, reply}
use Rattle.mechanism.specs.declared.fault.Fault.{Fault}
use Rattle.mechanism.specs.declared.fault.Fault.TheVariants.{Stopped, ShortReserve}

-- the number under which a refusal is reported
abbrev pub fault_number : Fault → ℕ
fault_number Stopped = 4
fault_number ShortReserve = 5

abbrev pub is_reply : Act → Bool
is_reply (row cells) = false
is_reply (advance n) = false
is_reply (bars kind width height shown s) = false
is_reply total_cut = false
is_reply partial_cut = false
is_reply pulse = false
is_reply beep = false
is_reply (reply r) = true

-- why an action of this need is refused at this reserve and stopped mark: first for the mark, then for the reserve
abbrev pub Barred : (need reserve : ℕ) (stopped : Bool) → Act → Fault → Type 0
Barred need reserve stopped a Stopped = (stopped ≡ true) × (is_reply a ≡ false)
Barred need reserve stopped a ShortReserve = (stopped ≡ true → is_reply a ≡ true) × (reserve < need)

-- it is not refused
abbrev pub Free : (need reserve : ℕ) (stopped : Bool) → Act → Type 0
Free need reserve stopped a = (stopped ≡ true → is_reply a ≡ true) × (need ≤ reserve)

-- the answer says which of the two is so
abbrev pub Admitted : (need reserve : ℕ) (stopped : Bool) → Act → Result Unit Fault → Type 0
Admitted need reserve stopped a (Ok _) = Free need reserve stopped a
Admitted need reserve stopped a (Err f) = Barred need reserve stopped a f
