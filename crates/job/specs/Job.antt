-- A stream's job.
use Rattle.std.specs.Prelude.{ℕ, Bool, true, false, List, [], ◌∷◌, ◌++◌, map, length, ℤ, pos, ◌+ℤ◌, neg_ℤ, Some, None, Option}
use Rattle.reading.specs.declared.Refusal.{Refusal}
use Rattle.reading.specs.declared.Refusal.TheVariants.{OutOfRange}
use Rattle.reading.specs.Commands.{Command}
use Rattle.reading.specs.Reading.{Reading, text, Meaning, more, done, refused, meaning}
use Rattle.reading.specs.Unfinished.{begun}
use Rattle.job.specs.Actions.{Act}
use Rattle.job.specs.Printer.{Printer, new_printer_at}
use Rattle.job.specs.Effects.{Effect}
use Rattle.job.specs.Commands.{in_range, effect}

-- an interpreter: what it is reading, and its printer
pub record State : Type 0 where
  pub reading : Reading
  pub printer : Printer

-- what a byte does: what it orders, why a command is refused at it, if one is, and the state after it
pub record Step : Type 0 where
  pub acts : List Act
  pub refusal : Option Refusal
  pub next : State

-- a refused command orders nothing and leaves the printer as it was
abbrev pub refuse : Refusal → Reading → Printer → Step
refuse why next p = record { acts = []; refusal = Some why; next = record { reading = next; printer = p } }

-- a complete command, whether it is in range, and what is read behind it
abbrev pub carry_out : Bool → Command → Reading → Printer → Step
carry_out true c next p =
    let e : Effect = effect c p in
    record { acts = e.acts; refusal = None; next = record { reading = next; printer = e.printer } }
carry_out false c next p = refuse OutOfRange next p

-- what a byte does, by what it means
abbrev pub act_on : Meaning → Printer → Step
act_on (more next) p = record { acts = []; refusal = None; next = record { reading = next; printer = p } }
act_on (done c next) p = carry_out (in_range c p) c next p
act_on (refused why next) p = refuse why next p

-- what a byte means depends on what is being read
abbrev pub step : State → ℕ → Step
step st b = act_on (meaning st.reading b) st.printer

-- a refused command: why, and the place of its first byte
abbrev pub Refused : Type 0
Refused = Refusal × ℤ

-- places counted from so many bytes earlier
abbrev pub later : ℕ → List Refused → List Refused
later n = map (λ r. (r.0, pos n +ℤ r.1))

-- a command refused at the first of some bytes: it began before that byte by what was read of it
abbrev pub refused_here : Reading → Option Refusal → List Refused
refused_here r None = []
refused_here r (Some why) = (why, neg_ℤ (pos (length (begun r)))) ∷ []

-- what bytes do, refused commands passed over: what they order, what is refused, and the state after them
pub record Run : Type 0 where
  pub acts : List Act
  -- places count from the first of these bytes
  pub refusals : List Refused
  pub state : State

-- no bytes
abbrev pub stay : State → Run
stay st = record { acts = []; refusals = []; state = st }

-- one run, and then another that begins so many bytes later
abbrev pub followed_by : Run → ℕ → Run → Run
followed_by r n q = record { acts = r.acts ++ q.acts; refusals = r.refusals ++ later n q.refusals; state = q.state }

-- one byte
abbrev pub run_byte : State → ℕ → Run
run_byte st b = let t : Step = step st b in record { acts = t.acts; refusals = refused_here st.reading t.refusal; state = t.next }

-- bytes from the first to the last
abbrev pub run : State → List ℕ → Run
run st [] = stay st
run st (b ∷ bs) = let r : Run = run_byte st b in followed_by r 1 (run r.state bs)

-- a new interpreter but for its line number
abbrev pub resting : ℕ → State
resting line = record { reading = text; printer = new_printer_at line }

-- a new interpreter
abbrev pub new : State
new = resting 1

-- the job of a stream is a new interpreter's
abbrev pub job : List ℕ → List Act
job s = (run new s).acts
