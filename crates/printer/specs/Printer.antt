-- What a printer stands for, and what its commands do.
use Rattle.std.specs.Prelude.{◌≡◌, ℕ, Bool, true, false, List, [], Some, None, Ok, Err, Result, MatchResult, ◌==◌, nat_le}
use Rattle.std.specs.Borrow.{MutBor}
use Rattle.reading.specs.declared.Refusal.{Refusal}
use Rattle.reading.specs.declared.Refusal.TheVariants.{OutOfRange}
use Rattle.reading.specs.Commands.{Command}
use Rattle.reading.specs.Reading.{text}
use Rattle.job.specs.declared.cells.Attributes.{Attributes}
use Rattle.job.specs.Actions.{Act}
use Rattle.job.specs.Printer as job
use Rattle.job.specs.Effects.{Effect}
use Rattle.job.specs.Commands.{in_range}
use Rattle.job.specs.Job.{Step, carry_out}
use Rattle.action.specs.Columns.{columns}
use Rattle.action.specs.Owed.{owed_acts}
use Rattle.action.specs.declared.owed.Owed.{Owed}
use Rattle.settings.specs.Settings.{settings_of}
use Rattle.printer.specs.declared.Printer.{Printer}

-- its settings and its open row
abbrev pub printer_of : Printer → job.Printer
printer_of p = record { settings = settings_of p.settings; row = columns p.row }

-- an effect: what is owed after it, and the printer after it
pub record Does (f : job.Printer → Effect) (before : Printer) (owed : Owed) (after : Printer) : Type 0 where
  pub acts : owed_acts owed ≡ (f (printer_of before)).acts
  pub printer : printer_of after ≡ (f (printer_of before)).printer

-- the answer to a complete command, with what is owed and the printer after it
abbrev pub answered : Result (Unit {0}) Refusal → List Act → job.Printer → Step
answered (Ok done) acts p = record { acts = acts; refusal = None; next = record { reading = text; printer = p } }
answered (Err why) acts p = record { acts = acts; refusal = Some why; next = record { reading = text; printer = p } }

-- a complete command is carried out, or refused if it is not in range
abbrev pub Carries : Command → Printer → Result (Unit {0}) Refusal → List Act → Printer → Type 0
Carries c before r acts after =
    answered r acts (printer_of after) ≡ carry_out (in_range c (printer_of before)) c text (printer_of before)

-- an effect where nothing was owed
abbrev pub DoesAlone : (job.Printer → Effect) → Printer → Owed → Owed → Printer → Type 0
DoesAlone f before owed_before owed after = owed_acts owed_before ≡ [] → Does f before owed after

-- a complete command where nothing was owed
abbrev pub CarriesAlone : Command → Printer → Owed → Result (Unit {0}) Refusal → Owed → Printer → Type 0
CarriesAlone c before owed_before r owed after = owed_acts owed_before ≡ [] → Carries c before r (owed_acts owed) after

-- a parameter of 0 or 1 sets an attribute in place, as the first argument tells; any other is refused
abbrev pub Switches : (MutBor Attributes → Bool → MutBor Attributes → Type 0) → ℕ → Printer → Result (Unit {0}) Refusal → Printer → Type 0
Switches Sets n before r after =
    MatchResult r
    (λ _. (nat_le n 1 ≡ true) × (p : MutBor Attributes) × (q : MutBor Attributes) × (p.now ≡ before.settings.attributes) × Sets p (n == 1) q
    × (printer_of after ≡ job.change (job.with_attributes q.now) (printer_of before)))
    (λ why. (nat_le n 1 ≡ false) × (why ≡ OutOfRange) × (printer_of after ≡ printer_of before))
