-- What settings stand for, and how they change.
use Rattle.std.specs.Prelude.{◌≡◌, ℕ, Bool, true, false, Result, MatchResult}
use Rattle.reading.specs.declared.Refusal.{Refusal}
use Rattle.reading.specs.declared.Refusal.TheVariants.{OutOfRange}
use Rattle.job.specs.declared.settings.Margins.{Margins}
use Rattle.job.specs.Printer as job
use Rattle.short.specs.Short.{listed}
use Rattle.settings.specs.declared.Settings.{Settings}

-- the settings that the code's settings stand for
abbrev pub settings_of : Settings → job.Settings
settings_of s = record {
  attributes = s.attributes;
  one_line_width = s.one_line_width;
  margins = s.margins;
  horizontal_stops = listed s.horizontal_stops.places;
  vertical_stops = listed s.vertical_stops.places;
  paper = s.paper;
  cutter = s.cutter;
}

-- a change in range is made; any other is refused, and the settings stay as they were
abbrev pub ChangedIf : Bool → (job.Settings → job.Settings) → Settings → Result (Unit {0}) Refusal → Settings → Type 0
ChangedIf in_range change before r after =
    MatchResult r (λ _. (in_range ≡ true) × (settings_of after ≡ change (settings_of before)))
    (λ why. (in_range ≡ false) × (why ≡ OutOfRange) × (settings_of after ≡ settings_of before))

-- another left margin
abbrev pub left_margin_moved : ℕ → Margins → Margins
left_margin_moved n m = record { columns = m.columns; left = n; right = m.right }
