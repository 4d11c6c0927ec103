-- The bounds of settings.
use Rattle.std.proofs.Common.{ℕ, ◌≤◌, length, arith}
use Rattle.std.proofs.lemmas.List.{length-take-le}
use Rattle.job.specs.Invariants.{SettingsHold, StopsHold}
use Rattle.short.specs.Short.{listed}
use Rattle.short.specs.declared.Short.{Short}
use Rattle.settings.specs.Settings.{settings_of}
use Rattle.settings.specs.declared.Settings.{Settings}
use Rattle.settings.specs.declared.stops.Stops.{Stops}

few : {N : ℕ} (s : Short N) → length (listed s) ≤ N
few {N} s = omega (arith, length-take-le s.len s.bytes (omega (arith, s.long, s.fits)), s.fits)

stops_hold : {N most : ℕ} (s : Stops N most) → StopsHold N most (listed s.places)
stops_hold s = record { few = few s.places; rise = s.rise; in_reach = s.reach }

pub settings_hold : (s : Settings) → SettingsHold (settings_of s)
settings_hold s = record {
  margins = record { first = s.first; apart = s.apart; within = s.within; at_most = s.most };
  horizontal = stops_hold s.horizontal_stops;
  vertical = stops_hold s.vertical_stops;
  paper = record { byte = s.spaced; first = s.counted; on_page = s.paged; at_most = s.short };
  cutter = s.few;
}
