-- The status bytes, by the reserve and the stopped mark.
use Rattle.std.specs.Prelude.{ℕ, ◌+◌, ◌*◌, ◌^◌, Bool, true, not, ◌||◌, ◌==◌}
use Rattle.job.specs.NormalText.{flag}
use Rattle.mechanism.specs.declared.status.Status.{Status}

-- a bit, if something is so
abbrev pub bit : ℕ → Bool → ℕ
bit n b = 2 ^ n * flag b

-- by whether the reserve is 0, and the mark
abbrev pub status1_of : Bool → Bool → ℕ
status1_of empty stopped =
    bit 1 true + bit 2 true + bit 6 true + bit 3 (stopped || empty) + bit 4 (not stopped) + bit 5 empty + bit 7 stopped

abbrev pub status2_of : Bool → Bool → ℕ
status2_of empty stopped =
    bit 2 true + bit 1 empty + bit 3 stopped + bit 4 (not empty) + bit 6 (stopped || empty)

abbrev pub status_of : ℕ → Bool → Status
status_of reserve stopped = record {
  status1 = status1_of (reserve == 0) stopped;
  status2 = status2_of (reserve == 0) stopped;
}
