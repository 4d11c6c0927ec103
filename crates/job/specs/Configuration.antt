-- A configuration's body: which of its 40 bytes are read, counted from 0, and what they set.
use Rattle.std.specs.Prelude.{ℕ, ◌+◌, ◌-◌, ◌*◌, Bool, cond, ◌&&◌, List, [], ◌∷◌, ◌==◌, nat_le, slice_index}
use Rattle.reading.specs.Tests.{one_of}
use Rattle.job.specs.BarCodes.{is_digit}
pub use Rattle.job.specs.declared.settings.BodySettings.{BodySettings}

-- the byte at a place of a body
abbrev pub digit_at : List ℕ → ℕ → ℕ
digit_at bs place = slice_index bs place

-- line feeds before a cut, two digits
abbrev pub lines_before_cut : List ℕ → ℕ
lines_before_cut bs = 10 * (digit_at bs 33 - 0x30) + (digit_at bs 34 - 0x30)

-- 07 cutter off or on, 08 total or partial, 10 for 48 or 34 columns, 33 and 34 lines before a cut up to 20, 35 is 1; the others are not read
abbrev pub body_in_range : List ℕ → Bool
body_in_range bs =
    one_of (0x30 ∷ 0x31 ∷ []) (digit_at bs 7) && one_of (0x30 ∷ 0x31 ∷ []) (digit_at bs 8) && one_of (0x30 ∷ 0x32 ∷ []) (digit_at bs 10)
    && is_digit (digit_at bs 33) && is_digit (digit_at bs 34) && nat_le (lines_before_cut bs) 20 && digit_at bs 35 == 0x31

-- what a body in range sets
abbrev pub body_settings : List ℕ → BodySettings
body_settings bs = record {
  columns = cond (digit_at bs 10 == 0x30) 48 34;
  cutter = record { on = (digit_at bs 7 == 0x31); partial = (digit_at bs 8 == 0x31); lines = lines_before_cut bs };
}
