-- What a mechanism writes into a buffer that is lent to it.
use Rattle.std.specs.Prelude.{◌≡◌, ℕ, ◌+◌, ◌-◌, ◌^◌, ◌<◌, ◌≤◌, min, List, ◌++◌, length, take, drop, Some, None, Option}

-- bytes stand in a buffer from a place on, up to an end; what is before and behind them is as found
pub record Appended (found : List ℕ) (at : ℕ) (bytes : List ℕ) (end : ℕ) (out : List ℕ) : Type 0 where
  pub ends : end ≡ at + length bytes
  pub front : take end out ≡ take at found ++ bytes
  pub rest : drop end out ≡ drop end found

-- what writing bytes that need some room answers: nothing, and the buffer as it was, exactly where there is less,
-- else how many they are; they then stand at the buffer's front, with the rest as found
abbrev pub Writes : (need : ℕ) (bytes found : List ℕ) → Option ℕ → List ℕ → Type 0
Writes need bytes found None out = (length found < need) × (out ≡ found)
Writes need bytes found (Some n) out = (need ≤ length found) × Appended found 0 bytes n out

-- the room that is left in a buffer of this length behind so many bytes; no more than 2^32 - 1 bytes of it are used
abbrev pub room_left : ℕ → ℕ → ℕ
room_left size written = min size (2 ^ 32 - 1) - written
