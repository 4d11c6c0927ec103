-- Bar codes: the kinds by their numbers, and what string each kind may have.
use Rattle.std.specs.Prelude.{◌≡◌, ℕ, ◌+◌, ◌%◌, Bool, true, cond, ◌&&◌, ◌||◌, List, [], ◌∷◌, length, Some, None, Option, Ok, Err, Result, MatchResult, ◌==◌}
use Rattle.reading.specs.Tests.{between, one_of, find}
use Rattle.reading.specs.declared.Reply.{Reply}
use Rattle.reading.specs.declared.Reply.TheVariants as reply
pub use Rattle.job.specs.declared.bars.BarKind.{BarKind}
pub use Rattle.job.specs.declared.bars.BarKind.TheVariants.{Ean13, Ean8, Standard2of5, Interleaved2of5, Code128, Code39, Code93, UpcA, Codabar, Msi, Code11}
use Rattle.job.specs.declared.bars.NoSuchKind.{NoSuchKind}
pub use Rattle.job.specs.declared.bars.BarFault.{BarFault}
use Rattle.job.specs.declared.bars.BarFault.TheVariants.{UnknownKind, WrongCharacter, WrongLength}

-- the number under which a stream names a kind
abbrev pub kind_number : BarKind → ℕ
kind_number Ean13 = 1
kind_number Ean8 = 2
kind_number Standard2of5 = 3
kind_number Interleaved2of5 = 4
kind_number Code128 = 5
kind_number Code39 = 6
kind_number Code93 = 7
kind_number UpcA = 8
kind_number Codabar = 9
kind_number Msi = 10
kind_number Code11 = 11

-- the kinds that the station prints, by number
abbrev pub bar_kinds : List (ℕ × Option BarKind)
bar_kinds =
    (1, Some Ean13) ∷ (2, Some Ean8) ∷ (3, Some Standard2of5) ∷ (4, Some Interleaved2of5) ∷ (5, Some Code128)
    ∷ (6, Some Code39) ∷ (7, Some Code93) ∷ (8, Some UpcA) ∷ (9, Some Codabar) ∷ (10, Some Msi) ∷ (11, Some Code11)
    ∷ []

-- the kind of a number; none of a number that is not in the table
abbrev pub kind_of : ℕ → Option BarKind
kind_of n = find None bar_kinds n

-- the kind of a number, or an error with a number that is not in the table
abbrev pub NamesKind : ℕ → Result BarKind NoSuchKind → Type 0
NamesKind n r = MatchResult r (λ kind. kind_of n ≡ Some kind) (λ e. (kind_of n ≡ None) × (e.0 ≡ n))

-- what is found of a bar code: nothing wrong, or its first fault
abbrev pub Verdict : Type 0
Verdict = Result (Unit {0}) BarFault

-- 0 to 9
abbrev pub is_digit : ℕ → Bool
is_digit = between 0x30 0x39

-- 0–9 A–Z - . space $ / + %
abbrev pub is_code39 : ℕ → Bool
is_code39 c = is_digit c || between 0x41 0x5A c || one_of (0x2D ∷ 0x2E ∷ 0x20 ∷ 0x24 ∷ 0x2F ∷ 0x2B ∷ 0x25 ∷ []) c

-- 01 to 7F
abbrev pub is_code128 : ℕ → Bool
is_code128 = between 0x01 0x7F

-- A to D
abbrev pub is_codabar_end : ℕ → Bool
is_codabar_end = between 0x41 0x44

-- 0–9 $ - : / . +
abbrev pub is_codabar_inner : ℕ → Bool
is_codabar_inner c = is_digit c || one_of (0x24 ∷ 0x2D ∷ 0x3A ∷ 0x2F ∷ 0x2E ∷ 0x2B ∷ []) c

-- a Codabar string has A to D at both ends, the first place and the last of n
abbrev pub is_codabar : ℕ → ℕ → ℕ → Bool
is_codabar n place c = cond (place == 0 || place + 1 == n) (is_codabar_end c) (is_codabar_inner c)

-- whether a character may stand at a place, counted from 0, of a string of n characters
abbrev pub right_character : BarKind → ℕ → ℕ → ℕ → Bool
right_character Ean13 n place c = is_digit c
right_character Ean8 n place c = is_digit c
right_character Standard2of5 n place c = is_digit c
right_character Interleaved2of5 n place c = is_digit c
right_character Code128 n place c = is_code128 c
right_character Code39 n place c = is_code39 c
right_character Code93 n place c = is_code39 c
right_character UpcA n place c = is_digit c
right_character Codabar n place c = is_codabar n place c
right_character Msi n place c = is_digit c
right_character Code11 n place c = is_digit c

-- the characters of a string of n, from a place on
abbrev pub right_from : BarKind → ℕ → ℕ → List ℕ → Bool
right_from kind n place [] = true
right_from kind n place (c ∷ s) = right_character kind n place c && right_from kind n (place + 1) s

-- every character of a string is right for its kind
abbrev pub right_characters : BarKind → List ℕ → Bool
right_characters kind s = right_from kind (length s) 0 s

-- how many characters a kind takes
abbrev pub right_length : BarKind → ℕ → Bool
right_length Ean13 n = n == 12
right_length Ean8 n = n == 7
right_length Standard2of5 n = between 1 25 n
right_length Interleaved2of5 n = between 2 24 n && n % 2 == 0
right_length Code128 n = between 1 25 n
right_length Code39 n = between 1 25 n
right_length Code93 n = between 1 25 n
right_length UpcA n = n == 11
right_length Codabar n = between 2 25 n
right_length Msi n = between 1 25 n
right_length Code11 n = between 1 25 n

-- first the kind, then the characters, then the length
abbrev pub verdict : Option BarKind → List ℕ → Verdict
verdict None s = Err UnknownKind
verdict (Some kind) s =
    cond (right_characters kind s) (cond (right_length kind (length s)) (Ok tt) (Err WrongLength)) (Err WrongCharacter)

-- what a fault answers the host
abbrev pub fault_reply : BarFault → Reply
fault_reply UnknownKind = reply.UnknownKind
fault_reply WrongCharacter = reply.WrongCharacter
fault_reply WrongLength = reply.WrongLength
