-- Bytes written in hexadecimal: two digits each, 0 to 9 and A to F, nothing between them.
use Rattle.std.specs.Prelude.{◌≡◌, ℕ, ◌+◌, ◌-◌, ◌*◌, ◌/◌, ◌%◌, ◌<◌, cond, ◌&&◌, List, [], ◌∷◌, Some, None, Option, nat_le, nat_lt}
use Rattle.std.specs.Option.{option_map}
use Rattle.std.specs.List.{flat_map, AllByRecursion}
use Rattle.hexadecimal.specs.declared.fault.HexFault.{HexFault}
use Rattle.hexadecimal.specs.declared.fault.HexFault.TheVariants.{NotHexadecimal, OutOfMemory}

-- the value of a digit, if it is one
abbrev pub digit_value : ℕ → Option ℕ
digit_value c = cond (nat_le 0x30 c && nat_le c 0x39) (Some (c - 0x30)) (cond (nat_le 0x41 c && nat_le c 0x46) (Some (c - 0x37)) None)

-- the value of two digits, if they are digits
abbrev pub of_digits : Option ℕ → Option ℕ → Option ℕ
of_digits None low = None
of_digits (Some h) None = None
of_digits (Some h) (Some l) = Some (16 * h + l)

abbrev pub byte_value : ℕ → ℕ → Option ℕ
byte_value a b = of_digits (digit_value a) (digit_value b)

-- one byte in front
abbrev pub with_byte : Option ℕ → Option (List ℕ) → Option (List ℕ)
with_byte None bytes = None
with_byte (Some n) bytes = option_map (λ (bs : List ℕ). n ∷ bs) bytes

-- the bytes that a text writes, if it writes any
abbrev pub decoded : List ℕ → Option (List ℕ)
decoded [] = Some []
decoded (a ∷ []) = None
decoded (a ∷ (b ∷ text)) = with_byte (byte_value a b) (decoded text)

-- why a text is not decoded
abbrev pub Undecoded : List ℕ → HexFault → Type 0
Undecoded text NotHexadecimal = decoded text ≡ None
Undecoded text OutOfMemory = Unit {0}

-- the digit of a value below 16
abbrev pub digit_of : ℕ → ℕ
digit_of n = cond (nat_lt n 10) (0x30 + n) (0x41 - 10 + n)

-- the two digits of a byte
abbrev pub two_digits : ℕ → List ℕ
two_digits b = digit_of (b / 16) ∷ digit_of (b % 16) ∷ []

-- bytes in hexadecimal
abbrev pub encoded : List ℕ → List ℕ
encoded = flat_map two_digits

-- bytes in hexadecimal are decoded to those bytes
abbrev pub EncodesBack : Type 0
EncodesBack = (bytes : List ℕ) → AllByRecursion (λ b. b < 256) bytes → decoded (encoded bytes) ≡ Some bytes
