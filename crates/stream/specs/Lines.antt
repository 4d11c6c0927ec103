-- A part's line in a listing: its place, the letter of its kind, its bytes.
use Rattle.std.specs.Prelude.{ℕ, ◌+◌, ◌/◌, ◌%◌, ◌≤◌, Bool, cond, List, [], ◌∷◌, ◌++◌, length, drop, IfSome, IfOk, Some, None, Ok, Err, Option, Result, nat_lt}
use Rattle.std.specs.List.{flat_map}
use Rattle.std.specs.Option.{option_map}
use Rattle.hexadecimal.specs.Digits.{two_digits}
use Rattle.stream.specs.declared.parts.LineFault.{LineFault}
use Rattle.stream.specs.declared.parts.LineFault.TheVariants.{Token, BufferTooShort}
use Rattle.stream.specs.Answers.{token_fault_number, too_long}
use Rattle.stream.specs.Parts.{letter, Part, part_at}

-- the number under which a fault is reported
abbrev pub line_fault_number : LineFault → ℕ
line_fault_number (Token fault) = token_fault_number fault
line_fault_number BufferTooShort = 5

-- the last decimal digit of a number
abbrev pub decimal : ℕ → ℕ
decimal n = 0x30 + n % 10

-- a space and two hexadecimal digits
abbrev pub hex : ℕ → List ℕ
hex b = 0x20 ∷ two_digits b

-- the place in five digits, a space and the letter
abbrev pub head : ℕ → ℕ → List ℕ
head place l = decimal (place / 10000) ∷ decimal (place / 1000) ∷ decimal (place / 100) ∷ decimal (place / 10) ∷ decimal place ∷ 0x20 ∷ l ∷ []

abbrev pub line_text : ℕ → ℕ → List ℕ → List ℕ
line_text place l bs = (head place l ++ flat_map hex bs) ++ (0x0A ∷ [])

-- the line of a part
abbrev pub line_of : ℕ → Part → List ℕ
line_of place p = line_text place (letter p.kind) p.bytes

-- fewer bytes than the longest line has
abbrev pub too_short : List ℕ → Bool
too_short out = nat_lt (length out) 134

-- an answer, by lengths and numbers
abbrev pub line_told : Result (Option ℕ) LineFault → Result (Option ℕ) ℕ
line_told (Ok written) = Ok written
line_told (Err fault) = Err (line_fault_number fault)

-- 6 for a stream that is too long, then 5 for a buffer below 134 bytes, else the length of the next part's line, if there is one
abbrev pub line_answer : List ℕ → ℕ → List ℕ → Result (Option ℕ) ℕ
line_answer s place out =
    cond (too_long s) (Err 6) (cond (too_short out) (Err 5) (Ok (option_map (λ p. length (line_of place p)) (part_at s place))))

-- a buffer with the line of a part in front, the rest as found
abbrev pub with_line : ℕ → Option Part → List ℕ → List ℕ
with_line place None out = out
with_line place (Some p) out = line_of place p ++ drop (length (line_of place p)) out

-- what the buffer holds at the end
abbrev pub line_left : List ℕ → ℕ → List ℕ → List ℕ
line_left s place out = cond (too_long s) out (cond (too_short out) out (with_line place (part_at s place) out))

-- a line has at most 134 bytes
abbrev pub FitsALine : Result (Option ℕ) LineFault → Type 0
FitsALine r = IfOk r (λ written. IfSome written (λ n. n ≤ 134))
