-- What token answers.
use Rattle.std.specs.Prelude.{ℕ, ◌+◌, ◌≤◌, Bool, cond, List, length, IfSome, IfOk, Ok, Err, Option, Result, nat_lt}
use Rattle.std.specs.Option.{option_map}
use Rattle.stream.specs.Kind as kind
use Rattle.stream.specs.declared.parts.Token.{Token}
use Rattle.stream.specs.declared.parts.Token.TheVariants.{Text, Control, Command, Refused, Unfinished}
use Rattle.stream.specs.declared.parts.TokenFault.{TokenFault}
use Rattle.stream.specs.declared.parts.TokenFault.TheVariants.{StreamTooLong}
use Rattle.stream.specs.Parts.{Part, a_part, part_at}
use Rattle.stream.specs.Laws.{Sized}

-- the number under which a fault is reported
abbrev pub token_fault_number : TokenFault → ℕ
token_fault_number StreamTooLong = 6

-- the kind and the bytes of each case
abbrev pub part_of : Token → Part
part_of (Text b) = a_part kind.Text b.now
part_of (Control b) = a_part kind.Control b.now
part_of (Command b) = a_part kind.Command b.now
part_of (Refused b) = a_part kind.Refused b.now
part_of (Unfinished b) = a_part kind.Unfinished b.now

-- more bytes than a stream may have
abbrev pub too_long : List ℕ → Bool
too_long s = nat_lt 65536 (length s)

-- an answer, by parts and numbers
abbrev pub token_told : Result (Option Token) TokenFault → Result (Option Part) ℕ
token_told (Ok found) = Ok (option_map part_of found)
token_told (Err fault) = Err (token_fault_number fault)

-- 6 for a stream that is too long, else the next part from the place
abbrev pub token_answer : List ℕ → ℕ → Result (Option Part) ℕ
token_answer s place = cond (too_long s) (Err 6) (Ok (part_at s place))

-- a token has 1 to 42 bytes, and ends within the stream
abbrev pub Within : List ℕ → ℕ → Result (Option Token) TokenFault → Type 0
Within s place r =
    IfOk r (λ found. IfSome found (λ t. Sized (part_of t) × (place + length (part_of t).bytes ≤ length s)))
