-- The parts of a stream: text, single bytes, complete commands, refused ones, and an unfinished tail.
use Rattle.std.specs.Prelude.{◌≡◌, ℕ, ◌+◌, min, cond, List, [], ◌∷◌, length, take, drop, Some, None, Option, nat_le}
use Rattle.std.specs.List.{prefix_len}
use Rattle.reading.specs.Reading.{Reading, text, more, done, refused, meaning, is_text}
use Rattle.stream.specs.Kind.{Kind}
use Rattle.stream.specs.Kind.{Text, Control, Command, Refused, Unfinished}
use Rattle.stream.specs.Kind.{Extent}

-- the letter of a kind in a listing: T, C, E, X, U
abbrev pub letter : Kind → ℕ
letter Text = 0x54
letter Control = 0x43
letter Command = 0x45
letter Refused = 0x58
letter Unfinished = 0x55

-- a kind, and how many bytes it has
abbrev pub extent : Kind → ℕ → Extent
extent k n = record { kind = k; count = n }

-- a command of which n bytes are read, followed by these: how it ends, and with how many bytes
abbrev pub read_on : ℕ → Reading → List ℕ → Extent
read_on n r [] = extent Unfinished n
read_on n r (b ∷ bs) =
    elim (meaning r b) [ more q ↦ read_on (n + 1) q bs | done o q ↦ extent Command (n + 1) | refused why q ↦ extent Refused (n + 1) ]

-- how the bytes begin: text bytes, as many as follow up to 16; else a command, which may be a single byte
abbrev pub first : List ℕ → Extent
first [] = extent Unfinished 0
first (b ∷ bs) =
    cond (is_text b)
    (extent Text (min 16 (prefix_len is_text (b ∷ bs))))
    (elim (meaning text b) [ more q ↦ read_on 1 q bs | done o q ↦ extent Control 1 | refused why q ↦ extent Refused 1 ])

-- a part: its kind and its bytes
pub record Part : Type 0 where
  pub kind : Kind
  pub bytes : List ℕ

abbrev pub a_part : Kind → List ℕ → Part
a_part k bs = record { kind = k; bytes = bs }

-- the part of that kind with so many of the bytes
abbrev pub cut : Extent → List ℕ → Part
cut e s = a_part e.kind (take e.count s)

-- the part that the bytes begin with
abbrev pub part : List ℕ → Part
part s = cut (first s) s

-- the next part from a place; nothing from the end on
abbrev pub part_at : List ℕ → ℕ → Option Part
part_at s place = cond (nat_le (length s) place) None (Some (part (drop place s)))

-- the parts from a place on, each beginning where the one before it ends
pub data Parts (s : List ℕ) : ℕ → List Part → Type 0 where
  none : {place : ℕ} → part_at s place ≡ None → Parts s place []
  next : {place : ℕ} {p : Part} {ps : List Part} → part_at s place ≡ Some p → Parts s (place + length p.bytes) ps → Parts s place (p ∷ ps)
