-- The laws of a stream's parts.
use Rattle.std.specs.Prelude.{◌≡◌, ℕ, ◌≤◌, ◌≢◌, ◌↔◌, List, [], ◌∷◌, length, drop, Some}
use Rattle.std.specs.List.{flat_map, AllByRecursion}
use Rattle.reading.specs.Reading.{Reading, text, reading_after}
use Rattle.stream.specs.Kind.{Kind}
use Rattle.stream.specs.Kind.{Text, Control, Command, Refused, Unfinished}
use Rattle.stream.specs.Parts.{Part, part_at, Parts}
use Rattle.stream.specs.Described.{Described}

abbrev pub bytes_of : Part → List ℕ
bytes_of p = p.bytes

-- of 1 to 42 bytes
abbrev pub Sized : Part → Type 0
Sized p = (1 ≤ length p.bytes) × (length p.bytes ≤ 42)

-- no part but the last is an unfinished one
abbrev pub UnfinishedLast : List Part → Type 0
UnfinishedLast [] = Unit {0}
UnfinishedLast (p ∷ []) = Unit {0}
UnfinishedLast (p ∷ (q ∷ ps)) = (p.kind ≢ Unfinished) × UnfinishedLast (q ∷ ps)

-- behind a part of this kind a command is being read if it is unfinished, and text if it is not
abbrev pub Leaves : Kind → Reading → Type 0
Leaves Text r = r ≡ text
Leaves Control r = r ≡ text
Leaves Command r = r ≡ text
Leaves Refused r = r ≡ text
Leaves Unfinished r = r ≢ text

-- what is true of the parts of a stream from any place on
pub record Laws (s : List ℕ) (place : ℕ) : Type 0 where
  -- there are such parts
  pub parts : List Part
  pub are : Parts s place parts
  -- and no others
  pub only : (ps : List Part) → Parts s place ps → ps ≡ parts
  -- one behind the other they are the stream from that place on
  pub join : flat_map bytes_of parts ≡ drop place s
  -- none is empty, none has more than 42 bytes
  pub sized : AllByRecursion Sized parts
  pub unfinished_last : UnfinishedLast parts
  -- the first of them is told by its description
  pub described : (p : Part) → (part_at s place ≡ Some p) ↔ (Described (drop place s) p)
  -- by the bytes from its place on and nothing else
  pub from_place_on : (t : List ℕ) (at : ℕ) → drop at t ≡ drop place s → part_at t at ≡ part_at s place
  -- whoever reads text in front of it reads text behind it too, unless it is unfinished
  pub read_apart : (p : Part) → part_at s place ≡ Some p → Leaves p.kind (reading_after text p.bytes)
