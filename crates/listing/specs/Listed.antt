-- The listing of a stream, and what the call that makes it answers.
use Rattle.std.specs.Prelude.{◌≡◌, ℕ, ◌+◌, true, false, List, [], ◌++◌, length, Some, None}
use Rattle.stream.specs.Answers.{too_long}
use Rattle.stream.specs.Lines.{line_of, line_fault_number}
use Rattle.stream.specs.Parts.{Part, part_at}
use Rattle.listing.specs.declared.fault.ListingFault.{ListingFault}
use Rattle.listing.specs.declared.fault.ListingFault.TheVariants.{Line, OutOfMemory}

-- the listing from a place on: the line of each part, one behind the other, to the stream's end
pub data Listed (s : List ℕ) : ℕ → List ℕ → Type 0 where
  ended : {place : ℕ} → part_at s place ≡ None → Listed s place []
  one_line : {place : ℕ} {p : Part} (rest : List ℕ) → part_at s place ≡ Some p → Listed s (place + length p.bytes) rest → Listed s place (line_of place p ++ rest)

-- the text is the listing of the stream, and the only one
pub record Listing (s text : List ℕ) : Type 0 where
  pub short : too_long s ≡ false
  pub listed : Listed s 0 text
  pub only : (other : List ℕ) → Listed s 0 other → other ≡ text

-- the line of the part at a place, if there is one
abbrev pub line_at : List ℕ → ℕ → List ℕ
line_at s place = elim (part_at s place) [ Some p ↦ line_of place p | None ↦ [] ]

-- the number of a fault, and when it is reported: 6 for a stream that is too long; want of memory has no number
abbrev pub Refused : List ℕ → ListingFault → Type 0
Refused s (Line fault) = (line_fault_number fault ≡ 6) × (too_long s ≡ true)
Refused s OutOfMemory = too_long s ≡ false
