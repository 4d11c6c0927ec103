-- Tickets to try: streams with their normal texts and refusals, written out.
use Rattle.std.specs.Prelude.{◌≡◌, ℕ, List, [], ◌∷◌, ◌++◌, map, replicate, ℤ, pos, negsuc}
use Rattle.std.specs.List.{flat_map}
use Rattle.reading.specs.Reading.{refusal_number}
use Rattle.job.specs.Job.{State, Run, Refused, run, new}
use Rattle.job.specs.NormalText.{normal_text}

-- a stream in pieces, its normal text, and for each piece the number and place of what is refused in it
pub record Ticket : Type 0 where
  pub pieces : List (List ℕ)
  pub normal : List ℕ
  pub refusals : List (List (ℕ × ℤ))

-- a stream in one piece, of which nothing is refused
abbrev pub accepted : List ℕ → List ℕ → Ticket
accepted s t = record { pieces = s ∷ []; normal = t; refusals = [] ∷ [] }

-- a stream that orders nothing, and what is refused in each of its pieces
abbrev pub refused_as : List (List ℕ) → List (List (ℕ × ℤ)) → Ticket
refused_as pieces refusals = record { pieces = pieces; normal = []; refusals = refusals }

-- each stream with what it must give
abbrev pub tickets : List Ticket
tickets =
    accepted [] []
    ∷ accepted (0x41 ∷ 0x0A ∷ []) (0x41 ∷ 0x1B ∷ 0x4A ∷ 0x00 ∷ 0x1B ∷ 0x4A ∷ 0x19 ∷ [])
    ∷ accepted (0x20 ∷ 0x20 ∷ 0x0A ∷ []) (0x1B ∷ 0x4A ∷ 0x19 ∷ [])
    ∷ accepted (0x1B ∷ 0x45 ∷ 0x41 ∷ 0x1B ∷ 0x46 ∷ 0x0A ∷ []) (0x1B ∷ 0x21 ∷ 0x08 ∷ 0x41 ∷ 0x1B ∷ 0x21 ∷ 0x00 ∷ 0x1B ∷ 0x4A ∷ 0x00 ∷ 0x1B ∷ 0x4A ∷ 0x19 ∷ [])
    ∷ accepted (0x09 ∷ 0x41 ∷ 0x0A ∷ []) (replicate 8 0x20 ++ 0x41 ∷ 0x1B ∷ 0x4A ∷ 0x00 ∷ 0x1B ∷ 0x4A ∷ 0x19 ∷ [])
    ∷ accepted (0x1B ∷ 0x6C ∷ 0x09 ∷ 0x41 ∷ 0x0A ∷ []) (replicate 8 0x20 ++ 0x41 ∷ 0x1B ∷ 0x4A ∷ 0x00 ∷ 0x1B ∷ 0x4A ∷ 0x19 ∷ [])
    ∷ accepted (replicate 49 0x41) (replicate 48 0x41 ++ 0x1B ∷ 0x4A ∷ 0x00 ∷ 0x1B ∷ 0x4A ∷ 0x19 ∷ [])
    ∷ accepted (0x0E ∷ 0x41 ∷ 0x0A ∷ []) (0x1B ∷ 0x21 ∷ 0x20 ∷ 0x41 ∷ 0x1B ∷ 0x21 ∷ 0x00 ∷ 0x1B ∷ 0x4A ∷ 0x00 ∷ 0x1B ∷ 0x4A ∷ 0x19 ∷ [])
    ∷ refused_as ((0x1B ∷ 0x51 ∷ 0x03 ∷ []) ∷ []) (((2, pos 0) ∷ []) ∷ [])
    ∷ accepted (0x1B ∷ 0x51 ∷ 0x04 ∷ []) []
    ∷ refused_as ((0x1B ∷ 0x7A ∷ []) ∷ []) (((1, pos 0) ∷ []) ∷ [])
    ∷ refused_as ((0x1B ∷ []) ∷ (0x7A ∷ []) ∷ []) ([] ∷ ((1, negsuc 0) ∷ []) ∷ [])
    ∷ accepted (0x1B ∷ 0x4A ∷ 0x00 ∷ []) []
    ∷ accepted (0x1B ∷ 0x6D ∷ []) (0x1B ∷ 0x6D ∷ [])
    -- a UPC-A code of ten digits, which is too short, and of eleven
    ∷ accepted (0x1B ∷ 0x62 ∷ 0x08 ∷ 0x00 ∷ 0x00 ∷ 0x00 ∷ replicate 10 0x31 ++ 0x00 ∷ []) (0x1B ∷ 0x62 ∷ 0x01 ∷ 0x00 ∷ 0x00 ∷ 0x00 ∷ 0x00 ∷ [])
    ∷ accepted (0x1B ∷ 0x62 ∷ 0x08 ∷ 0x00 ∷ 0x00 ∷ 0x00 ∷ replicate 11 0x31 ++ 0x00 ∷ []) (0x1B ∷ 0x62 ∷ 0x08 ∷ 0x02 ∷ 0x32 ∷ 0x00 ∷ replicate 11 0x31 ++ 0x00 ∷ [])
    ∷ []

-- the number and place of each refused command
abbrev pub reports : List Refused → List (ℕ × ℤ)
reports = map (λ r. (refusal_number r.0, r.1))

-- what is refused in each piece, places counted from the piece's start
abbrev pub piece_reports : State → List (List ℕ) → List (List (ℕ × ℤ))
piece_reports st [] = []
piece_reports st (s ∷ pieces) = let r : Run = run st s in reports r.refusals ∷ piece_reports r.state pieces

-- a ticket as the definitions give it
abbrev pub tried : List (List ℕ) → Ticket
tried pieces = record { pieces = pieces; normal = normal_text (flat_map (λ s. s) pieces); refusals = piece_reports new pieces }

-- every listed ticket is what the definitions give of its pieces
abbrev pub TicketsAreAsListed : Type 0
TicketsAreAsListed = map (λ t. tried t.pieces) tickets ≡ tickets
