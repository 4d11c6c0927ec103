-- The odd mechanism: its sheet is the work done, and then the counts, the last one first.
use Rattle.std.specs.Prelude.{◌≡◌, ℕ, ◌+◌, ◌-◌, ◌*◌, ◌/◌, ◌%◌, ◌^◌, min, true, List, [], ◌∷◌, map, drop, slice_index}
use Rattle.job.specs.Actions.{Act, row, advance, bars, total_cut, partial_cut, pulse, beep, reply}
use Rattle.mechanism.specs.Counts.{counted, tally}
use Rattle.odd_mechanism.specs.declared.odd.OddMechanism.{OddMechanism}

abbrev pub odd_need : Act → ℕ
odd_need (row cells) = 500
odd_need (advance n) = 2 * n + 2
odd_need (bars kind width height shown s) = 512
odd_need total_cut = 40
odd_need partial_cut = 40
odd_need pulse = 3
odd_need beep = 2
odd_need (reply r) = 1

-- seven numbers, the last one first
abbrev pub backwards : List ℕ → List ℕ
backwards s = slice_index s 6 ∷ slice_index s 5 ∷ slice_index s 4 ∷ slice_index s 3 ∷ slice_index s 2 ∷ slice_index s 1 ∷ slice_index s 0 ∷ []

abbrev pub odd_sheet : OddMechanism → List ℕ
odd_sheet m = m.work ∷ backwards (tally m.counts)

abbrev pub odd_rule : List ℕ → Act → List ℕ
odd_rule s a = (slice_index s 0 + odd_need a) % 2 ^ 32 ∷ backwards (counted (backwards (drop 1 s)) a)

abbrev pub odd_counts : List ℕ → List ℕ
odd_counts s = map (λ n. n % 2 ^ 32) (backwards (drop 1 s))

-- half of an offer, as far as the reserve can hold it
abbrev pub odd_grant : OddMechanism → ℕ → ℕ
odd_grant m offered = min (offered / 2) (2 ^ 32 - 1 - m.reserve)

-- stopped, at work, and one step before the advance count comes round
pub record Begins (m : OddMechanism) : Type 0 where
  pub sheet : odd_sheet m ≡ 77 ∷ 5 ∷ 3 ∷ 7 ∷ 0 ∷ 1 ∷ 2 ∷ 0xFFFFFFFF ∷ []
  pub reserve : m.reserve ≡ 600
  pub stopped : m.stopped ≡ true

-- half of the need is spent
pub record Took (m : OddMechanism) (a : Act) (n : OddMechanism) : Type 0 where
  pub sheet_moves : odd_sheet n ≡ odd_rule (odd_sheet m) a
  pub reserve_falls : n.reserve + odd_need a / 2 ≡ m.reserve
  pub mark_stays : n.stopped ≡ m.stopped
