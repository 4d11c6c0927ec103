use Rattle.std.proofs.Common.{ℕ, ◌-◌, ◌≤◌, List, ◌++◌, length, vec_items}
use Rattle.listing.specs.Listed.{Listed}
use Rattle.listing.proofs.listing.Given as goal

-- what is written and the listing of what is left are the listing of the whole
abbrev pub invariant-loop-text : goal.invariant-loop-text
invariant-loop-text l =
    (l.place ≤ length l.stream)
    × ((rest : List ℕ) → Listed l.stream l.place rest → Listed l.stream 0 (vec_items l.text ++ rest))

abbrev pub decreases-loop-text : goal.decreases-loop-text
decreases-loop-text l = length l.stream - l.place
