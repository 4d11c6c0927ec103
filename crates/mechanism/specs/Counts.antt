-- The seven counts: advance, rows, bars, cuts, pulses, beeps, replies.
use Rattle.std.specs.Prelude.{ℕ, ◌+◌, ◌%◌, ◌^◌, List, [], ◌∷◌, map, slice_index, slice_set}
use Rattle.job.specs.Actions.{Act, row, advance, bars, total_cut, partial_cut, pulse, beep, reply}
use Rattle.mechanism.specs.declared.counts.Counts.{Counts}

-- the place of an action's own count
abbrev pub own_count : Act → ℕ
own_count (advance n) = 0
own_count (row cells) = 1
own_count (bars kind width height shown s) = 2
own_count total_cut = 3
own_count partial_cut = 3
own_count pulse = 4
own_count beep = 5
own_count (reply r) = 6

-- what an action adds to it: the steps of an advance, else 1
abbrev pub amount : Act → ℕ
amount (advance n) = n
amount (row cells) = 1
amount (bars kind width height shown s) = 1
amount total_cut = 1
amount partial_cut = 1
amount pulse = 1
amount beep = 1
amount (reply r) = 1

-- the counts after an action: its own moves on, modulo 2^32, and the others remain
abbrev pub counted : List ℕ → Act → List ℕ
counted counts a = slice_set counts (own_count a) ((slice_index counts (own_count a) + amount a) % 2 ^ 32)

-- the counts as a list
abbrev pub tally : Counts → List ℕ
tally c = c.advance ∷ c.rows ∷ c.bars ∷ c.cuts ∷ c.pulses ∷ c.beeps ∷ c.replies ∷ []

-- the first seven numbers of a sheet
abbrev pub first_seven : List ℕ → List ℕ
first_seven s = slice_index s 0 ∷ slice_index s 1 ∷ slice_index s 2 ∷ slice_index s 3 ∷ slice_index s 4 ∷ slice_index s 5 ∷ slice_index s 6 ∷ []

-- the counts of a sheet that begins with them
abbrev pub leading_counts : List ℕ → List ℕ
leading_counts s = map (λ n. n % 2 ^ 32) (first_seven s)
