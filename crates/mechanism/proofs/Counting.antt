-- The counts of a sheet that begins with them move as the action says.
use Rattle.std.proofs.Common.{◌≡◌, ℕ, ◌+◌, ◌%◌, ◌^◌, List, [], ◌++◌, map, length, sym, refl, ap, ◌∙◌, append-nil, arith}
use native.Mathlib.Nat.{mod-mod}
use Rattle.job.specs.Actions.{Act, row, advance, bars, total_cut, partial_cut, pulse, beep, reply}
use Rattle.mechanism.specs.Counts.{counted, first_seven, leading_counts}

-- added modulo 2^32, a number counts as what it is modulo 2^32
added : (x n : ℕ) → (x + n) % 2 ^ 32 % 2 ^ 32 ≡ (x % 2 ^ 32 + n) % 2 ^ 32
added x n = omega arith

pub seven : (s : List ℕ) → length (leading_counts s) ≡ 7
seven s = refl

pub modulo : (s : List ℕ) → map (λ n. n % 2 ^ 32) (leading_counts s) ≡ leading_counts s
modulo s = simp mod-mod

-- whatever stands behind the counts
pub move : (s rest : List ℕ) (a : Act) → leading_counts (counted (first_seven s) a ++ rest) ≡ counted (leading_counts s) a
move s rest (advance n) = simp added
move s rest (row cells) = simp added
move s rest (bars kind width height shown t) = simp added
move s rest total_cut = simp added
move s rest partial_cut = simp added
move s rest pulse = simp added
move s rest beep = simp added
move s rest (reply r) = simp added

-- with nothing behind them
pub alone : (s : List ℕ) (a : Act) → leading_counts (counted (first_seven s) a) ≡ counted (leading_counts s) a
alone s a = ap leading_counts (sym (append-nil (counted (first_seven s) a))) ∙ move s [] a
