-- Plain tests on numbers, and a table read by its first column.
use Rattle.std.specs.Prelude.{ℕ, Bool, true, false, cond, ◌&&◌, ◌||◌, List, [], ◌∷◌, ◌==◌, nat_le}

-- low ≤ n ≤ high
abbrev pub between : ℕ → ℕ → ℕ → Bool
between low high n = nat_le low n && nat_le n high

-- n stands in the list
abbrev pub one_of : List ℕ → ℕ → Bool
one_of [] n = false
one_of (x ∷ xs) n = x == n || one_of xs n

-- every element passes the test
abbrev pub every : {A : Type 0} → (A → Bool) → List A → Bool
every test [] = true
every test (x ∷ xs) = test x && every test xs

-- the entry of the first row whose number is n, or else the default
abbrev pub find : {A : Type 0} → A → List (ℕ × A) → ℕ → A
find default [] n = default
find default (row ∷ table) n = cond (row.0 == n) row.1 (find default table n)
