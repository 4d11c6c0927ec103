-- Tests of lists of stops, and what is found in one, as folds of the library.
use Rattle.std.proofs.Common.{◌≡◌, ℕ, ◌+◌, ◌<◌, Bool, true, false, ◌&&◌, cond, ltb, List, [], ◌∷◌, map, None, Some, Option, MatchOption, option_map, sym, subst, refl, ap, arith}
use Rattle.std.proofs.lemmas.Bool.Decides.{nat_tests}
use Rattle.std.specs.List.{find, list_all, zip}
use Rattle.job.specs.Changes.{rising}
use Rattle.job.specs.Row.{next_beyond}

-- each stop beside the one before it
pub rising_pairs : (n : ℕ) (xs : List ℕ) → rising n xs ≡ list_all (λ p. ltb p.0 p.1) (zip (n ∷ xs) xs)
rising_pairs n [] = refl
rising_pairs n (x ∷ xs) = ap (λ (b : Bool). ltb n x && b) (rising_pairs x xs)

-- the place k beyond n, or nothing where k is 0
abbrev pub IsPlace : ℕ → ℕ → Option ℕ → Type 0
IsPlace n k r = MatchOption r (k ≡ 0) (λ place. (place ≡ k) × (n < place))

found : (o n : ℕ) (xs : List ℕ) → IsPlace n (next_beyond o n xs) (find (λ k. ltb n k) (map (λ x. o + x) xs))
found o n [] = refl
found o n (x ∷ xs) = go (ltb n (o + x)) refl (found o n xs)
  where
    go : (b : Bool) → ltb n (o + x) ≡ b → IsPlace n (next_beyond o n xs) (find (λ k. ltb n k) (map (λ y. o + y) xs))
        → IsPlace n (cond b (o + x) (next_beyond o n xs)) (cond b (Some (o + x)) (find (λ k. ltb n k) (map (λ x. o + x) xs)))
    go true e rest = (refl, grind (arith, nat_tests))
    go false e rest = rest

-- what is found among the stops' places
pub first_place : (o n : ℕ) (xs : List ℕ) (r : Option ℕ) → option_map (λ k. k) r ≡ find (λ k. ltb n k) (map (λ x. o + x) xs) → IsPlace n (next_beyond o n xs) r
first_place o n xs None e = subst (IsPlace n (next_beyond o n xs)) (sym e) (found o n xs)
first_place o n xs (Some k) e = subst (IsPlace n (next_beyond o n xs)) (sym e) (found o n xs)
