-- Tests of every element.
use Rattle.std.proofs.Common.{◌≡◌, Bool, ◌&&◌, List, [], ◌∷◌, ◌++◌, refl, ap}
use Rattle.std.specs.List.{list_all}
use Rattle.std.proofs.lemmas.List.Folds.{list_all-append}
use Rattle.reading.specs.Tests.{every}

-- the test of every element is the library's
pub every_all : {A : Type 0} (f : A → Bool) (xs : List A) → every f xs ≡ list_all f xs
every_all f [] = refl
every_all f (x ∷ xs) = ap (λ (b : Bool). f x && b) (every_all f xs)

pub every_append : {A : Type 0} (f : A → Bool) (xs ys : List A) → every f (xs ++ ys) ≡ (every f xs && every f ys)
every_append f xs ys = cc (every_all f (xs ++ ys), list_all-append f xs ys, every_all f xs, every_all f ys)
