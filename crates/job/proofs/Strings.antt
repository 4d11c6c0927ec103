-- The strings that a kind of bar code accepts: at most 25 bytes, none of them 00.
use Rattle.std.proofs.Common.{◌≡◌, ℕ, ◌+◌, ◌%◌, ◌<◌, ◌≤◌, Bool, true, false, cond, ◌||◌, eqb, leb, List, [], ◌∷◌, length, Some, None, Option, Ok, Err, refl, subst, ⊎_elim, arith, lit≤}
use Rattle.std.specs.List.{AllByRecursion}
use Rattle.std.proofs.lemmas.Bool.{and_parts, or_cases, leb-true, eqb-true, false≢true}
use Rattle.reading.specs.Tests.{between, one_of, every}
use Rattle.job.specs.declared.bars.BarFault.TheVariants.{WrongCharacter, WrongLength}
use Rattle.job.specs.BarCodes.{BarKind, Ean13, Ean8, Standard2of5, Interleaved2of5, Code128, Code39, Code93, UpcA, Codabar, Msi, Code11, is_digit, is_code39, is_codabar_end, is_codabar_inner, is_codabar, right_character, right_from, right_characters, right_length, verdict}

-- a byte other than 00
abbrev pub Filled : ℕ → Type 0
Filled b = (1 ≤ b) × (b < 256)

pub between_true : (low high n : ℕ) → between low high n ≡ true → (low ≤ n) × (n ≤ high)
between_true low high n e =
    let parts : (leb low n ≡ true) × (leb n high ≡ true) = and_parts (leb low n) (leb n high) e in
    (leb-true low n parts.0, leb-true n high parts.1)

filled_between : (low high c : ℕ) → 1 ≤ low → high < 256 → between low high c ≡ true → Filled c
filled_between low high c a b e = let r : (low ≤ c) × (c ≤ high) = between_true low high c e in (omega arith, omega arith)

filled_one_of : (xs : List ℕ) (c : ℕ) → every (between 1 255) xs ≡ true → one_of xs c ≡ true → Filled c
filled_one_of [] c h e = absurd (false≢true e)
filled_one_of (x ∷ xs) c h e =
    let parts : (between 1 255 x ≡ true) × (every (between 1 255) xs ≡ true) = and_parts (between 1 255 x) (every (between 1 255) xs) h in
    ⊎_elim (λ k. subst Filled (eqb-true x c k) (filled_between 1 255 x (lit≤ tt) (lit≤ tt) parts.0)) (λ k. filled_one_of xs c parts.1 k) (or_cases (eqb x c) (one_of xs c) e)

filled_digit : (c : ℕ) → is_digit c ≡ true → Filled c
filled_digit c e = filled_between 0x30 0x39 c (lit≤ tt) (lit≤ tt) e

filled_either : (x y : Bool) (c : ℕ) → (x ≡ true → Filled c) → (y ≡ true → Filled c) → (x || y) ≡ true → Filled c
filled_either x y c f g e = ⊎_elim f g (or_cases x y e)

filled_code39 : (c : ℕ) → is_code39 c ≡ true → Filled c
filled_code39 c e =
    filled_either (is_digit c || between 0x41 0x5A c) (one_of (0x2D ∷ 0x2E ∷ 0x20 ∷ 0x24 ∷ 0x2F ∷ 0x2B ∷ 0x25 ∷ []) c) c
    (filled_either (is_digit c) (between 0x41 0x5A c) c (filled_digit c) (filled_between 0x41 0x5A c (lit≤ tt) (lit≤ tt)))
    (filled_one_of (0x2D ∷ 0x2E ∷ 0x20 ∷ 0x24 ∷ 0x2F ∷ 0x2B ∷ 0x25 ∷ []) c refl)
    e

filled_codabar_inner : (c : ℕ) → is_codabar_inner c ≡ true → Filled c
filled_codabar_inner c e =
    filled_either (is_digit c) (one_of (0x24 ∷ 0x2D ∷ 0x3A ∷ 0x2F ∷ 0x2E ∷ 0x2B ∷ []) c) c (filled_digit c)
    (filled_one_of (0x24 ∷ 0x2D ∷ 0x3A ∷ 0x2F ∷ 0x2E ∷ 0x2B ∷ []) c refl)
    e

filled_codabar : (n place c : ℕ) → is_codabar n place c ≡ true → Filled c
filled_codabar n place c e = go (eqb place 0 || eqb (place + 1) n) e
  where
    go : (b : Bool) → cond b (is_codabar_end c) (is_codabar_inner c) ≡ true → Filled c
    go true k = filled_between 0x41 0x44 c (lit≤ tt) (lit≤ tt) k
    go false k = filled_codabar_inner c k

filled_character : (kind : BarKind) (n place c : ℕ) → right_character kind n place c ≡ true → Filled c
filled_character Ean13 n place c e = filled_digit c e
filled_character Ean8 n place c e = filled_digit c e
filled_character Standard2of5 n place c e = filled_digit c e
filled_character Interleaved2of5 n place c e = filled_digit c e
filled_character Code128 n place c e = filled_between 0x01 0x7F c (lit≤ tt) (lit≤ tt) e
filled_character Code39 n place c e = filled_code39 c e
filled_character Code93 n place c e = filled_code39 c e
filled_character UpcA n place c e = filled_digit c e
filled_character Codabar n place c e = filled_codabar n place c e
filled_character Msi n place c e = filled_digit c e
filled_character Code11 n place c e = filled_digit c e

filled_from : (kind : BarKind) (n place : ℕ) (s : List ℕ) → right_from kind n place s ≡ true → AllByRecursion Filled s
filled_from kind n place [] e = tt
filled_from kind n place (c ∷ s) e =
    let parts : (right_character kind n place c ≡ true) × (right_from kind n (place + 1) s ≡ true) = and_parts (right_character kind n place c) (right_from kind n (place + 1) s) e in
    (filled_character kind n place c parts.0, filled_from kind n (place + 1) s parts.1)

short_eqb : (n m : ℕ) → m ≤ 25 → eqb n m ≡ true → n ≤ 25
short_eqb n m h e = let q : n ≡ m = eqb-true n m e in omega arith

short_length : (kind : BarKind) (n : ℕ) → right_length kind n ≡ true → n ≤ 25
short_length Ean13 n e = short_eqb n 12 (lit≤ tt) e
short_length Ean8 n e = short_eqb n 7 (lit≤ tt) e
short_length Standard2of5 n e = (between_true 1 25 n e).1
short_length Interleaved2of5 n e = let h : n ≤ 24 = (between_true 2 24 n (and_parts (between 2 24 n) (eqb (n % 2) 0) e).0).1 in omega arith
short_length Code128 n e = (between_true 1 25 n e).1
short_length Code39 n e = (between_true 1 25 n e).1
short_length Code93 n e = (between_true 1 25 n e).1
short_length UpcA n e = short_eqb n 11 (lit≤ tt) e
short_length Codabar n e = (between_true 2 25 n e).1
short_length Msi n e = (between_true 1 25 n e).1
short_length Code11 n e = (between_true 1 25 n e).1

-- what an accepted string is
pub record Taken (kind : BarKind) (s : List ℕ) : Type 0 where
  pub characters : right_characters kind s ≡ true
  pub size : right_length kind (length s) ≡ true

accepted_parts : (kind : BarKind) (s : List ℕ) → verdict (Some kind) s ≡ Ok tt → Taken kind s
accepted_parts kind s e = go (right_characters kind s) (right_length kind (length s)) refl refl e
  where
    go : (x y : Bool) → right_characters kind s ≡ x → right_length kind (length s) ≡ y → cond x (cond y (Ok (tt {0})) (Err WrongLength)) (Err WrongCharacter) ≡ Ok (tt {0}) → Taken kind s
    go true true p q v = record { characters = p; size = q }
    go true false p q v = let z : ◌≡◌ {A = ℕ} 0 1 = cc in absurd (omega arith)
    go false y p q v = let z : ◌≡◌ {A = ℕ} 0 1 = cc in absurd (omega arith)

pub accepted_filled : (kind : Option BarKind) (s : List ℕ) → verdict kind s ≡ Ok tt → AllByRecursion Filled s
accepted_filled None s e = let z : ◌≡◌ {A = ℕ} 0 1 = cc in absurd (omega arith)
accepted_filled (Some kind) s e = filled_from kind (length s) 0 s (accepted_parts kind s e).characters

pub accepted_short : (kind : Option BarKind) (s : List ℕ) → verdict kind s ≡ Ok tt → length s ≤ 25
accepted_short None s e = let z : ◌≡◌ {A = ℕ} 0 1 = cc in absurd (omega arith)
accepted_short (Some kind) s e = short_length kind (length s) (accepted_parts kind s e).size
