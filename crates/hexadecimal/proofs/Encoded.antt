-- Digits are read back.
use Rattle.std.proofs.Common.{◌≡◌, ℕ, ◌+◌, ◌*◌, ◌/◌, ◌%◌, ◌<◌, [], ◌∷◌, Some, refl, ap, ◌∙◌, arith}
use Rattle.std.proofs.lemmas.Bool.Decides.{nat_tests}
use Rattle.hexadecimal.specs.Digits.{digit_value, of_digits, with_byte, digit_of, EncodesBack}

digit_back : (n : ℕ) → n < 16 → digit_value (digit_of n) ≡ Some n
digit_back n h = grind (arith, nat_tests)

pub encodes_back : EncodesBack
encodes_back [] h = refl
encodes_back (b ∷ bytes) h =
    let high : b / 16 < 16 = omega (arith, h.0) in
    let low : b % 16 < 16 = omega arith in
    let sum : 16 * (b / 16) + b % 16 ≡ b = omega arith in
    (λ i. with_byte (of_digits (digit_back (b / 16) high i) (digit_back (b % 16) low i)) (encodes_back bytes h.1 i))
    ∙ ap (λ n. Some (n ∷ bytes)) sum
