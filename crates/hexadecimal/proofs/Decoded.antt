-- One byte more of a text that is decoded.
use Rattle.std.proofs.Common.{◌≡◌, ℕ, ◌-◌, List, [], ◌∷◌, ◌++◌, length, get_or, take, drop, Some, None, Option, sym, refl, ap, ◌∙◌, append_assoc, arith}
use Rattle.std.proofs.lemmas.List.{take_all}
use Rattle.std.specs.Option.{option_map}
use Rattle.hexadecimal.specs.Digits.{digit_value, of_digits, byte_value, with_byte, decoded}

moved : (front : List ℕ) (v : ℕ) (o : Option (List ℕ)) → option_map (λ (bs : List ℕ). front ++ bs) (with_byte (Some v) o) ≡ option_map (λ (bs : List ℕ). (front ++ v ∷ []) ++ bs) o
moved front v None = refl
moved front v (Some bs) = ap Some (sym (append_assoc front (v ∷ []) bs))

no_low : (high : Option ℕ) → of_digits high None ≡ None
no_low None = refl
no_low (Some h) = refl

pub one_more : (text front new : List ℕ) (v : ℕ) (whole : Option (List ℕ)) → Some v ≡ byte_value (get_or text 0 0) (get_or text 1 0)
    → whole ≡ option_map (λ (bs : List ℕ). front ++ bs) (decoded text) → new ≡ front ++ v ∷ []
    → whole ≡ option_map (λ (bs : List ℕ). new ++ bs) (decoded (take (length text - 2) (drop 2 text)))
one_more [] front new v whole e k n = absurd cc
one_more (a ∷ []) front new v whole e k n = let none : Some v ≡ None = e ∙ no_low (digit_value a) in absurd cc
one_more (a ∷ (b ∷ text)) front new v whole e k n =
    let rest : take (length (a ∷ (b ∷ text)) - 2) text ≡ text = take_all (length (a ∷ (b ∷ text)) - 2) text (omega arith) in
    k ∙ ap (λ (o : Option ℕ). option_map (λ (bs : List ℕ). front ++ bs) (with_byte o (decoded text))) (sym e)
    ∙ moved front v (decoded text)
    ∙ ap (λ (l : List ℕ). option_map (λ (bs : List ℕ). l ++ bs) (decoded text)) (sym n)
    ∙ ap (λ (l : List ℕ). option_map (λ (bs : List ℕ). new ++ bs) (decoded l)) (sym rest)
