-- One line more of a listing.
use Rattle.std.proofs.Common.{◌≡◌, ℕ, ◌+◌, false, List, [], ◌++◌, length, Some, None, Option, sym, refl, ap, ◌∙◌, subst, append_assoc}
use Rattle.std.proofs.lemmas.List.{append-nil}
use Rattle.stream.specs.Answers.{too_long}
use Rattle.stream.specs.Lines.{line_of}
use Rattle.stream.specs.Parts.{Part, part_at}
use Rattle.stream.proofs.Whole.{some_same, no_part}
use Rattle.listing.specs.Listed.{Listed, ended, one_line, Listing, line_at}

-- the part there, and its line
pub added : (s : List ℕ) (place : ℕ) (p : Part) (old new : List ℕ) → part_at s place ≡ Some p → new ≡ old ++ line_at s place
    → ((rest : List ℕ) → Listed s place rest → Listed s 0 (old ++ rest)) → (rest : List ℕ) → Listed s (place + length p.bytes) rest → Listed s 0 (new ++ rest)
added s place p old new e k inv rest h =
    let is : new ≡ old ++ line_of place p = k ∙ ap (λ (o : Option Part). old ++ elim o [ Some p ↦ line_of place p | None ↦ [] ]) e in
    subst (Listed s 0) (sym (ap (λ (l : List ℕ). l ++ rest) is ∙ append_assoc old (line_of place p) rest)) (inv (line_of place p ++ rest) (one_line rest e h))

-- there is one listing
one_listing : (s : List ℕ) (place : ℕ) (t u : List ℕ) → Listed s place t → Listed s place u → t ≡ u
one_listing s place _ _ (ended e) (ended k) = refl
one_listing s place _ _ (ended e) (one_line {p = q} rest k h) = absurd (no_part q (part_at s place) k e)
one_listing s place _ _ (one_line {p = p} rest e h) (ended k) = absurd (no_part p (part_at s place) e k)
one_listing s place _ _ (one_line {p = p} rest e h) (one_line {p = q} others k g) =
    let same : p ≡ q = some_same p q (part_at s place) e k in
    let after : rest ≡ others = one_listing s (place + length p.bytes) rest others h (subst (λ (x : Part). Listed s (place + length x.bytes) others) (sym same) g) in
    ap (λ (l : List ℕ). line_of place p ++ l) after ∙ ap (λ (x : Part). line_of place x ++ others) same

pub whole : (s : List ℕ) (place : ℕ) (text : List ℕ) → part_at s place ≡ None → ((rest : List ℕ) → Listed s place rest → Listed s 0 (text ++ rest)) → too_long s ≡ false → Listing s text
whole s place text e inv short =
    let all : Listed s 0 text = subst (Listed s 0) (append-nil text) (inv [] (ended e)) in
    record { short = short; listed = all; only = λ other h. one_listing s 0 other text h all }
