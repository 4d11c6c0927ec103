-- What token and line answer.
use Rattle.std.proofs.Common.{◌≡◌, ℕ, ◌+◌, ◌<◌, ◌≤◌, min, Bool, true, false, cond, List, [], ◌∷◌, length, get_or, take, drop, Ok, Err, Option, Result, sym, refl, ap, ◌∙◌, subst, arith}
use Rattle.std.proofs.lemmas.List.{length-drop, length-take}
use Rattle.std.proofs.lemmas.Bool.{cond-true}
use Rattle.std.specs.List.{prefix_len, take_while}
use Rattle.std.proofs.lemmas.List.Folds.{length-prefix_len}
use Rattle.std.proofs.lemmas.List.Sums.{prefix_len-le-length}
use Rattle.reading.specs.Reading.{Meaning, more, done, refused, text, meaning, is_text}
use Rattle.reading.proofs.Within.{Moves, moves}
use Rattle.stream.specs.declared.parts.Awaited.{Awaited}
use Rattle.stream.specs.Kind.{Extent}
use Rattle.stream.specs.Kind as kind
use Rattle.stream.specs.Answers.{too_long, token_answer}
use Rattle.stream.specs.Awaited.{awaited, outline, follow}
use Rattle.stream.specs.Laws.{Sized}
use Rattle.stream.specs.Parts.{extent, cut, first, Part, a_part, part, part_at}
use Rattle.stream.proofs.Agree.{going_on, agree}
use Rattle.stream.proofs.Description.{by_first, first_command}
use Rattle.stream.proofs.Whole.{first_there, counted, left, sized}

abbrev Answer : Type 0
Answer = Result (Option Part) ℕ

-- a command, from its first byte on
pub begins : (b : ℕ) (bs : List ℕ) (a : Awaited) → is_text b ≡ false → going_on a ≡ outline (meaning text b) → follow 1 a bs ≡ first (b ∷ bs)
begins b bs a e k = go (meaning text b) (moves text b tt) k ∙ sym (first_command b bs (meaning text b) e refl)
  where
    go : (m : Meaning) → Moves (b ∷ []) m → going_on a ≡ outline m → follow 1 a bs ≡ by_first bs m
    go (more q) w k = let same : a ≡ awaited q = cc in ap (λ (a : Awaited). follow 1 a bs) same ∙ sym (agree bs 1 q w.0)
    go (done o q) w k = absurd cc
    go (refused why q) w k = absurd cc

-- text bytes, as many as follow up to 16
text_long : (s : List ℕ) → length (take 16 (take_while is_text s)) ≡ min 16 (prefix_len is_text s)
text_long s = omega (arith, length-take 16 (take_while is_text s), length-prefix_len is_text s)

pub text_there : (s : List ℕ) → length (take 16 (take_while is_text s)) ≤ length s
text_there s = omega (arith, text_long s, prefix_len-le-length is_text s)

pub begins_text : (s : List ℕ) (n : ℕ) → 1 ≤ length s → is_text (get_or s 0 0) ≡ true → n ≡ length (take 16 (take_while is_text s)) → a_part kind.Text (take n s) ≡ part s
begins_text [] n h e k = absurd (omega arith)
begins_text (b ∷ bs) n h e k =
    let s : List ℕ = b ∷ bs in
    ap (λ (n : ℕ). a_part kind.Text (take n s)) (k ∙ text_long s)
    ∙ ap (λ (e : Extent). cut e s) (sym (cond-true (is_text b) (extent kind.Text (min 16 (prefix_len is_text s))) (by_first bs (meaning text b)) e))

-- what token answers of a part there
pub some_within : (s : List ℕ) (place : ℕ) (p : Part) → place < length s → p ≡ part (drop place s) → Sized p × (place + length p.bytes ≤ length s)
some_within s place p k e =
    let d : List ℕ = drop place s in (
      subst Sized (sym e) (sized d (left s place k)),
      omega (arith, ap (λ (p : Part). length p.bytes) e, counted d, first_there d, length-drop place s),
    )

-- what follows from token's answer
pub from_ok : (s : List ℕ) (place : ℕ) (o : Option Part) → ◌≡◌ {A = Answer} (Ok o) (token_answer s place) → (too_long s ≡ false) × (part_at s place ≡ o)
from_ok s place o e = go (too_long s) refl e
  where
    go : (t : Bool) → too_long s ≡ t → ◌≡◌ {A = Answer} (Ok o) (cond t (Err 6) (Ok (part_at s place))) → (too_long s ≡ false) × (part_at s place ≡ o)
    go true k e = absurd cc
    go false k e = (k, cc)
