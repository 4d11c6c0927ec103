-- The parts of a stream join to it.
use Rattle.std.proofs.Common.{◌≡◌, ℕ, zero, suc, ◌+◌, ◌<◌, ◌≤◌, min, Bool, true, false, cond, leb, ◌≢◌, ◌↔◌, List, [], ◌∷◌, ◌++◌, length, drop, Some, None, Option, sym, refl, ap, ◌∙◌, subst, arith}
use Rattle.std.specs.List.{flat_map, prefix_len, AllByRecursion}
use Rattle.std.proofs.lemmas.List.{length-take-le, length-drop, take-append-drop, drop-drop, drop_all}
use Rattle.std.proofs.lemmas.List.Sums.{prefix_len-le-length}
use Rattle.std.proofs.lemmas.Bool.{leb-true, leb-false, le-leb, lt-leb, cond-true, cond-false}
use Rattle.reading.specs.Reading.{Meaning, more, done, refused, text, meaning, is_text, reading_after}
use Rattle.stream.specs.Kind.{Text, Unfinished}
use Rattle.stream.specs.Awaited.{awaited}
use Rattle.stream.specs.Parts.{extent, first, Part, part, part_at, Parts, none, next}
use Rattle.stream.specs.Described.{Described, text_run, control, unknown_byte, no_code, pair, unknown_pair, whole, overlong, cut_short}
use Rattle.stream.specs.Laws.{bytes_of, Sized, UnfinishedLast, Leaves, Laws}
use Rattle.stream.proofs.Apart.{read_on_bounded, part_leaves}
use Rattle.stream.proofs.Description.{by_first, coded, describe, determine}
use Rattle.stream.proofs.Followed.{complete_fits, overlong_fits, begun_fits}

-- a part has no more bytes than there are
pub first_there : (s : List ℕ) → (first s).count ≤ length s
first_there [] = omega arith
first_there (b ∷ bs) = go (is_text b) (meaning text b)
  where
    go : (t : Bool) (m : Meaning) → (cond t (extent Text (min 16 (prefix_len is_text (b ∷ bs)))) (by_first bs m)).count ≤ length (b ∷ bs)
    go true m = omega (arith, prefix_len-le-length is_text (b ∷ bs))
    go false (more q) = omega (arith, (read_on_bounded bs 1 q).most)
    go false (done o q) = omega arith
    go false (refused why q) = omega arith

-- as many as its extent says
pub counted : (s : List ℕ) → length (part s).bytes ≡ (first s).count
counted s = length-take-le (first s).count s (first_there s)

-- sizes, from the description
described_sized : (s : List ℕ) (p : Part) → Described s p → Sized p
described_sized s _ (text_run run rest j all some few stop) = (some, omega arith)
described_sized s _ (control j e k) = (omega arith, omega arith)
described_sized s _ (unknown_byte j k) = (omega arith, omega arith)
described_sized s _ (no_code j k) = (omega arith, omega arith)
described_sized s _ (pair j e k) = (omega arith, omega arith)
described_sized s _ (unknown_pair j e k) = (omega arith, omega arith)
described_sized s _ (whole {b = b} {c = c} front rest {r = r} {q = q} j e k w) = (omega arith, omega (arith, complete_fits (awaited q) front (coded b c r q e k).fits w))
described_sized s _ (overlong {b = b} {c = c} front rest {r = r} {q = q} j e k w) = (omega arith, omega (arith, overlong_fits (awaited q) front (coded b c r q e k).fits w))
described_sized s _ (cut_short {b = b} {c = c} {front = front} {r = r} {q = q} j e k w) = (omega arith, omega (arith, begun_fits (awaited q) front (coded b c r q e k).fits w))

-- an unfinished part is all there is
unfinished_whole : (s : List ℕ) (p : Part) → Described s p → p.kind ≡ Unfinished → p.bytes ≡ s
unfinished_whole s _ (no_code j k) u = sym j
unfinished_whole s _ (cut_short j e k w) u = sym j
unfinished_whole s _ (text_run run rest j all some few stop) u = absurd cc
unfinished_whole s _ (control j e k) u = absurd cc
unfinished_whole s _ (unknown_byte j k) u = absurd cc
unfinished_whole s _ (pair j e k) u = absurd cc
unfinished_whole s _ (unknown_pair j e k) u = absurd cc
unfinished_whole s _ (whole front rest j e k w) u = absurd cc
unfinished_whole s _ (overlong front rest j e k w) u = absurd cc

pub sized : (s : List ℕ) → 1 ≤ length s → Sized (part s)
sized s h = described_sized s (part s) (describe s h)

-- where there is a part, and where there is none
pub from_some : (s : List ℕ) (place : ℕ) (p : Part) → part_at s place ≡ Some p → (place < length s) × (part (drop place s) ≡ p)
from_some s place p e = go (leb (length s) place) refl e
  where
    go : (t : Bool) → leb (length s) place ≡ t → cond t None (Some (part (drop place s))) ≡ Some p → (place < length s) × (part (drop place s) ≡ p)
    go true k e = absurd cc
    go false k e = (leb-false (length s) place k, cc)

from_none : (s : List ℕ) (place : ℕ) → part_at s place ≡ None → length s ≤ place
from_none s place e = go (leb (length s) place) refl e
  where
    go : (t : Bool) → leb (length s) place ≡ t → cond t None (Some (part (drop place s))) ≡ None → length s ≤ place
    go true k e = leb-true (length s) place k
    go false k e = absurd cc

pub at_end : (s : List ℕ) (place : ℕ) → length s ≤ place → part_at s place ≡ None
at_end s place h = cond-true (leb (length s) place) None (Some (part (drop place s))) (le-leb (length s) place h)

pub before_end : (s : List ℕ) (place : ℕ) → place < length s → part_at s place ≡ Some (part (drop place s))
before_end s place h = cond-false (leb (length s) place) None (Some (part (drop place s))) (lt-leb (length s) place h)

pub left : (s : List ℕ) (place : ℕ) → place < length s → 1 ≤ length (drop place s)
left s place h = omega (arith, length-drop place s)

-- the parts from a place on
record Split (s : List ℕ) (place : ℕ) (ps : List Part) : Type 0 where
  join : flat_map bytes_of ps ≡ drop place s
  all_sized : AllByRecursion Sized ps
  last : UnfinishedLast ps

unfinished_at_end : (s : List ℕ) (place : ℕ) (p q : Part) (ps : List Part) → part_at s place ≡ Some p → Parts s (place + length p.bytes) (q ∷ ps) → p.kind ≢ Unfinished
unfinished_at_end s place p q ps e (next k rest) u =
    let h = from_some s place p e in
    let d : Described (drop place s) p = subst (Described (drop place s)) h.1 (describe (drop place s) (left s place h.0)) in
    omega (arith, (from_some s (place + length p.bytes) q k).0, ap length (unfinished_whole (drop place s) p d u), length-drop place s)

one_more : (s : List ℕ) (place : ℕ) (p : Part) (ps : List Part) → part_at s place ≡ Some p → Parts s (place + length p.bytes) ps
    → UnfinishedLast ps → UnfinishedLast (p ∷ ps)
one_more s place p [] e rest h = tt
one_more s place p (q ∷ ps) e rest h = (unfinished_at_end s place p q ps e rest, h)

split : (s : List ℕ) (place : ℕ) (ps : List Part) → Parts s place ps → Split s place ps
split s place _ (none e) = record { join = sym (drop_all place s (from_none s place e)); all_sized = tt; last = tt }
split s place _ (next {p = p} {ps = ps} e rest) =
    let h = from_some s place p e in
    let d : List ℕ = drop place s in
    let after = split s (place + length p.bytes) ps rest in
    let n : length p.bytes ≡ (first d).count = ap (λ (q : Part). length q.bytes) (sym h.1) ∙ counted d in
    record {
      join =
          ap (λ (x : List ℕ). p.bytes ++ x) after.join
          ∙ ap (λ (x : List ℕ). p.bytes ++ x) (sym (drop-drop (length p.bytes) place s))
          ∙ ap (λ (k : ℕ). p.bytes ++ drop k d) n
          ∙ ap (λ (q : Part). q.bytes ++ drop (first d).count d) (sym h.1)
          ∙ take-append-drop (first d).count d;
      all_sized = (subst Sized h.1 (sized d (left s place h.0)), after.all_sized);
      last = one_more s place p ps e rest after.last;
    }

exists : (s : List ℕ) (fuel place : ℕ) → length s ≤ place + fuel → (ps : List Part) × Parts s place ps
exists s zero place h = ([], none (at_end s place (omega arith)))
exists s (suc fuel) place h = go (leb (length s) place) refl (λ k. exists s fuel (place + length (part (drop place s)).bytes) (omega (arith, (sized (drop place s) (left s place k)).0)))
  where
    go : (t : Bool) → leb (length s) place ≡ t → (place < length s → (ps : List Part) × Parts s (place + length (part (drop place s)).bytes) ps) → (ps : List Part) × Parts s place ps
    go true e f = ([], none (at_end s place (leb-true (length s) place e)))
    go false e f = let r = f (leb-false (length s) place e) in (part (drop place s) ∷ r.0, next (before_end s place (leb-false (length s) place e)) r.1)

pub some_same : (p q : Part) (o : Option Part) → o ≡ Some p → o ≡ Some q → p ≡ q
some_same p q o e k = cc

pub no_part : (p : Part) (o : Option Part) → o ≡ Some p → o ≡ None → ⊥
no_part p o e k = cc

one_way : (s : List ℕ) (place : ℕ) (ps qs : List Part) → Parts s place ps → Parts s place qs → ps ≡ qs
one_way s place _ _ (none e) (none k) = refl
one_way s place _ _ (none e) (next {p = q} k rest) = absurd (no_part q (part_at s place) k e)
one_way s place _ _ (next {p = p} e rest) (none k) = absurd (no_part p (part_at s place) e k)
one_way s place _ _ (next {p = p} {ps = ps} e rest) (next {p = q} {ps = qs} k others) =
    let same : p ≡ q = some_same p q (part_at s place) e k in
    let after : ps ≡ qs = one_way s (place + length p.bytes) ps qs rest (subst (λ (x : Part). Parts s (place + length x.bytes) qs) (sym same) others) in
    ap (λ (x : Part). x ∷ ps) same ∙ ap (λ (l : List Part). q ∷ l) after

described : (s : List ℕ) (place : ℕ) (p : Part) → (part_at s place ≡ Some p) ↔ (Described (drop place s) p)
described s place p = (
  λ e. let h = from_some s place p e in subst (Described (drop place s)) h.1 (describe (drop place s) (left s place h.0)),
  λ d. let h = determine (drop place s) p d in before_end s place (omega (arith, h.some, length-drop place s)) ∙ ap Some h.is,
)

-- a part at a place is a part of the bytes from there on
from_there : (s : List ℕ) (place : ℕ) → part_at s place ≡ part_at (drop place s) 0
from_there s place = go (leb (length s) place) refl
  where
    go : (t : Bool) → leb (length s) place ≡ t → cond t None (Some (part (drop place s))) ≡ part_at (drop place s) 0
    go true e = sym (at_end (drop place s) 0 (omega (arith, leb-true (length s) place e, length-drop place s)))
    go false e = sym (before_end (drop place s) 0 (omega (arith, leb-false (length s) place e, length-drop place s)))

pub laws : (s : List ℕ) (place : ℕ) → Laws s place
laws s place =
    let ps = exists s (length s) place (omega arith) in
    let h : Split s place ps.0 = split s place ps.0 ps.1 in
    record {
      parts = ps.0;
      are = ps.1;
      only = λ qs k. one_way s place qs ps.0 k ps.1;
      join = h.join;
      sized = h.all_sized;
      unfinished_last = h.last;
      described = described s place;
      from_place_on = λ t at e. from_there t at ∙ ap (λ (l : List ℕ). part_at l 0) e ∙ sym (from_there s place);
      read_apart = λ p e. let k = from_some s place p e in
          subst (λ (p : Part). Leaves p.kind (reading_after text p.bytes)) k.1 (part_leaves (drop place s) (left s place k.0));
    }
