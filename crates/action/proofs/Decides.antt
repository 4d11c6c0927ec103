-- The test decides what a stream can order.
use Rattle.std.proofs.Common.{◌≡◌, ℕ, Bool, true, false, not, ◌&&◌, eqb, List, [], ◌∷◌, length, is_ok, Ok, Err, refl, ap, subst}
use mathlib.Core.Logic.{∥∥₁_elim}
use mathlib.Core.Bool.{beq, Bool-set}
use Rattle.std.proofs.lemmas.Bool.{and_parts, and_from, both_ways, not-true, not_from_false, eqb-true, eq-eqb, le-leb}
use Rattle.std.specs.Cmp.{booleans_Decides}
use Rattle.reading.specs.Tests.{between}
use Rattle.reading.specs.Reading.{is_text}
use Rattle.job.specs.declared.cells.Attributes.{Attributes}
use Rattle.job.specs.declared.cells.Cell.{Cell}
use Rattle.job.specs.declared.cells.Cell.TheVariants.{Blank, Character, Tail}
use Rattle.job.specs.Actions.{Act, row, advance, bars, total_cut, partial_cut, pulse, beep, reply}
use Rattle.job.specs.Row.{is_invisible}
use Rattle.job.specs.BarCodes.{Verdict, kind_number, kind_of, verdict}
use Rattle.job.specs.Orderable.{LaidOut, none, blank, narrow, wide, Visible, Orderable}
use Rattle.job.proofs.Strings.{between_true}
use Rattle.action.specs.Tests.{same_attributes, opens_wide, has_tail, follows, laid_behind, can_be_ordered}

attributes_equal : (s t : Attributes) → same_attributes s t ≡ true → s ≡ t
attributes_equal s t h =
    let p = and_parts (beq s.emphasised t.emphasised) _ h in
    let q = and_parts (beq s.tall t.tall) _ p.1 in
    let r = and_parts (beq s.wide t.wide) _ q.1 in
    let u = and_parts (beq s.underlined t.underlined) _ r.1 in
    let e = (booleans_Decides _ _).0 p.0 in
    let f = (booleans_Decides _ _).0 q.0 in
    let g = (booleans_Decides _ _).0 r.0 in
    let k = (booleans_Decides _ _).0 u.0 in
    let l = (booleans_Decides _ _).0 u.1 in
    λ i. record { emphasised = e i; tall = f i; wide = g i; underlined = k i; italic = l i }

attributes_same : (s : Attributes) → same_attributes s s ≡ true
attributes_same s =
    and_from _ _ ((booleans_Decides s.emphasised s.emphasised).1 refl) (and_from _ _ ((booleans_Decides s.tall s.tall).1 refl) (and_from _ _ ((booleans_Decides s.wide s.wide).1 refl)
    (and_from _ _ ((booleans_Decides s.underlined s.underlined).1 refl) ((booleans_Decides s.italic s.italic).1 refl))))

-- a character that may stand behind another column is visible
visible : (o : Bool) (code : ℕ) (a : Attributes) → (not o && (is_text code && not (is_invisible code a))) ≡ true → (o ≡ false) × Visible code a
visible o code a h =
    let p = and_parts (not o) _ h in
    let q = and_parts (is_text code) _ p.1 in
    (not-true o p.0, (q.0, not-true _ q.1))

no_tail : {A : Type 0} (c : Cell) (code : ℕ) (a : Attributes) → opens_wide c ≡ false → has_tail c code a ≡ true → A
no_tail Blank code a o h = absurd (both_ways false refl h)
no_tail (Character k s) code a o h = absurd (both_ways s.wide o (and_parts s.wide _ h).0)
no_tail (Tail k s) code a o h = absurd (both_ways false refl h)

tailed : (code : ℕ) (a : Attributes) (k : ℕ) (s : Attributes) (rest : List Cell) → Visible code a → a.wide ≡ true
    → has_tail (Character code a) k s ≡ true → LaidOut Visible rest → LaidOut Visible (Character code a ∷ (Tail k s ∷ rest))
tailed code a k s rest v w h l =
    let p = (and_parts a.wide _ h).1 in
    let q = and_parts (eqb code k) _ p in
    let P : ℕ → Type 0 = λ n. LaidOut Visible (Character code a ∷ (Tail n s ∷ rest)) in
    let Q : Attributes → Type 0 = λ u. LaidOut Visible (Character code a ∷ (Tail code u ∷ rest)) in
    subst P (eqb-true code k q.0) (subst Q (attributes_equal a s q.1) (wide v w l))

pub laid_out_from_test : (c : Cell) (cells : List Cell) → opens_wide c ≡ false → laid_behind c cells ≡ true → LaidOut Visible cells
laid_out_from_test c [] o h = none
laid_out_from_test c (Blank ∷ cells) o h = blank (laid_out_from_test Blank cells refl (and_parts (not (opens_wide c)) _ h).1)
laid_out_from_test c (Tail code a ∷ cells) o h = no_tail c code a o (and_parts (has_tail c code a) _ h).0
laid_out_from_test c (Character code a ∷ []) o h =
    let p = and_parts (follows c (Character code a)) _ h in
    narrow (visible (opens_wide c) code a p.0).1 (not-true a.wide p.1) none
laid_out_from_test c (Character code a ∷ (Blank ∷ cells)) o h =
    let p = and_parts (follows c (Character code a)) _ h in
    let w = not-true a.wide (and_parts (not a.wide) _ p.1).0 in
    narrow (visible (opens_wide c) code a p.0).1 w (laid_out_from_test (Character code a) (Blank ∷ cells) w p.1)
laid_out_from_test c (Character code a ∷ (Character k s ∷ cells)) o h =
    let p = and_parts (follows c (Character code a)) _ h in
    let w = (visible a.wide k s (and_parts (follows (Character code a) (Character k s)) _ p.1).0).0 in
    narrow (visible (opens_wide c) code a p.0).1 w (laid_out_from_test (Character code a) (Character k s ∷ cells) w p.1)
laid_out_from_test c (Character code a ∷ (Tail k s ∷ cells)) o h =
    let p = and_parts (follows c (Character code a)) _ h in
    let q = and_parts (has_tail (Character code a) k s) _ p.1 in
    tailed code a k s cells (visible (opens_wide c) code a p.0).1 (and_parts a.wide _ q.0).0 q.0 (laid_out_from_test (Tail k s) cells refl q.1)

pub test_from_laid_out : (c : Cell) {cells : List Cell} → opens_wide c ≡ false → LaidOut Visible cells → laid_behind c cells ≡ true
test_from_laid_out c o none = not_from_false (opens_wide c) o
test_from_laid_out c o (blank l) = and_from _ _ (not_from_false (opens_wide c) o) (test_from_laid_out Blank refl l)
test_from_laid_out c o (narrow {code = code} {a = a} v w l) =
    and_from _ _ (and_from _ _ (not_from_false (opens_wide c) o) (and_from _ _ v.0 (not_from_false _ v.1))) (test_from_laid_out (Character code a) w l)
test_from_laid_out c o (wide {code = code} {a = a} v w l) =
    and_from _ _ (and_from _ _ (not_from_false (opens_wide c) o) (and_from _ _ v.0 (not_from_false _ v.1)))
    (and_from _ _ (and_from _ _ w (and_from _ _ (eq-eqb code code refl) (attributes_same a))) (test_from_laid_out (Tail code a) refl l))

accepted : (v : Verdict) → is_ok v ≡ true → v ≡ Ok tt
accepted (Ok u) h = refl
accepted (Err f) h = absurd (both_ways false refl h)

from_test : (a : Act) → can_be_ordered a ≡ true → Orderable a
from_test (row cells) h =
    let p = and_parts (laid_behind Blank cells) _ h in
    let q = and_parts (eqb (length cells) 48) _ p.1 in
    (laid_out_from_test Blank cells refl p.0, eqb-true _ _ q.0, not-true _ q.1)
from_test (advance n) h = between_true 1 255 n h
from_test (bars kind width height shown s) h =
    let a = and_parts (between 2 5 width) _ h in
    let b = and_parts (between 50 200 height) _ a.1 in
    let w = between_true 2 5 width a.0 in
    let t = between_true 50 200 height b.0 in
    (w.0, w.1, t.0, t.1, accepted (verdict (kind_of (kind_number kind)) s) b.1)
from_test total_cut h = tt
from_test partial_cut h = tt
from_test pulse h = tt
from_test beep h = tt
from_test (reply r) h = tt

to_test : (a : Act) → Orderable a → can_be_ordered a ≡ true
to_test (row cells) h = and_from _ _ (test_from_laid_out Blank refl h.0) (and_from _ _ (eq-eqb _ _ h.1) (not_from_false _ h.2))
to_test (advance n) h = and_from _ _ (le-leb 1 n h.0) (le-leb n 255 h.1)
to_test (bars kind width height shown s) h =
    and_from _ _ (and_from _ _ (le-leb 2 width h.0) (le-leb width 5 h.1))
    (and_from _ _ (and_from _ _ (le-leb 50 height h.2) (le-leb height 200 h.3)) (ap is_ok h.4))
to_test total_cut h = refl
to_test partial_cut h = refl
to_test pulse h = refl
to_test beep h = refl
to_test (reply r) h = refl

-- what is merely so is so, since a test decides it
pub orderable : (a : Act) → ∥ Orderable a ∥₁ → Orderable a
orderable a e = from_test a (∥∥₁_elim e (Bool-set (can_be_ordered a) true) (to_test a))
