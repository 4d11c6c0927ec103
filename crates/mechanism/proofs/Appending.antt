-- Bytes written into a buffer, one after another.
use Rattle.std.proofs.Common.{◌≡◌, ℕ, ◌+◌, ◌-◌, ◌≤◌, List, [], ◌++◌, length, take, drop, sym, ap, ◌∙◌, append_assoc, append-nil, arith, length-append, length-drop, length-take}
use borrow.Rule.Slice.PartMut.{put_mid}
use Rattle.std.proofs.lemmas.List.{take_at, drop_at, take_rest, drop_all, drop-drop, take-append-drop}
use Rattle.std.proofs.lemmas.Slice.{take-put_mid, drop-put_mid}
use Rattle.mechanism.specs.Buffers.{Appended}

-- what is the same from a place on is the same from a later one on
pub same_further : (m n : ℕ) (xs ys : List ℕ) → m ≤ n → drop m xs ≡ drop m ys → drop n xs ≡ drop n ys
same_further m n xs ys h e =
    let s : n ≡ m + (n - m) = omega arith in
    ap (λ k. drop k xs) s ∙ sym (drop-drop (n - m) m xs) ∙ ap (drop (n - m)) e ∙ drop-drop (n - m) m ys ∙ ap (λ k. drop k ys) (sym s)

pub next : {o p q s t : List ℕ} {a b c : ℕ} → Appended o a s b p → Appended p b t c q → Appended o a (s ++ t) c q
next {o} {p} {q} {s} {t} {a} {b} {c} f g = record {
  ends = g.ends ∙ omega (arith, f.ends, length-append s t);
  front = g.front ∙ ap (λ l. l ++ t) f.front ∙ append_assoc (take a o) s t;
  rest = g.rest ∙ same_further b c p o (omega (arith, g.ends)) f.rest;
}

-- the same bytes, said otherwise
pub spelt : {o q s t : List ℕ} {a c : ℕ} → s ≡ t → Appended o a s c q → Appended o a t c q
spelt {o} {q} {s} {t} {a} {c} e f = record { ends = f.ends ∙ ap (λ l. a + length l) e; front = f.front ∙ ap (λ l. take a o ++ l) e; rest = f.rest }

-- bytes written into the part of a buffer that is as long as they are
pub placed : (out : List ℕ) (at end : ℕ) (written bytes : List ℕ) → written ≡ bytes → end ≡ at + length bytes → end ≤ length out
    → Appended out at bytes end (put_mid at (end - at) out written)
placed out at end written bytes e l h =
    let w : length written ≡ length bytes = ap length e in
    record {
      ends = l;
      front = take-put_mid at (end - at) out written end (omega arith) (omega arith) ∙ ap (λ p. take at out ++ p) e;
      rest = drop-put_mid at (end - at) out written end (omega arith) (omega arith) (omega arith);
    }

pub placed_length : (out : List ℕ) (at end : ℕ) (written : List ℕ) → end ≡ at + length written → end ≤ length out
    → length (put_mid at (end - at) out written) ≡ length out
placed_length out at end written e h = simp (length-append, length-take, length-drop) (omega arith)

-- bytes written at the front of a buffer's tail, which was lent from a place on
module _ (xs : List ℕ) (len : ℕ) (t : List ℕ) (n : ℕ) (ys : List ℕ) (h : len + length t ≤ length xs)
    (a : Appended (take (length xs - len) (drop len xs)) 0 t n ys) where
  whole : put_mid len (length xs - len) xs ys ≡ (take len xs ++ t) ++ drop (len + n) xs
  whole =
      let part : ys ≡ t ++ drop (len + n) xs =
      sym (take-append-drop n ys) ∙ ap (λ p. p ++ drop n ys) a.front ∙ ap (λ p. t ++ p) a.rest
      ∙ ap (λ p. t ++ drop n p) (take_rest xs len) ∙ ap (λ p. t ++ p) (drop-drop n len xs) in
      let past : drop (length xs - len) (drop len xs) ≡ [] = drop_all (length xs - len) (drop len xs) (simp length-drop (omega arith)) in
      simp (part, past, append-nil, append_assoc)

  front : length (take len xs ++ t) ≡ len + n
  front = simp (length-append, length-take) (omega (arith, a.ends))

  pub lent : Appended xs len t (len + n) (put_mid len (length xs - len) xs ys)
  lent = record {
    ends = omega (arith, a.ends);
    front = ap (take (len + n)) whole ∙ take_at (take len xs ++ t) (drop (len + n) xs) (len + n) front;
    rest = ap (drop (len + n)) whole ∙ drop_at (take len xs ++ t) (drop (len + n) xs) (len + n) front;
  }
