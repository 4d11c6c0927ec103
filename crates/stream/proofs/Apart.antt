-- Behind a part text is read again, unless the part is unfinished.
use Rattle.std.proofs.Common.{◌≡◌, ℕ, zero, suc, ◌+◌, ◌-◌, ◌≤◌, min, Bool, true, false, cond, ◌≢◌, List, [], ◌∷◌, ◌++◌, length, take, sym, refl, ap, ◌∙◌, subst, arith, length-append}
use Rattle.std.specs.List.{prefix_len}
use Rattle.reading.specs.Commands.{print}
use Rattle.reading.specs.Tests.{find}
use Rattle.reading.specs.Reading.{Reading, text, Meaning, more, done, refused, complete, unknown, is_text, single_bytes, meaning, next_reading, reading_after}
use Rattle.reading.specs.Unfinished.{begun}
use Rattle.reading.proofs.Within.{Within, Moves, moves}
use Rattle.stream.specs.Kind.{Text}
use Rattle.stream.specs.Kind.{Extent}
use Rattle.stream.specs.Parts.{extent, read_on, part}
use Rattle.stream.specs.Laws.{Leaves}
use Rattle.stream.proofs.Agree.{by_meaning}
use Rattle.stream.proofs.Description.{by_first}

-- at least the bytes read so far, and no more than there are
pub record Bounded (low high : ℕ) (e : Extent) : Type 0 where
  pub least : low ≤ e.count
  pub most : e.count ≤ high

meaning_bounded : (bs : List ℕ) (n : ℕ) (m : Meaning) → ((q : Reading) → Bounded (n + 1) (n + 1 + length bs) (read_on (n + 1) q bs)) → Bounded (n + 1) (n + 1 + length bs) (by_meaning n bs m)
meaning_bounded bs n (more q) f = f q
meaning_bounded bs n (done o q) f = record { least = omega arith; most = omega arith }
meaning_bounded bs n (refused why q) f = record { least = omega arith; most = omega arith }

pub read_on_bounded : (bs : List ℕ) (n : ℕ) (r : Reading) → Bounded n (n + length bs) (read_on n r bs)
read_on_bounded [] n r = record { least = omega arith; most = omega arith }
read_on_bounded (b ∷ bs) n r =
    let h : Bounded (n + 1) (n + 1 + length bs) (by_meaning n bs (meaning r b)) = meaning_bounded bs n (meaning r b) (read_on_bounded bs (n + 1)) in
    record { least = omega (arith, h.least); most = omega (arith, h.most) }

first_taken : (k b : ℕ) (bs : List ℕ) → 1 ≤ k → take k (b ∷ bs) ≡ b ∷ take (k - 1) bs
first_taken zero b bs h = absurd (omega arith)
first_taken (suc k) b bs h = ap (λ (m : ℕ). b ∷ take m bs) (omega arith)

-- a command of which a byte has come is no text
begun_command : (q : Reading) (bs : List ℕ) (b : ℕ) → begun q ≡ bs ++ b ∷ [] → q ≢ text
begun_command q bs b e k =
    let none : length (begun q) ≡ 0 = ap (λ (q : Reading). length (begun q)) k in
    omega (arith, ap length e, length-append bs (b ∷ []))

leaves : (bs : List ℕ) (n : ℕ) (r : Reading) → Within r → r ≢ text → Leaves (read_on n r bs).kind (reading_after r (take ((read_on n r bs).count - n) bs))
leaves [] n r w started = let nil : 0 ≡ n - n = omega arith in subst (λ (m : ℕ). reading_after r (take m []) ≢ text) nil started
leaves (b ∷ bs) n r w started =
    let e : Extent = by_meaning n bs (meaning r b) in
    let h : n + 1 ≤ e.count = (meaning_bounded bs n (meaning r b) (read_on_bounded bs (n + 1))).least in
    subst (λ (l : List ℕ). Leaves e.kind (reading_after r l)) (sym (first_taken (e.count - n) b bs (omega (arith, h)))) (go (meaning r b) (moves r b w) (leaves bs (n + 1)))
  where
    go : (m : Meaning) → Moves (begun r ++ b ∷ []) m → ((q : Reading) → Within q → q ≢ text → Leaves (read_on (n + 1) q bs).kind (reading_after q (take ((read_on (n + 1) q bs).count - (n + 1)) bs)))
        → Leaves (by_meaning n bs m).kind (reading_after (next_reading m) (take ((by_meaning n bs m).count - n - 1) bs))
    go (more q) k f =
        let e : Extent = read_on (n + 1) q bs in
        let same : e.count - (n + 1) ≡ e.count - n - 1 = omega arith in
        subst (λ (m : ℕ). Leaves e.kind (reading_after q (take m bs))) same (f q k.0 (begun_command q (begun r) b k.1))
    go (done o q) k f = let nil : 0 ≡ n + 1 - n - 1 = omega arith in subst (λ (m : ℕ). reading_after q (take m bs) ≡ text) nil k
    go (refused why q) k f = let nil : 0 ≡ n + 1 - n - 1 = omega arith in subst (λ (m : ℕ). reading_after q (take m bs) ≡ text) nil k

text_leaves : (s : List ℕ) (m : ℕ) → m ≤ prefix_len is_text s → reading_after text (take m s) ≡ text
text_leaves s zero h = refl
text_leaves [] (suc m) h = refl
text_leaves (b ∷ s) (suc m) h = go (is_text b) h (text_leaves s m)
  where
    go : (t : Bool) → suc m ≤ cond t (1 + prefix_len is_text s) 0 → (m ≤ prefix_len is_text s → reading_after text (take m s) ≡ text)
        → reading_after (next_reading (cond t (complete (print b)) (find unknown single_bytes b))) (take m s) ≡ text
    go true h f = f (omega arith)
    go false h f = absurd (omega arith)

pub part_leaves : (s : List ℕ) → 1 ≤ length s → Leaves (part s).kind (reading_after text (part s).bytes)
part_leaves [] h = absurd (omega arith)
part_leaves (b ∷ bs) h = go (is_text b) refl
  where
    by_byte : (m : Meaning) → meaning text b ≡ m → Moves (b ∷ []) m → Leaves (by_first bs m).kind (reading_after text (take (by_first bs m).count (b ∷ bs)))
    by_byte (more q) e k =
        let x : Extent = read_on 1 q bs in
        subst (λ (l : List ℕ). Leaves x.kind (reading_after text l)) (sym (first_taken x.count b bs (read_on_bounded bs 1 q).least))
        (subst (λ (m : Meaning). Leaves x.kind (reading_after (next_reading m) (take (x.count - 1) bs))) (sym e) (leaves bs 1 q k.0 (begun_command q [] b k.1)))
    by_byte (done o q) e k = ap next_reading e ∙ k
    by_byte (refused why q) e k = ap next_reading e ∙ k

    go : (t : Bool) → is_text b ≡ t
        → let x : Extent = cond t (extent Text (min 16 (prefix_len is_text (b ∷ bs)))) (by_first bs (meaning text b)) in Leaves x.kind (reading_after text (take x.count (b ∷ bs)))
    go true e = text_leaves (b ∷ bs) (min 16 (prefix_len is_text (b ∷ bs))) (omega arith)
    go false e = by_byte (meaning text b) refl (moves text b tt)
