-- Columns that stay laid out.
use Rattle.std.proofs.Common.{◌≡◌, ℕ, zero, suc, ◌+◌, ◌-◌, ◌≤◌, Bool, true, false, cond, ◌&&◌, List, [], ◌∷◌, ◌++◌, map, length, get_or, take, replicate, sym, refl, ap, ◌∙◌, subst, append_assoc, arith, length-append}
use lib.ListN.{length-replicate}
use Rattle.std.proofs.lemmas.List.{length-map, take_at, get_or_at, length_push}
use Rattle.reading.specs.Tests.{every}
use Rattle.reading.specs.Reading.{is_text}
use Rattle.job.specs.Actions.{Attributes, Cell, Blank, Character, Tail, row}
use Rattle.job.specs.Row.{is_invisible, closed_cell, is_blank, is_tail, padded, cells_of, width_of, last_width}
use Rattle.job.specs.Orderable.{LaidOut, none, blank, narrow, wide, Visible, Orderable}
use Rattle.job.specs.Invariants.{TextCharacter}
use Rattle.job.proofs.Every.{every_append}

pub laid_append : {P : ℕ → Attributes → Type 0} {a b : List Cell} → LaidOut P a → LaidOut P b → LaidOut P (a ++ b)
laid_append none k = k
laid_append (blank h) k = blank (laid_append h k)
laid_append (narrow a w h) k = narrow a w (laid_append h k)
laid_append (wide a w h) k = wide a w (laid_append h k)

pub laid_blanks : {P : ℕ → Attributes → Type 0} (n : ℕ) → LaidOut P (replicate n Blank)
laid_blanks zero = none
laid_blanks (suc n) = blank (laid_blanks n)

pub laid_cells : (code : ℕ) (s : Attributes) → is_text code ≡ true → LaidOut TextCharacter (cells_of code s)
laid_cells code s e = go s.wide refl
  where
    go : (b : Bool) → s.wide ≡ b → LaidOut TextCharacter (Character code s ∷ cond b (Tail code s ∷ []) [])
    go true w = wide e w none
    go false w = narrow e w none

pub cells_length : (code : ℕ) (a : Attributes) → length (cells_of code a) ≡ width_of a
cells_length code a = go a.wide
  where
    go : (b : Bool) → length (Character code a ∷ cond b (Tail code a ∷ []) []) ≡ cond b 2 1
    go true = refl
    go false = refl

pub width_two : (a : Attributes) → width_of a ≤ 2
width_two a = go a.wide
  where
    go : (b : Bool) → cond b 2 1 ≤ 2
    go true = omega arith
    go false = omega arith

-- closing

laid_closed : {cells : List Cell} → LaidOut TextCharacter cells → LaidOut Visible (map closed_cell cells)
laid_closed none = none
laid_closed (blank h) = blank (laid_closed h)
laid_closed (narrow {code = code} {a = s} {cells = cells} e w h) = go (is_invisible code s) refl (laid_closed h)
  where
    go : (b : Bool) → is_invisible code s ≡ b → LaidOut Visible (map closed_cell cells) → LaidOut Visible (cond b Blank (Character code s) ∷ map closed_cell cells)
    go true k i = blank i
    go false k i = narrow (e, k) w i
laid_closed (wide {code = code} {a = s} {cells = cells} e w h) = go (is_invisible code s) refl (laid_closed h)
  where
    go : (b : Bool) → is_invisible code s ≡ b → LaidOut Visible (map closed_cell cells) → LaidOut Visible (cond b Blank (Character code s) ∷ cond b Blank (Tail code s) ∷ map closed_cell cells)
    go true k i = blank (blank i)
    go false k i = wide (e, k) w i

pub closed_orderable : (r : List Cell) → LaidOut TextCharacter r → length r ≤ 48 → every is_blank (map closed_cell r) ≡ false → Orderable (row (padded (map closed_cell r)))
closed_orderable r h k e = (
  laid_append (laid_closed h) (laid_blanks (48 - length (map closed_cell r))),
  simp (length-append, length-replicate, length-map) (omega arith),
  every_append is_blank (map closed_cell r) (replicate (48 - length (map closed_cell r)) Blank)
      ∙ ap (λ (b : Bool). b && every is_blank (replicate (48 - length (map closed_cell r)) Blank)) e,
)

-- deleting

data Last (P : ℕ → Attributes → Type 0) : List Cell → Type 0 where
  empty : Last P []
  single : (r : List Cell) (c : Cell) → LaidOut P r → is_tail c ≡ false → Last P (r ++ c ∷ [])
  pair : (r : List Cell) (code : ℕ) (s : Attributes) → LaidOut P r → Last P (r ++ Character code s ∷ Tail code s ∷ [])

last_blank : {P : ℕ → Attributes → Type 0} {cells : List Cell} → Last P cells → Last P (Blank ∷ cells)
last_blank empty = single [] Blank none refl
last_blank (single r c h e) = single (Blank ∷ r) c (blank h) e
last_blank (pair r code s h) = pair (Blank ∷ r) code s (blank h)

last_narrow : {P : ℕ → Attributes → Type 0} {k : ℕ} {t : Attributes} {cells : List Cell} → P k t → t.wide ≡ false → Last P cells → Last P (Character k t ∷ cells)
last_narrow {k = k} {t = t} a w empty = single [] (Character k t) none refl
last_narrow {k = k} {t = t} a w (single r c h e) = single (Character k t ∷ r) c (narrow a w h) e
last_narrow {k = k} {t = t} a w (pair r code s h) = pair (Character k t ∷ r) code s (narrow a w h)

last_wide : {P : ℕ → Attributes → Type 0} {k : ℕ} {t : Attributes} {cells : List Cell} → P k t → t.wide ≡ true → Last P cells → Last P (Character k t ∷ (Tail k t ∷ cells))
last_wide {k = k} {t = t} a w empty = pair [] k t none
last_wide {k = k} {t = t} a w (single r c h e) = single (Character k t ∷ (Tail k t ∷ r)) c (wide a w h) e
last_wide {k = k} {t = t} a w (pair r code s h) = pair (Character k t ∷ (Tail k t ∷ r)) code s (wide a w h)

last_of : {P : ℕ → Attributes → Type 0} {cells : List Cell} → LaidOut P cells → Last P cells
last_of none = empty
last_of (blank h) = last_blank (last_of h)
last_of (narrow a w h) = last_narrow a w (last_of h)
last_of (wide a w h) = last_wide a w (last_of h)

shortened : {P : ℕ → Attributes → Type 0} {r : List Cell} → Last P r → LaidOut P (take (length r - last_width r) r)
shortened empty = none
shortened {P} (single r c h e) =
    let n : length (r ++ c ∷ []) - 1 ≡ length r = simp length_push (omega arith) in
    let at : get_or (r ++ c ∷ []) (length (r ++ c ∷ []) - 1) Blank ≡ c = get_or_at r c [] Blank (length (r ++ c ∷ []) - 1) (sym n) in
    let last : is_tail (get_or (r ++ c ∷ []) (length (r ++ c ∷ []) - 1) Blank) ≡ false = ap is_tail at ∙ e in
    let w : last_width (r ++ c ∷ []) ≡ 1 = ap (λ (b : Bool). cond b 2 1) last in
    let keep : length r ≡ length (r ++ c ∷ []) - last_width (r ++ c ∷ []) = omega (arith, n, w) in
    subst (λ (x : List Cell). LaidOut P x) (sym (take_at r (c ∷ []) (length (r ++ c ∷ []) - last_width (r ++ c ∷ [])) keep)) h
shortened {P} (pair r code s h) =
    let g : List Cell = Character code s ∷ Tail code s ∷ [] in
    let size : length (r ++ g) ≡ length r + 2 = length-append r g in
    let n : length (r ++ g) - 1 ≡ length (r ++ Character code s ∷ []) = simp length_push (omega arith) in
    let at : get_or (r ++ g) (length (r ++ g) - 1) Blank ≡ Tail code s =
    ap (λ (x : List Cell). get_or x (length (r ++ g) - 1) Blank) (sym (append_assoc r (Character code s ∷ []) (Tail code s ∷ [])))
    ∙ get_or_at (r ++ Character code s ∷ []) (Tail code s) [] Blank (length (r ++ g) - 1) (sym n) in
    let w : last_width (r ++ g) ≡ 2 = ap (λ (x : Cell). cond (is_tail x) 2 1) at in
    let keep : length r ≡ length (r ++ g) - last_width (r ++ g) = omega (arith, size, w) in
    subst (λ (x : List Cell). LaidOut P x) (sym (take_at r g (length (r ++ g) - last_width (r ++ g)) keep)) h

pub laid_shortened : {P : ℕ → Attributes → Type 0} {r : List Cell} → LaidOut P r → LaidOut P (take (length r - last_width r) r)
laid_shortened h = shortened (last_of h)
