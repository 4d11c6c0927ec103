-- The open row, as it grows and closes.
use Rattle.std.proofs.Common.{◌≡◌, ℕ, ◌+◌, ◌-◌, ◌<◌, ◌≤◌, Bool, true, false, cond, List, [], ◌∷◌, ◌++◌, map, length, get_or, take, drop, set, replicate, sym, ap, ◌∙◌, subst, arith, length-set}
use mathlib.Core.Logic.{∥∥₁_map}
use Rattle.std.proofs.Math.Seq.{take-append_seam}
use Rattle.std.proofs.lemmas.Bool.{cond-false}
use Rattle.std.proofs.lemmas.List.{append_assoc, take-append-drop, take_all, take_more_set, take-take, map_more, drop-set-lt, drop-drop, drop-replicate, length-map, length-take-le}
use Rattle.reading.specs.Tests.{every}
use Rattle.reading.specs.Reading.{is_text}
use Rattle.job.specs.declared.cells.Attributes.{Attributes}
use Rattle.job.specs.declared.cells.Cell.{Cell}
use Rattle.job.specs.declared.cells.Cell.TheVariants.{Blank, Character, Tail}
use Rattle.job.specs.Actions.{row}
use Rattle.job.specs.Row.{closed_cell, is_blank, padded, closing, cells_of, width_of, last_width}
use Rattle.job.specs.Orderable.{LaidOut, Orderable}
use Rattle.job.specs.Invariants.{TextCharacter}
use Rattle.job.proofs.Columns.{closed_orderable, laid_append, laid_cells, laid_shortened}
use Rattle.action.specs.declared.open_row.OpenRow.{OpenRow}
use Rattle.action.specs.Columns.{columns}

-- the first n columns of `cells` are those of xs, closed, and the others are blank
pub record Closed (n : ℕ) (xs cells : List Cell) : Type 0 where
  pub front : take n cells ≡ map closed_cell (take n xs)
  pub back : drop n cells ≡ replicate (48 - n) Blank
  pub long : length cells ≡ 48

pub closed_more : (i : ℕ) (xs cells : List Cell) (d y : Cell) → i < length xs → length xs ≤ 48 → Closed i xs cells → y ≡ closed_cell (get_or xs i d)
    → Closed (i + 1) xs (set cells i y)
closed_more i xs cells d y h l s at_i =
    let m : map closed_cell (take (i + 1) xs) ≡ map closed_cell (take i xs) ++ y ∷ [] =
    map_more closed_cell xs i d h ∙ ap (λ (z : Cell). map closed_cell (take i xs) ++ z ∷ []) (sym at_i) in
    let hl : i < length cells = omega (arith, s.long) in
    record {
      front = take_more_set cells i y hl ∙ (ap (λ (zs : List Cell). zs ++ y ∷ []) s.front ∙ sym m);
      back = drop-set-lt (i + 1) cells i y (omega arith) ∙ (sym (drop-drop 1 i cells) ∙ (ap (drop 1) s.back ∙ (drop-replicate 1 (48 - i) Blank ∙ ap (λ (k : ℕ). replicate k Blank) (omega arith))));
      long = simp length-set s.long;
    }

pub closed_all : (n : ℕ) (xs cells : List Cell) → n ≡ length xs → Closed n xs cells → cells ≡ padded (map closed_cell xs)
closed_all n xs cells e s =
    let all : take n xs ≡ xs = take_all n xs (omega (arith, e)) in
    let front : take n cells ≡ map closed_cell xs = s.front ∙ ap (λ (ys : List Cell). map closed_cell ys) all in
    let back : drop n cells ≡ replicate (48 - length (map closed_cell xs)) Blank =
    s.back ∙ ap (λ (k : ℕ). replicate (48 - k) Blank) (e ∙ sym (length-map xs closed_cell)) in
    sym (take-append-drop n cells) ∙ (cc (front, back))

pub columns_length : (r : OpenRow) → length (columns r) ≡ r.len
columns_length r = length-take-le r.len r.cells (omega (arith, r.within, r.sized))

-- closed columns of which some are not blank are the row that closing orders
module _ (r : OpenRow) (cells : List Cell) (e : cells ≡ padded (map closed_cell (columns r))) (f : every is_blank (take r.len cells) ≡ false) where
  front : take r.len cells ≡ map closed_cell (columns r)
  front =
      let n : length (map closed_cell (columns r)) ≡ r.len = length-map (columns r) closed_cell ∙ columns_length r in
      ap (λ (zs : List Cell). take r.len zs) e ∙ (ap (λ (k : ℕ). take k (padded (map closed_cell (columns r)))) (sym n) ∙ take-append_seam (map closed_cell (columns r)) _)

  shown : every is_blank (map closed_cell (columns r)) ≡ false
  shown = ap (λ (zs : List Cell). every is_blank zs) (sym front) ∙ f

  pub closed_ok : ∥ Orderable (row cells) ∥₁
  closed_ok =
      let n : length (columns r) ≤ 48 = omega (arith, columns_length r, r.within) in
      ∥∥₁_map r.laid (λ q. subst (λ (zs : List Cell). Orderable (row zs)) (sym e) (closed_orderable (columns r) q n shown))

  pub closed_ordered : row cells ∷ [] ≡ closing (columns r)
  closed_ordered = ap (λ (zs : List Cell). row zs ∷ []) e ∙ sym (cond-false (every is_blank (map closed_cell (columns r))) [] (row (padded (map closed_cell (columns r))) ∷ []) shown)

-- laid out columns behind the others
pub laid_more : (before more after : List Cell) → ∥ LaidOut TextCharacter before ∥₁ → LaidOut TextCharacter more → after ≡ before ++ more → ∥ LaidOut TextCharacter after ∥₁
laid_more before more after h k e = ∥∥₁_map h (λ q. subst (λ (x : List Cell). LaidOut TextCharacter x) (sym e) (laid_append q k))

-- a character put at the position
abbrev character : ℕ → Attributes → Bool → List Cell
character code a w = Character code a ∷ cond w (Tail code a ∷ []) []

module _ (r : OpenRow) (code w : ℕ) (a : Attributes) (cells : List Cell) (e : w ≡ width_of a) (room : r.len + w ≤ 48) where
  put_first : r.len < 48 → take (r.len + 1) (set r.cells r.len (Character code a)) ≡ columns r ++ Character code a ∷ []
  put_first h = take_more_set r.cells r.len (Character code a) (omega (arith, r.sized))

  pub put_narrow : a.wide ≡ false → cells ≡ set r.cells r.len (Character code a) → take (r.len + w) cells ≡ columns r ++ cells_of code a
  put_narrow n c =
      let one : w ≡ 1 = e ∙ ap (λ (b : Bool). cond b 2 1) n in
      cc (c, one) ∙ put_first (omega arith) ∙ ap (λ (b : Bool). columns r ++ character code a b) (sym n)

  pub put_wide : a.wide ≡ true → cells ≡ set (set r.cells r.len (Character code a)) (r.len + 1) (Tail code a) → take (r.len + w) cells ≡ columns r ++ cells_of code a
  put_wide n c =
      let two : w ≡ 2 = e ∙ ap (λ (b : Bool). cond b 2 1) n in
      let both : r.len + w ≡ r.len + 1 + 1 = omega arith in
      let first : List Cell = set r.cells r.len (Character code a) in
      cc (c, both)
      ∙ take_more_set first (r.len + 1) (Tail code a) (simp length-set (omega (arith, r.sized)))
      ∙ ap (λ (x : List Cell). x ++ Tail code a ∷ []) (put_first (omega arith))
      ∙ append_assoc (columns r) (Character code a ∷ []) (Tail code a ∷ [])
      ∙ ap (λ (b : Bool). columns r ++ character code a b) (sym n)

pub put_laid : (r : OpenRow) (code : ℕ) (a : Attributes) (after : List Cell) → true ≡ is_text code → after ≡ columns r ++ cells_of code a → ∥ LaidOut TextCharacter after ∥₁
put_laid r code a after t p = laid_more (columns r) (cells_of code a) after r.laid (laid_cells code a (sym t)) p

-- the last character taken back
module _ (r : OpenRow) (w m : ℕ) (e : w ≡ last_width (columns r)) (f : m ≡ r.len - w) where
  pub deleted_columns : take m r.cells ≡ take (length (columns r) - last_width (columns r)) (columns r)
  deleted_columns =
      let n : m ≡ length (columns r) - last_width (columns r) = omega (arith, columns_length r) in
      sym (take-take m r.len r.cells (omega arith)) ∙ ap (λ (k : ℕ). take k (columns r)) n

  pub deleted_laid : ∥ LaidOut TextCharacter (take m r.cells) ∥₁
  deleted_laid = ∥∥₁_map r.laid (λ q. subst (λ (x : List Cell). LaidOut TextCharacter x) (sym deleted_columns) (laid_shortened q))
