-- Columns, one by one.
use Rattle.std.proofs.Common.{◌≡◌, ℕ, ◌+◌, ◌-◌, ◌≤◌, Bool, true, false, cond, eqb, List, [], ◌∷◌, ◌++◌, length, take, sym, refl, ap, ◌∙◌, append_assoc, arith, length-append}
use mathlib.Core.Bool.{beq}
use mathlib.Core.List.{reverse, reverse-cons}
use Rattle.std.proofs.lemmas.List.{length-reverse, reverse-reverse, take-append-le, take_all}
use Rattle.std.specs.Int.{from_bool}
use Rattle.std.specs.List.{prefix_len, suffix_len}
use Rattle.std.proofs.lemmas.Bool.{both_ways}
use Rattle.job.specs.declared.cells.Attributes.{Attributes}
use Rattle.job.specs.declared.cells.Cell.{Cell}
use Rattle.job.specs.declared.cells.Cell.TheVariants.{Blank, Character, Tail}
use Rattle.job.specs.Actions.{plain}
use Rattle.job.specs.Row.{is_blank}
use Rattle.job.specs.NormalText.{flag, mode_bits, attribute_change, cells_text, unless_last_blank, up_to_last}
use Rattle.action_text.specs.RowTexts.{switched, cell_text, attributes_after}

same_flags : (a b : Bool) → eqb (flag a) (flag b) ≡ beq a b
same_flags true true = refl
same_flags true false = refl
same_flags false true = refl
same_flags false false = refl

-- a flag is what the conversion from bool gives
pub as_flag : (b : Bool) → from_bool b ≡ flag b
as_flag true = refl
as_flag false = refl

pub changes : (s t : Attributes) (a b m n : ℕ) → a ≡ mode_bits s → b ≡ mode_bits t → m ≡ from_bool s.italic → n ≡ from_bool t.italic
    → switched 0x21 a b ++ switched 0x34 m n ≡ attribute_change s t
changes s t a b m n e f g h =
    (λ i. switched 0x21 (e i) (f i) ++ switched 0x34 ((g ∙ as_flag s.italic) i) ((h ∙ as_flag t.italic) i))
    ∙ ap (λ b. switched 0x21 (mode_bits s) (mode_bits t) ++ cond b [] (0x1B ∷ 0x34 ∷ flag t.italic ∷ [])) (same_flags s.italic t.italic)

-- the text of the first column, and then of the others
pub one_column : (now : Attributes) (c : Cell) (cells : List Cell) → cells_text now (c ∷ cells) ≡ cell_text now c ++ cells_text (attributes_after now c) cells
one_column now Blank cells = sym (append_assoc (attribute_change now plain) (0x20 ∷ []) (cells_text plain cells))
one_column now (Character code a) cells = sym (append_assoc (attribute_change now a) (code ∷ []) (cells_text a cells))
one_column now (Tail code a) cells = refl

-- a blank at the end changes nothing
blank_last : (cells : List Cell) (c : Cell) → is_blank c ≡ true → up_to_last (cells ++ c ∷ []) ≡ up_to_last cells
blank_last [] Blank h = refl
blank_last [] (Character code a) h = absurd (both_ways false refl h)
blank_last [] (Tail code a) h = absurd (both_ways false refl h)
blank_last (d ∷ cells) c h = ap (unless_last_blank d) (blank_last cells c h)

-- and a column that is not blank keeps all before it
inner : (d : Cell) (cells : List Cell) (c : Cell) → unless_last_blank d (cells ++ c ∷ []) ≡ d ∷ (cells ++ c ∷ [])
inner Blank [] c = refl
inner Blank (e ∷ cells) c = refl
inner (Character code a) cells c = refl
inner (Tail code a) cells c = refl

full_last : (cells : List Cell) (c : Cell) → is_blank c ≡ false → up_to_last (cells ++ c ∷ []) ≡ cells ++ c ∷ []
full_last [] Blank h = absurd (both_ways true h refl)
full_last [] (Character code a) h = refl
full_last [] (Tail code a) h = refl
full_last (d ∷ cells) c h = ap (unless_last_blank d) (full_last cells c h) ∙ inner d cells c

all_used : (c : Cell) (cells : List Cell) (n : ℕ) → is_blank c ≡ false → n ≡ length cells + 1 → take n (reverse (c ∷ cells)) ≡ up_to_last (reverse (c ∷ cells))
all_used c cells n h e =
    ap (take n) (reverse-cons c cells) ∙ take_all n (reverse cells ++ c ∷ []) (omega (arith, length-append (reverse cells) (c ∷ []), length-reverse cells))
    ∙ sym (full_last (reverse cells) c h) ∙ ap up_to_last (sym (reverse-cons c cells))

-- columns from the last to the first, without the blanks at the end
backwards : (cells : List Cell) → take (length cells - prefix_len is_blank cells) (reverse cells) ≡ up_to_last (reverse cells)
backwards [] = refl
backwards (Blank ∷ cells) =
    let n : length (Blank ∷ cells) - prefix_len is_blank (Blank ∷ cells) ≡ length cells - prefix_len is_blank cells = omega arith in
    let long : length cells - prefix_len is_blank cells ≤ length (reverse cells) = omega (arith, length-reverse cells) in
    (λ i. take (n i) (reverse-cons Blank cells i)) ∙ take-append-le (length cells - prefix_len is_blank cells) (reverse cells) (Blank ∷ []) long ∙ backwards cells
    ∙ sym (blank_last (reverse cells) Blank refl) ∙ ap up_to_last (sym (reverse-cons Blank cells))
backwards (Character code a ∷ cells) = all_used (Character code a) cells _ refl (omega arith)
backwards (Tail code a ∷ cells) = all_used (Tail code a) cells _ refl (omega arith)

-- without those blanks, the columns are those up to the last that is not blank
pub trimmed : (cells : List Cell) → take (length cells - suffix_len is_blank cells) cells ≡ up_to_last cells
trimmed cells =
    let long = sym (length-reverse cells) in
    let back = sym (reverse-reverse cells) in
    (λ i. take (long i - suffix_len is_blank cells) (back i)) ∙ backwards (reverse cells) ∙ ap up_to_last (reverse-reverse cells)
