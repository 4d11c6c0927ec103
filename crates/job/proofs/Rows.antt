-- The text of a row, read between two texts.
use Rattle.std.proofs.Common.{◌≡◌, ℕ, suc, ◌+◌, ◌-◌, ◌*◌, ◌≤◌, Bool, true, false, cond, eqb, List, [], ◌∷◌, ◌++◌, map, length, replicate, sym, refl, ap, ◌∙◌, subst, append_assoc, append-nil, arith, length-append}
use mathlib.Core.Bool.{beq}
use lib.ListN.{length-replicate}
use Rattle.std.proofs.lemmas.Bool.{eqb-true, le-leb}
use Rattle.std.proofs.lemmas.List.{length_push}
use Rattle.reading.specs.Tests.{every}
use Rattle.reading.specs.Reading.{text, is_text}
use Rattle.job.specs.Actions.{Attributes, plain, Cell, Blank, Character, Tail, row}
use Rattle.job.specs.Printer.{new_printer_at, change_attributes, with_row}
use Rattle.job.specs.Row.{closed_cell, is_blank, padded, cells_of, width_of}
use Rattle.job.specs.Changes.{print_mode, make_italic}
use Rattle.job.specs.Job.{State, stay, resting}
use Rattle.job.specs.NormalText.{flag, mode_bits, attribute_change, cells_text, unless_last_blank, up_to_last, action_text}
use Rattle.job.specs.Orderable.{LaidOut, none, blank, narrow, wide, Visible, Orderable}
use Rattle.job.proofs.Runs.{Reads, reads_then}
use Rattle.job.proofs.Simple.{ReadsBack}

-- resting but for the attributes in force and the open row
abbrev typing : ℕ → Attributes → List Cell → State
typing line now r = record { reading = text; printer = with_row r (change_attributes (λ a. now) (new_printer_at line)) }

character : (line : ℕ) (now : Attributes) (r : List Cell) (code : ℕ) → is_text code ≡ true → length r + width_of now ≤ 48
    → Reads (typing line now r) (code ∷ []) [] (typing line now (r ++ cells_of code now))
character line now r code e h = rw (e, le-leb (length r + width_of now) 48 h)

-- attributes

mode_back : (a b c d : Bool) (s : Attributes)
    → print_mode (8 * flag a + 16 * flag b + 32 * flag c + 128 * flag d) s ≡ record { emphasised = a; tall = b; wide = c; underlined = d; italic = s.italic }
mode_back true true true true s = refl
mode_back true true true false s = refl
mode_back true true false true s = refl
mode_back true true false false s = refl
mode_back true false true true s = refl
mode_back true false true false s = refl
mode_back true false false true s = refl
mode_back true false false false s = refl
mode_back false true true true s = refl
mode_back false true true false s = refl
mode_back false true false true s = refl
mode_back false true false false s = refl
mode_back false false true true s = refl
mode_back false false true false s = refl
mode_back false false false true s = refl
mode_back false false false false s = refl

mode_of : (to now : Attributes) → print_mode (mode_bits to) now ≡ make_italic now.italic to
mode_of to now = mode_back to.emphasised to.tall to.wide to.underlined now

abbrev mode_change : Attributes → Attributes → List ℕ
mode_change now to = cond (eqb (mode_bits now) (mode_bits to)) [] (0x1B ∷ 0x21 ∷ mode_bits to ∷ [])

abbrev italic_change : Bool → Bool → List ℕ
italic_change a b = cond (beq a b) [] (0x1B ∷ 0x34 ∷ flag b ∷ [])

mode_changed : (line : ℕ) (now to : Attributes) (r : List Cell) → Reads (typing line now r) (mode_change now to) [] (typing line (make_italic now.italic to) r)
mode_changed line now to r = go (eqb (mode_bits now) (mode_bits to)) refl
  where
    go : (b : Bool) → eqb (mode_bits now) (mode_bits to) ≡ b → Reads (typing line now r) (cond b [] (0x1B ∷ 0x21 ∷ mode_bits to ∷ [])) [] (typing line (make_italic now.italic to) r)
    go true e =
        ap (λ (a : Attributes). stay (typing line a r))
        (sym (mode_of now now) ∙ ap (λ (n : ℕ). print_mode n now) (eqb-true (mode_bits now) (mode_bits to) e) ∙ mode_of to now)
    go false e = ap (λ (a : Attributes). stay (typing line a r)) (mode_of to now)

italic_changed : (line : ℕ) (s : Attributes) (a b : Bool) (r : List Cell) → Reads (typing line (make_italic a s) r) (italic_change a b) [] (typing line (make_italic b s) r)
italic_changed line s true true r = refl
italic_changed line s true false r = refl
italic_changed line s false true r = refl
italic_changed line s false false r = refl

changed : (line : ℕ) (now to : Attributes) (r : List Cell) → Reads (typing line now r) (attribute_change now to) [] (typing line to r)
changed line now to r =
    reads_then (typing line now r) (mode_change now to) (italic_change now.italic to.italic)
    (mode_changed line now to r) (italic_changed line to now.italic to.italic r)

-- characters

-- what reading a row's text puts into the open row
abbrev typed : Cell → Cell
typed Blank = Character 0x20 plain
typed (Character code a) = Character code a
typed (Tail code a) = Tail code a

-- a character behind a change of attributes, and what follows
typed_then : (line : ℕ) (now a : Attributes) (r cols : List Cell) (code : ℕ) (ts : List ℕ) (end : State)
    → is_text code ≡ true → cells_of code a ≡ cols → length r + width_of a ≤ 48 → Reads (typing line a (r ++ cols)) ts [] end
    → Reads (typing line now r) (attribute_change now a ++ code ∷ ts) [] end
typed_then line now a r cols code ts end e c h k =
    reads_then (typing line now r) (attribute_change now a) (code ∷ ts) (changed line now a r)
    (reads_then (typing line a r) (code ∷ []) ts (character line a r code e h) (subst (λ (x : List Cell). Reads (typing line a (r ++ x)) ts [] end) (sym c) k))

regroup : (line : ℕ) (r a b : List Cell) → typing line plain ((r ++ a) ++ b) ≡ typing line plain (r ++ (a ++ b))
regroup line r a b = ap (λ (x : List Cell). typing line plain x) (append_assoc r a b)

cells_read : (line : ℕ) (now : Attributes) (r : List Cell) {cells : List Cell} → LaidOut Visible cells → length r + length cells ≤ 48
    → Reads (typing line now r) (cells_text now cells) [] (typing line plain (r ++ map typed cells))
cells_read line now r none h = changed line now plain r ∙ ap (λ (x : List Cell). stay (typing line plain x)) (sym (append-nil r))
cells_read line now r (blank {cells = cells} rest) h =
    typed_then line now plain r (Character 0x20 plain ∷ []) 0x20 (cells_text plain cells) (typing line plain (r ++ map typed (Blank ∷ cells))) refl refl (omega arith)
    (cells_read line plain (r ++ Character 0x20 plain ∷ []) rest (simp length_push (omega arith)) ∙ ap stay (regroup line r (Character 0x20 plain ∷ []) (map typed cells)))
cells_read line now r (narrow {code = code} {a = a} {cells = cells} shows w rest) h =
    typed_then line now a r (Character code a ∷ []) code (cells_text a cells) (typing line plain (r ++ map typed (Character code a ∷ cells))) shows.0 (rw w) (rw w (omega arith))
    (cells_read line a (r ++ Character code a ∷ []) rest (simp length_push (omega arith)) ∙ ap stay (regroup line r (Character code a ∷ []) (map typed cells)))
cells_read line now r (wide {code = code} {a = a} {cells = cells} shows w rest) h =
    typed_then line now a r (Character code a ∷ Tail code a ∷ []) code (cells_text a cells) (typing line plain (r ++ map typed (Character code a ∷ Tail code a ∷ cells))) shows.0 (rw w) (rw w (omega arith))
    (cells_read line a (r ++ Character code a ∷ Tail code a ∷ []) rest (simp length-append (omega arith)) ∙ ap stay (regroup line r (Character code a ∷ Tail code a ∷ []) (map typed cells)))

-- closing

closed_typed : {cells : List Cell} → LaidOut Visible cells → map closed_cell (map typed cells) ≡ cells
closed_typed none = refl
closed_typed (blank rest) = ap (λ (x : List Cell). Blank ∷ x) (closed_typed rest)
closed_typed (narrow {code = code} {a = a} shows w rest) = rw (shows.1, closed_typed rest)
closed_typed (wide {code = code} {a = a} shows w rest) = rw (shows.1, closed_typed rest)

pub laid_up_to_last : {P : ℕ → Attributes → Type 0} {cells : List Cell} → LaidOut P cells → LaidOut P (up_to_last cells)
laid_up_to_last none = none
laid_up_to_last {P} (blank {cells = cells} rest) = go (up_to_last cells) (laid_up_to_last rest)
  where
    go : (u : List Cell) → LaidOut P u → LaidOut P (unless_last_blank Blank u)
    go [] h = none
    go (c ∷ u) h = blank h
laid_up_to_last (narrow a w rest) = narrow a w (laid_up_to_last rest)
laid_up_to_last (wide a w rest) = wide a w (laid_up_to_last rest)

-- the columns left out are blank
left_out : (cells : List Cell) → (k : ℕ) × (cells ≡ up_to_last cells ++ replicate k Blank)
left_out [] = (0, refl)
left_out (Blank ∷ cells) = go (up_to_last cells) (left_out cells).0 (left_out cells).1
  where
    go : (u : List Cell) (k : ℕ) → cells ≡ u ++ replicate k Blank → (k : ℕ) × ((Blank ∷ cells) ≡ unless_last_blank Blank u ++ replicate k Blank)
    go [] k e = (suc k, ap (λ (x : List Cell). Blank ∷ x) e)
    go (c ∷ u) k e = (k, ap (λ (x : List Cell). Blank ∷ x) e)
left_out (Character code a ∷ cells) = ((left_out cells).0, ap (λ (x : List Cell). Character code a ∷ x) (left_out cells).1)
left_out (Tail code a ∷ cells) = ((left_out cells).0, ap (λ (x : List Cell). Tail code a ∷ x) (left_out cells).1)

pub up_to_last_le : (cells : List Cell) → length (up_to_last cells) ≤ length cells
up_to_last_le cells = omega (arith, simp length-append at (ap (λ (x : List Cell). length x) (left_out cells).1))

padded_back : (cells : List Cell) → length cells ≡ 48 → padded (up_to_last cells) ≡ cells
padded_back cells h =
    let total : length cells ≡ length (up_to_last cells) + (left_out cells).0 = ap (λ (x : List Cell). length x) (left_out cells).1 ∙ simp (length-append, length-replicate) in
    let left : 48 - length (up_to_last cells) ≡ (left_out cells).0 = omega arith in
    ap (λ (k : ℕ). up_to_last cells ++ replicate k Blank) left ∙ sym (left_out cells).1

blank_up_to_last : (cells : List Cell) → every is_blank (up_to_last cells) ≡ every is_blank cells
blank_up_to_last [] = refl
blank_up_to_last (Blank ∷ cells) = go (up_to_last cells) (blank_up_to_last cells)
  where
    go : (u : List Cell) → every is_blank u ≡ every is_blank cells → every is_blank (unless_last_blank Blank u) ≡ every is_blank cells
    go [] e = e
    go (c ∷ u) e = e
blank_up_to_last (Character code a ∷ cells) = refl
blank_up_to_last (Tail code a ∷ cells) = refl

closed : (line : ℕ) (r shown : List Cell) → map closed_cell r ≡ shown → every is_blank shown ≡ false
    → Reads (typing line plain r) (0x1B ∷ 0x4A ∷ 0x00 ∷ []) (row (padded shown) ∷ []) (resting line)
closed line r shown e b = rw (e, b)

pub row_read : (line : ℕ) (cells : List Cell) → Orderable (row cells) → ReadsBack (row cells) line
row_read line cells h =
    let u : List Cell = up_to_last cells in
    let laid : LaidOut Visible u = laid_up_to_last h.0 in
    let size : length u ≤ 48 = omega (arith, up_to_last_le cells) in
    subst (λ (x : List Cell). Reads (resting line) (action_text (row cells)) (row x ∷ []) (resting line)) (padded_back cells h.1)
    (reads_then (resting line) (cells_text plain u) (0x1B ∷ 0x4A ∷ 0x00 ∷ [])
    (cells_read line plain [] laid (omega arith))
    (closed line (map typed u) u (closed_typed laid) (blank_up_to_last cells ∙ h.2)))
