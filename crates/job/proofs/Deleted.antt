-- Cancelled rows and deleted characters.
use Rattle.std.proofs.Common.{◌≡◌, ℕ, ◌+◌, ◌-◌, ◌<◌, ◌≤◌, Bool, true, false, cond, List, [], ◌∷◌, ◌++◌, length, get_or, take, replicate, sym, refl, ap, ◌∙◌, subst, append_assoc, arith, lit≤, length-append}
use lib.ListN.{length-replicate}
use Rattle.std.proofs.lemmas.Bool.{le-leb, lt-leb, lt-ltb, le-ltb, true≢false}
use Rattle.std.proofs.lemmas.List.{take_at, get_or_at, get_or-replicate, length_push}
use Rattle.reading.specs.Reading.{body}
use Rattle.job.specs.Actions.{Attributes, Cell, Blank, Character, Tail}
use Rattle.job.specs.Printer.{Printer, emptied, reset_printer, with_row}
use Rattle.job.specs.Row.{closed_cell, is_blank, is_tail, cells_of, width_of, next_attributes, last_width}
use Rattle.job.specs.Configuration.{body_in_range, body_settings}
use Rattle.job.specs.Commands.{configured}
use Rattle.job.specs.Job.{State, stay}
use Rattle.job.specs.CommandLaws.{between_commands, Shows, RowIsEmpty, CancellingOrdersNothing, DeletingTakesBack}
use Rattle.job.proofs.Runs.{Reads, reads_then}
use Rattle.job.proofs.Columns.{cells_length}

blanks_hidden : (n : ℕ) → Shows (replicate n Blank) → ⊥
blanks_hidden n w =
    let b : get_or (replicate n Blank) w.0 Blank ≡ Blank = get_or-replicate n w.0 Blank Blank (simp length-replicate at w.1) in
    true≢false (sym (ap (λ (c : Cell). is_blank (closed_cell c)) b) ∙ w.2)

emptied_empty : (p : Printer) → 1 ≤ p.settings.margins.left → RowIsEmpty (emptied p)
emptied_empty p h = record {
  no_column = blanks_hidden (p.settings.margins.left - 1);
  at_margin = simp length-replicate (omega arith);
  one_line_off = refl;
}

-- a body that is read, from the bytes that have come of it to its last

abbrev in_body : List ℕ → Printer → State
in_body got p = record { reading = body false got; printer = p }

body_byte : (got : List ℕ) (b : ℕ) (p : Printer) → length got < 39 → Reads (in_body got p) (b ∷ []) [] (in_body (got ++ b ∷ []) p)
body_byte got b p h = rw (lt-ltb (length (got ++ b ∷ [])) 40 (simp length_push (omega arith)))

body_end : (got : List ℕ) (b : ℕ) (p : Printer) → length got ≡ 39 → body_in_range (got ++ b ∷ []) ≡ true
    → Reads (in_body got p) (b ∷ []) [] (between_commands (configured (body_settings (got ++ b ∷ [])) p))
body_end got b p h e = rw (le-ltb (length (got ++ b ∷ [])) 40 (simp length_push (omega arith)), e)

body_read : (bs got : List ℕ) (p : Printer) → length got + length bs ≡ 40 → 1 ≤ length bs → body_in_range (got ++ bs) ≡ true
    → Reads (in_body got p) bs [] (between_commands (configured (body_settings (got ++ bs)) p))
body_read [] got p n h e = absurd (omega arith)
body_read (b ∷ []) got p n h e = body_end got b p (omega arith) e
body_read (b ∷ c ∷ bs) got p n h e =
    let same : (got ++ b ∷ []) ++ (c ∷ bs) ≡ got ++ b ∷ c ∷ bs = append_assoc got (b ∷ []) (c ∷ bs) in
    reads_then (in_body got p) (b ∷ []) (c ∷ bs) (body_byte got b p (omega arith))
    (subst (λ (x : List ℕ). Reads (in_body (got ++ b ∷ []) p) (c ∷ bs) [] (between_commands (configured (body_settings x) p))) same
    (body_read (c ∷ bs) (got ++ b ∷ []) p (simp length_push (omega arith)) (omega arith) (subst (λ (x : List ℕ). body_in_range x ≡ true) (sym same) e)))

pub cancelling_orders_nothing : CancellingOrdersNothing
cancelling_orders_nothing p h = record {
  by_cancel = record { after = emptied p; quietly = refl; empty = emptied_empty p h; left_as = refl };
  by_reset = record { after = reset_printer p; quietly = refl; empty = record { no_column = blanks_hidden 0; at_margin = refl; one_line_off = refl }; left_as = refl };
  by_body = λ bs n e. record {
    after = configured (body_settings bs) p;
    quietly = reads_then (between_commands p) (0x1B ∷ 0xC6 ∷ []) bs refl (body_read bs [] p (omega (arith, n)) (omega (arith, n)) e);
    empty = record { no_column = blanks_hidden 0; at_margin = refl; one_line_off = refl };
    left_as = refl;
  };
}

-- the columns of a character at the end of a row
last_of_cells : (r : List Cell) (code : ℕ) (a : Attributes) → last_width (r ++ cells_of code a) ≡ width_of a
last_of_cells r code a = go a.wide
  where
    go : (b : Bool) → last_width (r ++ (Character code a ∷ cond b (Tail code a ∷ []) [])) ≡ cond b 2 1
    go true =
        let g : List Cell = Character code a ∷ Tail code a ∷ [] in
        let n : length (r ++ Character code a ∷ []) ≡ length (r ++ g) - 1 = simp (length_push, length-append) (omega arith) in
        let at : get_or (r ++ g) (length (r ++ g) - 1) Blank ≡ Tail code a =
        ap (λ (x : List Cell). get_or x (length (r ++ g) - 1) Blank) (sym (append_assoc r (Character code a ∷ []) (Tail code a ∷ [])))
        ∙ get_or_at (r ++ Character code a ∷ []) (Tail code a) [] Blank (length (r ++ g) - 1) n in
        ap (λ (x : Cell). cond (is_tail x) 2 1) at
    go false =
        let n : length r ≡ length (r ++ Character code a ∷ []) - 1 = simp length_push (omega arith) in
        ap (λ (x : Cell). cond (is_tail x) 2 1) (get_or_at r (Character code a) [] Blank (length (r ++ Character code a ∷ []) - 1) n)

taken_back : (r : List Cell) (code : ℕ) (a : Attributes) → take (length (r ++ cells_of code a) - last_width (r ++ cells_of code a)) (r ++ cells_of code a) ≡ r
taken_back r code a =
    let size : length (r ++ cells_of code a) ≡ length r + width_of a = length-append r (cells_of code a) ∙ ap (λ (n : ℕ). length r + n) (cells_length code a) in
    let keep : length r ≡ length (r ++ cells_of code a) - last_width (r ++ cells_of code a) = omega (arith, size, last_of_cells r code a) in
    take_at r (cells_of code a) (length (r ++ cells_of code a) - last_width (r ++ cells_of code a)) keep

some_width : (a : Attributes) → 1 ≤ width_of a
some_width a = go a.wide
  where
    go : (b : Bool) → 1 ≤ cond b 2 1
    go true = lit≤ tt
    go false = lit≤ tt

-- DEL with the column before the position not left of the margin
deleted_read : (p : Printer) (r : List Cell) → p.settings.margins.left ≤ length p.row → take (length p.row - last_width p.row) p.row ≡ r
    → Reads (between_commands p) (0x7F ∷ []) [] (between_commands (with_row r p))
deleted_read p r m e = rw (le-leb p.settings.margins.left (length p.row) m) (ap (λ (x : List Cell). stay (between_commands (with_row x p))) e)

taken_blank : (r : List Cell) → take (length (r ++ Blank ∷ []) - last_width (r ++ Blank ∷ [])) (r ++ Blank ∷ []) ≡ r
taken_blank r =
    let n : length r ≡ length (r ++ Blank ∷ []) - 1 = simp length_push (omega arith) in
    let w : last_width (r ++ Blank ∷ []) ≡ 1 = ap (λ (x : Cell). cond (is_tail x) 2 1) (get_or_at r Blank [] Blank (length (r ++ Blank ∷ []) - 1) n) in
    take_at r (Blank ∷ []) (length (r ++ Blank ∷ []) - last_width (r ++ Blank ∷ [])) (omega (arith, n, w))

pub deleting_takes_back : DeletingTakesBack
deleting_takes_back p = record {
  takes_back = λ code e f m.
      let a : Attributes = next_attributes true p.settings in
      let r : List Cell = p.row ++ cells_of code a in
      let size : length r ≡ length p.row + width_of a = length-append p.row (cells_of code a) ∙ ap (λ (n : ℕ). length p.row + n) (cells_length code a) in
      let typed : Reads (between_commands p) (code ∷ []) [] (between_commands (with_row r p)) = rw (e, f) in
      reads_then (between_commands p) (code ∷ []) (0x7F ∷ []) typed (deleted_read (with_row r p) p.row (omega (arith, size, some_width a)) (taken_back p.row code a));
  steps_over = λ r e m.
      deleted_read p r m (subst (λ (x : List Cell). take (length x - last_width x) x ≡ r) (sym e) (taken_blank r));
  stops_at_margin = λ h. rw (lt-leb p.settings.margins.left (length p.row) h);
}
