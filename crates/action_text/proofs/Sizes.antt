-- How long texts are.
use Rattle.std.proofs.Common.{◌≡◌, ℕ, ◌+◌, ◌*◌, ◌≤◌, Bool, true, false, cond, eqb, List, [], ◌∷◌, length, arith, length-append}
use mathlib.Core.Bool.{beq}
use Rattle.reading.specs.declared.Reply.TheVariants.{Status1, Status2, Identity, Configuration, WrongCharacter, WrongLength, UnknownKind}
use Rattle.job.specs.declared.cells.Attributes.{Attributes}
use Rattle.job.specs.declared.cells.Cell.{Cell}
use Rattle.job.specs.declared.cells.Cell.TheVariants.{Blank, Character, Tail}
use Rattle.job.specs.Actions.{plain, Act, row, advance, bars, total_cut, partial_cut, pulse, beep, reply}
use Rattle.job.specs.BarCodes.{kind_number, kind_of}
use Rattle.job.specs.NormalText.{flag, mode_bits, attribute_change, cells_text, up_to_last, action_text}
use Rattle.job.proofs.Rows.{up_to_last_le}
use Rattle.job.proofs.Strings.{accepted_short}
use Rattle.action_text.specs.Needs.{longest, TextsFit}

at_most_three : (b : Bool) (x y z : ℕ) → length (cond b [] (x ∷ y ∷ z ∷ [])) ≤ 3
at_most_three true x y z = omega arith
at_most_three false x y z = omega arith

change_size : (s t : Attributes) → length (attribute_change s t) ≤ 6
change_size s t =
    omega (
      arith,
      length-append (cond (eqb (mode_bits s) (mode_bits t)) [] (0x1B ∷ 0x21 ∷ mode_bits t ∷ [])) (cond (beq s.italic t.italic) [] (0x1B ∷ 0x34 ∷ flag t.italic ∷ [])),
      at_most_three (eqb (mode_bits s) (mode_bits t)) 0x1B 0x21 (mode_bits t),
      at_most_three (beq s.italic t.italic) 0x1B 0x34 (flag t.italic),
    )

cells_size : (now : Attributes) (cells : List Cell) → length (cells_text now cells) ≤ 7 * length cells + 6
cells_size now [] = omega (arith, change_size now plain)
cells_size now (Blank ∷ cells) =
    omega (arith, length-append (attribute_change now plain) (0x20 ∷ cells_text plain cells), change_size now plain, cells_size plain cells)
cells_size now (Character code a ∷ cells) =
    omega (arith, length-append (attribute_change now a) (code ∷ cells_text a cells), change_size now a, cells_size a cells)
cells_size now (Tail code a ∷ cells) = omega (arith, cells_size now cells)

row_size : (cells : List Cell) → length cells ≡ 48 → length (action_text (row cells)) ≤ 345
row_size cells h =
    omega (arith, length-append (cells_text plain (up_to_last cells)) (0x1B ∷ 0x4A ∷ 0x00 ∷ []), cells_size plain (up_to_last cells), up_to_last_le cells)

-- a row is the longest
pub at_most_345 : (a : Act) → longest a ≤ 345
at_most_345 (row cells) = omega arith
at_most_345 (advance n) = omega arith
at_most_345 (bars kind width height shown s) = omega arith
at_most_345 total_cut = omega arith
at_most_345 partial_cut = omega arith
at_most_345 pulse = omega arith
at_most_345 beep = omega arith
at_most_345 (reply r) = omega arith

pub texts_fit : TextsFit
texts_fit (row cells) h = record {
  within_need = row_size cells h.1;
  need_bounded = omega arith;
  not_empty = omega (arith, length-append (cells_text plain (up_to_last cells)) (0x1B ∷ 0x4A ∷ 0x00 ∷ []));
}
texts_fit (advance n) h = record { within_need = omega arith; need_bounded = omega arith; not_empty = omega arith }
texts_fit (bars kind width height shown s) h = record {
  within_need = omega arith;
  need_bounded = omega (arith, length-append s (0 ∷ []), accepted_short (kind_of (kind_number kind)) s h.4);
  not_empty = omega arith;
}
texts_fit total_cut h = record { within_need = omega arith; need_bounded = omega arith; not_empty = omega arith }
texts_fit partial_cut h = record { within_need = omega arith; need_bounded = omega arith; not_empty = omega arith }
texts_fit pulse h = record { within_need = omega arith; need_bounded = omega arith; not_empty = omega arith }
texts_fit beep h = record { within_need = omega arith; need_bounded = omega arith; not_empty = omega arith }
texts_fit (reply Status1) h = record { within_need = omega arith; need_bounded = omega arith; not_empty = omega arith }
texts_fit (reply Status2) h = record { within_need = omega arith; need_bounded = omega arith; not_empty = omega arith }
texts_fit (reply Identity) h = record { within_need = omega arith; need_bounded = omega arith; not_empty = omega arith }
texts_fit (reply Configuration) h = record { within_need = omega arith; need_bounded = omega arith; not_empty = omega arith }
texts_fit (reply WrongCharacter) h = record { within_need = omega arith; need_bounded = omega arith; not_empty = omega arith }
texts_fit (reply WrongLength) h = record { within_need = omega arith; need_bounded = omega arith; not_empty = omega arith }
texts_fit (reply UnknownKind) h = record { within_need = omega arith; need_bounded = omega arith; not_empty = omega arith }
