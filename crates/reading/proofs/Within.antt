-- A byte either adds to the command that is being read, within its length, or ends it.
use Rattle.std.proofs.Common.{◌≡◌, ℕ, ◌<◌, ◌≤◌, Bool, true, false, cond, eqb, List, [], ◌∷◌, ◌++◌, length, refl, subst, append_assoc, arith, length-append, rules}
use Rattle.std.specs.List.{AllByRecursion}
use Rattle.std.proofs.lemmas.List.{length_push, append-nil}
use Rattle.std.proofs.lemmas.Bool.{eqb-true}
use Rattle.std.proofs.lemmas.Bool.Decides.{nat_tests}
use Rattle.reading.specs.Tests.{find}
use Rattle.reading.specs.Commands.{print}
use Rattle.reading.specs.Reading.{Reading, text, escape, group, parameter, repeat_what, repeat_count, bar_parameters, bar_string, vertical_list, horizontal_list, body, Meaning, more, done, refused, complete, unknown, is_text, single_bytes, escape_codes, group_codes, meaning}
use Rattle.reading.specs.Unfinished.{begun}

-- no more bytes have come than the command has room for
abbrev pub Within : Reading → Type 0
Within text = Unit {0}
Within escape = Unit {0}
Within group = Unit {0}
Within (parameter code) = Unit {0}
Within repeat_what = Unit {0}
Within (repeat_count what) = Unit {0}
Within (bar_parameters got) = length got < 4
Within (bar_string ps got) = (length ps ≡ 4) × (length got ≤ 25)
Within (vertical_list got) = length got ≤ 16
Within (horizontal_list got) = length got ≤ 8
Within (body replies got) = length got < 40

-- what a byte makes of the bytes that have come, itself the last of them
abbrev pub Moves : List ℕ → Meaning → Type 0
Moves bs (more r) = Within r × (begun r ≡ bs)
Moves bs (done c r) = r ≡ text
Moves bs (refused why r) = r ≡ text

pub chosen : (bs : List ℕ) (t : Bool) (x y : Meaning) → (t ≡ true → Moves bs x) → (t ≡ false → Moves bs y) → Moves bs (cond t x y)
chosen bs true x y f g = f refl
chosen bs false x y f g = g refl

-- a table whose rows do so
found : (front : List ℕ) (table : List (ℕ × Meaning)) (b : ℕ) → AllByRecursion (λ row. Moves (front ++ row.0 ∷ []) row.1) table → Moves (front ++ b ∷ []) (find unknown table b)
found front [] b h = refl
found front (row ∷ table) b h =
    chosen (front ++ b ∷ []) (eqb row.0 b) row.1 (find unknown table b)
    (λ e. subst (λ (n : ℕ). Moves (front ++ n ∷ []) row.1) (eqb-true row.0 b e) h.0)
    (λ e. found front table b h.1)

single_rows : AllByRecursion (λ row. Moves ([] ++ row.0 ∷ []) row.1) single_bytes
single_rows = search rules

escape_rows : AllByRecursion (λ row. Moves ((0x1B ∷ []) ++ row.0 ∷ []) row.1) escape_codes
escape_rows = search rules

group_rows : AllByRecursion (λ row. Moves ((0x1D ∷ []) ++ row.0 ∷ []) row.1) group_codes
group_rows = search rules

pub moves : (r : Reading) (b : ℕ) → Within r → Moves (begun r ++ b ∷ []) (meaning r b)
moves text b h = chosen (b ∷ []) (is_text b) (complete (print b)) (find unknown single_bytes b) (λ e. refl) (λ e. found [] single_bytes b single_rows)
moves escape b h = found (0x1B ∷ []) escape_codes b escape_rows
moves group b h = found (0x1D ∷ []) group_codes b group_rows
moves (parameter code) b h = refl
moves repeat_what b h = (tt, refl)
moves (repeat_count what) b h = refl
moves (bar_parameters got) b h = grind (arith, nat_tests, length_push, append-nil)
moves (bar_string ps got) b h = grind (arith, nat_tests, length_push, append_assoc)
moves (vertical_list got) b h = grind (arith, nat_tests, length_push)
moves (horizontal_list got) b h = grind (arith, nat_tests, length_push)
moves (body true got) b h = grind (arith, nat_tests, length_push)
moves (body false got) b h = grind (arith, nat_tests, length_push)

-- so at most 41 bytes have come
pub few : (r : Reading) → Within r → length (begun r) ≤ 41
few r h = grind (arith, length-append)
