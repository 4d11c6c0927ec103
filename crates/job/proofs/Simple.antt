-- The texts of the actions other than rows, read between two texts.
use Rattle.std.proofs.Common.{◌≡◌, ℕ, ◌+◌, ◌<◌, ◌≤◌, Bool, true, false, eqb, leb, List, [], ◌∷◌, ◌++◌, length, Some, Ok, sym, refl, ap, ◌∙◌, append_assoc, append-nil, arith}
use Rattle.std.specs.List.{AllByRecursion}
use Rattle.std.proofs.lemmas.Bool.{ne_eqb, le-leb, lt-ltb, and_from}
use Rattle.std.proofs.lemmas.List.{length_push}
use Rattle.std.proofs.ByRecursion.{All-weaker}
use Rattle.reading.specs.declared.Reply.{Reply}
use Rattle.reading.specs.declared.Reply.TheVariants.{Status1, Status2, Identity, Configuration, WrongCharacter, WrongLength, UnknownKind}
use Rattle.reading.specs.Tests.{between}
use Rattle.reading.specs.Reading.{bar_string}
use Rattle.job.specs.Actions.{Act, advance, bars, total_cut, partial_cut, pulse, beep, reply}
use Rattle.job.specs.Printer.{Printer, new_printer_at}
use Rattle.job.specs.BarCodes.{BarKind, Ean13, Ean8, Standard2of5, Interleaved2of5, Code128, Code39, Code93, UpcA, Codabar, Msi, Code11, kind_number, kind_of, verdict}
use Rattle.job.specs.Job.{State, stay, resting}
use Rattle.job.specs.NormalText.{flag, action_text}
use Rattle.job.specs.Orderable.{Orderable}
use Rattle.job.proofs.Runs.{Reads, reads_then}
use Rattle.job.proofs.Strings.{Filled, accepted_filled, accepted_short}

-- the text orders the action alone and leaves the interpreter resting
abbrev pub ReadsBack : Act → ℕ → Type 0
ReadsBack a line = Reads (resting line) (action_text a) (a ∷ []) (resting line)

pub cut_read : (line : ℕ) → ReadsBack total_cut line
cut_read line = refl

pub partial_read : (line : ℕ) → ReadsBack partial_cut line
partial_read line = refl

pub pulse_read : (line : ℕ) → ReadsBack pulse line
pulse_read line = refl

pub beep_read : (line : ℕ) → ReadsBack beep line
beep_read line = refl

pub reply_read : (r : Reply) (line : ℕ) → ReadsBack (reply r) line
reply_read Status1 line = refl
reply_read Status2 line = refl
reply_read Identity line = refl
reply_read Configuration line = refl
reply_read WrongCharacter line = refl
reply_read WrongLength line = refl
reply_read UnknownKind line = refl

pub advance_read : (n line : ℕ) → 1 ≤ n → ReadsBack (advance n) line
advance_read n line h = rw (ne_eqb n 0 (λ e. omega arith))

-- a bar code's string

abbrev pub in_string : Printer → List ℕ → List ℕ → State
in_string p ps got = record { reading = bar_string ps got; printer = p }

string_byte : (p : Printer) (ps got : List ℕ) (b : ℕ) → 1 ≤ b → length got < 25 → Reads (in_string p ps got) (b ∷ []) [] (in_string p ps (got ++ b ∷ []))
string_byte p ps got b h k = rw (ne_eqb b 0 (λ e. omega arith), lt-ltb (length got) 25 k)

pub string_read : (p : Printer) (ps got s : List ℕ) → AllByRecursion (λ b. 1 ≤ b) s → length got + length s ≤ 25 → Reads (in_string p ps got) s [] (in_string p ps (got ++ s))
string_read p ps got [] h k = ap (λ (x : List ℕ). stay (in_string p ps x)) (sym (append-nil got))
string_read p ps got (b ∷ s) h k =
    reads_then (in_string p ps got) (b ∷ []) s
    (string_byte p ps got b h.0 (omega arith))
    (string_read p ps (got ++ b ∷ []) s h.1 (simp length_push (omega arith)) ∙ ap (λ (x : List ℕ). stay (in_string p ps x)) (append_assoc got (b ∷ []) s))

-- the number of a kind names that kind
pub known : (kind : BarKind) → kind_of (kind_number kind) ≡ Some kind
known Ean13 = refl
known Ean8 = refl
known Standard2of5 = refl
known Interleaved2of5 = refl
known Code128 = refl
known Code39 = refl
known Code93 = refl
known UpcA = refl
known Codabar = refl
known Msi = refl
known Code11 = refl

flag_back : (b : Bool) → eqb (flag b) 1 ≡ b
flag_back true = refl
flag_back false = refl

bars_end : (kind : BarKind) (width height : ℕ) (shown : Bool) (line : ℕ) (s : List ℕ) → Orderable (bars kind width height shown s)
    → Reads (in_string (new_printer_at line) (kind_number kind ∷ width ∷ height ∷ flag shown ∷ []) s) (0 ∷ []) (bars kind width height shown s ∷ []) (resting line)
bars_end kind width height shown line s h =
    let w0 : eqb width 0 ≡ false = ne_eqb width 0 (λ e. omega arith) in
    let h0 : eqb height 0 ≡ false = ne_eqb height 0 (λ e. omega arith) in
    let w : between 2 5 width ≡ true = and_from (leb 2 width) (leb width 5) (le-leb 2 width h.0) (le-leb width 5 h.1) in
    let g : between 50 200 height ≡ true = and_from (leb 50 height) (leb height 200) (le-leb 50 height h.2) (le-leb height 200 h.3) in
    let v : verdict (kind_of (kind_number kind)) s ≡ Ok tt = h.4 in
    rw (w0, h0, w, g, v, known kind, flag_back shown, w0, h0)

pub bars_read : (kind : BarKind) (width height : ℕ) (shown : Bool) (line : ℕ) (s : List ℕ) → Orderable (bars kind width height shown s)
    → ReadsBack (bars kind width height shown s) line
bars_read kind width height shown line s h =
    let ps : List ℕ = kind_number kind ∷ width ∷ height ∷ flag shown ∷ [] in
    reads_then (resting line) (0x1B ∷ 0x62 ∷ ps) (s ++ 0 ∷ []) refl
    (reads_then (in_string (new_printer_at line) ps []) s (0 ∷ [])
    (string_read (new_printer_at line) ps [] s (All-weaker Filled (λ b. 1 ≤ b) (λ b f. f.0) s (accepted_filled (kind_of (kind_number kind)) s h.4)) (omega (arith, accepted_short (kind_of (kind_number kind)) s h.4)))
    (bars_end kind width height shown line s h))
