-- What a stream can order.
use Rattle.std.specs.Prelude.{◌≡◌, ℕ, ◌≤◌, true, false, List, [], ◌∷◌, length, Ok}
use Rattle.reading.specs.Tests.{every}
use Rattle.reading.specs.Reading.{is_text}
use Rattle.job.specs.Actions.{Attributes, Cell, Blank, Character, Tail, Act, row, advance, bars, total_cut, partial_cut, pulse, beep, reply}
use Rattle.job.specs.Row.{is_invisible, is_blank}
use Rattle.job.specs.BarCodes.{kind_number, kind_of, verdict}

-- columns with a tail exactly behind each wide character, and with only the characters that are allowed
pub data LaidOut (Allowed : ℕ → Attributes → Type 0) : List Cell → Type 0 where
  none : LaidOut Allowed []
  blank : {cells : List Cell} → LaidOut Allowed cells → LaidOut Allowed (Blank ∷ cells)
  narrow : {code : ℕ} {a : Attributes} {cells : List Cell} → Allowed code a → a.wide ≡ false → LaidOut Allowed cells → LaidOut Allowed (Character code a ∷ cells)
  wide : {code : ℕ} {a : Attributes} {cells : List Cell} → Allowed code a → a.wide ≡ true → LaidOut Allowed cells → LaidOut Allowed (Character code a ∷ Tail code a ∷ cells)

-- a text byte, and no space without underline
abbrev pub Visible : ℕ → Attributes → Type 0
Visible code a = (is_text code ≡ true) × (is_invisible code a ≡ false)

-- what an action must be for a stream to order it
abbrev pub Orderable : Act → Type 0
-- 48 columns, not all of them blank
Orderable (row cells) = LaidOut Visible cells × (length cells ≡ 48) × (every is_blank cells ≡ false)
Orderable (advance n) = (1 ≤ n) × (n ≤ 255)
-- parameters filled in, and a string that the kind accepts
Orderable (bars kind width height shown s) =
    (2 ≤ width) × (width ≤ 5) × (50 ≤ height) × (height ≤ 200) × (verdict (kind_of (kind_number kind)) s ≡ Ok tt)
Orderable total_cut = Unit {0}
Orderable partial_cut = Unit {0}
Orderable pulse = Unit {0}
Orderable beep = Unit {0}
Orderable (reply r) = Unit {0}
