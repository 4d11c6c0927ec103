-- Tests for what a stream can order.
use Rattle.std.specs.Prelude.{ℕ, Bool, true, false, not, ◌&&◌, List, [], ◌∷◌, length, is_ok, ◌==◌}
use Rattle.std.specs.Bool.{beq}
use Rattle.reading.specs.Tests.{between, every}
use Rattle.reading.specs.Reading.{is_text}
use Rattle.job.specs.declared.cells.Attributes.{Attributes}
use Rattle.job.specs.declared.cells.Cell.{Cell}
use Rattle.job.specs.declared.cells.Cell.TheVariants.{Blank, Character, Tail}
use Rattle.job.specs.Actions.{Act, row, advance, bars, total_cut, partial_cut, pulse, beep, reply}
use Rattle.job.specs.Row.{is_invisible, is_blank}
use Rattle.job.specs.BarCodes.{kind_number, kind_of, verdict}

abbrev pub same_attributes : Attributes → Attributes → Bool
same_attributes s t =
    beq s.emphasised t.emphasised && (beq s.tall t.tall && (beq s.wide t.wide
    && (beq s.underlined t.underlined && beq s.italic t.italic)))

-- a wide character, whose tail comes next
abbrev pub opens_wide : Cell → Bool
opens_wide Blank = false
opens_wide (Character code a) = a.wide
opens_wide (Tail code a) = false

-- a tail with this code and these attributes belongs to a column
abbrev pub has_tail : Cell → ℕ → Attributes → Bool
has_tail Blank code a = false
has_tail (Character k s) code a = s.wide && (k == code && same_attributes s a)
has_tail (Tail k s) code a = false

-- a column may stand behind another
abbrev pub follows : Cell → Cell → Bool
follows c Blank = not (opens_wide c)
follows c (Character code a) = not (opens_wide c) && (is_text code && not (is_invisible code a))
follows c (Tail code a) = has_tail c code a

-- columns behind another are laid out with it
abbrev pub laid_behind : Cell → List Cell → Bool
laid_behind c [] = not (opens_wide c)
laid_behind c (d ∷ cells) = follows c d && laid_behind d cells

-- the test that decides what a stream can order
abbrev pub can_be_ordered : Act → Bool
can_be_ordered (row cells) = laid_behind Blank cells && (length cells == 48 && not (every is_blank cells))
can_be_ordered (advance n) = between 1 255 n
can_be_ordered (bars kind width height shown s) =
    between 2 5 width && (between 50 200 height && is_ok (verdict (kind_of (kind_number kind)) s))
can_be_ordered total_cut = true
can_be_ordered partial_cut = true
can_be_ordered pulse = true
can_be_ordered beep = true
can_be_ordered (reply r) = true
