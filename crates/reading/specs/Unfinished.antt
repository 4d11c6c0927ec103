-- The bytes of an unfinished command.
use Rattle.std.specs.Prelude.{◌≡◌, ℕ, ◌≤◌, true, false, List, [], ◌∷◌, ◌++◌, length}
use Rattle.reading.specs.Commands.{ParameterCode, Expanded, DoubleHeight, Underline, Italic, PrintMode, Spacing, FeedSteps, PageLength, LeftMargin, RightMargin}
use Rattle.reading.specs.Reading.{Reading, text, escape, group, parameter, repeat_what, repeat_count, bar_parameters, bar_string, vertical_list, horizontal_list, body, reading_after}

-- the byte of a code that takes one parameter
abbrev pub code_byte : ParameterCode → ℕ
code_byte Expanded = 0x57
code_byte DoubleHeight = 0x77
code_byte Underline = 0x2D
code_byte Italic = 0x34
code_byte PrintMode = 0x21
code_byte Spacing = 0x33
code_byte FeedSteps = 0x4A
code_byte PageLength = 0x43
code_byte LeftMargin = 0x6C
code_byte RightMargin = 0x51

-- the bytes that have come of the command that is being read; none of text
abbrev pub begun : Reading → List ℕ
begun text = []
begun escape = 0x1B ∷ []
begun group = 0x1D ∷ []
begun (parameter code) = 0x1B ∷ code_byte code ∷ []
begun repeat_what = 0x1B ∷ 0x66 ∷ []
begun (repeat_count what) = 0x1B ∷ 0x66 ∷ what ∷ []
begun (bar_parameters got) = 0x1B ∷ 0x62 ∷ got
begun (bar_string ps got) = 0x1B ∷ 0x62 ∷ (ps ++ got)
begun (vertical_list got) = 0x1B ∷ 0x42 ∷ got
begun (horizontal_list got) = 0x1B ∷ 0x44 ∷ got
begun (body false got) = 0x1B ∷ 0xC6 ∷ got
begun (body true got) = 0x1B ∷ 0xE4 ∷ got

-- what is being read behind a stream is told by its last bytes alone, at most 41, in front of which text was read
pub record BegunBy (s : List ℕ) : Type 0 where
  pub front : List ℕ
  pub joins : s ≡ front ++ begun (reading_after text s)
  pub apart : reading_after text front ≡ text
  pub few : length (begun (reading_after text s)) ≤ 41

abbrev pub UnfinishedCommandsAreKept : Type 0
UnfinishedCommandsAreKept = (s : List ℕ) → BegunBy s
