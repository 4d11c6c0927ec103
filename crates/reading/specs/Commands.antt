-- The complete commands, with their parameters as the stream gave them.
-- Whether the parameters are in range and order is asked when a command is carried out, not while it is read.
use Rattle.std.specs.Prelude.{ℕ, Bool, List}
pub use Rattle.reading.specs.declared.Reply.{Reply}
pub use Rattle.reading.specs.declared.Reply.TheVariants.{Status1, Status2, Identity, Configuration, WrongCharacter, WrongLength, UnknownKind}
pub use Rattle.reading.specs.declared.ParameterCode.{ParameterCode}
pub use Rattle.reading.specs.declared.ParameterCode.TheVariants.{Expanded, DoubleHeight, Underline, Italic, PrintMode, Spacing, FeedSteps, PageLength, LeftMargin, RightMargin}

pub data Command : Type 0 where
  -- a byte that is taken and does nothing
  idle : Command
  -- a text byte: put its character
  print : ℕ → Command
  -- answer the host
  send : Reply → Command
  sound_beep : Command
  pulse_drawer : Command
  -- LF, VT, FF, HT
  line_feed vertical_tab form_feed horizontal_tab : Command
  -- cancel the open row; DEL
  cancel_row delete : Command
  -- all five attributes and one-line width off
  attributes_off : Command
  set_emphasised set_one_line_width : Bool → Command
  set_expanded set_double_height set_underline set_italic : ℕ → Command
  -- four attributes at once, by bits
  set_print_mode : ℕ → Command
  -- the steps of a line feed; close the row and advance
  set_spacing feed_steps : ℕ → Command
  -- what, 0 for spaces and 1 for line feeds, and how many
  repeat : ℕ → ℕ → Command
  set_page_length : ℕ → Command
  set_vertical_stops set_horizontal_stops : List ℕ → Command
  set_left_margin set_right_margin : ℕ → Command
  cut : Command
  -- the four parameters (kind, width, height, whether the string is shown) and the string
  bar_code : List ℕ → List ℕ → Command
  -- whether it also replies, and the 40 bytes of the body
  configure : Bool → List ℕ → Command
  reset : Command

-- the command of a code that takes one parameter
abbrev pub with_parameter : ParameterCode → ℕ → Command
with_parameter Expanded n = set_expanded n
with_parameter DoubleHeight n = set_double_height n
with_parameter Underline n = set_underline n
with_parameter Italic n = set_italic n
with_parameter PrintMode n = set_print_mode n
with_parameter Spacing n = set_spacing n
with_parameter FeedSteps n = feed_steps n
with_parameter PageLength n = set_page_length n
with_parameter LeftMargin n = set_left_margin n
with_parameter RightMargin n = set_right_margin n
