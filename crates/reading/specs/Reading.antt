-- What a byte means depends on what is being read.
use Rattle.std.specs.Prelude.{ℕ, Bool, true, false, cond, ◌||◌, List, [], ◌∷◌, ◌++◌, length, ◌==◌, nat_lt}
use Rattle.reading.specs.Tests.{between, find}
use Rattle.reading.specs.Commands.{Command, idle, print, send, sound_beep, pulse_drawer, line_feed, vertical_tab, form_feed, horizontal_tab, cancel_row, delete, attributes_off, set_emphasised, set_one_line_width, set_expanded, set_spacing, repeat, set_vertical_stops, set_horizontal_stops, cut, bar_code, configure, reset, Status1, Status2, Identity, ParameterCode, Expanded, DoubleHeight, Underline, Italic, PrintMode, Spacing, FeedSteps, PageLength, LeftMargin, RightMargin, with_parameter}
pub use Rattle.reading.specs.declared.Refusal.{Refusal}
pub use Rattle.reading.specs.declared.Refusal.TheVariants.{UnknownCommand, OutOfRange, TooLong}

-- the number under which a refused command is reported
abbrev pub refusal_number : Refusal → ℕ
refusal_number UnknownCommand = 1
refusal_number OutOfRange = 2
refusal_number TooLong = 3

-- what is being read; of an unfinished command, the bytes that its completion needs
pub data Reading : Type 0 where
  text : Reading
  -- the code after 1B; the code after 1D
  escape group : Reading
  -- the parameter of a code that takes one
  parameter : ParameterCode → Reading
  -- the two parameters of 1B 66: the first; the second behind the first
  repeat_what : Reading
  repeat_count : ℕ → Reading
  -- the four parameters of a bar code: those read so far
  bar_parameters : List ℕ → Reading
  -- a bar code's string: its four parameters, and the bytes read so far
  bar_string : List ℕ → List ℕ → Reading
  -- a list of stops: those read so far
  vertical_list horizontal_list : List ℕ → Reading
  -- a configuration's body: whether it also replies, and the bytes read so far
  body : Bool → List ℕ → Reading

-- what a byte makes of it, and what is read behind it: more of the command is to come, the command is complete, or it is refused
pub data Meaning : Type 0 where
  more : Reading → Meaning
  done : Command → Reading → Meaning
  refused : Refusal → Reading → Meaning

-- a complete command, behind which text is read
abbrev pub complete : Command → Meaning
complete c = done c text

-- a byte or pair that is not in the table
abbrev pub unknown : Meaning
unknown = refused UnknownCommand text

-- one stop or string byte more than there may be
abbrev pub too_long : Meaning
too_long = refused TooLong text

abbrev pub is_text : ℕ → Bool
is_text b = between 0x20 0x7E b || between 0x80 0xFF b

abbrev pub single_bytes : List (ℕ × Meaning)
single_bytes =
    (0x00, complete idle) ∷ (0x0D, complete idle)
    ∷ (0x1B, more escape) ∷ (0x1D, more group)
    ∷ (0x05, complete (send Status1))
    ∷ (0x07, complete sound_beep)
    ∷ (0x0A, complete line_feed) ∷ (0x0B, complete vertical_tab) ∷ (0x0C, complete form_feed) ∷ (0x09, complete horizontal_tab)
    ∷ (0x18, complete cancel_row) ∷ (0x7F, complete delete)
    ∷ (0x0E, complete (set_expanded 1)) ∷ (0x14, complete attributes_off)
    ∷ (0x11, complete (set_emphasised true)) ∷ (0x13, complete (set_emphasised false))
    ∷ []

abbrev pub group_codes : List (ℕ × Meaning)
group_codes = (0x05, complete (send Status2)) ∷ []

abbrev pub escape_codes : List (ℕ × Meaning)
escape_codes =
    (0xC3, complete (send Identity))
    ∷ (0x70, complete pulse_drawer)
    ∷ (0x45, complete (set_emphasised true)) ∷ (0x47, complete (set_emphasised true))
    ∷ (0x46, complete (set_emphasised false)) ∷ (0x48, complete (set_emphasised false))
    ∷ (0x0E, complete (set_one_line_width true)) ∷ (0x14, complete (set_one_line_width false))
    ∷ (0x57, more (parameter Expanded)) ∷ (0x77, more (parameter DoubleHeight)) ∷ (0x2D, more (parameter Underline)) ∷ (0x34, more (parameter Italic))
    ∷ (0x21, more (parameter PrintMode))
    ∷ (0x32, complete (set_spacing 25)) ∷ (0x33, more (parameter Spacing))
    ∷ (0x4A, more (parameter FeedSteps))
    ∷ (0x66, more repeat_what)
    ∷ (0x43, more (parameter PageLength))
    ∷ (0x42, more (vertical_list [])) ∷ (0x44, more (horizontal_list []))
    ∷ (0x6C, more (parameter LeftMargin)) ∷ (0x51, more (parameter RightMargin))
    ∷ (0x6D, complete cut)
    ∷ (0x62, more (bar_parameters []))
    ∷ (0xC6, more (body false [])) ∷ (0xE4, more (body true []))
    ∷ (0x40, complete reset)
    ∷ []

-- one byte more of at most so many, up to the 00 that completes the command
abbrev pub up_to_zero : ℕ → (List ℕ → Command) → (List ℕ → Reading) → List ℕ → ℕ → Meaning
up_to_zero most command reading got b =
    cond (b == 0) (complete (command got)) (cond (nat_lt (length got) most) (more (reading (got ++ b ∷ []))) too_long)

abbrev pub meaning : Reading → ℕ → Meaning
meaning text b = cond (is_text b) (complete (print b)) (find unknown single_bytes b)
meaning escape b = find unknown escape_codes b
meaning group b = find unknown group_codes b
meaning (parameter code) b = complete (with_parameter code b)
meaning repeat_what b = more (repeat_count b)
meaning (repeat_count what) b = complete (repeat what b)
meaning (bar_parameters got) b =
    let ps : List ℕ = got ++ b ∷ [] in
    cond (nat_lt (length ps) 4) (more (bar_parameters ps)) (more (bar_string ps []))
meaning (bar_string ps got) b = up_to_zero 25 (bar_code ps) (bar_string ps) got b
meaning (vertical_list got) b = up_to_zero 16 set_vertical_stops vertical_list got b
meaning (horizontal_list got) b = up_to_zero 8 set_horizontal_stops horizontal_list got b
meaning (body replies got) b =
    let bs : List ℕ = got ++ b ∷ [] in
    cond (nat_lt (length bs) 40) (more (body replies bs)) (complete (configure replies bs))

-- what is read behind a byte
abbrev pub next_reading : Meaning → Reading
next_reading (more r) = r
next_reading (done c r) = r
next_reading (refused why r) = r

-- what is read behind some bytes
abbrev pub reading_after : Reading → List ℕ → Reading
reading_after r [] = r
reading_after r (b ∷ bs) = reading_after (next_reading (meaning r b)) bs
