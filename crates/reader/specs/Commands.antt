-- The commands that the code's commands stand for.
use Rattle.std.specs.Prelude.{ℕ, List, [], ◌∷◌}
use Rattle.reading.specs.Commands as table
use Rattle.short.specs.Short.{listed}
use Rattle.reader.specs.declared.command.BarParameters.{BarParameters}
use Rattle.reader.specs.declared.command.Command.{Command}
use Rattle.reader.specs.declared.command.Command.TheVariants.{Idle, Print, Send, SoundBeep, PulseDrawer, LineFeed, VerticalTab, FormFeed, HorizontalTab, CancelRow, Delete, AttributesOff, SetEmphasised, SetOneLineWidth, SetExpanded, SetDoubleHeight, SetUnderline, SetItalic, SetPrintMode, SetSpacing, FeedSteps, Repeat, SetPageLength, SetVerticalStops, SetHorizontalStops, SetLeftMargin, SetRightMargin, Cut, BarCode, Configure, Reset}

-- the four parameters, in the order in which they come
abbrev pub parameters_of : BarParameters → List ℕ
parameters_of p = p.kind ∷ p.width ∷ p.height ∷ p.shown ∷ []

-- the command that the code's command stands for
abbrev pub command_of : Command → table.Command
command_of Idle = table.idle
command_of (Print byte) = table.print byte.code
command_of (Send r) = table.send r
command_of SoundBeep = table.sound_beep
command_of PulseDrawer = table.pulse_drawer
command_of LineFeed = table.line_feed
command_of VerticalTab = table.vertical_tab
command_of FormFeed = table.form_feed
command_of HorizontalTab = table.horizontal_tab
command_of CancelRow = table.cancel_row
command_of Delete = table.delete
command_of AttributesOff = table.attributes_off
command_of (SetEmphasised on) = table.set_emphasised on
command_of (SetOneLineWidth on) = table.set_one_line_width on
command_of (SetExpanded n) = table.set_expanded n
command_of (SetDoubleHeight n) = table.set_double_height n
command_of (SetUnderline n) = table.set_underline n
command_of (SetItalic n) = table.set_italic n
command_of (SetPrintMode n) = table.set_print_mode n
command_of (SetSpacing n) = table.set_spacing n
command_of (FeedSteps n) = table.feed_steps n
command_of (Repeat what n) = table.repeat what n
command_of (SetPageLength n) = table.set_page_length n
command_of (SetVerticalStops stops) = table.set_vertical_stops (listed stops)
command_of (SetHorizontalStops stops) = table.set_horizontal_stops (listed stops)
command_of (SetLeftMargin n) = table.set_left_margin n
command_of (SetRightMargin n) = table.set_right_margin n
command_of Cut = table.cut
command_of (BarCode ps s) = table.bar_code (parameters_of ps) (listed s)
command_of (Configure replies body) = table.configure replies body
command_of Reset = table.reset
