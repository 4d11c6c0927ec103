-- What stays true of an interpreter while it reads.
use Rattle.std.proofs.Common.{◌≡◌, ℕ, ◌≤◌, true, List, length}
use Rattle.std.specs.List.{AllByRecursion}
use Rattle.reading.specs.Commands.{Command, idle, print, send, sound_beep, pulse_drawer, line_feed, vertical_tab, form_feed, horizontal_tab, cancel_row, delete, attributes_off, set_emphasised, set_one_line_width, set_expanded, set_double_height, set_underline, set_italic, set_print_mode, set_spacing, feed_steps, repeat, set_page_length, set_vertical_stops, set_horizontal_stops, set_left_margin, set_right_margin, cut, bar_code, configure, reset}
use Rattle.reading.specs.Reading.{Reading, text, escape, group, parameter, repeat_what, repeat_count, bar_parameters, bar_string, vertical_list, horizontal_list, body, Meaning, more, done, refused, is_text}
use Rattle.job.specs.Actions.{Cell}
use Rattle.job.specs.Printer.{Printer, Margins, Paper}
use Rattle.job.specs.Effects.{Effect}
use Rattle.job.specs.Job.{State, Step}
use Rattle.job.specs.Orderable.{Orderable}
use Rattle.job.specs.Invariants.{MarginsHold, StopsHold, PaperHolds, RowHolds}

-- over the parts that matter alone, so that a change of any other part keeps it as it is
pub record Fit (m : Margins) (hs vs : List ℕ) (q : Paper) (lines : ℕ) (r : List Cell) : Type 0 where
  pub margins : MarginsHold m
  pub horizontal : StopsHold 8 47 hs
  pub vertical : StopsHold 16 127 vs
  pub paper : PaperHolds q
  pub cutter : lines ≤ 20
  pub row : RowHolds m.columns r

abbrev pub Sound : Printer → Type 0
Sound p = Fit p.settings.margins p.settings.horizontal_stops p.settings.vertical_stops p.settings.paper p.settings.cutter.lines p.row

abbrev pub SoundEffect : Effect → Type 0
SoundEffect e = AllByRecursion Orderable e.acts × Sound e.printer

abbrev pub SoundCommand : Command → Type 0
SoundCommand idle = Unit {0}
SoundCommand (print code) = is_text code ≡ true
SoundCommand (send r) = Unit {0}
SoundCommand sound_beep = Unit {0}
SoundCommand pulse_drawer = Unit {0}
SoundCommand line_feed = Unit {0}
SoundCommand vertical_tab = Unit {0}
SoundCommand form_feed = Unit {0}
SoundCommand horizontal_tab = Unit {0}
SoundCommand cancel_row = Unit {0}
SoundCommand delete = Unit {0}
SoundCommand attributes_off = Unit {0}
SoundCommand (set_emphasised on) = Unit {0}
SoundCommand (set_one_line_width on) = Unit {0}
SoundCommand (set_expanded n) = Unit {0}
SoundCommand (set_double_height n) = Unit {0}
SoundCommand (set_underline n) = Unit {0}
SoundCommand (set_italic n) = Unit {0}
SoundCommand (set_print_mode n) = Unit {0}
SoundCommand (set_spacing n) = n ≤ 255
SoundCommand (feed_steps n) = n ≤ 255
SoundCommand (repeat what n) = Unit {0}
SoundCommand (set_page_length n) = Unit {0}
SoundCommand (set_vertical_stops ns) = length ns ≤ 16
SoundCommand (set_horizontal_stops ns) = length ns ≤ 8
SoundCommand (set_left_margin n) = Unit {0}
SoundCommand (set_right_margin n) = Unit {0}
SoundCommand cut = Unit {0}
SoundCommand (bar_code ps s) = Unit {0}
SoundCommand (configure replies bs) = Unit {0}
SoundCommand reset = Unit {0}

abbrev pub SoundReading : Reading → Type 0
SoundReading text = Unit {0}
SoundReading escape = Unit {0}
SoundReading group = Unit {0}
SoundReading (parameter code) = Unit {0}
SoundReading repeat_what = Unit {0}
SoundReading (repeat_count what) = Unit {0}
SoundReading (bar_parameters got) = Unit {0}
SoundReading (bar_string ps got) = Unit {0}
SoundReading (vertical_list got) = length got ≤ 16
SoundReading (horizontal_list got) = length got ≤ 8
SoundReading (body replies got) = Unit {0}

abbrev pub SoundMeaning : Meaning → Type 0
SoundMeaning (more r) = SoundReading r
SoundMeaning (done c r) = SoundCommand c × SoundReading r
SoundMeaning (refused why r) = SoundReading r

abbrev pub SoundState : State → Type 0
SoundState st = SoundReading st.reading × Sound st.printer

abbrev pub SoundStep : Step → Type 0
SoundStep t = AllByRecursion Orderable t.acts × SoundState t.next
