-- What each complete command does to the printer, and what it orders.
use Rattle.std.specs.Prelude.{ℕ, ◌+◌, Bool, true, false, cond, ◌&&◌, ◌||◌, List, [], ◌∷◌, Some, None, Option, Ok, Err, ◌==◌, nat_le, nat_lt, slice_index}
use Rattle.reading.specs.declared.Reply.TheVariants.{Configuration}
use Rattle.reading.specs.Tests.{between, every}
use Rattle.reading.specs.Commands.{Command, idle, print, send, sound_beep, pulse_drawer, line_feed, vertical_tab, form_feed, horizontal_tab, cancel_row, delete, attributes_off, set_emphasised, set_one_line_width, set_expanded, set_double_height, set_underline, set_italic, set_print_mode, set_spacing, feed_steps, repeat, set_page_length, set_vertical_stops, set_horizontal_stops, set_left_margin, set_right_margin, cut, bar_code, configure, reset}
use Rattle.job.specs.Actions.{plain, Act, bars, total_cut, partial_cut, pulse, beep, reply}
use Rattle.job.specs.Printer.{Printer, Cutter, with_attributes, with_one_line_width, with_margins, with_horizontal_stops, with_vertical_stops, with_cutter, change, change_attributes, change_margins, change_paper, emptied, margins_of, reset_printer}
use Rattle.job.specs.Row.{tabbed, deleted, left_margin_at}
use Rattle.job.specs.BarCodes.{BarKind, Verdict, kind_of, verdict, fault_reply}
use Rattle.job.specs.Configuration.{BodySettings, body_in_range, body_settings}
use Rattle.job.specs.Effects.{Effect, quiet, order, ◌then◌, times}
use Rattle.job.specs.Lines.{close, advance_by, feed_line, close_and_feed, put, lines_to_stop, lines_to_page}
use Rattle.job.specs.Changes.{emphasise, make_tall, make_wide, underline, make_italic, print_mode, space_lines, page_of, right_margin_at, rising}

-- partial or total, as configured
abbrev pub cut_of : Cutter → Act
cut_of c = cond c.partial partial_cut total_cut

-- with the cutter on: close the row, the line feeds before a cut, the cut
abbrev pub cut_paper : Cutter → Printer → Effect
cut_paper c p = cond c.on (close_and_feed c.lines p then order (cut_of c)) (quiet p)

-- a parameter of 0 means the default
abbrev pub or_default : ℕ → ℕ → ℕ
or_default d n = cond (n == 0) d n

-- the bars of a kind; none of an unknown one
abbrev pub bars_of : Option BarKind → ℕ → ℕ → Bool → List ℕ → List Act
bars_of None width height shown s = []
bars_of (Some kind) width height shown s = bars kind width height shown s ∷ []

-- accepted bars close the row; a fault is a reply alone
abbrev pub judge : Verdict → List Act → Printer → Effect
judge (Ok u) acts p = close p then (λ q. record { acts = acts; printer = q })
judge (Err f) acts p = order (reply (fault_reply f)) p

-- the four parameters: kind, width, height, and 1 for a shown string
abbrev pub draw_bars : List ℕ → List ℕ → Printer → Effect
draw_bars ps s =
    let kind : Option BarKind = kind_of (slice_index ps 0) in
    judge (verdict kind s) (bars_of kind (or_default 2 (slice_index ps 1)) (or_default 50 (slice_index ps 2)) (slice_index ps 3 == 1) s)

-- an accepted body cancels the row
abbrev pub configured : BodySettings → Printer → Printer
configured b p = emptied (change (λ s. with_cutter b.cutter (with_margins (margins_of b.columns) s)) p)

-- which complete commands are in range and order
abbrev pub in_range : Command → Printer → Bool
in_range idle p = true
in_range (print code) p = true
in_range (send r) p = true
in_range sound_beep p = true
in_range pulse_drawer p = true
in_range line_feed p = true
in_range vertical_tab p = true
in_range form_feed p = true
in_range horizontal_tab p = true
in_range cancel_row p = true
in_range delete p = true
in_range attributes_off p = true
in_range (set_emphasised on) p = true
in_range (set_one_line_width on) p = true
in_range (set_expanded n) p = nat_le n 1
in_range (set_double_height n) p = nat_le n 1
in_range (set_underline n) p = nat_le n 1
in_range (set_italic n) p = nat_le n 1
in_range (set_print_mode n) p = true
in_range (set_spacing n) p = true
in_range (feed_steps n) p = true
in_range (repeat what n) p = nat_le what 1 && nat_le n 127
in_range (set_page_length n) p = between 1 127 n
in_range (set_vertical_stops ns) p = rising 0 ns && every (between 1 127) ns
in_range (set_horizontal_stops ns) p = rising 0 ns && every (between 1 47) ns
in_range (set_left_margin n) p = between 1 46 n && nat_lt (n + 2) p.settings.margins.right
in_range (set_right_margin n) p = between 3 p.settings.margins.columns n && nat_lt (p.settings.margins.left + 2) n
in_range cut p = true
in_range (bar_code ps s) p = (slice_index ps 1 == 0 || between 2 5 (slice_index ps 1)) && (slice_index ps 2 == 0 || between 50 200 (slice_index ps 2))
in_range (configure replies bs) p = body_in_range bs
in_range reset p = true

-- what a complete command in range does
abbrev pub effect : Command → Printer → Effect
effect idle p = quiet p
effect (print code) p = put true code p
effect (send r) p = order (reply r) p
effect sound_beep p = order beep p
effect pulse_drawer p = order pulse p
effect line_feed p = feed_line p
effect vertical_tab p = times (lines_to_stop p.settings) feed_line p
effect form_feed p = times (lines_to_page p.settings) feed_line p
effect horizontal_tab p = quiet (tabbed p)
effect cancel_row p = quiet (emptied p)
effect delete p = quiet (deleted p)
effect attributes_off p = quiet (change (λ s. with_one_line_width false (with_attributes plain s)) p)
effect (set_emphasised on) p = quiet (change_attributes (emphasise on) p)
effect (set_one_line_width on) p = quiet (change (with_one_line_width on) p)
effect (set_expanded n) p = quiet (change_attributes (make_wide (n == 1)) p)
effect (set_double_height n) p = quiet (change_attributes (make_tall (n == 1)) p)
effect (set_underline n) p = quiet (change_attributes (underline (n == 1)) p)
effect (set_italic n) p = quiet (change_attributes (make_italic (n == 1)) p)
effect (set_print_mode n) p = quiet (change_attributes (print_mode n) p)
effect (set_spacing n) p = quiet (change_paper (space_lines n) p)
effect (feed_steps n) p = close p then advance_by n
effect (repeat what n) p = times n (cond (what == 0) (put false 0x20) feed_line) p
effect (set_page_length n) p = quiet (change_paper (page_of n) p)
effect (set_vertical_stops ns) p = quiet (change (with_vertical_stops ns) p)
effect (set_horizontal_stops ns) p = quiet (change (with_horizontal_stops ns) p)
effect (set_left_margin n) p = quiet (left_margin_at n p)
effect (set_right_margin n) p = quiet (change_margins (right_margin_at n) p)
effect cut p = cut_paper p.settings.cutter p
effect (bar_code ps s) p = draw_bars ps s p
effect (configure replies bs) p = record { acts = cond replies (reply Configuration ∷ []) []; printer = configured (body_settings bs) p }
effect reset p = quiet (reset_printer p)
