-- What one byte orders: at most one row, then equal advances, then at most one other action.
use Rattle.std.proofs.Common.{◌≡◌, ℕ, zero, suc, ◌-◌, ◌≤◌, Bool, true, false, cond, ◌||◌, eqb, List, [], ◌∷◌, ◌++◌, map, length, get_or, replicate, Some, None, Option, Ok, Err, sym, refl, ap, ◌∙◌, append_assoc, append-nil, lit≤}
use Rattle.std.specs.List.{AllByRecursion}
use Rattle.std.proofs.lemmas.Bool.{and_from}
use Rattle.std.proofs.lemmas.List.{map-append}
use Rattle.reading.specs.Tests.{every}
use Rattle.reading.specs.Commands.{Command, idle, print, send, sound_beep, pulse_drawer, line_feed, vertical_tab, form_feed, horizontal_tab, cancel_row, delete, attributes_off, set_emphasised, set_one_line_width, set_expanded, set_double_height, set_underline, set_italic, set_print_mode, set_spacing, feed_steps, repeat, set_page_length, set_vertical_stops, set_horizontal_stops, set_left_margin, set_right_margin, cut, bar_code, configure, reset}
use Rattle.reading.specs.Reading.{Meaning, more, done, refused, meaning}
use Rattle.job.specs.Actions.{Cell, Character, Tail, Act, row, advance, bars, total_cut, partial_cut, reply}
use Rattle.job.specs.Printer.{Printer, Cutter, emptied}
use Rattle.job.specs.Row.{closed_cell, is_blank, padded, closing, cells_of, next_attributes, fits, with_character}
use Rattle.job.specs.BarCodes.{BarKind, Verdict, kind_of, verdict}
use Rattle.job.specs.Effects.{Effect, quiet, order, ◌then◌, times}
use Rattle.job.specs.Lines.{feed_line, close_and_feed, put, lines_to_stop, lines_to_page}
use Rattle.job.specs.Commands.{cut_of, cut_paper, or_default, bars_of, judge, in_range, effect}
use Rattle.job.specs.Job.{carry_out, act_on}
use Rattle.job.specs.CommandLaws.{Other, InOrder, OneByteOrders}
use Rattle.job.proofs.Every.{every_append}
use Rattle.job.proofs.Feeds.{Bare, bare_blanks, bare_closing, advances, no_advances, more_advances, feed_acts, bare_feeds, feeds}

-- spaces that wrap

abbrev pub space : Printer → Effect
space = put false 0x20

bare_append : (r q : List Cell) → Bare r → Bare q → Bare (r ++ q)
bare_append r q a b =
    ap (λ (x : List Cell). every is_blank x) (map-append closed_cell r q)
    ∙ (every_append is_blank (map closed_cell r) (map closed_cell q) ∙ and_from _ _ a b)

bare_space : (p : Printer) → Bare (cells_of 0x20 (next_attributes false p.settings))
bare_space p = go (p.settings.one_line_width || p.settings.attributes.wide)
  where
    go : (b : Bool) → Bare (Character 0x20 (next_attributes false p.settings) ∷ cond b (Tail 0x20 (next_attributes false p.settings) ∷ []) [])
    go true = refl
    go false = refl

-- a space put into a row of which nothing shows
bare_typed : (p : Printer) → Bare p.row → Bare (with_character false 0x20 p).row
bare_typed p h = bare_append p.row (cells_of 0x20 (next_attributes false p.settings)) h (bare_space p)

-- what a line feed leaves of the row shows nothing
bare_fed : (p : Printer) → Bare (feed_line p).printer.row
bare_fed p = bare_blanks (p.settings.margins.left - 1)

abbrev pub wrapped : Printer → Effect
wrapped p = feed_line p then (λ q. quiet (with_character false 0x20 q))

-- from a row of which nothing shows: advances alone
pub bare_spaces : (n : ℕ) (p : Printer) → Bare p.row → (k : ℕ) × ((times n space p).acts ≡ advances k p.settings.paper.spacing)
bare_spaces zero p h = (0, sym (no_advances p.settings.paper.spacing))
bare_spaces (suc n) p h = go (fits false p) (λ q k. bare_spaces n q k)
  where
    steps : ℕ
    steps = p.settings.paper.spacing

    Ends : Printer → Type 0
    Ends q = (k : ℕ) × ((times n space q).acts ≡ advances k q.settings.paper.spacing)

    go : (b : Bool) → ((q : Printer) → Bare q.row → Ends q)
        → (k : ℕ) × ((cond b (quiet (with_character false 0x20 p)) (wrapped p) then times n space).acts ≡ advances k steps)
    go true f = f (with_character false 0x20 p) (bare_typed p h)
    go false f =
        let end : Ends (wrapped p).printer = f (wrapped p).printer (bare_typed (feed_line p).printer (bare_fed p)) in (
          suc end.0,
          ap (λ (x : List Act). x ++ (times n space (wrapped p).printer).acts) (append-nil (feed_line p).acts ∙ feed_acts p ∙ ap (λ (x : List Act). x ++ advances 1 steps) (bare_closing p.row h))
              ∙ ap (λ (x : List Act). advances 1 steps ++ x) end.1
              ∙ more_advances end.0 steps,
        )

-- a closed row and equal advances
abbrev pub Fed : List Act → ℕ → Type 0
Fed acts steps = (r : List Cell) × (k : ℕ) × (acts ≡ closing r ++ advances k steps)

pub spaces_fed : (n : ℕ) (p : Printer) → Fed (times n space p).acts p.settings.paper.spacing
spaces_fed zero p = ([], 0, sym (no_advances p.settings.paper.spacing))
spaces_fed (suc n) p = go (fits false p) (λ q. spaces_fed n q)
  where
    steps : ℕ
    steps = p.settings.paper.spacing

    go : (b : Bool) → ((q : Printer) → Fed (times n space q).acts q.settings.paper.spacing)
        → Fed (cond b (quiet (with_character false 0x20 p)) (wrapped p) then times n space).acts steps
    go true f = f (with_character false 0x20 p)
    go false f =
        let end : (k : ℕ) × ((times n space (wrapped p).printer).acts ≡ advances k steps) = bare_spaces n (wrapped p).printer (bare_typed (feed_line p).printer (bare_fed p)) in
        let rest : List Act = (times n space (wrapped p).printer).acts in (
          p.row,
          suc end.0,
          ap (λ (x : List Act). x ++ rest) (append-nil (feed_line p).acts ∙ feed_acts p)
              ∙ append_assoc (closing p.row) (advances 1 steps) rest
              ∙ ap (λ (x : List Act). closing p.row ++ (advances 1 steps ++ x)) end.1
              ∙ ap (λ (x : List Act). closing p.row ++ x) (more_advances end.0 steps),
        )

pub lines_fed : (n : ℕ) (p : Printer) → Fed (times n feed_line p).acts p.settings.paper.spacing
lines_fed zero p = ([], 0, sym (no_advances p.settings.paper.spacing))
lines_fed (suc n) p = (p.row, suc n, feeds n p)

pub put_fed : (typed : Bool) (code : ℕ) (p : Printer) → Fed (put typed code p).acts p.settings.paper.spacing
put_fed typed code p = go (fits typed p)
  where
    go : (b : Bool) → Fed (cond b (quiet (with_character typed code p)) (feed_line p then (λ q. quiet (with_character typed code q)))).acts p.settings.paper.spacing
    go true = ([], 0, sym (no_advances p.settings.paper.spacing))
    go false = (p.row, 1, append-nil (feed_line p).acts ∙ feed_acts p)

-- the shape

closed_rows : List Cell → List (List Cell)
closed_rows r = cond (every is_blank (map closed_cell r)) [] (padded (map closed_cell r) ∷ [])

closing_rows : (r : List Cell) → closing r ≡ map row (closed_rows r)
unfolding closed_rows
closing_rows r = go (every is_blank (map closed_cell r))
  where
    go : (b : Bool) → cond b [] (row (padded (map closed_cell r)) ∷ []) ≡ map row (cond b [] (padded (map closed_cell r) ∷ []))
    go true = refl
    go false = refl

few_rows : (r : List Cell) → length (closed_rows r) ≤ 1
unfolding closed_rows
few_rows r = go (every is_blank (map closed_cell r))
  where
    go : (b : Bool) → length {A = List Cell} (cond b [] (padded (map closed_cell r) ∷ [])) ≤ 1
    go true = lit≤ tt
    go false = lit≤ tt

advances_count : (k steps : ℕ) → advances k steps ≡ replicate (cond (eqb steps 0) 0 k) (advance steps)
advances_count k steps = go (eqb steps 0)
  where
    go : (b : Bool) → cond b [] (replicate k (advance steps)) ≡ replicate (cond b 0 k) (advance steps)
    go true = refl
    go false = refl

-- a closed row, equal advances, and some other actions
shaped : (acts : List Act) (r : List Cell) (k steps : ℕ) (others : List Act) → length others ≤ 1 → AllByRecursion Other others
    → acts ≡ closing r ++ (advances k steps ++ others) → InOrder acts
shaped acts r k steps others few other e = record {
  rows = closed_rows r;
  count = cond (eqb steps 0) 0 k;
  steps = steps;
  others = others;
  parts = e ∙ ap (λ (x : List Act). x ++ (advances k steps ++ others)) (closing_rows r) ∙ ap (λ (x : List Act). map row (closed_rows r) ++ (x ++ others)) (advances_count k steps);
  one_row = few_rows r;
  one_other = few;
  no_more = other;
}

fed_shaped : {acts : List Act} (steps : ℕ) → Fed acts steps → InOrder acts
fed_shaped {acts} steps h =
    shaped acts h.0 h.1 steps [] (lit≤ tt) tt (h.2 ∙ ap (λ (x : List Act). closing h.0 ++ x) (sym (append-nil (advances h.1 steps))))

none_shaped : InOrder []
none_shaped = shaped [] [] 0 0 [] (lit≤ tt) tt refl

one_shaped : (a : Act) → Other a → InOrder (a ∷ [])
one_shaped a o = shaped (a ∷ []) [] 0 0 (a ∷ []) (lit≤ tt) (o, tt) refl

closed_then : (r : List Cell) (others : List Act) → length others ≤ 1 → AllByRecursion Other others → InOrder (closing r ++ others)
closed_then r others few other = shaped (closing r ++ others) r 0 0 others few other refl

-- every command

cut_shaped : (c : Cutter) (p : Printer) → InOrder (cut_paper c p).acts
cut_shaped c p = go c.on
  where
    steps : ℕ
    steps = p.settings.paper.spacing

    other : (b : Bool) → Other (cond b partial_cut total_cut)
    other true = tt
    other false = tt

    go : (b : Bool) → InOrder (cond b (close_and_feed c.lines p then order (cut_of c)) (quiet p)).acts
    go true =
        shaped (close_and_feed c.lines p then order (cut_of c)).acts p.row c.lines steps (cut_of c ∷ []) (lit≤ tt) (other c.partial, tt)
        (append_assoc (closing p.row) (times c.lines feed_line (emptied p)).acts (cut_of c ∷ [])
        ∙ ap (λ (x : List Act). closing p.row ++ (x ++ cut_of c ∷ [])) (bare_feeds c.lines (emptied p) (bare_blanks (p.settings.margins.left - 1))))
    go false = none_shaped

judged_shaped : (v : Verdict) (kind : Option BarKind) (width height : ℕ) (shown : Bool) (s : List ℕ) (p : Printer) → InOrder (judge v (bars_of kind width height shown s) p).acts
judged_shaped (Ok u) None width height shown s p = closed_then p.row [] (lit≤ tt) tt
judged_shaped (Ok u) (Some kind) width height shown s p = closed_then p.row (bars kind width height shown s ∷ []) (lit≤ tt) (tt, tt)
judged_shaped (Err f) kind width height shown s p = one_shaped _ tt

repeat_shaped : (what n : ℕ) (p : Printer) → InOrder (effect (repeat what n) p).acts
repeat_shaped what n p = go (eqb what 0)
  where
    go : (b : Bool) → InOrder (times n (cond b space feed_line) p).acts
    go true = fed_shaped p.settings.paper.spacing (spaces_fed n p)
    go false = fed_shaped p.settings.paper.spacing (lines_fed n p)

replied_shaped : (b : Bool) (a : Act) → Other a → InOrder (cond b (a ∷ []) [])
replied_shaped true a o = one_shaped a o
replied_shaped false a o = none_shaped

effect_shaped : (c : Command) (p : Printer) → InOrder (effect c p).acts
effect_shaped idle p = none_shaped
effect_shaped (print code) p = fed_shaped p.settings.paper.spacing (put_fed true code p)
effect_shaped (send r) p = one_shaped (reply r) tt
effect_shaped sound_beep p = one_shaped _ tt
effect_shaped pulse_drawer p = one_shaped _ tt
effect_shaped line_feed p = fed_shaped p.settings.paper.spacing (p.row, 1, feed_acts p)
effect_shaped vertical_tab p = fed_shaped p.settings.paper.spacing (lines_fed (lines_to_stop p.settings) p)
effect_shaped form_feed p = fed_shaped p.settings.paper.spacing (lines_fed (lines_to_page p.settings) p)
effect_shaped horizontal_tab p = none_shaped
effect_shaped cancel_row p = none_shaped
effect_shaped delete p = none_shaped
effect_shaped attributes_off p = none_shaped
effect_shaped (set_emphasised on) p = none_shaped
effect_shaped (set_one_line_width on) p = none_shaped
effect_shaped (set_expanded n) p = none_shaped
effect_shaped (set_double_height n) p = none_shaped
effect_shaped (set_underline n) p = none_shaped
effect_shaped (set_italic n) p = none_shaped
effect_shaped (set_print_mode n) p = none_shaped
effect_shaped (set_spacing n) p = none_shaped
effect_shaped (feed_steps n) p = fed_shaped n (p.row, 1, refl)
effect_shaped (repeat what n) p = repeat_shaped what n p
effect_shaped (set_page_length n) p = none_shaped
effect_shaped (set_vertical_stops ns) p = none_shaped
effect_shaped (set_horizontal_stops ns) p = none_shaped
effect_shaped (set_left_margin n) p = none_shaped
effect_shaped (set_right_margin n) p = none_shaped
effect_shaped cut p = cut_shaped p.settings.cutter p
effect_shaped (bar_code ps s) p =
    judged_shaped (verdict (kind_of (get_or ps 0 0)) s) (kind_of (get_or ps 0 0)) (or_default 2 (get_or ps 1 0)) (or_default 50 (get_or ps 2 0)) (eqb (get_or ps 3 0) 1) s p
effect_shaped (configure replies bs) p = replied_shaped replies _ tt
effect_shaped reset p = none_shaped

act_on_shaped : (m : Meaning) (p : Printer) → InOrder (act_on m p).acts
act_on_shaped (more r) p = none_shaped
act_on_shaped (done c r) p = go (in_range c p)
  where
    go : (b : Bool) → InOrder (carry_out b c r p).acts
    go true = effect_shaped c p
    go false = none_shaped
act_on_shaped (refused why r) p = none_shaped

pub one_byte_orders : OneByteOrders
one_byte_orders st b = act_on_shaped (meaning st.reading b) st.printer
