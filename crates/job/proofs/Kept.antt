-- A sound interpreter stays sound, and orders what is orderable.
use Rattle.std.proofs.Common.{◌≡◌, ℕ, zero, suc, ◌+◌, ◌-◌, ◌<◌, ◌≤◌, Bool, true, false, cond, ◌&&◌, ◌||◌, eqb, ltb, leb, List, [], ◌∷◌, ◌++◌, map, length, get_or, take, replicate, Some, None, Option, Ok, Err, sym, refl, ap, ◌∙◌, arith, lit≤, length-append, length-take}
use lib.ListN.{length-replicate}
use Rattle.std.specs.List.{AllByRecursion}
use Rattle.std.proofs.lemmas.Bool.{and_parts, leb-true, ltb-true, eqb-true, eqb-false, cond_both}
use Rattle.std.proofs.ByRecursion.{All-append}
use Rattle.reading.specs.declared.Reply.TheVariants.{Configuration}
use Rattle.reading.specs.Tests.{between, every, find}
use Rattle.reading.specs.Commands.{Command, idle, print, send, sound_beep, pulse_drawer, line_feed, vertical_tab, form_feed, horizontal_tab, cancel_row, delete, attributes_off, set_emphasised, set_one_line_width, set_expanded, set_double_height, set_underline, set_italic, set_print_mode, set_spacing, feed_steps, repeat, set_page_length, set_vertical_stops, set_horizontal_stops, set_left_margin, set_right_margin, cut, bar_code, configure, reset}
use Rattle.reading.specs.Reading.{is_text}
use Rattle.job.specs.Actions.{Attributes, Cell, Blank, Act, row, advance, bars, total_cut, partial_cut, reply}
use Rattle.job.specs.Printer.{Printer, Margins, Paper, Cutter, emptied, margins_of, with_row, change_margins, position}
use Rattle.job.specs.Row.{closed_cell, is_blank, padded, cells_of, width_of, next_attributes, fits, with_character, next_beyond, tabbed, last_width, deleted, left_margin_at}
use Rattle.job.specs.BarCodes.{BarKind, Verdict, kind_number, bar_kinds, kind_of, verdict}
use Rattle.job.specs.Configuration.{body_in_range, body_settings, digit_at, lines_before_cut}
use Rattle.job.specs.Effects.{Effect, quiet, order, ◌then◌, times}
use Rattle.job.specs.Lines.{close, advance_by, next_line, feed_line, close_and_feed, put, lines_to_stop, lines_to_page}
use Rattle.job.specs.Changes.{rising}
use Rattle.job.specs.Commands.{cut_of, cut_paper, or_default, bars_of, judge, draw_bars, configured, in_range, effect}
use Rattle.job.specs.Orderable.{none, Orderable}
use Rattle.job.specs.Invariants.{MarginsHold, StopsHold, PaperHolds, RowHolds}
use Rattle.job.proofs.Strings.{between_true}
use Rattle.job.proofs.Columns.{laid_append, laid_blanks, laid_cells, cells_length, width_two, closed_orderable, laid_shortened}
use Rattle.job.proofs.Sound.{Fit, Sound, SoundEffect, SoundCommand}

-- effects, one after the other

abbrev Keeps : (Printer → Effect) → Type 0
Keeps f = (p : Printer) → Sound p → SoundEffect (f p)

then_kept : (e : Effect) (f : Printer → Effect) → SoundEffect e → Keeps f → SoundEffect (e then f)
then_kept e f h k =
    let g : SoundEffect (f e.printer) = k e.printer h.1 in
    (All-append Orderable e.acts (f e.printer).acts h.0 g.0, g.1)

times_kept : (n : ℕ) (f : Printer → Effect) → Keeps f → Keeps (times n f)
times_kept zero f k p h = (tt, h)
times_kept (suc n) f k p h = then_kept (f p) (times n f) (k p h) (times_kept n f k)

-- the row

-- another row
with_row_kept : (p : Printer) (r : List Cell) → Sound p → RowHolds p.settings.margins.columns r → Sound (with_row r p)
with_row_kept p r h k = record { margins = h.margins; horizontal = h.horizontal; vertical = h.vertical; paper = h.paper; cutter = h.cutter; row = k }

blanks_hold : (n columns : ℕ) → n ≤ columns → RowHolds columns (replicate n Blank)
blanks_hold n columns h = record { laid_out = laid_blanks n; within = simp length-replicate h }

margin_blanks : (m : Margins) → MarginsHold m → RowHolds m.columns (replicate (m.left - 1) Blank)
margin_blanks m h = blanks_hold (m.left - 1) m.columns (omega arith)

emptied_kept : (p : Printer) → Sound p → Sound (emptied p)
emptied_kept p h = with_row_kept p (replicate (p.settings.margins.left - 1) Blank) h (margin_blanks p.settings.margins h.margins)

close_kept : Keeps close
close_kept p h = (go (every is_blank (map closed_cell p.row)) refl, emptied_kept p h)
  where
    go : (b : Bool) → every is_blank (map closed_cell p.row) ≡ b → AllByRecursion Orderable (cond b [] (row (padded (map closed_cell p.row)) ∷ []))
    go true e = tt
    go false e = (closed_orderable p.row h.row.laid_out (omega (arith, h.row.within, h.margins.at_most)) e, tt)

advance_kept : (n : ℕ) → n ≤ 255 → Keeps (advance_by n)
advance_kept n small p h = (go (eqb n 0) refl, h)
  where
    go : (b : Bool) → eqb n 0 ≡ b → AllByRecursion Orderable (cond b [] (advance n ∷ []))
    go true e = tt
    go false e = ((above (eqb-false n 0 e), small), tt)
      where
        above : (n ≡ 0 → ⊥) → 1 ≤ n
        above ne = omega arith

-- another paper
with_paper_kept : (p : Printer) (q : Paper) → Sound p → PaperHolds q → Fit p.settings.margins p.settings.horizontal_stops p.settings.vertical_stops q p.settings.cutter.lines p.row
with_paper_kept p q h k = record { margins = h.margins; horizontal = h.horizontal; vertical = h.vertical; paper = k; cutter = h.cutter; row = h.row }

next_line_holds : (q : Paper) → PaperHolds q → PaperHolds (next_line q)
next_line_holds q h = go (eqb q.line q.page) refl
  where
    go : (b : Bool) → eqb q.line q.page ≡ b → PaperHolds (record { spacing = q.spacing; page = q.page; line = cond b 1 (q.line + 1) })
    go true e = record { byte = h.byte; first = lit≤ tt; on_page = omega (arith, h.first, h.on_page); at_most = h.at_most }
    go false e = record { byte = h.byte; first = omega arith; on_page = below (eqb-false q.line q.page e); at_most = h.at_most }
      where
        below : (q.line ≡ q.page → ⊥) → q.line + 1 ≤ q.page
        below ne = omega (arith, h.on_page)

feed_line_kept : Keeps feed_line
feed_line_kept p h =
    let a : SoundEffect (close p then advance_by p.settings.paper.spacing) =
    then_kept (close p) (advance_by p.settings.paper.spacing) (close_kept p h) (advance_kept p.settings.paper.spacing h.paper.byte) in (
      All-append Orderable (close p then advance_by p.settings.paper.spacing).acts [] a.0 tt,
      with_paper_kept (emptied p) (next_line p.settings.paper) a.1 (next_line_holds p.settings.paper h.paper),
    )

character_kept : (typed : Bool) (code : ℕ) → is_text code ≡ true → (p : Printer) → Sound p
    → length p.row + width_of (next_attributes typed p.settings) ≤ p.settings.margins.columns
    → Sound (with_character typed code p)
character_kept typed code e p h room =
    let a : Attributes = next_attributes typed p.settings in
    with_row_kept p (p.row ++ cells_of code a) h
    (record { laid_out = laid_append h.row.laid_out (laid_cells code a e); within = simp (length-append, cells_length) room })

put_kept : (typed : Bool) (code : ℕ) → is_text code ≡ true → Keeps (put typed code)
put_kept typed code e p h = go (fits typed p) refl
  where
    behind : Effect
    behind = feed_line p then (λ q. quiet (with_character typed code q))

    next : SoundEffect behind
    next =
        let a : SoundEffect (feed_line p) = feed_line_kept p h in
        let b : Sound (with_character typed code (feed_line p).printer) = character_kept typed code e (feed_line p).printer a.1
        (simp length-replicate (omega (arith, width_two (next_attributes typed (feed_line p).printer.settings), h.margins.first, h.margins.apart, h.margins.within))) in
        (All-append Orderable (feed_line p).acts [] a.0 tt, b)

    go : (b : Bool) → fits typed p ≡ b → SoundEffect (cond b (quiet (with_character typed code p)) behind)
    go true w =
        let room : length p.row + width_of (next_attributes typed p.settings) ≤ p.settings.margins.right =
        leb-true (length p.row + width_of (next_attributes typed p.settings)) p.settings.margins.right w in
        (tt, character_kept typed code e p h (omega (arith, room, h.margins.within)))
    go false w = next

tabbed_kept : (p : Printer) → Sound p → Sound (tabbed p)
tabbed_kept p h = go (ltb (position p) column && leb column p.settings.margins.right) refl
  where
    column : ℕ
    column = next_beyond p.settings.margins.left (position p) p.settings.horizontal_stops

    go : (b : Bool) → (ltb (position p) column && leb column p.settings.margins.right) ≡ b
        → Sound (cond b (with_row (p.row ++ replicate (column - position p) Blank) p) p)
    go true e =
        let parts : (ltb (position p) column ≡ true) × (leb column p.settings.margins.right ≡ true) =
        and_parts (ltb (position p) column) (leb column p.settings.margins.right) e in
        let above : position p < column = ltb-true (position p) column parts.0 in
        let below : column ≤ p.settings.margins.right = leb-true column p.settings.margins.right parts.1 in
        with_row_kept p (p.row ++ replicate (column - position p) Blank) h
        (record { laid_out = laid_append h.row.laid_out (laid_blanks (column - position p)); within = simp (length-append, length-replicate) (omega (arith, h.margins.within)) })
    go false e = h

deleted_kept : (p : Printer) → Sound p → Sound (deleted p)
deleted_kept p h = go (leb p.settings.margins.left (length p.row))
  where
    go : (b : Bool) → Sound (cond b (with_row (take (length p.row - last_width p.row) p.row) p) p)
    go true =
        with_row_kept p (take (length p.row - last_width p.row) p.row) h
        (record { laid_out = laid_shortened h.row.laid_out; within = simp length-take (omega (arith, h.row.within)) })
    go false = h

-- settings

-- other margins
with_margins_kept : (p : Printer) (m : Margins) (r : List Cell) → Sound p → MarginsHold m → RowHolds m.columns r
    → Fit m p.settings.horizontal_stops p.settings.vertical_stops p.settings.paper p.settings.cutter.lines r
with_margins_kept p m r h k l = record { margins = k; horizontal = h.horizontal; vertical = h.vertical; paper = h.paper; cutter = h.cutter; row = l }

left_kept : (n : ℕ) (p : Printer) → Sound p → in_range (set_left_margin n) p ≡ true → Sound (left_margin_at n p)
left_kept n p h e = go (every is_blank p.row && eqb (position p) p.settings.margins.left)
  where
    m : Margins
    m = record { columns = p.settings.margins.columns; left = n; right = p.settings.margins.right }

    parts : (between 1 46 n ≡ true) × (ltb (n + 2) p.settings.margins.right ≡ true)
    parts = and_parts (between 1 46 n) (ltb (n + 2) p.settings.margins.right) e

    hold : MarginsHold m
    hold = record {
      first = (between_true 1 46 n parts.0).0;
      apart = ltb-true (n + 2) p.settings.margins.right parts.1;
      within = h.margins.within;
      at_most = h.margins.at_most;
    }

    q : Printer
    q = change_margins (λ k. record { columns = k.columns; left = n; right = k.right }) p

    go : (b : Bool) → Sound (cond b (with_row (replicate (n - 1) Blank) q) q)
    go true = with_margins_kept p m (replicate (n - 1) Blank) h hold (margin_blanks m hold)
    go false = with_margins_kept p m p.row h hold h.row

right_kept : (n : ℕ) (p : Printer) → Sound p → in_range (set_right_margin n) p ≡ true → Sound (effect (set_right_margin n) p).printer
right_kept n p h e =
    let parts : (between 3 p.settings.margins.columns n ≡ true) × (ltb (p.settings.margins.left + 2) n ≡ true) =
    and_parts (between 3 p.settings.margins.columns n) (ltb (p.settings.margins.left + 2) n) e in
    with_margins_kept p (record { columns = p.settings.margins.columns; left = p.settings.margins.left; right = n }) p.row h
    (record {
      first = h.margins.first;
      apart = ltb-true (p.settings.margins.left + 2) n parts.1;
      within = (between_true 3 p.settings.margins.columns n parts.0).1;
      at_most = h.margins.at_most;
    })
    h.row

stops_hold : (most limit : ℕ) (ns : List ℕ) → length ns ≤ most → (rising 0 ns && every (between 1 limit) ns) ≡ true → StopsHold most limit ns
stops_hold most limit ns k e =
    let parts : (rising 0 ns ≡ true) × (every (between 1 limit) ns ≡ true) = and_parts (rising 0 ns) (every (between 1 limit) ns) e in
    record { few = k; rise = parts.0; in_reach = parts.1 }

-- 48 or 34 columns, and an empty row
all_columns : (b : Bool) → MarginsHold (margins_of (cond b 48 34))
all_columns true = record { first = lit≤ tt; apart = lit≤ tt; within = lit≤ tt; at_most = lit≤ tt }
all_columns false = record { first = lit≤ tt; apart = lit≤ tt; within = lit≤ tt; at_most = lit≤ tt }

empty_holds : (columns : ℕ) → RowHolds columns []
empty_holds columns = record { laid_out = none; within = omega arith }

few_lines : (bs : List ℕ) → body_in_range bs ≡ true → lines_before_cut bs ≤ 20
few_lines bs e = leb-true (lines_before_cut bs) 20 (and_parts _ (leb (lines_before_cut bs) 20) (and_parts _ (eqb (digit_at bs 35) 0x31) e).0).1

configured_kept : (bs : List ℕ) (p : Printer) → Sound p → body_in_range bs ≡ true → Sound (configured (body_settings bs) p)
configured_kept bs p h e = record {
  margins = all_columns (eqb (digit_at bs 10) 0x30);
  horizontal = h.horizontal;
  vertical = h.vertical;
  paper = h.paper;
  cutter = few_lines bs e;
  row = empty_holds (cond (eqb (digit_at bs 10) 0x30) 48 34);
}

pub new_stops : StopsHold 8 47 (8 ∷ 16 ∷ 24 ∷ 32 ∷ 40 ∷ [])
new_stops = record { few = lit≤ tt; rise = refl; in_reach = refl }

pub no_stops : StopsHold 16 127 []
no_stops = record { few = lit≤ tt; rise = refl; in_reach = refl }

reset_kept : Keeps (effect reset)
reset_kept p h = (
  tt,
  record
      { margins = all_columns true; horizontal = new_stops; vertical = no_stops; paper = h.paper; cutter = h.cutter; row = empty_holds 48 },
)

-- bar codes

abbrev number_of : Option BarKind → ℕ
number_of None = 0
number_of (Some kind) = kind_number kind

-- a table whose rows have their kinds' numbers
find_numbered : (table : List (ℕ × Option BarKind)) (n : ℕ) (kind : BarKind) → every (λ e. eqb (number_of e.1) e.0) table ≡ true
    → find None table n ≡ Some kind → kind_number kind ≡ n
find_numbered [] n kind h e = let z : ◌≡◌ {A = ℕ} 0 1 = cc in absurd (omega arith)
find_numbered (e ∷ table) n kind h k =
    let parts : (eqb (number_of e.1) e.0 ≡ true) × (every (λ r. eqb (number_of r.1) r.0) table ≡ true) =
    and_parts (eqb (number_of e.1) e.0) (every (λ r. eqb (number_of r.1) r.0) table) h in
    cond_both (eqb e.0 n) e.1 (find None table n) (λ o. o ≡ Some kind → kind_number kind ≡ n)
    (λ t f. ap number_of (sym f) ∙ eqb-true (number_of e.1) e.0 parts.0 ∙ eqb-true e.0 n t)
    (λ t f. find_numbered table n kind parts.1 f)
    k

numbered : (n : ℕ) (kind : BarKind) → kind_of n ≡ Some kind → kind_number kind ≡ n
numbered n kind e = find_numbered bar_kinds n kind refl e

filled_in : (d low high n : ℕ) → low ≤ d → d ≤ high → (eqb n 0 || between low high n) ≡ true → (low ≤ or_default d n) × (or_default d n ≤ high)
filled_in d low high n a b e = go (eqb n 0) e
  where
    go : (t : Bool) → (t || between low high n) ≡ true → (low ≤ cond t d n) × (cond t d n ≤ high)
    go true k = (a, b)
    go false k = between_true low high n k

bars_kept : (ps s : List ℕ) (p : Printer) → in_range (bar_code ps s) p ≡ true → Sound p → SoundEffect (draw_bars ps s p)
bars_kept ps s p e h = go (kind_of n) refl (verdict (kind_of n) s) refl
  where
    n : ℕ
    n = get_or ps 0 0

    w : ℕ
    w = or_default 2 (get_or ps 1 0)

    t : ℕ
    t = or_default 50 (get_or ps 2 0)

    parts : ((eqb (get_or ps 1 0) 0 || between 2 5 (get_or ps 1 0)) ≡ true) × ((eqb (get_or ps 2 0) 0 || between 50 200 (get_or ps 2 0)) ≡ true)
    parts = and_parts (eqb (get_or ps 1 0) 0 || between 2 5 (get_or ps 1 0)) (eqb (get_or ps 2 0) 0 || between 50 200 (get_or ps 2 0)) e

    width : (2 ≤ w) × (w ≤ 5)
    width = filled_in 2 2 5 (get_or ps 1 0) (lit≤ tt) (lit≤ tt) parts.0

    height : (50 ≤ t) × (t ≤ 200)
    height = filled_in 50 50 200 (get_or ps 2 0) (lit≤ tt) (lit≤ tt) parts.1

    go : (k : Option BarKind) → kind_of n ≡ k → (v : Verdict) → verdict k s ≡ v → SoundEffect (judge v (bars_of k w t (eqb (get_or ps 3 0) 1) s) p)
    go None j (Ok u) k = let z : ◌≡◌ {A = ℕ} 0 1 = cc in absurd (omega arith)
    go (Some kind) j (Ok u) k =
        let same : verdict (kind_of (kind_number kind)) s ≡ Ok tt =
        ap (λ (i : ℕ). verdict (kind_of i) s) (numbered n kind j) ∙ ap (λ (o : Option BarKind). verdict o s) j ∙ k in
        let a : SoundEffect (close p) = close_kept p h in
        (All-append Orderable (close p).acts (bars kind w t (eqb (get_or ps 3 0) 1) s ∷ []) a.0 ((width.0, width.1, height.0, height.1, same), tt), a.1)
    go k j (Err f) v = ((tt, tt), h)

-- cut and repetition

cut_kept : (c : Cutter) → Keeps (cut_paper c)
cut_kept c p h = go c.on
  where
    kind : (b : Bool) → Orderable (cond b partial_cut total_cut)
    kind true = tt
    kind false = tt

    go : (b : Bool) → SoundEffect (cond b (close_and_feed c.lines p then order (cut_of c)) (quiet p))
    go true =
        then_kept (close_and_feed c.lines p) (order (cut_of c))
        (then_kept (close p) (times c.lines feed_line) (close_kept p h) (times_kept c.lines feed_line feed_line_kept))
        (λ q g. ((kind c.partial, tt), g))
    go false = (tt, h)

repeat_kept : (what n : ℕ) → Keeps (effect (repeat what n))
repeat_kept what n = times_kept n (cond (eqb what 0) (put false 0x20) feed_line) (go (eqb what 0))
  where
    go : (b : Bool) → Keeps (cond b (put false 0x20) feed_line)
    go true = put_kept false 0x20 refl
    go false = feed_line_kept

replied : (b : Bool) (a : Act) → Orderable a → AllByRecursion Orderable (cond b (a ∷ []) [])
replied true a o = (o, tt)
replied false a o = tt

-- every command

pub effect_kept : (c : Command) (p : Printer) → SoundCommand c → in_range c p ≡ true → Sound p → SoundEffect (effect c p)
effect_kept idle p k e h = (tt, h)
effect_kept (print code) p k e h = put_kept true code k p h
effect_kept (send r) p k e h = ((tt, tt), h)
effect_kept sound_beep p k e h = ((tt, tt), h)
effect_kept pulse_drawer p k e h = ((tt, tt), h)
effect_kept line_feed p k e h = feed_line_kept p h
effect_kept vertical_tab p k e h = times_kept (lines_to_stop p.settings) feed_line feed_line_kept p h
effect_kept form_feed p k e h = times_kept (lines_to_page p.settings) feed_line feed_line_kept p h
effect_kept horizontal_tab p k e h = (tt, tabbed_kept p h)
effect_kept cancel_row p k e h = (tt, emptied_kept p h)
effect_kept delete p k e h = (tt, deleted_kept p h)
effect_kept attributes_off p k e h = (tt, h)
effect_kept (set_emphasised on) p k e h = (tt, h)
effect_kept (set_one_line_width on) p k e h = (tt, h)
effect_kept (set_expanded n) p k e h = (tt, h)
effect_kept (set_double_height n) p k e h = (tt, h)
effect_kept (set_underline n) p k e h = (tt, h)
effect_kept (set_italic n) p k e h = (tt, h)
effect_kept (set_print_mode n) p k e h = (tt, h)
effect_kept (set_spacing n) p k e h = (
  tt,
  with_paper_kept p (record { spacing = n; page = p.settings.paper.page; line = p.settings.paper.line }) h
      (record { byte = k; first = h.paper.first; on_page = h.paper.on_page; at_most = h.paper.at_most }),
)
effect_kept (feed_steps n) p k e h = then_kept (close p) (advance_by n) (close_kept p h) (advance_kept n k)
effect_kept (repeat what n) p k e h = repeat_kept what n p h
effect_kept (set_page_length n) p k e h =
    let range : (1 ≤ n) × (n ≤ 127) = between_true 1 127 n e in (
      tt,
      with_paper_kept p (record { spacing = p.settings.paper.spacing; page = n; line = 1 }) h
          (record { byte = h.paper.byte; first = lit≤ tt; on_page = range.0; at_most = range.1 }),
    )
effect_kept (set_vertical_stops ns) p k e h =
    (tt, record { margins = h.margins; horizontal = h.horizontal; vertical = stops_hold 16 127 ns k e; paper = h.paper; cutter = h.cutter; row = h.row })
effect_kept (set_horizontal_stops ns) p k e h =
    (tt, record { margins = h.margins; horizontal = stops_hold 8 47 ns k e; vertical = h.vertical; paper = h.paper; cutter = h.cutter; row = h.row })
effect_kept (set_left_margin n) p k e h = (tt, left_kept n p h e)
effect_kept (set_right_margin n) p k e h = (tt, right_kept n p h e)
effect_kept cut p k e h = cut_kept p.settings.cutter p h
effect_kept (bar_code ps s) p k e h = bars_kept ps s p e h
effect_kept (configure replies bs) p k e h = (replied replies (reply Configuration) tt, configured_kept bs p h e)
effect_kept reset p k e h = reset_kept p h
