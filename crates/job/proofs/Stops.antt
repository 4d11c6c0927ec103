-- Stops and lines.
use Rattle.std.proofs.Common.{◌≡◌, ℕ, zero, suc, ◌+◌, ◌-◌, ◌%◌, ◌<◌, ◌≤◌, Bool, true, false, cond, ◌&&◌, eqb, ltb, leb, List, [], ◌∷◌, replicate, sym, refl, ap, ◌∙◌, ⊎_elim, mod-eq_of_lt, arith, length-append}
use lib.ListN.{length-replicate}
use native.Mathlib.Nat.{mod_self, add-mod_left}
use Rattle.std.proofs.lemmas.Bool.{and_parts, and_from, or_cases, or_left, or_right, ltb-true, ltb-false, leb-true, lt-ltb, le-leb, eqb-true, eqb-false, eq-eqb, false≢true, cases_Bool}
use Rattle.reading.specs.Tests.{one_of}
use Rattle.job.specs.Printer.{Printer, position}
use Rattle.job.specs.Row.{next_beyond}
use Rattle.job.specs.Effects.{times}
use Rattle.job.specs.Lines.{feed_line, lines_to_stop}
use Rattle.job.specs.Changes.{rising}
use Rattle.job.specs.Job.{Run, run}
use Rattle.job.specs.CommandLaws.{between_commands}
use Rattle.job.specs.StopLaws.{NextStop, Tabulation, line_behind, LinesAreCounted}
use Rattle.job.proofs.Feeds.{fed, feeds_are_line_feeds}

above_all : (xs : List ℕ) (x n : ℕ) → rising x xs ≡ true → one_of xs n ≡ true → x < n
above_all [] x n h e = absurd (false≢true e)
above_all (y ∷ xs) x n h e =
    let parts : (ltb x y ≡ true) × (rising y xs ≡ true) = and_parts (ltb x y) (rising y xs) h in
    let below : x < y = ltb-true x y parts.0 in
    ⊎_elim (λ k. omega (arith, eqb-true y n k)) (λ k. omega (arith, above_all xs y n parts.1 k)) (or_cases (eqb y n) (one_of xs n) e)

-- the next stop is found
next_found : (origin limit : ℕ) (xs : List ℕ) (low n : ℕ) → rising low xs ≡ true → NextStop origin limit xs n → next_beyond origin limit xs ≡ origin + n
next_found origin limit [] low n h s = absurd (false≢true s.is_stop)
next_found origin limit (x ∷ xs) low n h s =
    go (ltb limit (origin + x)) refl
    (λ far k. next_found origin limit xs x n parts.1 (record { is_stop = k; beyond = s.beyond; first = λ y e b. s.first y (or_right (eqb x y) (one_of xs y) e) b }))
  where
    parts : (ltb low x ≡ true) × (rising x xs ≡ true)
    parts = and_parts (ltb low x) (rising x xs) h

    go : (b : Bool) → ltb limit (origin + x) ≡ b → (origin + x ≤ limit → one_of xs n ≡ true → next_beyond origin limit xs ≡ origin + n)
        → cond b (origin + x) (next_beyond origin limit xs) ≡ origin + n
    go true e f =
        let least : n ≤ x = s.first x (or_left (eqb x x) (one_of xs x) (eq-eqb x x refl)) (ltb-true limit (origin + x) e) in
        ⊎_elim (λ k. omega (arith, eqb-true x n k)) (λ k. absurd (omega (arith, least, above_all xs x n parts.1 k))) (or_cases (eqb x n) (one_of xs n) s.is_stop)
    go false e f =
        let far : origin + x ≤ limit = ltb-false limit (origin + x) e in
        ⊎_elim (λ k. absurd (omega (arith, eqb-true x n k, s.beyond))) (λ k. f far k) (or_cases (eqb x n) (one_of xs n) s.is_stop)

-- what is found beyond the limit is the next stop
next_is : (origin limit : ℕ) (xs : List ℕ) (low : ℕ) → rising low xs ≡ true → limit < next_beyond origin limit xs
    → (n : ℕ) × NextStop origin limit xs n × (next_beyond origin limit xs ≡ origin + n)
next_is origin limit [] low h b = absurd (omega arith)
next_is origin limit (x ∷ xs) low h b = go (ltb limit (origin + x)) refl (λ k. next_is origin limit xs x parts.1 k) b
  where
    parts : (ltb low x ≡ true) × (rising x xs ≡ true)
    parts = and_parts (ltb low x) (rising x xs) h

    Found : ℕ → Type 0
    Found c = (n : ℕ) × NextStop origin limit (x ∷ xs) n × (c ≡ origin + n)

    go : (t : Bool) → ltb limit (origin + x) ≡ t
        → (limit < next_beyond origin limit xs → (n : ℕ) × NextStop origin limit xs n × (next_beyond origin limit xs ≡ origin + n))
        → limit < cond t (origin + x) (next_beyond origin limit xs) → Found (cond t (origin + x) (next_beyond origin limit xs))
    go true e f k = (
      x,
      record {
        is_stop = or_left (eqb x x) (one_of xs x) (eq-eqb x x refl);
        beyond = k;
        first = λ y i l. ⊎_elim (λ j. omega (arith, eqb-true x y j)) (λ j. omega (arith, above_all xs x y parts.1 j)) (or_cases (eqb x y) (one_of xs y) i);
      },
      refl,
    )
    go false e f k =
        let far : origin + x ≤ limit = ltb-false limit (origin + x) e in
        let w : (n : ℕ) × NextStop origin limit xs n × (next_beyond origin limit xs ≡ origin + n) = f k in (
          w.0,
          record {
            is_stop = or_right (eqb x w.0) (one_of xs w.0) w.1.is_stop;
            beyond = w.1.beyond;
            first = λ y i l. ⊎_elim (λ j. absurd (omega (arith, eqb-true x y j))) (λ j. w.1.first y j l) (or_cases (eqb x y) (one_of xs y) i);
          },
          w.2,
        )

-- HT

pub tabulation : Tabulation
tabulation p h = record {
  to_stop = λ n s w.
      let found : column ≡ left + n = next_found left (position p) stops 0 n h s in
      let test : (ltb (position p) column && leb column right) ≡ true =
      and_from (ltb (position p) column) (leb column right) (lt-ltb (position p) column (omega (arith, found, s.beyond))) (le-leb column right (omega (arith, found))) in (
        column - position p,
        rw test,
        simp (length-append, length-replicate) (omega (arith, found, s.beyond)),
      );
  else_nothing = λ f.
      let test : (ltb (position p) column && leb column right) ≡ false =
      ⊎_elim
      (λ e. let parts : (ltb (position p) column ≡ true) × (leb column right ≡ true) = and_parts (ltb (position p) column) (leb column right) e in
      let w : (n : ℕ) × NextStop left (position p) stops n × (column ≡ left + n) = next_is left (position p) stops 0 h (ltb-true (position p) column parts.0) in
      absurd (f w.0 w.1 (omega (arith, leb-true column right parts.1, w.2))))
      (λ e. e)
      (cases_Bool (ltb (position p) column && leb column right)) in
      rw test;
}
  where
    left : ℕ
    left = p.settings.margins.left

    right : ℕ
    right = p.settings.margins.right

    stops : List ℕ
    stops = p.settings.horizontal_stops

    column : ℕ
    column = next_beyond left (position p) stops

-- line numbers

count_lines : ℕ → ℕ → ℕ → ℕ
count_lines zero page l = l
count_lines (suc n) page l = count_lines n page (cond (eqb l page) 1 (l + 1))

fed_line : (n : ℕ) (p : Printer) → (times n feed_line p).printer.settings.paper.line ≡ count_lines n p.settings.paper.page p.settings.paper.line
unfolding count_lines
fed_line zero p = refl
fed_line (suc n) p = fed_line n (feed_line p).printer

counted : (n page l : ℕ) → 1 ≤ l → l ≤ page → count_lines n page l ≡ suc ((l - 1 + n) % page)
unfolding count_lines
counted zero page l h k =
    let small : l - 1 + 0 < page = omega arith in
    let m : (l - 1 + 0) % page ≡ l - 1 + 0 = mod-eq_of_lt small in
    omega (arith, m)
counted (suc n) page l h k = go (eqb l page) refl (λ a b c. counted n page a b c)
  where
    go : (t : Bool) → eqb l page ≡ t → ((a : ℕ) → 1 ≤ a → a ≤ page → count_lines n page a ≡ suc ((a - 1 + n) % page))
        → count_lines n page (cond t 1 (l + 1)) ≡ suc ((l - 1 + suc n) % page)
    go true e f =
        let same : l ≡ page = eqb-true l page e in
        let sum : l - 1 + suc n ≡ page + n = omega arith in
        let start : 1 - 1 + n ≡ n = omega arith in
        f 1 (omega arith) (omega arith) ∙ ap (λ (x : ℕ). suc (x % page)) start
        ∙ ap suc (sym (add-mod_left page n)) ∙ ap (λ (x : ℕ). suc (x % page)) (sym sum)
    go false e f = onward (eqb-false l page e)
      where
        onward : (l ≡ page → ⊥) → count_lines n page (l + 1) ≡ suc ((l - 1 + suc n) % page)
        onward ne =
            let sum : l + 1 - 1 + n ≡ l - 1 + suc n = omega arith in
            f (l + 1) (omega arith) (omega arith) ∙ ap (λ (x : ℕ). suc (x % page)) sum

fed_lines : (n : ℕ) (p : Printer) → 1 ≤ p.settings.paper.line → p.settings.paper.line ≤ p.settings.paper.page
    → line_behind p (replicate n 0x0A) ≡ suc ((p.settings.paper.line - 1 + n) % p.settings.paper.page)
fed_lines n p h k =
    ap (λ (r : Run). r.state.printer.settings.paper.line) (fed n p) ∙ fed_line n p ∙ counted n p.settings.paper.page p.settings.paper.line h k

pub lines_are_counted : LinesAreCounted
lines_are_counted p h k rise = record {
  line_feeds = λ n. fed_lines n p h k;
  form_feed =
      let sum : line - 1 + suc (page - line) ≡ page = omega arith in
      ap (λ (r : Run). r.state.printer.settings.paper.line) (feeds_are_line_feeds p).form_feed
      ∙ fed_lines (suc (page - line)) p h k ∙ ap (λ (x : ℕ). suc (x % page)) sum ∙ ap suc (mod_self page);
  vertical_tab = λ n s w.
      let found : stop ≡ 0 + n = next_found 0 line stops 0 n rise s in
      let test : (ltb line stop && leb stop page) ≡ true =
      and_from (ltb line stop) (leb stop page) (lt-ltb line stop (omega (arith, found, s.beyond))) (le-leb stop page (omega (arith, found))) in
      let count : lines_to_stop p.settings ≡ stop - line = rw test in
      let small : line - 1 + (stop - line) < page = omega (arith, found, s.beyond) in
      let m : (line - 1 + (stop - line)) % page ≡ line - 1 + (stop - line) = mod-eq_of_lt small in
      ap (λ (r : Run). r.state.printer.settings.paper.line) (feeds_are_line_feeds p).vertical_tab
      ∙ ap (λ (i : ℕ). line_behind p (replicate i 0x0A)) count
      ∙ fed_lines (stop - line) p h k ∙ ap suc m ∙ omega (arith, found, s.beyond);
  else_one_line = λ f.
      let test : (ltb line stop && leb stop page) ≡ false =
      ⊎_elim
      (λ e. let parts : (ltb line stop ≡ true) × (leb stop page ≡ true) = and_parts (ltb line stop) (leb stop page) e in
      let w : (n : ℕ) × NextStop 0 line stops n × (stop ≡ 0 + n) = next_is 0 line stops 0 rise (ltb-true line stop parts.0) in
      absurd (f w.0 w.1 (omega (arith, leb-true stop page parts.1, w.2))))
      (λ e. e)
      (cases_Bool (ltb line stop && leb stop page)) in
      let count : lines_to_stop p.settings ≡ 1 = rw test in
      (feeds_are_line_feeds p).vertical_tab ∙ ap (λ (i : ℕ). run (between_commands p) (replicate i 0x0A)) count;
}
  where
    line : ℕ
    line = p.settings.paper.line

    page : ℕ
    page = p.settings.paper.page

    stops : List ℕ
    stops = p.settings.vertical_stops

    stop : ℕ
    stop = next_beyond 0 line stops
