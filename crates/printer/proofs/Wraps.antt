-- Spaces one after another: a row is ordered at the first line feed at most.
use Rattle.std.proofs.Common.{◌≡◌, ℕ, zero, suc, ◌+◌, ◌-◌, ◌≤◌, Bool, true, false, cond, ◌&&◌, ◌||◌, List, [], ◌∷◌, ◌++◌, map, sym, refl, ap, ◌∙◌, subst, ⊎_elim, append_assoc, append-nil, add-one, arith}
use Rattle.std.proofs.lemmas.Bool.{and_from, cond-true, cond-false, cases_Bool}
use Rattle.std.proofs.lemmas.List.{map-append, replicate_more}
use Rattle.std.proofs.lemmas.Bool.Decides.{when_true, when_false}
use Rattle.reading.specs.Tests.{every}
use Rattle.job.specs.declared.cells.Cell.{Cell}
use Rattle.job.specs.declared.cells.Cell.TheVariants.{Blank}
use Rattle.job.specs.Actions.{Act, advance}
use Rattle.job.specs.Printer.{Printer}
use Rattle.job.specs.Row.{closed_cell, is_blank, closing, fits, next_attributes, cells_of, with_character}
use Rattle.job.specs.Effects.{Effect, quiet, ◌then◌, times}
use Rattle.job.specs.Lines.{feed_line}
use Rattle.job.proofs.Every.{every_append}
use Rattle.job.proofs.Feeds.{Bare, bare_blanks, bare_closing, advances, feed_acts}
use Rattle.printer.specs.Spaces.{space, SpacePut}

-- one more at the end
times_more : (f : Printer → Effect) (n : ℕ) (p : Printer)
    → ((times (n + 1) f p).acts ≡ (times n f p).acts ++ (f (times n f p).printer).acts) × ((times (n + 1) f p).printer ≡ (f (times n f p).printer).printer)
times_more f n p = rw add-one (more n p)
  where
    more : (n : ℕ) (p : Printer)
        → ((times (suc n) f p).acts ≡ (times n f p).acts ++ (f (times n f p).printer).acts) × ((times (suc n) f p).printer ≡ (f (times n f p).printer).printer)
    more zero p = (append-nil (f p).acts, refl)
    more (suc n) p = let h = more n (f p).printer in (ap (λ (acts : List Act). (f p).acts ++ acts) h.0 ∙ sym (append_assoc (f p).acts _ _), h.1)

-- rows of spaces and blanks

bare_append : (xs ys : List Cell) → Bare xs → Bare ys → Bare (xs ++ ys)
bare_append xs ys a b =
    ap (λ (zs : List Cell). every is_blank zs) (map-append closed_cell xs ys)
    ∙ (every_append is_blank (map closed_cell xs) (map closed_cell ys) ∙ and_from _ _ a b)

wide_bare : (b : Bool) (c : Cell) → closed_cell c ≡ Blank → Bare (cond b (c ∷ []) [])
wide_bare true c e = ap (λ (d : Cell). is_blank d && true) e
wide_bare false c e = refl

bare_space : (p : Printer) → Bare (cells_of 0x20 (next_attributes false p.settings))
bare_space p = wide_bare (p.settings.one_line_width || p.settings.attributes.wide) _ refl

space_fits : (p : Printer) → fits false p ≡ true → space p ≡ quiet (with_character false 0x20 p)
space_fits p e = cond-true _ _ _ e

space_wraps : (p : Printer) → fits false p ≡ false → space p ≡ feed_line p then (λ q. quiet (with_character false 0x20 q))
space_wraps p e = cond-false _ _ _ e

bare_fits : (p : Printer) → fits false p ≡ true → Bare p.row → Bare (space p).printer.row
bare_fits p e bare =
    subst (λ (d : Effect). Bare d.printer.row) (sym (space_fits p e)) (bare_append p.row (cells_of 0x20 (next_attributes false p.settings)) bare (bare_space p))

bare_wraps : (p : Printer) → fits false p ≡ false → Bare (space p).printer.row
bare_wraps p e =
    let q : Printer = (feed_line p).printer in
    subst (λ (d : Effect). Bare d.printer.row) (sym (space_wraps p e))
    (bare_append q.row (cells_of 0x20 (next_attributes false q.settings)) (bare_blanks (p.settings.margins.left - 1)) (bare_space q))

same_spacing : (p : Printer) → (space p).printer.settings.paper.spacing ≡ p.settings.paper.spacing
same_spacing p = elim (fits false p) as (λ b. (cond b (quiet (with_character false 0x20 p)) (feed_line p then (λ q. quiet (with_character false 0x20 q)))).printer.settings.paper.spacing ≡ p.settings.paper.spacing) [ true ↦ refl | false ↦ refl ]

fits_acts : (p : Printer) → fits false p ≡ true → (space p).acts ≡ []
fits_acts p e = ap (λ (d : Effect). d.acts) (space_fits p e)

wraps_acts : (p : Printer) → fits false p ≡ false → (space p).acts ≡ closing p.row ++ advances 1 p.settings.paper.spacing
wraps_acts p e = ap (λ (d : Effect). d.acts) (space_wraps p e) ∙ (append-nil (feed_line p).acts ∙ feed_acts p)

-- n spaces from the printer p: the row that the first line feed closed, and the line feeds counted
pub record Spaced (n : ℕ) (p b : Printer) (rows : List Act) (feeds : ℕ) : Type 0 where
  pub acts : rows ++ advances feeds b.settings.paper.spacing ≡ (times n space p).acts
  pub printer : b ≡ (times n space p).printer
  pub none : feeds ≡ 0 → rows ≡ []
  pub bare : 1 ≤ feeds → Bare b.row
  pub few : feeds ≤ n

advances_more : (k steps : ℕ) → advances (k + 1) steps ≡ advances k steps ++ advances 1 steps
advances_more k steps = grind (arith, replicate_more k (advance steps))

-- one space more
pub spaced_more : (n : ℕ) (p b after : Printer) (rows rows_after : List Act) (feeds feeds_after : ℕ) → Spaced n p b rows feeds → SpacePut b rows feeds after rows_after feeds_after
    → Spaced (n + 1) p after rows_after feeds_after
spaced_more n p b after rows rows_after feeds feeds_after s t =
    let more = times_more space n p in
    let spacing = same_spacing b in
    ⊎_elim
    (λ e.
    let put = when_true _ _ e t.counted in
    record {
      acts = grind (arith, append-nil, put.0, put.1, more.0, s.acts, s.printer, t.moved, spacing, fits_acts b e);
      printer = t.moved ∙ (ap (λ (q : Printer). (space q).printer) s.printer ∙ sym more.1);
      none = λ z. put.0 ∙ s.none (omega (arith, put.1));
      bare = λ h. subst (λ (q : Printer). Bare q.row) (sym t.moved) (bare_fits b e (s.bare (omega (arith, put.1))));
      few = omega (arith, put.1, s.few);
    })
    (λ e.
    let put = when_false _ _ e t.counted in
    record {
      acts = grind (arith, append-nil, append_assoc, put.0, put.1, more.0, s.acts, s.printer, t.moved, spacing, wraps_acts b e, advances_more feeds b.settings.paper.spacing, bare_closing b.row, s.bare, s.none);
      printer = t.moved ∙ (ap (λ (q : Printer). (space q).printer) s.printer ∙ sym more.1);
      none = λ z. absurd (omega (arith, put.1));
      bare = λ h. subst (λ (q : Printer). Bare q.row) (sym t.moved) (bare_wraps b e);
      few = omega (arith, put.1, s.few);
    })
    (cases_Bool (fits false b))
