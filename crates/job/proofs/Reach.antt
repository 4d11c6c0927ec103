-- What holds of a new interpreter holds behind every stream.
use Rattle.std.proofs.Common.{◌≡◌, ℕ, ◌<◌, ◌≤◌, Bool, true, false, cond, eqb, ltb, List, [], ◌∷◌, ◌++◌, length, sym, refl, ap, ◌∙◌, subst, arith, lit≤}
use Rattle.std.specs.List.{AllByRecursion}
use Rattle.std.proofs.lemmas.Bool.{ltb-true, cond_both}
use Rattle.std.proofs.lemmas.List.{length_push}
use Rattle.std.proofs.ByRecursion.{All-append}
use Rattle.reading.specs.Tests.{find}
use Rattle.reading.specs.Commands.{Command, print, set_vertical_stops, set_horizontal_stops, bar_code, configure, with_parameter}
use Rattle.reading.specs.declared.ParameterCode.{ParameterCode}
use Rattle.reading.specs.declared.ParameterCode.TheVariants.{Expanded, DoubleHeight, Underline, Italic, PrintMode, Spacing, FeedSteps, PageLength, LeftMargin, RightMargin}
use Rattle.reading.specs.Reading.{Reading, text, escape, group, parameter, repeat_what, repeat_count, bar_parameters, bar_string, vertical_list, horizontal_list, body, Meaning, more, done, refused, complete, unknown, too_long, is_text, single_bytes, group_codes, escape_codes, up_to_zero, meaning, next_reading, reading_after}
use Rattle.reading.specs.Unfinished.{begun}
use Rattle.reading.proofs.Kept.{kept}
use Rattle.job.specs.Printer.{Printer}
use Rattle.job.specs.Commands.{in_range, effect}
use Rattle.job.specs.Job.{State, carry_out, act_on, step, run, new}
use Rattle.job.specs.Orderable.{Orderable, none}
use Rattle.job.specs.Laws.{Bytes, OnlyOrderable}
use Rattle.job.specs.Invariants.{AlwaysHolds}
use Rattle.job.proofs.Sound.{Sound, SoundEffect, SoundCommand, SoundReading, SoundMeaning, SoundState, SoundStep}
use Rattle.job.proofs.Kept.{effect_kept, new_stops, no_stops}

-- reading

find_sound : (table : List (ℕ × Meaning)) (b : ℕ) → AllByRecursion (λ e. SoundMeaning e.1) table → SoundMeaning (find unknown table b)
find_sound [] b h = tt
find_sound (e ∷ table) b h =
    cond_both (eqb e.0 b) e.1 (find unknown table b) SoundMeaning (λ k. h.0) (λ k. find_sound table b h.1)

single_sound : AllByRecursion (λ e. SoundMeaning e.1) single_bytes
single_sound = ((tt, tt), ((tt, tt), (tt, (tt, ((tt, tt), ((tt, tt), ((tt, tt), ((tt, tt), ((tt, tt), ((tt, tt), ((tt, tt), ((tt, tt), ((tt, tt), ((tt, tt), ((tt, tt), ((tt, tt), tt))))))))))))))))

group_sound : AllByRecursion (λ e. SoundMeaning e.1) group_codes
group_sound = ((tt, tt), tt)

escape_sound : AllByRecursion (λ e. SoundMeaning e.1) escape_codes
escape_sound = (
  (tt, tt),
  (
    (tt, tt),
    (
      (tt, tt),
      (
        (tt, tt),
        (
          (tt, tt),
          (
            (tt, tt),
            (
              (tt, tt),
              (
                (tt, tt),
                (
                  tt,
                  (
                    tt,
                    (
                      tt,
                      (
                        tt,
                        (
                          tt,
                          (
                            (lit≤ tt, tt),
                            (
                              tt,
                              (
                                tt,
                                (
                                  tt,
                                  (
                                    tt,
                                    (
                                      lit≤ tt,
                                      (
                                        lit≤ tt,
                                        (
                                          tt,
                                          (
                                            tt,
                                            ((tt, tt), (tt, (tt, (tt, ((tt, tt), tt))))),
                                          ),
                                        ),
                                      ),
                                    ),
                                  ),
                                ),
                              ),
                            ),
                          ),
                        ),
                      ),
                    ),
                  ),
                ),
              ),
            ),
          ),
        ),
      ),
    ),
  ),
)

parameter_sound : (code : ParameterCode) (n : ℕ) → n ≤ 255 → SoundCommand (with_parameter code n)
parameter_sound Expanded n h = tt
parameter_sound DoubleHeight n h = tt
parameter_sound Underline n h = tt
parameter_sound Italic n h = tt
parameter_sound PrintMode n h = tt
parameter_sound Spacing n h = h
parameter_sound FeedSteps n h = h
parameter_sound PageLength n h = tt
parameter_sound LeftMargin n h = tt
parameter_sound RightMargin n h = tt

list_sound : (most : ℕ) (c : List ℕ → Command) (r : List ℕ → Reading) (got : List ℕ) (b : ℕ)
    → SoundCommand (c got) → (length got < most → SoundReading (r (got ++ b ∷ [])))
    → SoundMeaning (up_to_zero most c r got b)
list_sound most c r got b h k =
    cond_both (eqb b 0) (complete (c got)) (cond (ltb (length got) most) (more (r (got ++ b ∷ []))) too_long) SoundMeaning
    (λ e. (h, tt))
    (λ e. cond_both (ltb (length got) most) (more (r (got ++ b ∷ []))) too_long SoundMeaning (λ f. k (ltb-true (length got) most f)) (λ f. tt))

meaning_sound : (r : Reading) (b : ℕ) → SoundReading r → b < 256 → SoundMeaning (meaning r b)
meaning_sound text b h k = cond_both (is_text b) (complete (print b)) (find unknown single_bytes b) SoundMeaning (λ e. (e, tt)) (λ e. find_sound single_bytes b single_sound)
meaning_sound escape b h k = find_sound escape_codes b escape_sound
meaning_sound group b h k = find_sound group_codes b group_sound
meaning_sound (parameter code) b h k = (parameter_sound code b (omega arith), tt)
meaning_sound repeat_what b h k = tt
meaning_sound (repeat_count what) b h k = (tt, tt)
meaning_sound (bar_parameters got) b h k =
    cond_both (ltb (length (got ++ b ∷ [])) 4) (more (bar_parameters (got ++ b ∷ []))) (more (bar_string (got ++ b ∷ []) [])) SoundMeaning (λ e. tt) (λ e. tt)
meaning_sound (bar_string ps got) b h k = list_sound 25 (bar_code ps) (bar_string ps) got b tt (λ e. tt)
meaning_sound (vertical_list got) b h k = list_sound 16 set_vertical_stops vertical_list got b h (λ e. simp length_push (omega arith))
meaning_sound (horizontal_list got) b h k = list_sound 8 set_horizontal_stops horizontal_list got b h (λ e. simp length_push (omega arith))
meaning_sound (body replies got) b h k =
    cond_both (ltb (length (got ++ b ∷ [])) 40) (more (body replies (got ++ b ∷ []))) (complete (configure replies (got ++ b ∷ []))) SoundMeaning (λ e. tt) (λ e. (tt, tt))

-- runs

act_on_sound : (a : Meaning) (p : Printer) → SoundMeaning a → Sound p → SoundStep (act_on a p)
act_on_sound (more r) p k h = (tt, (k, h))
act_on_sound (done c r) p k h = go (in_range c p) refl
  where
    go : (b : Bool) → in_range c p ≡ b → SoundStep (carry_out b c r p)
    go true e = let d : SoundEffect (effect c p) = effect_kept c p k.0 e h in (d.0, (k.1, d.1))
    go false e = (tt, (k.1, h))
act_on_sound (refused why r) p k h = (tt, (k, h))

run_sound : (s : List ℕ) (st : State) → SoundState st → Bytes s → AllByRecursion Orderable (run st s).acts × SoundState (run st s).state
run_sound [] st h k = (tt, h)
run_sound (b ∷ s) st h k =
    let t : SoundStep (step st b) = act_on_sound (meaning st.reading b) st.printer (meaning_sound st.reading b h.0 k.0) h.1 in
    let r : AllByRecursion Orderable (run (step st b).next s).acts × SoundState (run (step st b).next s).state = run_sound s (step st b).next t.1 k.1 in
    (All-append Orderable (step st b).acts (run (step st b).next s).acts t.0 r.0, r.1)

new_sound : SoundState new
new_sound = (
  tt,
  record {
    margins = record { first = lit≤ tt; apart = lit≤ tt; within = lit≤ tt; at_most = lit≤ tt };
    horizontal = new_stops;
    vertical = no_stops;
    paper = record { byte = lit≤ tt; first = lit≤ tt; on_page = lit≤ tt; at_most = lit≤ tt };
    cutter = lit≤ tt;
    row = record { laid_out = none; within = lit≤ tt };
  },
)

pub reached : (s : List ℕ) → Bytes s → SoundState (run new s).state
reached s k = (run_sound s new new_sound k).1

pub only_orderable : OnlyOrderable
only_orderable s k = (run_sound s new new_sound k).0

-- what is read behind a stream does not depend on the printer

step_reading : (a : Meaning) (p : Printer) → (act_on a p).next.reading ≡ next_reading a
step_reading (more r) p = refl
step_reading (done c r) p = go (in_range c p)
  where
    go : (b : Bool) → (carry_out b c r p).next.reading ≡ r
    go true = refl
    go false = refl
step_reading (refused why r) p = refl

pub run_reading : (s : List ℕ) (st : State) → (run st s).state.reading ≡ reading_after st.reading s
run_reading [] st = refl
run_reading (b ∷ s) st =
    run_reading s (step st b).next ∙ ap (λ (r : Reading). reading_after r s) (step_reading (meaning st.reading b) st.printer)

pub always_holds : AlwaysHolds
always_holds s k =
    let h : Sound (run new s).state.printer = (reached s k).1 in
    record {
      settings = record { margins = h.margins; horizontal = h.horizontal; vertical = h.vertical; paper = h.paper; cutter = h.cutter };
      row = h.row;
      unfinished = subst (λ (r : Reading). length (begun r) ≤ 41) (sym (run_reading s new)) (kept s).few;
    }
