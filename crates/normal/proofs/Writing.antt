-- What a writer has written when it took some actions.
use Rattle.std.proofs.Common.{◌≡◌, ℕ, ◌+◌, ◌≤◌, List, [], ◌∷◌, ◌++◌, length, take, sym, refl, ap, ◌∙◌, subst, append-nil, arith, length-append}
use Rattle.job.specs.Actions.{Act}
use Rattle.job.specs.NormalText.{action_text, job_text}
use Rattle.mechanism.specs.Buffers.{Appended}
use Rattle.mechanism.specs.Mechanisms.{Taken}
use Rattle.mechanism.proofs.Appending.{next}
use Rattle.action_text.specs.Needs.{text_need}
use Rattle.runs.specs.Offers.{Chain}
use Rattle.writer.specs.Writers.{Writer, writer_reserve, Took}
use Rattle.normal.specs.Fitting.{Fit}

-- the texts of the actions follow what was written, and each of them found the room it needs
pub record Over (w : Writer) (acts : List Act) (v : Writer) : Type 0 where
  pub writes : Appended w.out.now w.len (job_text acts) v.len v.out.now
  pub same_length : length v.out.now ≡ length w.out.now
  pub mark_stays : v.stopped ≡ w.stopped
  pub same_buffer : v.out.ghost_name ≡ w.out.ghost_name
  pub fit : Fit (writer_reserve w) acts
  pub falls : writer_reserve v + length (job_text acts) ≡ writer_reserve w

no_split : (before after : List Act) (a : Act) → [] ≡ before ++ a ∷ after → ⊥
no_split before after a e = omega (arith, length-append before (a ∷ after), ap (λ (l : List Act). length l) e)

nothing_over : (w : Writer) → Over w [] w
nothing_over w =
    record {
      writes = record { ends = omega arith; front = sym (append-nil (take w.len w.out.now)); rest = refl };
      same_length = refl;
      mark_stays = refl;
      same_buffer = refl;
      fit = λ before after a e. absurd (no_split before after a e);
      falls = omega arith;
    }

-- one action that fits, and then others that fit behind its text
fit_more : (size left : ℕ) (x : Act) (acts : List Act) → text_need x ≤ size → left + length (action_text x) ≡ size → Fit left acts → Fit size (x ∷ acts)
fit_more size left x acts h e f [] after a s = let same : x ≡ a = cc in omega (arith, ap (λ (y : Act). text_need y) same)
fit_more size left x acts h e f (b ∷ before) after a s =
    let same : x ≡ b = cc in
    let rest : acts ≡ before ++ a ∷ after = cc in
    omega (arith, f before after a rest, length-append (action_text b) (job_text before), ap (λ (y : Act). length (action_text y)) same)

pub chain_over : (acts : List Act) (w v : Writer) → Chain (Taken writer_reserve (λ w. w.stopped) text_need Took) w acts v → Over w acts v
chain_over [] w v e = let P : Writer → Type 0 = λ x. Over w [] x in subst P e (nothing_over w)
chain_over (a ∷ acts) w v (p, t, c) =
    let o = chain_over acts p v c in
    record {
      writes = next t.1.writes o.writes;
      same_length = o.same_length ∙ t.1.same_length;
      mark_stays = o.mark_stays ∙ t.1.mark_stays;
      same_buffer = o.same_buffer ∙ t.1.same_buffer;
      fit = fit_more (writer_reserve w) (writer_reserve p) a acts t.0.1 t.1.reserve_falls o.fit;
      falls = omega (arith, o.falls, t.1.reserve_falls, length-append (action_text a) (job_text acts));
    }
