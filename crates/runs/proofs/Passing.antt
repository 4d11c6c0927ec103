-- Feeds along a stream, one after the other.
use Rattle.std.proofs.Common.{◌≡◌, ℕ, ◌+◌, ◌-◌, ◌<◌, List, [], ◌∷◌, ◌++◌, length, take, drop, sym, refl, ap, ◌∙◌, subst, ⊎_elim, append_assoc, append-nil, arith, length-append, length-drop, take-add}
use lib.ListN.{length-map}
use Rattle.std.proofs.lemmas.Bool.{cases_lt}
use Rattle.job.specs.Actions.{Act}
use Rattle.job.specs.Job.{State, Run, Refused, run, later, followed_by}
use Rattle.job.proofs.Runs.{run_append}
use Rattle.mechanism.specs.declared.mechanism.Mechanism.{Ghosts}
use Rattle.mechanism.specs.Mechanisms.{Taken}
use Rattle.runs.specs.Outcomes.{Outcome, told}
use Rattle.runs.specs.Calls.{fed}
use Rattle.runs.specs.Offers.{Chain}
use Rattle.runs.specs.Feeds.{ended, FeedsTo}
use Rattle.runs.specs.Whole.{BeginsWith, DoesInTurn, none, then_fed, Passing}
use Rattle.runs.proofs.Doing.{feeds_in_turn}
use Rattle.runs.proofs.Standing.{feed_keeps}

-- places move, and no refusal is lost
later_length : (n : ℕ) (rs : List Refused) → length (later n rs) ≡ length rs
later_length n rs = simp length-map

chain_join : {S : Type 0} (took : S → Act → S → Type 0) (done more : List Act) (m n p : S) → Chain took m done n → Chain took n more p → Chain took m (done ++ more) p
chain_join took [] more m n p e c = let P : _ → Type 0 = λ x. Chain took x more p in subst P (sym e) c
chain_join took (a ∷ done) more m n p (q, t, c) d = (q, t, chain_join took done more q n p c d)

module _ {S : Type 0} (g : Ghosts S) where
  pub passing_none : (owed : List Act) (st : State) (m : S) (stream : List ℕ) → Passing g owed st m stream 0 0 owed st m
  passing_none owed st m stream =
      record {
        within = omega arith;
        reads = refl;
        done = [];
        jobs = append-nil owed;
        chain = refl;
        before_last = λ h. absurd (omega arith);
        counts = refl;
        feeds = [];
        follow = none;
        stands = λ first calls s. s;
      }

  module _ (owed owed₁ : List Act) (st st₁ : State) (m m₁ : S) (stream : List ℕ) (k passed : ℕ) (p : Passing g owed st m stream k passed owed₁ st₁ m₁) where
    -- the bytes taken so far, and then some of the others
    split : (n : ℕ) → run st (take (k + n) stream) ≡ followed_by (run st (take k stream)) (length (take k stream)) (run st₁ (take n (drop k stream)))
    split n =
        let r = run st (take k stream) in
        ap (λ l. run st l) (take-add k n stream) ∙ run_append (take k stream) st (take n (drop k stream))
        ∙ ap (λ (z : State). followed_by r (length (take k stream)) (run z (take n (drop k stream)))) (sym p.reads)

    jobs_on : (n : ℕ) → owed ++ (run st (take (k + n) stream)).acts ≡ p.done ++ (owed₁ ++ (run st₁ (take n (drop k stream))).acts)
    jobs_on n =
        let more = (run st₁ (take n (drop k stream))).acts in
        ap (λ (r : Run). owed ++ r.acts) (split n) ∙ sym (append_assoc owed (run st (take k stream)).acts more)
        ∙ ap (λ l. l ++ more) p.jobs ∙ append_assoc p.done owed₁ more

    module _ (owed₂ : List Act) (st₂ : State) (m₂ : S) (n : ℕ) (e : Outcome) (f : FeedsTo g owed₁ st₁ m₁ (drop k stream) (ended n e owed₂ st₂ m₂)) where
      in_turn : DoesInTurn g owed₁ st₁ m₁ (drop k stream) (ended n e owed₂ st₂ m₂)
      in_turn = feeds_in_turn g owed₁ st₁ m₁ (drop k stream) (ended n e owed₂ st₂ m₂) f

      -- the last byte was taken by this feed, or by one before it
      last_by : 0 < k + n → BeginsWith (p.done ++ in_turn.does.done) (owed ++ (run st (take (k + n - 1) stream)).acts)
      last_by h =
          let P : ℕ → Type 0 = λ x. BeginsWith (p.done ++ in_turn.does.done) (owed ++ (run st (take x stream)).acts) in
          ⊎_elim
          (
          λ q.
          let b = in_turn.before_last q in
          let fewer : k + n - 1 ≡ k + (n - 1) = omega arith in
          let some = owed₁ ++ (run st₁ (take (n - 1) (drop k stream))).acts in
          subst P (sym fewer) (b.0, ap (λ l. p.done ++ l) b.1 ∙ sym (append_assoc p.done some b.0) ∙ ap (λ l. l ++ b.0) (sym (jobs_on (n - 1))))
          )
          (
          λ q.
          let b = p.before_last (omega arith) in
          let none_more : k + n - 1 ≡ k - 1 = omega arith in
          let some = owed ++ (run st (take (k - 1) stream)).acts in
          subst P (sym none_more) (b.0 ++ in_turn.does.done, ap (λ l. l ++ in_turn.does.done) b.1 ∙ append_assoc some b.0 in_turn.does.done)
          )
          (cases_lt 0 n)

      pub passing_on : Passing g owed st m stream (k + n) (passed + length (told e)) owed₂ st₂ m₂
      passing_on =
          let r = run st (take k stream) in
          let q = run st₁ (take n (drop k stream)) in
          let bs = length (take k stream) in
          record {
            within = omega (arith, in_turn.does.within, p.within, length-drop k stream);
            reads = in_turn.does.reads ∙ sym (ap (λ (z : Run). z.state) (split n));
            done = p.done ++ in_turn.does.done;
            jobs = jobs_on n ∙ ap (λ l. p.done ++ l) in_turn.does.jobs ∙ sym (append_assoc p.done in_turn.does.done owed₂);
            chain = chain_join (Taken g.reserve g.stopped g.need g.took) p.done in_turn.does.done m m₁ m₂ p.chain in_turn.taken_in_order;
            before_last = last_by;
            counts =
                omega (
                  arith,
                  p.counts,
                  ap (λ (z : Run). length z.refusals) (split n),
                  length-append r.refusals (later bs q.refusals),
                  later_length bs q.refusals,
                  ap (λ (l : List Refused). length l) in_turn.does.refusals,
                );
            feeds = fed (drop k stream) n e ∷ p.feeds;
            follow = then_fed p.follow;
            stands = λ first calls s. feed_keeps g st₁ st₂ owed₁ owed₂ m₁ m₂ (drop k stream) n e f first (p.feeds ++ calls) (p.stands first calls s);
          }
