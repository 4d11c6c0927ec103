-- What one feed does.
use Rattle.std.proofs.Common.{◌≡◌, ℕ, zero, suc, ◌+◌, ◌-◌, ◌<◌, List, [], ◌∷◌, ◌++◌, take, Ok, Err, sym, refl, ap, ◌∙◌, subst, arith}
use Rattle.job.specs.Actions.{Act}
use Rattle.job.specs.Job.{State, later, step, run}
use Rattle.mechanism.specs.declared.mechanism.Mechanism.{Ghosts}
use Rattle.runs.specs.Outcomes.{Outcome, Command, Mechanism, outcome_later}
use Rattle.runs.specs.Offers.{along}
use Rattle.runs.specs.Feeds.{End, FeedsTo, takes, stuck, reads, refused, ends}
use Rattle.runs.specs.FeedLaws.{Does, EndedThere}
use Rattle.runs.specs.Whole.{BeginsWith, DoesInTurn}
use Rattle.runs.proofs.Counts.{none_more, take_one}
use Rattle.runs.proofs.Steps.{refused_orders_nothing}
use Rattle.runs.proofs.Telling.{told_later, read_on, read_refused}

module _ {S : Type 0} (g : Ghosts S) where
  one_earlier : (b : ℕ) (piece : List ℕ) (k : ℕ) (e : Outcome) (owed : List Act) (m : S) → EndedThere g piece k e owed m → EndedThere g (b ∷ piece) (1 + k) (outcome_later 1 e) owed m
  one_earlier b piece k (Ok u) owed m (is, none) = (omega arith, none)
  one_earlier b piece k (Err (Command c)) owed m h = h
  one_earlier b piece k (Err (Mechanism f)) owed m h = h

  -- of the bytes before the last one, the first and those behind it
  one_less : (st : State) (b : ℕ) (piece : List ℕ) (k : ℕ) (done : List Act)
      → (0 < k → BeginsWith done ((step st b).acts ++ (run (step st b).next (take (k - 1) piece)).acts))
      → BeginsWith done (run st (take (1 + k - 1) (b ∷ piece))).acts
  one_less st b piece zero done h = (done, refl)
  one_less st b piece (suc k) done h =
      let w = h (omega arith) in
      let fewer : 1 + suc k - 1 ≡ suc k = omega arith in
      let less : suc k - 1 ≡ k = omega arith in
      let P : ℕ → Type 0 = λ n. BeginsWith done (run st (take n (b ∷ piece))).acts in
      let Q : ℕ → Type 0 = λ n. BeginsWith done ((step st b).acts ++ (run (step st b).next (take n piece)).acts) in
      subst P (sym fewer) (subst Q less w)

  pub feeds_in_turn : (owed : List Act) (st : State) (m : S) (piece : List ℕ) (e : End S) → FeedsTo g owed st m piece e → DoesInTurn g owed st m piece e
  feeds_in_turn _ st m piece e (takes {a} {more} {n = n} x f) =
      let t = feeds_in_turn more st n piece e f in
      let w = t.does in
      record {
        does =
            record {
              within = w.within;
              reads = w.reads;
              done = a ∷ w.done;
              jobs = ap (λ (l : List Act). a ∷ l) w.jobs;
              chain = (n, x.1, w.chain);
              sheets = w.sheets ∙ ap (λ (s : List ℕ). along g.rule s w.done) (g.laws.took_moves m a n x.1).sheet_moves;
              refusals = w.refusals;
              ended_there = w.ended_there;
            };
        taken_in_order = (n, x, t.taken_in_order);
        before_last = λ h. let b = t.before_last h in (b.0, ap (λ (l : List Act). a ∷ l) b.1);
      }
  feeds_in_turn owed st m piece _ (stuck {a} {more} x) =
      record {
        does = record { within = omega arith; reads = refl; done = []; jobs = sym (none_more owed); chain = refl; sheets = refl; refusals = refl; ended_there = (a, more, refl, x) };
        taken_in_order = refl;
        before_last = λ h. absurd (omega arith);
      }
  feeds_in_turn _ st m _ _ (reads {b = b} {piece = piece} {e = e} x f) =
      let t = feeds_in_turn (step st b).acts (step st b).next m piece e f in
      let w = t.does in
      let k = e.taken in
      let one = sym (take_one k b piece) in
      let l = w.within in
      record {
        does =
            record {
              within = omega arith;
              reads = w.reads ∙ sym (ap (λ (l : List ℕ). (run st l).state) one);
              done = w.done;
              jobs = ap (λ (l : List ℕ). (run st l).acts) one ∙ w.jobs;
              chain = w.chain;
              sheets = w.sheets;
              refusals = ap (λ (l : List ℕ). (run st l).refusals) one ∙ read_on st b (take k piece) x ∙ ap (later 1) w.refusals ∙ told_later 1 e.outcome;
              ended_there = one_earlier b piece k e.outcome e.owed e.mechanism w.ended_there;
            };
        taken_in_order = t.taken_in_order;
        before_last = λ h. one_less st b piece k w.done t.before_last;
      }
  feeds_in_turn _ st m _ _ (refused {b = b} {why = why} x) =
      record {
        does =
            record {
              within = omega arith;
              reads = refl;
              done = [];
              jobs = sym (none_more (step st b).acts) ∙ refused_orders_nothing st b why x;
              chain = refl;
              sheets = refl;
              refusals = read_refused st b why x;
              ended_there = refl;
            };
        taken_in_order = refl;
        before_last = λ h. ([], refl);
      }
  feeds_in_turn _ st m _ _ ends =
      record {
        does = record { within = omega arith; reads = refl; done = []; jobs = refl; chain = refl; sheets = refl; refusals = refl; ended_there = (refl, refl) };
        taken_in_order = refl;
        before_last = λ h. absurd (omega arith);
      }

  pub feeds_do_the_job : (owed : List Act) (st : State) (m : S) (piece : List ℕ) (e : End S) → FeedsTo g owed st m piece e → Does g owed st m piece e
  feeds_do_the_job owed st m piece e f = (feeds_in_turn owed st m piece e f).does
