-- Each call keeps a run standing.
use Rattle.std.proofs.Common.{◌≡◌, ℕ, ◌+◌, ◌-◌, ◌≤◌, Bool, List, [], ◌∷◌, ◌++◌, take, Err, sym, refl, ap, ◌∙◌, subst, append_assoc, arith}
use mathlib.Core.List.{append_cancel_right}
use Rattle.job.specs.Actions.{Act}
use Rattle.job.specs.Printer.{Settings}
use Rattle.job.specs.Job.{State, step, run, new, job}
use Rattle.mechanism.specs.declared.mechanism.Mechanism.{Ghosts}
use Rattle.mechanism.specs.declared.status.Status.{Status}
use Rattle.mechanism.specs.Counts.{counted}
use Rattle.mechanism.specs.Mechanisms.{Moved, Covered, Supplied}
use Rattle.mechanism.specs.Statuses.{status_of}
use Rattle.runs.specs.Outcomes.{Outcome, Command, refused_at_once}
use Rattle.runs.specs.Count.{Count, counting, state_behind, Goes, acts, stuck, reads, refused, ends}
use Rattle.runs.specs.Calls.{Call, fed, covered, supplied, status, settings, Choice, falls, grant, Counted, none, then_fed, then_covered, then_supplied, then_status, then_settings, bytes_taken}
use Rattle.runs.specs.Offers.{along, Chain}
use Rattle.runs.specs.Feeds.{End, ended, FeedsTo}
use Rattle.runs.specs.Feeds as course
use Rattle.runs.specs.Stands.{View, viewed, Stands, Keeps, Alike}
use Rattle.runs.specs.EveryRun.{Met, begins, feeds, covers, supplies, asks_status, asks_settings, counted_along, Changed, unchanged, took_one, stayed, EveryRun}
use Rattle.runs.proofs.Counts.{none_more, take_one, follows}
use Rattle.runs.proofs.Steps.{state_join, acts_join, one_more}
use Rattle.runs.proofs.Doing.{feeds_do_the_job}

pub along_join : (rule : List ℕ → Act → List ℕ) (s : List ℕ) (done bs : List Act) → along rule s (done ++ bs) ≡ along rule (along rule s done) bs
along_join rule s [] bs = refl
along_join rule s (a ∷ done) bs = along_join rule (rule s a) done bs

along_counts : (rule : List ℕ → Act → List ℕ) (counts : List ℕ → List ℕ) → ((s : List ℕ) (a : Act) → counts (rule s a) ≡ counted (counts s) a)
    → (s : List ℕ) (done : List Act) → counts (along rule s done) ≡ counted_along (counts s) done
along_counts rule counts law s [] = refl
along_counts rule counts law s (a ∷ done) = along_counts rule counts law (rule s a) done ∙ ap (λ c. counted_along c done) (law s a)

pub new_stands : (st : State) (owed : List Act) → st ≡ new → owed ≡ [] → (need : Act → ℕ) (rule : List ℕ → Act → List ℕ) (first : View) → Stands need rule first [] st owed first
new_stands st owed h k need rule first =
    let T : List Act → Type 0 = λ z. Counted need first.reserve first.stopped [] [] (counting [] z first.reserve first.stopped) in
    record { choices = []; counts = subst T (sym k) none; reads = h; done = []; jobs = sym k; sheets = refl }

module _ {S : Type 0} (g : Ghosts S) where
  -- how a feed goes, without the mechanism's state
  goes_so : (o : List Act) (st : State) (m : S) (bs t : List ℕ) (e : End S) → st ≡ state_behind t → FeedsTo g o st m bs e
      → (fs : List ℕ) × (u : List ℕ) × (u ≡ t ++ take e.taken bs)
      × Goes g.need fs (counting t o (g.reserve m) (g.stopped m)) bs e.taken e.outcome (counting u e.owed (g.reserve e.mechanism) (g.stopped e.mechanism))
  goes_so _ st m bs t e h (course.takes {a} {more} {n = n} x f) =
      let v : Moved g.sheet g.reserve g.stopped g.need g.rule m a n = g.laws.took_moves m a n x.1 in
      let w = goes_so more st n bs t e h f in
      let fall = g.reserve m - g.reserve n in
      let end : Count = counting w.1 e.owed (g.reserve e.mechanism) (g.stopped e.mechanism) in
      let R : ℕ → Type 0 = λ z. Goes g.need w.0 (counting t more z (g.stopped n)) bs e.taken e.outcome end in
      let M : Bool → Type 0 = λ z. Goes g.need w.0 (counting t more (g.reserve m - fall) z) bs e.taken e.outcome end in
      let l = v.reserve_falls in
      let falls_so : g.reserve n ≡ g.reserve m - fall = omega arith in
      let within : fall ≤ g.need a = omega (arith, v.within_need) in
      (fall ∷ w.0, w.1, w.2, acts x.0 within (subst M v.mark_stays (subst R falls_so w.3)))
  goes_so _ st m bs t _ h (course.stuck x) = ([], t, none_more t, stuck x)
  goes_so _ st m _ t _ h (course.reads {b = b} {piece = bs} {e = e} x f) =
      let w = goes_so (step st b).acts (step st b).next m bs (t ++ b ∷ []) e (one_more st t b h) f in
      let end : Count = counting w.1 e.owed (g.reserve e.mechanism) (g.stopped e.mechanism) in
      let O : List Act → Type 0 = λ z. Goes g.need w.0 (counting (t ++ b ∷ []) z (g.reserve m) (g.stopped m)) bs e.taken e.outcome end in (
        w.0,
        w.1,
        w.2 ∙ append_assoc t (b ∷ []) (take e.taken bs) ∙ ap (λ z. t ++ z) (take_one e.taken b bs),
        reads (ap (λ (z : State). (step z b).refusal) (sym h) ∙ x) (subst O (ap (λ (z : State). (step z b).acts) h) w.3),
      )
  goes_so _ st m _ t _ h (course.refused {b = b} {piece = bs} {why = why} x) =
      let P : State → Type 0 = λ z. Goes g.need [] (counting t [] (g.reserve m) (g.stopped m)) (b ∷ bs) 1 (Err (Command (refused_at_once z.reading why))) (counting (t ++ b ∷ []) [] (g.reserve m) (g.stopped m)) in
      ([], t ++ b ∷ [], refl, subst P (sym h) (refused (ap (λ (z : State). (step z b).refusal) (sym h) ∙ x)))
  goes_so _ st m _ t _ h course.ends = ([], t, none_more t, ends)

  pub feed_keeps : (st st' : State) (owed owed' : List Act) (m n : S) (piece : List ℕ) (k : ℕ) (e : Outcome)
      → FeedsTo g owed st m piece (ended k e owed' st' n) → Keeps g (fed piece k e) st owed m st' owed' n
  feed_keeps st st' owed owed' m n piece k e f first calls s =
      let t = bytes_taken calls in
      let b = take k piece in
      let w = goes_so owed st m piece t (ended k e owed' st' n) s.reads f in
      let d = feeds_do_the_job g owed st m piece (ended k e owed' st' n) f in
      let T : List ℕ → Type 0 = λ u. Goes g.need w.0 (counting t owed (g.reserve m) (g.stopped m)) piece k e (counting u owed' (g.reserve n) (g.stopped n)) in
      record {
        choices = falls w.0 ∷ s.choices;
        counts = then_fed s.counts (subst T w.2 w.3);
        reads = d.reads ∙ ap (λ (r : State). (run r b).state) s.reads ∙ sym (state_join new t b);
        done = s.done ++ d.done;
        jobs =
            acts_join new t b
            ∙ ap (λ (l : List Act). l ++ (run (state_behind t) b).acts) s.jobs
            ∙ append_assoc s.done owed (run (state_behind t) b).acts
            ∙ ap (λ (r : State). s.done ++ (owed ++ (run r b).acts)) (sym s.reads)
            ∙ ap (λ (l : List Act). s.done ++ l) d.jobs
            ∙ sym (append_assoc s.done d.done owed');
        sheets = d.sheets ∙ ap (λ x. along g.rule x d.done) s.sheets ∙ sym (along_join g.rule first.sheet s.done d.done);
      }

  pub cover_keeps : (st : State) (owed : List Act) (m n : S) (opened : Bool)
      → Covered g.sheet g.reserve g.stopped g.stays m opened n → Keeps g (covered opened) st owed m st owed n
  cover_keeps st owed m n opened c first calls s =
      let T : Count → Type 0 = λ z. Counted g.need first.reserve first.stopped s.choices (covered opened ∷ calls) z in
      let same : counting (bytes_taken calls) owed (g.reserve m) opened ≡ counting (bytes_taken calls) owed (g.reserve n) (g.stopped n) =
      ap (λ (z : ℕ). counting (bytes_taken calls) owed z opened) (sym c.reserve_stays) ∙ ap (λ (z : Bool). counting (bytes_taken calls) owed (g.reserve n) z) (sym c.mark_set) in
      record {
        choices = s.choices;
        counts = subst T same (then_covered {opened = opened} s.counts);
        reads = s.reads;
        done = s.done;
        jobs = s.jobs;
        sheets = c.sheet_stays ∙ s.sheets;
      }

  pub supply_keeps : (st : State) (owed : List Act) (m n : S) (offered granted : ℕ)
      → Supplied g.sheet g.reserve g.stopped g.grants g.stays m offered granted n → Keeps g (supplied offered granted) st owed m st owed n
  supply_keeps st owed m n offered granted c first calls s =
      let T : Count → Type 0 = λ z. Counted g.need first.reserve first.stopped (grant granted ∷ s.choices) (supplied offered granted ∷ calls) z in
      let same : counting (bytes_taken calls) owed (g.reserve m + granted) (g.stopped m) ≡ counting (bytes_taken calls) owed (g.reserve n) (g.stopped n) =
      ap (λ (z : ℕ). counting (bytes_taken calls) owed z (g.stopped m)) (sym c.reserve_rises) ∙ ap (λ (z : Bool). counting (bytes_taken calls) owed (g.reserve n) z) (sym c.mark_stays) in
      record {
        choices = grant granted ∷ s.choices;
        counts = subst T same (then_supplied {offered = offered} {granted = granted} s.counts c.within_offer);
        reads = s.reads;
        done = s.done;
        jobs = s.jobs;
        sheets = c.sheet_stays ∙ s.sheets;
      }

  pub status_keeps : (st : State) (owed : List Act) (m : S) (a : Status)
      → a ≡ status_of (g.reserve m) (g.stopped m) → Keeps g (status a) st owed m st owed m
  status_keeps st owed m a h first calls s =
      let T : Status → Type 0 = λ z. Counted g.need first.reserve first.stopped s.choices (status z ∷ calls) (counting (bytes_taken calls) owed (g.reserve m) (g.stopped m)) in
      record { choices = s.choices; counts = subst T (sym h) (then_status s.counts); reads = s.reads; done = s.done; jobs = s.jobs; sheets = s.sheets }

  pub settings_keeps : (st : State) (owed : List Act) (m : S) (a : Settings)
      → a ≡ st.printer.settings → Keeps g (settings a) st owed m st owed m
  settings_keeps st owed m a h first calls s =
      let T : Settings → Type 0 = λ z. Counted g.need first.reserve first.stopped s.choices (settings z ∷ calls) (counting (bytes_taken calls) owed (g.reserve m) (g.stopped m)) in
      let same : a ≡ (state_behind (bytes_taken calls)).printer.settings = h ∙ ap (λ (z : State). z.printer.settings) s.reads in
      record { choices = s.choices; counts = subst T (sym same) (then_settings s.counts); reads = s.reads; done = s.done; jobs = s.jobs; sheets = s.sheets }

  met_stands : (m n : S) (calls : List Call) (st : State) (owed : List Act) → Met g m calls st owed n → Stands g.need g.rule (viewed g m) calls st owed (viewed g n)
  met_stands m _ _ st owed begins = new_stands st owed refl refl g.need g.rule (viewed g m)
  met_stands m n' _ st' owed' (feeds {calls} {st = st} {owed = owed} {n = n} {piece = piece} {k = k} {e = e} x f) =
      feed_keeps st st' owed owed' n n' piece k e f (viewed g m) calls (met_stands m n calls st owed x)
  met_stands m n' _ st owed (covers {calls} {n = n} {opened = opened} x c) =
      cover_keeps st owed n n' opened c (viewed g m) calls (met_stands m n calls st owed x)
  met_stands m n' _ st owed (supplies {calls} {n = n} {offered = offered} {granted = granted} x c) =
      supply_keeps st owed n n' offered granted c (viewed g m) calls (met_stands m n calls st owed x)
  met_stands m n _ st owed (asks_status {calls} {a = a} x h) =
      status_keeps st owed n a h (viewed g m) calls (met_stands m n calls st owed x)
  met_stands m n _ st owed (asks_settings {calls} {a = a} x h) =
      settings_keeps st owed n a h (viewed g m) calls (met_stands m n calls st owed x)

-- a feed takes what it has done, one action after the other
module _ {S : Type 0} (g : Ghosts S) where
  changed_along : (bs done : List Act) (m n p : S) → Changed g m done n → Chain g.took n bs p → Changed g m (done ++ bs) p
  changed_along [] done m n p x e =
      let P : S → Type 0 = λ z. Changed g m done z in
      let Q : List Act → Type 0 = λ l. Changed g m l p in
      subst Q (none_more done) (subst P e x)
  changed_along (a ∷ bs) done m n p x (q, t, c) =
      let Q : List Act → Type 0 = λ l. Changed g m l p in
      subst Q (append_assoc done (a ∷ []) bs) (changed_along bs (done ++ a ∷ []) m q p (took_one x t) c)

  met_changed : (m n : S) (calls : List Call) (st : State) (owed : List Act) (x : Met g m calls st owed n) → Changed g m (met_stands g m n calls st owed x).done n
  unfolding met_stands new_stands feed_keeps cover_keeps supply_keeps status_keeps settings_keeps
  met_changed m _ _ st owed begins = unchanged
  met_changed m n' _ st' owed' (feeds {calls} {st = st} {owed = owed} {n = n} {piece = piece} {k = k} {e = e} x f) =
      let d = feeds_do_the_job g owed st n piece (ended k e owed' st' n') f in
      changed_along d.done (met_stands g m n calls st owed x).done m n n' (met_changed m n calls st owed x) d.chain
  met_changed m n' _ st owed (covers {calls} {n = n} x c) = stayed (met_changed m n calls st owed x) c.others_stay
  met_changed m n' _ st owed (supplies {calls} {n = n} x c) = stayed (met_changed m n calls st owed x) c.others_stay
  met_changed m n _ st owed (asks_status {calls} x h) = met_changed m n calls st owed x
  met_changed m n _ st owed (asks_settings {calls} x h) = met_changed m n calls st owed x

pub every_run : {S : Type 0} (g : Ghosts S) → EveryRun g
every_run g m n calls st owed x =
    let s = met_stands g m n calls st owed x in
    record {
      stands = s;
      counts = ap g.counts s.sheets ∙ along_counts g.rule g.counts g.laws.counts_move (g.sheet m) s.done;
      changed = met_changed g m n calls st owed x;
    }

abbrev shown : List ℕ → ℕ → Bool → View
shown x r s = record { sheet = x; reserve = r; stopped = s }

pub alike : Alike
alike need rule first calls others st st' owed owed' v v' s t h q =
    let C : List Choice → Type 0 = λ z. Counted need first.reserve first.stopped z calls (counting (bytes_taken calls) owed v.reserve v.stopped) in
    let f = follows need first.reserve first.stopped t.choices calls others _ _ (subst C h s.counts) t.counts q in
    let os : owed ≡ owed' = ap (λ (c : Count). c.owed) f.1 in
    let js : bytes_taken calls ≡ bytes_taken others = ap bytes_taken f.0 in
    let ds : s.done ≡ t.done = append_cancel_right s.done t.done owed' (ap (λ (z : List Act). s.done ++ z) (sym os) ∙ sym s.jobs ∙ ap job js ∙ t.jobs) in
    let xs : v.sheet ≡ v'.sheet = s.sheets ∙ ap (λ (z : List Act). along rule first.sheet z) ds ∙ sym t.sheets in
    let rs : v.reserve ≡ v'.reserve = ap (λ (c : Count). c.reserve) f.1 in
    let ms : v.stopped ≡ v'.stopped = ap (λ (c : Count). c.stopped) f.1 in (
      f.0,
      os,
      s.reads ∙ ap (λ (z : List ℕ). state_behind z) js ∙ sym t.reads,
      ap (λ z. shown z v.reserve v.stopped) xs ∙ ap (λ z. shown v'.sheet z v.stopped) rs ∙ ap (λ z. shown v'.sheet v'.reserve z) ms,
    )
