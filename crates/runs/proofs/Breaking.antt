-- The law is false of a broken station.
use Rattle.std.proofs.Common.{◌≡◌, ℕ, ◌+◌, ◌≤◌, Bool, List, [], ◌∷◌, length, refl, ap, ◌∙◌, arith, length-append}
use Rattle.job.specs.Actions.{Act, beep}
use Rattle.job.specs.Job.{State, job}
use Rattle.runs.specs.Outcomes.{Outcome}
use Rattle.runs.specs.Count.{Count, reads, refused, acts, ends}
use Rattle.runs.specs.Calls.{Call, fed, covered, supplied, Choice, falls, Counted, none, then_fed, then_covered, then_supplied, bytes_taken}
use Rattle.runs.specs.Offers.{along}
use Rattle.runs.specs.Stands.{View, Stands}
use Rattle.runs.specs.Breaks.{Breaks, adds_one}
use Rattle.runs.proofs.Counts.{follows}

along_length : (s : List ℕ) (done : List Act) → length (along adds_one s done) ≡ length s + length done
along_length s [] = omega arith
along_length s (a ∷ done) = let e = along_length (1 ∷ s) done in omega arith

-- with a rule that adds a 1, the sheet is as long as the job, less what is owed
size : (need : Act → ℕ) (first : View) (calls : List Call) (st : State) (owed : List Act) (v : View) → Stands need adds_one first calls st owed v
    → length v.sheet + length owed ≡ length first.sheet + length (job (bytes_taken calls))
size need first calls st owed v s =
    let a = ap length s.sheets ∙ along_length first.sheet s.done in
    let b = ap length s.jobs ∙ length-append s.done owed in
    omega arith

covers_only : (need : Act → ℕ) (r : ℕ) (m opened : Bool) (choices : List Choice) (c : Count) → Counted need r m choices (covered opened ∷ []) c → c.reserve ≡ r
covers_only need r m opened _ _ (then_covered none) = refl

grants_within : (need : Act → ℕ) (r : ℕ) (m : Bool) (offered granted : ℕ) (choices : List Choice) (c : Count) → Counted need r m choices (supplied offered granted ∷ []) c → granted ≤ offered
grants_within need r m offered granted _ _ (then_supplied none p) = p

-- a refused command ends a feed: of 01 41 one byte is taken
takes_one : (need : Act → ℕ) (r : ℕ) (m : Bool) (choices : List Choice) (k : ℕ) (e : Outcome) (c : Count) → Counted need r m choices (fed (0x01 ∷ 0x41 ∷ []) k e ∷ []) c → k ≡ 1
takes_one need r m _ k e c (then_fed {fs = fs} none g) =
    let f = follows need r m (falls fs ∷ []) _ _ c _ (then_fed none g) (then_fed none (refused refl)) refl in
    let p = f.0 in cc

pub breaks : Breaks
breaks = record {
  acts_once = record {
    choices = falls (0 ∷ []) ∷ [];
    counts = then_fed none (reads refl (acts ((λ h. absurd (let z : ◌≡◌ {A = ℕ} 0 1 = cc in omega arith)), omega arith) (omega arith) ends));
    reads = refl;
    done = beep ∷ [];
    jobs = refl;
    sheets = refl;
  };
  never_acts = λ e st s. let h : ◌≡◌ {A = ℕ} 0 1 = size _ _ _ _ _ _ s in omega arith;
  acts_twice = λ e st s. let h : ◌≡◌ {A = ℕ} 2 1 = size _ _ _ _ _ _ s in omega arith;
  owes_done = λ e st s. let h : ◌≡◌ {A = ℕ} 2 1 = size _ _ _ _ _ _ s in omega arith;
  drops_the_rest = λ e st s. let h : ◌≡◌ {A = ℕ} 1 2 = size _ _ _ _ _ _ s in omega arith;
  counts_unread = λ e st owed sheet reserve s. let h : ◌≡◌ {A = ℕ} 2 1 = takes_one _ _ _ _ _ _ _ s.counts in omega arith;
  forgets_reading = λ e owed sheet reserve s. let h : ◌≡◌ {A = ℕ} 0 1 = ap (λ (st : State). length st.printer.row) s.reads in omega arith;
  grants_too_much = λ st owed sheet reserve s. let h : 2 ≤ 1 = grants_within _ _ _ _ _ _ _ s.counts in omega arith;
  cover_raises = λ st s. let h : ◌≡◌ {A = ℕ} 1 0 = covers_only _ _ _ _ _ _ s.counts in omega arith;
}
