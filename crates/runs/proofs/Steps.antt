-- Bytes read one after the other.
use Rattle.std.proofs.Common.{◌≡◌, ℕ, Bool, true, false, List, [], ◌∷◌, ◌++◌, length, ℤ, pos, ◌+ℤ◌, neg_ℤ, Some, None, Option, sym, refl, ap, ◌∙◌, arith}
use Rattle.reading.specs.declared.Refusal.{Refusal}
use Rattle.reading.specs.Reading.{Reading, Meaning, more, done, refused, meaning}
use Rattle.reading.specs.Commands.{Command}
use Rattle.reading.specs.Unfinished.{begun}
use Rattle.job.specs.Actions.{Act}
use Rattle.job.specs.Commands.{in_range}
use Rattle.job.specs.Job.{State, Run, Refused, later, refused_here, carry_out, act_on, step, stay, followed_by, run_byte, run, new}
use Rattle.job.proofs.Runs.{run_append}
use Rattle.runs.specs.Count.{state_behind}

-- a refused command orders nothing
pub refused_orders_nothing : (st : State) (b : ℕ) (why : Refusal) → (step st b).refusal ≡ Some why → (step st b).acts ≡ []
refused_orders_nothing st b why h = go (meaning st.reading b) h
  where
    tested : (t : Bool) (c : Command) (behind : Reading) → (carry_out t c behind st.printer).refusal ≡ Some why → (carry_out t c behind st.printer).acts ≡ []
    tested true c behind k = absurd cc
    tested false c behind k = refl

    go : (m : Meaning) → (act_on m st.printer).refusal ≡ Some why → (act_on m st.printer).acts ≡ []
    go (more behind) k = refl
    go (done c behind) k = tested (in_range c st.printer) c behind k
    go (refused w behind) k = refl

pub state_join : (st : State) (s t : List ℕ) → (run st (s ++ t)).state ≡ (run (run st s).state t).state
state_join st s t = ap (λ (r : Run). r.state) (run_append s st t)

pub acts_join : (st : State) (s t : List ℕ) → (run st (s ++ t)).acts ≡ (run st s).acts ++ (run (run st s).state t).acts
acts_join st s t = ap (λ (r : Run). r.acts) (run_append s st t)

pub one_more : (st : State) (t : List ℕ) (b : ℕ) → st ≡ state_behind t → (step st b).next ≡ state_behind (t ++ b ∷ [])
one_more st t b h = ap (λ (x : State). (step x b).next) h ∙ sym (state_join new t (b ∷ []))

-- what a step answers of a byte at a place of a piece: what is owed, what is refused, and the state then
abbrev pub ByteTaken : State → ℕ → ℕ → List Act → List Refused → State → Type 0
ByteTaken st place b owed refusals next =
    ◌≡◌ {A = Run} (record { acts = owed; refusals = refusals; state = next }) (followed_by (stay st) place (run_byte st b))

no_refusal : (r : Reading) (x : Option Refusal) (n : ℕ) → [] ≡ later n (refused_here r x) → x ≡ None
no_refusal r None n h = refl
no_refusal r (Some why) n h = absurd (let z : ◌≡◌ {A = ℕ} 0 1 = cc in omega arith)

one_refusal : (r : Reading) (x : Option Refusal) (n : ℕ) (why : Refusal) (place : ℤ) → (why, place) ∷ [] ≡ later n (refused_here r x)
    → (x ≡ Some why) × (place ≡ pos n +ℤ neg_ℤ (pos (length (begun r))))
one_refusal r None n why place h = absurd (let z : ◌≡◌ {A = ℕ} 0 1 = cc in omega arith)
one_refusal r (Some other) n why place h =
    let p : ◌≡◌ {A = Refused} (why, place) (other, pos n +ℤ neg_ℤ (pos (length (begun r)))) = cc in
    (ap (λ (q : Refused). let x : Option Refusal = Some q.0 in x) (sym p), ap (λ (q : Refused). q.1) p)

-- nothing is refused: the three facts that the loop goes by
pub byte_accepted : (st : State) (place b : ℕ) (owed : List Act) (next : State) → ByteTaken st place b owed [] next
    → ((step st b).refusal ≡ None) × ((step st b).acts ≡ owed) × ((step st b).next ≡ next)
byte_accepted st place b owed next h = (
  no_refusal st.reading (step st b).refusal place (ap (λ (r : Run). r.refusals) h),
  sym (ap (λ (r : Run). r.acts) h),
  sym (ap (λ (r : Run). r.state) h),
)

-- a command is refused: the four facts that the loop ends by
pub byte_refused : (st : State) (place b : ℕ) (owed : List Act) (why : Refusal) (at : ℤ) (next : State) → ByteTaken st place b owed ((why, at) ∷ []) next
    → ((step st b).refusal ≡ Some why) × ((step st b).next ≡ next) × (owed ≡ []) × (at ≡ pos place +ℤ neg_ℤ (pos (length (begun st.reading))))
byte_refused st place b owed why at next h =
    let x = one_refusal st.reading (step st b).refusal place why at (ap (λ (r : Run). r.refusals) h) in (
      x.0,
      sym (ap (λ (r : Run). r.state) h),
      ap (λ (r : Run). r.acts) h ∙ refused_orders_nothing st b why x.0,
      x.1,
    )
