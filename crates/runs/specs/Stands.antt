-- How a run stands: an interpreter that began new, with one mechanism and nothing else.
use Rattle.std.specs.Prelude.{◌≡◌, ℕ, Bool, List, ◌∷◌, ◌++◌}
use Rattle.job.specs.Actions.{Act}
use Rattle.job.specs.Job.{State, job}
use Rattle.mechanism.specs.declared.mechanism.Mechanism.{Ghosts}
use Rattle.runs.specs.Count.{counting, state_behind}
use Rattle.runs.specs.Calls.{Call, Choice, Counted, all_asked, bytes_taken}
use Rattle.runs.specs.Offers.{along}

-- a mechanism as a run knows it
pub record View : Type 0 where
  pub sheet : List ℕ
  pub reserve : ℕ
  pub stopped : Bool

-- a mechanism's state, by three functions that read it
abbrev pub view : {S : Type 0} → (S → List ℕ) → (S → ℕ) → (S → Bool) → S → View
view sheet reserve stopped m = record { sheet = sheet m; reserve = reserve m; stopped = stopped m }

-- a mechanism's state, by the members of its interface
abbrev pub viewed : {S : Type 0} → Ghosts S → S → View
viewed g m = view g.sheet g.reserve g.stopped m

-- An interpreter in this state, with these actions owed, and a mechanism stand behind these calls, the latest first;
-- the first view is the mechanism's at the start.
pub record Stands (need : Act → ℕ) (rule : List ℕ → Act → List ℕ) (first : View) (calls : List Call) (st : State) (owed : List Act) (v : View) : Type 0 where
  -- by some choices of the mechanism, this is owed, and these are its reserve and mark
  pub choices : List Choice
  pub counts : Counted need first.reserve first.stopped choices calls (counting (bytes_taken calls) owed v.reserve v.stopped)
  -- the interpreter is a new one behind the bytes taken
  pub reads : st ≡ state_behind (bytes_taken calls)
  -- the job of the bytes taken is what was done, and then what is owed
  pub done : List Act
  pub jobs : job (bytes_taken calls) ≡ done ++ owed
  -- the sheet is the first sheet, moved by what was done
  pub sheets : v.sheet ≡ along rule first.sheet done

-- whatever calls led here, the run with this call and its answer stands there
abbrev pub Adds : (Act → ℕ) → (List ℕ → Act → List ℕ) → Call → State → List Act → View → State → List Act → View → Type 0
Adds need rule call st owed v st' owed' v' =
    (first : View) (calls : List Call) → Stands need rule first calls st owed v → Stands need rule first (call ∷ calls) st' owed' v'

-- the same of a mechanism, by the members of its interface
abbrev pub Keeps : {S : Type 0} → Ghosts S → Call → State → List Act → S → State → List Act → S → Type 0
Keeps g call st owed m st' owed' m' = Adds g.need g.rule call st owed (viewed g m) st' owed' (viewed g m')

-- two runs that are asked the same, alike in needs, rule, start and choices, stand alike: every answer, what is owed, the interpreter, the sheet, the reserve and the mark
abbrev pub Alike : Type 0
Alike =
    (need : Act → ℕ) (rule : List ℕ → Act → List ℕ) (first : View) (calls others : List Call) (st st' : State) (owed owed' : List Act) (v v' : View)
    (s : Stands need rule first calls st owed v) (t : Stands need rule first others st' owed' v')
    → s.choices ≡ t.choices → all_asked calls ≡ all_asked others
    → (calls ≡ others) × (owed ≡ owed') × (st ≡ st') × (v ≡ v')
