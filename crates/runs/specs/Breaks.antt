-- What the law forbids: ways to break a station, each at one run where the law is false of it.
use Rattle.std.specs.Prelude.{ℕ, false, List, [], ◌∷◌, Ok}
use Rattle.job.specs.Actions.{Act, beep}
use Rattle.job.specs.Job.{State, new}
use Rattle.runs.specs.Outcomes.{Outcome}
use Rattle.runs.specs.Calls.{Call, fed, covered, supplied}
use Rattle.runs.specs.Stands.{View, Stands}

-- the needs of a mechanism that needs nothing
abbrev pub needs_nothing : Act → ℕ
needs_nothing a = 0

-- its rule adds a 1 to the sheet for each action
abbrev pub adds_one : List ℕ → Act → List ℕ
adds_one sheet a = 1 ∷ sheet

-- it is not stopped
abbrev pub shows : List ℕ → ℕ → View
shows sheet reserve = record { sheet = sheet; reserve = reserve; stopped = false }

-- began with an empty sheet and no reserve, and stands behind one call in this state, with these actions owed, at this sheet and reserve
abbrev pub EndsAt : Call → State → List Act → List ℕ → ℕ → Type 0
EndsAt call st owed sheet reserve = Stands needs_nothing adds_one (shows [] 0) (call ∷ []) st owed (shows sheet reserve)

-- 07 orders a beep; 41 0A orders a row and an advance; 01 is refused, so that the 41 behind it is not read
pub record Breaks : Type 0 where
  -- the law holds of a station that beeps once
  pub acts_once : EndsAt (fed (0x07 ∷ []) 1 (Ok tt)) new [] (1 ∷ []) 0
  -- it never calls its mechanism
  pub never_acts : (e : Outcome) (st : State) → EndsAt (fed (0x07 ∷ []) 1 e) st [] [] 0 → ⊥
  -- it does an action twice
  pub acts_twice : (e : Outcome) (st : State) → EndsAt (fed (0x07 ∷ []) 1 e) st [] (1 ∷ 1 ∷ []) 0 → ⊥
  -- it still owes an action that is done
  pub owes_done : (e : Outcome) (st : State) → EndsAt (fed (0x07 ∷ []) 1 e) st (beep ∷ []) (1 ∷ []) 0 → ⊥
  -- it does the first action and drops the rest
  pub drops_the_rest : (e : Outcome) (st : State) → EndsAt (fed (0x41 ∷ 0x0A ∷ []) 2 e) st [] (1 ∷ []) 0 → ⊥
  -- it counts a byte that it did not read
  pub counts_unread : (e : Outcome) (st : State) (owed : List Act) (sheet : List ℕ) (reserve : ℕ) → EndsAt (fed (0x01 ∷ 0x41 ∷ []) 2 e) st owed sheet reserve → ⊥
  -- it forgets what it read: behind a character its row is not empty
  pub forgets_reading : (e : Outcome) (owed : List Act) (sheet : List ℕ) (reserve : ℕ) → EndsAt (fed (0x41 ∷ []) 1 e) new owed sheet reserve → ⊥
  -- its supply grants more than was offered
  pub grants_too_much : (st : State) (owed : List Act) (sheet : List ℕ) (reserve : ℕ) → EndsAt (supplied 1 2) st owed sheet reserve → ⊥
  -- its cover raises the reserve
  pub cover_raises : (st : State) → EndsAt (covered false) st [] [] 1 → ⊥
