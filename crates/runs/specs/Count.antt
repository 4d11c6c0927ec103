-- What one feed takes and leaves owed.
use Rattle.std.specs.Prelude.{◌≡◌, ℕ, ◌+◌, ◌-◌, ◌≤◌, Bool, List, [], ◌∷◌, ◌++◌, Some, None, Ok, Err}
use Rattle.reading.specs.declared.Refusal.{Refusal}
use Rattle.job.specs.Actions.{Act}
use Rattle.job.specs.Job.{State, step, run, new}
use Rattle.mechanism.specs.declared.fault.Fault.{Fault}
use Rattle.mechanism.specs.Refusals.{Barred, Free}
use Rattle.runs.specs.Outcomes.{Outcome, Command, Mechanism, refused_at_once, outcome_later}

-- the bytes taken, the actions owed, and the mechanism's reserve and mark
pub record Count : Type 0 where
  pub taken : List ℕ
  pub owed : List Act
  pub reserve : ℕ
  pub stopped : Bool

-- a count of these four
abbrev pub counting : List ℕ → List Act → ℕ → Bool → Count
counting taken owed reserve stopped = record { taken = taken; owed = owed; reserve = reserve; stopped = stopped }

-- an interpreter that began new, behind the bytes taken
abbrev pub state_behind : List ℕ → State
state_behind taken = (run new taken).state

-- How one feed goes on from a count: of what is left of the piece, how many bytes it takes, how it ends, and the count then.
-- The choices are by how much the actions taken lower the reserve, in order; those that the feed does not come to are not used.
module _ (need : Act → ℕ) where
  pub data Goes : List ℕ → Count → List ℕ → ℕ → Outcome → Count → Type 0 where
    -- the first action owed is offered and taken: it is owed no more, and the next is offered
    acts : {t : List ℕ} {a : Act} {o : List Act} {r : ℕ} {s : Bool} {fall : ℕ} {falls piece : List ℕ} {k : ℕ} {e : Outcome} {end : Count}
        → Free (need a) r s a → fall ≤ need a
        → Goes falls (counting t o (r - fall) s) piece k e end
        → Goes (fall ∷ falls) (counting t (a ∷ o) r s) piece k e end
    -- it is refused: it stays first and ends the feed
    stuck : {t : List ℕ} {a : Act} {o : List Act} {r : ℕ} {s : Bool} {falls piece : List ℕ} {f : Fault}
        → Barred (need a) r s a f
        → Goes falls (counting t (a ∷ o) r s) piece 0 (Err (Mechanism f)) (counting t (a ∷ o) r s)
    -- with nothing owed, the next byte is taken, and what that orders becomes owed, in order
    reads : {t : List ℕ} {r : ℕ} {s : Bool} {b : ℕ} {falls piece : List ℕ} {k : ℕ} {e : Outcome} {end : Count}
        → (step (state_behind t) b).refusal ≡ None
        → Goes falls (counting (t ++ b ∷ []) (step (state_behind t) b).acts r s) piece k e end
        → Goes falls (counting t [] r s) (b ∷ piece) (1 + k) (outcome_later 1 e) end
    -- a command refused at that byte ends the feed
    refused : {t : List ℕ} {r : ℕ} {s : Bool} {b : ℕ} {falls piece : List ℕ} {why : Refusal}
        → (step (state_behind t) b).refusal ≡ Some why
        → Goes falls (counting t [] r s) (b ∷ piece) 1 (Err (Command (refused_at_once (state_behind t).reading why))) (counting (t ++ b ∷ []) [] r s)
    -- with nothing owed, the piece's end ends it
    ends : {t : List ℕ} {r : ℕ} {s : Bool} {falls : List ℕ}
        → Goes falls (counting t [] r s) [] 0 (Ok tt) (counting t [] r s)
