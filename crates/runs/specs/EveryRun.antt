-- The law of every run, for every mechanism.
use Rattle.std.specs.Prelude.{◌≡◌, ℕ, Bool, List, [], ◌∷◌, ◌++◌}
use Rattle.job.specs.Actions.{Act}
use Rattle.job.specs.Printer.{Settings}
use Rattle.job.specs.Job.{State, new}
use Rattle.mechanism.specs.declared.mechanism.Mechanism.{Ghosts}
use Rattle.mechanism.specs.declared.status.Status.{Status}
use Rattle.mechanism.specs.Counts.{counted}
use Rattle.mechanism.specs.Mechanisms.{Covered, Supplied}
use Rattle.mechanism.specs.Statuses.{status_of}
use Rattle.runs.specs.Outcomes.{Outcome}
use Rattle.runs.specs.Calls.{Call, fed, covered, supplied, status, settings}
use Rattle.runs.specs.Feeds.{FeedsTo, ended}
use Rattle.runs.specs.Stands.{Stands, viewed}

-- Any run: a new interpreter meets the mechanism m, and calls follow in any order, each doing and answering what it promises; the latest call stands first.
module _ {S : Type 0} (g : Ghosts S) where
  pub data Met (m : S) : List Call → State → List Act → S → Type 0 where
    begins : Met m [] new [] m
    feeds : {calls : List Call} {st st' : State} {owed owed' : List Act} {n n' : S} {piece : List ℕ} {k : ℕ} {e : Outcome}
        → Met m calls st owed n → FeedsTo g owed st n piece (ended k e owed' st' n')
        → Met m (fed piece k e ∷ calls) st' owed' n'
    covers : {calls : List Call} {st : State} {owed : List Act} {n n' : S} {opened : Bool}
        → Met m calls st owed n → Covered g.sheet g.reserve g.stopped g.stays n opened n'
        → Met m (covered opened ∷ calls) st owed n'
    supplies : {calls : List Call} {st : State} {owed : List Act} {n n' : S} {offered granted : ℕ}
        → Met m calls st owed n → Supplied g.sheet g.reserve g.stopped g.grants g.stays n offered granted n'
        → Met m (supplied offered granted ∷ calls) st owed n'
    asks_status : {calls : List Call} {st : State} {owed : List Act} {n : S} {a : Status}
        → Met m calls st owed n → a ≡ status_of (g.reserve n) (g.stopped n)
        → Met m (status a ∷ calls) st owed n
    asks_settings : {calls : List Call} {st : State} {owed : List Act} {n : S} {a : Settings}
        → Met m calls st owed n → a ≡ st.printer.settings
        → Met m (settings a ∷ calls) st owed n

-- the counts after some actions
abbrev pub counted_along : List ℕ → List Act → List ℕ
counted_along counts [] = counts
counted_along counts (a ∷ more) = counted_along (counted counts a) more

-- The mechanism's state came about from m by these actions, with whatever else it promises of each, and of what stays when its cover is moved or more is supplied.
module _ {S : Type 0} (g : Ghosts S) where
  pub data Changed (m : S) : List Act → S → Type 0 where
    unchanged : Changed m [] m
    took_one : {done : List Act} {a : Act} {n p : S} → Changed m done n → g.took n a p → Changed m (done ++ a ∷ []) p
    stayed : {done : List Act} {n p : S} → Changed m done n → g.stays n p → Changed m done p

-- every run stands, the counts of its sheet tell what was done, and whatever else the mechanism promises is kept
pub record RunStands {S : Type 0} (g : Ghosts S) (m : S) (calls : List Call) (st : State) (owed : List Act) (n : S) : Type 0 where
  pub stands : Stands g.need g.rule (viewed g m) calls st owed (viewed g n)
  pub counts : g.counts (g.sheet n) ≡ counted_along (g.counts (g.sheet m)) stands.done
  pub changed : Changed g m stands.done n

-- of every run
abbrev pub EveryRun : {S : Type 0} → Ghosts S → Type 0
EveryRun {S} g =
    (m n : S) (calls : List Call) (st : State) (owed : List Act) → Met g m calls st owed n → RunStands g m calls st owed n
