-- What a run of calls has taken and owes.
use Rattle.std.specs.Prelude.{ℕ, ◌+◌, ◌≤◌, Bool, List, [], ◌∷◌, ◌++◌, length, take}
use Rattle.job.specs.Actions.{Act}
use Rattle.job.specs.Printer.{Settings}
use Rattle.job.specs.Job.{Refused, later}
use Rattle.mechanism.specs.declared.status.Status.{Status}
use Rattle.mechanism.specs.Statuses.{status_of}
use Rattle.runs.specs.Outcomes.{Outcome, told}
use Rattle.runs.specs.Count.{Count, counting, state_behind, Goes}

-- a call, with its answer
pub data Call : Type 0 where
  -- the piece; how many bytes were taken of it, and how the feed ended
  fed : List ℕ → ℕ → Outcome → Call
  -- whether the cover was opened
  covered : Bool → Call
  -- what was offered; what was granted
  supplied : ℕ → ℕ → Call
  -- the status bytes
  status : Status → Call
  -- the settings, attributes, one-line width and line number among them
  settings : Settings → Call

-- what the mechanism chooses in a call
pub data Choice : Type 0 where
  -- in a feed: by how much each action taken lowers the reserve
  falls : List ℕ → Choice
  -- in a supply: the grant
  grant : ℕ → Choice

-- The count behind some calls, by the mechanism's choices in its feeds and supplies; calls and choices stand with the latest first.
module _ (need : Act → ℕ) (reserve : ℕ) (stopped : Bool) where
  pub data Counted : List Choice → List Call → Count → Type 0 where
    -- at first nothing is taken and nothing owed
    none : Counted [] [] (counting [] [] reserve stopped)
    then_fed : {choices : List Choice} {calls : List Call} {c d : Count} {fs piece : List ℕ} {k : ℕ} {e : Outcome}
        → Counted choices calls c → Goes need fs c piece k e d
        → Counted (falls fs ∷ choices) (fed piece k e ∷ calls) d
    -- no other call changes what is taken or owed
    then_covered : {choices : List Choice} {calls : List Call} {c : Count} {opened : Bool}
        → Counted choices calls c
        → Counted choices (covered opened ∷ calls) (counting c.taken c.owed c.reserve opened)
    then_supplied : {choices : List Choice} {calls : List Call} {c : Count} {offered granted : ℕ}
        → Counted choices calls c → granted ≤ offered
        → Counted (grant granted ∷ choices) (supplied offered granted ∷ calls) (counting c.taken c.owed (c.reserve + granted) c.stopped)
    then_status : {choices : List Choice} {calls : List Call} {c : Count}
        → Counted choices calls c
        → Counted choices (status (status_of c.reserve c.stopped) ∷ calls) c
    then_settings : {choices : List Choice} {calls : List Call} {c : Count}
        → Counted choices calls c
        → Counted choices (settings (state_behind c.taken).printer.settings ∷ calls) c

-- what is asked: a call without its answer
pub data Asked : Type 0 where
  to_feed : List ℕ → Asked
  to_cover : Bool → Asked
  to_supply : ℕ → Asked
  for_status : Asked
  for_settings : Asked

-- what a call asks
abbrev pub asked : Call → Asked
asked (fed piece k e) = to_feed piece
asked (covered opened) = to_cover opened
asked (supplied offered granted) = to_supply offered
asked (status a) = for_status
asked (settings a) = for_settings

-- what calls ask
abbrev pub all_asked : List Call → List Asked
all_asked [] = []
all_asked (c ∷ calls) = asked c ∷ all_asked calls

-- the bytes that the feeds' answers count, joined
abbrev pub bytes_taken : List Call → List ℕ
bytes_taken [] = []
bytes_taken (fed piece k e ∷ calls) = bytes_taken calls ++ take k piece
bytes_taken (covered opened ∷ calls) = bytes_taken calls
bytes_taken (supplied offered granted ∷ calls) = bytes_taken calls
bytes_taken (status a ∷ calls) = bytes_taken calls
bytes_taken (settings a ∷ calls) = bytes_taken calls

-- the refused commands that the feeds' answers tell of, in order, their places counted from the first byte of the run
abbrev pub refusals_told : List Call → List Refused
refusals_told [] = []
refusals_told (fed piece k e ∷ calls) = refusals_told calls ++ later (length (bytes_taken calls)) (told e)
refusals_told (covered opened ∷ calls) = refusals_told calls
refusals_told (supplied offered granted ∷ calls) = refusals_told calls
refusals_told (status a ∷ calls) = refusals_told calls
refusals_told (settings a ∷ calls) = refusals_told calls
