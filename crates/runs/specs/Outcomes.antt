-- How a feed ends: with nothing owed at the end of its piece, or by a fault.
use Rattle.std.specs.Prelude.{◌≡◌, ℕ, ◌+◌, ◌<◌, ◌≤◌, List, [], ◌∷◌, length, ℤ, pos, ◌+ℤ◌, neg_ℤ, Some, None, Ok, Err, Option, Result}
use Rattle.reading.specs.declared.Refusal.{Refusal}
use Rattle.reading.specs.Reading.{Reading, refusal_number}
use Rattle.reading.specs.Unfinished.{begun}
use Rattle.job.specs.Job.{Refused}
use Rattle.mechanism.specs.Refusals.{fault_number}
pub use Rattle.runs.specs.declared.fault.RefusedCommand.{RefusedCommand}
pub use Rattle.runs.specs.declared.fault.FeedFault.{FeedFault}
pub use Rattle.runs.specs.declared.fault.FeedFault.TheVariants.{Command, Mechanism}

-- the number under which a fault is reported: 1, 2 or 3 of a refused command, 4 or 5 of a refused action
abbrev pub number_of : FeedFault → ℕ
number_of (Command c) = refusal_number c.refusal
number_of (Mechanism f) = fault_number f

-- the place of a refused command; a refused action has none
abbrev pub place_of : FeedFault → Option ℤ
place_of (Command c) = Some c.place
place_of (Mechanism f) = None

-- how a feed ended
abbrev pub Outcome : Type 0
Outcome = Result Unit FeedFault

-- a command refused at the first byte of what is left of a piece: it began before that byte by what was read of it
abbrev pub refused_at_once : Reading → Refusal → RefusedCommand
refused_at_once r why = record { refusal = why; place = neg_ℤ (pos (length (begun r))) }

-- a refused command whose place counts from so many bytes earlier
abbrev pub command_later : ℕ → RefusedCommand → RefusedCommand
command_later n c = record { refusal = c.refusal; place = pos n +ℤ c.place }

-- a fault whose place counts from so many bytes earlier
abbrev pub fault_later : ℕ → FeedFault → FeedFault
fault_later n (Command c) = Command (command_later n c)
fault_later n (Mechanism f) = Mechanism f

-- an outcome whose place counts from so many bytes earlier
abbrev pub outcome_later : ℕ → Outcome → Outcome
outcome_later n (Ok u) = Ok u
outcome_later n (Err f) = Err (fault_later n f)

-- the refused command that an outcome tells of, if one ended the feed
abbrev pub told : Outcome → List Refused
told (Ok u) = []
told (Err (Command c)) = (c.refusal, c.place) ∷ []
told (Err (Mechanism f)) = []

-- A refused command's place, where so many bytes were taken before the piece and then so many of it:
-- counted from the first byte of all, it is the place of a byte taken, at most 41 before the piece.
abbrev pub Placed : ℕ → ℕ → Outcome → Type 0
Placed before k (Ok u) = Unit {0}
Placed before k (Err (Command c)) = (first : ℕ) × (pos before +ℤ c.place ≡ pos first) × (first < before + k) × (before ≤ first + 41)
Placed before k (Err (Mechanism f)) = Unit {0}
