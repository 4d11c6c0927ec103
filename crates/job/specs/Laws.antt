-- What holds of jobs and normal texts.
use Rattle.std.specs.Prelude.{◌≡◌, ℕ, ◌<◌, ◌↔◌, List, [], ◌∷◌, ◌++◌, length}
use Rattle.std.specs.List.{ContainsAt as Has, flat_map, AllByRecursion}
use Rattle.job.specs.Actions.{Act}
use Rattle.job.specs.Job.{State, Run, run, stay, followed_by, resting, job}
use Rattle.job.specs.NormalText.{action_text, job_text, normal_text}
use Rattle.job.specs.Orderable.{Orderable}

-- a stream of bytes
abbrev pub Bytes : List ℕ → Type 0
Bytes = AllByRecursion (λ b. b < 256)

-- two streams have the same normal text exactly when they order the same job
abbrev pub Canonical : Type 0
Canonical = (s t : List ℕ) → Bytes s → Bytes t → (normal_text s ≡ normal_text t) ↔ (job s ≡ job t)

-- the line number behind an action's text, by the one before it: no text feeds a line
abbrev pub line_after : Act → ℕ → ℕ
line_after a line = line

-- the line number behind the texts of a job
abbrev pub lines_after : List Act → ℕ → ℕ
lines_after [] line = line
lines_after (a ∷ acts) line = lines_after acts (line_after a line)

-- these acts were ordered and nothing was refused, which leaves an interpreter as new but for its line number
abbrev pub just : List Act → ℕ → Run
just acts line = record { acts = acts; refusals = []; state = resting line }

-- the text of a job that a stream can order orders that very job, refuses nothing, and leaves the interpreter as new but for its line number
abbrev pub ReadBack : Type 0
ReadBack = (acts : List Act) (line : ℕ) → AllByRecursion Orderable acts → run (resting line) (job_text acts) ≡ just acts (lines_after acts line)

-- an action's text before any other bytes orders the action, and then those bytes do what they do by themselves
abbrev pub ReadBeforeOthers : Type 0
ReadBeforeOthers =
    (a : Act) (line : ℕ) (t : List ℕ) → Orderable a
    → run (resting line) (action_text a ++ t)
    ≡ followed_by (just (a ∷ []) (line_after a line)) (length (action_text a)) (run (resting (line_after a line)) t)

-- a normal text is its own normal text, and consists of bytes
pub record IsSettled (s : List ℕ) : Type 0 where
  pub own_text : normal_text (normal_text s) ≡ normal_text s
  pub same_job : job (normal_text s) ≡ job s
  pub bytes : Bytes (normal_text s)

-- the normal text of every stream of bytes
abbrev pub Settled : Type 0
Settled = (s : List ℕ) → Bytes s → IsSettled s

-- some stream orders it
abbrev pub OrderedByAStream : Act → Type 0
OrderedByAStream a = (s : List ℕ) × Bytes s × Has (job s) a

-- every action of every stream's job can be ordered, and what can be ordered is ordered by its text: the two notions are the same
pub record OrderableIsOrdered (a : Act) : Type 0 where
  pub same : Orderable a ↔ OrderedByAStream a
  pub by_its_text : Orderable a → Bytes (action_text a) × (job (action_text a) ≡ a ∷ [])

-- of every action
abbrev pub OrderableIsWhatStreamsOrder : Type 0
OrderableIsWhatStreamsOrder = (a : Act) → OrderableIsOrdered a

-- a stream of bytes orders nothing but what can be ordered
abbrev pub OnlyOrderable : Type 0
OnlyOrderable = (s : List ℕ) → Bytes s → AllByRecursion Orderable (job s)

-- pieces read one after the other: places are those of the whole
abbrev pub run_pieces : State → List (List ℕ) → Run
run_pieces st [] = stay st
run_pieces st (s ∷ pieces) = let r : Run = run st s in followed_by r (length s) (run_pieces r.state pieces)

-- a stream read in pieces orders and refuses what it does in one, and leaves the same state, for every cutting
abbrev pub InPieces : Type 0
InPieces = (st : State) (pieces : List (List ℕ)) → run st (flat_map (λ s. s) pieces) ≡ run_pieces st pieces
