-- Which actions a buffer has room for.
use Rattle.std.specs.Prelude.{◌≡◌, ℕ, ◌+◌, ◌≤◌, List, ◌∷◌, ◌++◌, length}
use Rattle.job.specs.Actions.{Act}
use Rattle.job.specs.NormalText.{job_text}
use Rattle.mechanism.specs.Buffers.{room_left}
use Rattle.action_text.specs.Needs.{text_need}

-- the room of a buffer in which nothing is written
abbrev pub room : List ℕ → ℕ
room found = room_left (length found) 0

-- actions that find room one after the other: behind the texts of those before it, each has as much left as it needs
abbrev pub Fit : ℕ → List Act → Type 0
Fit size acts = (before after : List Act) (a : Act) → acts ≡ before ++ a ∷ after → length (job_text before) + text_need a ≤ size
