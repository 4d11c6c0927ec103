-- The forms in which actions are written.
use Rattle.std.specs.Prelude.{◌≡◌, ℕ, ◌≤◌, List, length}
use Rattle.job.specs.Actions.{Act}
use Rattle.job.specs.Orderable.{Orderable}
use Rattle.mechanism.specs.Mechanisms.{need_limit}

-- what every form keeps, of the actions that a stream can order
pub record FormLaws (need size : Act → ℕ) (bytes : ℕ → Act → List ℕ) : Type 0 where
  pub sized : (advance : ℕ) (a : Act) → Orderable a → length (bytes advance a) ≡ size a
  pub within_need : (a : Act) → Orderable a → size a ≤ need a
  pub need_bounded : (a : Act) → Orderable a → need a ≤ need_limit
