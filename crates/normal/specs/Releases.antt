-- What a release rests on.
use Rattle.std.specs.Prelude.{◌≡◌, ℕ, ◌↔◌, List}
use Rattle.job.specs.Job.{job}
use Rattle.job.specs.Laws.{Bytes}
use Rattle.job.specs.NormalText.{normal_text}

-- a text by which the ticket of a stream can be released
pub record Releases (stream text : List ℕ) : Type 0 where
  -- it is the stream's normal text
  pub is_normal : text ≡ normal_text stream
  -- whatever other stream is sent: it has the same normal text exactly when it orders the same job
  pub same_job : (other : List ℕ) → Bytes other → (normal_text other ≡ text) ↔ (job other ≡ job stream)
  -- read as a stream, it orders the very job it was written for, and is its own normal text
  pub orders_the_job : job text ≡ job stream
  pub own_text : normal_text text ≡ text
  pub bytes : Bytes text
