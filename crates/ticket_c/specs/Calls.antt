-- What the calls from C answer.
use Rattle.std.specs.Prelude.{◌≡◌, ℕ, ◌<◌, ◌≤◌, List, ◌∷◌, ◌++◌, length, drop, replicate, Ok, Err, Result}
use Rattle.job.specs.Actions.{Act}
use Rattle.job.specs.Job.{job}
use Rattle.mechanism.specs.Counts.{counted}
use Rattle.runs.specs.Offers.{along}
use Rattle.normal.specs.declared.answer.Normalised.{Normalised}
use Rattle.normal.specs.declared.answer.NormaliseFault.{NormaliseFault}
use Rattle.normal.specs.Answers.{number_of}
use Rattle.normal.specs.Normalises.{refused_in, Normalises}

-- 0 for a whole text, else the number of its fault
abbrev pub outcome_number : Result Unit NormaliseFault → ℕ
outcome_number (Ok u) = 0
outcome_number (Err f) = number_of f

-- without room for its two numbers a call does nothing and answers 255; else it normalises, and tells the length and the commands passed over
pub record NormaliseCall (stream out answer : List ℕ) (r : ℕ) (out' answer' : List ℕ) : Type 0 where
  pub no_room : length answer < 2 → (r ≡ 255) × (out' ≡ out) × (answer' ≡ answer)
  pub answered : 2 ≤ length answer → (n : Normalised) × Normalises stream out n out' × (answer' ≡ n.written ∷ n.passed_over ∷ drop 2 answer) × (r ≡ outcome_number n.outcome)

-- the counts of a job, from none on
abbrev pub counted_all : List Act → List ℕ
counted_all acts = along counted (replicate 7 0) acts

-- without room for seven counts a call does nothing and answers 0; else it counts the whole job, and answers how many commands are refused
pub record FeedCall (stream counts : List ℕ) (r : ℕ) (counts' : List ℕ) : Type 0 where
  pub no_room : length counts < 7 → (r ≡ 0) × (counts' ≡ counts)
  pub counted : 7 ≤ length counts → (counts' ≡ counted_all (job stream) ++ drop 7 counts) × (r ≡ refused_in stream)
