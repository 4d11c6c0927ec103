-- The numbers of normalise's faults.
use Rattle.std.specs.Prelude.{ℕ}
use Rattle.runs.specs.Outcomes as feeds
use Rattle.normal.specs.declared.answer.NormaliseFault.{NormaliseFault}
use Rattle.normal.specs.declared.answer.NormaliseFault.TheVariants.{StreamTooLong, Feed}

-- 6 for a stream that is too long, else the number of the feed's fault
abbrev pub number_of : NormaliseFault → ℕ
number_of StreamTooLong = 6
number_of (Feed f) = feeds.number_of f
