-- Which lists are lists of stops.
use Rattle.std.specs.Prelude.{ℕ, Bool, ◌&&◌, List}
use Rattle.reading.specs.Tests.{between, every}
use Rattle.job.specs.Changes.{rising}

-- stops that rise, each from 1 to a limit
abbrev pub stops_in_range : ℕ → List ℕ → Bool
stops_in_range most stops = rising 0 stops && every (between 1 most) stops
