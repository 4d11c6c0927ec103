-- The plate's paper, in steps.
use Rattle.std.specs.Prelude.{ℕ}

-- the most that it holds
abbrev pub paper_limit : ℕ
paper_limit = 10000000
