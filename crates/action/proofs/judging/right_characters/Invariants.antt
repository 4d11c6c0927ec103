use Rattle.std.proofs.Common.{◌≡◌, length, drop}
use Rattle.job.specs.BarCodes.{right_from, right_characters}
use Rattle.action.proofs.judging.right_characters.Given as goal

abbrev pub invariant-loop-place : goal.invariant-loop-place
invariant-loop-place l = right_from l.kind (length l.string) l.place (drop l.place l.string) ≡ right_characters l.kind l.string
