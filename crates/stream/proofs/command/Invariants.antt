use Rattle.std.proofs.Common.{◌≡◌, ◌+◌, drop}
use Rattle.stream.specs.Awaited.{follow}
use Rattle.stream.proofs.command.Given as goal

abbrev pub invariant-loop-i : goal.invariant-loop-i
invariant-loop-i l = follow (l.i + 1) l.awaited (drop l.i (drop 1 l.s)) ≡ follow 1 l.initial.awaited (drop 1 l.s)
