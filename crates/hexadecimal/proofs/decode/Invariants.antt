use Rattle.std.proofs.Common.{◌≡◌, ℕ, List, ◌++◌, length, vec_items}
use Rattle.std.specs.Option.{option_map}
use Rattle.hexadecimal.specs.Digits.{decoded}
use Rattle.hexadecimal.proofs.decode.Given as goal

-- what is decoded, and what the rest decodes to, is what the whole text decodes to
abbrev pub invariant-loop-rest : goal.invariant-loop-rest
invariant-loop-rest l = decoded l.initial.rest ≡ option_map (λ (bs : List ℕ). vec_items l.bytes ++ bs) (decoded l.rest)

abbrev pub decreases-loop-rest : goal.decreases-loop-rest
decreases-loop-rest l = length l.rest
