use Rattle.std.proofs.Common.{◌≡◌, ◌++◌, take, vec_items}
use Rattle.hexadecimal.specs.Digits.{encoded}
use Rattle.hexadecimal.proofs.encode.Given as goal

abbrev pub invariant-loop-byte : goal.invariant-loop-byte
invariant-loop-byte l = vec_items l.text ≡ vec_items l.initial.text ++ encoded (take l.byte-index l.bytes)
