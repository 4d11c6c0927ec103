use Rattle.std.proofs.Common.{◌≡◌, map, take}
use Rattle.page.specs.Pictures.{character_of}
use Rattle.page.proofs.picture.put_characters.Given as goal

abbrev pub invariant-loop-i : goal.invariant-loop-i
invariant-loop-i l = take l.i l.out ≡ map character_of (take l.i l.cells)
