-- What a list in fixed memory holds.
use Rattle.std.specs.Prelude.{ℕ, List, take}
use Rattle.short.specs.declared.Short.{Short}

-- the bytes of a short list
abbrev pub listed : {N : ℕ} → Short N → List ℕ
listed s = take s.len s.bytes
