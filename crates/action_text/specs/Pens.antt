-- What a pen writes.
use Rattle.std.specs.Prelude.{◌≡◌, ℕ, ◌-◌, List, length}
use Rattle.mechanism.specs.Buffers.{Appended}
use Rattle.action_text.specs.declared.pen.Pen.{Pen}

-- the room behind what is written
abbrev pub left : Pen → ℕ
left p = length p.out.now - p.at

-- bytes are written behind those before, and the rest of the buffer is as found
pub record Wrote (p : Pen) (bytes : List ℕ) (q : Pen) : Type 0 where
  pub writes : Appended p.out.now p.at bytes q.at q.out.now
  pub same_length : length q.out.now ≡ length p.out.now
  pub same_buffer : q.out.ghost_name ≡ p.out.ghost_name
