-- The recorder: its sheet is its counts, and then the bytes of the actions taken.
use Rattle.std.specs.Prelude.{◌≡◌, ℕ, ◌+◌, ◌≤◌, false, List, ◌++◌, length, take, drop, replicate, slice_index}
use Rattle.job.specs.Actions.{Act}
use Rattle.mechanism.specs.Buffers.{Appended, room_left}
use Rattle.mechanism.specs.Counts.{counted, first_seven, tally}
use Rattle.recorder.specs.declared.recorder.Recorder.{Recorder}

-- an action moves the counts, and its bytes follow those before
abbrev pub recorder_rule : (ℕ → Act → List ℕ) → List ℕ → Act → List ℕ
recorder_rule bytes s a = counted (first_seven s) a ++ (drop 7 s ++ bytes (slice_index s 0) a)

-- the counts, and then the bytes written
abbrev pub recorder_sheet : {F : Type 0} → Recorder F → List ℕ
recorder_sheet r = tally r.counts ++ take r.len r.out.now

-- the room left in the buffer
abbrev pub recorder_reserve : {F : Type 0} → Recorder F → ℕ
recorder_reserve r = room_left (length r.out.now) r.len

-- a recorder that has written nothing into the buffer that it found
pub record Begins {F : Type 0} (r : Recorder F) (found : List ℕ) : Type 0 where
  pub sheet : recorder_sheet r ≡ replicate 7 0
  pub reserve : recorder_reserve r ≡ room_left (length found) 0
  pub stopped : r.stopped ≡ false
  pub len : r.len ≡ 0
  pub buffer : r.out.now ≡ found

-- what the recorder makes of an action: its bytes stand behind what was written, and the rest of the buffer is as found;
-- the reserve falls by their number, which is within the need
pub record Took (need size : Act → ℕ) (bytes : ℕ → Act → List ℕ) {F : Type 0} (r : Recorder F) (a : Act) (t : Recorder F) : Type 0 where
  pub sheet_moves : recorder_sheet t ≡ recorder_rule bytes (recorder_sheet r) a
  pub reserve_falls : recorder_reserve t + size a ≡ recorder_reserve r
  pub within_need : size a ≤ need a
  pub mark_stays : t.stopped ≡ r.stopped
  pub writes : Appended r.out.now r.len (bytes r.counts.advance a) t.len t.out.now
  pub same_length : length t.out.now ≡ length r.out.now
  pub same_buffer : t.out.ghost_name ≡ r.out.ghost_name

-- the buffer stays, and how much of it is written
pub record Stays {F : Type 0} (r t : Recorder F) : Type 0 where
  pub buffer : t.out.now ≡ r.out.now
  pub len : t.len ≡ r.len
  pub same_buffer : t.out.ghost_name ≡ r.out.ghost_name
