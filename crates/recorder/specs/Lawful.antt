-- Recorders of every form keep the laws of mechanisms.
use Rattle.std.specs.Prelude.{ℕ, List, ◌++◌, drop, slice_index}
use Rattle.std.proofs.Common.{arith}
use Rattle.job.specs.Actions.{Act}
use Rattle.mechanism.specs.Counts.{leading_counts}
use Rattle.mechanism.specs.Mechanisms.{Laws}
use Rattle.mechanism.proofs.Counting as counting
use Rattle.recorder.specs.declared.recorder.Recorder.{Recorder}
use Rattle.recorder.specs.Forms.{FormLaws}
use Rattle.recorder.specs.Recorders.{recorder_reserve, recorder_rule, recorder_sheet, Took}

pub lawful : {F : Type 0} {need size : Act → ℕ} {bytes : ℕ → Act → List ℕ} → FormLaws need size bytes
    → Laws {S = Recorder F} recorder_sheet recorder_reserve (λ r. r.stopped) need (recorder_rule bytes) leading_counts (Took need size bytes)
lawful {F} {need} {size} {bytes} form = record {
  seven_counts = counting.seven;
  counts_modulo = counting.modulo;
  counts_move = λ s a. counting.move s (drop 7 s ++ bytes (slice_index s 0) a) a;
  need_bounded = form.need_bounded;
  reserve_bounded = λ r. omega arith;
  took_moves = λ r a t took. record {
    sheet_moves = took.sheet_moves;
    reserve_falls = omega (arith, took.reserve_falls);
    within_need = omega (arith, took.reserve_falls, took.within_need);
    mark_stays = took.mark_stays;
  };
}
