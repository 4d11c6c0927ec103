-- The plate keeps the laws of mechanisms.
use Rattle.std.specs.Prelude.{◌≤◌}
use Rattle.std.proofs.Common.{arith}
use Rattle.job.specs.Actions.{Act, row, advance, bars, total_cut, partial_cut, pulse, beep, reply}
use Rattle.job.specs.Orderable.{Orderable}
use Rattle.mechanism.specs.Counts.{leading_counts}
use Rattle.mechanism.specs.Mechanisms.{Laws, need_limit}
use Rattle.mechanism.proofs.Counting as counting
use Rattle.plate.specs.Plates.{plate_need, plate_rule, plate_sheet, Took}

need_bounded : (a : Act) → Orderable a → plate_need a ≤ need_limit
need_bounded (advance n) h = omega arith
need_bounded (row cells) h = omega arith
need_bounded (bars kind width height shown s) h = omega arith
need_bounded total_cut h = omega arith
need_bounded partial_cut h = omega arith
need_bounded pulse h = omega arith
need_bounded beep h = omega arith
need_bounded (reply r) h = omega arith

pub lawful : Laws plate_sheet (λ p. p.reserve) (λ p. p.stopped) plate_need plate_rule leading_counts Took
lawful = record {
  seven_counts = counting.seven;
  counts_modulo = counting.modulo;
  counts_move = counting.alone;
  need_bounded = need_bounded;
  reserve_bounded = λ p. omega (arith, p.stored);
  took_moves = λ p a q t. record {
    sheet_moves = t.sheet_moves;
    reserve_falls = omega (arith, t.reserve_falls);
    within_need = omega (arith, t.reserve_falls);
    mark_stays = t.mark_stays;
  };
}
