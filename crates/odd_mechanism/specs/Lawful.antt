-- The odd mechanism keeps the laws of mechanisms.
use Rattle.std.specs.Prelude.{◌≤◌, drop}
use Rattle.std.proofs.Common.{arith}
use Rattle.job.specs.Actions.{Act, row, advance, bars, total_cut, partial_cut, pulse, beep, reply}
use Rattle.job.specs.Orderable.{Orderable}
use Rattle.mechanism.specs.Mechanisms.{Laws, need_limit}
use Rattle.mechanism.proofs.Counting as counting
use Rattle.odd_mechanism.specs.Odd.{backwards, odd_counts, odd_need, odd_rule, odd_sheet, Took}

need_bounded : (a : Act) → Orderable a → odd_need a ≤ need_limit
need_bounded (row cells) h = omega arith
need_bounded (advance n) h = omega arith
need_bounded (bars kind width height shown s) h = omega arith
need_bounded total_cut h = omega arith
need_bounded partial_cut h = omega arith
need_bounded pulse h = omega arith
need_bounded beep h = omega arith
need_bounded (reply r) h = omega arith

pub lawful : Laws odd_sheet (λ m. m.reserve) (λ m. m.stopped) odd_need odd_rule odd_counts Took
lawful = record {
  seven_counts = λ s. counting.seven (backwards (drop 1 s));
  counts_modulo = λ s. counting.modulo (backwards (drop 1 s));
  counts_move = λ s. counting.alone (backwards (drop 1 s));
  need_bounded = need_bounded;
  reserve_bounded = λ m. m.bounded;
  took_moves = λ m a n t. record {
    sheet_moves = t.sheet_moves;
    reserve_falls = omega (arith, t.reserve_falls);
    within_need = omega (arith, t.reserve_falls);
    mark_stays = t.mark_stays;
  };
}
