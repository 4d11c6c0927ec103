-- The full plate keeps the laws of mechanisms.
use Rattle.std.proofs.Common.{arith}
use Rattle.mechanism.specs.Counts.{leading_counts}
use Rattle.mechanism.specs.Mechanisms.{Laws}
use Rattle.plate.specs.Lawful as plates
use Rattle.plate.specs.Plates.{plate_need, plate_rule, plate_sheet}
use Rattle.ticket_c.specs.Full.{Took, shown_paper}

pub lawful : Laws (λ p. plate_sheet p.plate) shown_paper (λ p. p.plate.stopped) plate_need plate_rule leading_counts Took
lawful = record {
  seven_counts = plates.lawful.seven_counts;
  counts_modulo = plates.lawful.counts_modulo;
  counts_move = plates.lawful.counts_move;
  need_bounded = plates.lawful.need_bounded;
  reserve_bounded = λ p. omega arith;
  took_moves = λ p a q t. record {
    sheet_moves = t.sheet_moves;
    reserve_falls = omega (arith, t.reserve_stays);
    within_need = omega (arith, t.reserve_stays);
    mark_stays = t.mark_stays;
  };
}
