-- A plate that shows all its paper at every action.
use Rattle.std.specs.Prelude.{◌≡◌, ℕ, ◌-◌, cond, nat_lt}
use Rattle.job.specs.Actions.{Act}
use Rattle.mechanism.specs.Mechanisms.{need_limit}
use Rattle.plate.specs.Paper.{paper_limit}
use Rattle.plate.specs.Plates.{plate_latest, plate_need, plate_rule, plate_sheet}
use Rattle.ticket_c.specs.declared.full_plate.FullPlate.{FullPlate}

-- the paper that it shows: as much as a plate holds, whatever is left of it
abbrev pub shown_paper : FullPlate → ℕ
shown_paper p = paper_limit

-- the paper that the plate holds once an action has left so much: what is left, or all that a plate can hold where that is less than any action may need
abbrev pub filled_up : ℕ → ℕ
filled_up left = cond (nat_lt left need_limit) paper_limit left

-- what it makes of an action: the counts move, it shows as much paper as before, the plate is filled up if it must be, and the mark stays
pub record Took (p : FullPlate) (a : Act) (q : FullPlate) : Type 0 where
  pub sheet_moves : plate_sheet q.plate ≡ plate_rule (plate_sheet p.plate) a
  pub reserve_stays : shown_paper q ≡ shown_paper p
  pub paper_left : q.plate.reserve ≡ filled_up (p.plate.reserve - plate_need a)
  pub mark_stays : q.plate.stopped ≡ p.plate.stopped

-- what else no cover and no supply changes: the latest reply, and the paper that the plate holds
pub record Stays (p q : FullPlate) : Type 0 where
  pub latest_stays : plate_latest q.plate ≡ plate_latest p.plate
  pub paper_stays : q.plate.reserve ≡ p.plate.reserve
