-- The plate: its sheet is its counts.
use Rattle.std.specs.Prelude.{ℕ, ◌+◌, ◌-◌, min, ◌≡◌, false, List, [], replicate}
use Rattle.job.specs.Actions.{Act, row, advance, bars, total_cut, partial_cut, pulse, beep, reply}
use Rattle.short.specs.Short.{listed}
use Rattle.mechanism.specs.Counts.{counted, first_seven, tally}
use Rattle.mechanism.specs.Statuses.{status_of}
use Rattle.plate.specs.declared.plate.Plate.{Plate}
use Rattle.plate.specs.Paper.{paper_limit}
use Rattle.plate.specs.Replies.{latest_after}

-- an advance needs its steps, all else nothing
abbrev pub plate_need : Act → ℕ
plate_need (advance n) = n
plate_need (row cells) = 0
plate_need (bars kind width height shown s) = 0
plate_need total_cut = 0
plate_need partial_cut = 0
plate_need pulse = 0
plate_need beep = 0
plate_need (reply r) = 0

abbrev pub plate_rule : List ℕ → Act → List ℕ
plate_rule s a = counted (first_seven s) a

abbrev pub plate_sheet : Plate → List ℕ
plate_sheet p = tally p.counts

-- the bytes of the latest reply; none if there was no reply yet
abbrev pub plate_latest : Plate → List ℕ
plate_latest p = listed p.latest

-- as much of an offer as leaves the reserve within the limit
abbrev pub plate_grant : Plate → ℕ → ℕ
plate_grant p offered = min offered (paper_limit - p.reserve)

-- a plate that has done nothing
pub record Begins (p : Plate) : Type 0 where
  pub sheet : plate_sheet p ≡ replicate 7 0
  pub reserve : p.reserve ≡ 0
  pub stopped : p.stopped ≡ false
  pub latest : plate_latest p ≡ []

-- what the plate makes of an action: the reserve falls by the need, and replies are as at that moment
pub record Took (p : Plate) (a : Act) (q : Plate) : Type 0 where
  pub sheet_moves : plate_sheet q ≡ plate_rule (plate_sheet p) a
  pub reserve_falls : q.reserve + plate_need a ≡ p.reserve
  pub mark_stays : q.stopped ≡ p.stopped
  pub answers : plate_latest q ≡ latest_after (plate_latest p) (status_of p.reserve p.stopped) a
