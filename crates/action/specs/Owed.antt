-- What is owed, in order.
use Rattle.std.specs.Prelude.{◌≡◌, List, ◌++◌}
use Rattle.job.specs.Actions.{Act}
use Rattle.action.specs.declared.owed.Owed.{Owed}
use Rattle.action.specs.Meanings.{row_acts, advances_acts, other_acts}

abbrev pub owed_row : Owed → List Act
owed_row o = row_acts o.row

abbrev pub owed_advances : Owed → List Act
owed_advances o = advances_acts o.advances

abbrev pub owed_other : Owed → List Act
owed_other o = other_acts o.other

-- the row, then the advances, then the other action
abbrev pub owed_acts : Owed → List Act
owed_acts o = owed_row o ++ (owed_advances o ++ owed_other o)

-- these rows, advances and other actions are owed
pub record Owes (o : Owed) (rows advances others : List Act) : Type 0 where
  pub in_order : owed_acts o ≡ rows ++ (advances ++ others)
  pub is_row : owed_row o ≡ rows
  pub are_advances : owed_advances o ≡ advances
  pub is_other : owed_other o ≡ others
