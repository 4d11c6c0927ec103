use Rattle.action.proofs.Rows.{deleted_laid}
use Rattle.action.proofs.open_row.OpenRow.delete_last.Goals as goal

pub invariant_of-self-clause-laid : goal.invariant_of-self-clause-laid
invariant_of-self-clause-laid c = deleted_laid c.args.self.now _ _ c.last_width-width.ensures c.saturating_sub-self.ensures
