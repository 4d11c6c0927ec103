use Rattle.job.proofs.Refusals.{passed_over}
use Rattle.job.proofs.laws.refused_commands_are_passed_over.Goals as goal

pub returns : goal.returns
returns c = passed_over
