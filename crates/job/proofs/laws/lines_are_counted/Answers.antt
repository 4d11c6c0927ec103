use Rattle.job.proofs.Stops.{lines_are_counted}
use Rattle.job.proofs.laws.lines_are_counted.Goals as goal

pub returns : goal.returns
returns c = lines_are_counted
