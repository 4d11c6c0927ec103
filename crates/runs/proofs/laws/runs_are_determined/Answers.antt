use Rattle.runs.proofs.Standing.{alike}
use Rattle.runs.proofs.laws.runs_are_determined.Goals as goal

pub returns-clause-alike : goal.returns-clause-alike
returns-clause-alike c = alike
