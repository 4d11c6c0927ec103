use Rattle.job.proofs.Deleted.{cancelling_orders_nothing}
use Rattle.job.proofs.laws.cancelling_orders_nothing.Goals as goal

pub returns : goal.returns
returns c = cancelling_orders_nothing
