use Rattle.job.proofs.Feeds.{feeds_are_line_feeds}
use Rattle.job.proofs.laws.feeds_are_line_feeds.Goals as goal

pub returns : goal.returns
returns c = feeds_are_line_feeds
