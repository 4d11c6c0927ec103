-- The listed tickets, computed.
use Rattle.std.proofs.Common.{refl}
use Rattle.job.specs.Tickets.{TicketsAreAsListed}

pub tickets_tried : TicketsAreAsListed
tickets_tried = refl
