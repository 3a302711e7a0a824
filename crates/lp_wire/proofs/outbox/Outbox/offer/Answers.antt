use Rattle.std.proofs.Common.{sym}
use Rattle.lp_wire.proofs.Offers.{offered_lem, rest_lem}
use Rattle.lp_wire.proofs.Returns.{slice_from}
use Rattle.lp_wire.proofs.outbox.Outbox.offer.Goals as goal

pub returns-then-self-len-clause-offers : goal.returns-then-self-len-clause-offers
returns-then-self-len-clause-offers g c =
    offered_lem c.args.k c.self.inside.at c.send-n.result c.self.inside.bytes.items _ _ _ _ (sym c.self.view_is) (slice_from c.self.inside.at _ _ c.deref.ensures.value) c.send-n.ensures.took

pub returns-then-self-len-clause-rest : goal.returns-then-self-len-clause-rest
returns-then-self-len-clause-rest g c = rest_lem c.self.inside.at c.send-n.result c.self.inside.bytes.items _ (sym c.self.view_is)
