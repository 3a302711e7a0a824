use Rattle.std.proofs.Common.{Some, IsSome, sym, subst}
use Rattle.lp_cells.proofs.SlotLemmas.{lookup_is, noted_from}
use Rattle.lp_cells.proofs.slots.set_place.Goals as goal

pub returns-in-Some-clause-places : goal.returns-in-Some-clause-places
returns-in-Some-clause-places c = noted_from c.args.key.now (Some c.args.s) c.args.places.now.entries _ ((c.get_mut.follows.holds c.args.s).3 (subst IsSome (sym (lookup_is c.args.key.now c.args.places.now.entries)) c.requires)).0
