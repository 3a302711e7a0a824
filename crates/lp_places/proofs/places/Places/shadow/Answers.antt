use Rattle.std.proofs.Common.{map, subst}
use Rattle.lp_places.specs.Stands.{as_lying}
use Rattle.lp_places.specs.Table.{IsTable}
use Rattle.lp_places.proofs.PlaceLemmas.{chains-shadowed, has_leave, outside-shadowed, shadowed_as}
use Rattle.lp_places.proofs.places.Places.shadow.Goals as goal

pub returns-in-Ok-clause-shadows : goal.returns-in-Ok-clause-shadows
returns-in-Ok-clause-shadows c = λ places shadows st may.
    let leave = has_leave places shadows c.args.by c.args.ob may in
    record {
      lyings = st.lyings;
      shadowings = subst (IsTable c.join.new.self) (shadowed_as shadows c.args.by c.args.ob leave.idle) (c.in-Ok.ensures.ok (map as_lying shadows) st.shadowings);
      forest = st.forest;
      chains = chains-shadowed shadows c.args.by c.args.ob st.chains leave.apart leave.bare leave.real;
      outside = outside-shadowed places shadows c.args.by c.args.ob st.outside leave.free;
    }
