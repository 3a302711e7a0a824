use Rattle.std.proofs.Common.{map, subst}
use Rattle.lp_places.specs.Places.{unshadowed}
use Rattle.lp_places.specs.Stands.{as_lying}
use Rattle.lp_places.specs.Table.{IsTable}
use Rattle.lp_places.proofs.PlaceLemmas.{chains-fewer, fewer-unshadowed, outside-fewer, same-less, unshadowed_as}
use Rattle.lp_places.proofs.places.Places.unshadow.Goals as goal

pub returns : goal.returns
returns c = λ places shadows st.
    let fewer = fewer-unshadowed shadows c.args.by in
    record {
      lyings = st.lyings;
      shadowings = subst (IsTable c.leave.new.self) (unshadowed_as shadows c.args.by) (c.leave.ensures (map as_lying shadows) st.shadowings);
      forest = st.forest;
      chains = chains-fewer shadows (unshadowed shadows c.args.by) fewer st.chains;
      outside = outside-fewer places places shadows (unshadowed shadows c.args.by) (same-less places) fewer st.outside;
    }
