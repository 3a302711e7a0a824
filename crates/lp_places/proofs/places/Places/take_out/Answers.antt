use Rattle.std.proofs.Common.{map, subst}
use Rattle.lp_places.specs.Places.{places_without, shadows_without}
use Rattle.lp_places.specs.Stands.{as_lying}
use Rattle.lp_places.specs.Table.{IsTable}
use Rattle.lp_places.proofs.PlaceLemmas.{chains-fewer, fewer-shadows_without, forest-less, less-places_without, outside-fewer, shadows_without_as}
use Rattle.lp_places.proofs.places.Places.take_out.Goals as goal

pub returns : goal.returns
returns c = λ places shadows st.
    let less = less-places_without places c.args.ob st.lyings.once in
    let fewer = fewer-shadows_without shadows c.args.ob st.shadowings.once in
    record {
      lyings = c.take_out.ensures places st.lyings;
      shadowings = subst (IsTable c.take_out-2.new.self) (shadows_without_as shadows c.args.ob) (c.take_out-2.ensures (map as_lying shadows) st.shadowings);
      forest = forest-less places (places_without places c.args.ob) less st.forest;
      chains = chains-fewer shadows (shadows_without shadows c.args.ob) fewer st.chains;
      outside = outside-fewer places (places_without places c.args.ob) shadows (shadows_without shadows c.args.ob) less fewer st.outside;
    }
