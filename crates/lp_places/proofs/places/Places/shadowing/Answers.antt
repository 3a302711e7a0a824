use Rattle.std.proofs.Common.{map, ◌∙◌}
use Rattle.lp_places.specs.Stands.{as_lying}
use Rattle.lp_places.proofs.PlaceLemmas.{shadowing_as}
use Rattle.lp_places.proofs.places.Places.shadowing.Goals as goal

pub returns : goal.returns
returns c = λ places shadows st. c.target.ensures (map as_lying shadows) st.shadowings ∙ shadowing_as shadows c.args.ob
