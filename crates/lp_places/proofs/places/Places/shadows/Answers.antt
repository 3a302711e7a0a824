use Rattle.std.proofs.Common.{map, ◌∙◌}
use Rattle.lp_places.specs.Stands.{as_lying}
use Rattle.lp_places.proofs.PlaceLemmas.{shadows_of_as}
use Rattle.lp_places.proofs.places.Places.shadows.Goals as goal

pub returns : goal.returns
returns c = λ places shadows st. c.sources.ensures.is (map as_lying shadows) st.shadowings ∙ shadows_of_as shadows c.args.ob
