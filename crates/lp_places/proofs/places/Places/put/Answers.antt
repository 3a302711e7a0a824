use Rattle.std.proofs.Common.{◌≡◌, ap, sym, false, is_some, ◌∙◌}
use Rattle.std.proofs.lemmas.Bool.{cond-true, cond-false}
use Rattle.lp_places.specs.Places.{is_inside, shadowing}
use Rattle.lp_places.proofs.PlaceLemmas.{forest-moved, none_from, outside-moved}
use Rattle.lp_places.proofs.places.Places.put.Goals as goal

pub returns-then-is_some-clause-refused : goal.returns-then-is_some-clause-refused
returns-then-is_some-clause-refused c = λ places shadows st. record {
  reason = cond-true _ _ _ (ap is_some (sym (c.shadowing.ensures places shadows st)) ∙ sym c.is_some.ensures ∙ c.if-is_some.true);
  after = st;
}

pub returns-then-is_inside-clause-refused : goal.returns-then-is_inside-clause-refused
returns-then-is_inside-clause-refused c = λ places shadows st.
    let real : is_some (shadowing shadows c.args.item) ≡ false = ap is_some (sym (c.shadowing.ensures places shadows st)) ∙ sym c.is_some.ensures ∙ c.if-is_some.false in
    record {
      reason = cond-false _ _ _ real ∙ cond-true _ _ _ (sym (c.is_inside.ensures places st.lyings) ∙ c.if-is_inside.true);
      after = st;
    }

pub returns-in-Err-clause-refused : goal.returns-in-Err-clause-refused
returns-in-Err-clause-refused c = λ places shadows st.
    let real : is_some (shadowing shadows c.args.item) ≡ false = ap is_some (sym (c.shadowing.ensures places shadows st)) ∙ sym c.is_some.ensures ∙ c.if-is_some.false in
    let out : is_inside places c.args.dest c.args.item ≡ false = sym (c.is_inside.ensures places st.lyings) ∙ c.if-is_inside.false in
    record {
      reason = cond-false _ _ _ real ∙ cond-false _ _ _ out;
      after = record { lyings = c.in-Err.ensures.err places st.lyings; shadowings = st.shadowings; forest = st.forest; chains = st.chains; outside = st.outside };
    }

pub returns-in-Ok-clause-moved : goal.returns-in-Ok-clause-moved
returns-in-Ok-clause-moved c = λ places shadows st.
    let real : is_some (shadowing shadows c.args.item) ≡ false = ap is_some (sym (c.shadowing.ensures places shadows st)) ∙ sym c.is_some.ensures ∙ c.if-is_some.false in
    let out : is_inside places c.args.dest c.args.item ≡ false = sym (c.is_inside.ensures places st.lyings) ∙ c.if-is_inside.false in
    record {
      may = cond-false _ _ _ real ∙ cond-false _ _ _ out;
      after = record {
        lyings = c.in-Ok.ensures.ok places st.lyings;
        shadowings = st.shadowings;
        forest = forest-moved places c.args.item c.args.dest st.lyings.once st.forest out;
        chains = st.chains;
        outside = outside-moved places shadows c.args.item c.args.dest st.outside (none_from _ real);
      };
    }
