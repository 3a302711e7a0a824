use Rattle.std.proofs.Common.{◌∙◌, ap, inl, inr, refl, sym}
use Rattle.lp_meaning.specs.FileLoads.{is_under_way}
use Rattle.lp_loading.specs.Loads.{loads_of}
use Rattle.lp_loading.proofs.SeenNames.{if_ok}
use Rattle.lp_loading.proofs.lines.go_missing.Goals as goal

pub returns-then-is_under_way-clause-goes : goal.returns-then-is_under_way-clause-goes
returns-then-is_under_way-clause-goes c =
    if_ok c.end_missing.result _ _
    (λ r f. λ told0 live0 told1 budget turn h.
    f c.args.job.now c.args.loads.now told0 live0 told1 budget turn (sym c.as_slice-own.ensures) h
    (record {
      name = c.in_ok-name.name;
      file_is = c.in_ok-name.ensures.file;
      why = inl (refl, ap (λ x. is_under_way x (loads_of c.args.loads.now)) (sym c.as_slice.ensures) ∙ sym c.is_under_way.ensures ∙ c.if-is_under_way.true);
    })) c.end_missing.ensures.goes

pub returns-then-is_too_deep-clause-goes : goal.returns-then-is_too_deep-clause-goes
returns-then-is_too_deep-clause-goes c =
    if_ok c.end_missing-then-is_too_deep.result _ _
    (λ r f. λ told0 live0 told1 budget turn h.
    f c.args.job.now c.args.loads.now told0 live0 told1 budget turn (sym c.as_slice-own.ensures) h
    (record {
      name = c.in_ok-name.name;
      file_is = c.in_ok-name.ensures.file;
      why = inr
          (refl, ap (λ x. is_under_way x (loads_of c.args.loads.now)) (sym c.as_slice.ensures) ∙ sym c.is_under_way.ensures ∙ c.if-is_under_way.false, sym c.is_too_deep.ensures ∙ c.if-is_too_deep.true);
    })) c.end_missing-then-is_too_deep.ensures.goes

pub returns-clause-goes : goal.returns-clause-goes
returns-clause-goes c =
    λ told0 live0 told1 budget turn h.
    c.in_ok-ask_missing.ensures.goes c.args.file.now c.args.job.now c.args.loads.now told0 live0 told1 c.args.live.now budget turn h c.in_ok-name.ensures.file
    (ap (λ x. is_under_way x (loads_of c.args.loads.now)) (sym c.as_slice.ensures) ∙ sym c.is_under_way.ensures ∙ c.if-is_under_way.false) (sym c.is_too_deep.ensures ∙ c.if-is_too_deep.false)
