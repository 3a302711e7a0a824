use Rattle.std.proofs.Common.{◌≡◌, Some, None, map, pos, refl, rules, subst, sym}
use Rattle.std.proofs.lemmas.Result.{IfOk-weaker}
use Rattle.lp_values.specs.Errors.{plain}
use Rattle.lp_values.specs.declared.error.ErrorKind.TheVariants.{TooNested}
use Rattle.lp_values.specs.declared.value.Value.TheVariants.{Int}
use Rattle.lp_files.specs.Store.{IsWith}
use Rattle.lp_language.specs.Course.{Scene}
use Rattle.lp_meaning.specs.FileEfuns.{named_value, saving}
use Rattle.lp_save.specs.SaveText.{saved_text}
use Rattle.lp_world.specs.Rows.{live_in}
use Rattle.lp_filing.specs.Filing.{ComesWith}
use Rattle.lp_filing.specs.Rows.{saved_rows}
use Rattle.lp_filing.specs.declared.outcome.Outcome.TheVariants as outcomes
use Rattle.lp_filing.proofs.Keeping.{comes_nested, comes_saved, if_ok, some_variables}
use Rattle.lp_filing.proofs.saving.save_to.Goals as goal

pub returns-in-Ok-clause-comes : goal.returns-in-Ok-clause-comes
returns-in-Ok-clause-comes c =
    let old = c.args.live.now in
    let new = c.written.new.live in
    let v = some_variables old.objects c.args.this c.requires.variables in
    if_ok c.written.result (λ d. d ≡ outcomes.Value (Int (pos 0))) (λ d. (k : Scene) → k.this ≡ c.args.this → ComesWith c.args.code.now c.args.this (saving k (Some c.args.path.now)) old d new)
    (IsWith old.store new.store c.args.path.now (Some c.in-Ok.bytes)) c.written.ensures.value c.written.ensures.files
    (λ d e i. λ k me. subst (λ x. ComesWith c.args.code.now c.args.this (saving k (Some c.args.path.now)) old x new) (sym e)
    (comes_saved old new c.args.this c.args.code.now v.0 c.args.path.now k c.requires.closed v.1 me c.in-Ok.bytes
    (subst (λ rs. saved_text (live_in old.objects) old.cells (map (named_value v.0) (saved_rows 0 rs)) ≡ Some c.in-Ok.bytes) c.as_slice.ensures (c.in-Ok.ensures.text v.0 v.1)) c.written.ensures.others i))

pub returns-in-Err-TooNested-clause-comes : goal.returns-in-Err-TooNested-clause-comes
returns-in-Err-TooNested-clause-comes c =
    let old = c.args.live.now in
    let v = some_variables old.objects c.args.this c.requires.variables in
    let nested : saved_text (live_in old.objects) old.cells (map (named_value v.0) (saved_rows 0 c.as_slice.result.now)) ≡ None = c.in-Err-TooNested.ensures.nested (search rules) v.0 v.1 in
    IfOk-weaker c.too_nested.result (λ d. d ≡ outcomes.Error (plain TooNested)) (λ d. (k : Scene) → k.this ≡ c.args.this → ComesWith c.args.code.now c.args.this (saving k (Some c.args.path.now)) old d old)
    (λ d e. λ k me. subst (λ x. ComesWith c.args.code.now c.args.this (saving k (Some c.args.path.now)) old x old) (sym e)
    (comes_nested old old c.args.this c.args.code.now v.0 c.args.path.now k c.requires.closed v.1 me (subst (λ rs. saved_text (live_in old.objects) old.cells (map (named_value v.0) (saved_rows 0 rs)) ≡ None) c.as_slice.ensures nested) refl)) c.too_nested.ensures
