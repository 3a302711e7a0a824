use Rattle.std.proofs.Common.{Bool, Err, List, ap, sym, subst, ◌∙◌, ◌∷◌}
use Rattle.std.specs.Option.{option_copied}
use Rattle.lp_preproc.specs.declared.state.Stage.{Stage}
use Rattle.lp_preproc.specs.Tables.{macros_in}
use Rattle.lp_preproc.specs.State.{State, Open, Next, Goes, line_or}
use Rattle.lp_preproc.specs.Directives.{elif_waiting, stage_if, tested, unless_bad, with_groups}
use Rattle.lp_preproc.specs.Expansion.{fails}
use Rattle.lp_preproc.specs.Steps.{Reaches, beside, grouped, state_of, whole_of}
use Rattle.lp_preproc.proofs.Leading.{branch_failed, branch_went, failed_reaches}
use Rattle.lp_preproc.proofs.expander.evaluate_elif.Goals as goal

pub returns-in-Some : goal.returns-in-Some
returns-in-Some c = λ c' i o e.
    rw (sym c.bad_place.ensures ∙ ap option_copied c.in-Some.is)
    (rw (c.line_of.ensures ∙ ap (λ (x : Open). line_or x.included c.in-Some.bad.now.line) e) fails)

pub returns-in_ok-push-in-Ok-2 : goal.returns-in_ok-push-in-Ok-2
returns-in_ok-push-in-Ok-2 c = λ c' i o e.
    let x = c.args.expander.now in
    let gs = c.args.source.groups in
    let g = c.args.group in
    let k = beside (o ∷ x.files) x.pragmas in
    let f : State → Bool → Next = λ s b. with_groups s (record g { stage = stage_if b } ∷ gs) in
    let back : List Open → Next = λ fs. Goes (state_of c.holds.new.reader (macros_in x.table) (beside fs x.pragmas)) in
    rw (sym c.bad_place.ensures ∙ ap option_copied c.in_default.is)
    (branch_went c' _ _ (f (state_of c.holds.new.reader (macros_in x.table) k)) c.in-Ok.holds (c.in-Ok.ensures c' i k f)
    (ap back (sym (c.in_ok-push-in-Ok-2.ensures.ok
    ∙ ap (λ ps. grouped c.args.source ps ∷ x.files) (c.in_ok-push-in-Ok.ensures.ok ∙ ap (λ (t : Stage). record g { stage = t } ∷ gs) c.stage_if.ensures)
    ∙ ap (λ q. grouped q (record g { stage = stage_if c.in-Ok.holds } ∷ gs) ∷ x.files) e))))

pub returns-in-Err : goal.returns-in-Err
returns-in-Err c = λ c' i o e.
    let x = c.args.expander.now in
    let gs = c.args.source.groups in
    let g = c.args.group in
    let f : State → Bool → Next = λ s b. with_groups s (record g { stage = stage_if b } ∷ gs) in
    let s : State = record (whole_of x) { files = o ∷ x.files } in
    failed_reaches c' (elif_waiting s o.included g gs c.args.rest.now c.args.line) c.in-Err.stop (whole_of x) _
    (subst (λ b. Reaches c' (unless_bad o.included b (tested s c.args.rest.now c.args.line f)) (Err c.in-Err.stop) (whole_of x)) (sym (ap option_copied c.in_default.is) ∙ c.bad_place.ensures)
    (branch_failed c' (tested s c.args.rest.now c.args.line f) c.in-Err.stop _ (whole_of x) (c.in-Err.ensures c' i (beside (o ∷ x.files) x.pragmas) f)))
