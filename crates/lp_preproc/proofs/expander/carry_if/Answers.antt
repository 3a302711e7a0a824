use Rattle.std.proofs.Common.{Bool, List, ap, sym, ◌∙◌, ◌∷◌}
use Rattle.lp_preproc.specs.Tables.{macros_in}
use Rattle.lp_preproc.specs.State.{State, Open, Next, Goes}
use Rattle.lp_preproc.specs.Directives.{begun, with_groups}
use Rattle.lp_preproc.specs.Steps.{beside, grouped, state_of}
use Rattle.lp_preproc.proofs.Leading.{branch_failed, branch_went}
use Rattle.lp_preproc.proofs.expander.carry_if.Goals as goal

pub returns-in_ok-push-in-Ok-2 : goal.returns-in_ok-push-in-Ok-2
returns-in_ok-push-in-Ok-2 c = λ c' i.
    let e = c.args.expander.now in
    let k = beside (c.args.source ∷ e.files) e.pragmas in
    let f : State → Bool → Next = λ s b. with_groups s (begun b ∷ c.args.source.groups) in
    let back : List Open → Next = λ fs. Goes (state_of c.holds.new.reader (macros_in e.table) (beside fs e.pragmas)) in
    branch_went c' _ _ (f (state_of c.holds.new.reader (macros_in e.table) k)) c.in-Ok.holds (c.in-Ok.ensures c' i k f)
    (ap back (sym (c.in_ok-push-in-Ok-2.ensures.ok ∙ ap (λ gs. grouped c.args.source gs ∷ e.files) (c.in_ok-push-in-Ok.ensures.ok ∙ ap (λ g. g ∷ c.args.source.groups) c.begun.ensures))))

pub returns-in-Err : goal.returns-in-Err
returns-in-Err c = λ c' i.
    let e = c.args.expander.now in
    branch_failed c' _ c.in-Err.stop _ _ (c.in-Err.ensures c' i (beside (c.args.source ∷ e.files) e.pragmas) (λ (s : State) b. with_groups s (begun b ∷ c.args.source.groups)))
