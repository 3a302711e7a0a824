use Rattle.std.proofs.Common.{subst, sym}
use Rattle.std.specs.Prelude.{Ok}
use Rattle.lp_parser.specs.Machine.{step}
use Rattle.lp_parser.specs.Moves.{Moves, state_of}
use Rattle.lp_parser.specs.View.{before_of}
use Rattle.lp_parser.proofs.machine.step.Goals as goal

pub returns-in-NeedPath : goal.returns-in-NeedPath
returns-in-NeedPath c =
    let b = before_of c.args.before.now in
    subst (λ f. Moves (step (state_of f b) c.args.seen) b (Ok c.need_path.result)) (sym c.in-NeedPath.is) (c.need_path.ensures b)

pub returns-in-Modified : goal.returns-in-Modified
returns-in-Modified c =
    let b = before_of c.args.before.now in
    subst (λ f. Moves (step (state_of f b) c.args.seen) b c.modified.result) (sym c.in-Modified.is) (c.modified.ensures b)

pub returns-in-NeedOpen : goal.returns-in-NeedOpen
returns-in-NeedOpen c =
    let b = before_of c.args.before.now in
    subst (λ f. Moves (step (state_of f b) c.args.seen) b (Ok c.need_open.result)) (sym c.in-NeedOpen.is) (c.need_open.ensures b)

pub returns-in-NeedParam : goal.returns-in-NeedParam
returns-in-NeedParam c =
    let b = before_of c.args.before.now in
    subst (λ f. Moves (step (state_of f b) c.args.seen) b c.need_param.result) (sym c.in-NeedParam.is) (c.need_param.ensures b)

pub returns-in-NextParam : goal.returns-in-NextParam
returns-in-NextParam c =
    let b = before_of c.args.before.now in
    subst (λ f. Moves (step (state_of f b) c.args.seen) b c.next_param.result) (sym c.in-NextParam.is) (c.next_param.ensures b)

pub returns-in-ParamStars : goal.returns-in-ParamStars
returns-in-ParamStars c =
    let b = before_of c.args.before.now in
    subst (λ f. Moves (step (state_of f b) c.args.seen) b c.param_stars.result) (sym c.in-ParamStars.is) (c.param_stars.ensures b)

pub returns-in-BehindParam : goal.returns-in-BehindParam
returns-in-BehindParam c =
    let b = before_of c.args.before.now in
    subst (λ f. Moves (step (state_of f b) c.args.seen) b (Ok c.behind_param.result)) (sym c.in-BehindParam.is) (c.behind_param.ensures b)
