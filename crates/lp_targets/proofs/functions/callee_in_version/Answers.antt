use Rattle.std.proofs.Common.{◌≡◌, ◌∙◌, Some, ap, sym, subst}
use Rattle.lp_code.specs.declared.program.RawProgram.{RawProgram}
use Rattle.lp_world.specs.Closed.{IsFunctionThere}
use Rattle.lp_targets.proofs.Lookups.{if_some_at, one_some}
use Rattle.lp_targets.proofs.Worlds.{right_any}
use Rattle.lp_targets.proofs.functions.callee_in_version.Goals as goal

pub returns-in-Some-clause-function : goal.returns-in-Some-clause-function
returns-in-Some-clause-function c = λ q s e.
    let same : c.in-Some.whole.now ≡ q = one_some c.in-Some.whole.now q (c.in-Some.ensures ∙ e) in
    subst (λ (z : RawProgram). IsFunctionThere c.args.live.now.versions z.tables.parts c.args.f.part c.args.f.fun) (c.raw.ensures.same ∙ same) (if_some_at c.callee_at.result s c.callee_at.ensures.function)

pub returns-in-Some-clause-is : goal.returns-in-Some-clause-is
returns-in-Some-clause-is c = λ told programs w o q x h closed e p g t r.
    let same : c.in-Some.whole.now ≡ q = one_some c.in-Some.whole.now q (c.in-Some.ensures ∙ g) in
    right_any told programs c.args.live.now w c.args.this o c.args.version c.raw.result.now x (record { part = c.args.f.part; fun = c.args.f.fun }) c.callee_at.result h closed e p (g ∙ ap (λ z. Some z) (sym (c.raw.ensures.same ∙ same))) t r c.callee_at.ensures.is

pub returns-in-None-clause-is : goal.returns-in-None-clause-is
returns-in-None-clause-is c = λ told programs w o q x h closed e p g t r. let n = c.in-None.ensures ∙ g in cc
