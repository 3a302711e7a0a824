use Rattle.std.proofs.Common.{sym, subst, Err}
use Rattle.lp_preproc.specs.State.{Goes}
use Rattle.lp_preproc.specs.Expansion.{LeadsTo, Whole}
use Rattle.lp_preproc.specs.Steps.{Expanding, whole_of}
use Rattle.lp_preproc.proofs.Leading.{expanding_failed}
use Rattle.lp_preproc.proofs.compiled.expand_tokens.Goals as goal

pub returns-in_ok-done-in-Ok : goal.returns-in_ok-done-in-Ok
returns-in_ok-done-in-Ok c = λ c' i e.
    (whole_of c.run.new.expander, subst (λ s. LeadsTo c' (Goes s) (Whole (whole_of c.run.new.expander))) (c.in_ok-expander.ensures c' e) (c.in-Ok.ensures c' i), sym c.in_ok-done-in-Ok.ensures.out, sym c.in_ok-done-in-Ok.ensures.pragmas)

pub returns-in-Err : goal.returns-in-Err
returns-in-Err c = λ c' i e. subst (λ s. Expanding c' (Goes s) (Err c.in-Err.stop)) (c.in_ok-expander.ensures c' e) (expanding_failed c' _ c.in-Err.stop (whole_of c.run.new.expander) (c.in-Err.ensures c' i))
