use Rattle.std.proofs.Common.{refl, ◌∷◌, [], subst}
use Rattle.lp_preproc.specs.Tables.{macros_in}
use Rattle.lp_preproc.specs.Macros.{no_macros}
use Rattle.lp_preproc.specs.Directives.{define}
use Rattle.lp_preproc.specs.Steps.{Does, holding}
use Rattle.lp_preproc.proofs.expander.carry.Goals as goal

pub returns-in-Ifdef : goal.returns-in-Ifdef
returns-in-Ifdef c = λ c' s os e. rw c.in-Ifdef.is (c.ifdef.ensures (holding s [] (macros_in c.args.table.now) c.args.pragmas.now) c.args.source.now os refl)

pub returns-in-Ifndef : goal.returns-in-Ifndef
returns-in-Ifndef c = λ c' s os e. rw c.in-Ifndef.is (c.ifndef.ensures (holding s [] (macros_in c.args.table.now) c.args.pragmas.now) c.args.source.now os refl)

pub returns-in-Else : goal.returns-in-Else
returns-in-Else c = λ c' s os e. rw c.in-Else.is (c.else_line.ensures (holding s [] (macros_in c.args.table.now) c.args.pragmas.now) c.args.source.now os)

pub returns-in-Endif : goal.returns-in-Endif
returns-in-Endif c = λ c' s os e. rw c.in-Endif.is (c.endif.ensures (holding s [] (macros_in c.args.table.now) c.args.pragmas.now) c.args.source.now os)

pub returns-in-Define : goal.returns-in-Define
returns-in-Define c = λ c' s os e. rw c.in-Define.is
    (subst (λ bs. Does (define (holding s (c.args.source.now ∷ os) (macros_in c.args.table.now) c.args.pragmas.now) bs c.args.rest.now c.args.line) c.define.result (holding s (c.args.source.now ∷ os) (macros_in c.define.new.table) c.args.pragmas.now)) (c.bytes_of.ensures c' e)
    (c.define.ensures (holding s (c.args.source.now ∷ os) no_macros c.args.pragmas.now)))

pub returns-in-Undef : goal.returns-in-Undef
returns-in-Undef c = λ c' s os e. rw c.in-Undef.is (c.undefine.ensures (holding s (c.args.source.now ∷ os) no_macros c.args.pragmas.now))
