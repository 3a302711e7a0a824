use Rattle.std.proofs.Common.{drop, subst, sym}
use Rattle.lp_instr.specs.declared.efun.Efun.TheVariants as efuns
use Rattle.lp_calling.specs.Beginning.{Starts}
use Rattle.lp_calling.proofs.Writing.{Printed, no_printf_starts, printf_starts}
use Rattle.lp_calling.proofs.messages.begin_printf.Goals as goal

pub returns-in-Ok-clause-starts : goal.returns-in-Ok-clause-starts
returns-in-Ok-clause-starts c = λ caller.
    let a = c.args in
    printf_starts caller a.live.now a.low a.stack.now.items c.in-Ok.text c.requires.low
    (subst (λ r. Printed a.live.now (drop a.low a.stack.now.items) r) c.in-Ok.is (subst (λ ws. Printed a.live.now ws c.in_ok-text.field-0) c.above.ensures c.in_ok-text.ensures))

pub returns-in-Err-clause-starts : goal.returns-in-Err-clause-starts
returns-in-Err-clause-starts c = λ caller.
    let a = c.args in
    subst (λ r. Starts r efuns.Printf caller a.live.now a.low a.stack.now.items c.begin_end.new.stack.items) (sym c.begin_end.ensures.answer)
    (no_printf_starts caller a.live.now a.low a.stack.now.items c.begin_end.new.stack.items c.in-Err.e c.begin_end.ensures.stack
    (subst (λ r. Printed a.live.now (drop a.low a.stack.now.items) r) c.in-Err.is (subst (λ ws. Printed a.live.now ws c.in_ok-text.field-0) c.above.ensures c.in_ok-text.ensures)))
