use Rattle.std.proofs.Common.{◌≡◌, ◌∙◌, ◌-◌, ap, length, map, rules, subst, sym}
use Rattle.lp_ops.specs.Operands.{operand}
use Rattle.lp_meaning.specs.EfunArguments.{text_arg}
use Rattle.lp_calling.specs.declared.job.Begun.TheVariants as begun
use Rattle.lp_calling.specs.declared.job.Stage.TheVariants as stages
use Rattle.lp_calling.specs.Beginning.{Starts}
use Rattle.lp_calling.specs.Jobs.{round_efun}
use Rattle.lp_calling.proofs.Rounds.{round_starts}
use Rattle.lp_calling.proofs.items.begin_round.Goals as goal

pub returns-clause-starts : goal.returns-clause-starts
returns-clause-starts c = λ caller ob.
    let a = c.args in
    let size : c.len.result - a.low ≡ length a.stack.now.items - a.low = search rules in
    subst (λ e. Starts (begun.Runs (record { efun = e; low = a.low; stage = stages.Items (record { object = a.o; function = c.in_ok-function.function; arguments = c.len.result - a.low; count = c.in_ok-count.count; done = 0; is_filter = a.is_filter }) }))
    (round_efun a.is_filter) caller a.live.now a.low a.stack.now.items c.lay_items.new.stack.items) (sym c.efun_of.ensures)
    (round_starts a.is_filter caller a.live.now a.low a.stack.now.items c.lay_items.new.stack.items a.o c.in_ok-function.function (c.len.result - a.low) c.in_ok-count.count c.requires.low size c.requires.fit
    (λ l cells. c.in_ok-function.ensures l cells ∙ ap (λ ws. text_arg (map (operand l cells) ws) 1) c.above.ensures) c.in_ok-count.ensures.items c.in_ok-count.ensures.count ob)

pub returns-clause-fit : goal.returns-clause-fit
returns-clause-fit c = record { closed = c.requires.fit.closed; there = c.in_ok-count.ensures.there }
