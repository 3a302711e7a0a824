use Rattle.std.proofs.Common.{◌∙◌, sym}
use Rattle.lp_world.specs.Rows.{live_in}
use Rattle.lp_efuns.proofs.Enabled.{row_there}
use Rattle.lp_calling.proofs.Loading.{dead_takes, live_takes}
use Rattle.lp_calling.proofs.feed.call_in.Goals as goal

pub returns-then-not-is_live-clause-takes : goal.returns-then-not-is_live-clause-takes
returns-then-not-is_live-clause-takes c = λ name low stack. dead_takes name c.args.function c.args.o (live_in c.args.objects.now) low stack (sym c.is_live.ensures ∙ c.if-not-is_live.true)

pub returns-clause-takes : goal.returns-clause-takes
returns-clause-takes c = λ name low stack. live_takes name c.args.function c.args.o (live_in c.args.objects.now) low stack (sym c.is_live.ensures ∙ c.if-not-is_live.false)

pub returns-clause-ready : goal.returns-clause-ready
returns-clause-ready c = row_there c.args.objects.now c.args.o (sym c.is_live.ensures ∙ c.if-not-is_live.false)
