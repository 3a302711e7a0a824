use Rattle.std.proofs.lemmas.Result.{IfOk-weaker}
use Rattle.lp_world.specs.Rows.{live_in}
use Rattle.lp_efuns.specs.Names.{name_at}
use Rattle.lp_calling.proofs.Writing.{written_is}
use Rattle.lp_calling.proofs.messages.written_text.Goals as goal

pub returns : goal.returns
returns c =
    IfOk-weaker c.text_given.result _ _
    (λ t q. λ s i h. written_is (live_in c.args.live.now.objects) (name_at c.args.live.now.names) c.args.args.now c.in_ok-v.v t c.in_ok-effect.effect c.in_ok-v.ensures.value c.in_ok-effect.ensures q s i h) c.text_given.ensures
