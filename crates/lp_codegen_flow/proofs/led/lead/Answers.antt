use Rattle.std.proofs.Common.{refl, arith}
use Rattle.lp_codegen_flow.proofs.Leading.{led_none, led_more, led_all}
use Rattle.lp_codegen_flow.proofs.led.lead.Goals as goal

pub loop-k-init : goal.loop-k-init
loop-k-init c = led_none c.args.from c.args.from c.args.out c.args.again c.args.code.now.items refl

pub loop-k-preserved : goal.loop-k-preserved
loop-k-preserved c =
    let long = c.loop-k.invariant.as_long in
    let all = c.args.code.now.ok.0 in
    led_more c.args.from c.loop-k.k c.args.out c.args.again _ _ c.index.result.now c.led.result c.loop-k.auto.k (omega (arith, c.len-k-end.ensures)) c.index.ensures c.led.ensures c.loop-k.invariant

pub returns : goal.returns
returns c =
    let all = c.args.code.now.ok.0 in
    led_all c.args.from c.loop-k.k c.args.out c.args.again _ _ (omega (arith, c.len-k-end.ensures)) c.loop-k.invariant
