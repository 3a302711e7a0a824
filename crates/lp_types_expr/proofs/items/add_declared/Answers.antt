use Rattle.std.proofs.Common.{ℕ, List, Some, None, ap, ◌∙◌}
use Rattle.std.specs.Prelude.{if◌then◌else◌}
use Rattle.lp_instr.specs.EfunList.{is_name}
use Rattle.lp_types_expr.specs.NameMaps.{named}
use Rattle.lp_types_expr.specs.Signatures.{or_else}
use Rattle.lp_types_expr.proofs.Declaring.{later_first, declared_in, declareds_snoc}
use Rattle.lp_types_expr.proofs.items.add_declared.Goals as goal

pub loop-one-preserved : goal.loop-one-preserved
loop-one-preserved c = λ w.
    later_first (declared_in c.args.base) (declareds_snoc c.args.base) c.args.ones.now c.loop-one.one-index c.one-item.result c.loop-one-test.true c.one-item.is (named c.args.kinds.now) (named c.loop-one.kinds) (named c.put.new.map) c.loop-one.invariant
    (λ v. c.in_ok-put.ensures.ok v ∙ ap (λ (n : List ℕ). or_else (if is_name v n then Some (record { base = c.args.base; stars = c.one-item.result.stars }) else None) (named c.loop-one.kinds v)) c.as_slice.ensures) w
