use Rattle.std.proofs.Common.{◌≡◌, Bool, sym, ap, ◌∙◌}
use Rattle.std.specs.List.{list_any}
use Rattle.lp_values.specs.Read.{as_read, same}
use Rattle.lp_values.specs.declared.value.Value.{Value}
use Rattle.lp_ops.proofs.ListLemmas.{kept_more}
use Rattle.lp_ops.proofs.list.items_common.Goals as goal

pub loop-x-preserved : goal.loop-x-preserved
loop-x-preserved g c =
    let h : c.has_read-is_wanted.result ≡ list_any (same (g.L.Living.live c.args.live.now) c.x-item.result) c.args.second.now = c.has_read-is_wanted.ensures ∙ c.in_ok-wanted.ensures (as_read (g.L.Living.live c.args.live.now) c.x-item.result) in
    kept_more (λ (v : Value). (list_any (same (g.L.Living.live c.args.live.now) v) c.args.second.now)) c.args.first.now c.loop-x.x-index c.x-item.result (c.has_read-is_wanted.result) c.loop-x.kept.items c.keep.new.kept.items c.loop-x-test.true c.x-item.is (ap (λ (b : Bool). b) (sym h)) c.loop-x.invariant c.in_ok-keep.ensures
