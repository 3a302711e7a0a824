use Rattle.std.proofs.Common.{◌≡◌, not, sym, ap, ◌∙◌}
use Rattle.std.specs.List.{list_any}
use Rattle.lp_values.specs.Read.{as_read, same}
use Rattle.lp_values.specs.declared.value.Value.{Value}
use Rattle.lp_ops.proofs.ListLemmas.{kept_more}
use Rattle.lp_ops.proofs.list.items_without.Goals as goal

pub loop-x-preserved : goal.loop-x-preserved
loop-x-preserved g c =
    let h : c.has_read-is_gone.result ≡ list_any (same (g.L.Living.live c.args.live.now) c.x-item.result) c.args.second.now = c.has_read-is_gone.ensures ∙ c.in_ok-gone.ensures (as_read (g.L.Living.live c.args.live.now) c.x-item.result) in
    kept_more (λ (v : Value). not (list_any (same (g.L.Living.live c.args.live.now) v) c.args.second.now)) c.args.first.now c.loop-x.x-index c.x-item.result (not c.has_read-is_gone.result) c.loop-x.kept.items c.keep.new.kept.items c.loop-x-test.true c.x-item.is (ap not (sym h)) c.loop-x.invariant c.in_ok-keep.ensures
