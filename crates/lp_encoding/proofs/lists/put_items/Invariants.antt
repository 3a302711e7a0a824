use Rattle.std.proofs.Common.{◌≡◌, ◌++◌, take, All}
use Rattle.std.specs.List.{flat_map}
use Rattle.lp_encoding.proofs.lists.put_items.Given as goal

abbrev pub invariant-loop-item : goal.invariant-loop-item
invariant-loop-item g l = record { spelled : l.out.items ≡ l.fn.out.items ++ flat_map g.T.Coded.form.spelled (take l.item-index l.items); fits : All g.T.Coded.form.Fits (take l.item-index l.items) }
