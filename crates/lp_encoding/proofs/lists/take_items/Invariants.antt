use Rattle.std.proofs.Common.{◌≡◌, ◌-◌}
use Rattle.lp_encoding.specs.Forms.{items_at}
use Rattle.lp_encoding.proofs.Loops.{with_front}
use Rattle.lp_encoding.proofs.lists.take_items.Given as goal

abbrev pub invariant-loop : goal.invariant-loop
invariant-loop g l = with_front l.items.items (items_at g.T.Coded.form.read (l.count - l.counter) l.reader) ≡ items_at g.T.Coded.form.read l.count l.fn.reader
