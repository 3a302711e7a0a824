use Rattle.std.proofs.lemmas.Result.{err_from_is_err_and}
use Rattle.lp_encoding.specs.Forms.{items_at}
use Rattle.lp_encoding.proofs.Loops.{goes_on, refused, is_done}
use Rattle.lp_encoding.proofs.lists.take_items.Goals as goal

pub returns-in_err-take : goal.returns-in_err-take
returns-in_err-take g c =
    let p = err_from_is_err_and c.from_residual.result c.from_residual.ensures.1 in
    rw (p.1, p.2) (refused c.in_err-take.field-0.0 g.T.Coded.form.read c.loop.items.items c.args.count c.loop.counter c.loop.reader c.take.new.reader (items_at g.T.Coded.form.read c.args.count c.args.reader.now) c.loop-test.true (c.in_err-take.ensures) c.loop.invariant)

pub loop-preserved : goal.loop-preserved
loop-preserved g c =
    let k = c.in_ok-push.ensures in
    rw k.items (goes_on g.T.Coded.form.read c.loop.items.items c.args.count c.loop.counter c.loop.reader c.in_ok-take.field-0 c.take.new.reader (items_at g.T.Coded.form.read c.args.count c.args.reader.now) c.loop-test.true (c.in_ok-take.ensures) c.loop.invariant)

pub returns : goal.returns
returns g c = rw c.from_vec.ensures (is_done g.T.Coded.form.read c.loop.items.items c.args.count c.loop.counter c.loop.reader (items_at g.T.Coded.form.read c.args.count c.args.reader.now) c.loop-test.false c.loop.invariant)
