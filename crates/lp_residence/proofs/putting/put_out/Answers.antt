use Rattle.lp_residence.specs.declared.owner.Owner.TheVariants as owners
use Rattle.lp_residence.proofs.WentOutLemmas.{closed_after_put, stands_after_put}
use Rattle.lp_residence.proofs.putting.put_out.Goals as goal

pub returns-in-Object-clause-closed : goal.returns-in-Object-clause-closed
returns-in-Object-clause-closed g c =
    closed_after_put (owners.Object c.in-Object.ob) c.args.live.now c.put_out_object.new.live (g.W.SwapFile.content c.put_out_object.new.swap) c.put_out_object.result
    c.put_out_object.ensures.answer c.put_out_object.ensures.taken c.requires.closed

pub returns-in-Object-clause-stands : goal.returns-in-Object-clause-stands
returns-in-Object-clause-stands g c = λ is programs w h.
    stands_after_put (owners.Object c.in-Object.ob) c.args.live.now c.put_out_object.new.live (g.W.SwapFile.content c.args.swap.now) (g.W.SwapFile.content c.put_out_object.new.swap) c.put_out_object.result programs w
    c.put_out_object.ensures.answer c.put_out_object.ensures.written c.requires.closed is h

pub returns-in-Program-clause-closed : goal.returns-in-Program-clause-closed
returns-in-Program-clause-closed g c =
    closed_after_put (owners.Program c.in-Program.p) c.args.live.now c.put_out_program.new.live (g.W.SwapFile.content c.put_out_program.new.swap) c.put_out_program.result
    c.put_out_program.ensures.answer c.put_out_program.ensures.taken c.requires.closed

pub returns-in-Program-clause-stands : goal.returns-in-Program-clause-stands
returns-in-Program-clause-stands g c = λ is programs w h.
    stands_after_put (owners.Program c.in-Program.p) c.args.live.now c.put_out_program.new.live (g.W.SwapFile.content c.args.swap.now) (g.W.SwapFile.content c.put_out_program.new.swap) c.put_out_program.result programs w
    c.put_out_program.ensures.answer c.put_out_program.ensures.written c.requires.closed is h
