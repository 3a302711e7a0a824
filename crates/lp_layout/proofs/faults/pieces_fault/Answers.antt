use Rattle.std.proofs.Common.{sym, ◌∙◌}
use Rattle.lp_layout.specs.LayoutFaults.{call_guilt, limits}
use Rattle.lp_layout.proofs.FirstFaults.{piece_here, piece_next}
use Rattle.lp_layout.proofs.faults.pieces_fault.Goals as goal

pub returns-in-Some : goal.returns-in-Some
returns-in-Some c =
    let f = call_guilt limits c.args.parents.now in
    sym (c.loop-i.invariant ∙ piece_here f c.args.pieces.now c.loop-i.i c.index-pieces-i.result c.in-Some.fault c.loop-i-test.true c.index-pieces-i.is (sym c.in_ok-fault.ensures ∙ c.in-Some.is))

pub loop-i-preserved : goal.loop-i-preserved
loop-i-preserved c =
    let f = call_guilt limits c.args.parents.now in
    c.loop-i.invariant ∙ piece_next f c.args.pieces.now c.loop-i.i c.index-pieces-i.result c.loop-i-test.true c.index-pieces-i.is (sym c.in_ok-fault.ensures ∙ c.in-None.is)
