use Rattle.std.proofs.Common.{◌∙◌}
use Rattle.lp_targets.proofs.Memory.{brings_err, brings_more, brings_ok, program_still, stays_same}
use Rattle.lp_beginning.proofs.SeenParts.{part_more}
use Rattle.lp_beginning.proofs.parts.parts_below.Goals as goal

pub returns-in-Err-clause-brings : goal.returns-in-Err-clause-brings
returns-in-Err-clause-brings g c = brings_err (brings_more c.loop-part.invariant.brings (λ t. c.loop-part.invariant.stands) c.in-Err.ensures.brings)

pub loop-part-preserved : goal.loop-part-preserved
loop-part-preserved g c =
    let inv = c.loop-part.invariant in
    let e = c.in-Ok.ensures in
    let live = c.look_on.new.live in
    record {
      closed = e.closed;
      here = program_still c.loop-part.live live c.args.version e.brings.stays inv.here;
      truthful = e.truthful;
      brings = brings_ok (brings_more inv.brings (λ t. inv.stands) e.brings) (stays_same live);
      stands = λ programs w s. e.stands e.truthful programs w (inv.stands programs w s);
      parts = λ programs w s k. e.more.1 ∙ part_more w.versions c.args.version c.loop-part.part e.more.0 c.loop-part.found.items (inv.parts programs w s k) (e.more.2 programs w (inv.stands programs w s) k);
    }
