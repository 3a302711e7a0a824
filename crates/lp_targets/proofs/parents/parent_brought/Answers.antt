use Rattle.std.proofs.Common.{◌∙◌}
use Rattle.lp_targets.specs.Callees.{IsWorldOf}
use Rattle.lp_targets.proofs.Memory.{brings_err, brings_ok, program_still, stays_same}
use Rattle.lp_targets.proofs.parents.parent_brought.Goals as goal

pub returns-in-Ok-clause-brings : goal.returns-in-Ok-clause-brings
returns-in-Ok-clause-brings g c = brings_ok c.in-Ok.ensures.brings (stays_same c.bring_program.new.live)

pub returns-in-Err-clause-brings : goal.returns-in-Err-clause-brings
returns-in-Err-clause-brings g c = brings_err c.in-Err.ensures.brings

pub returns-in-Ok-clause-found : goal.returns-in-Ok-clause-found
returns-in-Ok-clause-found g c = λ t programs w o name h e p listed who named.
    let live = c.bring_program.new.live in
    let told = g.W.SwapFile.content c.bring_program.new.swap in
    let stays = c.in-Ok.ensures.brings.stays in
    let y = stays.objects c.args.this.0 o e in
    let world : IsWorldOf told programs live w = record { stands = c.in-Ok.ensures.stands t programs w h.stands; compiled = h.compiled; shadows = h.shadows } in
    c.parent_in.ensures.found told programs w y.0 name world c.in-Ok.ensures.closed y.1 (y.2.program ∙ p) (program_still c.args.live.now live c.args.version stays c.requires.here) c.in-Ok.ensures.here listed who named
