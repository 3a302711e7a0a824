use Rattle.lp_targets.proofs.Memory.{brings_err, brings_more, brings_no_memory, brings_ok, callee_room, callee_still, stays_more, stays_same, variables_still}
use Rattle.lp_targets.proofs.Worlds.{at_home, program_is}
use Rattle.lp_targets.proofs.bringing.bring_in.Goals as goal

pub returns-in-Ok-share_program-clause-brings : goal.returns-in-Ok-share_program-clause-brings
returns-in-Ok-share_program-clause-brings g c = brings_ok (brings_more c.in-Ok.ensures.brings c.in-Ok.ensures.stands c.in-Ok-bring_program.ensures.brings) (stays_same c.bring_program.new.live)

pub returns-in-Err-share_program-clause-brings : goal.returns-in-Err-share_program-clause-brings
returns-in-Err-share_program-clause-brings g c = brings_no_memory (brings_more c.in-Ok.ensures.brings c.in-Ok.ensures.stands c.in-Ok-bring_program.ensures.brings)

pub returns-in-Err-bring_program-clause-brings : goal.returns-in-Err-bring_program-clause-brings
returns-in-Err-bring_program-clause-brings g c = brings_err (brings_more c.in-Ok.ensures.brings c.in-Ok.ensures.stands c.in-Err-bring_program.ensures.brings)

pub returns-in-Ok-share_program-clause-room : goal.returns-in-Ok-share_program-clause-room
returns-in-Ok-share_program-clause-room g c =
    let stays = stays_more c.args.live.now c.bring_both.new.live c.bring_program.new.live c.in-Ok.ensures.brings.stays c.in-Ok-bring_program.ensures.brings.stays in
    callee_room c.bring_program.new.live c.args.callee c.in-Ok-share_program.code c.in-Ok-bring_program.ensures.closed (callee_still c.args.live.now c.bring_program.new.live c.args.callee stays c.requires.callee) c.in-Ok-share_program.ensures

pub returns-in-Ok-share_program-clause-code : goal.returns-in-Ok-share_program-clause-code
returns-in-Ok-share_program-clause-code g c = λ t programs w s.
    program_is (g.W.SwapFile.content c.bring_program.new.swap) programs c.bring_program.new.live w c.args.callee.program c.in-Ok-share_program.code
    (c.in-Ok-bring_program.ensures.stands t programs w (c.in-Ok.ensures.stands (c.in-Ok-bring_program.ensures.brings.truthful t) programs w s)) c.in-Ok-share_program.ensures

pub returns-in-Ok-share_program-clause-home : goal.returns-in-Ok-share_program-clause-home
returns-in-Ok-share_program-clause-home g c = λ t programs w o f h is.
    let told = g.W.SwapFile.content c.bring_program.new.swap in
    let live = c.bring_program.new.live in
    let stands = c.in-Ok-bring_program.ensures.stands t programs w (c.in-Ok.ensures.stands (c.in-Ok-bring_program.ensures.brings.truthful t) programs w h.stands) in
    at_home told programs live w c.args.callee o f c.in-Ok-share_program.code (record { stands = stands; compiled = h.compiled; shadows = h.shadows }) c.in-Ok-bring_program.ensures.closed is
    (variables_still c.bring_both.new.live live c.args.callee.this c.in-Ok-bring_program.ensures.brings.stays c.in-Ok.ensures.here)
    (program_is told programs live w c.args.callee.program c.in-Ok-share_program.code stands c.in-Ok-share_program.ensures)
