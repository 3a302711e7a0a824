use Rattle.lp_language.specs.Resolve.{function_of}
use Rattle.lp_object_efuns.proofs.Shown.{told_program}
use Rattle.lp_object_efuns.proofs.programs.program_named.Goals as goal

pub returns-in-Ok-program_value-clause-found : goal.returns-in-Ok-program_value-clause-found
returns-in-Ok-program_value-clause-found g c = λ t programs w h.
    told_program (g.W.SwapFile.content c.function_in.new.swap) programs c.function_in.new.live w c.args.ob c.in-Ok.callee (function_of w c.args.ob c.args.name.now) c.in-Ok-program_value.v
    (record { stands = c.in-Ok.ensures.stands t programs w h.stands; compiled = h.compiled; shadows = h.shadows }) (c.in-Ok.ensures.found t programs w h) c.in-Ok-program_value.ensures.value
