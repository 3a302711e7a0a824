use Rattle.std.proofs.Common.{◌≡◌, ◌∙◌, subst, sym, Some, None}
use Rattle.lp_language.specs.Operations.{cells_of, living}
use Rattle.lp_world.specs.Stands.{Stands}
use Rattle.lp_efuns.proofs.Enabled.{row_there}
use Rattle.lp_efuns.proofs.Looking.{subject_same}
use Rattle.lp_efuns.specs.Deeds.{IsDone, efun_done}
use Rattle.lp_efuns.specs.Turns.{At}
use Rattle.lp_instr.specs.declared.efun.Efun.TheVariants as efuns
use Rattle.lp_object_efuns.proofs.Acting.{at_after, done_refused, done_value}
use Rattle.lp_object_efuns.proofs.exists.did.Goals as goal

pub program_found-requires-clause-there : goal.program_found-requires-clause-there
program_found-requires-clause-there g c = row_there c.args.live.now.objects c.in-Some.ob c.in-Some.ensures.live

pub returns-in-Ok-clause-does : goal.returns-in-Ok-clause-does
returns-in-Ok-clause-does g c = λ t k turn b d s q sc h w.
    let told : g.W.SwapFile.content c.program_found.new.swap ≡ k.told = c.in-Ok.ensures.brings.kept ∙ sym q in
    done_value (At k c.program_found.new.live turn b) d s c.args.args.now c.in-Some.ob c.text_at.result.now c.in-Ok.v
    (subject_same k c.args.live.now turn b s c.args.caller.now d c.args.args.now 1 (Some c.in-Some.ob) h sc c.in-Some.ensures.value)
    (c.text_at.ensures (living s) (cells_of s))
    (c.in-Ok.ensures.found t k.programs s.world w)
    (at_after k c.args.live.now c.program_found.new.live turn b s c.in-Ok.ensures.brings.stays (subst (λ z. Stands z k.programs c.program_found.new.live s.world) told (c.in-Ok.ensures.stands t k.programs s.world w.stands)) h)

pub returns-in-Ok-clause-there : goal.returns-in-Ok-clause-there
returns-in-Ok-clause-there g c = c.in-Ok.ensures.there c.program_found.new.live.cells

pub returns-in-Ok-no_object-clause-does : goal.returns-in-Ok-no_object-clause-does
returns-in-Ok-no_object-clause-does g c = λ t k turn b d s q sc h w.
    subst (λ x. IsDone x (At k c.args.live.now turn b) (efun_done efuns.FunctionExists d s c.args.args.now)) (sym c.in-Ok-no_object.ensures)
    (done_refused (At k c.args.live.now turn b) d s c.args.args.now (subject_same k c.args.live.now turn b s c.args.caller.now d c.args.args.now 1 None h sc c.in-None.ensures.value) h)
