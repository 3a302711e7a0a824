use Rattle.std.proofs.Common.{refl}
use Rattle.std.proofs.lemmas.Result.{IfOk-weaker}
use Rattle.std.specs.Option.{option_map}
use Rattle.std.specs.Prelude.{string_bytes}
use Rattle.lp_calling.specs.declared.job.Stage.TheVariants as stages
use Rattle.lp_saving.proofs.Kept.{fit_below, job_kept}
use Rattle.lp_saving.proofs.keeping.keep.Goals as goal

pub returns-clause-keeps : goal.returns-clause-keeps
returns-clause-keeps g c = λ t.
    let a = c.args in
    let k = c.keep_deed in
    IfOk-weaker c.keep_deed.result _ _
    (λ r h. job_kept r a.job.now (stages.File c.in-File.deed c.in-File.path) c.in-File.deed (option_map string_bytes c.in-File.path) (g.W.SwapFile.content a.swap.now) a.live.now c.keep_deed.new.live a.stack.now.items c.keep_deed.new.stack.items a.budget.now c.keep_deed.new.budget c.in-File.is (λ own by s. refl) h) (c.keep_deed.ensures.keeps t)

pub returns-clause-fit : goal.returns-clause-fit
returns-clause-fit g c =
    fit_below c.keep_deed.result c.args.live.now c.keep_deed.new.live c.args.stack.now.items c.keep_deed.new.stack.items c.args.job.now.low c.keep_deed.ensures.items c.keep_deed.ensures.closed c.requires.fit c.keep_deed.ensures.stay
