use Rattle.std.proofs.Common.{◌++◌, ap, subst, ◌∙◌}
use Rattle.lp_code.specs.declared.program.RawProgram.{RawProgram}
use Rattle.lp_encoding.specs.Programs.{program, IsEncoding}
use Rattle.lp_encoding.proofs.program.encode.Goals as goal

pub returns : goal.returns
returns c =
    let k = c.in_ok-put.ensures in
    subst (λ (p : RawProgram). IsEncoding p c.put.new.out.items) c.raw.ensures.same (record { fits = k.fits; spelled = k.spelled ∙ ap (λ xs. xs ++ program.spelled c.raw.result.now) c.new-out.ensures.items })
