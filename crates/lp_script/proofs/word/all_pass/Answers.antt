use Rattle.std.proofs.Common.{ap, sym, ◌∙◌, Bool}
use Rattle.std.specs.List.{list_all}
use Rattle.lp_script.specs.Reading.{passes}
use Rattle.lp_script.proofs.Sorts.{all_pass}
use Rattle.lp_script.proofs.word.all_pass.Goals as goal

pub returns-then-not-line : goal.returns-then-not-line
returns-then-not-line c = sym (ap (λ (b : Bool). list_all (passes b) c.args.bytes.now) c.if-not-line.true ∙ all_pass c.args.bytes.now)
