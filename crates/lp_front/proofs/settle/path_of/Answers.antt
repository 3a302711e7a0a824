use Rattle.std.proofs.Common.{◌≡◌, ◌∙◌, ◌-◌, Bool, false, ap, sym, take, length, if◌then◌else◌}
use Rattle.std.specs.Prelude.{codes}
use Rattle.std.proofs.lemmas.Result.{IfOk-weaker}
use Rattle.std.proofs.lemmas.Str.Pattern.{ends_text}
use Rattle.lp_front.specs.Settling.{path_of}
use Rattle.lp_front.proofs.settle.path_of.Goals as goal

pub returns-in-None : goal.returns-in-None
returns-in-None c =
    let stays : path_of c.args.file.now ≡ c.args.file.now = ap (λ (b : Bool). if b then take (length c.args.file.now - 2) c.args.file.now else c.args.file.now) (sym (ends_text false (codes ".c") c.args.file.now c.in-None.ensures.cases)) in
    IfOk-weaker c.from_str-in-None.result _ _ (λ p h. h ∙ sym stays) c.from_str-in-None.ensures
