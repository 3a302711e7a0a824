use Rattle.std.proofs.Common.{◌∙◌, ap, sym}
use Rattle.lp_meaning.specs.FileLoads.{nested_in}
use Rattle.lp_loading.specs.Loads.{kind_of, loads_of}
use Rattle.lp_loading.proofs.Paying.{if_some, nested_is}
use Rattle.lp_loading.proofs.begin.nested_of.Goals as goal

pub returns-in-Inherited : goal.returns-in-Inherited
returns-in-Inherited c =
    if_some c.nested_behind.result _ _ (λ n e. e ∙ nested_is c.args.loads.now ∙ ap (λ p. nested_in (kind_of p) (loads_of c.args.loads.now)) (sym c.in-Inherited.is)) c.nested_behind.ensures
