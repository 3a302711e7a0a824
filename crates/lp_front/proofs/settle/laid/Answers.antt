use Rattle.std.proofs.Common.{subst, sym, ◌∷◌, [], ◌∙◌, ap}
use Rattle.lp_layout.specs.Layout.{AreInside}
use Rattle.lp_front.specs.Reading.{items_of}
use Rattle.lp_front.specs.Settling.{finished}
use Rattle.lp_front.proofs.Inside.{made_inside}
use Rattle.lp_front.proofs.settle.laid.Goals as goal

pub returns-in-Ok-finish-clause-inside : goal.returns-in-Ok-finish-clause-inside
returns-in-Ok-finish-clause-inside c =
    subst (λ t. AreInside (t ∷ []))
    (sym (c.in-Ok-finish.ensures ∙ ap (λ t. finished c.args.file.now t c.args.declared.now.pragmas c.args.parents.now c.args.own) (c.in-Ok.ensures.laid c.requires.spelled).1))
    (made_inside c.args.file.now (items_of c.args.declared.now) c.args.declared.now.pragmas c.args.parents.now c.args.own c.requires.inside)
