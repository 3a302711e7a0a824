use Rattle.std.proofs.Common.{subst, sym, ◌∷◌, []}
use Rattle.lp_layout.specs.Layout.{AreInside}
use Rattle.lp_loads.specs.Known.{HasVersionInside}
use Rattle.lp_loads.proofs.known.copied.Goals as goal

pub returns-in_ok-copy_tables-in-Some-clause-inside : goal.returns-in_ok-copy_tables-in-Some-clause-inside
returns-in_ok-copy_tables-in-Some-clause-inside c = λ h. subst (λ t. AreInside (t ∷ [])) (sym c.in_ok-copy_tables-in-Some.ensures) (subst HasVersionInside c.in-Some.is h)
