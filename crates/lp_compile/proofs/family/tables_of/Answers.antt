use Rattle.std.proofs.Common.{[], ◌∷◌, subst, sym}
use Rattle.lp_layout.specs.Layout.{AreInside}
use Rattle.lp_unit_laws.specs.Versions.{IsOfVersion}
use Rattle.lp_compile.proofs.family.tables_of.Goals as goal

pub returns-in_ok-copy_tables-in-Some-clause-inside :
    goal.returns-in_ok-copy_tables-in-Some-clause-inside
returns-in_ok-copy_tables-in-Some-clause-inside g c =
    subst (λ t. AreInside (t ∷ [])) (sym c.in_ok-copy_tables-in-Some.ensures) c.in-Some.ensures.inside

pub returns-in_ok-copy_tables-in-Some-clause-of : goal.returns-in_ok-copy_tables-in-Some-clause-of
returns-in_ok-copy_tables-in-Some-clause-of g c = subst IsOfVersion (sym c.in_ok-copy_tables-in-Some.ensures) c.in-Some.ensures.of
