-- A faultless unit is clear.
use Rattle.std.proofs.Common.{List, [], ◌∷◌, refl}
use Rattle.lp_tree.specs.Units.{ItemTree, Inherit, Proto, Fun, Var}
use Rattle.lp_front.specs.Settling.{tables_of}
use Rattle.lp_isa.specs.Programs.{own_functions}
use Rattle.lp_codegen_expr.specs.Names.{Plan}
use Rattle.lp_codegen_laws.specs.Units.{AreFunctionsClear, FaultlessUnitIsClear}
use Rattle.lp_codegen_unit.specs.Stands.{AreClear}
use Rattle.lp_compile.specs.Faultless.{FaultlessHasCode}

functions_clear : (l : Plan) (is : List ItemTree) → AreFunctionsClear l is → AreClear l (own_functions is)
functions_clear l [] c = c
functions_clear l (Inherit line w ∷ is) c = functions_clear l is c
functions_clear l (Proto line ms ty w ps ∷ is) c = functions_clear l is c
functions_clear l (Fun line ms ty w ps b ∷ is) c = (c.0, functions_clear l is c.1)
functions_clear l (Var line ms b ds ∷ is) c = functions_clear l is c

pub faultless : FaultlessUnitIsClear → FaultlessHasCode
faultless law path items pragmas parents own simuls tokens spelled none =
    let c = law (tables_of path items pragmas parents own) items pragmas parents simuls tokens spelled none (record { rows = refl; variables = refl; version = own; parts = refl }) in
    record { functions = functions_clear _ items c.functions; variables = c.variables }
