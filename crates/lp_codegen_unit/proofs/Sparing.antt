-- What is clear is not refused as unclear.
use Rattle.std.proofs.Common.{◌≡◌, ◌≢◌, ℕ, zero, suc, ◌<◌, List, [], ◌∷◌, length, get_or, map, sym, subst, arith}
use Rattle.lp_tree.specs.declared.unit.Item.{Item}
use Rattle.lp_tree.specs.Units.{ItemTree, Inherit, Proto, Fun, Var}
use Rattle.lp_tree.specs.UnitView.{item_of}
use Rattle.lp_isa.specs.Programs.{own_functions}
use Rattle.lp_codegen_expr.specs.declared.code.GenFault.{GenFault}
use Rattle.lp_codegen_expr.specs.declared.code.GenFault.TheVariants.{Unclear}
use Rattle.lp_codegen_expr.specs.Clear.{Spares}
use Rattle.lp_codegen_expr.specs.Names.{Plan}
use Rattle.lp_codegen_unit.specs.Stands.{AreClear}

pub other : {A : Type 0} (f : GenFault) → f ≢ Unclear → Spares A f
other f n e c = n e

pub by_less : {A B : Type 0} (f : GenFault) → (B → A) → Spares A f → Spares B f
by_less f g h e c = h e (g c)

first_clear : (l : Plan) (i : ItemTree) (is : List ItemTree) → AreClear l (own_functions (i ∷ is)) → AreClear l (own_functions (i ∷ []))
first_clear l (Inherit line w) is c = tt
first_clear l (Proto line ms ty w ps) is c = tt
first_clear l (Fun line ms ty w ps b) is c = (c.0, tt)
first_clear l (Var line ms b ds) is c = tt

rest_clear : (l : Plan) (i : ItemTree) (is : List ItemTree) → AreClear l (own_functions (i ∷ is)) → AreClear l (own_functions is)
rest_clear l (Inherit line w) is c = c
rest_clear l (Proto line ms ty w ps) is c = c
rest_clear l (Fun line ms ty w ps b) is c = c.1
rest_clear l (Var line ms b ds) is c = c

-- of clear items each is
pub item_clear : (l : Plan) (is : List Item) (i : ℕ) (x : Item) → i < length is → x ≡ get_or is i x → AreClear l (own_functions (map item_of is)) → AreClear l (own_functions (item_of x ∷ []))
item_clear l [] i x h e c = absurd (omega (arith, h))
item_clear l (y ∷ is) zero x h e c = subst (λ z. AreClear l (own_functions (item_of z ∷ []))) (sym e) (first_clear l (item_of y) (map item_of is) c)
item_clear l (y ∷ is) (suc i) x h e c = item_clear l is i x (omega (arith, h)) e (rest_clear l (item_of y) (map item_of is) c)
