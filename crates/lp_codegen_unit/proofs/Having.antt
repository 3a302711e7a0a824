-- Whether a unit has initialisers.
use Rattle.std.proofs.Common.{◌≡◌, List, [], ◌∷◌, ◌++◌, map, Option, Some, None, Bool, true, false, refl, sym, ap, ◌∙◌}
use Rattle.std.specs.Prelude.{◌||◌, is_some, option_map}
use Rattle.std.specs.List.{list_any}
use Rattle.lp_tree.specs.declared.keyword.Modifier.{Modifier}
use Rattle.lp_tree.specs.declared.stmt.Declarator.{Declarator}
use Rattle.lp_tree.specs.declared.unit.Item.{Item}
use Rattle.lp_tree.specs.declared.unit.Item.TheVariants as items
use Rattle.lp_tree.specs.StatementView.{declarator_of}
use Rattle.lp_tree.specs.TreeView.{tree_of}
use Rattle.lp_tree.specs.UnitView.{item_of}
use Rattle.lp_language.specs.Resolve.{Variable, has_initialiser, own_variables}
use Rattle.lp_codegen_flow.specs.Initialisers.{variables_of}
use Rattle.lp_codegen_unit.specs.Rows.{declares_one}

or_more : (a b c r : Bool) → (b || c) ≡ r → ((a || b) || c) ≡ (a || r)
or_more true b c r e = refl
or_more false b c r e = e

some_map : {A B : Type 0} (f : A → B) (o : Option A) → is_some (option_map f o) ≡ is_some o
some_map f None = refl
some_map f (Some x) = refl

declared_any : (ms : List Modifier) (ds : List Declarator) (vs : List Variable) → (list_any (λ d. is_some d.value) ds || has_initialiser vs) ≡ has_initialiser (variables_of ms (map declarator_of ds) ++ vs)
declared_any ms [] vs = refl
declared_any ms (d ∷ ds) vs =
    or_more (is_some d.value) (list_any (λ x. is_some x.value) ds) (has_initialiser vs) (has_initialiser (variables_of ms (map declarator_of ds) ++ vs)) (declared_any ms ds vs)
    ∙ ap (λ b. b || has_initialiser (variables_of ms (map declarator_of ds) ++ vs)) (sym (some_map tree_of d.value))

pub items_any : (is : List Item) → list_any declares_one is ≡ has_initialiser (own_variables (map item_of is))
items_any [] = refl
items_any (items.Inherit line w ∷ is) = items_any is
items_any (items.Proto line ms ty w ps ∷ is) = items_any is
items_any (items.Fun line ms ty w ps b ∷ is) = items_any is
items_any (items.Var line ms b ds ∷ is) =
    ap (λ x. list_any (λ d. is_some d.value) ds.items || x) (items_any is) ∙ declared_any ms.items ds.items (own_variables (map item_of is))
