-- What a list of declarations declares, when one more comes.
use Rattle.std.proofs.Common.{◌≡◌, ℕ, zero, suc, ◌+◌, ◌<◌, refl, sym, ap, ◌∙◌, arith, Bool, true, false, List, [], ◌∷◌, ◌++◌, length, take, get_or, Option, Some, None, map}
use Rattle.std.specs.Prelude.{if◌then◌else◌}
use Rattle.lp_tree.specs.declared.keyword.Base.{Base}
use Rattle.lp_tree.specs.declared.unit.Item.{Item}
use Rattle.lp_tree.specs.declared.stmt.Declarator.{Declarator}
use Rattle.lp_tree.specs.declared.types.TypeName.{TypeName}
use Rattle.lp_tree.specs.Statements.{DeclaratorTree}
use Rattle.lp_tree.specs.Units.{ItemTree, Inherit, Proto, Fun, Var}
use Rattle.lp_tree.specs.UnitView.{item_of}
use Rattle.lp_tree.specs.StatementView.{declarator_of}
use Rattle.lp_instr.specs.EfunList.{is_name}
use Rattle.lp_types_expr.specs.Signatures.{Signature, or_else, own_function, own_prototype, own_kind, declared_kind, signature}

pub or_assoc : {A : Type 0} (x y z : Option A) → or_else (or_else x y) z ≡ or_else x (or_else y z)
or_assoc (Some a) y z = refl
or_assoc None y z = refl

pub or_none : {A : Type 0} (x : Option A) → or_else x None ≡ x
or_none (Some a) = refl
or_none None = refl

pub take_one : {X : Type 0} (xs : List X) (i : ℕ) (x : X) → i < length xs → x ≡ get_or xs i x → take (suc i) xs ≡ take i xs ++ (x ∷ [])
take_one [] i x h e = absurd (omega (arith, h))
take_one (y ∷ xs) zero x h e = let s : y ≡ x = sym e in ap (λ z. z ∷ []) s
take_one (y ∷ xs) (suc i) x h e = ap (λ z. y ∷ z) (take_one xs i x (omega (arith, h)) e)

-- one more that counts before the earlier ones
pub later_first : {X A : Type 0} (F : List X → List ℕ → Option A) → ((xs : List X) (x : X) (w : List ℕ) → F (xs ++ x ∷ []) w ≡ or_else (F (x ∷ []) w) (F xs w))
    → (xs : List X) (i : ℕ) (x : X) → i < length xs → x ≡ get_or xs i x → (start before after : List ℕ → Option A) → ((w : List ℕ) → before w ≡ or_else (F (take i xs) w) (start w))
    → ((w : List ℕ) → after w ≡ or_else (F (x ∷ []) w) (before w)) → (w : List ℕ) → after w ≡ or_else (F (take (i + 1) xs) w) (start w)
later_first F snoc xs i x h e start before after p q w =
    let f : suc i ≡ i + 1 = omega arith in
    q w ∙ ap (or_else (F (x ∷ []) w)) (p w) ∙ sym (or_assoc (F (x ∷ []) w) (F (take i xs) w) (start w))
    ∙ ap (λ o. or_else o (start w)) (sym (snoc (take i xs) x w) ∙ ap (λ l. F l w) (sym (take_one xs i x h e)) ∙ ap (λ n. F (take n xs) w) f)

-- the same where nothing was there before
pub later_alone : {X A : Type 0} (F : List X → List ℕ → Option A) → ((xs : List X) (x : X) (w : List ℕ) → F (xs ++ x ∷ []) w ≡ or_else (F (x ∷ []) w) (F xs w))
    → (xs : List X) (i : ℕ) (x : X) → i < length xs → x ≡ get_or xs i x → (before after : List ℕ → Option A) → ((w : List ℕ) → before w ≡ F (take i xs) w)
    → ((w : List ℕ) → after w ≡ or_else (F (x ∷ []) w) (before w)) → (w : List ℕ) → after w ≡ F (take (i + 1) xs) w
later_alone F snoc xs i x h e before after p q w =
    let f : suc i ≡ i + 1 = omega arith in
    q w ∙ ap (or_else (F (x ∷ []) w)) (p w) ∙ sym (snoc (take i xs) x w) ∙ ap (λ l. F l w) (sym (take_one xs i x h e)) ∙ ap (λ n. F (take n xs) w) f

-- one more that counts behind the earlier ones
pub earlier_first : {X A : Type 0} (F : List X → List ℕ → Option A) → ((xs : List X) (x : X) (w : List ℕ) → F (xs ++ x ∷ []) w ≡ or_else (F xs w) (F (x ∷ []) w))
    → (xs : List X) (i : ℕ) (x : X) → i < length xs → x ≡ get_or xs i x → (before after : List ℕ → Option A) → ((w : List ℕ) → before w ≡ F (take i xs) w)
    → ((w : List ℕ) → after w ≡ or_else (before w) (F (x ∷ []) w)) → (w : List ℕ) → after w ≡ F (take (i + 1) xs) w
earlier_first F snoc xs i x h e before after p q w =
    let f : suc i ≡ i + 1 = omega arith in
    q w ∙ ap (λ o. or_else o (F (x ∷ []) w)) (p w) ∙ sym (snoc (take i xs) x w) ∙ ap (λ l. F l w) (sym (take_one xs i x h e)) ∙ ap (λ n. F (take n xs) w) f

function_snoc : (is : List ItemTree) (x : ItemTree) (w : List ℕ) → own_function (is ++ x ∷ []) w ≡ or_else (own_function (x ∷ []) w) (own_function is w)
function_snoc [] x w = sym (or_none (own_function (x ∷ []) w))
function_snoc (Inherit l p ∷ is) x w = function_snoc is x w
function_snoc (Proto l ms ty n ps ∷ is) x w = function_snoc is x w
function_snoc (Fun l ms ty n ps b ∷ is) x w = ap (λ o. or_else o (if is_name w n then Some (signature ms ty ps) else None)) (function_snoc is x w) ∙ or_assoc (own_function (x ∷ []) w) (own_function is w) (if is_name w n then Some (signature ms ty ps) else None)
function_snoc (Var l ms b ds ∷ is) x w = function_snoc is x w

kind_snoc : (is : List ItemTree) (x : ItemTree) (w : List ℕ) → own_kind (is ++ x ∷ []) w ≡ or_else (own_kind (x ∷ []) w) (own_kind is w)
kind_snoc [] x w = sym (or_none (own_kind (x ∷ []) w))
kind_snoc (Inherit l p ∷ is) x w = kind_snoc is x w
kind_snoc (Proto l ms ty n ps ∷ is) x w = kind_snoc is x w
kind_snoc (Fun l ms ty n ps b ∷ is) x w = kind_snoc is x w
kind_snoc (Var l ms b ds ∷ is) x w = ap (λ o. or_else o (declared_kind b ds w)) (kind_snoc is x w) ∙ or_assoc (own_kind (x ∷ []) w) (own_kind is w) (declared_kind b ds w)

chosen_assoc : {A : Type 0} (b : Bool) (a : A) (y z : Option A) → (if b then Some a else or_else y z) ≡ or_else (if b then Some a else y) z
chosen_assoc true a y z = refl
chosen_assoc false a y z = refl

prototype_snoc : (is : List ItemTree) (x : ItemTree) (w : List ℕ) → own_prototype (is ++ x ∷ []) w ≡ or_else (own_prototype is w) (own_prototype (x ∷ []) w)
prototype_snoc [] x w = refl
prototype_snoc (Inherit l p ∷ is) x w = prototype_snoc is x w
prototype_snoc (Proto l ms ty n ps ∷ is) x w = ap (λ o. if is_name w n then Some (signature ms ty ps) else o) (prototype_snoc is x w) ∙ chosen_assoc (is_name w n) (signature ms ty ps) (own_prototype is w) (own_prototype (x ∷ []) w)
prototype_snoc (Fun l ms ty n ps b ∷ is) x w = prototype_snoc is x w
prototype_snoc (Var l ms b ds ∷ is) x w = prototype_snoc is x w

declared_snoc : (b : Base) (ds : List DeclaratorTree) (d : DeclaratorTree) (w : List ℕ) → declared_kind b (ds ++ d ∷ []) w ≡ or_else (declared_kind b (d ∷ []) w) (declared_kind b ds w)
declared_snoc b [] d w = sym (or_none (declared_kind b (d ∷ []) w))
declared_snoc b (e ∷ ds) d w = ap (λ o. or_else o (if is_name w e.name then Some (record { base = b; stars = e.stars }) else None)) (declared_snoc b ds d w)
    ∙ or_assoc (declared_kind b (d ∷ []) w) (declared_kind b ds w) (if is_name w e.name then Some (record { base = b; stars = e.stars }) else None)

map_snoc : {X Y : Type 0} (f : X → Y) (xs : List X) (x : X) → map f (xs ++ x ∷ []) ≡ map f xs ++ f x ∷ []
map_snoc f [] x = refl
map_snoc f (y ∷ xs) x = ap (λ z. f y ∷ z) (map_snoc f xs x)

abbrev pub functions_in : List Item → List ℕ → Option Signature
functions_in is w = own_function (map item_of is) w

abbrev pub prototypes_in : List Item → List ℕ → Option Signature
prototypes_in is w = own_prototype (map item_of is) w

abbrev pub kinds_in : List Item → List ℕ → Option TypeName
kinds_in is w = own_kind (map item_of is) w

abbrev pub declared_in : Base → List Declarator → List ℕ → Option TypeName
declared_in b ds w = declared_kind b (map declarator_of ds) w

pub functions_snoc : (is : List Item) (x : Item) (w : List ℕ) → functions_in (is ++ x ∷ []) w ≡ or_else (functions_in (x ∷ []) w) (functions_in is w)
functions_snoc is x w = ap (λ l. own_function l w) (map_snoc item_of is x) ∙ function_snoc (map item_of is) (item_of x) w

pub prototypes_snoc : (is : List Item) (x : Item) (w : List ℕ) → prototypes_in (is ++ x ∷ []) w ≡ or_else (prototypes_in is w) (prototypes_in (x ∷ []) w)
prototypes_snoc is x w = ap (λ l. own_prototype l w) (map_snoc item_of is x) ∙ prototype_snoc (map item_of is) (item_of x) w

pub kinds_snoc : (is : List Item) (x : Item) (w : List ℕ) → kinds_in (is ++ x ∷ []) w ≡ or_else (kinds_in (x ∷ []) w) (kinds_in is w)
kinds_snoc is x w = ap (λ l. own_kind l w) (map_snoc item_of is x) ∙ kind_snoc (map item_of is) (item_of x) w

pub declareds_snoc : (b : Base) (ds : List Declarator) (d : Declarator) (w : List ℕ) → declared_in b (ds ++ d ∷ []) w ≡ or_else (declared_in b (d ∷ []) w) (declared_in b ds w)
declareds_snoc b ds d w = ap (λ l. declared_kind b l w) (map_snoc declarator_of ds d) ∙ declared_snoc b (map declarator_of ds) (declarator_of d) w
