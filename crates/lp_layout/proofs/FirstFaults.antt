-- The first of faults that stand one after another.
use Rattle.std.proofs.Common.{◌≡◌, ℕ, zero, suc, ◌+◌, ◌<◌, ◌≤◌, refl, sym, ap, ◌∙◌, arith, true, List, [], ◌∷◌, ◌++◌, append_assoc, length, drop, get_or, map, Option, Some, None}
use Rattle.lp_tree.specs.declared.expr.Expr.{Expr}
use Rattle.lp_tree.specs.declared.fault.FaultKind.{FaultKind}
use Rattle.lp_tree.specs.declared.fault.FaultKind.TheVariants.{NomaskOverridden, NoInheritPragma, TooManyNames}
use Rattle.lp_tree.specs.Trees.{trees}
use Rattle.lp_tree.specs.TreeView.{tree_of}
use Rattle.lp_tree.specs.Units.{ItemTree, Inherit, Proto, Fun, Var}
use Rattle.lp_code.specs.declared.tables.Tables.{Tables}
use Rattle.lp_types_expr.specs.ExprFaults.{when}
use Rattle.lp_types_expr.specs.Signatures.{or_else}
use Rattle.lp_types_expr.specs.declared.fault.FaultAt.{FaultAt}
use Rattle.lp_types_expr.specs.Visits.{judged, visited}
use Rattle.lp_types_expr.specs.Walk.{Guilt, all_at, fault_at}
use Rattle.lp_types_expr.specs.declared.visit.Visit.{Visit}
use Rattle.lp_tree.specs.UnitView.{item_of}
use Rattle.lp_tree.specs.declared.unit.Item.{Item}
use Rattle.lp_layout.specs.declared.piece.Piece.{Piece}
use Rattle.lp_layout.specs.Pieces.{calls_in, piece_of, seen}
use Rattle.lp_layout.proofs.Gathered.{calls_both}
use Rattle.lp_layout.specs.Firsts.{at_if, earlier_behind, first_kind, item_layout, others_behind}
use Rattle.lp_layout.specs.Layout.{inherits}
use Rattle.lp_layout.specs.LayoutFaults.{Limits, call_guilt, count, first_fault, function_kinds, inherit_kinds, is_too_large, items_layout, limits, stands_beside, stmts_calls, stmts_locals, too_many}

pub first_both : (xs ys : List FaultAt) → first_fault (xs ++ ys) ≡ or_else (first_fault xs) (first_fault ys)
first_both [] ys = refl
first_both (x ∷ xs) ys = refl

pub kind_both : (xs ys : List FaultKind) → first_kind (xs ++ ys) ≡ or_else (first_kind xs) (first_kind ys)
kind_both [] ys = refl
kind_both (x ∷ xs) ys = refl

pub first_at : (line : ℕ) (ks : List FaultKind) → first_fault (all_at line ks) ≡ at_if line (first_kind ks)
first_at line [] = refl
first_at line (k ∷ ks) = refl

-- faults at a token, and others behind
pub at_both : (line : ℕ) (ks : List FaultKind) (ys : List FaultAt) → first_fault (all_at line ks ++ ys) ≡ or_else (at_if line (first_kind ks)) (first_fault ys)
at_both line ks ys = first_both (all_at line ks) ys ∙ ap (λ o. or_else o (first_fault ys)) (first_at line ks)

pub none_then : (x y : Option FaultAt) → x ≡ None → or_else x y ≡ y
none_then x y h = ap (λ o. or_else o y) h

pub some_then : (x y : Option FaultAt) (a : FaultAt) → x ≡ Some a → or_else x y ≡ Some a
some_then x y a h = ap (λ o. or_else o y) h

pub count_trees : (es : List Expr) → count (trees (map tree_of es)) ≡ length es
count_trees [] = refl
count_trees (e ∷ es) = ap suc (count_trees es)

-- the faults of an item, and those of the items behind it
pub item_then : (m : Limits) (whole : List FaultKind) (e o : List Tables) (x : ItemTree) (is : List ItemTree) → items_layout m whole e o (x ∷ is) ≡ item_layout m whole e o x ++ items_layout m [] (earlier_behind e o x) (others_behind o x) is
item_then m whole e [] (Inherit l p) is = refl
item_then m whole e (t ∷ ts) (Inherit l p) is = refl
item_then m whole e [] (Proto l ms ty w ps) is = refl
item_then m whole e (t ∷ ts) (Proto l ms ty w ps) is = refl
item_then m whole e [] (Fun l ms ty w ps b) is = refl
item_then m whole e (t ∷ ts) (Fun l ms ty w ps b) is = refl
item_then m whole e [] (Var l ms b ds) is = refl
item_then m whole e (t ∷ ts) (Var l ms b ds) is = refl

pub drop_one : {A : Type 0} (xs : List A) (i : ℕ) (x : A) → i < length xs → x ≡ get_or xs i x → drop i xs ≡ x ∷ drop (i + 1) xs
drop_one xs i x h e = let f : suc i ≡ i + 1 = omega arith in by xs i x h e ∙ ap (λ n. x ∷ drop n xs) f
  where
    by : {A : Type 0} (xs : List A) (i : ℕ) (x : A) → i < length xs → x ≡ get_or xs i x → drop i xs ≡ x ∷ drop (suc i) xs
    by [] i x h e = absurd (omega (arith, h))
    by (y ∷ ys) zero x h e = ap (λ z. z ∷ ys) (sym e)
    by (y ∷ ys) (suc i) x h e = by ys i x (omega (arith, h)) e

-- Loops that end at the first fault

pub part_here : (f : Guilt) (vs : List Visit) (i : ℕ) (v : Visit) (k : FaultKind) → i < length vs → v ≡ get_or vs i v → first_kind (f (tree_of v.node.now)) ≡ Some k → first_fault (judged f (visited (drop i vs))) ≡ Some (fault_at v.line k)
part_here f vs i v k h e g =
    ap (λ l. first_fault (judged f (visited l))) (drop_one vs i v h e) ∙ at_both v.line (f (tree_of v.node.now)) (judged f (visited (drop (i + 1) vs)))
    ∙ ap (λ o. or_else (at_if v.line o) (first_fault (judged f (visited (drop (i + 1) vs))))) g

pub part_next : (f : Guilt) (vs : List Visit) (i : ℕ) (v : Visit) → i < length vs → v ≡ get_or vs i v → first_kind (f (tree_of v.node.now)) ≡ None → first_fault (judged f (visited (drop i vs))) ≡ first_fault (judged f (visited (drop (i + 1) vs)))
part_next f vs i v h e g =
    ap (λ l. first_fault (judged f (visited l))) (drop_one vs i v h e) ∙ at_both v.line (f (tree_of v.node.now)) (judged f (visited (drop (i + 1) vs)))
    ∙ ap (λ o. or_else (at_if v.line o) (first_fault (judged f (visited (drop (i + 1) vs))))) g

piece_then : (f : Guilt) (ps : List Piece) (i : ℕ) (p : Piece) → i < length ps → p ≡ get_or ps i p → first_fault (calls_in f (seen (drop i ps))) ≡ or_else (first_fault (calls_in f (piece_of p ∷ []))) (first_fault (calls_in f (seen (drop (i + 1) ps))))
piece_then f ps i p h e =
    ap (λ l. first_fault (calls_in f (seen l))) (drop_one ps i p h e) ∙ ap first_fault (calls_both f (piece_of p ∷ []) (seen (drop (i + 1) ps)))
    ∙ first_both (calls_in f (piece_of p ∷ [])) (calls_in f (seen (drop (i + 1) ps)))

pub piece_here : (f : Guilt) (ps : List Piece) (i : ℕ) (p : Piece) (a : FaultAt) → i < length ps → p ≡ get_or ps i p → first_fault (calls_in f (piece_of p ∷ [])) ≡ Some a → first_fault (calls_in f (seen (drop i ps))) ≡ Some a
piece_here f ps i p a h e g = piece_then f ps i p h e ∙ ap (λ o. or_else o (first_fault (calls_in f (seen (drop (i + 1) ps))))) g

pub piece_next : (f : Guilt) (ps : List Piece) (i : ℕ) (p : Piece) → i < length ps → p ≡ get_or ps i p → first_fault (calls_in f (piece_of p ∷ [])) ≡ None → first_fault (calls_in f (seen (drop i ps))) ≡ first_fault (calls_in f (seen (drop (i + 1) ps)))
piece_next f ps i p h e g = piece_then f ps i p h e ∙ ap (λ o. or_else o (first_fault (calls_in f (seen (drop (i + 1) ps))))) g

pub all_done : {A B : Type 0} (F : List A → List B) (xs : List A) (i : ℕ) → length xs ≤ i → F [] ≡ F (drop i xs)
all_done F [] zero h = refl
all_done F [] (suc i) h = refl
all_done F (x ∷ xs) zero h = absurd (omega (arith, h))
all_done F (x ∷ xs) (suc i) h = all_done F xs i (omega (arith, h))

item_first : (m : Limits) (whole : List FaultKind) (e o : List Tables) (is : List Item) (i : ℕ) (x : Item) → i < length is → x ≡ get_or is i x
    → first_fault (items_layout m whole e o (map item_of (drop i is))) ≡ or_else (first_fault (item_layout m whole e o (item_of x))) (first_fault (items_layout m [] (earlier_behind e o (item_of x)) (others_behind o (item_of x)) (map item_of (drop (i + 1) is))))
item_first m whole e o is i x h k =
    ap (λ l. first_fault (items_layout m whole e o (map item_of l))) (drop_one is i x h k) ∙ ap first_fault (item_then m whole e o (item_of x) (map item_of (drop (i + 1) is)))
    ∙ first_both (item_layout m whole e o (item_of x)) (items_layout m [] (earlier_behind e o (item_of x)) (others_behind o (item_of x)) (map item_of (drop (i + 1) is)))

pub item_here : (m : Limits) (whole : List FaultKind) (e o : List Tables) (is : List Item) (i : ℕ) (x : Item) (a : FaultAt) → i < length is → x ≡ get_or is i x → first_fault (item_layout m whole e o (item_of x)) ≡ Some a
    → first_fault (items_layout m whole e o (map item_of (drop i is))) ≡ Some a
item_here m whole e o is i x a h k g = item_first m whole e o is i x h k ∙ ap (λ z. or_else z (first_fault (items_layout m [] (earlier_behind e o (item_of x)) (others_behind o (item_of x)) (map item_of (drop (i + 1) is))))) g

pub item_next : (m : Limits) (whole : List FaultKind) (e o e' o' : List Tables) (is : List Item) (i : ℕ) (x : Item) → i < length is → x ≡ get_or is i x → first_fault (item_layout m whole e o (item_of x)) ≡ None → e' ≡ earlier_behind e o (item_of x) → o' ≡ others_behind o (item_of x)
    → first_fault (items_layout m whole e o (map item_of (drop i is))) ≡ first_fault (items_layout m [] e' o' (map item_of (drop (i + 1) is)))
item_next m whole e o e' o' is i x h k g he ho =
    item_first m whole e o is i x h k ∙ ap (λ z. or_else z (first_fault (items_layout m [] (earlier_behind e o (item_of x)) (others_behind o (item_of x)) (map item_of (drop (i + 1) is))))) g
    ∙ ap (λ z. first_fault (items_layout m [] z (others_behind o (item_of x)) (map item_of (drop (i + 1) is)))) (sym he) ∙ ap (λ z. first_fault (items_layout m [] e' z (map item_of (drop (i + 1) is)))) (sym ho)

-- Kinds at one token

pub counted : (es xs : List Expr) (r : Option FaultKind) → xs ≡ es → r ≡ first_kind (too_many 255 (length xs)) → r ≡ first_kind (too_many 255 (count (trees (map tree_of es))))
counted es xs r e h = h ∙ ap (λ l. first_kind (too_many 255 (length l))) e ∙ ap (λ n. first_kind (too_many 255 n)) (sym (count_trees es))

pub inherit_first : (m : Limits) (whole : List FaultKind) (ts os : List Tables) (t : Tables) (line : ℕ) (p : List ℕ) → 0 < length os → t ≡ get_or os 0 t
    → at_if line (or_else (or_else (first_kind (when (stands_beside ts t) NomaskOverridden)) (first_kind (when t.pragmas.no_inherit NoInheritPragma))) (first_kind whole)) ≡ first_fault (item_layout m whole ts os (Inherit line p))
inherit_first m whole ts [] t line p h e = absurd (omega (arith, h))
inherit_first m whole ts (x ∷ os) t line p h e =
    ap (λ z. at_if line (or_else z (first_kind whole))) (sym (kind_both (when (stands_beside ts t) NomaskOverridden) (when t.pragmas.no_inherit NoInheritPragma)))
    ∙ ap (at_if line) (sym (kind_both (inherit_kinds ts t) whole)) ∙ sym (first_at line (inherit_kinds ts t ++ whole))
    ∙ ap (λ y. first_fault (all_at line (inherit_kinds ts y ++ whole))) e

-- Where something is too large, a unit that has an item has a fault.

some_last : (line : ℕ) (ks : List FaultKind) (k : FaultKind) (rest : List FaultAt) → first_fault (all_at line (ks ++ k ∷ []) ++ rest) ≡ None → ⊥
some_last line [] k rest h = absurd cc
some_last line (j ∷ ks) k rest h = absurd cc

pub never : (is : List ItemTree) (ts : List Tables) → length ts ≡ inherits is → first_fault (items_layout limits (TooManyNames ∷ []) [] ts is) ≡ None → is_too_large limits is ts ≡ true → ⊥
never [] [] e h b = absurd cc
never [] (t ∷ ts) e h b = absurd (omega (arith, e))
never (Inherit l p ∷ is) [] e h b = absurd cc
never (Inherit l p ∷ is) (t ∷ ts) e h b = some_last l (inherit_kinds [] t) TooManyNames (items_layout limits [] (t ∷ []) ts is) h
never (Proto l ms ty w ps ∷ is) ts e h b = some_last l (too_many 255 (length ps)) TooManyNames (items_layout limits [] [] ts is) h
never (Fun l ms ty w ps c ∷ is) ts e h b =
    some_last l (function_kinds limits [] w (length ps) (stmts_locals c.stmts)) TooManyNames (stmts_calls (call_guilt limits []) c.stmts ++ items_layout limits [] [] ts is)
    (ap first_fault (sym (append_assoc (all_at l (function_kinds limits [] w (length ps) (stmts_locals c.stmts) ++ TooManyNames ∷ [])) (stmts_calls (call_guilt limits []) c.stmts) (items_layout limits [] [] ts is))) ∙ h)
never (Var l ms base ds ∷ is) ts e h b = absurd cc
