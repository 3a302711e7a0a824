-- In a unit without faults no name of a function or a variable is used twice.
use Rattle.std.proofs.Common.{◌≡◌, ℕ, suc, ◌+◌, refl, sym, ap, ◌∙◌, subst, List, [], ◌∷◌, ◌++◌, map, ◌||◌, Bool, true, false, Option, Some, None, ⊎_elim}
use Rattle.std.specs.Prelude.{⊤, is_some, if◌then◌else◌}
use Rattle.std.specs.List.{list_any}
use Rattle.std.proofs.lemmas.Bool.{cases_Bool, or_from, or_parts}
use Rattle.lp_instr.specs.EfunList.{is_name}
use Rattle.lp_tree.specs.declared.fault.FaultKind.{FaultKind}
use Rattle.lp_tree.specs.declared.fault.FaultKind.TheVariants.{DoubleName}
use Rattle.lp_tree.specs.declared.keyword.Base.{Base}
use Rattle.lp_tree.specs.declared.keyword.Modifier.{Modifier}
use Rattle.lp_tree.specs.declared.types.TypeName.{TypeName}
use Rattle.lp_tree.specs.declared.unit.Param.{Param}
use Rattle.lp_tree.specs.Statements.{DeclaratorTree}
use Rattle.lp_tree.specs.Units.{BlockTree, ItemTree, Inherit, Proto, Fun, Var}
use Rattle.lp_code.specs.declared.tables.VarRow.{VarRow}
use Rattle.lp_language.specs.Resolve.{Function, Heritages, NoParent, OneParent, Variable, own_variables, place_moved, sighted_from, variable_count, variable_last, variable_outside}
use Rattle.lp_language.specs.Resolve as meant
use Rattle.lp_isa.specs.Programs.{own_functions}
use Rattle.lp_inherit.specs.Heirs.{AreDistinct, AreUnambiguous, seen_from, table, tables}
use Rattle.lp_inherit.proofs.Variables.{rows_seen}
use Rattle.lp_layout.proofs.RowLaid.{same_name}
use Rattle.lp_plan_laws.specs.Tables.{AreOnce}
use Rattle.lp_types_expr.specs.ExprFaults.{assignments_if, expr_faults_if, when}
use Rattle.lp_types_expr.specs.Known.{Around}
use Rattle.lp_types_expr.specs.Signatures.{inherited_kind, is_private_number, or_else, row_kind}
use Rattle.lp_types_expr.specs.Walk.{all_at}
use Rattle.lp_types.specs.TypeFaults.{body_scope, global_faults, globals_faults, initialiser_kinds, items_faults, kind_with, missing_type, names_of, params_faults, stmts_faults}

split : {A : Type 0} (xs ys : List A) → xs ++ ys ≡ [] → (xs ≡ []) × (ys ≡ [])
split [] ys h = (refl, h)
split (x ∷ xs) ys h = absurd cc

no_kinds : (line : ℕ) (ks : List FaultKind) → all_at line ks ≡ [] → ks ≡ []
no_kinds line [] h = refl
no_kinds line (k ∷ ks) h = absurd cc

not_told : (b : Bool) → when b DoubleName ≡ [] → b ≡ false
not_told true h = absurd cc
not_told false h = refl

-- whatever differs from all of some names differs from this one
abbrev Has : List (List ℕ) → List ℕ → Type 0
Has xs w = (q : List ℕ) → list_any (is_name q) xs ≡ false → is_name q w ≡ false

has_head : (w : List ℕ) (xs : List (List ℕ)) → Has (w ∷ xs) w
has_head w xs q e = (or_parts (is_name q w) (list_any (is_name q) xs) e).0

has_more : (x w : List ℕ) (xs : List (List ℕ)) → Has xs w → Has (x ∷ xs) w
has_more x w xs h q e = h q (or_parts (is_name q x) (list_any (is_name q) xs) e).1

has_behind : (ys : List (List ℕ)) (w : List ℕ) (xs : List (List ℕ)) → Has xs w → Has (ys ++ xs) w
has_behind [] w xs h = h
has_behind (y ∷ ys) w xs h = has_more y w (ys ++ xs) (has_behind ys w xs h)

any_both : {A : Type 0} (p : A → Bool) (xs ys : List A) → list_any p xs ≡ false → list_any p ys ≡ false → list_any p (xs ++ ys) ≡ false
any_both p [] ys h g = g
any_both p (x ∷ xs) ys h g = let q = or_parts (p x) (list_any p xs) h in or_from (p x) (list_any p (xs ++ ys)) q.0 (any_both p xs ys q.1 g)

abbrev variable : List Modifier → DeclaratorTree → Variable
variable ms d = record { modifiers = ms; declared = d }

abbrev named_so : List ℕ → Variable → Bool
named_so w u = is_name u.declared.name w

abbrev function_so : List ℕ → Function → Bool
function_so w g = is_name g.name w

module _ (a : Around) where
  -- a variable has another name than those before it, and than those of parents
  new_variable : (earlier : List (List ℕ)) (base : Base) (d : DeclaratorTree) → global_faults a earlier base d ≡ [] → (list_any (is_name d.name) earlier ≡ false) × (is_some (inherited_kind a.parents d.name) ≡ false)
  new_variable earlier base d h =
      let before = initialiser_kinds a [] (kind_with base d) d.value ++ assignments_if a [] d.value in
      let b = list_any (is_name d.name) earlier || is_some (inherited_kind a.parents d.name) in
      let p = split (all_at d.line (before ++ when b DoubleName)) (expr_faults_if a [] d.value) h in
      let q = split before (when b DoubleName) (no_kinds d.line (before ++ when b DoubleName) p.0) in
      or_parts (list_any (is_name d.name) earlier) (is_some (inherited_kind a.parents d.name)) (not_told b q.1)

  -- variables behind a name do not have it
  later_ones : (w : List ℕ) (earlier : List (List ℕ)) (ms : List Modifier) (base : Base) (ds : List DeclaratorTree) → Has earlier w → globals_faults a earlier base ds ≡ [] → list_any (named_so w) (map (variable ms) ds) ≡ false
  later_ones w earlier ms base [] h e = refl
  later_ones w earlier ms base (d ∷ ds) h e =
      let p = split (global_faults a earlier base d) (globals_faults a (d.name ∷ earlier) base ds) e in
      or_from (is_name d.name w) (list_any (named_so w) (map (variable ms) ds)) (h d.name (new_variable earlier base d p.0).0) (later_ones w (d.name ∷ earlier) ms base ds (has_more d.name w earlier h) p.1)

  fun_parts : (funs vars : List (List ℕ)) (line : ℕ) (ms : List Modifier) (ty : Option TypeName) (w : List ℕ) (ps : List Param) (b : BlockTree) (is : List ItemTree) → items_faults a funs vars (Fun line ms ty w ps b ∷ is) ≡ [] → (list_any (is_name w) funs ≡ false) × (items_faults a (w ∷ funs) vars is ≡ [])
  fun_parts funs vars line ms ty w ps b is h =
      let double = when (list_any (is_name w) funs) DoubleName in
      let first = all_at line (missing_type a ty ++ double) in
      let head = first ++ params_faults a [] ps in
      let p = split (head ++ stmts_faults a (body_scope ty ps) b.stmts) (items_faults a (w ∷ funs) vars is) h in
      let q = split head (stmts_faults a (body_scope ty ps) b.stmts) p.0 in
      let r = split first (params_faults a [] ps) q.0 in
      let s = split (missing_type a ty) double (no_kinds line (missing_type a ty ++ double) r.0) in
      (not_told (list_any (is_name w) funs) s.1, p.1)

  proto_rest : (funs vars : List (List ℕ)) (line : ℕ) (ms : List Modifier) (ty : Option TypeName) (w : List ℕ) (ps : List Param) (is : List ItemTree) → items_faults a funs vars (Proto line ms ty w ps ∷ is) ≡ [] → items_faults a funs vars is ≡ []
  proto_rest funs vars line ms ty w ps is h = (split (all_at line (missing_type a ty) ++ params_faults a [] ps) (items_faults a funs vars is) h).1

  later_variables : (w : List ℕ) (funs vars : List (List ℕ)) (is : List ItemTree) → Has vars w → items_faults a funs vars is ≡ [] → list_any (named_so w) (own_variables is) ≡ false
  later_variables w funs vars [] h e = refl
  later_variables w funs vars (Inherit line path ∷ is) h e = later_variables w funs vars is h e
  later_variables w funs vars (Proto line ms ty v ps ∷ is) h e = later_variables w funs vars is h (proto_rest funs vars line ms ty v ps is e)
  later_variables w funs vars (Fun line ms ty v ps b ∷ is) h e = later_variables w (v ∷ funs) vars is h (fun_parts funs vars line ms ty v ps b is e).1
  later_variables w funs vars (Var line ms base ds ∷ is) h e =
      let p = split (globals_faults a vars base ds) (items_faults a funs (names_of ds ++ vars) is) e in
      any_both (named_so w) (map (variable ms) ds) (own_variables is) (later_ones w vars ms base ds h p.0) (later_variables w funs (names_of ds ++ vars) is (has_behind (names_of ds) w vars h) p.1)

  -- each of some names is among others
  abbrev HasAll : List DeclaratorTree → List (List ℕ) → Type 0
  HasAll [] xs = ⊤
  HasAll (d ∷ ds) xs = Has xs d.name × HasAll ds xs

  has_all_more : (ds : List DeclaratorTree) (x : List ℕ) (xs : List (List ℕ)) → HasAll ds xs → HasAll ds (x ∷ xs)
  has_all_more [] x xs h = tt
  has_all_more (d ∷ ds) x xs h = (has_more x d.name xs h.0, has_all_more ds x xs h.1)

  has_all : (ds : List DeclaratorTree) (xs : List (List ℕ)) → HasAll ds (names_of ds ++ xs)
  has_all [] xs = tt
  has_all (d ∷ ds) xs = (has_head d.name (names_of ds ++ xs), has_all_more ds d.name (names_of ds ++ xs) (has_all ds xs))

  abbrev AllAbsent : List DeclaratorTree → List Variable → Type 0
  AllAbsent [] vs = ⊤
  AllAbsent (d ∷ ds) vs = (list_any (named_so d.name) vs ≡ false) × AllAbsent ds vs

  all_absent : (ds : List DeclaratorTree) (funs vars : List (List ℕ)) (is : List ItemTree) → HasAll ds vars → items_faults a funs vars is ≡ [] → AllAbsent ds (own_variables is)
  all_absent [] funs vars is h e = tt
  all_absent (d ∷ ds) funs vars is h e = (later_variables d.name funs vars is h.0 e, all_absent ds funs vars is h.1 e)

  distinct_ones : (earlier : List (List ℕ)) (ms : List Modifier) (base : Base) (ds : List DeclaratorTree) (vs : List Variable) → globals_faults a earlier base ds ≡ [] → AllAbsent ds vs → AreDistinct vs → AreDistinct (map (variable ms) ds ++ vs)
  distinct_ones earlier ms base [] vs e h g = g
  distinct_ones earlier ms base (d ∷ ds) vs e h g =
      let p = split (global_faults a earlier base d) (globals_faults a (d.name ∷ earlier) base ds) e in
      (any_both (named_so d.name) (map (variable ms) ds) vs (later_ones d.name (d.name ∷ earlier) ms base ds (has_head d.name earlier) p.1) h.0, distinct_ones (d.name ∷ earlier) ms base ds vs p.1 h.1 g)

  pub distinct : (funs vars : List (List ℕ)) (is : List ItemTree) → items_faults a funs vars is ≡ [] → AreDistinct (own_variables is)
  distinct funs vars [] e = tt
  distinct funs vars (Inherit line path ∷ is) e = distinct funs vars is e
  distinct funs vars (Proto line ms ty w ps ∷ is) e = distinct funs vars is (proto_rest funs vars line ms ty w ps is e)
  distinct funs vars (Fun line ms ty w ps b ∷ is) e = distinct (w ∷ funs) vars is (fun_parts funs vars line ms ty w ps b is e).1
  distinct funs vars (Var line ms base ds ∷ is) e =
      let p = split (globals_faults a vars base ds) (items_faults a funs (names_of ds ++ vars) is) e in
      distinct_ones vars ms base ds (own_variables is) p.0 (all_absent ds funs (names_of ds ++ vars) is (has_all ds vars) p.1) (distinct funs (names_of ds ++ vars) is p.1)

  -- functions
  later_functions : (w : List ℕ) (funs vars : List (List ℕ)) (is : List ItemTree) → Has funs w → items_faults a funs vars is ≡ [] → list_any (function_so w) (own_functions is) ≡ false
  later_functions w funs vars [] h e = refl
  later_functions w funs vars (Inherit line path ∷ is) h e = later_functions w funs vars is h e
  later_functions w funs vars (Proto line ms ty v ps ∷ is) h e = later_functions w funs vars is h (proto_rest funs vars line ms ty v ps is e)
  later_functions w funs vars (Fun line ms ty v ps b ∷ is) h e =
      let p = fun_parts funs vars line ms ty v ps b is e in
      or_from (is_name v w) (list_any (function_so w) (own_functions is)) (h v p.0) (later_functions w (v ∷ funs) vars is (has_more v w funs h) p.1)
  later_functions w funs vars (Var line ms base ds ∷ is) h e =
      later_functions w funs (names_of ds ++ vars) is h (split (globals_faults a vars base ds) (items_faults a funs (names_of ds ++ vars) is) e).1

  pub once : (funs vars : List (List ℕ)) (is : List ItemTree) → items_faults a funs vars is ≡ [] → AreOnce (own_functions is)
  once funs vars [] e = tt
  once funs vars (Inherit line path ∷ is) e = once funs vars is e
  once funs vars (Proto line ms ty w ps ∷ is) e = once funs vars is (proto_rest funs vars line ms ty w ps is e)
  once funs vars (Fun line ms ty w ps b ∷ is) e =
      let p = fun_parts funs vars line ms ty w ps b is e in
      (later_functions w (w ∷ funs) vars is (has_head w funs) p.1, once (w ∷ funs) vars is p.1)
  once funs vars (Var line ms base ds ∷ is) e = once funs (names_of ds ++ vars) is (split (globals_faults a vars base ds) (items_faults a funs (names_of ds ++ vars) is) e).1

  -- no variable has a name that is seen in parents
  sighted_new : (n : ℕ) (v : Variable) (vs : List Variable) (w : List ℕ) → is_some (inherited_kind a.parents v.declared.name) ≡ false → (is_some (sighted_from (suc n) vs w) ≡ true → is_some (inherited_kind a.parents w) ≡ false)
      → is_some (sighted_from n (v ∷ vs) w) ≡ true → is_some (inherited_kind a.parents w) ≡ false
  sighted_new n v vs w new rest = go (is_name v.declared.name w) refl
    where
      go : (b : Bool) → is_name v.declared.name w ≡ b → is_some (if b then Some (record { place = n; is_hidden = meant.is_private v.modifiers }) else sighted_from (suc n) vs w) ≡ true → is_some (inherited_kind a.parents w) ≡ false
      go true e h = subst (λ q. is_some (inherited_kind a.parents q) ≡ false) (same_name v.declared.name w e) new
      go false e h = rest h

  sighted_ones : (n : ℕ) (earlier : List (List ℕ)) (ms : List Modifier) (base : Base) (ds : List DeclaratorTree) (vs : List Variable) (w : List ℕ) → globals_faults a earlier base ds ≡ [] → ((k : ℕ) → is_some (sighted_from k vs w) ≡ true → is_some (inherited_kind a.parents w) ≡ false)
      → is_some (sighted_from n (map (variable ms) ds ++ vs) w) ≡ true → is_some (inherited_kind a.parents w) ≡ false
  sighted_ones n earlier ms base [] vs w e rest = rest n
  sighted_ones n earlier ms base (d ∷ ds) vs w e rest =
      let p = split (global_faults a earlier base d) (globals_faults a (d.name ∷ earlier) base ds) e in
      sighted_new n (variable ms d) (map (variable ms) ds ++ vs) w (new_variable earlier base d p.0).1 (sighted_ones (suc n) (d.name ∷ earlier) ms base ds vs w p.1 rest)

  pub own_alone : (funs vars : List (List ℕ)) (is : List ItemTree) → items_faults a funs vars is ≡ [] → (n : ℕ) (w : List ℕ) → is_some (sighted_from n (own_variables is) w) ≡ true → is_some (inherited_kind a.parents w) ≡ false
  own_alone funs vars [] e n w h = absurd cc
  own_alone funs vars (Inherit line path ∷ is) e n w h = own_alone funs vars is e n w h
  own_alone funs vars (Proto line ms ty v ps ∷ is) e n w h = own_alone funs vars is (proto_rest funs vars line ms ty v ps is e) n w h
  own_alone funs vars (Fun line ms ty v ps b ∷ is) e n w h = own_alone (v ∷ funs) vars is (fun_parts funs vars line ms ty v ps b is e).1 n w h
  own_alone funs vars (Var line ms base ds ∷ is) e n w h =
      let p = split (globals_faults a vars base ds) (items_faults a funs (names_of ds ++ vars) is) e in
      sighted_ones n vars ms base ds (own_variables is) w p.0 (λ k. own_alone funs (names_of ds ++ vars) is p.1 k w) h

-- What is not seen of the rows of parents is not seen of their variables.

none_of_both : {A : Type 0} (o p : Option A) → is_some (or_else o p) ≡ false → (is_some o ≡ false) × (is_some p ≡ false)
none_of_both None p h = (refl, h)
none_of_both (Some x) p h = absurd cc

is_none : {A : Type 0} (o : Option A) → is_some o ≡ false → o ≡ None
is_none None h = refl
is_none (Some x) h = absurd cc

turned : (x y : List ℕ) → is_name x y ≡ is_name y x
turned x y =
    ⊎_elim
    (λ (a : is_name x y ≡ true). subst (λ z. is_name x z ≡ is_name z x) (same_name x y a) refl)
    (λ (n : is_name x y ≡ false).
    ⊎_elim
    (λ (a : is_name y x ≡ true). subst (λ z. is_name z y ≡ is_name y z) (same_name y x a) refl)
    (λ (m : is_name y x ≡ false). n ∙ sym m)
    (cases_Bool (is_name y x)))
    (cases_Bool (is_name x y))

row_unseen : (n : ℕ) (rs : List VarRow) (w : List ℕ) → is_some (row_kind rs w) ≡ false → seen_from n rs w ≡ None
row_unseen n [] w h = refl
row_unseen n (r ∷ rs) w h =
    let q = none_of_both (row_kind rs w) (if is_private_number r.mods then None else if is_name w r.name then Some r.kind else None) h in
    ap (λ o. or_else o (if is_private_number r.mods then None else if is_name r.name w then Some n else None)) (row_unseen (suc n) rs w q.0)
    ∙ pick (is_private_number r.mods) (is_name w r.name) (is_name r.name w) (turned w r.name) q.1
  where
    pick : (p m k : Bool) → m ≡ k → is_some (if p then None else if m then Some r.kind else None) ≡ false → (if p then None else if k then Some n else None) ≡ None
    pick true m k e g = refl
    pick false true k e g = absurd cc
    pick false false true e g = absurd cc
    pick false false false e g = refl

pub last_unseen : (hs : Heritages) (first : ℕ) (w : List ℕ) → AreUnambiguous hs → is_some (inherited_kind (tables hs) w) ≡ false → variable_last hs first w ≡ None
last_unseen NoParent first w u h = refl
last_unseen (OneParent g hs) first w u h =
    let q = none_of_both (inherited_kind (tables hs) w) (row_kind (table g).vars w) h in
    let rest : variable_last hs (first + variable_count g) w ≡ None = last_unseen hs (first + variable_count g) w u.1 q.0 in
    let here : variable_outside g w ≡ None = sym (rows_seen g w u.0) ∙ row_unseen 0 (table g).vars w q.1 in
    ap (λ o. meant.or_else o (place_moved first (variable_outside g w))) rest ∙ ap (place_moved first) here
