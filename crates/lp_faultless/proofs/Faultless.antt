-- What the tree of a version is whose unit has no fault: numbered, unambiguous, and without two functions of one name.
use Rattle.std.proofs.Common.{◌≡◌, ◌∙◌, ◌++◌, ◌+◌, ◌||◌, ◌≤◌, ℕ, suc, Bool, true, false, List, [], ◌∷◌, Option, Some, None, refl, ap, sym, subst, inl, inr, map, length, length-append, is_some, nat_lt, if◌then◌else◌, arith}
use Rattle.std.specs.List.{list_any}
use Rattle.std.proofs.lemmas.Bool.{cases_Bool, cases_lt, lt-ltb}
use Rattle.std.proofs.lemmas.Slice.Eq.{bytes_eq-Decides}
use Rattle.lp_tree.specs.declared.fault.FaultKind.{FaultKind}
use Rattle.lp_tree.specs.declared.fault.FaultKind.TheVariants.{DoubleName, TooManyNames}
use Rattle.lp_tree.specs.declared.keyword.Base.{Base}
use Rattle.lp_tree.specs.declared.keyword.Modifier.{Modifier}
use Rattle.lp_tree.specs.Statements.{DeclaratorTree}
use Rattle.lp_tree.specs.Units.{Fun, Inherit, ItemTree, Proto, Var}
use Rattle.lp_code.specs.declared.tables.Tables.{Tables}
use Rattle.lp_code.specs.declared.tables.VarRow.{VarRow}
use Rattle.lp_instr.specs.EfunList.{is_name}
use Rattle.lp_language.specs.Resolve.{Function, Heir, Heritages, NoParent, OneParent, Variable, is_private, own_names, own_variables, place_moved, sighted_from, variable_count, variable_last, variable_outside}
use Rattle.lp_isa.specs.Programs.{own_functions}
use Rattle.lp_language.specs.Resolve as names_mean
use Rattle.lp_types_expr.specs.ExprFaults.{when}
use Rattle.lp_types_expr.specs.Known.{Around}
use Rattle.lp_types_expr.specs.Signatures.{inherited_kind, is_private_number, or_else, row_kind}
use Rattle.lp_types_expr.specs.Walk.{all_at}
use Rattle.lp_types_expr.specs.declared.fault.FaultAt.{FaultAt}
use Rattle.lp_types.specs.TypeFaults.{global_faults, globals_faults, items_faults, names_of}
use Rattle.lp_layout.specs.Layout.{functions, inherits, laid_variables, parts_before, parts_of}
use Rattle.lp_layout.specs.LayoutFaults.{Limits, first_fault, is_too_large, items_layout, layout_fault, limits}
use Rattle.lp_inherit.specs.Heirs.{AreDistinct, AreUnambiguous, seen_from, table, tables}
use Rattle.lp_inherit.proofs.Variables.{rows_seen}
use Rattle.lp_plan_laws.specs.Tables.{AreOnce}
use Rattle.lp_faultless.specs.Trees.{FaultlessIsFine}

-- Lists without faults

nothing_left : {A : Type 0} (xs ys : List A) → xs ++ ys ≡ [] → (xs ≡ []) × (ys ≡ [])
nothing_left [] ys e = (refl, e)
nothing_left (x ∷ xs) ys e = cc

no_kinds : (line : ℕ) (ks : List FaultKind) → all_at line ks ≡ [] → ks ≡ []
no_kinds line [] e = refl
no_kinds line (k ∷ ks) e = cc

not_when : (b : Bool) (k : FaultKind) → when b k ≡ [] → b ≡ false
not_when true k e = cc
not_when false k e = refl

or_false : (a b : Bool) → (a || b) ≡ false → (a ≡ false) × (b ≡ false)
or_false true b e = cc
or_false false b e = (refl, e)

or_true : (a b : Bool) → b ≡ true → (a || b) ≡ true
or_true true b e = refl
or_true false b e = e

or_true_first : (a b : Bool) → a ≡ true → (a || b) ≡ true
or_true_first true b e = refl
or_true_first false b e = cc

both_or : (a b : Bool) → a ≡ false → b ≡ false → (a || b) ≡ false
both_or true b e f = e
both_or false b e f = f

differs : true ≡ false → ⊥
differs e = cc

-- Names

same : (a b : List ℕ) → is_name a b ≡ true → a ≡ b
same a b e = (bytes_eq-Decides a b).0 e

itself : (a : List ℕ) → is_name a a ≡ true
itself a = (bytes_eq-Decides a a).1 refl

any_both : {A : Type 0} (p : A → Bool) (xs ys : List A) → list_any p xs ≡ false → list_any p ys ≡ false → list_any p (xs ++ ys) ≡ false
any_both p [] ys e f = f
any_both p (x ∷ xs) ys e f = let q = or_false (p x) (list_any p xs) e in both_or (p x) (list_any p (xs ++ ys)) q.0 (any_both p xs ys q.1 f)

any_left : {A : Type 0} (p : A → Bool) (xs ys : List A) → list_any p (xs ++ ys) ≡ false → list_any p xs ≡ false
any_left p [] ys e = refl
any_left p (x ∷ xs) ys e = let q = or_false (p x) (list_any p (xs ++ ys)) e in both_or (p x) (list_any p xs) q.0 (any_left p xs ys q.1)

any_right : {A : Type 0} (p : A → Bool) (xs ys : List A) → list_any p ys ≡ true → list_any p (xs ++ ys) ≡ true
any_right p [] ys e = e
any_right p (x ∷ xs) ys e = or_true (p x) (list_any p (xs ++ ys)) (any_right p xs ys e)

-- a name that is not among earlier ones is none of them
not_among : (d w : List ℕ) (earlier : List (List ℕ)) → list_any (is_name d) earlier ≡ false → list_any (is_name w) earlier ≡ true → is_name d w ≡ false
not_among d w earlier e f = elim (cases_Bool (is_name d w)) [
  | inl t ↦ absurd (differs (sym f ∙ ap (λ n. list_any (is_name n) earlier) (sym (same d w t)) ∙ e))
  | inr n ↦ n
]

-- Functions

module _ (a : Around) where
  -- what a function says of its name, and of those that follow
  fun_apart : (w : List ℕ) (vars : List (List ℕ)) (funs : List (List ℕ)) (is : List ItemTree) → items_faults a funs vars is ≡ [] → list_any (is_name w) funs ≡ true
      → list_any (λ (g : Function). is_name g.name w) (own_functions is) ≡ false
  fun_apart w vars funs [] e f = refl
  fun_apart w vars funs (Inherit line path ∷ is) e f = fun_apart w vars funs is e f
  fun_apart w vars funs (Proto line ms ty n ps ∷ is) e f = fun_apart w vars funs is (nothing_left _ _ e).1 f
  fun_apart w vars funs (Fun line ms ty n ps b ∷ is) e f =
      let rest = nothing_left _ _ e in
      let head = (nothing_left _ _ (nothing_left _ _ rest.0).0).0 in
      both_or (is_name n w) (list_any (λ (g : Function). is_name g.name w) (own_functions is)) (not_among n w funs (not_when _ DoubleName (nothing_left _ _ (no_kinds line _ head)).1) f)
      (fun_apart w vars (n ∷ funs) is rest.1 (or_true (is_name w n) (list_any (is_name w) funs) f))
  fun_apart w vars funs (Var line ms base ds ∷ is) e f = fun_apart w (names_of ds ++ vars) funs is (nothing_left _ _ e).1 f

  pub are_once : (vars funs : List (List ℕ)) (is : List ItemTree) → items_faults a funs vars is ≡ [] → AreOnce (own_functions is)
  are_once vars funs [] e = tt
  are_once vars funs (Inherit line path ∷ is) e = are_once vars funs is e
  are_once vars funs (Proto line ms ty n ps ∷ is) e = are_once vars funs is (nothing_left _ _ e).1
  are_once vars funs (Fun line ms ty n ps b ∷ is) e =
      let rest = nothing_left _ _ e in
      (fun_apart n vars (n ∷ funs) is rest.1 (or_true_first (is_name n n) (list_any (is_name n) funs) (itself n)), are_once vars (n ∷ funs) is rest.1)
  are_once vars funs (Var line ms base ds ∷ is) e = are_once (names_of ds ++ vars) funs is (nothing_left _ _ e).1

  -- Variables

  abbrev variables : List Modifier → List DeclaratorTree → List Variable
  variables ms ds = map (λ d. record { modifiers = ms; declared = d }) ds

  -- what a global says of its name
  global_apart : (earlier : List (List ℕ)) (base : Base) (d : DeclaratorTree) → global_faults a earlier base d ≡ [] → (list_any (is_name d.name) earlier ≡ false) × (is_some (inherited_kind a.parents d.name) ≡ false)
  global_apart earlier base d e = or_false _ _ (not_when _ DoubleName (nothing_left _ _ (no_kinds d.line _ (nothing_left _ _ e).0)).1)

  ones_apart : (w : List ℕ) (earlier : List (List ℕ)) (ms : List Modifier) (base : Base) (ds : List DeclaratorTree) → globals_faults a earlier base ds ≡ [] → list_any (is_name w) earlier ≡ true
      → list_any (λ (v : Variable). is_name v.declared.name w) (variables ms ds) ≡ false
  ones_apart w earlier ms base [] e f = refl
  ones_apart w earlier ms base (d ∷ ds) e f =
      let rest = nothing_left _ _ e in
      both_or (is_name d.name w) (list_any (λ (v : Variable). is_name v.declared.name w) (variables ms ds)) (not_among d.name w earlier (global_apart earlier base d rest.0).0 f)
      (ones_apart w (d.name ∷ earlier) ms base ds rest.1 (or_true (is_name w d.name) (list_any (is_name w) earlier) f))

  vars_apart : (w : List ℕ) (funs vars : List (List ℕ)) (is : List ItemTree) → items_faults a funs vars is ≡ [] → list_any (is_name w) vars ≡ true
      → list_any (λ (v : Variable). is_name v.declared.name w) (own_variables is) ≡ false
  vars_apart w funs vars [] e f = refl
  vars_apart w funs vars (Inherit line path ∷ is) e f = vars_apart w funs vars is e f
  vars_apart w funs vars (Proto line ms ty n ps ∷ is) e f = vars_apart w funs vars is (nothing_left _ _ e).1 f
  vars_apart w funs vars (Fun line ms ty n ps b ∷ is) e f = vars_apart w (n ∷ funs) vars is (nothing_left _ _ e).1 f
  vars_apart w funs vars (Var line ms base ds ∷ is) e f =
      let rest = nothing_left _ _ e in
      any_both (λ (v : Variable). is_name v.declared.name w) (variables ms ds) (own_variables is) (ones_apart w vars ms base ds rest.0 f)
      (vars_apart w funs (names_of ds ++ vars) is rest.1 (any_right (is_name w) (names_of ds) vars f))

  -- the names of these are not among others
  abbrev AreApart : List DeclaratorTree → List Variable → Type 0
  AreApart ds vs = (w : List ℕ) → list_any (is_name w) (names_of ds) ≡ true → list_any (λ (v : Variable). is_name v.declared.name w) vs ≡ false

  ones_distinct : (earlier : List (List ℕ)) (ms : List Modifier) (base : Base) (ds : List DeclaratorTree) (vs : List Variable) → globals_faults a earlier base ds ≡ [] → AreApart ds vs → AreDistinct vs
      → AreDistinct (variables ms ds ++ vs)
  ones_distinct earlier ms base [] vs e f g = g
  ones_distinct earlier ms base (d ∷ ds) vs e f g =
      let rest = nothing_left _ _ e in (
        any_both (λ (v : Variable). is_name v.declared.name d.name) (variables ms ds) vs
            (ones_apart d.name (d.name ∷ earlier) ms base ds rest.1 (or_true_first (is_name d.name d.name) (list_any (is_name d.name) earlier) (itself d.name)))
            (f d.name (or_true_first (is_name d.name d.name) (list_any (is_name d.name) (names_of ds)) (itself d.name))),
        ones_distinct (d.name ∷ earlier) ms base ds vs rest.1 (λ w q. f w (or_true (is_name w d.name) (list_any (is_name w) (names_of ds)) q)) g,
      )

  any_first : (w : List ℕ) (xs ys : List (List ℕ)) → list_any (is_name w) xs ≡ true → list_any (is_name w) (xs ++ ys) ≡ true
  any_first w [] ys e = cc
  any_first w (x ∷ xs) ys e = by (any_first w xs ys) (is_name w x) e
    where
      by : (list_any (is_name w) xs ≡ true → list_any (is_name w) (xs ++ ys) ≡ true) → (b : Bool) → (b || list_any (is_name w) xs) ≡ true → (b || list_any (is_name w) (xs ++ ys)) ≡ true
      by i true q = refl
      by i false q = i q

  pub are_distinct : (funs vars : List (List ℕ)) (is : List ItemTree) → items_faults a funs vars is ≡ [] → AreDistinct (own_variables is)
  are_distinct funs vars [] e = tt
  are_distinct funs vars (Inherit line path ∷ is) e = are_distinct funs vars is e
  are_distinct funs vars (Proto line ms ty n ps ∷ is) e = are_distinct funs vars is (nothing_left _ _ e).1
  are_distinct funs vars (Fun line ms ty n ps b ∷ is) e = are_distinct (n ∷ funs) vars is (nothing_left _ _ e).1
  are_distinct funs vars (Var line ms base ds ∷ is) e =
      let rest = nothing_left _ _ e in
      ones_distinct vars ms base ds (own_variables is) rest.0 (λ w q. vars_apart w funs (names_of ds ++ vars) is rest.1 (any_first w (names_of ds) vars q)) (are_distinct funs (names_of ds ++ vars) is rest.1)

  -- no variable of the file has a name that the file sees in its parents
  ones_new : (w : List ℕ) (earlier : List (List ℕ)) (ms : List Modifier) (base : Base) (ds : List DeclaratorTree) (vs : List Variable) → globals_faults a earlier base ds ≡ []
      → (list_any (λ (v : Variable). is_name v.declared.name w) vs ≡ true → is_some (inherited_kind a.parents w) ≡ false)
      → list_any (λ (v : Variable). is_name v.declared.name w) (variables ms ds ++ vs) ≡ true → is_some (inherited_kind a.parents w) ≡ false
  ones_new w earlier ms base [] vs e f h = f h
  ones_new w earlier ms base (d ∷ ds) vs e f h =
      let rest = nothing_left _ _ e in
      by (is_name d.name w) refl (global_apart earlier base d rest.0).1 (ones_new w (d.name ∷ earlier) ms base ds vs rest.1 f) h
    where
      by : (b : Bool) → is_name d.name w ≡ b → is_some (inherited_kind a.parents d.name) ≡ false → (list_any (λ (v : Variable). is_name v.declared.name w) (variables ms ds ++ vs) ≡ true → is_some (inherited_kind a.parents w) ≡ false)
          → (b || list_any (λ (v : Variable). is_name v.declared.name w) (variables ms ds ++ vs)) ≡ true → is_some (inherited_kind a.parents w) ≡ false
      by true q n i t = ap (λ x. is_some (inherited_kind a.parents x)) (sym (same d.name w q)) ∙ n
      by false q n i t = i t

  pub are_new : (w : List ℕ) (funs vars : List (List ℕ)) (is : List ItemTree) → items_faults a funs vars is ≡ [] → list_any (λ (v : Variable). is_name v.declared.name w) (own_variables is) ≡ true → is_some (inherited_kind a.parents w) ≡ false
  are_new w funs vars [] e h = cc
  are_new w funs vars (Inherit line path ∷ is) e h = are_new w funs vars is e h
  are_new w funs vars (Proto line ms ty n ps ∷ is) e h = are_new w funs vars is (nothing_left _ _ e).1 h
  are_new w funs vars (Fun line ms ty n ps b ∷ is) e h = are_new w (n ∷ funs) vars is (nothing_left _ _ e).1 h
  are_new w funs vars (Var line ms base ds ∷ is) e h =
      let rest = nothing_left _ _ e in ones_new w vars ms base ds (own_variables is) rest.0 (are_new w funs (names_of ds ++ vars) is rest.1) h

pub sighted_any : (n : ℕ) (vs : List Variable) (w : List ℕ) → is_some (sighted_from n vs w) ≡ list_any (λ (v : Variable). is_name v.declared.name w) vs
sighted_any n [] w = refl
sighted_any n (v ∷ vs) w = by (is_name v.declared.name w) (sighted_any (suc n) vs w)
  where
    by : (b : Bool) → is_some (sighted_from (suc n) vs w) ≡ list_any (λ (u : Variable). is_name u.declared.name w) vs
        → is_some (if b then Some (record { place = n; is_hidden = is_private v.modifiers }) else sighted_from (suc n) vs w) ≡ (b || list_any (λ (u : Variable). is_name u.declared.name w) vs)
    by true i = refl
    by false i = i

-- What a file sees of its parents by their tables is what it sees in the tree.

neither : {A : Type 0} (x y : Option A) → is_some (or_else x y) ≡ false → (is_some x ≡ false) × (is_some y ≡ false)
neither (Some x) y e = cc
neither None y e = (refl, e)

nothing : {A : Type 0} (x : Option A) → is_some x ≡ false → x ≡ None
nothing None e = refl
nothing (Some x) e = cc

unseen : (n : ℕ) (rs : List VarRow) (w : List ℕ) → is_some (row_kind rs w) ≡ false → seen_from n rs w ≡ None
unseen n [] w e = refl
unseen n (r ∷ rs) w e =
    let q = neither _ _ e in
    ap (λ o. or_else o (if is_private_number r.mods then None else if is_name r.name w then Some n else None)) (unseen (suc n) rs w q.0) ∙ by (is_private_number r.mods) (is_name w r.name) refl q.1
  where
    turned : is_name w r.name ≡ false → is_name r.name w ≡ false
    turned f = elim (cases_Bool (is_name r.name w)) [
      | inl t ↦ absurd (differs (sym (subst (λ x. is_name w x ≡ true) (sym (same r.name w t)) (itself w)) ∙ f))
      | inr g ↦ g
    ]

    by : (b c : Bool) → is_name w r.name ≡ c → is_some (if b then None else if c then Some r.kind else None) ≡ false → (if b then None else if is_name r.name w then Some n else None) ≡ None
    by true c f g = refl
    by false true f g = cc
    by false false f g = ap (λ x. if x then Some n else None) (turned f)

place_unmoved : (n : ℕ) (o : Option ℕ) → o ≡ None → place_moved n o ≡ None
place_unmoved n o e = ap (place_moved n) e

pub none_outside : (hs : Heritages) (first : ℕ) (w : List ℕ) → AreUnambiguous hs → is_some (inherited_kind (tables hs) w) ≡ false → variable_last hs first w ≡ None
none_outside NoParent first w u e = refl
none_outside (OneParent h hs) first w u e =
    let q = neither _ _ e in
    ap (λ o. names_mean.or_else o (place_moved first (variable_outside h w))) (none_outside hs (first + variable_count h) w u.1 q.0)
    ∙ place_unmoved first (variable_outside h w) (sym (rows_seen h w u.0) ∙ unseen 0 (table h).vars w q.1)

-- A file has no more functions than rows can number.

no_first : (fs : List FaultAt) → first_fault fs ≡ None → fs ≡ []
no_first [] e = refl
no_first (f ∷ fs) e = cc

no_last : (a b : List FaultKind) → a ++ b ≡ [] → b ≡ []
no_last a b e = (nothing_left a b e).1

-- what is wrong with the whole stands at the first token
whole_fine : (m : Limits) (whole : List FaultKind) (earlier ts : List Tables) (i : ItemTree) (is : List ItemTree) → items_layout m whole earlier ts (i ∷ is) ≡ [] → whole ≡ []
whole_fine m whole earlier [] (Inherit line path) is e = no_kinds line whole (nothing_left _ _ e).0
whole_fine m whole earlier (t ∷ ts) (Inherit line path) is e = no_last _ whole (no_kinds line _ (nothing_left _ _ e).0)
whole_fine m whole earlier ts (Proto line ms ty w ps) is e = no_last _ whole (no_kinds line _ (nothing_left _ _ e).0)
whole_fine m whole earlier ts (Fun line ms ty w ps b) is e = no_last _ whole (no_kinds line _ (nothing_left _ _ (nothing_left _ _ e).0).0)
whole_fine m whole earlier ts (Var line ms base ds) is e = no_kinds line whole (nothing_left _ _ (nothing_left _ _ e).0).0

counted : (is : List ItemTree) → length (own_names is) ≡ functions is
counted [] = refl
counted (Inherit line path ∷ is) = counted is
counted (Proto line ms ty w ps ∷ is) = counted is
counted (Fun line ms ty w ps b ∷ is) = ap suc (counted is)
counted (Var line ms base ds ∷ is) = counted is

few : (most n : ℕ) → nat_lt most n ≡ false → n ≤ most
few most n e = elim (cases_lt most n) [ inl l ↦ absurd (differs (sym (lt-ltb most n l) ∙ e)) | inr g ↦ g ]

pub few_functions : (is : List ItemTree) (ts : List Tables) → layout_fault is ts ≡ None → length (own_names is) ≤ 65535
few_functions [] ts e = omega arith
few_functions (i ∷ is) ts e =
    let whole = whole_fine limits _ [] ts i is (no_first _ e) in
    let large : is_too_large limits (i ∷ is) ts ≡ false = not_when _ TooManyNames whole in
    let q = or_false _ _ (or_false _ _ (or_false _ _ large).0).0 in
    subst (λ n. n ≤ 65535) (sym (counted (i ∷ is))) (few 65535 (functions (i ∷ is)) q.1)

-- Parts and variables

parts_counted : (ts : List Tables) → length (parts_before ts) ≡ parts_of ts
parts_counted [] = refl
parts_counted (t ∷ ts) = length-append t.parts (parts_before ts) ∙ ap (λ n. length t.parts + n) (parts_counted ts)

-- a unit without an item has no parents
no_parents : (ts : List Tables) → length ts ≡ 0 → ts ≡ []
no_parents [] e = refl
no_parents (t ∷ ts) e = absurd (omega (arith, e))

few_parts : (is : List ItemTree) (ts : List Tables) → length ts ≡ inherits is → layout_fault is ts ≡ None → parts_of ts + 1 ≤ 65535
few_parts [] ts n e = let q : parts_of ts ≡ 0 = ap parts_of (no_parents ts n) in omega (arith, q)
few_parts (i ∷ is) ts n e =
    let whole = whole_fine limits _ [] ts i is (no_first _ e) in
    let large : is_too_large limits (i ∷ is) ts ≡ false = not_when _ TooManyNames whole in
    let q = or_false _ _ (or_false _ _ (or_false _ _ large).0).0 in
    let f : suc (parts_of ts) ≤ 65535 = few 65535 (suc (parts_of ts)) q.0 in
    omega (arith, f)

few_variables : (is : List ItemTree) (ts : List Tables) → length ts ≡ inherits is → layout_fault is ts ≡ None → length (laid_variables is ts 0) ≤ 65535
few_variables [] ts n e = let q : length (laid_variables [] ts 0) ≡ 0 = ap (λ us. length (laid_variables [] us 0)) (no_parents ts n) in omega (arith, q)
few_variables (i ∷ is) ts n e =
    let whole = whole_fine limits _ [] ts i is (no_first _ e) in
    let large : is_too_large limits (i ∷ is) ts ≡ false = not_when _ TooManyNames whole in
    few 65535 (length (laid_variables (i ∷ is) ts 0)) (or_false _ _ (or_false _ _ large).0).1

-- The law

pub faultless_is_fine : FaultlessIsFine
faultless_is_fine (Heir n v ps) ts f =
    let layout : layout_fault v.items (tables ps) ≡ None = subst (λ us. layout_fault v.items us ≡ None) (sym f.parents) f.layout in
    let each : length (tables ps) ≡ inherits v.items = ap length f.parents ∙ f.each in
    let a : Around = record { mode = v.pragmas.types; items = v.items; parents = ts; simuls = v.simuls } in
    record {
      numbered = (few_functions v.items ts f.layout, f.numbered);
      unambiguous = (
        are_distinct a [] [] v.items f.types,
        (λ w s. none_outside ps 0 w f.unambiguous (subst (λ us. is_some (inherited_kind us w) ≡ false) (sym f.parents) (are_new a w [] [] v.items f.types (sym (sighted_any 0 (own_variables v.items) w) ∙ s)))),
        f.unambiguous,
      );
      once = (are_once a [] [] v.items f.types, f.once);
      parts = let c = length-append (parts_before (tables ps)) (n ∷ []) in let d = parts_counted (tables ps) in let e = few_parts v.items (tables ps) each layout in omega (arith, c, d, e);
      variables = few_variables v.items (tables ps) each layout;
    }
