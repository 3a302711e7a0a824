-- Functions that are found stand in the text of their part.
use Rattle.std.proofs.Common.{◌≡◌, ℕ, suc, arith, refl, sym, ◌∙◌, ap, subst, Bool, true, false, List, [], ◌∷◌, length, length-append, Option, Some, None}
use Rattle.std.specs.Prelude.{◌+◌, slice_get, if◌then◌else◌, map}
use Rattle.lp_tree.specs.Units.{ItemTree, Inherit, Proto, Fun, Var}
use Rattle.lp_values.specs.declared.id.ProgId.{ProgId}
use Rattle.lp_instr.specs.EfunList.{is_name}
use Rattle.lp_language.specs.World.{Version}
use Rattle.lp_language.specs.Resolve.{Heritage, Heir, Heritages, NoParent, OneParent, Found, Function, Part, found_in, moved, shown, or_else, resolve, resolve_last, own_function, part_at, part_count, parts_before, parent_from, parents_of, version_of, is_private}
use Rattle.lp_isa.specs.Programs.{own_functions, fun_from, fun_in}
use Rattle.lp_layout.proofs.RowLaid.{same_name}
use Rattle.lp_inherit.specs.Heirs.{tree_of_part}
use Rattle.lp_inherit.proofs.Numbers.{trees, trees_before, part_read}
use Rattle.lp_part_laws.specs.Parts.{IsInText}
use Rattle.lp_part_laws.proofs.Lists.{past, Holds, holds_all, holds_within, holds_front, holds_back}
use Rattle.lp_part_laws.proofs.Places.{part_inside, parent_inside, shifted}

plus_one : (n : ℕ) → n + 1 ≡ suc n
plus_one n = omega arith

mutual
  count_trees : (h : Heritage) → length (trees h) ≡ part_count h
  count_trees (Heir n v ps) = length-append (trees_before ps) (Heir n v ps ∷ []) ∙ plus_one (length (trees_before ps)) ∙ ap suc (count_trees_before ps)

  count_trees_before : (hs : Heritages) → length (trees_before hs) ≡ parts_before hs
  count_trees_before NoParent = refl
  count_trees_before (OneParent h hs) = length-append (trees h) (trees_before hs) ∙ ap (λ z. z + length (trees_before hs)) (count_trees h) ∙ ap (λ z. part_count h + z) (count_trees_before hs)

-- a file's function has the name by which it was found
pub own_named : (is : List ItemTree) (w : List ℕ) (f : Function) → own_function is w ≡ Some f → f.name ≡ w
own_named [] w f e = absurd cc
own_named (Inherit line path ∷ is) w f e = own_named is w f e
own_named (Proto line ms ty name ps ∷ is) w f e = own_named is w f e
own_named (Fun line ms ty name ps b ∷ is) w f e = by (is_name name w) refl e (own_named is w f)
  where
    this : Function
    this = record { name = name; modifiers = ms; parameters = map (λ p. p.name) ps; body = b.stmts }

    by : (c : Bool) → is_name name w ≡ c → (if c then Some this else own_function is w) ≡ Some f → (own_function is w ≡ Some f → f.name ≡ w) → f.name ≡ w
    by true q e ih = let s : this ≡ f = cc in sym (ap (λ (x : Function). x.name) s) ∙ same_name name w q
    by false q e ih = ih e
own_named (Var line ms base ds ∷ is) w f e = own_named is w f e

-- In the text of a tree among some stands what a name means.
record Told (ts : List Heritage) (w : List ℕ) (f : Found) : Type 0 where
  pub tree : Heritage
  pub there : slice_get ts f.part ≡ Some tree
  pub own : own_function (version_of tree).items w ≡ Some f.function

told_if : (ts : List Heritage) (n : ProgId) (v : Version) (ps : Heritages) (part : ℕ) (w : List ℕ) (f : Found) (o : Option Function) (last : Option Found) → slice_get ts part ≡ Some (Heir n v ps) → own_function v.items w ≡ o
    → (last ≡ Some f → Told ts w f) → or_else (found_in part o) last ≡ Some f → Told ts w f
told_if ts n v ps part w f None last e q h g = h g
told_if ts n v ps part w f (Some x) last e q h g =
    let s : record { part = part; function = x } ≡ f = cc in
    subst (Told ts w) s (record { tree = Heir n v ps; there = e; own = q })

told_shown : (ts : List Heritage) (first : ℕ) (xs : List Heritage) (w : List ℕ) (f : Found) (o : Option Found) → Holds ts first xs → ((g : Found) → o ≡ Some g → Told xs w g) → moved first (shown o) ≡ Some f → Told ts w f
told_shown ts first xs w f None h t e = absurd cc
told_shown ts first xs w f (Some g) h t e = by (is_private g.function.modifiers) e
  where
    by : (b : Bool) → moved first (if b then None else Some g) ≡ Some f → Told ts w f
    by true e = absurd cc
    by false e =
        let s : record { part = first + g.part; function = g.function } ≡ f = cc in
        let i = t g refl in
        subst (Told ts w) s (record { tree = i.tree; there = h g.part i.tree i.there; own = i.own })

told_either : (ts : List Heritage) (w : List ℕ) (f : Found) (a b : Option Found) → (a ≡ Some f → Told ts w f) → (b ≡ Some f → Told ts w f) → or_else a b ≡ Some f → Told ts w f
told_either ts w f None b x y e = y e
told_either ts w f (Some g) b x y e = x e

at_end : (n : ProgId) (v : Version) (ps : Heritages) → slice_get (trees (Heir n v ps)) (parts_before ps) ≡ Some (Heir n v ps)
at_end n v ps = let c = count_trees_before ps in let e : parts_before ps ≡ length (trees_before ps) + 0 = omega (arith, c) in
    ap (slice_get (trees (Heir n v ps))) e ∙ past (trees_before ps) (Heir n v ps ∷ []) 0

mutual
  told : (h : Heritage) (w : List ℕ) (f : Found) → resolve h w ≡ Some f → Told (trees h) w f
  told (Heir n v ps) w f e = told_if (trees (Heir n v ps)) n v ps (parts_before ps) w f (own_function v.items w) (resolve_last ps 0 w) (at_end n v ps) refl
      (told_last ps (trees (Heir n v ps)) 0 w f (holds_within (trees_before ps) (Heir n v ps ∷ []) (trees_before ps) 0 (holds_all (trees_before ps)))) e

  told_last : (hs : Heritages) (ts : List Heritage) (first : ℕ) (w : List ℕ) (f : Found) → Holds ts first (trees_before hs) → resolve_last hs first w ≡ Some f → Told ts w f
  told_last NoParent ts first w f h e = absurd cc
  told_last (OneParent t hs) ts first w f h e = told_either ts w f (resolve_last hs (first + part_count t) w) (moved first (shown (resolve t w)))
      (told_last hs ts (first + part_count t) w f (subst (λ z. Holds ts (first + z) (trees_before hs)) (count_trees t) (holds_back ts first (trees t) (trees_before hs) h)))
      (told_shown ts first (trees t) w f (resolve t w) (holds_front ts first (trees t) (trees_before hs) h) (λ g q. told t w g q)) e

tree_there : (o : Option Part) (t : Heritage) → tree_of_part o ≡ Some t → (p : Part) × (o ≡ Some p) × (p.tree ≡ t)
tree_there None t e = absurd cc
tree_there (Some p) t e = (p, refl, let s : p.tree ≡ t = cc in s)

-- what resolve gives stands in the text of its part, under the name
pub resolved_named : (h : Heritage) (w : List ℕ) (f : Found) → resolve h w ≡ Some f → f.function.name ≡ w
resolved_named h w f e = let t = told h w f e in own_named (version_of t.tree).items w f.function t.own

pub resolved_in_text : (h : Heritage) (w : List ℕ) (f : Found) → resolve h w ≡ Some f → IsInText h f
resolved_in_text h w f e =
    let t = told h w f e in
    let p = tree_there (part_at h f.part) t.tree (part_read h f.part ∙ t.there) in
    record {
      place = p.0;
      at = p.1;
      own = ap (λ (x : Heritage). own_function (version_of x).items f.function.name) p.2 ∙ ap (λ z. own_function (version_of t.tree).items z) (own_named (version_of t.tree).items w f.function t.own) ∙ t.own;
    }

-- and so it does seen from the whole
pub moved_in_text : (h : Heritage) (i : ℕ) (p : Part) (f : Found) → part_at h i ≡ Some p → IsInText p.tree f → IsInText h (record { part = p.first + f.part; function = f.function })
moved_in_text h i p f e t = record { place = shifted p.first p.base t.place; at = part_inside h i f.part p t.place e t.at; own = t.own }

pub parent_in_text : (t : Heritage) (j : ℕ) (q : Part) (f : Found) → parent_from (parents_of t) 0 j ≡ Some q → IsInText q.tree f → IsInText t (record { part = q.first + f.part; function = f.function })
parent_in_text t j q f e s = let x = parent_inside t j f.part q s.place e s.at in record { place = shifted q.first x.0 s.place; at = x.1; own = s.own }

-- The row of a function in its file, by its name.

pub first_row : (k : ℕ) (is : List ItemTree) (w : List ℕ) (f : Function) (r : ℕ) → own_function is w ≡ Some f → fun_from k (own_functions is) w ≡ Some r → (j : ℕ) × (r ≡ k + j) × (slice_get (own_functions is) j ≡ Some f)
first_row k [] w f r e g = absurd cc
first_row k (Inherit line path ∷ is) w f r e g = first_row k is w f r e g
first_row k (Proto line ms ty name ps ∷ is) w f r e g = first_row k is w f r e g
first_row k (Fun line ms ty name ps b ∷ is) w f r e g = by (is_name name w) e g (first_row (k + 1) is w f r)
  where
    this : Function
    this = record { name = name; modifiers = ms; parameters = map (λ p. p.name) ps; body = b.stmts }

    by : (c : Bool) → (if c then Some this else own_function is w) ≡ Some f → (if c then Some k else fun_from (k + 1) (own_functions is) w) ≡ Some r
        → (own_function is w ≡ Some f → fun_from (k + 1) (own_functions is) w ≡ Some r → (j : ℕ) × (r ≡ (k + 1) + j) × (slice_get (own_functions is) j ≡ Some f))
        → (j : ℕ) × (r ≡ k + j) × (slice_get (this ∷ own_functions is) j ≡ Some f)
    by true e g ih = (0, (let s : k ≡ r = cc in let z : r ≡ k + 0 = omega (arith, s) in z), e)
    by false e g ih = let i = ih e g in (suc i.0, (let s = i.1 in let z : r ≡ k + suc i.0 = omega (arith, s) in z), i.2)
first_row k (Var line ms base ds ∷ is) w f r e g = first_row k is w f r e g

pub row_in_text : (p : Part) (f : Function) (r : ℕ) → own_function (version_of p.tree).items f.name ≡ Some f → fun_in (Some p) f.name ≡ Some r → slice_get (own_functions (version_of p.tree).items) r ≡ Some f
row_in_text p f r e g = let i = first_row 0 (version_of p.tree).items f.name f r e g in let z : r ≡ i.0 = let s = i.1 in omega (arith, s) in ap (slice_get (own_functions (version_of p.tree).items)) z ∙ i.2
