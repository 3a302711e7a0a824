-- Loads lead to one end.
use Rattle.std.proofs.Common.{◌≡◌, ◌∙◌, ℕ, List, [], ◌∷◌, ◌++◌, Bool, true, false, Option, Some, None, refl, sym, ap, subst, length, arith}
use Rattle.std.proofs.lemmas.Bool.{true≢false}
use Rattle.std.proofs.lemmas.Option.{none-some, same_Some}
use Rattle.lp_files.specs.declared.store.Store.{Store}
use Rattle.lp_tree.specs.declared.fault.Fault.{Fault}
use Rattle.lp_tree.specs.declared.fault.FaultKind.{FaultKind}
use Rattle.lp_tree.specs.declared.pragma.Pragmas.{Pragmas}
use Rattle.lp_tree.specs.Units.{ItemTree}
use Rattle.lp_code.specs.declared.tables.Tables.{Tables}
use Rattle.lp_front.specs.declared.parents.Parent.{Parent}
use Rattle.lp_front.specs.Names.{parents_in}
use Rattle.lp_loads.specs.Loads.{Load, Loaded, load_of, with_fault, is_under_way, Found, Stands, Wrong, Lacks, found_version, Family, Broken, with_parent, ended, Loads, unread, read, LoadsParent, known, itself, deep, new, LoadsParents, all, stands, wrong, lacks, LoadsAll, none, again, first}
use Rattle.lp_check.proofs.OneAnswer.{Agree}

-- what an `inherit` leads to, apart
abbrev tables_in : Found → Option Tables
tables_in (Stands t) = Some t
tables_in (Wrong k) = None
tables_in Lacks = None

abbrev wrong_in : Found → Option FaultKind
wrong_in (Stands t) = None
wrong_in (Wrong k) = Some k
wrong_in Lacks = None

abbrev lacks_in : Found → Bool
lacks_in (Stands t) = false
lacks_in (Wrong k) = false
lacks_in Lacks = true

there_and_not : {A : Type 0} (o : Option Load) (l : Load) → o ≡ Some l → o ≡ None → A
there_and_not o l e n = absurd (none-some l (sym n ∙ e))

both : {A : Type 0} (b : Bool) → b ≡ true → b ≡ false → A
both b t f = absurd (true≢false (sym t ∙ f))

same_version : (before : Loaded) (file : List ℕ) (l m : Load) → load_of before file ≡ Some l → load_of before file ≡ Some m → found_version l.version ≡ found_version m.version
same_version before file l m e d = ap (λ (x : Load). found_version x.version) (same_Some l m (sym e ∙ d))

same_end : (simuls : List (List ℕ)) (file : List ℕ) (is js : List ItemTree) (p q : Pragmas) (f g : Family) (x y : Loaded) → is ≡ js → p ≡ q → x ≡ y → f ≡ g → ended simuls file is p (length x) f ∷ x ≡ ended simuls file js q (length y) g ∷ y
same_end simuls file is js p q f g x y a b c d =
    ap (λ (i : List ItemTree). ended simuls file i p (length x) f ∷ x) a
    ∙ ap (λ (r : Pragmas). ended simuls file js r (length x) f ∷ x) b
    ∙ ap (λ (z : Loaded). ended simuls file js q (length z) f ∷ z) c
    ∙ ap (λ (h : Family). ended simuls file js q (length y) h ∷ y) d

module _ {r s : Store} (agree : Agree r s) (simuls : List (List ℕ)) where
  mutual
    pub one_load : {under : List (List ℕ)} {file : List ℕ} {before x y : Loaded} → Loads r simuls under file before x → Loads s simuls under file before y → x ≡ y
    one_load {file = file} {before = before} (unread {fault = a} h) (unread {fault = b} i) = ap (λ (f : Fault). with_fault file f ∷ before) (agree.faults file a b h i)
    one_load {file = file} (unread {fault = a} h) (read {items = js} {pragmas = q} e m) = absurd (agree.apart_too file js q a h e)
    one_load {file = file} (read {items = is} {pragmas = p} d l) (unread {fault = b} i) = absurd (agree.apart file is p b d i)
    one_load {under = under} {file = file} {before = before} (read {after = x} {items = is} {pragmas = p} {family = f} d l) (read {after = y} {items = js} {pragmas = q} {family = g} e m) =
        let a = agree.declared file is js p q d e in
        let o = one_parents l (subst (λ (i : List ItemTree). LoadsParents s simuls (under ++ file ∷ []) (parents_in i) before y g) (sym a.0) m) in
        same_end simuls file is js p q f g x y a.0 a.1 o.0 o.1

    one_parent : {under : List (List ℕ)} {file : List ℕ} {before x y : Loaded} {f g : Found} → LoadsParent r simuls under file before x f → LoadsParent s simuls under file before y g → (x ≡ y) × (f ≡ g)
    one_parent {file = file} {before = before} (known {l = l} e) (known {l = m} d) = (refl, same_version before file l m e d)
    one_parent {file = file} {before = before} (known {l = l} e) (itself n w) = there_and_not (load_of before file) l e n
    one_parent {file = file} {before = before} (known {l = l} e) (deep n w k) = there_and_not (load_of before file) l e n
    one_parent {file = file} {before = before} (known {l = l} e) (new n w k h i) = there_and_not (load_of before file) l e n
    one_parent {file = file} {before = before} (itself n w) (known {l = m} d) = there_and_not (load_of before file) m d n
    one_parent (itself n w) (itself n' w') = (refl, refl)
    one_parent {under = under} {file = file} (itself n w) (deep n' w' k) = both (is_under_way under file) w w'
    one_parent {under = under} {file = file} (itself n w) (new n' w' k h i) = both (is_under_way under file) w w'
    one_parent {file = file} {before = before} (deep n w k) (known {l = m} d) = there_and_not (load_of before file) m d n
    one_parent {under = under} {file = file} (deep n w k) (itself n' w') = both (is_under_way under file) w' w
    one_parent (deep n w k) (deep n' w' k') = (refl, refl)
    one_parent (deep n w k) (new n' w' k' h i) = absurd (omega (arith, k, k'))
    one_parent {file = file} {before = before} (new n w k h i) (known {l = m} d) = there_and_not (load_of before file) m d n
    one_parent {under = under} {file = file} (new n w k h i) (itself n' w') = both (is_under_way under file) w' w
    one_parent (new n w k h i) (deep n' w' k') = absurd (omega (arith, k, k'))
    one_parent {file = file} (new {after = x} {l = l} n w k h i) (new {after = y} {l = m} n' w' k' h' i') =
        let e = one_load h h' in
        (e, same_version x file l m i (ap (λ (z : Loaded). load_of z file) e ∙ i'))

    one_parents : {under : List (List ℕ)} {ps : List Parent} {before x y : Loaded} {f g : Family} → LoadsParents r simuls under ps before x f → LoadsParents s simuls under ps before y g → (x ≡ y) × (f ≡ g)
    one_parents all all = (refl, refl)
    one_parents {under = under} (stands {ps = ps} {after = x} {t = t} {family = f} h l) (stands {after = y} {t = u} {family = g} i m) =
        let o = one_parent h i in
        let q = one_parents l (subst (λ (z : Loaded). LoadsParents s simuls under ps z y g) (sym o.0) m) in
        (q.0, ap (λ (v : Tables). with_parent v f) (same_Some t u (ap tables_in o.1)) ∙ ap (with_parent u) q.1)
    one_parents (stands {t = t} h l) (wrong {kind = k} i) = absurd (none-some t (sym (ap tables_in (one_parent h i).1)))
    one_parents (stands {t = t} h l) (lacks i) = absurd (none-some t (sym (ap tables_in (one_parent h i).1)))
    one_parents (wrong {kind = k} h) (stands {t = u} i m) = absurd (none-some u (ap tables_in (one_parent h i).1))
    one_parents (wrong {p = p} {kind = k} h) (wrong {kind = j} i) =
        let o = one_parent h i in
        (o.0, ap (λ (x : FaultKind). Broken x p.line) (same_Some k j (ap wrong_in o.1)))
    one_parents (wrong {kind = k} h) (lacks i) = absurd (none-some k (sym (ap wrong_in (one_parent h i).1)))
    one_parents (lacks h) (stands {t = u} i m) = absurd (none-some u (ap tables_in (one_parent h i).1))
    one_parents (lacks h) (wrong {kind = j} i) = absurd (none-some j (ap wrong_in (one_parent h i).1))
    one_parents (lacks h) (lacks i) = ((one_parent h i).0, refl)

  pub one_of_all : {paths : List (List ℕ)} {before x y : Loaded} → LoadsAll r simuls paths before x → LoadsAll s simuls paths before y → x ≡ y
  one_of_all none none = refl
  one_of_all (again e l) (again d m) = one_of_all l m
  one_of_all {before = before} (again {file = file} {l = k} e l) (first n h m) = there_and_not (load_of before file) k e n
  one_of_all {before = before} (first {file = file} n h l) (again {l = k} d m) = there_and_not (load_of before file) k d n
  one_of_all (first {rest = rest} n h l) (first {between = b} {after = y} n' h' m) = one_of_all l (subst (λ (z : Loaded). LoadsAll s simuls rest z y) (sym (one_load h h')) m)
