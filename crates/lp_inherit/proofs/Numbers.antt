-- The numbers of rows lead to the functions of their parts.
use Rattle.std.proofs.Common.{◌≡◌, ℕ, zero, suc, arith, refl, sym, ◌∙◌, ap, subst, Bool, true, false, ◌&&◌, not, List, [], ◌∷◌, ◌++◌, map, length, length-append, Option, Some, None}
use Rattle.std.proofs.lemmas.List.{map-append, append_assoc}
use Rattle.std.specs.Prelude.{◌+◌, ⊤, slice_get, if◌then◌else◌}
use Rattle.lp_tree.specs.Units.{ItemTree, Inherit, Proto, Fun, Var}
use Rattle.lp_values.specs.declared.id.ProgId.{ProgId}
use Rattle.lp_code.specs.declared.tables.Slot.{Slot}
use Rattle.lp_language.specs.World.{Version}
use Rattle.lp_instr.specs.EfunList.{is_name}
use Rattle.lp_language.specs.Resolve.{Heritage, Heir, Heritages, NoParent, OneParent, Found, Function, Part, found_in, moved, shown, resolve, resolve_last, own_function, part_at, parts, parts_from, parents_parts, part_count, parts_before, variable_count, version_of, or_else as or_found, is_private}
use Rattle.lp_types_expr.specs.Signatures.{or_else, is_private_number, has_function}
use Rattle.lp_layout.specs.Layout.{slot, own_slot, slot_named, slot_shown, last_slot, parts_of}
use Rattle.lp_inherit.specs.Heirs.{table, tables, with_function, own_functions, functions_in, tree_of_part, NumberLeads, IsNumbered, AreNumbered}
use Rattle.lp_layout.proofs.RowLaid.{row_laid}
use Rattle.lp_inherit.proofs.Meanings.{Agree, own_agrees, last_agrees, parts_same, count_parts, rest_no}

-- The trees of the parts

abbrev mutual
  pub trees : Heritage → List Heritage
  trees (Heir n v ps) = trees_before ps ++ Heir n v ps ∷ []

  pub trees_before : Heritages → List Heritage
  trees_before NoParent = []
  trees_before (OneParent h hs) = trees h ++ trees_before hs

mutual
  parts_trees : (h : Heritage) (a b : ℕ) → map (λ p. p.tree) (parts_from h a b) ≡ trees h
  parts_trees (Heir n v ps) a b = map-append (λ p. p.tree) (parents_parts ps a b) (record { tree = Heir n v ps; first = a; base = b } ∷ []) ∙ ap (λ z. z ++ Heir n v ps ∷ []) (before_trees ps a b)

  before_trees : (hs : Heritages) (a b : ℕ) → map (λ p. p.tree) (parents_parts hs a b) ≡ trees_before hs
  before_trees NoParent a b = refl
  before_trees (OneParent h hs) a b = map-append (λ p. p.tree) (parts_from h a b) (parents_parts hs (a + part_count h) (b + variable_count h))
      ∙ ap (λ z. z ++ map (λ p. p.tree) (parents_parts hs (a + part_count h) (b + variable_count h))) (parts_trees h a b)
      ∙ ap (λ z. trees h ++ z) (before_trees hs (a + part_count h) (b + variable_count h))

tree_read : (ps : List Part) (k : ℕ) → tree_of_part (slice_get ps k) ≡ slice_get (map (λ p. p.tree) ps) k
tree_read [] k = refl
tree_read (p ∷ ps) zero = refl
tree_read (p ∷ ps) (suc k) = tree_read ps k

pub part_read : (h : Heritage) (k : ℕ) → tree_of_part (part_at h k) ≡ slice_get (trees h) k
part_read h k = tree_read (parts h) k ∙ ap (λ z. slice_get z k) (parts_trees h 0 0)

plus_one : (n : ℕ) → n + 1 ≡ suc n
plus_one n = omega arith

mutual
  count_trees : (h : Heritage) → length (trees h) ≡ part_count h
  count_trees (Heir n v ps) = length-append (trees_before ps) (Heir n v ps ∷ []) ∙ plus_one (length (trees_before ps)) ∙ ap suc (count_trees_before ps)

  count_trees_before : (hs : Heritages) → length (trees_before hs) ≡ parts_before hs
  count_trees_before NoParent = refl
  count_trees_before (OneParent h hs) = length-append (trees h) (trees_before hs) ∙ ap (λ z. z + length (trees_before hs)) (count_trees h) ∙ ap (λ z. part_count h + z) (count_trees_before hs)

-- Places in lists

past : {A : Type 0} (xs ys : List A) (k : ℕ) → slice_get (xs ++ ys) (length xs + k) ≡ slice_get ys k
past [] ys k = let e : 0 + k ≡ k = omega arith in ap (slice_get ys) e
past (x ∷ xs) ys k = let e : suc (length xs) + k ≡ suc (length xs + k) = omega arith in ap (slice_get (x ∷ xs ++ ys)) e ∙ past xs ys k

within : {A : Type 0} (xs ys : List A) (k : ℕ) (x : A) → slice_get xs k ≡ Some x → slice_get (xs ++ ys) k ≡ Some x
within [] ys k x h = absurd cc
within (y ∷ xs) ys zero x h = h
within (y ∷ xs) ys (suc k) x h = within xs ys k x h

-- A row leads to its function in a list of trees.
abbrev Leads : List Heritage → Option Slot → Option Found → Type 0
Leads ts (Some s) (Some f) = slice_get (functions_in (slice_get ts s.part)) s.fun ≡ Some f.function
Leads ts _ _ = ⊤

-- a file's own function
own_read : (k part : ℕ) (is : List ItemTree) (w : List ℕ) (fs : List Function) → length fs ≡ k → (s : Slot) (f : Found) → own_slot k part is w ≡ Some s → found_in part (own_function is w) ≡ Some f → (s.part ≡ part) × (slice_get (fs ++ own_functions is) s.fun ≡ Some f.function)
own_read k part [] w fs l s f a b = absurd cc
own_read k part (Inherit line path ∷ is) w fs l s f a b = own_read k part is w fs l s f a b
own_read k part (Proto line ms ty name ps ∷ is) w fs l s f a b = own_read k part is w fs l s f a b
own_read k part (Fun line ms ty name ps bl ∷ is) w fs l s f a b = by (own_read (suc k) part is w (fs ++ this ∷ []) (length-append fs (this ∷ []) ∙ plus_one (length fs) ∙ ap suc l) s f) (is_name name w) a b
  where
    this : Function
    this = record { name = name; modifiers = ms; parameters = map (λ p. p.name) ps; body = bl.stmts }

    here : slice_get (fs ++ this ∷ own_functions is) k ≡ Some this
    here = let e : k ≡ length fs + 0 = omega (arith, l) in ap (slice_get (fs ++ this ∷ own_functions is)) e ∙ past fs (this ∷ own_functions is) 0

    by : (own_slot (suc k) part is w ≡ Some s → found_in part (own_function is w) ≡ Some f → (s.part ≡ part) × (slice_get ((fs ++ this ∷ []) ++ own_functions is) s.fun ≡ Some f.function))
        → (b : Bool) → (if b then Some (slot w part k ms ty ps) else own_slot (suc k) part is w) ≡ Some s → found_in part (if b then Some this else own_function is w) ≡ Some f → (s.part ≡ part) × (slice_get (fs ++ this ∷ own_functions is) s.fun ≡ Some f.function)
    by ih true a b = let p : slot w part k ms ty ps ≡ s = cc in let q : record { part = part; function = this } ≡ f = cc in
        (sym (ap (λ (z : Slot). z.part) p), ap (slice_get (fs ++ this ∷ own_functions is)) (sym (ap (λ (z : Slot). z.fun) p)) ∙ here ∙ ap (λ (z : Found). Some z.function) q)
    by ih false a b = let r = ih a b in (r.0, ap (λ z. slice_get z s.fun) (sym (append_assoc fs (this ∷ []) (own_functions is))) ∙ r.1)
own_read k part (Var line ms base ds ∷ is) w fs l s f a b = own_read k part is w fs l s f a b

-- Some trees stand in a list from a place on.
abbrev Holds : List Heritage → ℕ → List Heritage → Type 0
Holds ts first xs = (k : ℕ) (t : Heritage) → slice_get xs k ≡ Some t → slice_get ts (first + k) ≡ Some t

there : (ts : List Heritage) (first : ℕ) (xs : List Heritage) → Holds ts first xs → (k n : ℕ) (f : Function) → slice_get (functions_in (slice_get xs k)) n ≡ Some f → slice_get (functions_in (slice_get ts (first + k))) n ≡ Some f
there ts first xs h k n f e = by (slice_get xs k) refl e
  where
    by : (o : Option Heritage) → slice_get xs k ≡ o → slice_get (functions_in o) n ≡ Some f → slice_get (functions_in (slice_get ts (first + k))) n ≡ Some f
    by None d g = absurd cc
    by (Some t) d g = ap (λ z. slice_get (functions_in z) n) (h k t d) ∙ g

holds_first : (ts : List Heritage) (first : ℕ) (h : Heritage) (hs : Heritages) → Holds ts first (trees h ++ trees_before hs) → Holds ts first (trees h)
holds_first ts first h hs g = λ k t e. g k t (within (trees h) (trees_before hs) k t e)

holds_others : (ts : List Heritage) (first : ℕ) (h : Heritage) (hs : Heritages) → Holds ts first (trees h ++ trees_before hs) → Holds ts (first + part_count h) (trees_before hs)
holds_others ts first h hs g = λ k t e.
    let d : (first + part_count h) + k ≡ first + (length (trees h) + k) = omega (arith, count_trees h) in
    ap (slice_get ts) d ∙ g (length (trees h) + k) t (past (trees h) (trees_before hs) k ∙ e)

own_leads : (ts : List Heritage) (part : ℕ) (t : Heritage) (w : List ℕ) → slice_get ts part ≡ Some t → Leads ts (own_slot 0 part (version_of t).items w) (found_in part (own_function (version_of t).items w))
own_leads ts part t w e = by (own_slot 0 part (version_of t).items w) refl (found_in part (own_function (version_of t).items w)) refl
  where
    by : (o : Option Slot) → own_slot 0 part (version_of t).items w ≡ o → (x : Option Found) → found_in part (own_function (version_of t).items w) ≡ x → Leads ts o x
    by None a x b = tt
    by (Some s) a None b = tt
    by (Some s) a (Some f) b = let r = own_read 0 part (version_of t).items w [] refl s f a b in
        ap (λ z. slice_get (functions_in z) s.fun) (ap (slice_get ts) r.0 ∙ e) ∙ r.1

lead_if : (ts : List Heritage) (b : Bool) (s : Slot) (x : Option Found) → (b ≡ true → Leads ts (Some s) x) → Leads ts (if b then Some s else None) x
lead_if ts true s x h = h refl
lead_if ts false s x h = tt

both_true : (a b : Bool) → (a && b) ≡ true → b ≡ true
both_true true b e = e
both_true false b e = absurd cc

shown_leads : (ts : List Heritage) (first : ℕ) (xs : List Heritage) (r : Option Slot) (o : Option Found) → Holds ts first xs → Leads xs (with_function r) o → Leads ts (slot_shown true first r) (moved first (shown o))
shown_leads ts first xs None o h l = tt
shown_leads ts first xs (Some s) o h l = lead_if ts (not (is_private_number s.mods) && has_function s) (record s { part = first + s.part }) (moved first (shown o)) (λ e. by o (both_true (not (is_private_number s.mods)) (has_function s) e) l)
  where
    seen : (f : Found) (b : Bool) → slice_get (functions_in (slice_get ts (first + s.part))) s.fun ≡ Some f.function → Leads ts (Some (record s { part = first + s.part })) (moved first (if b then None else Some f))
    seen f true e = tt
    seen f false e = e

    by : (o : Option Found) → has_function s ≡ true → Leads xs (if has_function s then Some s else None) o → Leads ts (Some (record s { part = first + s.part })) (moved first (shown o))
    by None e m = tt
    by (Some f) e m = let g : Leads xs (Some s) (Some f) = subst (λ z. Leads xs (if z then Some s else None) (Some f)) e m in
        seen f (is_private f.function.modifiers) (there ts first xs h s.part s.fun f.function g)

either_leads : (ts : List Heritage) (a b : Option Slot) (x y : Option Found) → Agree a x → Leads ts a x → Leads ts b y → Leads ts (or_else a b) (or_found x y)
either_leads ts None b None y m h l = l
either_leads ts (Some s) b (Some f) y m h l = h
either_leads ts None b (Some f) y m h l = absurd m
either_leads ts (Some s) b None y m h l = absurd m

led : (ts : List Heritage) (a l rest : Option Slot) (x y : Option Found) → Agree a x → Agree l y → (l ≡ None → with_function rest ≡ None) → Leads ts a x → Leads ts l y → Leads ts (with_function (or_else a (or_else l rest))) (or_found x y)
led ts (Some s) l rest (Some f) y m n r h g = lead_if ts (has_function s) s (Some f) (λ e. h)
led ts None (Some s) rest None (Some f) m n r h g = lead_if ts (has_function s) s (Some f) (λ e. g)
led ts None None rest None None m n r h g = subst (λ z. Leads ts z None) (sym (r refl)) tt
led ts None (Some s) rest None None m n r h g = absurd n
led ts None None rest None (Some f) m n r h g = absurd n
led ts (Some s) l rest None y m n r h g = absurd m
led ts None l rest (Some f) y m n r h g = absurd m

at_end : (n : ProgId) (v : Version) (ps : Heritages) → slice_get (trees (Heir n v ps)) (parts_before ps) ≡ Some (Heir n v ps)
at_end n v ps = let e : parts_before ps ≡ length (trees_before ps) + 0 = omega (arith, count_trees_before ps) in
    ap (slice_get (trees (Heir n v ps))) e ∙ past (trees_before ps) (Heir n v ps ∷ []) 0

from_start : (n : ProgId) (v : Version) (ps : Heritages) → Holds (trees (Heir n v ps)) 0 (trees_before ps)
from_start n v ps = λ k t e. let d : 0 + k ≡ k = omega arith in ap (slice_get (trees (Heir n v ps))) d ∙ within (trees_before ps) (Heir n v ps ∷ []) k t e

mutual
  leads : (h : Heritage) (w : List ℕ) → IsNumbered h → Leads (trees h) (with_function (slot_named (table h).slots w)) (resolve h w)
  leads (Heir n v ps) w c = subst (λ z. Leads (trees (Heir n v ps)) (with_function z) (resolve (Heir n v ps) w)) (sym (row_laid v.items (tables ps) w))
      (led (trees (Heir n v ps)) (own_slot 0 (parts_of (tables ps)) v.items w) (last_slot true (tables ps) 0 w) _ (found_in (parts_before ps) (own_function v.items w)) (resolve_last ps 0 w)
      (subst (λ z. Agree (own_slot 0 z v.items w) (found_in (parts_before ps) (own_function v.items w))) (sym (parts_same ps)) (own_agrees 0 (parts_before ps) v.items w (omega (arith, c.0))))
      (last_agrees ps 0 w c.1)
      (rest_no v.items (tables ps) w)
      (subst (λ z. Leads (trees (Heir n v ps)) (own_slot 0 z v.items w) (found_in (parts_before ps) (own_function v.items w))) (sym (parts_same ps)) (own_leads (trees (Heir n v ps)) (parts_before ps) (Heir n v ps) w (at_end n v ps)))
      (last_leads ps (trees (Heir n v ps)) 0 w (from_start n v ps) c.1))

  last_leads : (hs : Heritages) (ts : List Heritage) (first : ℕ) (w : List ℕ) → Holds ts first (trees_before hs) → AreNumbered hs → Leads ts (last_slot true (tables hs) first w) (resolve_last hs first w)
  last_leads NoParent ts first w g c = tt
  last_leads (OneParent h hs) ts first w g c =
      either_leads ts (last_slot true (tables hs) (first + length (table h).parts) w) (slot_shown true first (slot_named (table h).slots w)) (resolve_last hs (first + part_count h) w) (moved first (shown (resolve h w)))
      (subst (λ z. Agree (last_slot true (tables hs) z w) (resolve_last hs (first + part_count h) w)) (ap (λ z. first + z) (sym (count_parts h))) (last_agrees hs (first + part_count h) w c.1))
      (subst (λ z. Leads ts (last_slot true (tables hs) z w) (resolve_last hs (first + part_count h) w)) (ap (λ z. first + z) (sym (count_parts h))) (last_leads hs ts (first + part_count h) w (holds_others ts first h hs g) c.1))
      (shown_leads ts first (trees h) (slot_named (table h).slots w) (resolve h w) (holds_first ts first h hs g) (leads h w c.0))

pub numbers_lead : (h : Heritage) (w : List ℕ) → IsNumbered h → NumberLeads h (with_function (slot_named (table h).slots w)) (resolve h w)
numbers_lead h w c = by (with_function (slot_named (table h).slots w)) (resolve h w) (leads h w c)
  where
    by : (o : Option Slot) (x : Option Found) → Leads (trees h) o x → NumberLeads h o x
    by None x l = tt
    by (Some s) None l = tt
    by (Some s) (Some f) l = ap (λ z. slice_get (functions_in z) s.fun) (part_read h s.part) ∙ l
