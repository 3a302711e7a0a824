-- A program that has the tables of a version stands for the version.
use Rattle.std.proofs.Common.{◌≡◌, ℕ, zero, suc, ◌+◌, refl, sym, ◌∙◌, ap, subst, arith, Bool, true, false, ◌||◌, List, [], ◌∷◌, ◌++◌, map, Option, Some, None, is_some}
use Rattle.std.specs.Prelude.{⊤, slice_get, if◌then◌else◌}
use Rattle.std.specs.List.{list_any}
use Rattle.lp_tree.specs.declared.keyword.Modifier.{Modifier}
use Rattle.lp_tree.specs.Units.{ItemTree, Inherit, Proto, Fun, Var}
use Rattle.lp_code.specs.declared.tables.Slot.{Slot}
use Rattle.lp_instr.specs.EfunList.{is_name}
use Rattle.lp_language.specs.Resolve.{Found, Function, Heritage, Heir, Heritages, NoParent, OneParent, Part, part_at, resolve, row, version_of}
use Rattle.lp_isa.specs.Programs.{AreParents, IsReached, IsTable, NamesTable, TableRow, fun_from, fun_in, own_functions}
use Rattle.lp_types_expr.specs.Signatures.{has_function}
use Rattle.lp_layout.specs.Layout.{slot_named}
use Rattle.lp_layout.proofs.RowLaid.{same_name}
use Rattle.lp_inherit.specs.Heirs.{AreNumbered, IsNumbered, MeansTheSame, NumberLeads, functions_in, own_functions as own_here, table, tables, tree_of_part, with_function}
use Rattle.lp_inherit.proofs.Meanings.{row_agrees}
use Rattle.lp_inherit.proofs.Numbers.{numbers_lead, part_read, trees, trees_before}
use Rattle.lp_codegen_layout.specs.Laid.{row_names}
use Rattle.lp_plan_laws.specs.Tables.{AreNamedOnce, AreOnce, IsNamedOnce, TablesStand, reached_by, table_row}
use Rattle.lp_plan_laws.proofs.Fresh.{itself, table_fresh, unique}
use Rattle.lp_plan_laws.proofs.Known.{Known, row_known}
use Rattle.lp_plan_laws.proofs.Meant.{Own, found_named, table_own}

-- A function's place among those of its file.

same_functions : (is : List ItemTree) → own_here is ≡ own_functions is
same_functions [] = refl
same_functions (Inherit line path ∷ is) = same_functions is
same_functions (Proto line ms ty w ps ∷ is) = same_functions is
same_functions (Fun line ms ty w ps b ∷ is) = ap (λ l. record { name = w; modifiers = ms; parameters = map (λ p. p.name) ps; body = b.stmts } ∷ l) (same_functions is)
same_functions (Var line ms b ds ∷ is) = same_functions is

named_there : (fs : List Function) (k : ℕ) (f : Function) → slice_get fs k ≡ Some f → list_any (λ g. is_name g.name f.name) fs ≡ true
named_there [] k f e = absurd cc
named_there (g ∷ fs) zero f e = let same : g ≡ f = cc in subst (λ (x : Function). (is_name x.name f.name || list_any (λ y. is_name y.name f.name) fs) ≡ true) (sym same) (by (is_name f.name f.name) (itself f.name))
  where
    by : (b : Bool) → b ≡ true → (b || list_any (λ y. is_name y.name f.name) fs) ≡ true
    by true q = refl
    by false q = absurd cc
named_there (g ∷ fs) (suc k) f e = by (is_name g.name f.name) (named_there fs k f e)
  where
    by : (b : Bool) → list_any (λ y. is_name y.name f.name) fs ≡ true → (b || list_any (λ y. is_name y.name f.name) fs) ≡ true
    by true q = refl
    by false q = q

same_letters : (a b : List ℕ) → is_name a b ≡ true → a ≡ b
same_letters a b e = same_name a b e

place_of : (n : ℕ) (fs : List Function) (k : ℕ) (f : Function) → AreOnce fs → slice_get fs k ≡ Some f → fun_from n fs f.name ≡ Some (n + k)
place_of n [] k f h e = absurd cc
place_of n (g ∷ fs) zero f h e =
    let same : g ≡ f = cc in
    let z : n ≡ n + 0 = omega arith in
    ap (λ b. if b then Some n else fun_from (n + 1) fs f.name) (ap (λ (x : Function). is_name x.name f.name) same ∙ itself f.name) ∙ ap Some z
place_of n (g ∷ fs) (suc k) f h e = by (place_of (n + 1) fs k f h.1 e) (is_name g.name f.name) refl
  where
    by : fun_from (n + 1) fs f.name ≡ Some ((n + 1) + k) → (b : Bool) → is_name g.name f.name ≡ b → (if b then Some n else fun_from (n + 1) fs f.name) ≡ Some (n + suc k)
    by ih true q =
        let t : true ≡ false = sym (named_there fs k f e) ∙ ap (λ w. list_any (λ y. is_name y.name w) fs) (sym (same_letters g.name f.name q)) ∙ h.0 in
        absurd cc
    by ih false q = let z : (n + 1) + k ≡ n + suc k = omega arith in ih ∙ ap Some z

-- the files of all parts have each name once
abbrev OnceIn : Heritage → Type 0
OnceIn h = AreOnce (own_functions (version_of h).items)

abbrev AllOnce : List Heritage → Type 0
AllOnce [] = ⊤
AllOnce (h ∷ hs) = OnceIn h × AllOnce hs

all_both : (xs ys : List Heritage) → AllOnce xs → AllOnce ys → AllOnce (xs ++ ys)
all_both [] ys h k = k
all_both (x ∷ xs) ys h k = (h.0, all_both xs ys h.1 k)

mutual
  trees_once : (h : Heritage) → IsNamedOnce h → AllOnce (trees h)
  trees_once (Heir n v ps) c = all_both (trees_before ps) (Heir n v ps ∷ []) (before_once ps c.1) (c.0, tt)

  before_once : (hs : Heritages) → AreNamedOnce hs → AllOnce (trees_before hs)
  before_once NoParent c = tt
  before_once (OneParent h hs) c = all_both (trees h) (trees_before hs) (trees_once h c.0) (before_once hs c.1)

once_at : (hs : List Heritage) (k : ℕ) (h : Heritage) → AllOnce hs → slice_get hs k ≡ Some h → OnceIn h
once_at [] k h c e = absurd cc
once_at (x ∷ xs) zero h c e = let same : x ≡ h = cc in subst OnceIn same c.0
once_at (x ∷ xs) (suc k) h c e = once_at xs k h c.1 e

place_in : (p : Option Part) (k : ℕ) (f : Function) → ((t : Heritage) → tree_of_part p ≡ Some t → OnceIn t) → slice_get (functions_in (tree_of_part p)) k ≡ Some f → fun_in p f.name ≡ Some k
place_in None k f c e = absurd cc
place_in (Some p) k f c e =
    let z : 0 + k ≡ k = omega arith in
    place_of 0 (own_functions (version_of p.tree).items) k f (c p.tree refl) (ap (λ l. slice_get l k) (sym (same_functions (version_of p.tree).items)) ∙ e) ∙ ap Some z

-- What a row reaches is what resolve gives.
reaches : (h : Heritage) (s : Slot) → IsNamedOnce h → (o : Option Found) → MeansTheSame (with_function (Some s)) o → NumberLeads h (with_function (Some s)) o → IsReached h o (reached_by s)
reaches h s c o m n = by (has_function s) o m n
  where
    by : (b : Bool) (o : Option Found) → MeansTheSame (if b then Some s else None) o → NumberLeads h (if b then Some s else None) o → IsReached h o (if b then Some (record { part = s.part; fun = s.fun }) else None)
    by true (Some f) m n = (m.part, place_in (part_at h f.part) s.fun f.function (λ t e. once_at (trees h) f.part t (trees_once h c) (sym (part_read h f.part) ∙ e)) (ap (λ q. slice_get (functions_in (tree_of_part (part_at h q))) s.fun) (sym m.part) ∙ n))
    by true None m n = absurd m
    by false None m n = tt
    by false (Some f) m n = absurd m

-- Rows by their places.

pub record Got (ss : List Slot) (k : ℕ) (r : TableRow) : Type 0 where
  pub slot : Slot
  pub there : slice_get ss k ≡ Some slot
  pub is : table_row slot ≡ r

got : (ss : List Slot) (k : ℕ) (r : TableRow) → slice_get (map table_row ss) k ≡ Some r → Got ss k r
got [] k r e = absurd cc
got (s ∷ ss) zero r e = record { slot = s; there = refl; is = let same : table_row s ≡ r = cc in same }
got (s ∷ ss) (suc k) r e = let g = got ss k r e in record { slot = g.slot; there = g.there; is = g.is }

map_got : (ss : List Slot) (k : ℕ) (s : Slot) → slice_get ss k ≡ Some s → slice_get (map table_row ss) k ≡ Some (table_row s)
map_got [] k s e = absurd cc
map_got (x ∷ ss) zero s e = let same : x ≡ s = cc in ap (λ y. Some (table_row y)) same
map_got (x ∷ ss) (suc k) s e = map_got ss k s e

own_got : (all ss : List Slot) (k : ℕ) (s : Slot) → Own all ss → slice_get ss k ≡ Some s → slot_named all s.name ≡ Some s
own_got all [] k s h e = absurd cc
own_got all (x ∷ ss) zero s h e = let same : x ≡ s = cc in subst (λ (y : Slot). slot_named all y.name ≡ Some y) same h.0
own_got all (x ∷ ss) (suc k) s h e = own_got all ss k s h.1 e

pub record Placed (ss : List Slot) (s : Slot) : Type 0 where
  pub place : ℕ
  pub there : slice_get ss place ≡ Some s

placed : (ss : List Slot) (w : List ℕ) (s : Slot) → slot_named ss w ≡ Some s → Placed ss s
placed [] w s e = absurd cc
placed (x ∷ ss) w s e = by (λ g. placed ss w s g) (is_name x.name w) e
  where
    by : (slot_named ss w ≡ Some s → Placed ss s) → (b : Bool) → (if b then Some x else slot_named ss w) ≡ Some s → Placed (x ∷ ss) s
    by ih true g = record { place = 0; there = g }
    by ih false g = let p = ih g in record { place = suc p.place; there = p.there }

slot_of_row : (o : Option Slot) (p : Option (List Modifier)) → Known o p → is_some p ≡ true → (s : Slot) × (o ≡ Some s)
slot_of_row None None h e = absurd cc
slot_of_row None (Some ms) h e = absurd h
slot_of_row (Some s) p h e = (s, refl)

row_of_slot : (s : Slot) (p : Option (List Modifier)) → Known (Some s) p → is_some p ≡ true
row_of_slot s None h = absurd h
row_of_slot s (Some ms) h = refl

pub table_stands : (h : Heritage) → IsNumbered h → IsNamedOnce h → IsTable h (map table_row (table h).slots)
table_stands h numbered once = record {
  found = λ w e.
      let s = slot_of_row (slot_named (table h).slots w) (row h w) (row_known h w numbered) e in
      let p = placed (table h).slots w s.0 s.1 in
      (p.place, table_row s.0, map_got (table h).slots p.place s.0 p.there, found_named (table h).slots w s.0 s.1);
  known = λ k r e.
      let g = got (table h).slots k r e in
      let n : slot_named (table h).slots g.slot.name ≡ Some g.slot = own_got (table h).slots (table h).slots k g.slot (table_own h) g.there in
      subst (λ (x : TableRow). is_some (row h x.name) ≡ true) g.is (row_of_slot g.slot (row h g.slot.name) (subst (λ o. Known o (row h g.slot.name)) n (row_known h g.slot.name numbered)));
  one = λ j k q r e f n.
      let a = got (table h).slots j q e in
      let b = got (table h).slots k r f in
      unique (table h).slots (table_fresh h) j k a.slot b.slot a.there b.there (ap (λ (x : TableRow). x.name) a.is ∙ n ∙ ap (λ (x : TableRow). x.name) (sym b.is));
  reached = λ k r e.
      let g = got (table h).slots k r e in
      let n : slot_named (table h).slots g.slot.name ≡ Some g.slot = own_got (table h).slots (table h).slots k g.slot (table_own h) g.there in
      subst (λ (x : TableRow). IsReached h (resolve h x.name) x.reached) g.is
      (reaches h g.slot once (resolve h g.slot.name) (subst (λ o. MeansTheSame (with_function o) (resolve h g.slot.name)) n (row_agrees h g.slot.name numbered)) (subst (λ o. NumberLeads h (with_function o) (resolve h g.slot.name)) n (numbers_lead h g.slot.name numbered)));
}

names_kept : (ss : List Slot) → row_names ss ≡ map (λ (r : TableRow). r.name) (map table_row ss)
names_kept [] = refl
names_kept (s ∷ ss) = ap (λ l. s.name ∷ l) (names_kept ss)

parents_stand : (hs : Heritages) → AreNumbered hs → AreNamedOnce hs → AreParents hs (map (λ t. row_names t.slots) (tables hs)) NamesTable
parents_stand NoParent numbered once = tt
parents_stand (OneParent h hs) numbered once = ((map table_row (table h).slots, table_stands h numbered.0 once.0, names_kept (table h).slots), parents_stand hs numbered.1 once.1)

pub tables_stand : TablesStand
tables_stand (Heir n v ps) code funs numbered once rows parents made = record {
  funs = made;
  table = table_stands (Heir n v ps) numbered once;
  rows = rows ∙ names_kept (table (Heir n v ps)).slots;
  parents = subst (λ l. AreParents ps l NamesTable) (sym parents) (parents_stand ps numbered.1 once.1);
}
