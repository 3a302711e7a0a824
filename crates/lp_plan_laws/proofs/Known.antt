-- The rows of a version's tables are the names that it knows as functions.
use Rattle.std.proofs.Common.{◌≡◌, ℕ, suc, ◌+◌, arith, refl, sym, ◌∙◌, ap, subst, Bool, true, false, ◌&&◌, ◌||◌, not, List, [], ◌∷◌, length, Option, Some, None, is_some}
use Rattle.std.specs.Prelude.{⊤, if◌then◌else◌}
use Rattle.std.specs.List.{list_any}
use Rattle.std.proofs.lemmas.Slice.Eq.{bytes_eq-Decides}
use Rattle.lp_tree.specs.declared.keyword.Modifier.{Modifier}
use Rattle.lp_tree.specs.Units.{ItemTree, Inherit, Proto, Fun, Var}
use Rattle.lp_code.specs.declared.tables.Slot.{Slot}
use Rattle.lp_instr.specs.EfunList.{is_name}
use Rattle.lp_language.specs.Resolve.{Heritage, Heir, Heritages, NoParent, OneParent, Found, found_in, is_private, modifiers_of, own_function, own_prototype, parts_before, resolve_last, row, row_last, row_shown, or_else as or_found}
use Rattle.lp_language.specs.Scope.{Names, slot_of, slot_from}
use Rattle.lp_types_expr.specs.Signatures.{or_else, is_private_number}
use Rattle.lp_layout.specs.Layout.{bits, last_slot, own_slot, parts_of, prototype_slot, slot, slot_named, slot_shown}
use Rattle.lp_layout.proofs.RowLaid.{row_laid, same_name}
use Rattle.lp_inherit.specs.Heirs.{table, tables, AreNumbered, IsNumbered}
use Rattle.lp_inherit.proofs.Meanings.{Agree, last_agrees, own_agrees, parts_same, private_bit}
use Rattle.lp_codegen_layout.specs.Laid.{row_names}

-- a row, and the modifiers of what a name is known as
abbrev pub Known : Option Slot → Option (List Modifier) → Type 0
Known None None = ⊤
Known (Some s) (Some ms) = s.mods ≡ bits ms
Known _ _ = ⊥

known_if : (b : Bool) (s : Slot) (ms : List Modifier) (o : Option Slot) (p : Option (List Modifier)) → s.mods ≡ bits ms → Known o p → Known (if b then Some s else o) (if b then Some ms else p)
known_if true s ms o p e h = e
known_if false s ms o p e h = h

prototype_known : (part : ℕ) (is : List ItemTree) (w : List ℕ) → Known (prototype_slot part is w) (own_prototype is w)
prototype_known part [] w = tt
prototype_known part (Inherit line path ∷ is) w = prototype_known part is w
prototype_known part (Proto line ms ty name ps ∷ is) w = known_if (is_name name w) (slot w part 65535 ms ty ps) ms (prototype_slot part is w) (own_prototype is w) refl (prototype_known part is w)
prototype_known part (Fun line ms ty name ps b ∷ is) w = prototype_known part is w
prototype_known part (Var line ms base ds ∷ is) w = prototype_known part is w

shown_known : (first : ℕ) (o : Option Slot) (p : Option (List Modifier)) → Known o p → Known (slot_shown false first o) (row_shown p)
shown_known first None None h = tt
shown_known first None (Some ms) h = absurd h
shown_known first (Some s) None h = absurd h
shown_known first (Some s) (Some ms) h = by (is_private_number s.mods) (is_private ms) (ap is_private_number h ∙ private_bit ms)
  where
    by : (b c : Bool) → b ≡ c → Known (if not b && true then Some (record s { part = first + s.part }) else None) (if c then None else Some ms)
    by true true e = tt
    by false false e = h
    by true false e = absurd cc
    by false true e = absurd cc

either_known : (a b : Option Slot) (p q : Option (List Modifier)) → Known a p → Known b q → Known (or_else a b) (or_found p q)
either_known None b None q h k = k
either_known (Some s) b (Some ms) q h k = h
either_known None b (Some ms) q h k = absurd h
either_known (Some s) b None q h k = absurd h

all_known : (a l r : Option Slot) (x y : Option Found) (p : Option (List Modifier)) → Agree a x → Agree l y → Known r p → Known (or_else a (or_else l r)) (or_found (modifiers_of (or_found x y)) p)
all_known (Some s) l r (Some f) y p m n h = m.1.mods
all_known None (Some s) r None (Some f) p m n h = n.1.mods
all_known None None r None None p m n h = h
all_known None (Some s) r None None p m n h = absurd n
all_known None None r None (Some f) p m n h = absurd n
all_known (Some s) l r None y p m n h = absurd m
all_known None l r (Some f) y p m n h = absurd m

mutual
  pub row_known : (h : Heritage) (w : List ℕ) → IsNumbered h → Known (slot_named (table h).slots w) (row h w)
  row_known (Heir n v ps) w c = subst (λ z. Known z (row (Heir n v ps) w)) (sym (row_laid v.items (tables ps) w))
      (all_known (own_slot 0 (parts_of (tables ps)) v.items w) (last_slot true (tables ps) 0 w) (or_else (prototype_slot (parts_of (tables ps)) v.items w) (last_slot false (tables ps) 0 w))
      (found_in (parts_before ps) (own_function v.items w)) (resolve_last ps 0 w) (or_found (own_prototype v.items w) (row_last ps w))
      (subst (λ z. Agree (own_slot 0 z v.items w) (found_in (parts_before ps) (own_function v.items w))) (sym (parts_same ps)) (own_agrees 0 (parts_before ps) v.items w (let a = c.0 in omega (arith, a))))
      (last_agrees ps 0 w c.1)
      (either_known (prototype_slot (parts_of (tables ps)) v.items w) (last_slot false (tables ps) 0 w) (own_prototype v.items w) (row_last ps w) (prototype_known (parts_of (tables ps)) v.items w) (last_known ps 0 w c.1)))

  last_known : (hs : Heritages) (first : ℕ) (w : List ℕ) → AreNumbered hs → Known (last_slot false (tables hs) first w) (row_last hs w)
  last_known NoParent first w c = tt
  last_known (OneParent h hs) first w c =
      either_known (last_slot false (tables hs) (first + length (table h).parts) w) (slot_shown false first (slot_named (table h).slots w)) (row_last hs w) (row_shown (row h w))
      (last_known hs (first + length (table h).parts) w c.1)
      (shown_known first (slot_named (table h).slots w) (row h w) (row_known h w c.0))

-- A name is among names where it has a slot.

some_else : {A : Type 0} (a : Option A) (b : Bool) (x : A) → is_some (or_found a (if b then Some x else None)) ≡ (b || is_some a)
some_else None true x = refl
some_else None false x = refl
some_else (Some y) true x = refl
some_else (Some y) false x = refl

slot_there : (k : ℕ) (ss : List Slot) (w : List ℕ) → is_some (slot_from k (row_names ss) w) ≡ is_some (slot_named ss w)
slot_there k [] w = refl
slot_there k (s ∷ ss) w = some_else (slot_from (suc k) (row_names ss) w) (is_name s.name w) k ∙ ap (λ b. is_name s.name w || b) (slot_there (suc k) ss w) ∙ by (is_name s.name w)
  where
    by : (b : Bool) → (b || is_some (slot_named ss w)) ≡ is_some (if b then Some s else slot_named ss w)
    by true = refl
    by false = refl

same_some : (o : Option Slot) (p : Option (List Modifier)) → Known o p → is_some o ≡ is_some p
same_some None None h = refl
same_some (Some s) (Some ms) h = refl
same_some None (Some ms) h = absurd h
same_some (Some s) None h = absurd h

pub functions_known : (h : Heritage) (w : List ℕ) → IsNumbered h → is_some (slot_of (row_names (table h).slots) w) ≡ is_some (row h w)
functions_known h w c = slot_there 0 (table h).slots w ∙ same_some (slot_named (table h).slots w) (row h w) (row_known h w c)

-- The names of simul efuns.

pub name_flip : (a b : List ℕ) → is_name a b ≡ is_name b a
name_flip a b = by (is_name a b) (is_name b a) refl refl
  where
    by : (x y : Bool) → is_name a b ≡ x → is_name b a ≡ y → x ≡ y
    by true true e f = refl
    by false false e f = refl
    by true false e f = sym ((bytes_eq-Decides b a).1 (sym (same_name a b e))) ∙ f
    by false true e f = sym (sym ((bytes_eq-Decides a b).1 (sym (same_name b a f))) ∙ e)

pub simuls_known : (k : ℕ) (ns : Names) (w : List ℕ) → is_some (slot_from k ns w) ≡ list_any (is_name w) ns
simuls_known k [] w = refl
simuls_known k (n ∷ ns) w = some_else (slot_from (suc k) ns w) (is_name n w) k ∙ ap (λ b. is_name n w || b) (simuls_known (suc k) ns w) ∙ ap (λ b. b || list_any (is_name w) ns) (name_flip n w)
