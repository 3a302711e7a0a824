-- The parents in which `::` finds a name, and those that are called by a path.
use Rattle.std.proofs.Common.{◌≡◌, ℕ, suc, ◌+◌, arith, refl, sym, ◌∙◌, ap, Bool, true, false, ◌&&◌, not, List, [], ◌∷◌, Option, Some, None, is_some}
use Rattle.std.specs.Prelude.{⊤, if◌then◌else◌}
use Rattle.lp_tree.specs.declared.keyword.Modifier.{Modifier}
use Rattle.lp_tree.specs.Units.{ItemTree}
use Rattle.lp_code.specs.declared.tables.Slot.{Slot}
use Rattle.lp_code.specs.declared.tables.Tables.{Tables}
use Rattle.lp_instr.specs.EfunList.{is_name}
use Rattle.lp_language.specs.Resolve.{Heritage, Heir, Heritages, NoParent, OneParent, Found, counted, is_called, is_private, last_with, or_else, place_moved, resolve, row, row_shown, shown as shown_found}
use Rattle.lp_types_expr.specs.Signatures.{has_function, is_private_number, is_shown, is_wanted}
use Rattle.lp_types_expr.specs.Known.{has_path}
use Rattle.lp_layout.specs.Layout.{laid_for, laid_slot, laid_slots, slot_named, with_slot}
use Rattle.lp_layout.proofs.RowLaid.{row_laid, same_name}
use Rattle.lp_inherit.specs.Heirs.{table, tables, with_function, AreNumbered, IsNumbered, IsRowOf, MeansTheSame}
use Rattle.lp_inherit.proofs.Meanings.{private_bit, row_agrees}
use Rattle.lp_codegen_layout.specs.declared.entry.Entry.{Entry}
use Rattle.lp_codegen_layout.specs.Laid.{entry, last_called, last_number, shown, shown_rows}
use Rattle.lp_codegen_layout.proofs.Entries.{last_of_both}
use Rattle.lp_plan_laws.proofs.Known.{Known, row_known}

-- Each row is the one of its name.

abbrev pub Own : List Slot → List Slot → Type 0
Own all [] = ⊤
Own all (s ∷ ss) = (slot_named all s.name ≡ Some s) × Own all ss

pub found_named : (ss : List Slot) (w : List ℕ) (s : Slot) → slot_named ss w ≡ Some s → s.name ≡ w
found_named [] w s e = absurd cc
found_named (t ∷ ss) w s e = by (found_named ss w s) (is_name t.name w) refl e
  where
    by : (slot_named ss w ≡ Some s → s.name ≡ w) → (b : Bool) → is_name t.name w ≡ b → (if b then Some t else slot_named ss w) ≡ Some s → s.name ≡ w
    by ih true f g = let same : t ≡ s = cc in sym (ap (λ (x : Slot). x.name) same) ∙ same_name t.name w f
    by ih false f g = ih g

own_with : (all : List Slot) (w : List ℕ) (o : Option Slot) (ss : List Slot) → slot_named all w ≡ o → Own all ss → Own all (with_slot o ss)
own_with all w None ss e h = h
own_with all w (Some s) ss e h = (ap (slot_named all) (found_named all w s e) ∙ e, h)

laid_own : (is : List ItemTree) (ts : List Tables) (ws : List (List ℕ)) → Own (laid_slots is ts) (laid_for is ts ws)
laid_own is ts [] = tt
laid_own is ts (w ∷ ws) = own_with (laid_slots is ts) w (laid_slot is ts w) (laid_for is ts ws) (row_laid is ts w) (laid_own is ts ws)

pub table_own : (h : Heritage) → Own (table h).slots (table h).slots
table_own (Heir n v ps) = laid_own v.items (tables ps) _

-- The last entry of a name among the rows that a parent shows.

abbrev may : Bool → Option Slot → Bool
may bodies None = false
may bodies (Some s) = is_shown s && is_wanted bodies s

if_same : {A : Type 0} (b : Bool) (x y : A) → x ≡ y → (if b then x else y) ≡ x
if_same true x y e = refl
if_same false x y e = sym e

one_shown : (b c : Bool) (k : ℕ) (w v : List ℕ) (es : List Entry) → last_number (if b then entry v k ∷ es else es) w ≡ or_else (last_number es w) (if b && is_name v w then Some k else None)
one_shown true c k w v es = refl
one_shown false c k w v es = by (last_number es w)
  where
    by : (o : Option ℕ) → o ≡ or_else o None
    by None = refl
    by (Some x) = refl

rows_at : (bodies : Bool) (k : ℕ) (all ss : List Slot) (w : List ℕ) → Own all ss → last_number (shown_rows bodies k ss) w ≡ (if is_some (slot_named ss w) && may bodies (slot_named all w) then Some k else None)
rows_at bodies k all [] w h = refl
rows_at bodies k all (s ∷ ss) w h =
    one_shown (is_shown s && is_wanted bodies s) true k w s.name (shown_rows bodies k ss)
    ∙ ap (λ o. or_else o (if (is_shown s && is_wanted bodies s) && is_name s.name w then Some k else None)) (rows_at bodies k all ss w h.1)
    ∙ by (is_name s.name w) refl
  where
    -- the row is that of the name
    here : (a p q : Bool) → q ≡ p → or_else (if a && q then Some k else None) (if p && true then Some k else None) ≡ (if true && q then Some k else None)
    here true true true e = refl
    here false true true e = refl
    here true false false e = refl
    here false false false e = refl
    here a true false e = absurd cc
    here a false true e = absurd cc

    -- or it is not
    there : (a p q : Bool) → or_else (if a && q then Some k else None) (if p && false then Some k else None) ≡ (if a && q then Some k else None)
    there true true true = refl
    there true true false = refl
    there true false true = refl
    there true false false = refl
    there false true q = refl
    there false false q = refl

    by : (b : Bool) → is_name s.name w ≡ b → or_else (if is_some (slot_named ss w) && may bodies (slot_named all w) then Some k else None) (if (is_shown s && is_wanted bodies s) && b then Some k else None) ≡ (if is_some (if b then Some s else slot_named ss w) && may bodies (slot_named all w) then Some k else None)
    by true e = here (is_some (slot_named ss w)) (is_shown s && is_wanted bodies s) (may bodies (slot_named all w)) (ap (may bodies) (ap (slot_named all) (sym (same_name s.name w e)) ∙ h.0))
    by false e = there (is_some (slot_named ss w)) (is_shown s && is_wanted bodies s) (may bodies (slot_named all w))

may_some : (bodies : Bool) (o : Option Slot) → (is_some o && may bodies o) ≡ may bodies o
may_some bodies None = refl
may_some bodies (Some s) = refl

-- Of all parents.

counted_moved : (k : ℕ) (o : Option ℕ) → place_moved (suc k) o ≡ place_moved k (counted o)
counted_moved k None = refl
counted_moved k (Some x) = let e : suc k + x ≡ k + suc x = omega arith in ap Some e

moved_else : (k : ℕ) (o : Option ℕ) (b : Bool) → or_else (place_moved k o) (if b then Some k else None) ≡ place_moved k (or_else o (if b then Some 0 else None))
moved_else k None true = let e : k ≡ k + 0 = omega arith in ap Some e
moved_else k None false = refl
moved_else k (Some x) b = refl

shown_last : (bodies : Bool) (f : Heritage → Bool) (k : ℕ) (hs : Heritages) (w : List ℕ) → AreNumbered hs → ((h : Heritage) → IsNumbered h → may bodies (slot_named (table h).slots w) ≡ f h) → last_number (shown bodies k (tables hs)) w ≡ place_moved k (last_with f hs)
shown_last bodies f k NoParent w c e = refl
shown_last bodies f k (OneParent h hs) w c e =
    last_of_both (shown_rows bodies k (table h).slots) (shown bodies (suc k) (tables hs)) w
    ∙ ap (λ o. or_else o (last_number (shown_rows bodies k (table h).slots) w)) (shown_last bodies f (suc k) hs w c.1 e ∙ counted_moved k (last_with f hs))
    ∙ ap (or_else (place_moved k (counted (last_with f hs)))) (rows_at bodies k (table h).slots (table h).slots w (table_own h) ∙ ap (λ b. if b then Some k else None) (may_some bodies (slot_named (table h).slots w) ∙ e h c.0))
    ∙ moved_else k (counted (last_with f hs)) (f h)

function_shown : (o : Option Slot) (x : Option Found) → MeansTheSame (with_function o) x → may true o ≡ is_some (shown_found x)
function_shown None None m = refl
function_shown None (Some f) m = absurd m
function_shown (Some s) x m = by (has_function s) x m
  where
    seen : (f : Found) → IsRowOf s f → (b c : Bool) → b ≡ c → (not b && true) ≡ is_some (if c then None else Some f)
    seen f r true true e = refl
    seen f r false false e = refl
    seen f r true false e = absurd cc
    seen f r false true e = absurd cc

    none : (b : Bool) → (b && false) ≡ false
    none true = refl
    none false = refl

    by : (b : Bool) (x : Option Found) → MeansTheSame (if b then Some s else None) x → (is_shown s && b) ≡ is_some (shown_found x)
    by true None m = absurd m
    by true (Some f) m = seen f m (is_private_number s.mods) (is_private f.function.modifiers) (ap is_private_number m.mods ∙ private_bit f.function.modifiers)
    by false None m = none (is_shown s)
    by false (Some f) m = absurd m

row_is_shown : (o : Option Slot) (p : Option (List Modifier)) → Known o p → may false o ≡ is_some (row_shown p)
row_is_shown None None h = refl
row_is_shown None (Some ms) h = absurd h
row_is_shown (Some s) None h = absurd h
row_is_shown (Some s) (Some ms) h = by (is_private_number s.mods) (is_private ms) (ap is_private_number h ∙ private_bit ms)
  where
    by : (b c : Bool) → b ≡ c → (not b && true) ≡ is_some (if c then None else Some ms)
    by true true e = refl
    by false false e = refl
    by true false e = absurd cc
    by false true e = absurd cc

zero_moved : (o : Option ℕ) → place_moved 0 o ≡ o
zero_moved None = refl
zero_moved (Some x) = let e : 0 + x ≡ x = omega arith in ap Some e

pub shown_true : (hs : Heritages) (w : List ℕ) → AreNumbered hs → last_number (shown true 0 (tables hs)) w ≡ last_with (λ p. is_some (shown_found (resolve p w))) hs
shown_true hs w c = shown_last true (λ p. is_some (shown_found (resolve p w))) 0 hs w c (λ h n. function_shown (slot_named (table h).slots w) (resolve h w) (row_agrees h w n)) ∙ zero_moved (last_with (λ p. is_some (shown_found (resolve p w))) hs)

pub shown_false : (hs : Heritages) (w : List ℕ) → AreNumbered hs → last_number (shown false 0 (tables hs)) w ≡ last_with (λ p. is_some (row_shown (row p w))) hs
shown_false hs w c = shown_last false (λ p. is_some (row_shown (row p w))) 0 hs w c (λ h n. row_is_shown (slot_named (table h).slots w) (row h w) (row_known h w n)) ∙ zero_moved (last_with (λ p. is_some (row_shown (row p w))) hs)

-- Paths.

same_path : (p : List ℕ) (h : Heritage) → has_path p (table h) ≡ is_called p h
same_path p (Heir n v ps) = refl

pub called_last : (k : ℕ) (hs : Heritages) (p : List ℕ) → last_called k (tables hs) p ≡ place_moved k (last_with (is_called p) hs)
called_last k NoParent p = refl
called_last k (OneParent h hs) p =
    ap (λ o. or_else o (if has_path p (table h) then Some k else None)) (called_last (suc k) hs p ∙ counted_moved k (last_with (is_called p) hs))
    ∙ ap (λ b. or_else (place_moved k (counted (last_with (is_called p) hs))) (if b then Some k else None)) (same_path p h)
    ∙ moved_else k (counted (last_with (is_called p) hs)) (is_called p h)

pub called_first : (hs : Heritages) (p : List ℕ) → last_called 0 (tables hs) p ≡ last_with (is_called p) hs
called_first hs p = called_last 0 hs p ∙ zero_moved (last_with (is_called p) hs)
