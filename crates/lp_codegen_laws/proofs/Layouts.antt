-- The layout of a unit's own tables knows what the check of types knows.
use Rattle.std.proofs.Common.{◌≡◌, ◌≢◌, ℕ, suc, ◌+◌, List, [], ◌∷◌, ◌++◌, length, map, Bool, true, false, not, ◌&&◌, ◌||◌, cond, Option, Some, None, if◌then◌else◌, refl, sym, ap, ◌∙◌, subst, arith, append_assoc, length-append}
use Rattle.std.specs.Prelude.{is_some, nat_eq, nat_lt, slice_get}
use Rattle.std.specs.List.{filter, list_any}
use Rattle.std.proofs.lemmas.Bool.{eq-eqb, lt-ltb}
use Rattle.lp_tree.specs.declared.keyword.Base.{Base}
use Rattle.lp_tree.specs.declared.keyword.Modifier.{Modifier}
use Rattle.lp_tree.specs.declared.types.TypeName.{TypeName}
use Rattle.lp_tree.specs.Statements.{DeclaratorTree}
use Rattle.lp_tree.specs.Units.{ItemTree, Inherit, Proto, Fun, Var}
use Rattle.lp_values.specs.declared.id.ProgId.{ProgId}
use Rattle.lp_code.specs.declared.tables.Slot.{Slot}
use Rattle.lp_code.specs.declared.tables.VarRow.{VarRow}
use Rattle.lp_code.specs.declared.tables.Tables.{Tables}
use Rattle.lp_instr.specs.declared.efun.Efun.{Efun}
use Rattle.lp_instr.specs.EfunList.{efun_named, is_name}
use Rattle.lp_language.specs.Resolve.{or_else}
use Rattle.lp_language.specs.Scope.{Names, slot_from, slot_of}
use Rattle.lp_types_expr.specs.Signatures.{declared_kind, inherited_kind, is_private_number, is_shown, is_wanted, known_function, last_shown, of_parents, own_function, own_kind, own_prototype, row_kind, row_named, shown_if, signature}
use Rattle.lp_types_expr.specs.declared.signature.Signature.{Signature}
use Rattle.lp_types_expr.specs.Signatures as tables
use Rattle.lp_types_expr.specs.Known.{Around, ASimul, Nobody, as_efun, as_function, has_path, of_these}
use Rattle.lp_layout.specs.Layout.{laid_slot, laid_variables, last_slot, own_rows, own_slot, parts_before, parts_of, prototype_slot, row_moved, slot, slot_named, slot_shown, var_row}
use Rattle.lp_layout.proofs.RowLaid.{row_laid}
use Rattle.lp_codegen_expr.specs.Names.{Plan, a_global, a_row, a_simul, an_efun, global_in, parent_called_in, parent_with_in, slot_in}
use Rattle.lp_codegen_expr.specs.Clear.{IsParentCalled, row_beyond}
use Rattle.lp_codegen_expr.specs.declared.scope.Called.TheVariants as called
use Rattle.lp_codegen_expr.specs.declared.scope.Variable.TheVariants as variables
use Rattle.lp_codegen_layout.specs.declared.entry.Entry.{Entry}
use Rattle.lp_codegen_layout.specs.Laid.{entry, is_seen, last_called, last_number, plan_of, row_names, seen, shown, shown_rows}
use Rattle.lp_codegen_layout.specs.Meant.{Knows, is_ambiguous}
use Rattle.lp_codegen_layout.proofs.Entries.{last_counts, last_of_both}
use Rattle.lp_codegen_layout.proofs.Paths.{paths_are_names}
use Rattle.lp_codegen_laws.proofs.Known.{turned}
use Rattle.lp_codegen_laws.specs.Units.{AreOwn}

-- truth values
swapped : (a b : Bool) → (a || b) ≡ (b || a)
swapped true true = refl
swapped true false = refl
swapped false true = refl
swapped false false = refl

first_true : (a b : Bool) → a ≡ true → (a || b) ≡ true
first_true true b e = refl
first_true false b e = absurd cc

second_true : (a b : Bool) → b ≡ true → (a || b) ≡ true
second_true true b e = refl
second_true false b e = e

-- one of two is true, which gives the same either way
either : (a b c : Bool) → (a ≡ true → c ≡ true) → (b ≡ true → c ≡ true) → (a || b) ≡ true → c ≡ true
either true b c f g h = f refl
either false b c f g h = g h

one_of : {A : Type 0} (b : Bool) (x : A) → is_some (if b then Some x else None) ≡ b
one_of true x = refl
one_of false x = refl

or_later : {A : Type 0} (b : Bool) (x : A) (o : Option A) → is_some (if b then Some x else o) ≡ (b || is_some o)
or_later true x o = refl
or_later false x o = refl

one_or : {A : Type 0} (o p : Option A) → is_some (tables.or_else o p) ≡ (is_some o || is_some p)
one_or None p = refl
one_or (Some x) p = refl

one_or_other : {A : Type 0} (o p : Option A) → is_some (or_else o p) ≡ (is_some o || is_some p)
one_or_other None p = refl
one_or_other (Some x) p = refl

there_is : {A : Type 0} (o : Option A) → o ≢ None → is_some o ≡ true
there_is None h = absurd (h refl)
there_is (Some x) h = refl

not_none : {A : Type 0} (o : Option A) → is_some o ≡ true → o ≢ None
not_none None h = absurd cc
not_none (Some x) h = λ q. absurd cc

-- a later one of a name, or this
later_or : {A : Type 0} (o : Option A) (b c : Bool) (x : A) → b ≡ c → is_some (tables.or_else o (if b then Some x else None)) ≡ (c || is_some o)
later_or o b c x e = one_or o (if b then Some x else None) ∙ ap (λ y. is_some o || y) (one_of b x ∙ e) ∙ swapped (is_some o) c

later_place : (o : Option ℕ) (b c : Bool) (k : ℕ) → b ≡ c → is_some (or_else o (if b then Some k else None)) ≡ (c || is_some o)
later_place o b c k e = one_or_other o (if b then Some k else None) ∙ ap (λ y. is_some o || y) (one_of b k ∙ e) ∙ swapped (is_some o) c

-- Functions: a name has a row exactly where the check knows a function.
own_function_is : (n part : ℕ) (is : List ItemTree) (w : List ℕ) → is_some (own_function is w) ≡ is_some (own_slot n part is w)
own_function_is n part [] w = refl
own_function_is n part (Inherit line path ∷ is) w = own_function_is n part is w
own_function_is n part (Proto line ms ty name ps ∷ is) w = own_function_is n part is w
own_function_is n part (Fun line ms ty name ps b ∷ is) w =
    later_or (own_function is w) (is_name w name) (is_name name w) (signature ms ty ps) (turned w name)
    ∙ ap (λ y. is_name name w || y) (own_function_is (suc n) part is w)
    ∙ sym (or_later (is_name name w) (slot w part n ms ty ps) (own_slot (suc n) part is w))
own_function_is n part (Var line ms base ds ∷ is) w = own_function_is n part is w

own_prototype_is : (part : ℕ) (is : List ItemTree) (w : List ℕ) → is_some (own_prototype is w) ≡ is_some (prototype_slot part is w)
own_prototype_is part [] w = refl
own_prototype_is part (Inherit line path ∷ is) w = own_prototype_is part is w
own_prototype_is part (Proto line ms ty name ps ∷ is) w =
    or_later (is_name w name) (signature ms ty ps) (own_prototype is w)
    ∙ ap (λ y. y || is_some (own_prototype is w)) (turned w name)
    ∙ ap (λ y. is_name name w || y) (own_prototype_is part is w)
    ∙ sym (or_later (is_name name w) (slot w part 65535 ms ty ps) (prototype_slot part is w))
own_prototype_is part (Fun line ms ty name ps b ∷ is) w = own_prototype_is part is w
own_prototype_is part (Var line ms base ds ∷ is) w = own_prototype_is part is w

row_named_is : (ss : List Slot) (w : List ℕ) → row_named ss w ≡ slot_named ss w
row_named_is [] w = refl
row_named_is (s ∷ ss) w = ap (λ b. if b then Some s else row_named ss w) (turned w s.name) ∙ ap (λ o. if is_name s.name w then Some s else o) (row_named_is ss w)

shown_is : (b : Bool) (first : ℕ) (o : Option Slot) → is_some (shown_if b o) ≡ is_some (slot_shown b first o)
shown_is b first None = refl
shown_is b first (Some s) =
    one_of (is_shown s && is_wanted b s) (tables.signature_of s) ∙ sym (one_of (is_shown s && is_wanted b s) (moved first s))
  where
    moved : ℕ → Slot → Slot
    moved first s = record s { part = first + s.part }

last_is : (b : Bool) (ts : List Tables) (first : ℕ) (w : List ℕ) → is_some (last_shown b ts w) ≡ is_some (last_slot b ts first w)
last_is b [] first w = refl
last_is b (t ∷ ts) first w =
    let rest = first + length t.parts in
    one_or (last_shown b ts w) (shown_if b (row_named t.slots w))
    ∙ ap (λ y. y || is_some (shown_if b (row_named t.slots w))) (last_is b ts rest w)
    ∙ ap (λ y. is_some (last_slot b ts rest w) || y) (ap (λ o. is_some (shown_if b o)) (row_named_is t.slots w) ∙ shown_is b first (slot_named t.slots w))
    ∙ sym (one_or (last_slot b ts rest w) (slot_shown b first (slot_named t.slots w)))

either_is : {A B : Type 0} (o p : Option A) (q r : Option B) → is_some o ≡ is_some q → is_some p ≡ is_some r → is_some (tables.or_else o p) ≡ is_some (tables.or_else q r)
either_is o p q r e f = one_or o p ∙ ap (λ y. y || is_some p) e ∙ ap (λ y. is_some q || y) f ∙ sym (one_or q r)

pub known_is : (is : List ItemTree) (ts : List Tables) (w : List ℕ) → is_some (known_function is ts w) ≡ is_some (laid_slot is ts w)
known_is is ts w =
    either_is (own_function is w) _ (own_slot 0 (parts_of ts) is w) _ (own_function_is 0 (parts_of ts) is w)
    (either_is (last_shown true ts w) _ (last_slot true ts 0 w) _ (last_is true ts 0 w)
    (either_is (own_prototype is w) (last_shown false ts w) (prototype_slot (parts_of ts) is w) (last_slot false ts 0 w) (own_prototype_is (parts_of ts) is w) (last_is false ts 0 w)))

pub row_there : (ss : List Slot) (k : ℕ) (w : List ℕ) → is_some (slot_from k (row_names ss) w) ≡ is_some (slot_named ss w)
row_there [] k w = refl
row_there (s ∷ ss) k w =
    later_place (slot_from (suc k) (row_names ss) w) (is_name s.name w) (is_name s.name w) k refl
    ∙ ap (λ y. is_name s.name w || y) (row_there ss (suc k) w)
    ∙ sym (or_later (is_name s.name w) s (slot_named ss w))

simul_there : (ns : Names) (k : ℕ) (w : List ℕ) → list_any (is_name w) ns ≡ is_some (slot_from k ns w)
simul_there [] k w = refl
simul_there (n ∷ ns) k w = ap (λ y. is_name w n || y) (simul_there ns (suc k) w) ∙ sym (later_place (slot_from (suc k) ns w) (is_name n w) (is_name w n) k (turned n w))

called_is : (o s : Option ℕ) (e : Option Efun) (k : Option Signature) (b : Bool) → is_some k ≡ is_some o → b ≡ is_some s → as_function k (if b then ASimul else as_efun e) ≢ Nobody → a_row o (a_simul s (an_efun e)) ≢ called.Nobody
called_is (Some n) s e k b h g f = λ q. absurd cc
called_is None (Some n) e k b h g f = λ q. absurd cc
called_is None None e (Some x) b h g f = absurd cc
called_is None None e None true h g f = absurd cc
called_is None None None None false h g f = absurd (f refl)
called_is None None (Some x) None false h g f = λ q. absurd cc

-- Variables: a name has a row that is seen where the check knows a variable.
abbrev has_seen : ℕ → List VarRow → List ℕ → Bool
has_seen n [] w = false
has_seen n (r ∷ rs) w = (is_seen n r && is_name r.name w) || has_seen n rs w

number_or : (b : Bool) (e : Entry) (es : List Entry) (w : List ℕ) → is_some (last_number (if b then e ∷ es else es) w) ≡ ((b && is_name e.name w) || is_some (last_number es w))
number_or true e es w = later_place (last_number es w) (is_name e.name w) (is_name e.name w) e.number refl
number_or false e es w = refl

seen_is : (n k : ℕ) (rs : List VarRow) (w : List ℕ) → is_some (last_number (seen n k rs) w) ≡ has_seen n rs w
seen_is n k [] w = refl
seen_is n k (r ∷ rs) w = number_or (is_seen n r) (entry r.name k) (seen n (suc k) rs) w ∙ ap (λ y. (is_seen n r && is_name r.name w) || y) (seen_is n (suc k) rs w)

grouped : (a b c : Bool) → (a || (b || c)) ≡ ((a || b) || c)
grouped true b c = refl
grouped false b c = refl

seen_both : (n : ℕ) (rs us : List VarRow) (w : List ℕ) → has_seen n (rs ++ us) w ≡ (has_seen n rs w || has_seen n us w)
seen_both n [] us w = refl
seen_both n (r ∷ rs) us w = ap (λ y. (is_seen n r && is_name r.name w) || y) (seen_both n rs us w) ∙ grouped (is_seen n r && is_name r.name w) (has_seen n rs w) (has_seen n us w)

own_seen : (part : ℕ) (p m : Bool) → ((nat_eq (suc part) (suc part) || p) && m) ≡ m
own_seen part p m = ap (λ y. (y || p) && m) (eq-eqb (suc part) (suc part) refl)

declared_seen : (part : ℕ) (ms : List Modifier) (base : Base) (ds : List DeclaratorTree) (w : List ℕ) → is_some (declared_kind base ds w) ≡ has_seen (suc part) (map (var_row part ms base) ds) w
declared_seen part ms base [] w = refl
declared_seen part ms base (d ∷ ds) w =
    let r = var_row part ms base d in
    later_or (declared_kind base ds w) (is_name w d.name) (is_name d.name w) r.kind (turned w d.name)
    ∙ ap (λ y. is_name d.name w || y) (declared_seen part ms base ds w)
    ∙ ap (λ y. y || has_seen (suc part) (map (var_row part ms base) ds) w) (sym (own_seen part (not (is_private_number r.mods)) (is_name d.name w)))

own_kind_is : (part : ℕ) (is : List ItemTree) (w : List ℕ) → is_some (own_kind is w) ≡ has_seen (suc part) (own_rows part is) w
own_kind_is part [] w = refl
own_kind_is part (Inherit line path ∷ is) w = own_kind_is part is w
own_kind_is part (Proto line ms ty name ps ∷ is) w = own_kind_is part is w
own_kind_is part (Fun line ms ty name ps b ∷ is) w = own_kind_is part is w
own_kind_is part (Var line ms base ds ∷ is) w =
    one_or (own_kind is w) (declared_kind base ds w)
    ∙ swapped (is_some (own_kind is w)) (is_some (declared_kind base ds w))
    ∙ ap (λ y. y || is_some (own_kind is w)) (declared_seen part ms base ds w)
    ∙ ap (λ y. has_seen (suc part) (map (var_row part ms base) ds) w || y) (own_kind_is part is w)
    ∙ sym (seen_both (suc part) (map (var_row part ms base) ds) (own_rows part is) w)

shown_kind : (p m x : Bool) (ty : TypeName) → is_some (if p then None else if m then Some ty else None) ≡ true → ((x || not p) && m) ≡ true
shown_kind true m x ty h = absurd cc
shown_kind false true true ty h = refl
shown_kind false true false ty h = refl
shown_kind false false x ty h = absurd cc

rows_seen : (n first : ℕ) (vs : List VarRow) (w : List ℕ) → is_some (row_kind vs w) ≡ true → has_seen n (map (row_moved first) vs) w ≡ true
rows_seen n first [] w h = absurd cc
rows_seen n first (v ∷ vs) w h =
    let this = if is_private_number v.mods then None else if is_name w v.name then Some v.kind else None in
    let here = is_seen n (row_moved first v) && is_name v.name w in
    let rest = has_seen n (map (row_moved first) vs) w in
    either (is_some (row_kind vs w)) (is_some this) (here || rest) (λ q. second_true here rest (rows_seen n first vs w q))
    (λ q. first_true here rest (ap (λ m. is_seen n (row_moved first v) && m) (turned v.name w) ∙ shown_kind (is_private_number v.mods) (is_name w v.name) (nat_eq (suc (first + v.part)) n) v.kind q))
    (sym (one_or (row_kind vs w) this) ∙ h)

variables_seen : (n first : ℕ) (is : List ItemTree) (ts : List Tables) (w : List ℕ) → n ≡ suc (first + parts_of ts) → (is_some (own_kind is w) || is_some (inherited_kind ts w)) ≡ true → has_seen n (laid_variables is ts first) w ≡ true
variables_seen n first is [] w e h =
    let f : suc first ≡ n = omega (arith, e) in
    subst (λ m. has_seen m (own_rows first is) w ≡ true) f (sym (own_kind_is first is w) ∙ either (is_some (own_kind is w)) false (is_some (own_kind is w)) (λ q. q) (λ q. absurd cc) h)
variables_seen n first is (t ∷ ts) w e h =
    let here = has_seen n (map (row_moved first) t.vars) w in
    let later = has_seen n (laid_variables is ts (first + length t.parts)) w in
    let own = is_some (own_kind is w) in
    let far = is_some (inherited_kind ts w) in
    let near = is_some (row_kind t.vars w) in
    let f : n ≡ suc ((first + length t.parts) + parts_of ts) = omega (arith, e) in
    let g : (own || (far || near)) ≡ true = ap (λ y. own || y) (sym (one_or (inherited_kind ts w) (row_kind t.vars w))) ∙ h in
    seen_both n (map (row_moved first) t.vars) (laid_variables is ts (first + length t.parts)) w
    ∙ either (own || far) near (here || later) (λ q. second_true here later (variables_seen n (first + length t.parts) is ts w f q)) (λ q. first_true here later (rows_seen n first t.vars w q)) (sym (grouped own far near) ∙ g)

a_variable : (o : Option ℕ) → is_some o ≡ true → a_global o ≢ variables.Nothing
a_variable None h = absurd cc
a_variable (Some k) h = λ q. absurd cc

-- Parents: the number that a name is given is that of one with such a row.
abbrev HasRowAt : List Tables → ℕ → List ℕ → Type 0
HasRowAt ts i w = is_some (slot_in (slice_get (map (λ (t : Tables). row_names t.slots) ts) i) w) ≡ true

abbrev IsRowFrom : ℕ → List Tables → ℕ → List ℕ → Type 0
IsRowFrom k ts j w = (i : ℕ) × (j ≡ k + i) × HasRowAt ts i w

wanted_there : (c : Bool) (sig : Signature) → is_some (if c then Some sig else None) ≡ true → c ≡ true
wanted_there true sig h = refl
wanted_there false sig h = absurd cc

rows_there : (b : Bool) (k : ℕ) (ss : List Slot) (w : List ℕ) → is_some (shown_if b (row_named ss w)) ≡ true → is_some (last_number (shown_rows b k ss) w) ≡ true
rows_there b k [] w h = absurd cc
rows_there b k (s ∷ ss) w h =
    number_or c (entry s.name k) (shown_rows b k ss) w ∙ ap (λ m. (c && m) || is_some (last_number (shown_rows b k ss) w)) (turned s.name w) ∙ by (rows_there b k ss w) (is_name w s.name) h
  where
    c : Bool
    c = is_shown s && is_wanted b s

    by : (is_some (shown_if b (row_named ss w)) ≡ true → is_some (last_number (shown_rows b k ss) w) ≡ true) → (m : Bool) → is_some (shown_if b (if m then Some s else row_named ss w)) ≡ true → ((c && m) || is_some (last_number (shown_rows b k ss) w)) ≡ true
    by ih true q = first_true (c && true) (is_some (last_number (shown_rows b k ss) w)) (ap (λ y. y && true) (wanted_there c (tables.signature_of s) q))
    by ih false q = second_true (c && false) (is_some (last_number (shown_rows b k ss) w)) (ih q)

shown_there : (b : Bool) (k : ℕ) (ts : List Tables) (w : List ℕ) → is_some (last_shown b ts w) ≡ true → is_some (last_number (shown b k ts) w) ≡ true
shown_there b k [] w h = absurd cc
shown_there b k (t ∷ ts) w h =
    let far = last_number (shown b (suc k) ts) w in
    let near = last_number (shown_rows b k t.slots) w in
    ap is_some (last_of_both (shown_rows b k t.slots) (shown b (suc k) ts) w)
    ∙ one_or_other far near
    ∙ either (is_some (last_shown b ts w)) (is_some (shown_if b (row_named t.slots w))) (is_some far || is_some near)
    (λ q. first_true (is_some far) (is_some near) (shown_there b (suc k) ts w q))
    (λ q. second_true (is_some far) (is_some near) (rows_there b k t.slots w q))
    (sym (one_or (last_shown b ts w) (shown_if b (row_named t.slots w))) ∙ h)

same_some : {a b : ℕ} → Some a ≡ Some b → a ≡ b
same_some {a} {b} e = ap (λ o. or_zero o) e
  where
    or_zero : Option ℕ → ℕ
    or_zero None = 0
    or_zero (Some n) = n

-- a number that an entry of a name has
from_rows : (b : Bool) (k j : ℕ) (ss : List Slot) (w : List ℕ) → last_number (shown_rows b k ss) w ≡ Some j → (j ≡ k) × (is_some (slot_named ss w) ≡ true)
from_rows b k j [] w h = absurd cc
from_rows b k j (s ∷ ss) w h = by (from_rows b k j ss w) (is_shown s && is_wanted b s) (is_name s.name w) (last_number (shown_rows b k ss) w) refl refl h
  where
    later : (m : Bool) → (j ≡ k) × (is_some (slot_named ss w) ≡ true) → (j ≡ k) × (is_some (if m then Some s else slot_named ss w) ≡ true)
    later true q = (q.0, refl)
    later false q = q

    by : (last_number (shown_rows b k ss) w ≡ Some j → (j ≡ k) × (is_some (slot_named ss w) ≡ true)) → (c m : Bool) (o : Option ℕ) → is_name s.name w ≡ m → last_number (shown_rows b k ss) w ≡ o → last_number (if c then entry s.name k ∷ shown_rows b k ss else shown_rows b k ss) w ≡ Some j → (j ≡ k) × (is_some (if is_name s.name w then Some s else slot_named ss w) ≡ true)
    by ih false m o e f q = later (is_name s.name w) (ih q)
    by ih true m (Some i) e f q = later (is_name s.name w) (ih (f ∙ sym (ap (λ x. or_else x (if is_name s.name w then Some k else None)) f) ∙ q))
    by ih true true None e f q =
        let p : Some k ≡ Some j = sym (ap (λ x. or_else x (if is_name s.name w then Some k else None)) f ∙ ap (λ m. if m then Some k else None) e) ∙ q in
        (sym (same_some p), ap (λ m. is_some (if m then Some s else slot_named ss w)) e)
    by ih true false None e f q =
        let p : None ≡ Some j = sym (ap (λ x. or_else x (if is_name s.name w then Some k else None)) f ∙ ap (λ m. if m then Some k else None) e) ∙ q in
        absurd cc

number_from : (b : Bool) (k j : ℕ) (ts : List Tables) (w : List ℕ) → last_number (shown b k ts) w ≡ Some j → IsRowFrom k ts j w
number_from b k j [] w h = absurd cc
number_from b k j (t ∷ ts) w h = by (number_from b (suc k) j ts w) (last_number (shown b (suc k) ts) w) refl (sym (last_of_both (shown_rows b k t.slots) (shown b (suc k) ts) w) ∙ h)
  where
    by : (last_number (shown b (suc k) ts) w ≡ Some j → IsRowFrom (suc k) ts j w) → (o : Option ℕ) → last_number (shown b (suc k) ts) w ≡ o → or_else (last_number (shown b (suc k) ts) w) (last_number (shown_rows b k t.slots) w) ≡ Some j → IsRowFrom k (t ∷ ts) j w
    by ih (Some n) e q =
        let p : Some n ≡ Some j = sym (ap (λ x. or_else x (last_number (shown_rows b k t.slots) w)) e) ∙ q in
        let r = ih (e ∙ p) in
        let f = r.1 in
        (suc r.0, (omega (arith, f)), r.2)
    by ih None e q =
        let r = from_rows b k j t.slots w (sym (ap (λ x. or_else x (last_number (shown_rows b k t.slots) w)) e) ∙ q) in
        let f = r.0 in
        (0, (omega (arith, f)), row_there t.slots 0 w ∙ r.1)

-- a parent that was found shows a row
beyond : (l : Plan) (ts : List Tables) (w : List ℕ) (o : Option ℕ) → l.parents ≡ map (λ (t : Tables). row_names t.slots) ts → is_some o ≡ true → ((j : ℕ) → o ≡ Some j → IsRowFrom 0 ts j w) → row_beyond l o w ≢ None
beyond l ts w None e h f = absurd cc
beyond l ts w (Some j) e h f =
    let r = f j refl in
    let q : j ≡ r.0 = let g = r.1 in omega (arith, g) in
    not_none (slot_in (slice_get l.parents j) w) (ap (λ ps. is_some (slot_in (slice_get ps j) w)) e ∙ subst (λ i. HasRowAt ts i w) (sym q) r.2)

two_kinds : (o p : Option ℕ) (a b : Bool) → (a ≡ true → is_some o ≡ true) → (b ≡ true → is_some p ≡ true) → (a || b) ≡ true → is_some (or_else o p) ≡ true
two_kinds o p a b f g h = one_or_other o p ∙ either a b (is_some o || is_some p) (λ q. first_true (is_some o) (is_some p) (f q)) (λ q. second_true (is_some o) (is_some p) (g q)) h

of_either : (o p : Option ℕ) (j : ℕ) (A : Type 0) → (o ≡ Some j → A) → (p ≡ Some j → A) → or_else o p ≡ Some j → A
of_either None p j A f g h = g h
of_either (Some n) p j A f g h = f h

inherited_is : (l : Plan) (ts : List Tables) (w : List ℕ) → l.parents ≡ map (λ (t : Tables). row_names t.slots) ts → parent_with_in l w ≡ or_else (last_number (shown true 0 ts) w) (last_number (shown false 0 ts) w) → of_parents ts w ≢ None → IsParentCalled l (parent_with_in l w) w
inherited_is l ts w e f h =
    let o = last_number (shown true 0 ts) w in
    let p = last_number (shown false 0 ts) w in
    let some = two_kinds o p (is_some (last_shown true ts w)) (is_some (last_shown false ts w)) (shown_there true 0 ts w) (shown_there false 0 ts w) (sym (one_or (last_shown true ts w) (last_shown false ts w)) ∙ there_is (of_parents ts w) h) in
    subst (λ x. IsParentCalled l x w) (sym f)
    (beyond l ts w (or_else o p) e some (λ j q. of_either o p j (IsRowFrom 0 ts j w) (number_from true 0 j ts w) (number_from false 0 j ts w) q))

-- the one parent that a path calls
none_called : (k : ℕ) (ts : List Tables) (p : List ℕ) → filter (has_path p) ts ≡ [] → last_called k ts p ≡ None
none_called k [] p h = refl
none_called k (t ∷ ts) p h = by (none_called (suc k) ts p) (has_path p t) refl h
  where
    by : (filter (has_path p) ts ≡ [] → last_called (suc k) ts p ≡ None) → (b : Bool) → has_path p t ≡ b → cond b (t ∷ filter (has_path p) ts) (filter (has_path p) ts) ≡ [] → or_else (last_called (suc k) ts p) (if has_path p t then Some k else None) ≡ None
    by ih true e q = absurd cc
    by ih false e q = ap (λ x. or_else x (if has_path p t then Some k else None)) (ih q) ∙ ap (λ b. if b then Some k else None) e

-- an only one
abbrev IsOne : ℕ → List Tables → List ℕ → Option ℕ → Type 0
IsOne k ts w o = (j : ℕ) × (o ≡ Some j) × IsRowFrom k ts j w

one_has : (o : Option Slot) → (tables.or_else (shown_if true o) (shown_if false o) ≡ None → ⊥) → is_some o ≡ true
one_has None h = absurd (h refl)
one_has (Some s) h = refl

no_tables : (xs : List Tables) → nat_lt 1 (suc (length xs)) ≡ false → xs ≡ []
no_tables [] h = refl
no_tables (x ∷ xs) h = let p : nat_lt 1 (suc (suc (length xs))) ≡ true = lt-ltb 1 (suc (suc (length xs))) (omega arith) in absurd cc

called_one : (k : ℕ) (ts : List Tables) (p w : List ℕ) → is_ambiguous ts p ≡ false → of_these (filter (has_path p) ts) w ≢ Nobody → IsOne k ts w (last_called k ts p)
called_one k [] p w h g = absurd (g refl)
called_one k (t ∷ ts) p w h g = by (called_one (suc k) ts p w) (has_path p t) refl h g
  where
    by : (is_ambiguous ts p ≡ false → of_these (filter (has_path p) ts) w ≢ Nobody → IsOne (suc k) ts w (last_called (suc k) ts p)) → (b : Bool) → has_path p t ≡ b → nat_lt 1 (length (cond b (t ∷ filter (has_path p) ts) (filter (has_path p) ts))) ≡ false → of_these (cond b (t ∷ filter (has_path p) ts) (filter (has_path p) ts)) w ≢ Nobody → IsOne k (t ∷ ts) w (or_else (last_called (suc k) ts p) (if has_path p t then Some k else None))
    by ih true e q r =
        let empty = no_tables (filter (has_path p) ts) q in
        let only : of_these (t ∷ []) w ≢ Nobody = subst (λ xs. of_these (t ∷ xs) w ≢ Nobody) empty r in
        let some = one_has (row_named t.slots w) (λ z. only (ap (λ o. as_function o Nobody) z)) in
        (k, (ap (λ x. or_else x (if has_path p t then Some k else None)) (none_called (suc k) ts p empty) ∙ ap (λ b. if b then Some k else None) e), (0, (omega arith), row_there t.slots 0 w ∙ sym (ap is_some (row_named_is t.slots w)) ∙ some))
    by ih false e q r =
        let m = ih q r in
        let f = m.2.1 in
        (m.0, (ap (λ x. or_else x (if has_path p t then Some k else None)) m.1), (suc m.2.0, (omega (arith, f)), m.2.2))

named_is : (l : Plan) (ts : List Tables) (p w : List ℕ) → l.parents ≡ map (λ (t : Tables). row_names t.slots) ts → parent_called_in l p ≡ last_called 0 ts p → is_ambiguous ts p ≡ false → of_these (filter (has_path p) ts) w ≢ Nobody → IsParentCalled l (parent_called_in l p) w
named_is l ts p w e f h g =
    let m = called_one 0 ts p w h g in
    subst (λ x. IsParentCalled l x w) (sym (f ∙ m.1)) (beyond l ts w (Some m.0) e refl (λ j q. subst (λ n. IsRowFrom 0 ts n w) (same_some q) m.2))

-- the own part stands behind those of the parents
own_parts : (ts : List Tables) (v : ProgId) → length (parts_before ts ++ v ∷ []) ≡ suc (0 + parts_of ts)
own_parts [] v = refl
own_parts (t ∷ ts) v =
    let e = own_parts ts v in
    ap length (append_assoc t.parts (parts_before ts) (v ∷ [])) ∙ length-append t.parts (parts_before ts ++ v ∷ []) ∙ (omega (arith, e))

-- the layout of a unit's own tables knows what the check knows where no local is seen
pub own_knows : (a : Around) (own : Tables) → AreOwn own a.items a.parents → Knows (plan_of own a.parents a.simuls) [] a []
own_knows a own o =
    let l = plan_of own a.parents a.simuls in
    let n = length own.parts in
    let parts : n ≡ suc (0 + parts_of a.parents) = ap length o.parts ∙ own_parts a.parents o.version in
    record {
      variables = λ w h.
          a_variable (global_in l w)
          (ap is_some ((last_counts own a.parents a.simuls w).0) ∙ seen_is n 0 own.vars w ∙ ap (λ rs. has_seen n rs w) o.variables
          ∙ variables_seen n 0 a.items a.parents w parts (sym (one_or (own_kind a.items w) (inherited_kind a.parents w)) ∙ h));
      functions = λ w h.
          called_is (slot_of (row_names own.slots) w) (slot_of a.simuls w) (efun_named w) (known_function a.items a.parents w) (list_any (is_name w) a.simuls)
          (known_is a.items a.parents w ∙ sym (row_there own.slots 0 w ∙ ap (λ ss. is_some (slot_named ss w)) o.rows ∙ ap is_some (row_laid a.items a.parents w)))
          (simul_there a.simuls 0 w) h;
      inherited = λ w h. inherited_is l a.parents w refl ((last_counts own a.parents a.simuls w).1) h;
      named = λ p w h g. named_is l a.parents p w refl ((last_counts own a.parents a.simuls p).2 ∙ paths_are_names 0 a.parents p) h g;
    }
