-- What a layout says of names is what the version says.
use Rattle.std.proofs.Common.{◌≡◌, ℕ, suc, ◌+◌, List, [], ◌∷◌, Option, Some, None, Bool, true, false, if◌then◌else◌, ◌&&◌, refl, sym, ap, ◌∙◌, subst, arith}
use Rattle.std.specs.Prelude.{slice_get, is_some, nat_eq}
use Rattle.std.specs.Cmp.Lexicographic.{pointwise}
use Rattle.std.proofs.lemmas.Bool.{eqb-true}
use Rattle.lp_instr.specs.declared.efun.Efun.{Efun}
use Rattle.lp_instr.specs.declared.instr.Instr.TheVariants.{CallSlot, CallEfun, CallFixed}
use Rattle.lp_instr.specs.EfunList.{is_name, efun_named}
use Rattle.lp_language.specs.Resolve.{Heritage, or_else, row, parent_with, parent_called}
use Rattle.lp_language.specs.Scope.{Names, slot_of, slot_from, Slot, OfLocal, OfGlobal, OfNothing, as_global, local_or, slot, Callee, AFunction, ASimul, AnEfun, Nobody, as_efun, callee}
use Rattle.lp_instr.specs.Code.{Code, or_none}
use Rattle.lp_isa.specs.Translates.{Reads, Writes, Calls, CallsParent}
use Rattle.lp_codegen_expr.specs.declared.scope.Variable.{Variable}
use Rattle.lp_codegen_expr.specs.declared.scope.Variable.TheVariants as variables
use Rattle.lp_codegen_expr.specs.declared.scope.Called.{Called}
use Rattle.lp_codegen_expr.specs.declared.scope.Called.TheVariants as called
use Rattle.lp_codegen_expr.specs.Names.{Plan, Lays, global_in, a_global, a_local, variable_in_scope, an_efun, a_simul, a_row, callee_in, parent_with_in, parent_called_in, slot_in, row_in}
use Rattle.lp_codegen_expr.specs.Drafts.{Sketch, Adds, line, of_read, of_write_slot, of_call, of_efun_call, of_parent_call}
use Rattle.lp_codegen_expr.proofs.Compose.{by_layout}

abbrev or_zero : Option ℕ → ℕ
or_zero None = 0
or_zero (Some k) = k

both : (b c : Bool) → (b && c) ≡ true → (b ≡ true) × (c ≡ true)
both true true e = (refl, refl)
both true false e = absurd cc
both false c e = absurd cc

-- a name that was found stands there
pub same_name : (xs ys : List ℕ) → is_name xs ys ≡ true → xs ≡ ys
same_name [] [] e = refl
same_name [] (y ∷ ys) e = absurd cc
same_name (x ∷ xs) [] e = absurd cc
same_name (x ∷ xs) (y ∷ ys) e = let w = both (nat_eq x y) (pointwise nat_eq xs ys) e in ap (λ z. z ∷ xs) (eqb-true x y w.0) ∙ ap (λ zs. y ∷ zs) (same_name xs ys w.1)

here : (k : ℕ) (n : List ℕ) (ns : Names) (w : List ℕ) (j : ℕ) (b : Bool) → is_name n w ≡ b → (if b then Some k else None) ≡ Some j → (i : ℕ) × (j ≡ k + i) × (slice_get (n ∷ ns) i ≡ Some w)
here k n ns w j true f e = let q : j ≡ k = sym (ap or_zero e) in (0, omega arith, ap Some (same_name n w f))
here k n ns w j false f e = absurd cc

later : (k : ℕ) (n : List ℕ) (ns : Names) (w : List ℕ) (j : ℕ) (o : Option ℕ) → (o ≡ Some j → (i : ℕ) × (j ≡ suc k + i) × (slice_get ns i ≡ Some w)) → or_else o (if is_name n w then Some k else None) ≡ Some j → (i : ℕ) × (j ≡ k + i) × (slice_get (n ∷ ns) i ≡ Some w)
later k n ns w j (Some m) f e = let h = f e in let q = h.1 in (suc h.0, omega arith, h.2)
later k n ns w j None f e = here k n ns w j (is_name n w) refl e

pub slot_found : (k : ℕ) (ns : Names) (w : List ℕ) (j : ℕ) → slot_from k ns w ≡ Some j → (i : ℕ) × (j ≡ k + i) × (slice_get ns i ≡ Some w)
slot_found k [] w j e = absurd cc
slot_found k (n ∷ ns) w j e = later k n ns w j (slot_from (suc k) ns w) (slot_found (suc k) ns w j) e

pub name_there : (ns : Names) (w : List ℕ) (j : ℕ) → slot_of ns w ≡ Some j → slice_get ns j ≡ Some w
name_there ns w j e = let h = slot_found 0 ns w j e in let g = h.1 in let q : j ≡ h.0 = omega arith in ap (slice_get ns) q ∙ h.2

-- variables
abbrev pub slot_meant : Variable → Slot
slot_meant (variables.Local k) = OfLocal k
slot_meant (variables.Global k) = OfGlobal k
slot_meant variables.Nothing = OfNothing

meant : (o g : Option ℕ) → slot_meant (a_local o (a_global g)) ≡ local_or o (as_global g)
meant None None = refl
meant None (Some g) = refl
meant (Some k) g = refl

slot_same : (l : Plan) (h : Heritage) (code : Code) (ns : Names) (w : List ℕ) → Lays l h code → slot_meant (variable_in_scope l ns w) ≡ slot h ns w
slot_same l h code ns w r = meant (slot_of ns w) (global_in l w) ∙ ap (λ g. local_or (slot_of ns w) (as_global g)) (r.globals w)

pub read_adds : {l : Plan} {old new : Sketch} (ns : Names) (w : List ℕ) (v : Variable) → v ≡ variable_in_scope l ns w → Adds l (λ a from to. Reads a.code (slot_meant v) from to) old new → Adds l (of_read ns w) old new
read_adds {l} ns w v e h = by_layout (λ a from to. Reads a.code (slot_meant v) from to) (of_read ns w) (λ a r from to p. subst (λ s. Reads a.code s from to) (ap slot_meant e ∙ slot_same l a.heritage a.code ns w r) p) h

pub write_adds : {l : Plan} {old new : Sketch} (ns : Names) (w : List ℕ) (v : Variable) → v ≡ variable_in_scope l ns w → Adds l (λ a from to. Writes a.code (slot_meant v) from to) old new → Adds l (of_write_slot ns w) old new
write_adds {l} ns w v e h = by_layout (λ a from to. Writes a.code (slot_meant v) from to) (of_write_slot ns w) (λ a r from to p. subst (λ s. Writes a.code s from to) (ap slot_meant e ∙ slot_same l a.heritage a.code ns w r) p) h

-- calls
abbrev pub callee_meant : Called → Callee
callee_meant (called.Row k) = AFunction
callee_meant called.Simul = ASimul
callee_meant (called.Efun e) = AnEfun e
callee_meant called.Nobody = Nobody

call_meant : (r s : Option ℕ) (e : Option Efun) → callee_meant (a_row r (a_simul s (an_efun e))) ≡ (if is_some r then AFunction else if is_some s then ASimul else as_efun e)
call_meant None None None = refl
call_meant None None (Some e) = refl
call_meant None (Some s) e = refl
call_meant (Some r) s e = refl

callee_same : (l : Plan) (h : Heritage) (code : Code) (w : List ℕ) → Lays l h code → callee_meant (callee_in l w) ≡ callee h w
callee_same l h code w r =
    call_meant (slot_of l.rows w) (slot_of l.simuls w) (efun_named w)
    ∙ ap (λ b. if b then AFunction else if is_some (slot_of l.simuls w) then ASimul else as_efun (efun_named w)) (r.functions w)
    ∙ ap (λ b. if is_some (row h w) then AFunction else if b then ASimul else as_efun (efun_named w)) (r.simuls w)

abbrev row_number : Called → Option ℕ
row_number (called.Row k) = Some k
row_number called.Simul = None
row_number (called.Efun e) = None
row_number called.Nobody = None

row_known : (r s : Option ℕ) (e : Option Efun) → row_number (a_row r (a_simul s (an_efun e))) ≡ r
row_known None None None = refl
row_known None None (Some e) = refl
row_known None (Some s) e = refl
row_known (Some r) s e = refl

pub call_adds : {l : Plan} {old new : Sketch} (w : List ℕ) (n : ℕ) (v : Called) → v ≡ callee_in l w → Adds l (λ a from to. Calls a.code (callee_meant v) w n from to) old new → Adds l (of_call w n) old new
call_adds {l} w n v e h = by_layout (λ a from to. Calls a.code (callee_meant v) w n from to) (of_call w n) (λ a r from to p. subst (λ s. Calls a.code s w n from to) (ap callee_meant e ∙ callee_same l a.heritage a.code w r) p) h

pub row_adds : {l : Plan} {old new : Sketch} (w : List ℕ) (n k : ℕ) → called.Row k ≡ callee_in l w → Adds l (line (CallSlot k n ∷ [])) old new → Adds l (of_call w n) old new
row_adds {l} w n k e h =
    let found : slot_of l.rows w ≡ Some k = sym (row_known (slot_of l.rows w) (slot_of l.simuls w) (efun_named w)) ∙ sym (ap row_number e) in
    call_adds w n (called.Row k) e (by_layout (line (CallSlot k n ∷ [])) (λ a from to. Calls a.code AFunction w n from to) (λ a r from to p. (k, ap (λ xs. slice_get xs k) r.rows ∙ name_there l.rows w k found, p)) h)

pub efun_adds : {l : Plan} {old new : Sketch} (w : List ℕ) (n : ℕ) (e : Efun) → efun_named w ≡ Some e → Adds l (line (CallEfun e n ∷ [])) old new → Adds l (of_efun_call w n) old new
efun_adds {l} w n e f h = by_layout (line (CallEfun e n ∷ [])) (of_efun_call w n) (λ a r from to p. subst (λ o. Calls a.code (as_efun o) w n from to) (sym f) p) h

-- the row of a parent
parent_there : (o : Option (List (List ℕ))) (w : List ℕ) (k : ℕ) → slot_in o w ≡ Some k → slice_get (or_none o) k ≡ Some w
parent_there None w k e = absurd cc
parent_there (Some ns) w k e = name_there ns w k e

pub parent_adds : {l : Plan} {old new : Sketch} (w : List ℕ) (n p k : ℕ) → row_in l p w ≡ Some k → Adds l (line (CallFixed p k n ∷ [])) old new → Adds l (of_parent_call (Some p) w n) old new
parent_adds {l} w n p k e h = by_layout (line (CallFixed p k n ∷ [])) (of_parent_call (Some p) w n) (λ a r from to q. (k, ap (λ ps. slice_get (or_none (slice_get ps p)) k) r.parents ∙ parent_there (slice_get l.parents p) w k e, q)) h

pub at_parent : {l : Plan} {old new : Sketch} (w : List ℕ) (n : ℕ) {p q : Option ℕ} → p ≡ q → Adds l (of_parent_call p w n) old new → Adds l (of_parent_call q w n) old new
at_parent {l} {old} {new} w n {p} {q} e h = subst (λ o. Adds l (of_parent_call o w n) old new) e h

pub at_call : {l : Plan} {old new : Sketch} (w : List ℕ) {m n : ℕ} → m ≡ n → Adds l (of_call w m) old new → Adds l (of_call w n) old new
at_call {l} {old} {new} w {m} {n} e h = subst (λ k. Adds l (of_call w k) old new) e h

pub at_efun_call : {l : Plan} {old new : Sketch} (w : List ℕ) {m n : ℕ} → m ≡ n → Adds l (of_efun_call w m) old new → Adds l (of_efun_call w n) old new
at_efun_call {l} {old} {new} w {m} {n} e h = subst (λ k. Adds l (of_efun_call w k) old new) e h

pub inherited_adds : {l : Plan} {old new : Sketch} (w : List ℕ) (p : Option ℕ) {m n : ℕ} → p ≡ parent_with_in l w → m ≡ n → Adds l (of_parent_call p w m) old new → Adds l (λ a from to. CallsParent a.code (parent_with a.heritage w) w n from to) old new
inherited_adds {l} {old} {new} w p {m} {n} e f h =
    by_layout (of_parent_call p w n) (λ a from to. CallsParent a.code (parent_with a.heritage w) w n from to) (λ a r from to q. subst (λ o. CallsParent a.code o w n from to) (e ∙ r.inherited w) q) (subst (λ k. Adds l (of_parent_call p w k) old new) f h)

pub named_adds : {l : Plan} {old new : Sketch} (v w : List ℕ) (p : Option ℕ) {m n : ℕ} → p ≡ parent_called_in l v → m ≡ n → Adds l (of_parent_call p w m) old new → Adds l (λ a from to. CallsParent a.code (parent_called a.heritage v) w n from to) old new
named_adds {l} {old} {new} v w p {m} {n} e f h =
    by_layout (of_parent_call p w n) (λ a from to. CallsParent a.code (parent_called a.heritage v) w n from to) (λ a r from to q. subst (λ o. CallsParent a.code o w n from to) (e ∙ r.named v) q) (subst (λ k. Adds l (of_parent_call p w k) old new) f h)
