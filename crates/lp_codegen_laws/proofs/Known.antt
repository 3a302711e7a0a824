-- A layout that knows what the check of types knows where no local is seen knows it where locals are seen.
use Rattle.std.proofs.Common.{◌≡◌, ◌≢◌, ℕ, suc, List, [], ◌∷◌, map, Bool, true, false, ◌||◌, Option, Some, None, if◌then◌else◌, ⊎_elim, refl, sym, ap, ◌∙◌, subst}
use Rattle.std.specs.Prelude.{is_some}
use Rattle.std.proofs.lemmas.Bool.{cases_Bool}
use Rattle.lp_tree.specs.declared.types.TypeName.{TypeName}
use Rattle.lp_instr.specs.EfunList.{is_name}
use Rattle.lp_language.specs.Resolve.{or_else}
use Rattle.lp_language.specs.Scope.{Names, slot_from, slot_of}
use Rattle.lp_types_expr.specs.Signatures as signatures
use Rattle.lp_types_expr.specs.Signatures.{inherited_kind, own_kind}
use Rattle.lp_types_expr.specs.Known.{Around, local_kind}
use Rattle.lp_types_expr.specs.declared.local.Local.{Local}
use Rattle.lp_codegen_expr.specs.Names.{Plan, a_global, a_local, global_in}
use Rattle.lp_codegen_expr.specs.declared.scope.Variable.{Variable}
use Rattle.lp_codegen_expr.specs.declared.scope.Variable.TheVariants as variables
use Rattle.lp_codegen_expr.proofs.Meanings.{same_name}
use Rattle.lp_codegen_layout.specs.Meant.{Knows}

abbrev pub names : List Local → Names
names ls = map (λ x. x.name) ls

-- names are compared either way
pub turned : (a b : List ℕ) → is_name a b ≡ is_name b a
turned a b =
    ⊎_elim
    (λ (y : is_name a b ≡ true). subst (λ z. is_name a z ≡ is_name z a) (same_name a b y) refl)
    (λ (n : is_name a b ≡ false).
    ⊎_elim
    (λ (y : is_name b a ≡ true). subst (λ z. is_name z b ≡ is_name b z) (same_name b a y) refl)
    (λ (m : is_name b a ≡ false). n ∙ sym m)
    (cases_Bool (is_name b a)))
    (cases_Bool (is_name a b))

-- a local is known where it has a slot
either_slot : (o : Option ℕ) (b : Bool) (k : ℕ) → is_some (or_else o (if b then Some k else None)) ≡ (is_some o || b)
either_slot (Some j) b k = refl
either_slot None true k = refl
either_slot None false k = refl

either_kind : (o : Option TypeName) (b : Bool) (ty : TypeName) → is_some (signatures.or_else o (if b then Some ty else None)) ≡ (is_some o || b)
either_kind (Some t) b ty = refl
either_kind None true ty = refl
either_kind None false ty = refl

same_locals : (ls : List Local) (k : ℕ) (w : List ℕ) → is_some (local_kind ls w) ≡ is_some (slot_from k (names ls) w)
same_locals [] k w = refl
same_locals (x ∷ ls) k w =
    either_kind (local_kind ls w) (is_name w x.name) x.kind
    ∙ ap (λ b. b || is_name w x.name) (same_locals ls (suc k) w)
    ∙ ap (λ b. is_some (slot_from (suc k) (names ls) w) || b) (turned w x.name)
    ∙ sym (either_slot (slot_from (suc k) (names ls) w) (is_name x.name w) k)

-- what is hidden by a local, and what is not
local_is : (o : Option ℕ) (x : Variable) (k : Option TypeName) (rest : Option TypeName) → is_some k ≡ is_some o → (is_some rest ≡ true → x ≢ variables.Nothing) → is_some (signatures.or_else k rest) ≡ true → a_local o x ≢ variables.Nothing
local_is (Some n) x k rest e f h = λ q. absurd cc
local_is None x None rest e f h = f h
local_is None x (Some ty) rest e f h = absurd cc

pub knows_in : (l : Plan) (a : Around) → Knows l [] a [] → (ns : Names) (ls : List Local) → ns ≡ names ls → Knows l ns a ls
knows_in l a k ns ls e = record {
  variables = λ w h.
      local_is (slot_of ns w) (a_global (global_in l w)) (local_kind ls w) (signatures.or_else (own_kind a.items w) (inherited_kind a.parents w))
      (same_locals ls 0 w ∙ ap (λ ms. is_some (slot_of ms w)) (sym e)) (k.variables w) h;
  functions = k.functions;
  inherited = k.inherited;
  named = k.named;
}
