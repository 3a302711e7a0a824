-- The faults of the items of a unit, one after another.
use Rattle.std.proofs.Common.{◌≡◌, ℕ, List, [], ◌∷◌, ◌++◌, Option, Bool, true, false, ◌||◌, refl, sym, ap, ◌∙◌}
use Rattle.std.proofs.lemmas.List.{append-nil}
use Rattle.std.specs.List.{list_any}
use Rattle.lp_instr.specs.EfunList.{is_name}
use Rattle.lp_tree.specs.declared.keyword.Base.{Base}
use Rattle.lp_tree.specs.declared.keyword.Modifier.{Modifier}
use Rattle.lp_tree.specs.declared.types.TypeName.{TypeName}
use Rattle.lp_tree.specs.declared.unit.Param.{Param}
use Rattle.lp_tree.specs.Statements.{DeclaratorTree}
use Rattle.lp_tree.specs.Units.{ItemTree, BlockTree, Inherit, Proto, Fun, Var}
use Rattle.lp_types_expr.specs.declared.fault.FaultAt.{FaultAt}
use Rattle.lp_types_expr.specs.Known.{Around}
use Rattle.lp_types_expr.specs.Walk.{all_at}
use Rattle.lp_types.specs.declared.names.NameSet.{NameSet}
use Rattle.lp_types.specs.Checks.{IsSetOf, HasName, param_told, InParams, global_told, TellsGlobals, InGlobals, TellsItem, InItems, head_told}
use Rattle.lp_types.specs.NameSets.{is_in}
use Rattle.lp_types.specs.TypeFaults.{body_scope, missing_type, params_faults, globals_faults, items_faults, names_of, stmts_faults}
use Rattle.lp_types.proofs.Adding.{then, consumed}

noted : (n : List ℕ) (old new : NameSet) (ns : List (List ℕ)) → HasName n old new → IsSetOf old ns → IsSetOf new (n ∷ ns)
noted n old new ns h s w = h w ∙ ap (λ b. is_name w n || b) (s w)

pub param_step : (a : Around) (before told new : List FaultAt) (all ps : List Param) (p : Param) (old next : NameSet)
    → InParams a before told all (p ∷ ps) old → new ≡ told ++ param_told a (is_in old p.name) p → HasName p.name old next → InParams a before new all ps next
param_step a before told new all ps p old next i f h = record {
  earlier = p.name ∷ i.earlier;
  names_are = noted p.name old next i.earlier h i.names_are;
  faults = i.faults ∙ consumed told (param_told a (list_any (is_name p.name) i.earlier) p) (params_faults a (p.name ∷ i.earlier) ps) new (f ∙ ap (λ b. told ++ param_told a b p) (i.names_are p.name));
}

moved : (x y z : Bool) → ((x || y) || z) ≡ (y || (x || z))
moved true true z = refl
moved true false z = refl
moved false y z = refl

pub global_step : (a : Around) (b : Base) (before told new : List FaultAt) (all ds : List DeclaratorTree) (d : DeclaratorTree) (old now next : NameSet)
    → InGlobals a b before told all (d ∷ ds) old now → new ≡ told ++ global_told a (is_in now d.name) b d → HasName d.name now next → InGlobals a b before new all ds old next
global_step a b before told new all ds d old now next i f h = record {
  names = λ w. i.names w ∙ moved (is_name w d.name) (list_any (is_name w) (names_of ds)) (is_in now w) ∙ ap (λ x. list_any (is_name w) (names_of ds) || x) (sym (h w));
  faults = λ earlier s.
      let r = i.faults earlier s in
      (d.name ∷ r.0, noted d.name now next r.0 h r.1, r.2 ∙ consumed told (global_told a (list_any (is_name d.name) r.0) b d) (globals_faults a (d.name ∷ r.0) b ds) new (f ∙ ap (λ x. told ++ global_told a x b d) (r.1 d.name)));
}

pub globals_end : (a : Around) (b : Base) (before told : List FaultAt) (all : List DeclaratorTree) (old now : NameSet) → InGlobals a b before told all [] old now → TellsGlobals a b all old now before told
globals_end a b before told all old now i = record {
  names = λ w. sym (i.names w);
  faults = λ earlier s. let r = i.faults earlier s in sym (r.2 ∙ append-nil told);
}

any_both : {A : Type 0} (p : A → Bool) (xs ys : List A) → (list_any p xs || list_any p ys) ≡ list_any p (xs ++ ys)
any_both p [] ys = refl
any_both p (x ∷ xs) ys = or_both (p x) (list_any p xs) (list_any p ys) ∙ ap (λ b. p x || b) (any_both p xs ys)
  where
    or_both : (a b c : Bool) → ((a || b) || c) ≡ (a || (b || c))
    or_both true b c = refl
    or_both false b c = refl

pub inherit_told : (a : Around) (line : ℕ) (path : List ℕ) (funs vars : NameSet) (o : List FaultAt) → TellsItem a (Inherit line path) funs vars funs vars o o
inherit_told a line path funs vars o = record { step = λ fs vs rest s t. (fs, vs, s, t, refl) }

pub proto_told : (a : Around) (line : ℕ) (ms : List Modifier) (ty : Option TypeName) (w : List ℕ) (ps : List Param) (funs vars : NameSet) (o m n : List FaultAt)
    → m ≡ o ++ all_at line (missing_type a ty) → n ≡ m ++ params_faults a [] ps → TellsItem a (Proto line ms ty w ps) funs vars funs vars o n
proto_told a line ms ty w ps funs vars o m n f g = record {
  step = λ fs vs rest s t. (fs, vs, s, t, consumed o (all_at line (missing_type a ty) ++ params_faults a [] ps) (items_faults a fs vs rest) n (then _ _ _ f g));
}

pub fun_told : (a : Around) (line : ℕ) (ms : List Modifier) (ty : Option TypeName) (w : List ℕ) (ps : List Param) (b : BlockTree) (funs next vars : NameSet) (o m n p : List FaultAt)
    → m ≡ o ++ head_told a (is_in funs w) line ty → HasName w funs next → n ≡ m ++ params_faults a [] ps → p ≡ n ++ stmts_faults a (body_scope ty ps) b.stmts → TellsItem a (Fun line ms ty w ps b) funs vars next vars o p
fun_told a line ms ty w ps b funs next vars o m n p f h g k = record {
  step = λ fs vs rest s t. (
    w ∷ fs,
    vs,
    noted w funs next fs h s,
    t,
    consumed o ((head_told a (list_any (is_name w) fs) line ty ++ params_faults a [] ps) ++ stmts_faults a (body_scope ty ps) b.stmts) (items_faults a (w ∷ fs) vs rest) p
        (then _ _ _ (then _ _ _ (f ∙ ap (λ x. o ++ head_told a x line ty) (s w)) g) k),
  );
}

pub var_told : (a : Around) (line : ℕ) (ms : List Modifier) (b : Base) (ds : List DeclaratorTree) (funs vars next : NameSet) (o n : List FaultAt) → TellsGlobals a b ds vars next o n → TellsItem a (Var line ms b ds) funs vars funs next o n
var_told a line ms b ds funs vars next o n g = record {
  step = λ fs vs rest s t. (
    fs,
    names_of ds ++ vs,
    s,
    (λ w. g.names w ∙ ap (λ x. list_any (is_name w) (names_of ds) || x) (t w) ∙ any_both (is_name w) (names_of ds) vs),
    consumed o (globals_faults a vs b ds) (items_faults a fs (names_of ds ++ vs) rest) n (g.faults vs t),
  );
}

pub item_step : (a : Around) (before told new : List FaultAt) (all rest : List ItemTree) (it : ItemTree) (funs vars funs' vars' : NameSet)
    → InItems a before told all (it ∷ rest) funs vars → TellsItem a it funs vars funs' vars' told new → InItems a before new all rest funs' vars'
item_step a before told new all rest it funs vars funs' vars' i t =
    let r = t.step i.fs i.vs rest i.funs_are i.vars_are in
    record { fs = r.0; vs = r.1; funs_are = r.2; vars_are = r.3; faults = i.faults ∙ r.4 }

pub items_none : (a : Around) (all : List ItemTree) (told : List FaultAt) (funs vars : NameSet) → told ≡ [] → ((w : List ℕ) → is_in funs w ≡ false) → ((w : List ℕ) → is_in vars w ≡ false) → InItems a [] told all all funs vars
items_none a all told funs vars e f v = record { fs = []; vs = []; funs_are = f; vars_are = v; faults = ap (λ l. l ++ items_faults a [] [] all) (sym e) }
