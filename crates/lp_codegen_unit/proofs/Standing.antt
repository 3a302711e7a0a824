-- How the code of functions is put together, and how it stands in finished code.
use Rattle.std.proofs.Common.{◌≡◌, ℕ, zero, suc, ◌<◌, ◌≤◌, List, [], ◌∷◌, ◌++◌, length, map, Some, true, false, refl, sym, ap, ◌∙◌, subst, ⊎_elim, arith}
use Rattle.std.proofs.lemmas.List.{length-map}
use Rattle.std.specs.Prelude.{slice_get}
use Rattle.std.proofs.lemmas.Bool.{cases_lt}
use Rattle.lp_instr.specs.declared.instr.Instr.{Instr}
use Rattle.lp_instr.specs.declared.instr.Instr.TheVariants.{Switch}
use Rattle.lp_code.specs.declared.program.FunRow.{FunRow}
use Rattle.lp_code.specs.Programs.{table_of}
use Rattle.lp_language.specs.Resolve.{Function, Variable, has_initialiser}
use Rattle.lp_isa.specs.Programs.{own_functions}
use Rattle.lp_tree.specs.Units.{ItemTree, Inherit, Proto, Fun, Var}
use Rattle.lp_codegen_expr.specs.declared.code.Code.{Code as Built}
use Rattle.lp_codegen_expr.specs.declared.code.Draft.{Draft}
use Rattle.lp_codegen_expr.specs.declared.code.Draft.TheVariants.{Done}
use Rattle.lp_codegen_expr.specs.declared.scope.Scope.{Scope}
use Rattle.lp_codegen_expr.specs.Names.{Plan, layout_of}
use Rattle.lp_codegen_expr.specs.Drafts.{Adds, Around, Form, Has, NamesSwitch, Sketch, draft_of, resolved}
use Rattle.lp_codegen_expr.proofs.Compose.{adds_then, line_none, names_from, names_still, reform}
use Rattle.lp_codegen_flow.specs.Functions.{AreDone, FunStands, IsDone, of_fun}
use Rattle.lp_codegen_flow.specs.Initialisers.{InitialisersStand}
use Rattle.lp_codegen_unit.specs.declared.finish.UnitCode.{UnitCode}
use Rattle.lp_codegen_unit.specs.Finish.{Finishes}
use Rattle.lp_codegen_unit.specs.Rows.{Behind, IsInitRow, IsRow, init_if, initialisers, no_more, of_functions}
use Rattle.lp_codegen_unit.specs.Stands.{AreRowsNamed, FunctionsStand, IsUnitCode, OneStands, RowsBare, at, function_of}

-- Functions and what stands behind them.

-- what stands behind functions takes the place of nothing
pub joined : (fs : List Function) (More : Behind) (rs ss : List FunRow) (a : Around) (from mid to : ℕ) → of_functions fs no_more rs a from mid → More ss a mid to → of_functions fs More (rs ++ ss) a from to
joined [] More [] ss a from mid to p q = subst (λ n. More ss a n to) p.1 q
joined [] More (r ∷ rs) ss a from mid to (e, p) q = absurd (let f : suc (length rs) ≡ 0 = ap length e in omega (arith, f))
joined (f ∷ fs) More [] ss a from mid to p q = absurd p
joined (f ∷ fs) More (r ∷ rs) ss a from mid to (p, (m, c, d)) q = (p, (m, c, joined fs More rs ss a m mid to d q))

-- functions behind functions
both : (fs gs : List Function) (rs ss : List FunRow) (a : Around) (from mid to : ℕ) → of_functions fs no_more rs a from mid → of_functions gs no_more ss a mid to → of_functions (fs ++ gs) no_more (rs ++ ss) a from to
both [] gs [] ss a from mid to p q = subst (λ n. of_functions gs no_more ss a n to) p.1 q
both [] gs (x ∷ rs) ss a from mid to (e, p) q = absurd (let g : suc (length rs) ≡ 0 = ap length e in omega (arith, g))
both (f ∷ fs) gs [] ss a from mid to p q = absurd p
both (f ∷ fs) gs (r ∷ rs) ss a from mid to (p, (m, c, d)) q = (p, (m, c, both fs gs rs ss a m mid to d q))

-- no jump is open in what was added by two steps
pub both_done : {l : Plan} {F : Form} {mid new : Sketch} (old : Sketch) → AreDone mid.code (length old.code) → Adds l F mid new → AreDone new.code (length mid.code) → AreDone new.code (length old.code)
both_done {l} {F} {mid} {new} old v w x p h k =
    ⊎_elim
    (λ (lt : p < length mid.code). subst IsDone (sym (w.same p lt)) (v p h lt))
    (λ (le : length mid.code ≤ p). x p le k)
    (cases_lt p (length mid.code))

none_done : (ds : List Draft) → AreDone ds (length ds)
none_done ds p h k = absurd (omega (arith, h, k))

pub functions_none : (s : Scope) (d : Sketch) → FunctionsStand [] [] s s d d
functions_none s d = record {
  code = reform _ (of_functions [] no_more []) (λ a from to p. (refl, p)) (line_none (layout_of s.layout) d);
  done = none_done d.code;
  layout = refl;
}

pub functions_both : {was mid is : Scope} {old new : Sketch} (between : Sketch) (fs gs : List Function) (rs ss : List FunRow) → FunctionsStand fs rs was mid old between → FunctionsStand gs ss mid is between new → FunctionsStand (fs ++ gs) (rs ++ ss) was is old new
functions_both {was} {mid} {is} {old} {new} between fs gs rs ss v w =
    let more : Adds (layout_of was.layout) (of_functions gs no_more ss) between new = subst (λ l. Adds (layout_of l) (of_functions gs no_more ss) between new) v.layout w.code in
    record {
      code = adds_then (layout_of was.layout) (of_functions fs no_more rs) (of_functions gs no_more ss) (of_functions (fs ++ gs) no_more (rs ++ ss)) old between new v.code more
          (λ a p q. both fs gs rs ss a (length old.code) (length between.code) (length new.code) p q);
      done = both_done old v.done more w.done;
      layout = w.layout ∙ v.layout;
    }

-- the functions of items
own_both : (is js : List ItemTree) → own_functions is ++ own_functions js ≡ own_functions (is ++ js)
own_both [] js = refl
own_both (Inherit line path ∷ is) js = own_both is js
own_both (Proto line ms ty w ps ∷ is) js = own_both is js
own_both (Fun line ms ty w ps b ∷ is) js = ap (λ l. function_of ms w ps b.stmts ∷ l) (own_both is js)
own_both (Var line ms b ds ∷ is) js = own_both is js

pub items_more : {was mid is : Scope} {old new : Sketch} (between : Sketch) (js : List ItemTree) (i : ItemTree) (rs ss : List FunRow) → FunctionsStand (own_functions js) rs was mid old between → FunctionsStand (own_functions (i ∷ [])) ss mid is between new → FunctionsStand (own_functions (js ++ i ∷ [])) (rs ++ ss) was is old new
items_more {was} {mid} {is} {old} {new} between js i rs ss v w =
    subst (λ x. FunctionsStand x (rs ++ ss) was is old new) (own_both js (i ∷ [])) (functions_both between (own_functions js) (own_functions (i ∷ [])) rs ss v w)

-- a function, whose locals at first are its parameters
pub one_stands : {was set is : Scope} {old new : Sketch} (f : Function) (r : FunRow) → set.layout ≡ was.layout → set.locals.items ≡ f.parameters → IsRow f (length old.code) r → FunStands f.body set is old new → OneStands f r was is old new
one_stands {was} {set} {is} {old} {new} f r e g row h = record {
  code = subst (λ l. Adds (layout_of l) (of_fun f.body f.parameters) old new) e (subst (λ ns. Adds (layout_of set.layout) (of_fun f.body ns) old new) g h.code);
  row = row;
  done = h.done;
  layout = h.layout ∙ e;
}

pub one_function : {was is : Scope} {old new : Sketch} (f : Function) (r : FunRow) → OneStands f r was is old new → FunctionsStand (f ∷ []) (r ∷ []) was is old new
one_function {was} {is} {old} {new} f r h = record {
  code = record {
    longer = h.code.longer;
    same = h.code.same;
    more_texts = h.code.more_texts;
    texts = h.code.texts;
    more_switches = h.code.more_switches;
    switches = h.code.switches;
    named = h.code.named;
    makes = λ a x. (h.row, (length new.code, h.code.makes a x, (refl, refl)));
  };
  done = h.done;
  layout = h.layout;
}

pub functions_as : {was is : Scope} {old new : Sketch} {fs gs : List Function} {rs ss : List FunRow} → fs ≡ gs → rs ≡ ss → FunctionsStand fs rs was is old new → FunctionsStand gs ss was is old new
functions_as {was} {is} {old} {new} {fs} {gs} {rs} {ss} e f h = subst (λ x. FunctionsStand gs x was is old new) f (subst (λ x. FunctionsStand x rs was is old new) e h)

-- Initialisers.

pub no_initialisers : (s : Scope) (d : Sketch) (vs : List Variable) (k : ℕ) → has_initialiser vs ≡ false → RowsBare s (initialisers vs k) [] d d
no_initialisers s d vs k e = record {
  code = λ n. reform _ (initialisers vs k []) (λ a from to p. subst (λ b. init_if b vs k [] a from to) (sym e) (refl, p)) (line_none (layout_of s.layout) d);
  done = none_done d.code;
}

pub some_initialisers : {s : Scope} {old new : Sketch} (vs : List Variable) (k : ℕ) (r : FunRow) → has_initialiser vs ≡ true → InitialisersStand vs k s old new → IsInitRow (length old.code) r → RowsBare s (initialisers vs k) (r ∷ []) old new
some_initialisers {s} {old} {new} vs k r e h i = record {
  code = λ n.
      let w = h.code n in
      record {
        longer = w.longer;
        same = w.same;
        more_texts = w.more_texts;
        texts = w.texts;
        more_switches = w.more_switches;
        switches = w.switches;
        named = w.named;
        makes = λ a x. subst (λ b. init_if b vs k (r ∷ []) a (length old.code) (length new.code)) (sym e) (r, refl, i, w.makes a x);
      };
  done = h.done;
}

-- A whole unit.

get_done : (out again : ℕ) (is : List Instr) (p : ℕ) → slice_get is p ≡ resolved out again (slice_get (map Done is) p)
get_done out again [] p = refl
get_done out again (i ∷ is) zero = refl
get_done out again (i ∷ is) (suc p) = get_done out again is p

pub unit_code : {was is clear : Scope} (start mid new : Sketch) (b : Built) (fs : List Function) (vs : List Variable) (k : ℕ) (rs ss : List FunRow) (u : UnitCode) → length start.code ≡ 0 → clear.layout ≡ is.layout → clear.locals.items ≡ [] → FunctionsStand fs rs was is start mid → RowsBare clear (initialisers vs k) ss mid new → draft_of b ≡ new → Finishes b (rs ++ ss) u → IsUnitCode (layout_of was.layout) fs vs k u
unit_code {was} {is} {clear} start mid new b fs vs k rs ss u none same bare v w is_b f h code lays has =
    let l = layout_of was.layout in
    let more : Adds l (initialisers vs k ss) mid new = subst (λ x. Adds (layout_of x) (initialisers vs k ss) mid new) (same ∙ v.layout) (w.code bare) in
    let whole : Adds l (of_functions fs (initialisers vs k) (rs ++ ss)) start new =
    adds_then l (of_functions fs no_more rs) (initialisers vs k ss) (of_functions fs (initialisers vs k) (rs ++ ss)) start mid new v.code more
    (λ a p q. joined fs (initialisers vs k) rs ss a (length start.code) (length mid.code) (length new.code) p q) in
    let drafts : b.instrs.items ≡ new.code = ap (λ s. s.code) is_b in
    let texts : b.texts ≡ new.texts = ap (λ s. s.texts) is_b in
    let switches : map table_of b.switches.items ≡ new.switches = ap (λ s. s.switches) is_b in
    let done : map Done u.instrs.items ≡ new.code = f.instrs ∙ drafts in
    let there : Has l new (at h code) (length start.code) (length new.code) = record {
      lays = lays;
      instrs = λ p x y. ap (λ c. slice_get c p) has.instrs ∙ get_done 0 0 u.instrs.items p ∙ ap (λ c. resolved 0 0 (slice_get c p)) done;
      texts = λ j x. ap (λ c. slice_get c j) (has.texts ∙ f.texts ∙ texts);
      switches = λ j x. ap (λ c. slice_get c j) (has.switches ∙ ap (map table_of) f.switches ∙ switches);
    } in
    let long : length new.code ≡ length u.instrs.items = ap length (sym done) ∙ length-map u.instrs.items Done in
    let made = whole.makes (at h code) there in
    subst (λ n. of_functions fs (initialisers vs k) u.funs.items (at h code) 0 n) long
    (subst (λ n. of_functions fs (initialisers vs k) u.funs.items (at h code) n (length new.code)) none
    (subst (λ x. of_functions fs (initialisers vs k) x (at h code) (length start.code) (length new.code)) (sym f.funs) made))

get_of_done : (is : List Instr) (p : ℕ) (i : Instr) → slice_get (map Done is) p ≡ Some (Done i) → slice_get is p ≡ Some i
get_of_done [] p i e = absurd cc
get_of_done (x ∷ is) zero i e = let same : x ≡ i = cc in ap (λ y. Some y) same
get_of_done (x ∷ is) (suc p) i e = get_of_done is p i e

-- each switch of a whole unit is named
pub rows_named : {was is clear : Scope} {fs : List Function} {rs ss : List FunRow} (vs : List Variable) (k : ℕ) (start mid new : Sketch) (b : Built) (us : List FunRow) (u : UnitCode) → length start.switches ≡ 0 → clear.locals.items ≡ [] → FunctionsStand fs rs was is start mid → RowsBare clear (initialisers vs k) ss mid new → draft_of b ≡ new → Finishes b us u → AreRowsNamed u
rows_named {was} {is} {clear} {fs} {rs} {ss} vs k start mid new b us u none bare v w is_b f j l =
    let more = w.code bare in
    let rows : map table_of u.switches.items ≡ new.switches = ap (map table_of) f.switches ∙ ap (λ s. s.switches) is_b in
    let long : length u.switches.items ≡ length new.switches = sym (length-map u.switches.items table_of) ∙ ap length rows in
    let done : map Done u.instrs.items ≡ new.code = f.instrs ∙ ap (λ s. s.code) is_b in
    let here : NamesSwitch new.code 0 j =
    ⊎_elim
    (λ (q : j < length mid.switches). names_still more.same (omega arith) (v.code.named j (omega (arith, none)) q))
    (λ (q : length mid.switches ≤ j). names_from (omega arith) (more.named j q (omega (arith, l, long))))
    (cases_lt j (length mid.switches)) in
    (here.place, get_of_done u.instrs.items here.place (Switch j) (ap (λ c. slice_get c here.place) done ∙ here.there))

-- no jump is open in a whole unit
pub all_done : {was is clear : Scope} {fs : List Function} {rs ss : List FunRow} (vs : List Variable) (k : ℕ) (start mid new : Sketch) → length start.code ≡ 0 → clear.locals.items ≡ [] → FunctionsStand fs rs was is start mid → RowsBare clear (initialisers vs k) ss mid new → AreDone new.code 0
all_done {was} {is} {clear} {fs} {rs} {ss} vs k start mid new none bare v w = subst (AreDone new.code) none (both_done start v.done (w.code bare) w.done)
