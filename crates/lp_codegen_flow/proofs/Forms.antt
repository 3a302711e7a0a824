-- Statements with other statements in them.
use Rattle.std.proofs.Common.{◌≡◌, ℕ, ◌+◌, ◌≤◌, List, [], ◌∷◌, ◌++◌, length, take, drop, map, Option, Some, None, refl, sym, ap, ◌∙◌, subst, append_assoc, append-nil, take-append-drop}
use Rattle.std.proofs.lemmas.List.{take_all}
use Rattle.lp_tree.specs.Trees.{Tree}
use Rattle.lp_tree.specs.declared.stmt.Each.{Each}
use Rattle.lp_tree.specs.Statements.{InitTree, StmtTree, If, NoElse, Else, While, DoWhile, For, Foreach}
use Rattle.lp_language.specs.Resolve.{Heritage}
use Rattle.lp_instr.specs.declared.instr.Instr.TheVariants.{EachBegin, EachNext, Jump, JumpIfZero, JumpIfNotZero, LoopTurn, Pop}
use Rattle.lp_language.specs.Scope.{Names, behind, declared, declared_each, declared_first, declared_second, slots_of_each}
use Rattle.lp_isa.specs.Translates.{Then, Line}
use Rattle.lp_codegen_expr.specs.declared.code.Draft.{Draft}
use Rattle.lp_codegen_expr.specs.declared.code.Draft.TheVariants.{Done}
use Rattle.lp_codegen_expr.specs.declared.scope.Scope.{Scope}
use Rattle.lp_codegen_expr.specs.Names.{layout_of}
use Rattle.lp_codegen_expr.specs.Drafts.{Sketch, Around, Form, Adds, grown, filled, line, after}
use Rattle.lp_codegen_expr.proofs.Compose.{adds_then, reform, seq, line_none, one_adds, skip, choice}
use Rattle.lp_codegen_expr.proofs.Trees.{of_tree}
use Rattle.lp_codegen_flow.specs.Led.{Led}
use Rattle.lp_codegen_flow.specs.Flows.{EachesStand, OverStands, Stands, InitStands, TurnsStand, Hidden, count_of, of_eaches, of_over, of_stmt, of_turns, of_run_if, of_test, of_hidden}
use Rattle.lp_codegen_flow.proofs.Loops.{recoded, of_copy, copy_adds, loop_adds, do_adds}
use Rattle.lp_codegen_flow.proofs.Scopes.{there, forgets}

-- a choice
pub else_stands : {s0 s1 s2 : Scope} {old c1 c2 c3 c4 c5 c6 new : Sketch} (line : ℕ) (e : Tree) (y z : StmtTree) (x w : Draft) (h k n m : ℕ) → Adds (layout_of s0.layout) (of_tree s0.locals.items e) old c1 → h ≡ length c1.code → c2 ≡ grown c1 (x ∷ []) → Stands y s0 s1 c2 c3 → k ≡ length c3.code → c4 ≡ grown c3 (w ∷ []) → n ≡ length c4.code → c5 ≡ filled c4 h (Done (JumpIfZero n)) → Stands z s1 s2 c5 c6 → m ≡ length c6.code → new ≡ filled c6 k (Done (Jump m)) → Stands (If line e y (Else z)) s0 s2 old new
else_stands {s0} {s1} {s2} line e y z x w h k n m we eh e2 wy ek e4 en e5 wz em ew =
    let ns = s0.locals.items in
    record {
      code = choice (of_tree ns e) (of_stmt y ns) (of_stmt z (behind ns y)) JumpIfZero Jump x w h k n m we eh e2 wy.code ek e4 en e5 (there s0 s1 (of_stmt z) (behind ns y) wy.layout wy.names wz.code) em ew;
      layout = wz.layout ∙ wy.layout;
      names = wz.names ∙ ap (λ l. l ++ declared z) wy.names ∙ append_assoc ns (declared y) (declared z);
    }

-- a statement under a condition
pub if_stands : {s0 s1 : Scope} {old c1 c2 c3 new : Sketch} (line : ℕ) (e : Tree) (y : StmtTree) (x : Draft) (h n : ℕ) → Adds (layout_of s0.layout) (of_tree s0.locals.items e) old c1 → h ≡ length c1.code → c2 ≡ grown c1 (x ∷ []) → Stands y s0 s1 c2 c3 → n ≡ length c3.code → new ≡ filled c3 h (Done (JumpIfZero n)) → Stands (If line e y NoElse) s0 s1 old new
if_stands {s0} {s1} {old} {c1} {c2} {c3} {new} line e y x h n we eh e2 wy en ew =
    let ns = s0.locals.items in
    let l = layout_of s0.layout in
    let F : Form = λ a from to. Then (Line a.code (JumpIfZero to ∷ [])) (of_stmt y ns a) from to in
    let G : Form = λ a from to. Then (of_tree ns e a) (λ m to. F a m to) from to in
    let w : Adds l G old new = adds_then l (of_tree ns e) F G old c1 new we (skip (of_stmt y ns) JumpIfZero x h n eh e2 wy.code en ew) (λ a p q. (length c1.code, p, q)) in
    record {
      code = reform G (of_stmt (If line e y NoElse) ns) (λ a from to p. (to, (p.0, p.1, (p.2.0, p.2.1, (to, p.2.2, refl))), refl)) w;
      layout = wy.layout;
      names = wy.names ∙ ap (λ d. ns ++ d) (sym (append-nil (declared y)));
    }

-- an expression before which locals are hidden
pub hides : {s0 s2 : Scope} {old new : Sketch} (e : Tree) (seen : ℕ) (rest : Names) (s1 : Scope) → s1.layout ≡ s0.layout → s1.locals.items ≡ take seen s0.locals.items → rest ≡ drop seen s0.locals.items → Adds (layout_of s1.layout) (of_tree s1.locals.items e) old new → s2.layout ≡ s1.layout → s2.locals.items ≡ s1.locals.items ++ rest → Hidden e seen s0 s2 old new
hides {s0} {s2} e seen rest s1 f g h w i j =
    let ns = s0.locals.items in
    record {
      code = there s0 s1 (λ ms. of_tree ms e) (take seen ns) f g w;
      layout = i ∙ f;
      names = j ∙ ap (λ l. l ++ rest) g ∙ ap (λ l. take seen ns ++ l) h ∙ take-append-drop seen ns;
    }

pub hides_none : {s : Scope} {old new : Sketch} (e : Tree) (seen : ℕ) → length s.locals.items ≤ seen → Adds (layout_of s.layout) (of_tree s.locals.items e) old new → Hidden e seen s s old new
hides_none {s} {old} {new} e seen le w =
    let ns = s.locals.items in
    record { code = subst (λ ms. Adds (layout_of s.layout) (of_tree ms e) old new) (sym (take_all seen ns le)) w; layout = refl; names = refl }

-- loops
pub while_stands : {s0 s1 s2 : Scope} {old c1 c2 c3 c4 c5 c6 : Sketch} (line : ℕ) (e : Tree) (b : StmtTree) (x : Draft) (seen start turn again out : ℕ) (new : List Draft) → seen ≡ length s0.locals.items → start ≡ length old.code → c1 ≡ grown old (x ∷ []) → turn ≡ length c1.code → c2 ≡ grown c1 (Done LoopTurn ∷ []) → Stands b s0 s1 c2 c3 → again ≡ length c3.code → c4 ≡ filled c3 start (Done (Jump again)) → Hidden e seen s1 s2 c4 c5 → c6 ≡ grown c5 (Done (JumpIfNotZero turn) ∷ []) → out ≡ length c6.code → Led turn out (Some again) c6.code new → Stands (While line e b) s0 s2 old (recoded c6 new)
while_stands {s0} {s1} {s2} {old} {c1} {c2} {c3} {c4} {c5} {c6} line e b x seen start turn again out new se es e1 et e2 wb ea e4 wt e6 eo led =
    let ns = s0.locals.items in
    let l = layout_of s0.layout in
    let T : ℕ → Form = λ turn. after (of_tree ns e) (λ a. Line a.code (JumpIfNotZero turn ∷ [])) in
    let test = subst (λ ms. Adds l (of_tree ms e) c4 c5) (forgets seen ns (declared b) s1.locals.items se wb.names) (there s0 s1 (of_hidden e seen) s1.locals.items wb.layout refl wt.code) in
    record {
      code = loop_adds (of_stmt b ns) (λ a. Line a.code []) T x start turn again again out new es e1 et e2 wb.code ea (line_none l _) ea e4 (seq test (one_adds (JumpIfNotZero turn) e6)) eo led;
      layout = wt.layout ∙ wb.layout;
      names = wt.names ∙ wb.names;
    }

pub do_stands : {s0 s1 : Scope} {old c1 c2 c3 c4 : Sketch} (line : ℕ) (b : StmtTree) (e : Tree) (turn again out : ℕ) (new : List Draft) → turn ≡ length old.code → c1 ≡ grown old (Done LoopTurn ∷ []) → Stands b s0 s1 c1 c2 → again ≡ length c2.code → Adds (layout_of s1.layout) (of_tree s1.locals.items e) c2 c3 → c4 ≡ grown c3 (Done (JumpIfNotZero turn) ∷ []) → out ≡ length c4.code → Led turn out (Some again) c4.code new → Stands (DoWhile line b e) s0 s1 old (recoded c4 new)
do_stands {s0} {s1} line b e turn again out new et e1 wb ea wt e4 eo led =
    let ns = s0.locals.items in
    let T : ℕ → Form = λ turn. after (of_tree (behind ns b) e) (λ a. Line a.code (JumpIfNotZero turn ∷ [])) in
    record {
      code = do_adds (of_stmt b ns) T turn again out new et e1 wb.code ea (seq (there s0 s1 (λ ms. of_tree ms e) (behind ns b) wb.layout wb.names wt) (one_adds (JumpIfNotZero turn) e4)) eo led;
      layout = wb.layout;
      names = wb.names;
    }

pub turns_stand : {s0 s1 s2 : Scope} {old c1 c2 c3 c4 c5 c6 : Sketch} (t st : Option Tree) (b : StmtTree) (x : Draft) (seen start turn again tested out : ℕ) (new : List Draft) → seen ≡ length s0.locals.items → start ≡ length old.code → c1 ≡ grown old (x ∷ []) → turn ≡ length c1.code → c2 ≡ grown c1 (Done LoopTurn ∷ []) → Stands b s0 s1 c2 c3 → s2.layout ≡ s1.layout → s2.locals.items ≡ take seen s1.locals.items → again ≡ length c3.code → Adds (layout_of s2.layout) (of_run_if st s2.locals.items) c3 c4 → tested ≡ length c4.code → c5 ≡ filled c4 start (Done (Jump tested)) → Adds (layout_of s2.layout) (of_test t turn s2.locals.items) c5 c6 → out ≡ length c6.code → Led turn out (Some again) c6.code new → TurnsStand t st b s0 s2 old (recoded c6 new)
turns_stand {s0} {s1} {s2} t st b x seen start turn again tested out new se es e1 et e2 wb la na ea ws ee e5 wt eo led =
    let ns = s0.locals.items in
    let lays = la ∙ wb.layout in
    let same = na ∙ forgets seen ns (declared b) s1.locals.items se wb.names in
    record {
      code = loop_adds (of_stmt b ns) (of_run_if st ns) (λ turn. of_test t turn ns) x start turn again tested out new es e1 et e2 wb.code ea (there s0 s2 (of_run_if st) ns lays same ws) ee e5 (there s0 s2 (of_test t turn) ns lays same wt) eo led;
      layout = lays;
      names = same;
    }

pub for_stands : {s0 s1 s2 s3 : Scope} {old mid new : Sketch} (line : ℕ) (i : InitTree) (t st : Option Tree) (b : StmtTree) (seen : ℕ) → seen ≡ length s0.locals.items → InitStands i s0 s1 old mid → TurnsStand t st b s1 s2 mid new → s3.layout ≡ s2.layout → s3.locals.items ≡ take seen s2.locals.items → Stands (For line i t st b) s0 s3 old new
for_stands {s0} {s1} {s2} {s3} line i t st b seen se wi wt la na =
    let ns = s0.locals.items in
    let inner = ns ++ declared_first i in
    record {
      code = seq wi.code (there s0 s1 (of_turns t st b) inner wi.layout wi.names wt.code);
      layout = la ∙ wt.layout ∙ wi.layout;
      names = na ∙ forgets seen ns (declared_first i) s2.locals.items se (wt.names ∙ wi.names) ∙ sym (append-nil ns);
    }

-- a `foreach`
each_long : (h : Heritage) (ns : Names) (f : Each) (g : Option Each) → count_of g ≡ length (slots_of_each h ns f g)
each_long h ns f None = refl
each_long h ns f (Some g) = refl

over_by : (g : Option Each) (f : Each) (b : StmtTree) (ns : Names) (a : Around) (from to : ℕ) → of_copy (of_eaches f g ns) (of_stmt b (ns ++ declared_each f ++ declared_second g)) (count_of g) a from to → of_over f g b ns a from to
over_by None f b ns a from to p = p
over_by (Some g) f b ns a from to p = p

pub over_stands : {s0 s1 s2 : Scope} {old c1 c2 c3 c4 c5 c6 : Sketch} (f : Each) (g : Option Each) (b : StmtTree) (x : Draft) (start turn next leave end v : ℕ) (new : List Draft) → start ≡ length old.code → c1 ≡ grown old (x ∷ []) → turn ≡ length c1.code → c2 ≡ grown c1 (Done LoopTurn ∷ []) → EachesStand f g s0 s1 c2 c3 → Stands b s1 s2 c3 c4 → next ≡ length c4.code → leave ≡ next + 2 → end ≡ next + 4 → c5 ≡ filled c4 start (Done (Jump next)) → v ≡ count_of g → c6 ≡ grown c5 (map Done (EachNext turn v ∷ Jump end ∷ Pop ∷ Pop ∷ [])) → Led turn leave (Some next) c6.code new → OverStands f g b s0 s2 old (recoded c6 new)
over_stands {s0} {s1} {s2} {old} {c1} {c2} {c3} {c4} {c5} {c6} f g b x start turn next leave end v new es e1 et e2 wk wb en el ee e5 ev e6 led =
    let ns = s0.locals.items in
    let inner = ns ++ declared_each f ++ declared_second g in
    record {
      code = reform (of_copy (of_eaches f g ns) (of_stmt b inner) (count_of g)) (of_over f g b ns) (λ a from to p. over_by g f b ns a from to p)
          (copy_adds (of_eaches f g ns) (of_stmt b inner) x start turn next leave end (count_of g) new es e1 et e2 wk.code (there s0 s1 (of_stmt b) inner wk.layout wk.names wb.code) en el ee e5 (e6 ∙ ap (λ n. grown c5 (map Done (EachNext turn n ∷ Jump end ∷ Pop ∷ Pop ∷ []))) ev) led);
      layout = wb.layout ∙ wk.layout;
      names = wb.names ∙ ap (λ l. l ++ declared b) wk.names;
    }

pub foreach_stands : {s0 s1 s2 : Scope} {old c1 c2 new : Sketch} (line : ℕ) (f : Each) (g : Option Each) (e : Tree) (b : StmtTree) (seen v : ℕ) → seen ≡ length s0.locals.items → Adds (layout_of s0.layout) (of_tree s0.locals.items e) old c1 → v ≡ count_of g → c2 ≡ grown c1 (Done (EachBegin v) ∷ []) → OverStands f g b s0 s1 c2 new → s2.layout ≡ s1.layout → s2.locals.items ≡ take seen s1.locals.items → Stands (Foreach line f g e b) s0 s2 old new
foreach_stands {s0} {s1} {s2} {old} {c1} {c2} {new} line f g e b seen v se we ev e2 wo la na =
    let ns = s0.locals.items in
    let l = layout_of s0.layout in
    let begin : Form = after (of_tree ns e) (λ a. Line a.code (EachBegin (count_of g) ∷ [])) in
    let names : ns ++ declared_each f ++ declared_second g ++ declared b ≡ ns ++ (declared_each f ++ declared_second g ++ declared b) =
    ap (λ x. x ++ declared b) (append_assoc ns (declared_each f) (declared_second g)) ∙ append_assoc ns (declared_each f ++ declared_second g) (declared b) in
    record {
      code = adds_then l begin (of_over f g b ns) (of_stmt (Foreach line f g e b) ns) old c2 new (seq we (one_adds (EachBegin (count_of g)) (e2 ∙ ap (λ n. grown c1 (Done (EachBegin n) ∷ [])) ev))) wo.code
          (λ a p q. (length c2.code, (p.0, p.1, subst (λ n. Line a.code (EachBegin n ∷ []) p.0 (length c2.code)) (each_long a.heritage ns f g) p.2), q));
      layout = la ∙ wo.layout;
      names = na ∙ forgets seen ns (declared_each f ++ declared_second g ++ declared b) s1.locals.items se (wo.names ∙ names) ∙ sym (append-nil ns);
    }
