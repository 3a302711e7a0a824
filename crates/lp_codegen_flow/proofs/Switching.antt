-- The parts of a switch, one after another, and its row.
use Rattle.std.proofs.Common.{◌≡◌, ℕ, ℤ, ◌+◌, ◌<◌, ◌≤◌, List, [], ◌∷◌, ◌++◌, length, take, ⊎_elim, Bool, true, false, cond, Option, Some, None, is_some, refl, sym, ap, ◌∙◌, subst, arith, length-append, append_assoc, append-nil}
use Rattle.std.specs.Prelude.{slice_get, slice_set}
use Rattle.std.proofs.lemmas.Bool.{cases_lt}
use Rattle.std.proofs.lemmas.List.{length-set}
use Rattle.lp_tree.specs.declared.stmt.Constant.{Constant}
use Rattle.lp_tree.specs.declared.stmt.Constant.TheVariants as constants
use Rattle.lp_tree.specs.declared.stmt.Label.{Label}
use Rattle.lp_tree.specs.declared.stmt.Label.TheVariants as kinds
use Rattle.lp_tree.specs.declared.stmt.Part.{Part}
use Rattle.lp_tree.specs.declared.stmt.Part.TheVariants as parts
use Rattle.lp_tree.specs.declared.stmt.Stmt.{Stmt}
use Rattle.lp_tree.specs.Pieces.{parts_of}
use Rattle.lp_tree.specs.Trees.{Tree}
use Rattle.lp_tree.specs.Statements.{MoreStmts, NoStmt, Switch as SwitchTree}
use Rattle.lp_tree.specs.StatementView.{stmt_of}
use Rattle.lp_instr.specs.declared.instr.Case.{Case}
use Rattle.lp_instr.specs.declared.instr.Case.TheVariants as cases
use Rattle.lp_instr.specs.declared.instr.Instr.TheVariants.{Switch}
use Rattle.lp_instr.specs.Code.{Code, Table}
use Rattle.lp_language.specs.Exec.{first_label, is_default}
use Rattle.lp_language.specs.Resolve.{Heritage, counted}
use Rattle.lp_language.specs.Scope.{Names, behind, declared, declared_parts, slots_from}
use Rattle.lp_isa.specs.Translates.{Then, One, MakesParts, OtherIs}
use Rattle.lp_codegen_expr.specs.declared.code.Draft.{Draft}
use Rattle.lp_codegen_expr.specs.declared.code.Draft.TheVariants.{Done}
use Rattle.lp_codegen_expr.specs.declared.scope.Scope.{Scope}
use Rattle.lp_codegen_expr.specs.Names.{Plan, layout_of}
use Rattle.lp_codegen_expr.specs.Drafts.{Sketch, Around, Form, Adds, HasText, after, draft_of, grown, filled, line, resolved}
use Rattle.lp_codegen_expr.specs.declared.code.Code.{Code as Built}
use Rattle.lp_codegen_expr.proofs.Compose.{adds_then, adds_below, hole_filled, one_adds, reform, seq, slice_get-front, slice_get-seam, slice_get-set_same}
use Rattle.lp_codegen_expr.proofs.Trees.{of_tree}
use Rattle.lp_codegen_flow.specs.Led.{Led}
use Rattle.lp_codegen_flow.specs.Cleared.{Cleared, of_clears}
use Rattle.lp_codegen_flow.specs.Flows.{AllStand, Stands, of_stmt, of_stmts}
use Rattle.lp_codegen_flow.specs.declared.labels.Labels.{Labels}
use Rattle.lp_codegen_flow.specs.Switches.{HasSwitch, OtherFits, PartStands, PartsStand, TableStands, behind_part, behind_parts, declared_part, of_parts, of_table, or_end, row_of}
use Rattle.lp_codegen_flow.proofs.Clearing.{clear_as, clear_both, slots_both}
use Rattle.lp_codegen_flow.proofs.Loops.{led_adds, recoded, within}
use Rattle.lp_codegen_flow.proofs.Scopes.{forgets}

-- locals that become 0 before the parts
declared_more : (ps : List (Part Stmt)) (p : Part Stmt) → declared_parts (parts_of (ps ++ p ∷ [])) ≡ declared_parts (parts_of ps) ++ declared_part p
declared_more [] (parts.Label k) = refl
declared_more [] (parts.Stmt s) = append-nil (declared (stmt_of s))
declared_more (parts.Label k ∷ ps) p = declared_more ps p
declared_more (parts.Stmt s ∷ ps) p = ap (λ l. declared (stmt_of s) ++ l) (declared_more ps p) ∙ sym (append_assoc (declared (stmt_of s)) (declared_parts (parts_of ps)) (declared_part p))

abbrev pub slots_in_parts : ℕ → List (Part Stmt) → List ℕ
slots_in_parts first ps = slots_from first (declared_parts (parts_of ps))

abbrev pub PartsClear : List (Part Stmt) → ℕ → ℕ → Sketch → Sketch → Type 0
PartsClear ps first slot old new = Cleared (slots_in_parts first ps) first (length (declared_parts (parts_of ps))) slot old new

pub part_cleared : {old mid new : Sketch} (ps : List (Part Stmt)) (p : Part Stmt) (first slot next : ℕ) → PartsClear ps first slot old mid → Cleared (slots_from slot (declared_part p)) slot (length (declared_part p)) next mid new → PartsClear (ps ++ p ∷ []) first next old new
part_cleared {old} {mid} {new} ps p first slot next v w =
    let ds = declared_parts (parts_of ps) in
    let es = declared_part p in
    let more = declared_more ps p in
    let all : slots_from first ds ++ slots_from slot es ≡ slots_in_parts first (ps ++ p ∷ []) = ap (λ j. slots_from first ds ++ slots_from j es) v.place ∙ slots_both first ds es ∙ ap (slots_from first) (sym more) in
    record {
      code = λ l. clear_as all (clear_both (slots_from first ds) (slots_from slot es) (v.code l) (w.code l));
      place = let a = v.place in let b = w.place in let c = ap length more in let d = length-append ds es in omega (arith, a, b, c, d);
    }

-- parts one after another
parts_then : (h : Heritage) (ns : Names) (ps : List (Part Stmt)) (p : Part Stmt) (ks js : List Case) (other out : ℕ) (again : Option ℕ) (code : Code) (from mid to : ℕ) → MakesParts h ns (parts_of ps) ks other out again code from mid → MakesParts h (behind_parts ns ps) (parts_of (p ∷ [])) js other out again code mid to → MakesParts h ns (parts_of (ps ++ p ∷ [])) (ks ++ js) other out again code from to
parts_then h ns [] p ks js other out again code from mid to v w =
    subst (λ n. MakesParts h ns (parts_of (p ∷ [])) (ks ++ js) other out again code n to) v.1 (subst (λ l. MakesParts h ns (parts_of (p ∷ [])) l other out again code mid to) (ap (λ l. l ++ js) (sym v.0)) w)
parts_then h ns (parts.Label (kinds.Case line k) ∷ ps) p ks js other out again code from mid to v w =
    (v.0, v.1 ++ js, ap (λ l. l ++ js) v.2, v.3, parts_then h ns ps p v.1 js other out again code from mid to v.4 w)
parts_then h ns (parts.Label (kinds.Range line a b) ∷ ps) p ks js other out again code from mid to v w =
    (v.0 ++ js, ap (λ l. l ++ js) v.1, parts_then h ns ps p v.0 js other out again code from mid to v.2 w)
parts_then h ns (parts.Label (kinds.Default line) ∷ ps) p ks js other out again code from mid to v w =
    (v.0, parts_then h ns ps p ks js other out again code from mid to v.1 w)
parts_then h ns (parts.Stmt s ∷ ps) p ks js other out again code from mid to v w =
    (v.0, v.1, (v.2.0, v.2.1, parts_then h (behind ns (stmt_of s)) ps p ks js other out again code v.2.0 mid to v.2.2 w))

-- what one part adds, where others stand before it
abbrev pub of_part : Part Stmt → List Case → Option ℕ → Names → Form
of_part p js o ns a from to =
    (other : ℕ) → OtherFits o other → MakesParts a.heritage ns (parts_of (p ∷ [])) js other a.out (Some a.again) a.code from to

abbrev pub Fits : Option ℕ → Option ℕ → Type 0
Fits new old = (other : ℕ) → OtherFits new other → OtherFits old other

pub part_more : {l : Plan} {old mid new : Sketch} (ps : List (Part Stmt)) (p : Part Stmt) (ks js all : List Case) (o n : Option ℕ) (ns ms : Names) → all ≡ ks ++ js → Fits n o → ms ≡ behind_parts ns ps → Adds l (of_parts ps ks o ns) old mid → Adds l (of_part p js n ms) mid new → Adds l (of_parts (ps ++ p ∷ []) all n ns) old new
part_more {l} {old} {mid} {new} ps p ks js all o n ns ms e fits f v w =
    subst (λ x. Adds l (of_parts (ps ++ p ∷ []) x n ns) old new) (sym e)
    (adds_then l (of_parts ps ks o ns) (of_part p js n (behind_parts ns ps)) (of_parts (ps ++ p ∷ []) (ks ++ js) n ns) old mid new v (subst (λ x. Adds l (of_part p js n x) mid new) f w)
    (λ a q r other g. parts_then a.heritage ns ps p ks js other a.out (Some a.again) a.code (length old.code) (length mid.code) (length new.code) (q other (fits other g)) (r other g)))

-- whether `default` was met
abbrev pub meets : Part Stmt → Bool
meets (parts.Label k) = is_default k
meets (parts.Stmt s) = false

once_more : (o : Option ℕ) → is_some (counted o) ≡ is_some o
once_more None = refl
once_more (Some n) = refl

here_or_later : (b : Bool) (o : Option ℕ) → is_some (cond b (Some 0) (counted o)) ≡ cond b true (is_some o)
here_or_later true o = refl
here_or_later false o = once_more o

in_order : (a b c : Bool) → cond a true (cond b true c) ≡ cond b true (cond a true c)
in_order true true c = refl
in_order true false c = refl
in_order false true c = refl
in_order false false c = refl

met : (ps : List (Part Stmt)) (p : Part Stmt) → is_some (first_label is_default (parts_of (ps ++ p ∷ []))) ≡ cond (meets p) true (is_some (first_label is_default (parts_of ps)))
met [] (parts.Label k) = here_or_later (is_default k) None
met [] (parts.Stmt s) = refl
met (parts.Label j ∷ ps) p =
    here_or_later (is_default j) (first_label is_default (parts_of (ps ++ p ∷ []))) ∙ ap (cond (is_default j) true) (met ps p) ∙ in_order (is_default j) (meets p) (is_some (first_label is_default (parts_of ps))) ∙ ap (cond (meets p) true) (sym (here_or_later (is_default j) (first_label is_default (parts_of ps))))
met (parts.Stmt s ∷ ps) p =
    once_more (first_label is_default (parts_of (ps ++ p ∷ []))) ∙ met ps p ∙ ap (cond (meets p) true) (sym (once_more (first_label is_default (parts_of ps))))

pub not_met : (p : Part Stmt) (lo ln : Option ℕ) → meets p ≡ false → ln ≡ lo → (ps : List (Part Stmt)) → is_some lo ≡ is_some (first_label is_default (parts_of ps)) → is_some ln ≡ is_some (first_label is_default (parts_of (ps ++ p ∷ [])))
not_met p lo ln f e ps h = ap is_some e ∙ h ∙ sym (met ps p ∙ ap (λ b. cond b true (is_some (first_label is_default (parts_of ps)))) f)

-- what adds no instruction
pub nothing_adds : {l : Plan} {d : Sketch} (F : Form) → ((a : Around) → F a (length d.code) (length d.code)) → Adds l F d d
nothing_adds F f = record {
  longer = omega arith;
  same = λ p h. refl;
  more_texts = omega arith;
  texts = λ k h. refl;
  more_switches = omega arith;
  switches = λ k h. refl;
  named = λ k x y. absurd (omega (arith, x, y));
  makes = λ a r. f a;
}

pub text_adds : {l : Plan} {old new : Sketch} (F : Form) (k : ℕ) (t : List ℕ) → HasText k t old new → ((a : Around) → slice_get a.code.texts k ≡ Some t → F a (length old.code) (length old.code)) → Adds l F old new
text_adds {l} {old} {new} F k t h f =
    let n : length new.code ≡ length old.code = ap length h.code in
    record {
      longer = omega arith;
      same = λ p x. ap (λ c. slice_get c p) h.code;
      more_texts = h.texts.longer;
      texts = h.texts.kept;
      more_switches = let q = ap length h.switches in omega arith;
      switches = λ p x. ap (λ c. slice_get c p) h.switches;
      named = λ j x y. absurd (let q = ap length h.switches in omega (arith, x, y, q));
      makes = λ a r. subst (λ m. F a (length old.code) m) (sym n) (f a (r.texts k h.texts.within ∙ h.texts.there));
    }

-- A piece behind a place that is kept for an instruction, and then a row of the list of switches, which is filled in as the
-- one that the instruction names.
pub switch_adds : {l : Plan} {old c1 c3 c4 new : Sketch} (P : Form) (k : ℕ) (row : Table) (x : Draft) (start : ℕ) → start ≡ length old.code → c1 ≡ grown old (x ∷ []) → Adds l P c1 c3 → HasSwitch k row c3 c4 → new ≡ filled c4 start (Done (Switch k)) → Adds l (λ a from to. Then (One a.code (Switch k)) (λ from to. P a from to × (slice_get a.code.switches k ≡ Some row)) from to) old new
switch_adds {l} {old} {c1} {c3} {c4} {new} P k row x start es e1 w has en =
    let d = Done (Switch k) in
    let n1 : length c1.code ≡ length old.code + 1 = ap (λ s. length s.code) e1 ∙ (omega (arith, length-append old.code (x ∷ []))) in
    let s1 : length c1.switches ≡ length old.switches = ap (λ s. length s.switches) e1 in
    let t1 : length c1.texts ≡ length old.texts = ap (λ s. length s.texts) e1 in
    let lt1 : start < length c1.code = omega (arith, es, n1) in
    let C1 = filled c1 start d in
    let C3 = filled c3 start d in
    let v1 : Adds l (line (Switch k ∷ [])) old C1 = one_adds (Switch k) (hole_filled (Switch k) x old c1 start e1 es) in
    let v3 : Adds l P C1 C3 = adds_below P c1 c3 start d lt1 w in
    let v : Adds l (after (line (Switch k ∷ [])) P) old C3 = seq v1 v3 in
    let code : new.code ≡ C3.code = ap (λ s. s.code) en ∙ ap (λ c. slice_set c start d) has.code in
    let texts : new.texts ≡ c3.texts = ap (λ s. s.texts) en ∙ has.texts in
    let rows : new.switches ≡ c3.switches ++ row ∷ [] = ap (λ s. s.switches) en ∙ has.switches in
    let n : length new.code ≡ length C3.code = ap length code in
    let m : length new.switches ≡ length c3.switches + 1 = ap length rows ∙ (omega (arith, length-append c3.switches (row ∷ []))) in
    let q : length new.texts ≡ length c3.texts = ap length texts in
    let number = has.number in
    let first : slice_get C3.code start ≡ Some d = slice_get-set_same c3.code start d (let c = w.longer in omega (arith, lt1, c)) in
    record {
      longer = let c = v.longer in omega (arith, c, n);
      same = λ p h. ap (λ c. slice_get c p) code ∙ v.same p h;
      more_texts = let c = v.more_texts in omega (arith, c, q);
      texts = λ j h. ap (λ c. slice_get c j) texts ∙ v.texts j h;
      more_switches = let c = v.more_switches in omega (arith, c, m);
      switches = λ j h. ap (λ c. slice_get c j) rows ∙ slice_get-front c3.switches (row ∷ []) j (let c = v.more_switches in omega (arith, c, h)) ∙ v.switches j h;
      named = λ j h g. ⊎_elim
          (λ (y : j < length c3.switches).
          let s = v.named j h y in
          record { place = s.place; behind = s.behind; there = ap (λ c. slice_get c s.place) code ∙ s.there })
          (λ (y : length c3.switches ≤ j).
          let z : k ≡ j = omega (arith, number, y, g, m) in
          record { place = start; behind = omega (arith, es); there = ap (λ c. slice_get c start) code ∙ first ∙ ap (λ i. Some (Done (Switch i))) z })
          (cases_lt j (length c3.switches));
      makes = λ a r.
          let made : Then (One a.code (Switch k)) (P a) (length old.code) (length C3.code) = v.makes a (record {
            lays = r.lays;
            instrs = λ p h g. r.instrs p h (omega (arith, g, n)) ∙ ap (λ c. resolved a.out a.again (slice_get c p)) code;
            texts = λ j h. r.texts j (omega (arith, h, q)) ∙ ap (λ c. slice_get c j) texts;
            switches = λ j h. r.switches j (omega (arith, h, m)) ∙ ap (λ c. slice_get c j) rows ∙ slice_get-front c3.switches (row ∷ []) j h;
          }) in
          let there : slice_get a.code.switches k ≡ Some row = r.switches k (omega (arith, number, m)) ∙ ap (λ c. slice_get c k) rows ∙ ap (slice_get (c3.switches ++ row ∷ [])) number ∙ slice_get-seam c3.switches [] row in
          (made.0, made.1, (subst (λ t. P a made.0 t) (sym n) made.2, there));
    }

-- labels
abbrev pub case_part : ℕ → Constant → Part Stmt
case_part line k = parts.Label (kinds.Case line k)

pub int_stands : {lo ln : Labels} {d : Sketch} (s : Scope) (line here : ℕ) (n : ℤ) → here ≡ length d.code → ln.cases.items ≡ lo.cases.items ++ cases.Ints n n here ∷ [] → ln.other ≡ lo.other → PartStands (case_part line (constants.Int n)) lo ln s s d d
int_stands {lo} {ln} {d} s line here n eh e f =
    let p = case_part line (constants.Int n) in
    let js = cases.Ints n n here ∷ [] in
    record {
      code = λ ps ns start g w. part_more ps p lo.cases.items js ln.cases.items lo.other ln.other ns s.locals.items e (subst (λ o. Fits ln.other o) f (λ other x. x)) g w
          (nothing_adds (of_part p js ln.other s.locals.items) (λ a other x. (cases.Ints n n here, [], refl, ap (cases.Ints n n) eh, (refl, refl))));
      default = not_met p lo.other ln.other refl f;
      layout = refl;
      names = refl;
    }

pub range_stands : {lo ln : Labels} {d : Sketch} (s : Scope) (line here : ℕ) (n m : ℤ) → here ≡ length d.code → ln.cases.items ≡ lo.cases.items ++ cases.Ints n m here ∷ [] → ln.other ≡ lo.other → PartStands (parts.Label (kinds.Range line n m)) lo ln s s d d
range_stands {lo} {ln} {d} s line here n m eh e f =
    let p = parts.Label (kinds.Range line n m) in
    let js = cases.Ints n m here ∷ [] in
    record {
      code = λ ps ns start g w. part_more ps p lo.cases.items js ln.cases.items lo.other ln.other ns s.locals.items e (subst (λ o. Fits ln.other o) f (λ other x. x)) g w
          (nothing_adds (of_part p js ln.other s.locals.items) (λ a other x. ([], ap (λ t. cases.Ints n m t ∷ []) eh, (refl, refl))));
      default = not_met p lo.other ln.other refl f;
      layout = refl;
      names = refl;
    }

pub text_stands : {lo ln : Labels} {old new : Sketch} (s : Scope) (line here k : ℕ) (t : List ℕ) → here ≡ length old.code → HasText k t old new → ln.cases.items ≡ lo.cases.items ++ cases.Text k here ∷ [] → ln.other ≡ lo.other → PartStands (case_part line (constants.Text t)) lo ln s s old new
text_stands {lo} {ln} {old} {new} s line here k t eh h e f =
    let p = case_part line (constants.Text t) in
    let js = cases.Text k here ∷ [] in
    record {
      code = λ ps ns start g w. part_more ps p lo.cases.items js ln.cases.items lo.other ln.other ns s.locals.items e (subst (λ o. Fits ln.other o) f (λ other x. x)) g w
          (text_adds (of_part p js ln.other s.locals.items) k t h (λ a there other x. (cases.Text k here, [], refl, (k, there, ap (cases.Text k) eh), (refl, refl))));
      default = not_met p lo.other ln.other refl f;
      layout = refl;
      names = refl;
    }

pub default_stands : {lo ln : Labels} {d : Sketch} (s : Scope) (line here : ℕ) → here ≡ length d.code → lo.other ≡ None → ln.other ≡ Some here → ln.cases.items ≡ lo.cases.items → PartStands (parts.Label (kinds.Default line)) lo ln s s d d
default_stands {lo} {ln} {d} s line here eh e f g =
    let p = parts.Label (kinds.Default line) in
    let fits : Fits ln.other lo.other = subst (λ o. Fits ln.other o) (sym e) (λ other x. tt) in
    record {
      code = λ ps ns start h w. part_more ps p lo.cases.items [] ln.cases.items lo.other ln.other ns s.locals.items (g ∙ sym (append-nil lo.cases.items)) fits h w
          (nothing_adds (of_part p [] ln.other s.locals.items) (λ a other x. (subst (λ o. OtherFits o other) f x ∙ eh, (refl, refl))));
      default = λ ps x. ap is_some f ∙ sym (met ps p);
      layout = refl;
      names = refl;
    }

pub label_as : {lo ln : Labels} {s : Scope} {old new : Sketch} {j k : Label} → j ≡ k → PartStands (parts.Label j) lo ln s s old new → PartStands (parts.Label k) lo ln s s old new
label_as {lo} {ln} {s} {old} {new} {j} {k} e w = subst (λ x. PartStands (parts.Label x) lo ln s s old new) e w

pub part_as : {lo ln : Labels} {s0 s1 : Scope} {old new : Sketch} {j k : Part Stmt} → j ≡ k → PartStands j lo ln s0 s1 old new → PartStands k lo ln s0 s1 old new
part_as {lo} {ln} {s0} {s1} {old} {new} {j} {k} e w = subst (λ x. PartStands x lo ln s0 s1 old new) e w

-- a statement
pub stmt_part : {ks : Labels} {s0 s1 : Scope} {old new : Sketch} (s : Stmt) → AllStand (MoreStmts (stmt_of s) NoStmt) s0 s1 old new → PartStands (parts.Stmt s) ks ks s0 s1 old new
stmt_part {ks} {s0} {s1} {old} {new} s w =
    let p = parts.Stmt s in
    let ns = s0.locals.items in
    record {
      code = λ ps ms start g v. part_more ps p ks.cases.items [] ks.cases.items ks.other ks.other ms ns (sym (append-nil ks.cases.items)) (λ other x. x) g v
          (reform (of_stmts (MoreStmts (stmt_of s) NoStmt) ns) (of_part p [] ks.other ns) (λ a from to q other x. (q.0, q.1, (q.2.0, q.2.1, (refl, q.2.2)))) w.code);
      default = not_met p ks.other ks.other refl refl;
      layout = w.layout;
      names = w.names;
    }

-- all parts
pub parts_none : {ks : Labels} {s : Scope} {d : Sketch} → ks.cases.items ≡ [] → ks.other ≡ None → PartsStand [] ks s s d d
parts_none {ks} {s} {d} e f = record {
  code = nothing_adds (of_parts [] ks.cases.items ks.other s.locals.items) (λ a other x. (e, refl));
  default = ap is_some f;
  layout = refl;
  names = refl;
}

behind_more : (ns : Names) (ps : List (Part Stmt)) (p : Part Stmt) → behind_part (behind_parts ns ps) p ≡ behind_parts ns (ps ++ p ∷ [])
behind_more ns [] p = refl
behind_more ns (q ∷ ps) p = behind_more (behind_part ns q) ps p

pub parts_more : {lo ln : Labels} {s0 s1 s2 : Scope} {old mid new : Sketch} (ps : List (Part Stmt)) (p : Part Stmt) → PartsStand ps lo s0 s1 old mid → PartStands p lo ln s1 s2 mid new → PartsStand (ps ++ p ∷ []) ln s0 s2 old new
parts_more {lo} {ln} {s0} {s1} {s2} {old} {mid} {new} ps p v w =
    let ns = s0.locals.items in
    record {
      code = subst (λ x. Adds (layout_of x) (of_parts (ps ++ p ∷ []) ln.cases.items ln.other ns) old new) v.layout (w.code ps ns old v.names (subst (λ x. Adds (layout_of x) (of_parts ps lo.cases.items lo.other ns) old mid) (sym v.layout) v.code));
      default = w.default ps v.default;
      layout = w.layout ∙ v.layout;
      names = w.names ∙ ap (λ l. behind_part l p) v.names ∙ behind_more ns ps p;
    }

pub parts_as : {ks : Labels} {s0 s1 : Scope} {old new : Sketch} {ps qs : List (Part Stmt)} → ps ≡ qs → PartsStand ps ks s0 s1 old new → PartsStand qs ks s0 s1 old new
parts_as {ks} {s0} {s1} {old} {new} {ps} {qs} e w = subst (λ x. PartsStand x ks s0 s1 old new) e w

-- the switch behind its value
other_is : (o f : Option ℕ) (to : ℕ) → is_some o ≡ is_some f → OtherIs f (or_end o to) to
other_is None None to e = refl
other_is None (Some n) to e = absurd cc
other_is (Some m) None to e = absurd cc
other_is (Some m) (Some n) to e = tt

fits_end : (o : Option ℕ) (to : ℕ) → OtherFits o (or_end o to)
fits_end None to = tt
fits_end (Some n) to = refl

-- the same form at its places
table_form : {l : Plan} {old new : Sketch} (F G : Form) → Adds l F old new → ((a : Around) → F a (length old.code) (length new.code) → G a (length old.code) (length new.code)) → Adds l G old new
table_form {l} {old} {new} F G w f = record {
  longer = w.longer;
  same = w.same;
  more_texts = w.more_texts;
  texts = w.texts;
  more_switches = w.more_switches;
  switches = w.switches;
  named = w.named;
  makes = λ a r. f a (w.makes a r);
}

pub table_stands : {s0 s1 : Scope} {old c1 c2 c4 new : Sketch} (ps : List (Part Stmt)) (ks : Labels) (x : Draft) (start first end k : ℕ) (led : List Draft) → start ≡ length old.code → c1 ≡ grown old (x ∷ []) → first ≡ length c1.code → PartsStand ps ks s0 s1 c1 c2 → end ≡ length c2.code → Led first end None c2.code led → HasSwitch k (row_of ks end) (recoded c2 led) c4 → new ≡ filled c4 start (Done (Switch k)) → TableStands ps s0 s1 old new
table_stands {s0} {s1} {old} {c1} {c2} {c4} {new} ps ks x start first end k led es e1 ef w ee leads has en =
    let ns = s0.locals.items in
    let l = layout_of s0.layout in
    let o = ks.other in
    let row = row_of ks end in
    let c3 = recoded c2 led in
    let P : Form = λ a. of_parts ps ks.cases.items o ns (within a end None) in
    let long : end ≡ length new.code = ee ∙ sym leads.as_long ∙ sym (ap length has.code) ∙ sym (ap (λ s. length s.code) en ∙ length-set c4.code start (Done (Switch k))) in
    let w3 : Adds l P c1 c3 = led_adds (of_parts ps ks.cases.items o ns) first end None led ef leads w.code in
    let H : Form = λ a from to. Then (One a.code (Switch k)) (λ from to. P a from to × (slice_get a.code.switches k ≡ Some row)) from to in
    let w6 : Adds l H old new = switch_adds P k row x start es e1 w3 has en in
    record {
      code = table_form H (of_table (parts_of ps) ns) w6
          (λ a p.
          let g = p.2 in
          let made : MakesParts a.heritage ns (parts_of ps) ks.cases.items (or_end o end) end (Some a.again) a.code p.0 (length new.code) = g.0 (or_end o end) (fits_end o end) in
          (k, row, g.1, subst (λ n. OtherIs (first_label is_default (parts_of ps)) (or_end o end) n) long (other_is o (first_label is_default (parts_of ps)) end w.default), (p.0, p.1, subst (λ n. MakesParts a.heritage ns (parts_of ps) ks.cases.items (or_end o end) n (Some a.again) a.code p.0 (length new.code)) long made)));
      layout = w.layout;
      names = w.names;
    }

later_parts : (ns : Names) (ps : List (Part Stmt)) → (ms : Names) × (behind_parts ns ps ≡ ns ++ ms)
later_parts ns [] = ([], sym (append-nil ns))
later_parts ns (parts.Label k ∷ ps) = later_parts ns ps
later_parts ns (parts.Stmt s ∷ ps) = let h = later_parts (behind ns (stmt_of s)) ps in (declared (stmt_of s) ++ h.0, h.1 ∙ append_assoc ns (declared (stmt_of s)) h.0)

pub switch_stands : {s0 s1 s2 : Scope} {old c1 c2 new : Sketch} (line : ℕ) (e : Tree) (ps : List (Part Stmt)) (seen first : ℕ) → seen ≡ length s0.locals.items → first ≡ seen → Adds (layout_of s0.layout) (of_tree s0.locals.items e) old c1 → ((l : Plan) → Adds l (of_clears (slots_in_parts first ps)) c1 c2) → TableStands ps s0 s1 c2 new → s2.layout ≡ s1.layout → s2.locals.items ≡ take seen s1.locals.items → Stands (SwitchTree line e (parts_of ps)) s0 s2 old new
switch_stands {s0} {s1} {s2} {old} {c1} {c2} {new} line e ps seen first se fe we wc wt la na =
    let ns = s0.locals.items in
    let l = layout_of s0.layout in
    let ks = slots_in_parts (length ns) ps in
    let clears : Adds l (of_clears ks) c1 c2 = clear_as (ap (λ n. slots_in_parts n ps) (fe ∙ se)) (wc l) in
    let rest = seq clears wt.code in
    let h = later_parts ns ps in
    record {
      code = reform (after (of_tree ns e) (after (of_clears ks) (of_table (parts_of ps) ns))) (of_stmt (SwitchTree line e (parts_of ps)) ns)
          (λ a from to p. let t = p.2.2 in (t.0, t.1, t.2, t.3, (p.0, p.1, (p.2.0, p.2.1, t.4)))) (seq we rest);
      layout = la ∙ wt.layout;
      names = na ∙ forgets seen ns h.0 s1.locals.items se (wt.names ∙ h.1) ∙ sym (append-nil ns);
    }

-- a row
abbrev pub as_table : List Case → ℕ → Table
as_table ks other = record { cases = ks; other = other }

pub table_as : {ks js : List Case} {m n : ℕ} → ks ≡ js → m ≡ n → as_table ks m ≡ as_table js n
table_as {ks} {js} {m} {n} e f = ap (λ x. as_table x m) e ∙ ap (as_table js) f

-- where two ways meet
pub joined : {lo l1 l2 : Labels} {s0 s1 s2 : Scope} {old : Sketch} {i1 i2 : Built} (p : Part Stmt) → l1 ≡ l2 → s1 ≡ s2 → i1 ≡ i2 → PartStands p lo l1 s0 s1 old (draft_of i1) → PartStands p lo l2 s0 s2 old (draft_of i2)
joined {lo} {l1} {l2} {s0} {s1} {s2} {old} {i1} {i2} p e f g w =
    subst (λ i. PartStands p lo l2 s0 s2 old (draft_of i)) g (subst (λ s. PartStands p lo l2 s0 s old (draft_of i1)) f (subst (λ l. PartStands p lo l s0 s1 old (draft_of i1)) e w))
