-- So it is for statements, and for the body of a function.
use Rattle.std.proofs.Common.{◌≡◌, ℕ, suc, ◌+◌, ◌≤◌, ◌<◌, Bool, true, false, List, [], ◌∷◌, ◌++◌, length, Option, Some, None, pos, refl, sym, ap, subst, arith, append_assoc, length-append}
use Rattle.std.specs.Prelude.{slice_get, ⊤, is_some, if◌then◌else◌}
use Rattle.std.proofs.lemmas.Option.{slice_get_within}
use Rattle.lp_tree.specs.declared.stmt.Each.{Each}
use Rattle.lp_tree.specs.declared.stmt.Label.TheVariants as labels
use Rattle.lp_tree.specs.declared.stmt.Constant.{Constant}
use Rattle.lp_tree.specs.declared.stmt.Constant.TheVariants as constants
use Rattle.lp_tree.specs.Trees.{Tree}
use Rattle.lp_tree.specs.Statements.{DeclaratorTree, InitTree, Nothing as NothingFirst, DeclaresFirst, RunsFirst, StmtTree, Block, Empty, Run, Declares, If, While, DoWhile, For, Foreach, Switch as SwitchTree, Break, Continue, Return as ReturnTree, StmtTrees, NoStmt, MoreStmts, ElseTree, NoElse, Else, PartTrees, NoPart, LabelPart, StmtPart}
use Rattle.lp_instr.specs.declared.instr.Instr.{Instr}
use Rattle.lp_instr.specs.declared.instr.Instr.TheVariants.{PushInt, SetLocal, SetGlobal, Pop, Jump, JumpIfZero, JumpIfNotZero, LoopTurn, Switch, EachBegin, EachNext, Return, ReturnZero}
use Rattle.lp_instr.specs.declared.instr.Case.{Case}
use Rattle.lp_instr.specs.Code.{Code, Table, case_place}
use Rattle.lp_instr.specs.Sound.{Bounds, IsNamed}
use Rattle.lp_language.specs.Exec.{first_label, is_default}
use Rattle.lp_language.specs.Resolve.{Heritage, Variable, counted}
use Rattle.lp_language.specs.Scope.{Names, Slot, OfLocal, slot, callee, behind, declared, declared_each, declared_first, declared_parts, declared_second, loose, slot_of_each, slots_from, slots_in, slots_in_all, slots_in_else, slots_in_parts, slots_of_each}
use Rattle.lp_isa.specs.Translates.{Clears, IsCase, Jumps, JumpsOver, Makes, MakesDo, MakesElse, MakesInit, MakesInitialiser, MakesInitialisers, MakesLoop, MakesOnes, MakesOver, MakesParts, MakesRun, MakesRunIf, MakesStmt, MakesStmts, MakesTest, MakesValueIf, Nothing, One, OtherIs, Piece, TakesAll}
use Rattle.lp_sound_laws.specs.Counted.{Counted, CountedIf, ElseCounted, InitCounted, OnesCounted, PartsCounted, StmtCounted, StmtsCounted, VariablesCounted}
use Rattle.lp_sound_laws.specs.Placed.{ArePlaced, AreSeen, CasesLand, HasText, InitialisersArePlaced, Lands, Leads, TableLands, TranslatedCodeIsPlaced}
use Rattle.lp_sound_laws.proofs.Placing.{Fits, Good, Makes_good, before, both, expr, join, lands_on, none, one, slot_fits, straight, writes}
use Rattle.lp_sound_laws.proofs.Slots.{AllBelow, below_more, loose_below, names_long, reach, slots_below}

one_or_two : (h : Heritage) (ns : Names) (f : Each) (g : Option Each) → (1 ≤ length (slots_of_each h ns f g)) × (length (slots_of_each h ns f g) ≤ 2)
one_or_two h ns f None = (omega arith, omega arith)
one_or_two h ns f (Some e) = (omega arith, omega arith)

module _ (code : Code) (b : Bounds) (h : Heritage) (top : ℕ) (within : top < length code.instrs) (seen : AreSeen h b.variables) where
  abbrev Goodly : ℕ → ℕ → Type 0
  Goodly from to = Good code b h top within seen from to

  abbrev Both : {from m to : ℕ} → Goodly from m → Goodly m to → Goodly from to
  Both x y = both code b h top within seen x y

  abbrev Join : {from m to : ℕ} → to ≤ top → (m ≤ top → Goodly from m) → Goodly m to → Goodly from to
  Join u f y = join code b h top within seen u f y

  abbrev One_good : (i : Instr) (from to : ℕ) → One code i from to → IsNamed code b i → Leads code from i → Goodly from to
  One_good i from to o n l = one code b h top within seen i from to o n l

  abbrev on : (p q : ℕ) → q ≤ top → p < q → Lands code p q
  on p q u l = lands_on code b h top within seen p q u l

  abbrev Before : {m to : ℕ} → Goodly m to → to ≤ top → m ≤ top
  Before g u = before code b h top within seen g u

  abbrev Expr : (t : Tree) (ns : Names) (from to : ℕ) → length ns ≤ b.locals → Counted (callee h) t → to ≤ top → Makes h ns t code from to → Goodly from to
  Expr t ns from to l c u m = expr code b h top within seen t ns from to l c u m

  -- a jump back to a turn of a loop
  back : (p q : ℕ) → slice_get code.instrs q ≡ Some LoopTurn → Lands code p q
  back p q e = record { inside = slice_get_within code.instrs q LoopTurn e; turns = λ x. e }

  clears : (ks : List ℕ) (from to : ℕ) → AllBelow b.locals ks → Clears code ks from to → Goodly from to
  clears [] from to a m = none code b h top within seen from to m
  clears (k ∷ ks) from to a m =
      Both (straight code b h top within seen (PushInt (pos 0) ∷ SetLocal k ∷ Pop ∷ []) from m.0 m.1 ((tt, λ p. tt), ((a.0, λ p. tt), ((tt, λ p. tt), tt)))) (clears ks m.0 to a.1 m.2)

  run : (e : Tree) (ns : Names) (from to : ℕ) → length ns ≤ b.locals → Counted (callee h) e → to ≤ top → MakesRun h ns e code from to → Goodly from to
  run e ns from to l c u m = Join u (λ v. Expr e ns from m.0 l c v m.1) (One_good Pop m.0 to m.2 tt tt)

  run_if : (o : Option Tree) (ns : Names) (from to : ℕ) → length ns ≤ b.locals → CountedIf (callee h) o → to ≤ top → MakesRunIf h ns o code from to → Goodly from to
  run_if None ns from to l c u m = none code b h top within seen from to m
  run_if (Some e) ns from to l c u m = run e ns from to l c u m

  value_if : (o : Option Tree) (ns : Names) (from to : ℕ) → length ns ≤ b.locals → CountedIf (callee h) o → to ≤ top → MakesValueIf h ns o code from to → Goodly from to
  value_if None ns from to l c u m = One_good (PushInt (pos 0)) from to m tt tt
  value_if (Some e) ns from to l c u m = Expr e ns from to l c u m

  ones : (ds : List DeclaratorTree) (ns : Names) (from to : ℕ) → length ns + length ds ≤ b.locals → OnesCounted (callee h) ds → to ≤ top → MakesOnes h ns ds code from to → Goodly from to
  ones [] ns from to l c u m = none code b h top within seen from to m
  ones (d ∷ ds) ns from to l c u m =
      let q = length-append ns (d.name ∷ []) in
      let z = ones ds (ns ++ d.name ∷ []) m.2.0 to (omega (arith, l, q)) c.1 u m.2.2 in
      let y = Both (straight code b h top within seen (SetLocal (length ns) ∷ Pop ∷ []) m.0 m.2.0 m.2.1 ((omega (arith, l), λ p. tt), ((tt, λ p. tt), tt))) z in
      Join u (λ v. value_if d.value ns from m.0 (omega (arith, l)) c.0 v m.1) y

  init : (i : InitTree) (ns : Names) (from to : ℕ) → length ns + length (declared_first i) ≤ b.locals → InitCounted (callee h) i → to ≤ top → MakesInit h ns i code from to → Goodly from to
  init NothingFirst ns from to l c u m = none code b h top within seen from to m
  init (DeclaresFirst d) ns from to l c u m = let q = names_long d.ones in ones d.ones ns from to (omega (arith, l, q)) c u m
  init (RunsFirst e) ns from to l c u m = run e ns from to (omega (arith, l)) c u m

  test : (o : Option Tree) (ns : Names) (turn from to : ℕ) → slice_get code.instrs turn ≡ Some LoopTurn → length ns ≤ b.locals → CountedIf (callee h) o → to ≤ top → MakesTest h ns o code turn from to → Goodly from to
  test None ns turn from to t l c u m = One_good (Jump turn) from to m tt (back from turn t)
  test (Some e) ns turn from to t l c u m = Join u (λ v. Expr e ns from m.0 l c v m.1) (One_good (JumpIfNotZero turn) m.0 to m.2 tt (back m.0 turn t))

  a_loop : (Test Body : ℕ → Piece) (Between : Piece) (from to : ℕ) → to ≤ top → ((turn from to : ℕ) → slice_get code.instrs turn ≡ Some LoopTurn → to ≤ top → Test turn from to → Goodly from to)
      → ((again from : ℕ) → again ≤ top → again ≤ to → Body again from again → Goodly from again) → Makes_good code b h top within seen Between → MakesLoop code Test Body Between from to → Goodly from to
  a_loop Test Body Between from to u t bd bt m =
      let z = t m.0 m.2 to m.4.1.0 u m.6 in
      let uz = Before z u in
      let y = bt m.1 m.2 uz m.5 in
      let oz = z.order in
      let oy = y.order in
      let x = bd m.1 m.4.0 (Before y uz) (omega (arith, oz, oy)) m.4.2 in
      let w = Both (One_good LoopTurn m.0 m.4.0 m.4.1 tt tt) x in
      let ow = w.order in
      let e = m.3.1 in
      Both (One_good (Jump m.2) from m.0 m.3 tt (on from m.2 uz (omega (arith, oy, ow, e)))) (Both w (Both y z))

  a_do : (Test Body : ℕ → Piece) (from to : ℕ) → to ≤ top → ((turn from to : ℕ) → slice_get code.instrs turn ≡ Some LoopTurn → to ≤ top → Test turn from to → Goodly from to)
      → ((again from : ℕ) → again ≤ top → again ≤ to → Body again from again → Goodly from again) → MakesDo code Test Body from to → Goodly from to
  a_do Test Body from to u t bd m =
      let z = t from m.0 to m.1.1.0 u m.2 in
      let oz = z.order in
      let x = bd m.0 m.1.0 (Before z u) oz m.1.2 in
      Both (Both (One_good LoopTurn from m.1.0 m.1.1 tt tt) x) z

  abbrev AllFit : List Slot → Type 0
  AllFit [] = ⊤
  AllFit (x ∷ xs) = Fits code b h top within seen x × AllFit xs

  takes_all : (xs : List Slot) (from to : ℕ) → AllFit xs → TakesAll code xs from to → Goodly from to
  takes_all [] from to f m = none code b h top within seen from to m
  takes_all (x ∷ xs) from to f m =
      Both (Both (writes code b h top within seen x from m.1.0 f.0 m.1.1) (One_good Pop m.1.0 m.0 m.1.2 tt tt)) (takes_all xs m.0 to f.1 m.2)

  each_fits : (e : Each) (ns : Names) → length ns + length (declared_each e) ≤ b.locals → Fits code b h top within seen (slot_of_each h ns e)
  each_fits e ns l = go (is_some e.type_name) l
    where
      go : (t : Bool) → length ns + length (if t then e.name ∷ [] else []) ≤ b.locals → Fits code b h top within seen (if t then OfLocal (length ns) else slot h ns e.name)
      go true l = omega (arith, l)
      go false l = slot_fits code b h top within seen ns e.name (omega (arith, l))

  eaches_fit : (f : Each) (g : Option Each) (ns : Names) → length ns + length (declared_each f ++ declared_second g) ≤ b.locals → AllFit (slots_of_each h ns f g)
  eaches_fit f None ns l = let q = length-append (declared_each f) [] in (each_fits f ns (omega (arith, l, q)), tt)
  eaches_fit f (Some e) ns l =
      let q = length-append (declared_each f) (declared_each e) in
      let r = length-append ns (declared_each f) in
      (each_fits f ns (omega (arith, l, q)), (each_fits e (ns ++ declared_each f) (omega (arith, l, q, r)), tt))

  over : (xs : List Slot) (Body : ℕ → ℕ → Piece) (from to : ℕ) → (1 ≤ length xs) × (length xs ≤ 2) → AllFit xs → to ≤ top
      → ((leave next from : ℕ) → leave ≤ top → next ≤ leave → Body leave next from next → Goodly from next) → MakesOver code xs Body from to → Goodly from to
  over xs Body from to n f u bd m =
      let pops = straight code b h top within seen (Pop ∷ Pop ∷ []) m.2 to m.6 ((tt, λ p. tt), ((tt, λ p. tt), tt)) in
      let op = pops.order in
      let e1 = m.5.1.1 in
      let out = One_good (Jump to) (m.1 + 1) m.2 m.5.1 tt (on (m.1 + 1) to u (omega (arith, e1, op))) in
      let row = Both (One_good (EachNext m.0 (length xs)) m.1 (m.1 + 1) (m.5.0, refl) n (back m.1 m.0 m.4.1.0)) out in
      let or = row.order in
      let x = bd m.2 m.1 m.4.2.0 (Before pops u) or m.4.2.2 in
      let w = Both (One_good LoopTurn m.0 m.4.0 m.4.1 tt tt) (Both (takes_all xs m.4.0 m.4.2.0 f m.4.2.1) x) in
      let ow = w.order in
      let e = m.3.1 in
      let all = Both w (Both row pops) in
      Both (One_good (Jump m.1) from m.0 m.3 tt (on from m.1 (Before row (Before pops u)) (omega (arith, ow, e)))) all

  -- a break or a continue leads on
  abbrev IsOut : Option ℕ → ℕ → Type 0
  IsOut None to = ⊤
  IsOut (Some q) to = (to ≤ q) × (q ≤ top)

  out_less : (o : Option ℕ) (m to : ℕ) → m ≤ to → IsOut o to → IsOut o m
  out_less None m to l x = tt
  out_less (Some q) m to l x = let a = x.0 in (omega (arith, l, a), x.1)

  jumps_out : (o : Option ℕ) (from to : ℕ) → IsOut o to → Jumps code o from to → Goodly from to
  jumps_out None from to x m = absurd m
  jumps_out (Some q) from to x m = let a = x.0 in let e = m.1 in One_good (Jump q) from to m tt (on from q x.1 (omega (arith, a, e)))

  over_else : (x : ElseTree) (q other to : ℕ) → to ≤ top → other ≤ to → JumpsOver code x to q other → Goodly q other
  over_else NoElse q other to u l m = none code b h top within seen q other m
  over_else (Else s) q other to u l m = let e = m.1 in One_good (Jump to) q other m tt (on q to u (omega (arith, l, e)))

  -- the labels of some parts lead into them, or to their end
  abbrev Within : List Case → ℕ → ℕ → Type 0
  Within [] from to = ⊤
  Within (k ∷ ks) from to = (from ≤ case_place k) × (case_place k ≤ to) × HasText code k × Within ks from to

  abbrev DefaultIn : Option ℕ → ℕ → ℕ → ℕ → Type 0
  DefaultIn None other from to = ⊤
  DefaultIn (Some n) other from to = (from ≤ other) × (other ≤ to)

  within_more : (ks : List Case) (from m to : ℕ) → from ≤ m → Within ks m to → Within ks from to
  within_more [] from m to l w = tt
  within_more (k ∷ ks) from m to l w = let a = w.0 in (omega (arith, l, a), w.1, w.2, within_more ks from m to l w.3)

  default_more : (o : Option ℕ) (other from m to : ℕ) → from ≤ m → DefaultIn o other m to → DefaultIn (counted o) other from to
  default_more None other from m to l d = tt
  default_more (Some n) other from m to l d = let a = d.0 in (omega (arith, l, a), d.1)

  pub record PartsPlaced (d : Option ℕ) (ks : List Case) (other from to : ℕ) : Type 0 where
    pub good : Good code b h top within seen from to
    pub cases : Within ks from to
    pub default : DefaultIn d other from to

  is_case : (c : Constant) (from to : ℕ) (x : Case) → from ≤ to → IsCase code c from x → (from ≤ case_place x) × (case_place x ≤ to) × HasText code x
  is_case (constants.Int n) from to x l e =
      let P : Case → Type 0 = λ y. (from ≤ case_place y) × (case_place y ≤ to) × HasText code y in
      subst P (sym e) (omega arith, l, tt)
  is_case (constants.Text t) from to x l e =
      let P : Case → Type 0 = λ y. (from ≤ case_place y) × (case_place y ≤ to) × HasText code y in
      subst P (sym e.2) (omega arith, l, ap is_some e.1)

  other_in : (d : Option ℕ) (other from to : ℕ) → from ≤ to → OtherIs d other to → DefaultIn d other from to → (from ≤ other) × (other ≤ to)
  other_in None other from to l o d = (omega (arith, l, o), omega (arith, o))
  other_in (Some n) other from to l o d = d

  cases_land : (ks : List Case) (p from to : ℕ) → p < from → to ≤ top → Within ks from to → CasesLand code p ks
  cases_land [] p from to l u w = tt
  cases_land (k ∷ ks) p from to l u w =
      let a = w.0 in
      let c = w.1 in
      (on p (case_place k) (omega (arith, c, u)) (omega (arith, a, l)), w.2, cases_land ks p from to l u w.3)

  table_lands : (o : Option Table) (t : Table) (p : ℕ) → o ≡ Some t → CasesLand code p t.cases × Lands code p t.other → TableLands code p o
  table_lands o t p e x = subst (TableLands code p) (sym e) x

  -- the locals that are seen behind others
  more_room : (F : ℕ → ℕ) (ns ms : Names) → F (length ns + length ms) ≤ b.locals → F (length (ns ++ ms)) ≤ b.locals
  more_room F ns ms l = subst (λ n. F n ≤ b.locals) (sym (length-append ns ms)) l

  room : (s : StmtTree) (ns : Names) → slots_in s (length ns) ≤ b.locals → length ns ≤ b.locals
  room s ns l = let r = reach s (length ns) in omega (arith, r, l)

  cleared : (s : StmtTree) (ns : Names) (from m : ℕ) → slots_in s (length ns) ≤ b.locals → Clears code (loose s (length ns)) from m → Goodly from m
  cleared s ns from m l x = clears (loose s (length ns)) from m (below_more (slots_in s (length ns)) b.locals (loose s (length ns)) l (loose_below s (length ns))) x

  mutual
    stmt : (s : StmtTree) (ns : Names) (out again : Option ℕ) (from to : ℕ) → slots_in s (length ns) ≤ b.locals → StmtCounted (callee h) s → to ≤ top → IsOut out to → IsOut again to → MakesStmt h ns s out again code from to → Goodly from to
    stmt (Block line ss) ns out again from to l c u o g m = stmts ss ns out again from to l c u o g m
    stmt (Empty line) ns out again from to l c u o g m = none code b h top within seen from to m
    stmt (Run line e) ns out again from to l c u o g m = run e ns from to l c u m
    stmt (Declares line d) ns out again from to l c u o g m = ones d.ones ns from to l c u m
    stmt (If line e y x) ns out again from to l c u o g m =
        let other = m.0 in
        let last = an_else x (behind ns y) out again other to (more_room (slots_in_else x) ns (declared y) (omega (arith, l))) c.2 u o g m.2 in
        let v = Before last u in
        let ol = last.order in
        let t = m.1.2 in
        let j = over_else x t.2.0 other to u ol t.2.2 in
        let oj = j.order in
        let w = Before j v in
        let yes = Both (stmt y ns out again t.0 t.2.0 (omega (arith, l)) c.1 w (out_less out t.2.0 to (omega (arith, ol, oj)) o) (out_less again t.2.0 to (omega (arith, ol, oj)) g) t.2.1) j in
        let oy = yes.order in
        let e1 = t.1.1 in
        let behind_test = Both (One_good (JumpIfZero other) m.1.0 t.0 t.1 tt (on m.1.0 other v (omega (arith, oy, e1)))) yes in
        let r = reach y (length ns) in
        Both (Join v (λ z. Expr e ns from m.1.0 (omega (arith, l, r)) c.0 z m.1.1) behind_test) last
    stmt (While line e bd) ns out again from to l c u o g m =
        a_loop (MakesTest h ns (Some e) code) (λ again. MakesStmt h ns bd (Some to) (Some again) code) Nothing from to u
        (λ turn from to t u m. test (Some e) ns turn from to t (room bd ns l) c.0 u m)
        (λ again from v w m. stmt bd ns (Some to) (Some again) from again l c.1 v (w, u) (omega arith, v) m)
        (λ from to u m. none code b h top within seen from to m) m
    stmt (DoWhile line bd e) ns out again from to l c u o g m =
        a_do (MakesTest h (behind ns bd) (Some e) code) (λ again. MakesStmt h ns bd (Some to) (Some again) code) from to u
        (λ turn from to t u m. test (Some e) (behind ns bd) turn from to t (let r = reach bd (length ns) in let q = length-append ns (declared bd) in omega (arith, l, r, q)) c.1 u m)
        (λ again from v w m. stmt bd ns (Some to) (Some again) from again l c.0 v (w, u) (omega arith, v) m) m
    stmt (For line i t st bd) ns out again from to l c u o g m =
        let ms = ns ++ declared_first i in
        let lb = more_room (slots_in bd) ns (declared_first i) l in
        let r = reach bd (length ns + length (declared_first i)) in
        let loop = a_loop (MakesTest h ms t code) (λ again. MakesStmt h ms bd (Some to) (Some again) code) (MakesRunIf h ms st code) m.0 to u
        (λ turn from to x u m. test t ms turn from to x (room bd ms lb) c.1 u m)
        (λ again from v w m. stmt bd ms (Some to) (Some again) from again lb c.3 v (w, u) (omega arith, v) m)
        (λ from to u m. run_if st ms from to (room bd ms lb) c.2 u m) m.2 in
        Join u (λ v. init i ns from m.0 (omega (arith, l, r)) c.0 v m.1) loop
    stmt (Foreach line f s e bd) ns out again from to l c u o g m =
        let ds = declared_each f ++ declared_second s in
        let ms = ns ++ declared_each f ++ declared_second s in
        let lb = subst (λ q. slots_in bd (length q) ≤ b.locals) (sym (append_assoc ns (declared_each f) (declared_second s))) (more_room (slots_in bd) ns ds l) in
        let r = reach bd (length ns + length ds) in
        let n = one_or_two h ns f s in
        let loop = over (slots_of_each h ns f s) (λ leave next. MakesStmt h ms bd (Some leave) (Some next) code) m.0 to n (eaches_fit f s ns (omega (arith, l, r))) u
        (λ leave next from v w m. let x : next ≤ top = omega (arith, v, w) in stmt bd ms (Some leave) (Some next) from next lb c.1 x (w, v) (omega arith, x) m) m.2 in
        let begin = One_good (EachBegin (length (slots_of_each h ns f s))) m.1.0 m.0 m.1.2 n tt in
        Both (Join (Before loop u) (λ v. Expr e ns from m.1.0 (omega (arith, l, r)) c.0 v m.1.1) begin) loop
    stmt (SwitchTree line e ps) ns out again from to l c u o g m =
        let p = m.4.2.2 in
        let r = parts ps ns m.1.cases m.1.other to again p.0 to (omega (arith, l)) c.1 u (omega arith, u) g p.2 in
        let order = r.good.order in
        let e1 = p.1.1 in
        let other = other_in (first_label is_default ps) m.1.other p.0 to order m.3 r.default in
        let o0 = other.0 in
        let o1 = other.1 in
        let lands = table_lands (slice_get code.switches m.0) m.1 m.4.2.0 m.2 (cases_land m.1.cases m.4.2.0 p.0 to (omega (arith, e1)) u r.cases, on m.4.2.0 m.1.other (omega (arith, o1, u)) (omega (arith, o0, e1))) in
        let jump = Both (One_good (Switch m.0) m.4.2.0 p.0 p.1 (ap is_some m.2) lands) r.good in
        let ds = declared_parts ps in
        let gone = Both (clears (slots_from (length ns) ds) m.4.0 m.4.2.0 (below_more (length ns + length ds) b.locals (slots_from (length ns) ds) (omega (arith, l)) (slots_below (length ns) ds)) m.4.2.1) jump in
        Join u (λ v. Expr e ns from m.4.0 (omega (arith, l)) c.0 v m.4.1) gone
    stmt (Break line) ns out again from to l c u o g m = jumps_out out from to o m
    stmt (Continue line) ns out again from to l c u o g m = jumps_out again from to g m
    stmt (ReturnTree line None) ns out again from to l c u o g m = One_good ReturnZero from to m tt tt
    stmt (ReturnTree line (Some e)) ns out again from to l c u o g m = Join u (λ v. Expr e ns from m.0 l c v m.1) (One_good Return m.0 to m.2 tt tt)

    pub stmts : (ss : StmtTrees) (ns : Names) (out again : Option ℕ) (from to : ℕ) → slots_in_all ss (length ns) ≤ b.locals → StmtsCounted (callee h) ss → to ≤ top → IsOut out to → IsOut again to → MakesStmts h ns ss out again code from to → Goodly from to
    stmts NoStmt ns out again from to l c u o g m = none code b h top within seen from to m
    stmts (MoreStmts s ss) ns out again from to l c u o g m =
        let z = stmts ss (behind ns s) out again m.2.0 to (more_room (slots_in_all ss) ns (declared s) (omega (arith, l))) c.1 u o g m.2.2 in
        let oz = z.order in
        let here = stmt s ns out again m.0 m.2.0 (omega (arith, l)) c.0 (Before z u) (out_less out m.2.0 to oz o) (out_less again m.2.0 to oz g) m.2.1 in
        Both (cleared s ns from m.0 (omega (arith, l)) m.1) (Both here z)

    an_else : (x : ElseTree) (ns : Names) (out again : Option ℕ) (from to : ℕ) → slots_in_else x (length ns) ≤ b.locals → ElseCounted (callee h) x → to ≤ top → IsOut out to → IsOut again to → MakesElse h ns x out again code from to → Goodly from to
    an_else NoElse ns out again from to l c u o g m = none code b h top within seen from to m
    an_else (Else s) ns out again from to l c u o g m = stmt s ns out again from to l c u o g m

    parts : (ps : PartTrees) (ns : Names) (ks : List Case) (other out : ℕ) (again : Option ℕ) (from to : ℕ) → slots_in_parts ps (length ns) ≤ b.locals → PartsCounted (callee h) ps → to ≤ top → (to ≤ out) × (out ≤ top) → IsOut again to → MakesParts h ns ps ks other out again code from to → PartsPlaced (first_label is_default ps) ks other from to
    parts NoPart ns ks other out again from to l c u o g m = record {
      good = none code b h top within seen from to m.1;
      cases = subst (λ x. Within x from to) (sym m.0) tt;
      default = tt;
    }
    parts (LabelPart (labels.Case line k) ps) ns ks other out again from to l c u o g m =
        let r = parts ps ns m.1 other out again from to l c u o g m.4 in
        let a = is_case k from to m.0 r.good.order m.3 in
        record {
          good = r.good;
          cases = subst (λ x. Within x from to) (sym m.2) (a.0, a.1, a.2, r.cases);
          default = default_more (first_label is_default ps) other from from to (omega arith) r.default;
        }
    parts (LabelPart (labels.Range line x y) ps) ns ks other out again from to l c u o g m =
        let r = parts ps ns m.0 other out again from to l c u o g m.2 in
        record {
          good = r.good;
          cases = subst (λ x. Within x from to) (sym m.1) (omega arith, r.good.order, tt, r.cases);
          default = default_more (first_label is_default ps) other from from to (omega arith) r.default;
        }
    parts (LabelPart (labels.Default line) ps) ns ks other out again from to l c u o g m =
        let r = parts ps ns ks other out again from to l c u o g m.1 in
        let order = r.good.order in
        let e = m.0 in
        record { good = r.good; cases = r.cases; default = (omega (arith, e), omega (arith, e, order)) }
    parts (StmtPart s ps) ns ks other out again from to l c u o g m =
        let n = m.2 in
        let r = parts ps (behind ns s) ks other out again n.0 to (more_room (slots_in_parts ps) ns (declared s) (omega (arith, l))) c.1 u o g n.2 in
        let oz = r.good.order in
        let here = stmt s ns (Some out) again m.0 n.0 (omega (arith, l)) c.0 (Before r.good u) (out_less (Some out) n.0 to oz o) (out_less again n.0 to oz g) n.1 in
        let gone = cleared s ns from m.0 (omega (arith, l)) m.1 in
        let good = Both gone (Both here r.good) in
        let o1 = gone.order in
        let o2 = here.order in
        let first : from ≤ n.0 = omega (arith, o1, o2) in
        record {
          good = good;
          cases = within_more ks from n.0 to first r.cases;
          default = default_more (first_label is_default ps) other from n.0 to first r.default;
        }

  initialisers : (vs : List Variable) (k from to : ℕ) → k + length vs ≤ b.variables → VariablesCounted (callee h) vs → to ≤ top → MakesInitialisers h k vs code from to → Goodly from to
  initialisers [] k from to l c u m = none code b h top within seen from to m
  initialisers (v ∷ vs) k from to l c u m =
      Join u (λ w. initialiser v.declared.value k from m.0 (omega (arith, l)) c.0 w m.1) (initialisers vs (suc k) m.0 to (omega (arith, l)) c.1 u m.2)
    where
      initialiser : (o : Option Tree) (k from to : ℕ) → k < b.variables → CountedIf (callee h) o → to ≤ top → MakesInitialiser h k o code from to → Goodly from to
      initialiser None k from to l c u m = none code b h top within seen from to m
      initialiser (Some e) k from to l c u m = Join u (λ v. Expr e [] from m.0 (omega arith) c v m.1) (straight code b h top within seen (SetGlobal k ∷ Pop ∷ []) m.0 to m.2 ((l, λ p. tt), ((tt, λ p. tt), tt)))

  -- with the last instruction
  whole : (from end : ℕ) → Goodly from top → One code ReturnZero top end → (from < end) × ArePlaced code b from end
  whole from end g o =
      let e = o.1 in
      let l = g.order in
      (omega (arith, e, l), Both g (One_good ReturnZero top end o tt tt))

pub translated_is_placed : TranslatedCodeIsPlaced
translated_is_placed h f code b from makes l seen c =
    let top = makes.1.0 in
    let within = slice_get_within code.instrs top ReturnZero makes.1.2.0 in
    whole code b h top within seen from makes.0 (stmts code b h top within seen f.body f.parameters None None from top l c (omega arith) tt tt makes.1.1) makes.1.2

pub initialisers_are_placed : InitialisersArePlaced
initialisers_are_placed h k vs code b from end m l seen c =
    let top = m.0 in
    let within = slice_get_within code.instrs top ReturnZero m.2.0 in
    whole code b h top within seen from end (initialisers code b h top within seen vs k from top l c (omega arith) m.1) m.2
