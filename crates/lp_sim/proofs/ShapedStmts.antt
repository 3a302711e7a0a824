-- The code of a statement is a stretch that leaves the stack as it was; that of a function is sound.
use Rattle.std.proofs.Common.{◌≡◌, ℕ, suc, ◌+◌, ◌-◌, ◌≤◌, ◌<◌, ◌⊎◌, inl, inr, true, false, List, [], ◌∷◌, ◌++◌, length, Option, Some, None, refl, sym, ap, subst, arith}
use Rattle.std.specs.Prelude.{slice_get, nat_eq, nat_lt, ⊤}
use Rattle.lp_tree.specs.declared.stmt.Label.TheVariants as labels
use Rattle.lp_tree.specs.declared.stmt.Constant.{Constant}
use Rattle.lp_tree.specs.declared.stmt.Constant.TheVariants as constants
use Rattle.lp_tree.specs.Trees.{Tree}
use Rattle.lp_tree.specs.Statements.{DeclaratorTree, InitTree, Nothing as NothingFirst, DeclaresFirst, RunsFirst, StmtTree, Block, Empty, Run, Declares, If, While, DoWhile, For, Foreach, Switch as SwitchTree, Break, Continue, Return as ReturnTree, StmtTrees, NoStmt, MoreStmts, ElseTree, NoElse, Else, PartTrees, NoPart, LabelPart, StmtPart}
use Rattle.lp_instr.specs.declared.instr.Instr.{Instr}
use Rattle.lp_instr.specs.declared.instr.Instr.TheVariants.{PushInt, PushText, PushLocal, SetLocal, PushGlobal, SetGlobal, Pop, Dup, Dup2, Unary, Binary, Step, Rotate, Index, SetIndex, Range, MakeArray, MakeMap, Jump, JumpIfZero, JumpIfNotZero, KeepIfZero, KeepIfNotZero, LoopTurn, CallSlot, CallFixed, CallOther, CallEfun, CallSimul, Scan, CatchBegin, CatchEnd, Switch, EachBegin, EachNext, Return, ReturnZero}
use Rattle.lp_instr.specs.declared.instr.Case.{Case}
use Rattle.lp_language.specs.Resolve.{Heritage, Variable, counted, own_variables, parents_of, variables_before, version_of}
use Rattle.lp_language.specs.Scope.{Names, Slot, behind, declared_each, declared_first, declared_second, declared_parts, loose, slots_from, slots_of_each}
use Rattle.lp_language.specs.Exec.{first_label, is_default}
use Rattle.lp_instr.specs.Code.{Code, Table, case_place}
use Rattle.lp_isa.specs.Translates.{Line, One, TakesAll, MakesRun, MakesRunIf, MakesValueIf, Clears, MakesOnes, MakesInit, Jumps, MakesTest, JumpsOver, IsCase, OtherIs, MakesStmt, MakesStmts, MakesElse, MakesParts, MakesInitialiser, MakesInitialisers}
use Rattle.lp_instr.specs.Sound.{Shape, Shapes, By, shape, Bounds, LeadsTo, CasesLead, TableLeads, IsNamed, IsReachedWell, IsSound}
use Rattle.lp_isa.specs.SoundCode.{TranslatedCodeIsSound, TranslatedInitialisersAreSound}
use Rattle.lp_sim.proofs.Stretch.{Stretch, Aim, inner, final, outer, At, empty_stretch, weak, seq, right_at, begin_at, close, one_stretch, flow_one, jump_one, zero_one, not_zero_one, Out, Here, single, single_is, single_only, joined, joined_left, joined_right, either, well_more}
use Rattle.lp_sim.proofs.ShapedExprs.{Lifts, op, next, writes_lift, pop_lift, int_lift, expr_lift}

-- where `break` and `continue` lead
abbrev pub Leave : Option ℕ → Shape → ℕ → Shape → Type 0
Leave None y q t = ⊥
Leave (Some p) y q t = Here p y q t

abbrev pub StmtOut : Option ℕ → Option ℕ → Shape → ℕ → Shape → Type 0
StmtOut out again y q t = Leave out y q t ⊎ Leave again y q t

-- it lies ahead
abbrev pub IsAhead : Option ℕ → ℕ → Type 0
IsAhead None to = ⊤
IsAhead (Some p) to = to ≤ p

ahead_less : (o : Option ℕ) (m to : ℕ) → m ≤ to → IsAhead o to → IsAhead o m
ahead_less None m to l h = tt
ahead_less (Some p) m to l h = omega arith

abbrev pub plain : ℕ → Shape
plain h = shape h []

-- all places of a table are there
abbrev pub AllAt : Shapes → ℕ → Shape → List Case → Type 0
AllAt shapes to y [] = ⊤
AllAt shapes to y (k ∷ ks) = At shapes to y (case_place k) y × AllAt shapes to y ks

-- that of `default` is, where there is one
abbrev pub DefaultAt : Option ℕ → Shapes → ℕ → Shape → ℕ → Type 0
DefaultAt None shapes to y other = ⊤
DefaultAt (Some n) shapes to y other = At shapes to y other y

counted_default : (o : Option ℕ) (s u : Shapes) (to : ℕ) (y : Shape) (other : ℕ) → (At s to y other y → At u to y other y) → DefaultAt o s to y other → DefaultAt (counted o) u to y other
counted_default None s u to y other f h = tt
counted_default (Some n) s u to y other f h = f h

module _ (code : Code) (b : Bounds) (k : Heritage) (named : (p : ℕ) (i : Instr) → slice_get code.instrs p ≡ Some i → IsNamed code b i) where
  -- a stretch that leaves the stack as it was, outside of any catch
  abbrev pub Keeps : Option ℕ → Option ℕ → ℕ → ℕ → ℕ → Type 0
  Keeps out again from to h = Stretch code b (StmtOut out again (plain h)) from to (plain h) (plain h)

  -- an expression leads nowhere else
  lifted : (E : ℕ → Shape → Type 0) {from to s t : ℕ} → Lifts code b k named [] from to s t → Stretch code b E from to (plain s) (plain t)
  lifted E x = weak code b (Out []) E (λ q t e. absurd e) x

  run_lift : (e : Tree) (ns : Names) (from to h : ℕ) → MakesRun k ns e code from to → Lifts code b k named [] from to h h
  run_lift e ns from to h m = next code b k named [] (expr_lift code b k named e ns [] from m.0 h m.1 tt) (pop_lift code b k named [] m.0 to h m.2 tt)

  run_if_lift : (e : Option Tree) (ns : Names) (from to h : ℕ) → MakesRunIf k ns e code from to → Lifts code b k named [] from to h h
  run_if_lift None ns from to h m = empty_stretch code b (Out []) from to (plain h) m
  run_if_lift (Some e) ns from to h m = run_lift e ns from to h m

  value_lift : (e : Option Tree) (ns : Names) (from to h : ℕ) → MakesValueIf k ns e code from to → Lifts code b k named [] from to h (suc h)
  value_lift None ns from to h m = int_lift code b k named [] from to h m tt
  value_lift (Some e) ns from to h m = expr_lift code b k named e ns [] from to h m tt

  set_lift : (i from to h : ℕ) → Line code (SetLocal i ∷ Pop ∷ []) from to → Lifts code b k named [] from to (suc h) h
  set_lift i from to h l =
      next code b k named [] (op code b k named [] (SetLocal i) from (from + 1) h 1 1 (suc h) (suc h) (l.0, refl) (λ T p sh f. f) (omega arith) (omega arith) tt) (pop_lift code b k named [] (from + 1) to h l.1 tt)

  clears_lift : (ks : List ℕ) (from to h : ℕ) → Clears code ks from to → Lifts code b k named [] from to h h
  clears_lift [] from to h m = empty_stretch code b (Out []) from to (plain h) m
  clears_lift (i ∷ ks) from to h m =
      next code b k named [] (int_lift code b k named [] from (from + 1) h (m.1.0, refl) tt) (next code b k named [] (set_lift i (from + 1) m.0 h m.1.1) (clears_lift ks m.0 to h m.2))

  ones_lift : (ds : List DeclaratorTree) (ns : Names) (from to h : ℕ) → MakesOnes k ns ds code from to → Lifts code b k named [] from to h h
  ones_lift [] ns from to h m = empty_stretch code b (Out []) from to (plain h) m
  ones_lift (d ∷ ds) ns from to h m =
      next code b k named [] (value_lift d.value ns from m.0 h m.1) (next code b k named [] (set_lift (length ns) m.0 m.2.0 h m.2.1) (ones_lift ds (ns ++ d.name ∷ []) m.2.0 to h m.2.2))

  init_lift : (i : InitTree) (ns : Names) (from to h : ℕ) → MakesInit k ns i code from to → Lifts code b k named [] from to h h
  init_lift NothingFirst ns from to h m = empty_stretch code b (Out []) from to (plain h) m
  init_lift (DeclaresFirst d) ns from to h m = ones_lift d.ones ns from to h m
  init_lift (RunsFirst e) ns from to h m = run_lift e ns from to h m

  -- variables take a row from the stack
  takes_lift : (xs : List Slot) (from to h : ℕ) → TakesAll code xs from to → Lifts code b k named [] from to (h + length xs) h
  takes_lift [] from to h m = subst (λ s. Lifts code b k named [] from to s h) (let q : h ≡ h + 0 = omega arith in q) (empty_stretch code b (Out []) from to (plain h) m)
  takes_lift (x ∷ xs) from to h m =
      let s = h + length xs in
      subst (λ s. Lifts code b k named [] from to s h) (let q : suc s ≡ h + suc (length xs) = omega arith in q)
      (next code b k named [] (writes_lift code b k named [] x from m.1.0 s m.1.1 tt) (next code b k named [] (pop_lift code b k named [] m.1.0 m.0 s m.1.2 tt) (takes_lift xs m.0 to h m.2)))

  -- a turn of a loop
  turn_keeps : (E : ℕ → Shape → Type 0) (from to h : ℕ) → One code LoopTurn from to → Stretch code b E from to (plain h) (plain h)
  turn_keeps E from to h o = flow_one code b E LoopTurn from to [] h 0 0 h h o tt (λ T p sh f. f) (omega arith) (omega arith) tt tt

  -- a test with the jump back
  test_keeps : (E : ℕ → Shape → Type 0) (t : Option Tree) (ns : Names) (turn from to h : ℕ) → MakesTest k ns t code turn from to → slice_get code.instrs turn ≡ Some LoopTurn → E turn (plain h) → Stretch code b E from to (plain h) (plain h)
  test_keeps E None ns turn from to h m l e = jump_one code b E from to turn (plain h) (plain h) m tt e (λ x. l) tt
  test_keeps E (Some d) ns turn from to h m l e =
      seq code b E (lifted E (expr_lift code b k named d ns [] from m.0 h m.1 tt)) (not_zero_one code b E m.0 to turn h [] m.2 e (λ x. l) tt tt)

  -- what leads to a place, by its name
  at_named : (s : Shapes) (to : ℕ) (z y : Shape) (p q : ℕ) (t : Shape) → Here p y q t → At s to z p y → At s to z q t
  at_named s to z y p q t e x = subst (λ q. At s to z q t) (sym e.0) (subst (λ t. At s to z p t) (sym e.1) x)

  -- a loop
  loop_keeps : (E : ℕ → Shape → Type 0) (t : Option Tree) (ns : Names) (from turn start again test to h : ℕ) → One code (Jump test) from turn → One code LoopTurn turn start → Keeps (Some to) (Some again) start again h → Lifts code b k named [] again test h h → MakesTest k ns t code turn test to → Stretch code b E from to (plain h) (plain h)
  loop_keeps E t ns from turn start again test to h j l body between m =
      let y = plain h in
      let F = λ (q : ℕ) (t : Shape). Here turn y q t ⊎ (Here again y q t ⊎ (Here test y q t ⊎ Here to y q t)) in
      let G = λ (q : ℕ) (t : Shape). E q t ⊎ F q t in
      let s4 = test_keeps G t ns turn test to h m l.0 (inr (inl (refl, refl))) in
      let s3 = lifted G between in
      let s2 = weak code b (StmtOut (Some to) (Some again) y) G (body_out E turn again test to y) body in
      let s1 = turn_keeps G turn start h l in
      let o1 = between.order in
      let o2 = body.order in
      let r1 = j.1 in
      let r2 = l.1 in
      let s0 = jump_one code b G from turn test y y j tt (inr (inr (inr (inl (refl, refl))))) (λ x. absurd (omega arith)) tt in
      let S3 = seq code b G s3 s4 in
      let S2 = seq code b G s2 S3 in
      let S1 = seq code b G s1 S2 in
      close code b E F (seq code b G s0 S1) (λ q t e. places (seq code b G s0 S1).shapes turn again test to y q t
      (begin_at code b G s0 S1)
      (right_at code b G s0 S1 again y (right_at code b G s1 S2 again y (begin_at code b G s2 S3)))
      (right_at code b G s0 S1 test y (right_at code b G s1 S2 test y (right_at code b G s2 S3 test y (begin_at code b G s3 s4))))
      e)
    where
      body_out : (E : ℕ → Shape → Type 0) (turn again test to : ℕ) (y : Shape) (q : ℕ) (t : Shape) → StmtOut (Some to) (Some again) y q t → E q t ⊎ (Here turn y q t ⊎ (Here again y q t ⊎ (Here test y q t ⊎ Here to y q t)))
      body_out E turn again test to y q t (inl e) = inr (inr (inr (inr e)))
      body_out E turn again test to y q t (inr e) = inr (inr (inl e))

      places : (s : Shapes) (turn again test to : ℕ) (y : Shape) (q : ℕ) (t : Shape) → At s to y turn y → At s to y again y → At s to y test y → Here turn y q t ⊎ (Here again y q t ⊎ (Here test y q t ⊎ Here to y q t)) → At s to y q t
      places s turn again test to y q t a c d (inl e) = at_named s to y y turn q t e a
      places s turn again test to y q t a c d (inr (inl e)) = at_named s to y y again q t e c
      places s turn again test to y q t a c d (inr (inr (inl e))) = at_named s to y y test q t e d
      places s turn again test to y q t a c d (inr (inr (inr e))) = inr e

  -- a loop whose body comes first
  do_keeps : (E : ℕ → Shape → Type 0) (d : Tree) (ns : Names) (from start again to h : ℕ) → One code LoopTurn from start → Keeps (Some to) (Some again) start again h → MakesTest k ns (Some d) code from again to → Stretch code b E from to (plain h) (plain h)
  do_keeps E d ns from start again to h l body m =
      let y = plain h in
      let F = λ (q : ℕ) (t : Shape). Here from y q t ⊎ (Here again y q t ⊎ Here to y q t) in
      let G = λ (q : ℕ) (t : Shape). E q t ⊎ F q t in
      let s3 = test_keeps G (Some d) ns from again to h m l.0 (inr (inl (refl, refl))) in
      let s2 = weak code b (StmtOut (Some to) (Some again) y) G (body_out E from again to y) body in
      let s1 = turn_keeps G from start h l in
      let S2 = seq code b G s2 s3 in
      let S1 = seq code b G s1 S2 in
      close code b E F S1 (λ q t e. places S1.shapes from again to y q t S1.begins (right_at code b G s1 S2 again y (begin_at code b G s2 s3)) e)
    where
      body_out : (E : ℕ → Shape → Type 0) (from again to : ℕ) (y : Shape) (q : ℕ) (t : Shape) → StmtOut (Some to) (Some again) y q t → E q t ⊎ (Here from y q t ⊎ (Here again y q t ⊎ Here to y q t))
      body_out E from again to y q t (inl e) = inr (inr (inr e))
      body_out E from again to y q t (inr e) = inr (inr (inl e))

      places : (s : Shapes) (from again to : ℕ) (y : Shape) (q : ℕ) (t : Shape) → At s to y from y → At s to y again y → Here from y q t ⊎ (Here again y q t ⊎ Here to y q t) → At s to y q t
      places s from again to y q t a c (inl e) = at_named s to y y from q t e a
      places s from again to y q t a c (inr (inl e)) = at_named s to y y again q t e c
      places s from again to y q t a c (inr (inr e)) = inr e

  -- a loop over a copy
  over_keeps : (E : ℕ → Shape → Type 0) (xs : List Slot) (from turn start begin next leave to h : ℕ) → One code (Jump next) from turn → One code LoopTurn turn start → TakesAll code xs start begin → Keeps (Some leave) (Some next) begin next (suc (suc h)) → Line code (EachNext turn (length xs) ∷ Jump to ∷ []) next leave → Line code (Pop ∷ Pop ∷ []) leave to → Stretch code b E from to (plain (suc (suc h))) (plain h)
  over_keeps E xs from turn start begin nxt leave to h j l x body n p =
      let c = suc (suc h) in
      let v = c + length xs in
      let F = λ (q : ℕ) (t : Shape). Here turn (plain v) q t ⊎ (Here nxt (plain c) q t ⊎ (Here leave (plain c) q t ⊎ Here to (plain h) q t)) in
      let G = λ (q : ℕ) (t : Shape). E q t ⊎ F q t in
      let tk = takes_lift xs start begin c x in
      let o1 = tk.order in
      let o2 = body.order in
      let r1 = j.1 in
      let r2 = l.1 in
      let r3 = n.1.1 in
      let r4 = p.1.1 in
      let s0 = jump_one code b G from turn nxt (plain c) (plain v) j tt (inr (inr (inl (refl, refl)))) (λ z. absurd (omega arith)) tt in
      let s1 = turn_keeps G turn start v l in
      let s2 = lifted G tk in
      let s3 = weak code b (StmtOut (Some leave) (Some nxt) (plain c)) G (body_out E turn nxt leave to (plain v) (plain c) (plain h)) body in
      let s4 = one_stretch code b G (EachNext turn (length xs)) nxt (nxt + 1) (plain c) (plain h) (n.0, refl) (named nxt (EachNext turn (length xs)) n.0) (
        record {
          takes = record { enough = omega arith; above = tt };
          leads = record { reached = final refl (ap (λ m. plain m) (let q : c - 2 + 0 ≡ h = omega arith in q)); turns = λ z. absurd (omega arith) };
        },
        record { reached = outer (inr (inl (refl, refl))); turns = λ z. l.0 },
      ) tt in
      let s5 = jump_one code b G (nxt + 1) leave to (plain h) (plain c) n.1 tt (inr (inr (inr (inr (refl, refl))))) (λ z. absurd (omega arith)) tt in
      let s6 = lifted G (next code b k named [] (pop_lift code b k named [] leave (leave + 1) (suc h) (p.0, refl) tt) (pop_lift code b k named [] (leave + 1) to h p.1 tt)) in
      let S5 = seq code b G s5 s6 in
      let S4 = seq code b G s4 S5 in
      let S3 = seq code b G s3 S4 in
      let S2 = seq code b G s2 S3 in
      let S1 = seq code b G s1 S2 in
      let S = seq code b G s0 S1 in
      close code b E F S (λ q t e. places S.shapes turn nxt leave to (plain v) (plain c) (plain h) q t
      (begin_at code b G s0 S1)
      (right_at code b G s0 S1 nxt (plain c) (right_at code b G s1 S2 nxt (plain c) (right_at code b G s2 S3 nxt (plain c) (begin_at code b G s3 S4))))
      (right_at code b G s0 S1 leave (plain c) (right_at code b G s1 S2 leave (plain c) (right_at code b G s2 S3 leave (plain c) (right_at code b G s3 S4 leave (plain c) (right_at code b G s4 S5 leave (plain c) (begin_at code b G s5 s6))))))
      e)
    where
      body_out : (E : ℕ → Shape → Type 0) (turn nxt leave to : ℕ) (v c z : Shape) (q : ℕ) (t : Shape) → StmtOut (Some leave) (Some nxt) c q t → E q t ⊎ (Here turn v q t ⊎ (Here nxt c q t ⊎ (Here leave c q t ⊎ Here to z q t)))
      body_out E turn nxt leave to v c z q t (inl e) = inr (inr (inr (inl e)))
      body_out E turn nxt leave to v c z q t (inr e) = inr (inr (inl e))

      places : (s : Shapes) (turn nxt leave to : ℕ) (v c z : Shape) (q : ℕ) (t : Shape) → At s to z turn v → At s to z nxt c → At s to z leave c → Here turn v q t ⊎ (Here nxt c q t ⊎ (Here leave c q t ⊎ Here to z q t)) → At s to z q t
      places s turn nxt leave to v c z q t a d f (inl e) = at_named s to z v turn q t e a
      places s turn nxt leave to v c z q t a d f (inr (inl e)) = at_named s to z c nxt q t e d
      places s turn nxt leave to v c z q t a d f (inr (inr (inl e))) = at_named s to z c leave q t e f
      places s turn nxt leave to v c z q t a d f (inr (inr (inr e))) = inr e

  -- an `if`, behind its test
  if_keeps : (E : ℕ → Shape → Type 0) (x : ElseTree) (from p q other to h : ℕ) → One code (JumpIfZero other) from p → Stretch code b E p q (plain h) (plain h) → JumpsOver code x to q other → Stretch code b E other to (plain h) (plain h) → Stretch code b E from to (plain (suc h)) (plain h)
  if_keeps E NoElse from p q other to h o y j d =
      let F = Here other (plain h) in
      let G = λ (q : ℕ) (t : Shape). E q t ⊎ F q t in
      let l1 = y.order in
      let l2 = d.order in
      let r1 = o.1 in
      let s1 = zero_one code b G from p other h [] o (inr (refl, refl)) (λ x. absurd (omega arith)) tt tt in
      let s2 = weak code b E G (λ q t e. inl e) y in
      let s3 = empty_stretch code b G q other (plain h) j in
      let s4 = weak code b E G (λ q t e. inl e) d in
      let S3 = seq code b G s3 s4 in
      let S2 = seq code b G s2 S3 in
      close code b E F (seq code b G s1 S2) (λ r t e. at_named (seq code b G s1 S2).shapes to (plain h) (plain h) other r t e (right_at code b G s1 S2 other (plain h) (right_at code b G s2 S3 other (plain h) (begin_at code b G s3 s4))))
  if_keeps E (Else a) from p q other to h o y j d =
      let F = λ (p : ℕ) (t : Shape). Here other (plain h) p t ⊎ Here to (plain h) p t in
      let G = λ (q : ℕ) (t : Shape). E q t ⊎ F q t in
      let l1 = y.order in
      let l2 = d.order in
      let r1 = o.1 in
      let r2 = j.1 in
      let s1 = zero_one code b G from p other h [] o (inr (inl (refl, refl))) (λ x. absurd (omega arith)) tt tt in
      let s2 = weak code b E G (λ q t e. inl e) y in
      let s3 = jump_one code b G q other to (plain h) (plain h) j tt (inr (inr (refl, refl))) (λ x. absurd (omega arith)) tt in
      let s4 = weak code b E G (λ q t e. inl e) d in
      let S3 = seq code b G s3 s4 in
      let S2 = seq code b G s2 S3 in
      close code b E F (seq code b G s1 S2) (λ r t e. places (seq code b G s1 S2).shapes other to (plain h) r t (right_at code b G s1 S2 other (plain h) (right_at code b G s2 S3 other (plain h) (begin_at code b G s3 s4))) e)
    where
      places : (s : Shapes) (other to : ℕ) (y : Shape) (q : ℕ) (t : Shape) → At s to y other y → Here other y q t ⊎ Here to y q t → At s to y q t
      places s other to y q t a (inl e) = at_named s to y y other q t e a
      places s other to y q t a (inr e) = inr e

  over_order : (x : ElseTree) (q other to : ℕ) → JumpsOver code x to q other → q ≤ other
  over_order NoElse q other to j = omega arith
  over_order (Else a) q other to j = let e = j.1 in omega arith

  -- the parts of a switch, with the places of its labels
  pub record PartsKeep (ks : List Case) (d : Option ℕ) (other out : ℕ) (again : Option ℕ) (from to h : ℕ) : Type 0 where
    pub stretch : Keeps (Some out) again from to h
    pub cases : AllAt stretch.shapes to (plain h) ks
    pub default : DefaultAt d stretch.shapes to (plain h) other

  all_moved : (s u : Shapes) (to : ℕ) (y : Shape) (ks : List Case) → ((q : ℕ) → At s to y q y → At u to y q y) → AllAt s to y ks → AllAt u to y ks
  all_moved s u to y [] f h = tt
  all_moved s u to y (x ∷ ks) f h = (f (case_place x) h.0, all_moved s u to y ks f h.1)

  case_at : (c : Constant) (from : ℕ) (x : Case) → IsCase code c from x → case_place x ≡ from
  case_at (constants.Int n) from x h = ap case_place h
  case_at (constants.Text t) from x h = ap case_place h.2

  case_leads : (E : ℕ → Shape → Type 0) (from m to h : ℕ) (s : Shapes) (a : Shapes) (zz : Shape) (q : ℕ) → ((q : ℕ) → At s to (plain h) q (plain h) → from < q) → At s to (plain h) q (plain h) → LeadsTo code (Aim (λ q t. E q t ⊎ At s to (plain h) q t) a m zz) from q (plain (suc h - 1))
  case_leads E from m to h s a zz q f g = record {
    reached = subst (λ n. Aim (λ q t. E q t ⊎ At s to (plain h) q t) a m zz q (plain n)) (let d : h ≡ suc h - 1 = omega arith in d) (outer (inr g));
    turns = λ z. let l = f q g in absurd (omega arith);
  }

  -- the jump of a switch
  cases_lead : (E : ℕ → Shape → Type 0) (from m to h : ℕ) (s : Shapes) (a : Shapes) (zz : Shape) (ks : List Case) → ((q : ℕ) → At s to (plain h) q (plain h) → from < q) → AllAt s to (plain h) ks → CasesLead code (Aim (λ q t. E q t ⊎ At s to (plain h) q t) a m zz) from (plain (suc h - 1)) ks
  cases_lead E from m to h s a zz [] f g = tt
  cases_lead E from m to h s a zz (x ∷ ks) f g =
      (case_leads E from m to h s a zz (case_place x) f g.0, cases_lead E from m to h s a zz ks f g.1)

  other_at : (d : Option ℕ) (s : Shapes) (other to h : ℕ) → OtherIs d other to → DefaultAt d s to (plain h) other → At s to (plain h) other (plain h)
  other_at None s other to h o d = inr (o, refl)
  other_at (Some n) s other to h o d = d

  -- a switch
  switch_keeps : (out again : Option ℕ) (j : ℕ) (table : Table) (d : Option ℕ) (from m0 m1 m2 to h : ℕ) → slice_get code.switches j ≡ Some table → OtherIs d table.other to → Lifts code b k named [] from m0 h (suc h) → Lifts code b k named [] m0 m1 (suc h) (suc h) → One code (Switch j) m1 m2 → PartsKeep table.cases d table.other to again m2 to h → Keeps out again from to h
  switch_keeps out again j table d from m0 m1 m2 to h is o e cl w P =
      let y = plain h in
      let E = StmtOut out again y in
      let F = At P.stretch.shapes to y in
      let G = λ (q : ℕ) (t : Shape). E q t ⊎ F q t in
      let r = w.1 in
      let ahead = λ (q : ℕ) (x : At P.stretch.shapes to y q y). later_at m1 m2 to h again table.cases d table.other P r q x in
      let s1 = lifted G e in
      let s2 = lifted G cl in
      let T = Aim G (single m1 (plain (suc h))) m2 y in
      let s3 = one_stretch code b G (Switch j) m1 m2 (plain (suc h)) y w (named m1 (Switch j) w.0) (
        record { enough = omega arith; above = tt },
        subst (λ o. TableLeads code T m1 (plain (suc h - 1)) o) (sym is) (
          cases_lead E m1 m2 to h P.stretch.shapes (single m1 (plain (suc h))) y table.cases ahead P.cases,
          case_leads E m1 m2 to h P.stretch.shapes (single m1 (plain (suc h))) y table.other ahead (other_at d P.stretch.shapes table.other to h o P.default),
        ),
      ) tt in
      let s4 = weak code b (StmtOut (Some to) again y) G (parts_out out again to h P.stretch.shapes) P.stretch in
      let S3 = seq code b G s3 s4 in
      let S2 = seq code b G s2 S3 in
      close code b E F (seq code b G s1 S2) (λ q t x. right_at code b G s1 S2 q t (right_at code b G s2 S3 q t (right_at code b G s3 s4 q t x)))
    where
      parts_out : (out again : Option ℕ) (to h : ℕ) (s : Shapes) (q : ℕ) (t : Shape) → StmtOut (Some to) again (plain h) q t → StmtOut out again (plain h) q t ⊎ At s to (plain h) q t
      parts_out out again to h s q t (inl e) = inr (inr e)
      parts_out out again to h s q t (inr e) = inl (inr e)

      later_at : (m1 m2 to h : ℕ) (again : Option ℕ) (ks : List Case) (d : Option ℕ) (other : ℕ) (P : PartsKeep ks d other to again m2 to h) → m2 ≡ m1 + 1 → (q : ℕ) → At P.stretch.shapes to (plain h) q (plain h) → m1 < q
      later_at m1 m2 to h again ks d other P r q (inl e) = let i = P.stretch.inside q (plain h) e in let l = i.0 in omega arith
      later_at m1 m2 to h again ks d other P r q (inr e) = let l = P.stretch.order in let z = e.0 in omega arith

  jump_keeps : (o : Option ℕ) (E : ℕ → Shape → Type 0) (from to h : ℕ) → Jumps code o from to → IsAhead o to → ((q : ℕ) (t : Shape) → Leave o (plain h) q t → E q t) → Stretch code b E from to (plain h) (plain h)
  jump_keeps None E from to h m a f = absurd m
  jump_keeps (Some q) E from to h m a f = let r = m.1 in jump_one code b E from to q (plain h) (plain h) m tt (f q (plain h) (refl, refl)) (λ x. absurd (omega arith)) tt

  test_order : (t : Option Tree) (ns : Names) (turn from to : ℕ) → MakesTest k ns t code turn from to → from ≤ to
  test_order None ns turn from to m = let e = m.1 in omega arith
  test_order (Some d) ns turn from to m = let l = (expr_lift code b k named d ns [] from m.0 0 m.1 tt).order in let e = m.2.1 in omega arith

  mutual
    pub stmt_keep : (a : StmtTree) (ns : Names) (out again : Option ℕ) (from to h : ℕ) → MakesStmt k ns a out again code from to → IsAhead out to → IsAhead again to → Keeps out again from to h
    stmt_keep (Block l ss) ns out again from to h m o g = stmts_keep ss ns out again from to h m o g
    stmt_keep (Empty l) ns out again from to h m o g = empty_stretch code b (StmtOut out again (plain h)) from to (plain h) m
    stmt_keep (Run l e) ns out again from to h m o g = lifted (StmtOut out again (plain h)) (run_lift e ns from to h m)
    stmt_keep (Declares l d) ns out again from to h m o g = lifted (StmtOut out again (plain h)) (ones_lift d.ones ns from to h m)
    stmt_keep (If l e y x) ns out again from to h m o g =
        let E = StmtOut out again (plain h) in
        let n = m.1.2 in
        let d = else_keep x (behind ns y) out again m.0 to h m.2 o g in
        let l1 = d.order in
        let l2 = over_order x n.2.0 m.0 to n.2.2 in
        let q : n.2.0 ≤ to = omega arith in
        seq code b E (lifted E (expr_lift code b k named e ns [] from m.1.0 h m.1.1 tt))
        (if_keeps E x m.1.0 n.0 n.2.0 m.0 to h n.1 (stmt_keep y ns out again n.0 n.2.0 h n.2.1 (ahead_less out n.2.0 to q o) (ahead_less again n.2.0 to q g)) n.2.2 d)
    stmt_keep (While l e c) ns out again from to h m o g =
        let E = StmtOut out again (plain h) in
        let l1 = test_order (Some e) ns m.0 m.2 to m.6 in
        let l2 = m.5 in
        loop_keeps E (Some e) ns from m.0 m.4.0 m.1 m.2 to h m.3 m.4.1 (stmt_keep c ns (Some to) (Some m.1) m.4.0 m.1 h m.4.2 (omega arith) (omega arith)) (empty_stretch code b (Out []) m.1 m.2 (plain h) m.5) m.6
    stmt_keep (DoWhile l c e) ns out again from to h m o g =
        let E = StmtOut out again (plain h) in
        let l1 = test_order (Some e) (behind ns c) from m.0 to m.2 in
        do_keeps E e (behind ns c) from m.1.0 m.0 to h m.1.1 (stmt_keep c ns (Some to) (Some m.0) m.1.0 m.0 h m.1.2 (omega arith) (omega arith)) m.2
    stmt_keep (For l i t f c) ns out again from to h m o g =
        let E = StmtOut out again (plain h) in
        let ms = ns ++ declared_first i in
        let n = m.2 in
        let between = run_if_lift f ms n.1 n.2 h n.5 in
        let l1 = test_order t ms n.0 n.2 to n.6 in
        let l2 = between.order in
        seq code b E (lifted E (init_lift i ns from m.0 h m.1))
        (loop_keeps E t ms m.0 n.0 n.4.0 n.1 n.2 to h n.3 n.4.1 (stmt_keep c ms (Some to) (Some n.1) n.4.0 n.1 h n.4.2 (omega arith) (omega arith)) between n.6)
    stmt_keep (Foreach l f d e c) ns out again from to h m o g =
        let E = StmtOut out again (plain h) in
        let ms = ns ++ declared_each f ++ declared_second d in
        let xs = slots_of_each k ns f d in
        let n = m.2 in
        let r = n.5.1.1 in
        seq code b E (lifted E (expr_lift code b k named e ns [] from m.1.0 h m.1.1 tt))
        (seq code b E (lifted E (op code b k named [] (EachBegin (length xs)) m.1.0 m.0 h 1 2 (suc h) (suc (suc h)) m.1.2 (λ T p sh f. f) (omega arith) (omega arith) tt))
        (over_keeps E xs m.0 n.0 n.4.0 n.4.2.0 n.1 n.2 to h n.3 n.4.1 n.4.2.1 (stmt_keep c ms (Some n.2) (Some n.1) n.4.2.0 n.1 (suc (suc h)) n.4.2.2 (omega arith) (omega arith)) n.5 n.6))
    stmt_keep (SwitchTree l e ps) ns out again from to h m o g =
        let n = m.4.2 in
        switch_keeps out again m.0 m.1 (first_label is_default ps) from m.4.0 n.0 n.2.0 to h m.2 m.3 (expr_lift code b k named e ns [] from m.4.0 h m.4.1 tt) (clears_lift (slots_from (length ns) (declared_parts ps)) m.4.0 n.0 (suc h) n.1) n.2.1
        (parts_keep ps ns m.1.cases m.1.other to again n.2.0 to h n.2.2 (omega arith) g)
    stmt_keep (Break l) ns out again from to h m o g = jump_keeps out (StmtOut out again (plain h)) from to h m o (λ q t e. inl e)
    stmt_keep (Continue l) ns out again from to h m o g = jump_keeps again (StmtOut out again (plain h)) from to h m g (λ q t e. inr e)
    stmt_keep (ReturnTree l None) ns out again from to h m o g = one_stretch code b (StmtOut out again (plain h)) ReturnZero from to (plain h) (plain h) m tt refl tt
    stmt_keep (ReturnTree l (Some e)) ns out again from to h m o g =
        let E = StmtOut out again (plain h) in
        seq code b E (lifted E (expr_lift code b k named e ns [] from m.0 h m.1 tt)) (one_stretch code b E Return m.0 to (plain (suc h)) (plain h) m.2 tt (record { enough = omega arith; above = tt }, refl) tt)

    pub stmts_keep : (ss : StmtTrees) (ns : Names) (out again : Option ℕ) (from to h : ℕ) → MakesStmts k ns ss out again code from to → IsAhead out to → IsAhead again to → Keeps out again from to h
    stmts_keep NoStmt ns out again from to h m o g = empty_stretch code b (StmtOut out again (plain h)) from to (plain h) m
    stmts_keep (MoreStmts a ss) ns out again from to h m o g =
        let E = StmtOut out again (plain h) in
        let n = m.2 in
        let rest = stmts_keep ss (behind ns a) out again n.0 to h n.2 o g in
        let l = rest.order in
        seq code b E (lifted E (clears_lift (loose a (length ns)) from m.0 h m.1))
        (seq code b E (stmt_keep a ns out again m.0 n.0 h n.1 (ahead_less out n.0 to l o) (ahead_less again n.0 to l g)) rest)

    else_keep : (x : ElseTree) (ns : Names) (out again : Option ℕ) (from to h : ℕ) → MakesElse k ns x out again code from to → IsAhead out to → IsAhead again to → Keeps out again from to h
    else_keep NoElse ns out again from to h m o g = empty_stretch code b (StmtOut out again (plain h)) from to (plain h) m
    else_keep (Else a) ns out again from to h m o g = stmt_keep a ns out again from to h m o g

    parts_keep : (ps : PartTrees) (ns : Names) (ks : List Case) (other out : ℕ) (again : Option ℕ) (from to h : ℕ) → MakesParts k ns ps ks other out again code from to → to ≤ out → IsAhead again to → PartsKeep ks (first_label is_default ps) other out again from to h
    parts_keep NoPart ns ks other out again from to h m o g =
        let s = empty_stretch code b (StmtOut (Some out) again (plain h)) from to (plain h) m.1 in
        record { stretch = s; cases = subst (λ ks. AllAt s.shapes to (plain h) ks) (sym m.0) tt; default = tt }
    parts_keep (LabelPart (labels.Case l c) ps) ns ks other out again from to h m o g =
        let r = parts_keep ps ns m.1 other out again from to h m.4 o g in
        let s = r.stretch in
        record {
          stretch = s;
          cases = subst (λ ks. AllAt s.shapes to (plain h) ks) (sym m.2) (subst (λ q. At s.shapes to (plain h) q (plain h)) (sym (case_at c from m.0 m.3)) s.begins, r.cases);
          default = counted_default (first_label is_default ps) s.shapes s.shapes to (plain h) other (λ x. x) r.default;
        }
    parts_keep (LabelPart (labels.Range l x z) ps) ns ks other out again from to h m o g =
        let r = parts_keep ps ns m.0 other out again from to h m.2 o g in
        let s = r.stretch in
        record {
          stretch = s;
          cases = subst (λ ks. AllAt s.shapes to (plain h) ks) (sym m.1) (s.begins, r.cases);
          default = counted_default (first_label is_default ps) s.shapes s.shapes to (plain h) other (λ x. x) r.default;
        }
    parts_keep (LabelPart (labels.Default l) ps) ns ks other out again from to h m o g =
        let r = parts_keep ps ns ks other out again from to h m.1 o g in
        let s = r.stretch in
        record { stretch = s; cases = r.cases; default = subst (λ q. At s.shapes to (plain h) q (plain h)) (sym m.0) s.begins }
    parts_keep (StmtPart a ps) ns ks other out again from to h m o g =
        let E = StmtOut (Some out) again (plain h) in
        let n = m.2 in
        let r = parts_keep ps (behind ns a) ks other out again n.0 to h n.2 o g in
        let l = r.stretch.order in
        let s1 = lifted E (clears_lift (loose a (length ns)) from m.0 h m.1) in
        let s2 = stmt_keep a ns (Some out) again m.0 n.0 h n.1 (omega arith) (ahead_less again n.0 to l g) in
        let S2 = seq code b E s2 r.stretch in
        let S = seq code b E s1 S2 in
        let f = λ (q : ℕ) (x : At r.stretch.shapes to (plain h) q (plain h)). right_at code b E s1 S2 q (plain h) (right_at code b E s2 r.stretch q (plain h) x) in
        record {
          stretch = S;
          cases = all_moved r.stretch.shapes S.shapes to (plain h) ks f r.cases;
          default = counted_default (first_label is_default ps) r.stretch.shapes S.shapes to (plain h) other (f other) r.default;
        }

  -- where a body leads, its end being the last instruction
  body_aim : (from m : ℕ) (s : Keeps None None from m 0) (q : ℕ) (t : Shape) → Aim (StmtOut None None (plain 0)) s.shapes m (plain 0) q t → joined m s.shapes (single m (plain 0)) q ≡ Some t
  body_aim from m s q t (inner e) = joined_left m s.shapes (single m (plain 0)) q t (s.inside q t e).1 e
  body_aim from m s q t (final e d) =
      subst (λ q. joined m s.shapes (single m (plain 0)) q ≡ Some t) (sym e) (subst (λ t. joined m s.shapes (single m (plain 0)) m ≡ Some t) (sym d) (joined_right m s.shapes (single m (plain 0)) m (plain 0) (omega arith) (single_is m (plain 0))))
  body_aim from m s q t (outer (inl e)) = absurd e
  body_aim from m s q t (outer (inr e)) = absurd e

  last_well : (from m : ℕ) (s : Keeps None None from m 0) (end : ℕ) → One code ReturnZero m end → (p : ℕ) (sh : Shape) → (p ≡ m) × (sh ≡ plain 0) → IsReachedWell code b (By (joined m s.shapes (single m (plain 0)))) p sh
  last_well from m s end o p sh e =
      let T = By (joined m s.shapes (single m (plain 0))) in
      subst (λ p. IsReachedWell code b T p sh) (sym e.0) (subst (λ sh. IsReachedWell code b T m sh) (sym e.1) (record { instr = ReturnZero; is = o.0; named = tt; fine = refl; catch = tt }))

  both_well : (from m : ℕ) (s : Keeps None None from m 0) (end : ℕ) → One code ReturnZero m end → (p : ℕ) (sh : Shape) → ((nat_lt p m ≡ true) × (s.shapes p ≡ Some sh)) ⊎ ((nat_lt p m ≡ false) × (single m (plain 0) p ≡ Some sh)) → IsReachedWell code b (By (joined m s.shapes (single m (plain 0)))) p sh
  both_well from m s end o p sh (inl e) =
      well_more (Aim (StmtOut None None (plain 0)) s.shapes m (plain 0)) (By (joined m s.shapes (single m (plain 0)))) (body_aim from m s) code b p sh (s.well p sh e.1)
  both_well from m s end o p sh (inr e) = last_well from m s end o p sh (single_only m (plain 0) p sh (either (nat_eq p m) (Some (plain 0)) None sh e.1))

  both_inside : (from m : ℕ) (s : Keeps None None from m 0) (end : ℕ) → One code ReturnZero m end → (p : ℕ) (sh : Shape) → ((nat_lt p m ≡ true) × (s.shapes p ≡ Some sh)) ⊎ ((nat_lt p m ≡ false) × (single m (plain 0) p ≡ Some sh)) → (from ≤ p) × ((p < end) × (sh.height ≤ s.top))
  both_inside from m s end o p sh (inl e) =
      let i = s.inside p sh e.1 in let l = i.1 in let r = o.1 in let t = s.low p sh e.1 in (i.0, (omega arith, t))
  both_inside from m s end o p sh (inr e) =
      let w = single_only m (plain 0) p sh (either (nat_eq p m) (Some (plain 0)) None sh e.1) in
      let q = w.0 in
      let r = o.1 in
      let l = s.order in
      (omega arith, (omega arith, subst (λ x. x.height ≤ s.top) (sym w.1) (omega arith)))

  body_begins : (from m : ℕ) (s : Keeps None None from m 0) → At s.shapes m (plain 0) from (plain 0) → joined m s.shapes (single m (plain 0)) from ≡ Some (plain 0)
  body_begins from m s (inl e) = joined_left m s.shapes (single m (plain 0)) from (plain 0) (s.inside from (plain 0) e).1 e
  body_begins from m s (inr e) =
      subst (λ q. joined m s.shapes (single m (plain 0)) q ≡ Some (plain 0)) (sym e.0) (joined_right m s.shapes (single m (plain 0)) m (plain 0) (omega arith) (single_is m (plain 0)))

named_same : (code : Code) (b : Bounds) (top : ℕ) (i : Instr) → IsNamed code b i → IsNamed code (record b { max_height = top }) i
named_same code b top (PushInt x) h = h
named_same code b top (PushText x) h = h
named_same code b top (PushLocal x) h = h
named_same code b top (SetLocal x) h = h
named_same code b top (PushGlobal x) h = h
named_same code b top (SetGlobal x) h = h
named_same code b top Pop h = h
named_same code b top Dup h = h
named_same code b top Dup2 h = h
named_same code b top (Unary x) h = h
named_same code b top (Binary x) h = h
named_same code b top (Step x) h = h
named_same code b top (Rotate x) h = h
named_same code b top (Index x) h = h
named_same code b top (SetIndex x) h = h
named_same code b top (Range x y) h = h
named_same code b top (MakeArray x) h = h
named_same code b top (MakeMap x) h = h
named_same code b top (Jump x) h = h
named_same code b top (JumpIfZero x) h = h
named_same code b top (JumpIfNotZero x) h = h
named_same code b top (KeepIfZero x) h = h
named_same code b top (KeepIfNotZero x) h = h
named_same code b top LoopTurn h = h
named_same code b top (CallSlot x y) h = h
named_same code b top (CallFixed x y z) h = h
named_same code b top (CallOther x) h = h
named_same code b top (CallEfun x y) h = h
named_same code b top (CallSimul x y) h = h
named_same code b top (Scan x) h = h
named_same code b top (CatchBegin x) h = h
named_same code b top CatchEnd h = h
named_same code b top (Switch x) h = h
named_same code b top (EachBegin x) h = h
named_same code b top (EachNext x y) h = h
named_same code b top Return h = h
named_same code b top ReturnZero h = h

bounded_well : (code : Code) (b : Bounds) (top : ℕ) (T : ℕ → Shape → Type 0) (p : ℕ) (sh : Shape) → IsReachedWell code b T p sh → IsReachedWell code (record b { max_height = top }) T p sh
bounded_well code b top T p sh w = record { instr = w.instr; is = w.is; named = named_same code b top w.instr w.named; fine = w.fine; catch = w.catch }

-- a body that is a stretch, and the instruction behind it, are sound
whole_sound : (code : Code) (b : Bounds) (h : Heritage) (named : (p : ℕ) (i : Instr) → slice_get code.instrs p ≡ Some i → IsNamed code b i) (from m end : ℕ) (s : Keeps code b h named None None from m 0) → One code ReturnZero m end → (top : ℕ) × (shapes : Shapes) × IsSound code (record b { max_height = top }) from end shapes
whole_sound code b h named from m end s o =
    let shapes = joined m s.shapes (single m (plain 0)) in
    let pick = λ (p : ℕ) (sh : Shape) (e : shapes p ≡ Some sh). either (nat_lt p m) (s.shapes p) (single m (plain 0) p) sh e in (
      s.top,
      shapes,
      record {
        begins = body_begins code b h named from m s s.begins;
        inside = λ p sh e. let i = both_inside code b h named from m s end o p sh (pick p sh e) in (i.0, i.1.0);
        low = λ p sh e. (both_inside code b h named from m s end o p sh (pick p sh e)).1.1;
        well = λ p sh e. bounded_well code b s.top (By shapes) p sh (both_well code b h named from m s end o p sh (pick p sh e));
      },
    )

pub translated_is_sound : TranslatedCodeIsSound
translated_is_sound h f code b from makes named =
    whole_sound code b h named from makes.1.0 makes.0 (stmts_keep code b h named f.body f.parameters None None from makes.1.0 0 makes.1.1 tt tt) makes.1.2

module _ (code : Code) (b : Bounds) (h : Heritage) (named : (p : ℕ) (i : Instr) → slice_get code.instrs p ≡ Some i → IsNamed code b i) where
  one_init : (o : Option Tree) (i from to : ℕ) → MakesInitialiser h i o code from to → Lifts code b h named [] from to 0 0
  one_init None i from to m = empty_stretch code b (Out []) from to (plain 0) m
  one_init (Some e) i from to m =
      next code b h named [] (expr_lift code b h named e [] [] from m.0 0 m.1 tt)
      (next code b h named [] (op code b h named [] (SetGlobal i) m.0 (m.0 + 1) 0 1 1 1 1 (m.2.0, refl) (λ T p sh f. f) refl refl tt) (pop_lift code b h named [] (m.0 + 1) to 0 m.2.1 tt))

  all_init : (vs : List Variable) (i from to : ℕ) → MakesInitialisers h i vs code from to → Lifts code b h named [] from to 0 0
  all_init [] i from to m = empty_stretch code b (Out []) from to (plain 0) m
  all_init (v ∷ vs) i from to m = next code b h named [] (one_init v.declared.value i from m.0 m.1) (all_init vs (suc i) m.0 to m.2)

pub initialisers_are_sound : TranslatedInitialisersAreSound
initialisers_are_sound h code b from makes named =
    whole_sound code b h named from makes.1.0 makes.0 (lifted code b h named (StmtOut None None (plain 0)) (all_init code b h named (own_variables (version_of h).items) (variables_before (parents_of h)) from makes.1.0 makes.1.1)) makes.1.2
