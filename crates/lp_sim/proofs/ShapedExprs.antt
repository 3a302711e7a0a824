-- The code of an expression is a stretch that leaves one value more.
use Rattle.std.proofs.Common.{◌≡◌, ℕ, suc, ◌+◌, ◌*◌, ◌≤◌, ◌⊎◌, inl, inr, List, [], ◌∷◌, Option, Some, None, pos, refl, sym, ap, ◌∙◌, subst, arith}
use Rattle.std.specs.Prelude.{slice_get, ⊤}
use Rattle.lp_tree.specs.declared.operator.BinOp.{BinOp}
use Rattle.lp_tree.specs.declared.operator.BinOp.TheVariants as ops
use Rattle.lp_tree.specs.declared.operator.AssignOp.TheVariants as sets
use Rattle.lp_tree.specs.declared.operator.Step.{Step as StepOf}
use Rattle.lp_tree.specs.declared.expr.Edge.TheVariants.{Front, Back}
use Rattle.lp_tree.specs.Trees.{Tree, Int, Text, Name, Paren, Array, Mapping, Call, EfunCall, ParentCall, NamedParentCall, Catch, Sscanf, Index as IndexTree, Range as RangeTree, CallOther as CallOtherTree, PostStep, PreStep, Unary as UnaryTree, Cast, Binary as BinaryTree, AndThen, OrElse, Cond, Assign, Sequence, Trees, NoTree, OneMore, Pairs, NoPair, OnePair, End as EndTree, Open, At as AtEnd}
use Rattle.lp_instr.specs.declared.instr.Instr.{Instr}
use Rattle.lp_instr.specs.declared.instr.Instr.TheVariants.{PushInt, PushText, PushLocal, SetLocal, PushGlobal, SetGlobal, Pop, Dup, Dup2, Unary, Binary, Step, Rotate, Index, SetIndex, Range, MakeArray, MakeMap, Jump, JumpIfZero, KeepIfZero, KeepIfNotZero, CallSlot, CallFixed, CallOther, CallEfun, CallSimul, Scan, CatchBegin, CatchEnd}
use Rattle.lp_instr.specs.EfunList.{efun_named}
use Rattle.lp_language.specs.Resolve.{Heritage, parent_with, parent_called}
use Rattle.lp_language.specs.Scope.{Names, Slot, OfLocal, OfGlobal, OfNothing, slot, Callee, AFunction, ASimul, AnEfun, Nobody, callee, as_efun}
use Rattle.lp_language.specs.Eval.{kind_of_end, tree_count, pair_count}
use Rattle.lp_instr.specs.Code.{Code, Catching}
use Rattle.lp_isa.specs.Translates.{Piece, Nothing, Line, One, Reads, Writes, Calls, CallsParent, Makes, MakesAll, MakesPairs, MakesFirst, MakesMore, MakesEnd, MakesWrite, MakesChange, MakesScanned}
use Rattle.lp_instr.specs.Sound.{Shape, shape, Bounds, IsAbove, CatchLeads, Flows, IsNamed, IsFine, end_count}
use Rattle.lp_sim.proofs.Stretch.{Stretch, final, outer, At, empty_stretch, weak, seq, right_at, begin_at, close, one_stretch, flow_one, jump_one, zero_one, keep_zero, keep_not_zero, Out, out_leads, Here, above_more}

module _ (code : Code) (b : Bounds) (k : Heritage) (named : (p : ℕ) (i : Instr) → slice_get code.instrs p ≡ Some i → IsNamed code b i) where
  -- a stretch of expressions, between two heights
  abbrev pub Lifts : List Catching → ℕ → ℕ → ℕ → ℕ → Type 0
  Lifts cs from to s t = Stretch code b (Out cs) from to (shape s cs) (shape t cs)

  outs : (cs : List Catching) → CatchLeads (Out cs) cs
  outs cs = out_leads (Out cs) cs (λ q t e. e)

  end_cast : {cs : List Catching} {from to s t u : ℕ} → t ≡ u → Lifts cs from to s t → Lifts cs from to s u
  end_cast {cs} {from} {to} {s} e x = subst (λ t. Lifts cs from to s t) e x

  begin_cast : {cs : List Catching} {from to s t u : ℕ} → s ≡ u → Lifts cs from to s t → Lifts cs from to u t
  begin_cast {cs} {from} {to} {s} {t} e x = subst (λ s. Lifts cs from to s t) e x

  -- an instruction above h
  pub op : (cs : List Catching) (i : Instr) (from to h n j s t : ℕ) → One code i from to → ((T : ℕ → Shape → Type 0) (p : ℕ) (sh : Shape) → Flows code T n j p sh → IsFine code T i p sh) → s ≡ h + n → t ≡ h + j → IsAbove cs h → Lifts cs from to s t
  op cs i from to h n j s t o g e d u = flow_one code b (Out cs) i from to cs h n j s t o (named from i o.0) g e d u (outs cs)

  pub next : (cs : List Catching) {from m to s t u : ℕ} → Lifts cs from m s t → Lifts cs m to t u → Lifts cs from to s u
  next cs x y = seq code b (Out cs) x y

  up : (cs : List Catching) (h : ℕ) → IsAbove cs h → IsAbove cs (suc h)
  up cs h u = above_more cs h (suc h) (omega arith) u

  up2 : (cs : List Catching) (h : ℕ) → IsAbove cs h → IsAbove cs (suc (suc h))
  up2 cs h u = above_more cs h (suc (suc h)) (omega arith) u

  pub reads_lift : (cs : List Catching) (x : Slot) (from to h : ℕ) → Reads code x from to → IsAbove cs h → Lifts cs from to h (suc h)
  reads_lift cs (OfLocal j) from to h o u = op cs (PushLocal j) from to h 0 1 h (suc h) o (λ T p sh f. f) (omega arith) (omega arith) u
  reads_lift cs (OfGlobal j) from to h o u = op cs (PushGlobal j) from to h 0 1 h (suc h) o (λ T p sh f. f) (omega arith) (omega arith) u
  reads_lift cs OfNothing from to h o u = absurd o

  pub writes_lift : (cs : List Catching) (x : Slot) (from to h : ℕ) → Writes code x from to → IsAbove cs h → Lifts cs from to (suc h) (suc h)
  writes_lift cs (OfLocal j) from to h o u = op cs (SetLocal j) from to h 1 1 (suc h) (suc h) o (λ T p sh f. f) (omega arith) (omega arith) u
  writes_lift cs (OfGlobal j) from to h o u = op cs (SetGlobal j) from to h 1 1 (suc h) (suc h) o (λ T p sh f. f) (omega arith) (omega arith) u
  writes_lift cs OfNothing from to h o u = absurd o

  pub pop_lift : (cs : List Catching) (from to h : ℕ) → One code Pop from to → IsAbove cs h → Lifts cs from to (suc h) h
  pop_lift cs from to h o u = op cs Pop from to h 1 0 (suc h) h o (λ T p sh f. f) (omega arith) (omega arith) u

  pub int_lift : (cs : List Catching) (from to h : ℕ) → One code (PushInt (pos 0)) from to → IsAbove cs h → Lifts cs from to h (suc h)
  int_lift cs from to h o u = op cs (PushInt (pos 0)) from to h 0 1 h (suc h) o (λ T p sh f. f) (omega arith) (omega arith) u

  calls_lift : (cs : List Catching) (x : Callee) (name : List ℕ) (n from to h : ℕ) → Calls code x name n from to → IsAbove cs h → Lifts cs from to (h + n) (suc h)
  calls_lift cs AFunction name n from to h o u = op cs (CallSlot o.0 n) from to h n 1 (h + n) (suc h) o.2 (λ T p sh f. f) refl (omega arith) u
  calls_lift cs ASimul name n from to h o u = op cs (CallSimul o.0 n) from to h n 1 (h + n) (suc h) o.2 (λ T p sh f. f) refl (omega arith) u
  calls_lift cs (AnEfun e) name n from to h o u = op cs (CallEfun e n) from to h n 1 (h + n) (suc h) o (λ T p sh f. f) refl (omega arith) u
  calls_lift cs Nobody name n from to h o u = absurd o

  parent_lift : (cs : List Catching) (x : Option ℕ) (name : List ℕ) (n from to h : ℕ) → CallsParent code x name n from to → IsAbove cs h → Lifts cs from to (h + n) (suc h)
  parent_lift cs None name n from to h o u = absurd o
  parent_lift cs (Some j) name n from to h o u = op cs (CallFixed j o.0 n) from to h n 1 (h + n) (suc h) o.2 (λ T p sh f. f) refl (omega arith) u

  -- a value that is kept where a jump leads behind what comes else
  keep_lift : (cs : List Catching) (from m to h : ℕ) → One code (KeepIfZero to) from m → Lifts cs m to h (suc h) → IsAbove cs h → Lifts cs from to (suc h) (suc h)
  keep_lift cs from m to h o s u =
      let F = Here to (shape (suc h) cs) in
      let G = λ (q : ℕ) (t : Shape). Out cs q t ⊎ F q t in
      let l = s.order in
      let r = o.1 in
      close code b (Out cs) F (seq code b G (keep_zero code b G from m to h cs o (inr (refl, refl)) (λ x. absurd (omega arith)) u (out_leads G cs (λ q t e. inl e))) (weak code b (Out cs) G (λ q t e. inl e) s)) (λ q t e. inr e)

  keep_not_lift : (cs : List Catching) (from m to h : ℕ) → One code (KeepIfNotZero to) from m → Lifts cs m to h (suc h) → IsAbove cs h → Lifts cs from to (suc h) (suc h)
  keep_not_lift cs from m to h o s u =
      let F = Here to (shape (suc h) cs) in
      let G = λ (q : ℕ) (t : Shape). Out cs q t ⊎ F q t in
      let l = s.order in
      let r = o.1 in
      close code b (Out cs) F (seq code b G (keep_not_zero code b G from m to h cs o (inr (refl, refl)) (λ x. absurd (omega arith)) u (out_leads G cs (λ q t e. inl e))) (weak code b (Out cs) G (λ q t e. inl e) s)) (λ q t e. inr e)

  -- one of two, by the top of the stack
  cond_lift : (cs : List Catching) (from p q other to h : ℕ) → One code (JumpIfZero other) from p → Lifts cs p q h (suc h) → One code (Jump to) q other → Lifts cs other to h (suc h) → IsAbove cs h → Lifts cs from to (suc h) (suc h)
  cond_lift cs from p q other to h o y j d u =
      let F = λ (p : ℕ) (t : Shape). Here other (shape h cs) p t ⊎ Here to (shape (suc h) cs) p t in
      let G = λ (p : ℕ) (t : Shape). Out cs p t ⊎ F p t in
      let c = out_leads G cs (λ q t e. inl e) in
      let l1 = y.order in
      let l2 = d.order in
      let r1 = o.1 in
      let r2 = j.1 in
      let s1 = zero_one code b G from p other h cs o (inr (inl (refl, refl))) (λ x. absurd (omega arith)) u c in
      let s2 = weak code b (Out cs) G (λ q t e. inl e) y in
      let s3 = jump_one code b G q other to (shape (suc h) cs) (shape h cs) j tt (inr (inr (refl, refl))) (λ x. absurd (omega arith)) c in
      let s4 = weak code b (Out cs) G (λ q t e. inl e) d in
      close code b (Out cs) F (seq code b G s1 (seq code b G s2 (seq code b G s3 s4)))
      (λ p t e. cond_places p t s1 s2 s3 s4 e)
    where
      cond_places : {G : ℕ → Shape → Type 0} {cs : List Catching} {from p q other to h : ℕ} (r : ℕ) (t : Shape) (s1 : Stretch code b G from p (shape (suc h) cs) (shape h cs)) (s2 : Stretch code b G p q (shape h cs) (shape (suc h) cs)) (s3 : Stretch code b G q other (shape (suc h) cs) (shape h cs)) (s4 : Stretch code b G other to (shape h cs) (shape (suc h) cs)) → Here other (shape h cs) r t ⊎ Here to (shape (suc h) cs) r t → At (seq code b G s1 (seq code b G s2 (seq code b G s3 s4))).shapes to (shape (suc h) cs) r t
      cond_places {G} {cs} {from} {p} {q} {other} {to} {h} r t s1 s2 s3 s4 (inl e) =
          let S = seq code b G s1 (seq code b G s2 (seq code b G s3 s4)) in
          subst (λ r. At S.shapes to (shape (suc h) cs) r t) (sym e.0) (subst (λ t. At S.shapes to (shape (suc h) cs) other t) (sym e.1)
          (right_at code b G s1 (seq code b G s2 (seq code b G s3 s4)) other (shape h cs) (right_at code b G s2 (seq code b G s3 s4) other (shape h cs) (begin_at code b G s3 s4))))
      cond_places r t s1 s2 s3 s4 (inr e) = inr e

  -- a catch
  catch_lift : (cs : List Catching) (from m q to h : ℕ) → One code (CatchBegin to) from m → Lifts (record { place = to; height = h } ∷ cs) m q h (suc h) → Line code (Pop ∷ CatchEnd ∷ PushInt (pos 0) ∷ []) q to → IsAbove cs h → Lifts cs from to h (suc h)
  catch_lift cs from m q to h o y l u =
      let r : Catching = record { place = to; height = h } in
      let F = Out (r ∷ cs) in
      let G = λ (p : ℕ) (t : Shape). Out cs p t ⊎ F p t in
      let c = out_leads G cs (λ q t e. inl e) in
      let cr = out_leads G (r ∷ cs) (λ q t e. inr e) in
      let l1 = y.order in
      let r1 = o.1 in
      let r2 = l.1.1.1 in
      let s1 = one_stretch code b G (CatchBegin to) from m (shape h cs) (shape h (r ∷ cs)) o tt
      (record { reached = final (sym o.1) refl; turns = λ x. absurd (omega arith) }, record { reached = outer (inr (refl, refl)); turns = λ x. absurd (omega arith) }) c in
      let s2 = weak code b F G (λ q t e. inr e) y in
      let s3 = flow_one code b G Pop q (q + 1) (r ∷ cs) h 1 0 (suc h) h (l.0, refl) tt (λ T p sh f. f) (omega arith) (omega arith) (omega arith) cr in
      let s4 = one_stretch code b G CatchEnd (q + 1) (q + 1 + 1) (shape h (r ∷ cs)) (shape h cs) (l.1.0, refl) tt (record { reached = final refl refl; turns = λ x. absurd (omega arith) }) cr in
      let s5 = flow_one code b G (PushInt (pos 0)) (q + 1 + 1) to cs h 0 1 h (suc h) l.1.1 tt (λ T p sh f. f) (omega arith) (omega arith) u c in
      close code b (Out cs) F (seq code b G s1 (seq code b G s2 (seq code b G s3 (seq code b G s4 s5))))
      (λ p t e. inr (e.0, e.1 ∙ ap (λ n. shape n cs) (let z : h + 1 ≡ suc h = omega arith in z)))

  -- a place that is not assigned is passed over
  skip_lift : (cs : List Catching) (from m to h : ℕ) → One code (JumpIfZero to) from m → Lifts cs m to (suc h) (suc h) → IsAbove cs h → Lifts cs from to (suc (suc h)) (suc h)
  skip_lift cs from m to h o s u =
      let F = Here to (shape (suc h) cs) in
      let G = λ (q : ℕ) (t : Shape). Out cs q t ⊎ F q t in
      let l = s.order in
      let r = o.1 in
      close code b (Out cs) F (seq code b G (zero_one code b G from m to (suc h) cs o (inr (refl, refl)) (λ x. absurd (omega arith)) (up cs h u) (out_leads G cs (λ q t e. inl e))) (weak code b (Out cs) G (λ q t e. inl e) s)) (λ q t e. inr e)

  abbrev pub ExprLifts : Tree → Names → Type 0
  ExprLifts e ns = (cs : List Catching) (from to h : ℕ) → Makes k ns e code from to → IsAbove cs h → Lifts cs from to h (suc h)

  abbrev PartsLift : Tree → Names → Type 0
  PartsLift (IndexTree l e edge i) ns = ExprLifts e ns × ExprLifts i ns
  PartsLift _ ns = ⊤

  change_lift : (p : Tree) (ns : Names) → PartsLift p ns → (cs : List Catching) (A E AI EI : Piece) (from to h low mid : ℕ) → MakesChange k ns p code A E AI EI from to → IsAbove cs h → h ≤ low → h ≤ mid → ((from to : ℕ) → A from to → Lifts cs from to (suc low) (suc mid)) → ((from to : ℕ) → E from to → Lifts cs from to (suc mid) (suc h)) → ((from to : ℕ) → AI from to → Lifts cs from to (suc (suc (suc low))) (suc (suc (suc mid)))) → ((from to : ℕ) → EI from to → Lifts cs from to (suc mid) (suc h)) → Lifts cs from to low (suc h)
  change_lift (Name l x) ns _ cs A E AI EI from to h low mid m u a d va ve ia ie =
      next cs (reads_lift cs (slot k ns x) from m.0 low m.1 (above_more cs h low a u))
      (next cs (va m.0 m.2.0 m.2.1)
      (next cs (writes_lift cs (slot k ns x) m.2.0 m.2.2.0 mid m.2.2.1 (above_more cs h mid d u))
      (ve m.2.2.0 to m.2.2.2)))
  change_lift (IndexTree l e edge i) ns x cs A E AI EI from to h low mid m u a d va ve ia ie =
      let w = above_more cs h low a u in
      let g = m.2.2 in
      let n = g.2 in
      next cs (x.0 cs from m.0 low m.1 w)
      (next cs (x.1 cs m.0 m.2.0 (suc low) m.2.1 (up cs low w))
      (next cs (op cs Dup2 m.2.0 (m.2.0 + 1) low 2 4 (suc (suc low)) (suc (suc (suc (suc low)))) (g.1.0, refl) (λ T p sh f. f) (omega arith) (omega arith) w)
      (next cs (op cs (Index edge) (m.2.0 + 1) g.0 (suc (suc low)) 2 1 (suc (suc (suc (suc low)))) (suc (suc (suc low))) g.1.1 (λ T p sh f. f) (omega arith) (omega arith) (up2 cs low w))
      (next cs (ia g.0 n.0 n.1)
      (next cs (op cs (SetIndex edge) n.0 n.2.0 mid 3 1 (suc (suc (suc mid))) (suc mid) n.2.1 (λ T p sh f. f) (omega arith) (omega arith) (above_more cs h mid d u))
      (ie n.2.0 to n.2.2))))))
  change_lift _ ns x cs A E AI EI from to h low mid m u a d va ve ia ie = absurd m

  nothing_lift : (cs : List Catching) (from to s : ℕ) → Nothing from to → Lifts cs from to s s
  nothing_lift cs from to s e = empty_stretch code b (Out cs) from to (shape s cs) e

  step_lift : (cs : List Catching) (st : StepOf) (from to h : ℕ) → One code (Step st) from to → IsAbove cs h → Lifts cs from to (suc h) (suc h)
  step_lift cs st from to h o u = op cs (Step st) from to h 1 1 (suc h) (suc h) o (λ T p sh f. f) (omega arith) (omega arith) u

  rotate_lift : (cs : List Catching) (n from to h s : ℕ) → One code (Rotate n) from to → s ≡ h + n → IsAbove cs h → Lifts cs from to s s
  rotate_lift cs n from to h s o e u = op cs (Rotate n) from to h n n s s o (λ T p sh f. f) e e u

  -- an operator with the value below
  op_lift : (cs : List Catching) (o : BinOp) (n from to h s : ℕ) → Line code (Rotate n ∷ Binary o ∷ []) from to → suc (suc s) ≡ h + n → IsAbove cs h → IsAbove cs s → Lifts cs from to (suc (suc s)) (suc s)
  op_lift cs o n from to h s l e u w =
      next cs (rotate_lift cs n from (from + 1) h (suc (suc s)) (l.0, refl) e u) (op cs (Binary o) (from + 1) to s 2 1 (suc (suc s)) (suc s) l.1 (λ T p sh f. f) (omega arith) (omega arith) w)

  dup_step_lift : (cs : List Catching) (st : StepOf) (from to h : ℕ) → Line code (Dup ∷ Step st ∷ []) from to → IsAbove cs h → Lifts cs from to (suc h) (suc (suc h))
  dup_step_lift cs st from to h l u =
      next cs (op cs Dup from (from + 1) h 1 2 (suc h) (suc (suc h)) (l.0, refl) (λ T p sh f. f) (omega arith) (omega arith) u) (step_lift cs st (from + 1) to (suc h) l.1 (up cs h u))

  sunk_lift : (cs : List Catching) (st : StepOf) (from to h : ℕ) → Line code (Dup ∷ Step st ∷ Rotate 4 ∷ Rotate 4 ∷ Rotate 3 ∷ []) from to → IsAbove cs h → Lifts cs from to (suc (suc (suc h))) (suc (suc (suc (suc h))))
  sunk_lift cs st from to h l u =
      let s = suc (suc (suc (suc h))) in
      let p = from + 1 + 1 in
      next cs (dup_step_lift cs st from p (suc (suc h)) (l.0, (l.1.0, refl)) (up2 cs h u))
      (next cs (rotate_lift cs 4 p (p + 1) h s (l.1.1.0, refl) (omega arith) u)
      (next cs (rotate_lift cs 4 (p + 1) (p + 1 + 1) h s (l.1.1.1.0, refl) (omega arith) u)
      (rotate_lift cs 3 (p + 1 + 1) to (suc h) s l.1.1.1.1 (omega arith) (up cs h u))))

  mutual
    pub expr_lift : (e : Tree) (ns : Names) → ExprLifts e ns
    expr_lift (Int l n) ns cs from to h m u = op cs (PushInt n) from to h 0 1 h (suc h) m (λ T p sh f. f) (omega arith) (omega arith) u
    expr_lift (Text l t) ns cs from to h m u = op cs (PushText m.0) from to h 0 1 h (suc h) m.2 (λ T p sh f. f) (omega arith) (omega arith) u
    expr_lift (Name l x) ns cs from to h m u = reads_lift cs (slot k ns x) from to h m u
    expr_lift (Paren l e) ns cs from to h m u = expr_lift e ns cs from to h m u
    expr_lift (Array l es) ns cs from to h m u =
        next cs (row_lift es ns cs from m.0 h m.1 u) (op cs (MakeArray (tree_count es)) m.0 to h (tree_count es) 1 (h + tree_count es) (suc h) m.2 (λ T p sh f. f) refl (omega arith) u)
    expr_lift (Mapping l ps) ns cs from to h m u =
        next cs (pairs_lift ps ns cs from m.0 h m.1 u) (op cs (MakeMap (pair_count ps)) m.0 to h (2 * pair_count ps) 1 (h + 2 * pair_count ps) (suc h) m.2 (λ T p sh f. f) refl (omega arith) u)
    expr_lift (Call l name es) ns cs from to h m u = next cs (row_lift es ns cs from m.0 h m.1 u) (calls_lift cs (callee k name) name (tree_count es) m.0 to h m.2 u)
    expr_lift (EfunCall l name es) ns cs from to h m u = next cs (row_lift es ns cs from m.0 h m.1 u) (calls_lift cs (as_efun (efun_named name)) name (tree_count es) m.0 to h m.2 u)
    expr_lift (ParentCall l name es) ns cs from to h m u = next cs (row_lift es ns cs from m.0 h m.1 u) (parent_lift cs (parent_with k name) name (tree_count es) m.0 to h m.2 u)
    expr_lift (NamedParentCall l q name es) ns cs from to h m u = next cs (row_lift es ns cs from m.0 h m.1 u) (parent_lift cs (parent_called k q) name (tree_count es) m.0 to h m.2 u)
    expr_lift (Catch l e) ns cs from to h m u =
        catch_lift cs from m.0 m.2.0 to h m.1 (expr_lift e ns (record { place = to; height = h } ∷ cs) m.0 m.2.0 h m.2.1 (omega arith)) m.2.2 u
    expr_lift (Sscanf l e form places) ns cs from to h m u =
        let n = tree_count places in
        let g = m.2.2 in
        next cs (expr_lift e ns cs from m.0 h m.1 u)
        (next cs (expr_lift form ns cs m.0 m.2.0 (suc h) m.2.1 (up cs h u))
        (next cs (op cs (Scan n) m.2.0 g.0 h 2 (2 * n + 1) (suc (suc h)) (suc h + 2 * n) g.1 (λ T p sh f. f) (omega arith) (omega arith) u)
        (scanned_lift places ns cs g.0 to (suc h) g.2 (up cs h u))))
    expr_lift (IndexTree l e edge i) ns cs from to h m u =
        next cs (expr_lift e ns cs from m.0 h m.1 u)
        (next cs (expr_lift i ns cs m.0 m.2.0 (suc h) m.2.1 (up cs h u))
        (op cs (Index edge) m.2.0 to h 2 1 (suc (suc h)) (suc h) m.2.2 (λ T p sh f. f) (omega arith) (omega arith) u))
    expr_lift (RangeTree l e x y) ns cs from to h m u =
        let a = end_count (kind_of_end x) in
        let c = end_count (kind_of_end y) in
        let g = m.2.2 in
        next cs (expr_lift e ns cs from m.0 h m.1 u)
        (next cs (end_lift x ns cs m.0 m.2.0 (suc h) m.2.1 (up cs h u))
        (next cs (end_lift y ns cs m.2.0 g.0 (suc h + a) g.1 (above_more cs h (suc h + a) (omega arith) u))
        (op cs (Range (kind_of_end x) (kind_of_end y)) g.0 to h (1 + a + c) 1 (suc h + a + c) (suc h) g.2 (λ T p sh f. f) (omega arith) (omega arith) u)))
    expr_lift (CallOtherTree l e name es) ns cs from to h m u =
        let n = tree_count es in
        let g = m.2.2 in
        next cs (expr_lift e ns cs from m.0 h m.1 u)
        (next cs (op cs (PushText m.2.1.0) m.0 m.2.0 (suc h) 0 1 (suc h) (suc (suc h)) m.2.1.2 (λ T p sh f. f) (omega arith) (omega arith) (up cs h u))
        (next cs (row_lift es ns cs m.2.0 g.0 (suc (suc h)) g.1 (up2 cs h u))
        (op cs (CallOther n) g.0 to h (n + 2) 1 (suc (suc h) + n) (suc h) g.2 (λ T p sh f. f) (omega arith) (omega arith) u)))
    expr_lift (PostStep l f p) ns cs from to h m u =
        change_lift p ns (place_lift p ns) cs _ _ _ _ from to h h (suc h) m u (omega arith) (omega arith)
        (λ from to o. dup_step_lift cs f from to h o u) (λ from to o. pop_lift cs from to (suc h) o (up cs h u))
        (λ from to o. sunk_lift cs f from to h o u) (λ from to o. pop_lift cs from to (suc h) o (up cs h u))
    expr_lift (PreStep l f p) ns cs from to h m u =
        change_lift p ns (place_lift p ns) cs _ _ _ _ from to h h h m u (omega arith) (omega arith)
        (λ from to o. step_lift cs f from to h o u) (λ from to o. nothing_lift cs from to (suc h) o)
        (λ from to o. step_lift cs f from to (suc (suc h)) o (up2 cs h u)) (λ from to o. nothing_lift cs from to (suc h) o)
    expr_lift (UnaryTree l o e) ns cs from to h m u = next cs (expr_lift e ns cs from m.0 h m.1 u) (op cs (Unary o) m.0 to h 1 1 (suc h) (suc h) m.2 (λ T p sh f. f) (omega arith) (omega arith) u)
    expr_lift (Cast l ty e) ns cs from to h m u = expr_lift e ns cs from to h m u
    expr_lift (BinaryTree l o x y) ns cs from to h m u =
        next cs (expr_lift x ns cs from m.0 h m.1 u)
        (next cs (expr_lift y ns cs m.0 m.2.0 (suc h) m.2.1 (up cs h u))
        (op cs (Binary o) m.2.0 to h 2 1 (suc (suc h)) (suc h) m.2.2 (λ T p sh f. f) (omega arith) (omega arith) u))
    expr_lift (AndThen l x y) ns cs from to h m u = next cs (expr_lift x ns cs from m.0 h m.1 u) (keep_lift cs m.0 m.2.0 to h m.2.1 (expr_lift y ns cs m.2.0 to h m.2.2 u) u)
    expr_lift (OrElse l x y) ns cs from to h m u = next cs (expr_lift x ns cs from m.0 h m.1 u) (keep_not_lift cs m.0 m.2.0 to h m.2.1 (expr_lift y ns cs m.2.0 to h m.2.2 u) u)
    expr_lift (Cond l x y d) ns cs from to h m u =
        let g = m.1.2 in
        next cs (expr_lift x ns cs from m.1.0 h m.1.1 u)
        (cond_lift cs m.1.0 g.0 g.2.0 m.0 to h g.1 (expr_lift y ns cs g.0 g.2.0 h g.2.1 u) g.2.2 (expr_lift d ns cs m.0 to h m.2 u) u)
    expr_lift (Assign l sets.Set p e) ns cs from to h m u = next cs (expr_lift e ns cs from m.0 h m.1 u) (write_lift p ns cs m.0 to h m.2 u)
    expr_lift (Assign l sets.AndThen p e) ns cs from to h m u =
        change_lift p ns (place_lift p ns) cs _ _ _ _ from to h h h m u (omega arith) (omega arith)
        (λ from to o. keep_lift cs from o.0 to h o.1 (expr_lift e ns cs o.0 to h o.2 u) u) (λ from to o. nothing_lift cs from to (suc h) o)
        (λ from to o. keep_lift cs from o.0 to (suc (suc h)) o.1 (expr_lift e ns cs o.0 to (suc (suc h)) o.2 (up2 cs h u)) (up2 cs h u)) (λ from to o. nothing_lift cs from to (suc h) o)
    expr_lift (Assign l sets.OrElse p e) ns cs from to h m u =
        change_lift p ns (place_lift p ns) cs _ _ _ _ from to h h h m u (omega arith) (omega arith)
        (λ from to o. keep_not_lift cs from o.0 to h o.1 (expr_lift e ns cs o.0 to h o.2 u) u) (λ from to o. nothing_lift cs from to (suc h) o)
        (λ from to o. keep_not_lift cs from o.0 to (suc (suc h)) o.1 (expr_lift e ns cs o.0 to (suc (suc h)) o.2 (up2 cs h u)) (up2 cs h u)) (λ from to o. nothing_lift cs from to (suc h) o)
    expr_lift (Assign l sets.Add p e) ns cs from to h m u =
        next cs (expr_lift e ns cs from m.0 h m.1 u)
        (change_lift p ns (place_lift p ns) cs _ _ _ _ m.0 to h (suc h) h m.2 u (omega arith) (omega arith)
        (λ from to o. op_lift cs ops.Add 2 from to h h o (omega arith) u u) (λ from to o. nothing_lift cs from to (suc h) o)
        (λ from to o. op_lift cs ops.Add 4 from to h (suc (suc h)) o (omega arith) u (up2 cs h u)) (λ from to o. nothing_lift cs from to (suc h) o))
    expr_lift (Assign l sets.Sub p e) ns cs from to h m u =
        next cs (expr_lift e ns cs from m.0 h m.1 u)
        (change_lift p ns (place_lift p ns) cs _ _ _ _ m.0 to h (suc h) h m.2 u (omega arith) (omega arith)
        (λ from to o. op_lift cs ops.Sub 2 from to h h o (omega arith) u u) (λ from to o. nothing_lift cs from to (suc h) o)
        (λ from to o. op_lift cs ops.Sub 4 from to h (suc (suc h)) o (omega arith) u (up2 cs h u)) (λ from to o. nothing_lift cs from to (suc h) o))
    expr_lift (Assign l sets.Mul p e) ns cs from to h m u =
        next cs (expr_lift e ns cs from m.0 h m.1 u)
        (change_lift p ns (place_lift p ns) cs _ _ _ _ m.0 to h (suc h) h m.2 u (omega arith) (omega arith)
        (λ from to o. op_lift cs ops.Mul 2 from to h h o (omega arith) u u) (λ from to o. nothing_lift cs from to (suc h) o)
        (λ from to o. op_lift cs ops.Mul 4 from to h (suc (suc h)) o (omega arith) u (up2 cs h u)) (λ from to o. nothing_lift cs from to (suc h) o))
    expr_lift (Assign l sets.Div p e) ns cs from to h m u =
        next cs (expr_lift e ns cs from m.0 h m.1 u)
        (change_lift p ns (place_lift p ns) cs _ _ _ _ m.0 to h (suc h) h m.2 u (omega arith) (omega arith)
        (λ from to o. op_lift cs ops.Div 2 from to h h o (omega arith) u u) (λ from to o. nothing_lift cs from to (suc h) o)
        (λ from to o. op_lift cs ops.Div 4 from to h (suc (suc h)) o (omega arith) u (up2 cs h u)) (λ from to o. nothing_lift cs from to (suc h) o))
    expr_lift (Assign l sets.Rem p e) ns cs from to h m u =
        next cs (expr_lift e ns cs from m.0 h m.1 u)
        (change_lift p ns (place_lift p ns) cs _ _ _ _ m.0 to h (suc h) h m.2 u (omega arith) (omega arith)
        (λ from to o. op_lift cs ops.Rem 2 from to h h o (omega arith) u u) (λ from to o. nothing_lift cs from to (suc h) o)
        (λ from to o. op_lift cs ops.Rem 4 from to h (suc (suc h)) o (omega arith) u (up2 cs h u)) (λ from to o. nothing_lift cs from to (suc h) o))
    expr_lift (Assign l sets.And p e) ns cs from to h m u =
        next cs (expr_lift e ns cs from m.0 h m.1 u)
        (change_lift p ns (place_lift p ns) cs _ _ _ _ m.0 to h (suc h) h m.2 u (omega arith) (omega arith)
        (λ from to o. op_lift cs ops.And 2 from to h h o (omega arith) u u) (λ from to o. nothing_lift cs from to (suc h) o)
        (λ from to o. op_lift cs ops.And 4 from to h (suc (suc h)) o (omega arith) u (up2 cs h u)) (λ from to o. nothing_lift cs from to (suc h) o))
    expr_lift (Assign l sets.Or p e) ns cs from to h m u =
        next cs (expr_lift e ns cs from m.0 h m.1 u)
        (change_lift p ns (place_lift p ns) cs _ _ _ _ m.0 to h (suc h) h m.2 u (omega arith) (omega arith)
        (λ from to o. op_lift cs ops.Or 2 from to h h o (omega arith) u u) (λ from to o. nothing_lift cs from to (suc h) o)
        (λ from to o. op_lift cs ops.Or 4 from to h (suc (suc h)) o (omega arith) u (up2 cs h u)) (λ from to o. nothing_lift cs from to (suc h) o))
    expr_lift (Assign l sets.Xor p e) ns cs from to h m u =
        next cs (expr_lift e ns cs from m.0 h m.1 u)
        (change_lift p ns (place_lift p ns) cs _ _ _ _ m.0 to h (suc h) h m.2 u (omega arith) (omega arith)
        (λ from to o. op_lift cs ops.Xor 2 from to h h o (omega arith) u u) (λ from to o. nothing_lift cs from to (suc h) o)
        (λ from to o. op_lift cs ops.Xor 4 from to h (suc (suc h)) o (omega arith) u (up2 cs h u)) (λ from to o. nothing_lift cs from to (suc h) o))
    expr_lift (Assign l sets.Shl p e) ns cs from to h m u =
        next cs (expr_lift e ns cs from m.0 h m.1 u)
        (change_lift p ns (place_lift p ns) cs _ _ _ _ m.0 to h (suc h) h m.2 u (omega arith) (omega arith)
        (λ from to o. op_lift cs ops.Shl 2 from to h h o (omega arith) u u) (λ from to o. nothing_lift cs from to (suc h) o)
        (λ from to o. op_lift cs ops.Shl 4 from to h (suc (suc h)) o (omega arith) u (up2 cs h u)) (λ from to o. nothing_lift cs from to (suc h) o))
    expr_lift (Assign l sets.Shr p e) ns cs from to h m u =
        next cs (expr_lift e ns cs from m.0 h m.1 u)
        (change_lift p ns (place_lift p ns) cs _ _ _ _ m.0 to h (suc h) h m.2 u (omega arith) (omega arith)
        (λ from to o. op_lift cs ops.Shr 2 from to h h o (omega arith) u u) (λ from to o. nothing_lift cs from to (suc h) o)
        (λ from to o. op_lift cs ops.Shr 4 from to h (suc (suc h)) o (omega arith) u (up2 cs h u)) (λ from to o. nothing_lift cs from to (suc h) o))
    expr_lift (Sequence l es) ns cs from to h m u = first_lift es ns cs from to h m u

    row_lift : (es : Trees) (ns : Names) (cs : List Catching) (from to h : ℕ) → MakesAll k ns es code from to → IsAbove cs h → Lifts cs from to h (h + tree_count es)
    row_lift NoTree ns cs from to h m u = end_cast (omega arith) (empty_stretch code b (Out cs) from to (shape h cs) m)
    row_lift (OneMore e es) ns cs from to h m u =
        next cs (expr_lift e ns cs from m.0 h m.1 u) (end_cast (let q : suc h + tree_count es ≡ h + suc (tree_count es) = omega arith in q) (row_lift es ns cs m.0 to (suc h) m.2 (up cs h u)))

    pairs_lift : (ps : Pairs) (ns : Names) (cs : List Catching) (from to h : ℕ) → MakesPairs k ns ps code from to → IsAbove cs h → Lifts cs from to h (h + 2 * pair_count ps)
    pairs_lift NoPair ns cs from to h m u = end_cast (omega arith) (empty_stretch code b (Out cs) from to (shape h cs) m)
    pairs_lift (OnePair x y ps) ns cs from to h m u =
        next cs (expr_lift x ns cs from m.0 h m.1 u)
        (next cs (expr_lift y ns cs m.0 m.2.0 (suc h) m.2.1 (up cs h u))
        (end_cast (let q : suc (suc h) + 2 * pair_count ps ≡ h + 2 * suc (pair_count ps) = omega arith in q) (pairs_lift ps ns cs m.2.0 to (suc (suc h)) m.2.2 (up2 cs h u))))

    first_lift : (es : Trees) (ns : Names) (cs : List Catching) (from to h : ℕ) → MakesFirst k ns es code from to → IsAbove cs h → Lifts cs from to h (suc h)
    first_lift NoTree ns cs from to h m u = absurd m
    first_lift (OneMore e es) ns cs from to h m u = next cs (expr_lift e ns cs from m.0 h m.1 u) (more_lift es ns cs m.0 to h m.2 u)

    more_lift : (es : Trees) (ns : Names) (cs : List Catching) (from to h : ℕ) → MakesMore k ns es code from to → IsAbove cs h → Lifts cs from to (suc h) (suc h)
    more_lift NoTree ns cs from to h m u = empty_stretch code b (Out cs) from to (shape (suc h) cs) m
    more_lift (OneMore e es) ns cs from to h m u =
        next cs (pop_lift cs from m.0 h m.1 u) (next cs (expr_lift e ns cs m.0 m.2.0 h m.2.1 u) (more_lift es ns cs m.2.0 to h m.2.2 u))

    end_lift : (t : EndTree) (ns : Names) (cs : List Catching) (from to h : ℕ) → MakesEnd k ns t code from to → IsAbove cs h → Lifts cs from to h (h + end_count (kind_of_end t))
    end_lift Open ns cs from to h m u = end_cast (omega arith) (empty_stretch code b (Out cs) from to (shape h cs) m)
    end_lift (AtEnd Front e) ns cs from to h m u = end_cast (omega arith) (expr_lift e ns cs from to h m u)
    end_lift (AtEnd Back e) ns cs from to h m u = end_cast (omega arith) (expr_lift e ns cs from to h m u)

    write_lift : (p : Tree) (ns : Names) (cs : List Catching) (from to h : ℕ) → MakesWrite k ns p code from to → IsAbove cs h → Lifts cs from to (suc h) (suc h)
    write_lift (Name l x) ns cs from to h m u = writes_lift cs (slot k ns x) from to h m u
    write_lift (IndexTree l e edge i) ns cs from to h m u =
        let n = m.2.0 in
        let s = suc (suc (suc h)) in
        next cs (expr_lift e ns cs from m.0 (suc h) m.1 (up cs h u))
        (next cs (expr_lift i ns cs m.0 n (suc (suc h)) m.2.1 (up2 cs h u))
        (next cs (rotate_lift cs 3 n (n + 1) h s (m.2.2.0, refl) (omega arith) u)
        (op cs (SetIndex edge) (n + 1) to h 3 1 s (suc h) m.2.2.1 (λ T p sh f. f) (omega arith) (omega arith) u)))
    write_lift _ ns cs from to h m u = absurd m

    place_lift : (p : Tree) (ns : Names) → PartsLift p ns
    place_lift (IndexTree l e edge i) ns = (expr_lift e ns, expr_lift i ns)
    place_lift _ ns = tt

    scanned_lift : (ps : Trees) (ns : Names) (cs : List Catching) (from to h : ℕ) → MakesScanned k ns ps code from to → IsAbove cs h → Lifts cs from to (h + 2 * tree_count ps) h
    scanned_lift NoTree ns cs from to h m u = begin_cast (omega arith) (empty_stretch code b (Out cs) from to (shape h cs) m)
    scanned_lift (OneMore p ps) ns cs from to h m u =
        let x = h + 2 * tree_count ps in
        let w = above_more cs h x (omega arith) u in
        begin_cast (let q : suc (suc x) ≡ h + 2 * suc (tree_count ps) = omega arith in q)
        (next cs (skip_lift cs from m.1.0 m.0 x m.1.1 (write_lift p ns cs m.1.0 m.0 x m.1.2 w) w)
        (next cs (pop_lift cs m.0 m.2.0 x m.2.1 w) (scanned_lift ps ns cs m.2.0 to h m.2.2 u)))
