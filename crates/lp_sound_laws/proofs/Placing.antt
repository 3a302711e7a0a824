-- Each instruction of translated code names what is there, and leads to one of the function.
use Rattle.std.proofs.Common.{◌≡◌, ℕ, suc, ◌+◌, ◌≤◌, ◌<◌, Bool, true, false, List, [], ◌∷◌, length, Option, Some, None, pos, refl, ap, subst, ⊎_elim, arith}
use Rattle.std.specs.Prelude.{slice_get, ⊤, is_some, IsSome, if◌then◌else◌}
use Rattle.std.proofs.lemmas.Bool.{cases_lt}
use Rattle.lp_tree.specs.declared.operator.BinOp.{BinOp}
use Rattle.lp_tree.specs.declared.operator.AssignOp.{AssignOp}
use Rattle.lp_tree.specs.declared.operator.AssignOp.TheVariants as sets
use Rattle.lp_tree.specs.Trees.{Tree, Int, Text, Name, Paren, Array, Mapping, Call, EfunCall, ParentCall, NamedParentCall, Catch, Sscanf, Index as IndexTree, Range as RangeTree, CallOther as CallOtherTree, PostStep, PreStep, Unary as UnaryTree, Cast, Binary as BinaryTree, AndThen, OrElse, Cond, Assign, Sequence, Trees, NoTree, OneMore, Pairs, NoPair, OnePair, End as EndTree, Open, At}
use Rattle.lp_instr.specs.declared.instr.Instr.{Instr}
use Rattle.lp_instr.specs.declared.instr.Instr.TheVariants.{PushInt, PushText, PushLocal, SetLocal, PushGlobal, SetGlobal, Pop, Dup, Dup2, Unary, Binary, Step, Rotate, Index, SetIndex, Range, MakeArray, MakeMap, Jump, JumpIfZero, KeepIfZero, KeepIfNotZero, CallSlot, CallFixed, CallOther, CallEfun, CallSimul, Scan, CatchBegin, CatchEnd}
use Rattle.lp_instr.specs.EfunList.{efun_named, is_name}
use Rattle.lp_instr.specs.Code.{Code}
use Rattle.lp_instr.specs.Sound.{Bounds, IsNamed}
use Rattle.lp_language.specs.Eval.{kind_of_end, operator_of, pair_count, tree_count}
use Rattle.lp_language.specs.Resolve.{Heritage, or_else, parent_called, parent_with, variable_in}
use Rattle.lp_language.specs.Scope.{Names, Slot, OfLocal, OfGlobal, OfNothing, as_global, local_or, slot, slot_from, slot_of, Callee, AFunction, ASimul, AnEfun, Nobody, callee, as_efun}
use Rattle.lp_isa.specs.Translates.{Assigns, Calls, CallsParent, Line, Makes, MakesAll, MakesChange, MakesEnd, MakesFirst, MakesMore, MakesPairs, MakesScanned, MakesWrite, Nothing, One, Piece, Pushes, Reads, Then, Writes}
use Rattle.lp_sound_laws.specs.Counted.{AllCounted, Counted, EndCounted, IsAllowed, PairsCounted}
use Rattle.lp_sound_laws.specs.Placed.{ArePlaced, AreSeen, IsPlaced, Lands, Leads}

some_is : {A : Type 0} (o : Option A) (x : A) → o ≡ Some x → IsSome o
some_is o x e = ap is_some e

pub slot_below : (k : ℕ) (ns : Names) (w : List ℕ) (j : ℕ) → slot_from k ns w ≡ Some j → j < k + length ns
slot_below k [] w j e = absurd cc
slot_below k (n ∷ ns) w j e = go (slot_from (suc k) ns w) (is_name n w) (slot_below (suc k) ns w) e
  where
    go : (o : Option ℕ) (c : Bool) → ((i : ℕ) → o ≡ Some i → i < suc k + length ns) → or_else o (if c then Some k else None) ≡ Some j → j < k + suc (length ns)
    go (Some i) c ih e = let q = ih j e in omega (arith, q)
    go None true ih e = let same : k ≡ j = cc in omega (arith, same)
    go None false ih e = absurd cc

module _ (code : Code) (b : Bounds) (h : Heritage) (top : ℕ) (within : top < length code.instrs) (seen : AreSeen h b.variables) where
  abbrev pub Good : ℕ → ℕ → Type 0
  Good from to = ArePlaced code b from to

  pub none : (from to : ℕ) → to ≡ from → Good from to
  none from to e = record { order = omega (arith, e); each = λ p x y. absurd (omega (arith, e, x, y)) }

  pub both : {from m to : ℕ} → Good from m → Good m to → Good from to
  both {from} {m} {to} x y = record {
    order = let a = x.order in let c = y.order in omega (arith, a, c);
    each = λ p l u. ⊎_elim (λ (q : p < m). x.each p l q) (λ (q : m ≤ p). y.each p q u) (cases_lt p m);
  }

  pub before : {m to : ℕ} → Good m to → to ≤ top → m ≤ top
  before g u = let o = g.order in omega (arith, o, u)

  -- what comes first may lead to the end of what comes behind it
  pub join : {from m to : ℕ} → to ≤ top → (m ≤ top → Good from m) → Good m to → Good from to
  join u f y = both (f (before y u)) y

  pub one : (i : Instr) (from to : ℕ) → One code i from to → IsNamed code b i → Leads code from i → Good from to
  one i from to o n l =
      let e = o.1 in
      record {
        order = omega (arith, e);
        each = λ p x y.
            let z : from ≡ p = omega (arith, e, x, y) in
            subst (IsPlaced code b) z (record { instr = i; is = o.0; named = n; leads = l });
      }

  -- a jump further on
  pub lands_on : (p q : ℕ) → q ≤ top → p < q → Lands code p q
  lands_on p q u l = record { inside = omega (arith, u, within); turns = λ x. absurd (omega (arith, l, x)) }

  -- instructions that lead to the next one alone
  abbrev pub Plain : Instr → Type 0
  Plain i = IsNamed code b i × ((p : ℕ) → Leads code p i)

  abbrev pub AllPlain : List Instr → Type 0
  AllPlain [] = ⊤
  AllPlain (i ∷ is) = Plain i × AllPlain is

  pub straight : (is : List Instr) (from to : ℕ) → Line code is from to → AllPlain is → Good from to
  straight [] from to l a = none from to l
  straight (i ∷ is) from to l a = both (one i from (from + 1) (l.0, refl) a.0.0 (a.0.1 from)) (straight is (from + 1) to l.1 a.1)

  abbrev pub Fits : Slot → Type 0
  Fits (OfLocal k) = k < b.locals
  Fits (OfGlobal k) = k < b.variables
  Fits OfNothing = ⊤

  pub slot_fits : (ns : Names) (w : List ℕ) → length ns ≤ b.locals → Fits (slot h ns w)
  slot_fits ns w l = go (slot_of ns w) (variable_in h w) (slot_below 0 ns w) (seen w)
    where
      go : (o v : Option ℕ) → ((j : ℕ) → o ≡ Some j → j < 0 + length ns) → ((k : ℕ) → v ≡ Some k → k < b.variables) → Fits (local_or o (as_global v))
      go (Some j) v f g = let q = f j refl in omega (arith, q, l)
      go None None f g = tt
      go None (Some k) f g = g k refl

  pub reads : (x : Slot) (from to : ℕ) → Fits x → Reads code x from to → Good from to
  reads (OfLocal k) from to f m = one (PushLocal k) from to m f tt
  reads (OfGlobal k) from to f m = one (PushGlobal k) from to m f tt
  reads OfNothing from to f m = absurd m

  pub writes : (x : Slot) (from to : ℕ) → Fits x → Writes code x from to → Good from to
  writes (OfLocal k) from to f m = one (SetLocal k) from to m f tt
  writes (OfGlobal k) from to f m = one (SetGlobal k) from to m f tt
  writes OfNothing from to f m = absurd m

  pub pushes : (t : List ℕ) (from to : ℕ) → Pushes code t from to → Good from to
  pushes t from to m = one (PushText m.0) from to m.2 (some_is (slice_get code.texts m.0) t m.1) tt

  calls : (x : Callee) (name : List ℕ) (n from to : ℕ) → IsAllowed x n → Calls code x name n from to → Good from to
  calls AFunction name n from to a m = one (CallSlot m.0 n) from to m.2 (some_is _ name m.1) tt
  calls ASimul name n from to a m = one (CallSimul m.0 n) from to m.2 (some_is _ name m.1) tt
  calls (AnEfun e) name n from to a m = one (CallEfun e n) from to m a tt
  calls Nobody name n from to a m = absurd m

  calls_parent : (x : Option ℕ) (name : List ℕ) (n from to : ℕ) → CallsParent code x name n from to → Good from to
  calls_parent None name n from to m = absurd m
  calls_parent (Some parent) name n from to m = one (CallFixed parent m.0 n) from to m.2 (some_is _ name m.1) tt

  assigns : (o : Option BinOp) (op : AssignOp) (Right Write : Piece) (Compound : BinOp → Piece) (Between : Piece → Piece) (from to : ℕ)
      → (Between (λ from to. Then (One code (KeepIfZero to)) Right from to) from to → Good from to)
      → (Between (λ from to. Then (One code (KeepIfNotZero to)) Right from to) from to → Good from to)
      → ((x : BinOp) → Then Right (Compound x) from to → Good from to) → (Then Right Write from to → Good from to)
      → Assigns code o op Right Write Compound Between from to → Good from to
  assigns o sets.AndThen R W C B from to f g p q m = f m
  assigns o sets.OrElse R W C B from to f g p q m = g m
  assigns (Some x) _ R W C B from to f g p q m = p x m
  assigns None _ R W C B from to f g p q m = q m

  -- what is made of a piece, up to a place that is inside
  abbrev pub Makes_good : Piece → Type 0
  Makes_good P = (from to : ℕ) → to ≤ top → P from to → Good from to

  nothing : Makes_good Nothing
  nothing from to u m = none from to m

  keep : (i : ℕ → Instr) (Right : Piece) → ((q : ℕ) → IsNamed code b (i q)) → ((p q : ℕ) → Lands code p q → Leads code p (i q)) → Makes_good Right → Makes_good (λ from to. Then (One code (i to)) Right from to)
  keep i Right n l g from to u m =
      let y = g m.0 to u m.2 in
      let o = y.order in
      let e = m.1.1 in
      both (one (i to) from m.0 m.1 (n to) (l from to (lands_on from to u (omega (arith, o, e))))) y

  line_plain2 : (i j : Instr) (from to : ℕ) → Plain i → Plain j → Line code (i ∷ j ∷ []) from to → Good from to
  line_plain2 i j from to a d m = straight (i ∷ j ∷ []) from to m (a, (d, tt))

  line_of_catch : (from to : ℕ) → Line code (Pop ∷ CatchEnd ∷ PushInt (pos 0) ∷ []) from to → Good from to
  line_of_catch from to m = straight (Pop ∷ CatchEnd ∷ PushInt (pos 0) ∷ []) from to m ((tt, λ p. tt), ((tt, λ p. tt), ((tt, λ p. tt), tt)))

  -- what is written to a place, where its container and index are good
  abbrev PartsGood : Tree → Names → Type 0
  PartsGood (IndexTree line e edge i) ns = Makes_good (Makes h ns e code) × Makes_good (Makes h ns i code)
  PartsGood _ ns = ⊤

  change : (p : Tree) (ns : Names) (A E AI EI : Piece) (from to : ℕ) → length ns ≤ b.locals → PartsGood p ns → to ≤ top → Makes_good A → Makes_good E → Makes_good AI → Makes_good EI → MakesChange h ns p code A E AI EI from to → Good from to
  change (Name line w) ns A E AI EI from to l x u a e ai ei m =
      let f = slot_fits ns w l in
      let z = e m.2.2.0 to u m.2.2.2 in
      let y = both (writes (slot h ns w) m.2.0 m.2.2.0 f m.2.2.1) z in
      both (reads (slot h ns w) from m.0 f m.1) (join u (λ v. a m.0 m.2.0 v m.2.1) y)
  change (IndexTree line d edge i) ns A E AI EI from to l x u a e ai ei m =
      let g = m.2.2 in
      let n = g.2 in
      let z = ei n.2.0 to u n.2.2 in
      let y = both (one (SetIndex edge) n.0 n.2.0 n.2.1 tt tt) z in
      let q = join u (λ v. ai g.0 n.0 v n.1) y in
      let w = both (line_plain2 Dup2 (Index edge) m.2.0 g.0 (tt, λ p. tt) (tt, λ p. tt) g.1) q in
      join u (λ v. x.0 from m.0 v m.1) (join u (λ v. x.1 m.0 m.2.0 v m.2.1) w)
  change _ ns A E AI EI from to l x u a e ai ei m = absurd m

  mutual
    pub expr : (t : Tree) (ns : Names) (from to : ℕ) → length ns ≤ b.locals → Counted (callee h) t → to ≤ top → Makes h ns t code from to → Good from to
    expr (Int line n) ns from to l c u m = one (PushInt n) from to m tt tt
    expr (Text line t) ns from to l c u m = pushes t from to m
    expr (Name line w) ns from to l c u m = reads (slot h ns w) from to (slot_fits ns w l) m
    expr (Paren line e) ns from to l c u m = expr e ns from to l c u m
    expr (Array line es) ns from to l c u m = join u (λ v. all es ns from m.0 l c v m.1) (one (MakeArray (tree_count es)) m.0 to m.2 tt tt)
    expr (Mapping line ps) ns from to l c u m = join u (λ v. all_pairs ps ns from m.0 l c v m.1) (one (MakeMap (pair_count ps)) m.0 to m.2 tt tt)
    expr (Call line name es) ns from to l c u m = join u (λ v. all es ns from m.0 l c.1 v m.1) (calls (callee h name) name (tree_count es) m.0 to c.0 m.2)
    expr (EfunCall line name es) ns from to l c u m = join u (λ v. all es ns from m.0 l c.1 v m.1) (calls (as_efun (efun_named name)) name (tree_count es) m.0 to c.0 m.2)
    expr (ParentCall line name es) ns from to l c u m = join u (λ v. all es ns from m.0 l c v m.1) (calls_parent (parent_with h name) name (tree_count es) m.0 to m.2)
    expr (NamedParentCall line p name es) ns from to l c u m = join u (λ v. all es ns from m.0 l c v m.1) (calls_parent (parent_called h p) name (tree_count es) m.0 to m.2)
    expr (Catch line e) ns from to l c u m =
        let z = line_of_catch m.2.0 to m.2.2 in
        let y = join u (λ v. expr e ns m.0 m.2.0 l c v m.2.1) z in
        let o = y.order in
        let d = m.1.1 in
        both (one (CatchBegin to) from m.0 m.1 tt (lands_on from to u (omega (arith, o, d)))) y
    expr (Sscanf line e form places) ns from to l c u m =
        let z = both (one (Scan (tree_count places)) m.2.0 m.2.2.0 m.2.2.1 tt tt) (scanned places ns m.2.2.0 to l c.2 u m.2.2.2) in
        join u (λ v. expr e ns from m.0 l c.0 v m.1) (join u (λ v. expr form ns m.0 m.2.0 l c.1 v m.2.1) z)
    expr (IndexTree line e edge i) ns from to l c u m =
        join u (λ v. expr e ns from m.0 l c.0 v m.1) (join u (λ v. expr i ns m.0 m.2.0 l c.1 v m.2.1) (one (Index edge) m.2.0 to m.2.2 tt tt))
    expr (RangeTree line e x y) ns from to l c u m =
        join u (λ v. expr e ns from m.0 l c.0 v m.1)
        (join u (λ v. an_end x ns m.0 m.2.0 l c.1 v m.2.1)
        (join u (λ v. an_end y ns m.2.0 m.2.2.0 l c.2 v m.2.2.1) (one (Range (kind_of_end x) (kind_of_end y)) m.2.2.0 to m.2.2.2 tt tt)))
    expr (CallOtherTree line e name es) ns from to l c u m =
        join u (λ v. expr e ns from m.0 l c.0 v m.1)
        (both (pushes name m.0 m.2.0 m.2.1)
        (join u (λ v. all es ns m.2.0 m.2.2.0 l c.1 v m.2.2.1) (one (CallOther (tree_count es)) m.2.2.0 to m.2.2.2 tt tt)))
    expr (PostStep line s p) ns from to l c u m =
        change p ns _ _ _ _ from to l (place p ns l c) u
        (λ from to u m. line_plain2 (Dup) (Step s) from to (tt, λ p. tt) (tt, λ p. tt) m) (λ from to u m. one Pop from to m tt tt)
        (λ from to u m. straight (Dup ∷ Step s ∷ Rotate 4 ∷ Rotate 4 ∷ Rotate 3 ∷ []) from to m ((tt, λ p. tt), ((tt, λ p. tt), ((omega arith, λ p. tt), ((omega arith, λ p. tt), ((omega arith, λ p. tt), tt))))))
        (λ from to u m. one Pop from to m tt tt) m
    expr (PreStep line s p) ns from to l c u m =
        change p ns _ _ _ _ from to l (place p ns l c) u (λ from to u m. one (Step s) from to m tt tt) nothing (λ from to u m. one (Step s) from to m tt tt) nothing m
    expr (UnaryTree line op e) ns from to l c u m = join u (λ v. expr e ns from m.0 l c v m.1) (one (Unary op) m.0 to m.2 tt tt)
    expr (Cast line ty e) ns from to l c u m = expr e ns from to l c u m
    expr (BinaryTree line op x y) ns from to l c u m =
        join u (λ v. expr x ns from m.0 l c.0 v m.1) (join u (λ v. expr y ns m.0 m.2.0 l c.1 v m.2.1) (one (Binary op) m.2.0 to m.2.2 tt tt))
    expr (AndThen line x y) ns from to l c u m =
        join u (λ v. expr x ns from m.0 l c.0 v m.1) (keep KeepIfZero (Makes h ns y code) (λ q. tt) (λ p q a. a) (λ from to u m. expr y ns from to l c.1 u m) m.0 to u m.2)
    expr (OrElse line x y) ns from to l c u m =
        join u (λ v. expr x ns from m.0 l c.0 v m.1) (keep KeepIfNotZero (Makes h ns y code) (λ q. tt) (λ p q a. a) (λ from to u m. expr y ns from to l c.1 u m) m.0 to u m.2)
    expr (Cond line x y d) ns from to l c u m =
        let other = m.0 in
        let g = m.1.2 in
        let last = expr d ns other to l c.2 u m.2 in
        let v = before last u in
        let o = last.order in
        let e = g.2.2.1 in
        let jump = one (Jump to) g.2.0 other g.2.2 tt (lands_on g.2.0 to u (omega (arith, o, e))) in
        let yes = join v (λ w. expr y ns g.0 g.2.0 l c.1 w g.2.1) jump in
        let o2 = yes.order in
        let e2 = g.1.1 in
        let test = both (one (JumpIfZero other) m.1.0 g.0 g.1 tt (lands_on m.1.0 other v (omega (arith, o2, e2)))) yes in
        both (join v (λ w. expr x ns from m.1.0 l c.0 w m.1.1) test) last
    expr (Assign line op p e) ns from to l c u m =
        assigns (operator_of op) op _ _ _ _ from to
        (λ m. change p ns _ _ _ _ from to l (place p ns l c.0) u
        (keep KeepIfZero (Makes h ns e code) (λ q. tt) (λ p q a. a) (λ from to u m. expr e ns from to l c.1 u m)) nothing
        (keep KeepIfZero (Makes h ns e code) (λ q. tt) (λ p q a. a) (λ from to u m. expr e ns from to l c.1 u m)) nothing m)
        (λ m. change p ns _ _ _ _ from to l (place p ns l c.0) u
        (keep KeepIfNotZero (Makes h ns e code) (λ q. tt) (λ p q a. a) (λ from to u m. expr e ns from to l c.1 u m)) nothing
        (keep KeepIfNotZero (Makes h ns e code) (λ q. tt) (λ p q a. a) (λ from to u m. expr e ns from to l c.1 u m)) nothing m)
        (λ x m. join u (λ v. expr e ns from m.0 l c.1 v m.1)
        (change p ns _ _ _ _ m.0 to l (place p ns l c.0) u
        (λ from to u m. line_plain2 (Rotate 2) (Binary x) from to (omega arith, λ p. tt) (tt, λ p. tt) m) nothing
        (λ from to u m. line_plain2 (Rotate 4) (Binary x) from to (omega arith, λ p. tt) (tt, λ p. tt) m) nothing m.2))
        (λ m. join u (λ v. expr e ns from m.0 l c.1 v m.1) (write p ns m.0 to l c.0 u m.2)) m
    expr (Sequence line es) ns from to l c u m = first es ns from to l c u m

    all : (es : Trees) (ns : Names) (from to : ℕ) → length ns ≤ b.locals → AllCounted (callee h) es → to ≤ top → MakesAll h ns es code from to → Good from to
    all NoTree ns from to l c u m = none from to m
    all (OneMore e es) ns from to l c u m = join u (λ v. expr e ns from m.0 l c.0 v m.1) (all es ns m.0 to l c.1 u m.2)

    all_pairs : (ps : Pairs) (ns : Names) (from to : ℕ) → length ns ≤ b.locals → PairsCounted (callee h) ps → to ≤ top → MakesPairs h ns ps code from to → Good from to
    all_pairs NoPair ns from to l c u m = none from to m
    all_pairs (OnePair k v ps) ns from to l c u m =
        join u (λ w. expr k ns from m.0 l c.0 w m.1) (join u (λ w. expr v ns m.0 m.2.0 l c.1 w m.2.1) (all_pairs ps ns m.2.0 to l c.2 u m.2.2))

    first : (es : Trees) (ns : Names) (from to : ℕ) → length ns ≤ b.locals → AllCounted (callee h) es → to ≤ top → MakesFirst h ns es code from to → Good from to
    first NoTree ns from to l c u m = absurd m
    first (OneMore e es) ns from to l c u m = join u (λ v. expr e ns from m.0 l c.0 v m.1) (more es ns m.0 to l c.1 u m.2)

    more : (es : Trees) (ns : Names) (from to : ℕ) → length ns ≤ b.locals → AllCounted (callee h) es → to ≤ top → MakesMore h ns es code from to → Good from to
    more NoTree ns from to l c u m = none from to m
    more (OneMore e es) ns from to l c u m =
        both (one Pop from m.0 m.1 tt tt) (join u (λ v. expr e ns m.0 m.2.0 l c.0 v m.2.1) (more es ns m.2.0 to l c.1 u m.2.2))

    an_end : (t : EndTree) (ns : Names) (from to : ℕ) → length ns ≤ b.locals → EndCounted (callee h) t → to ≤ top → MakesEnd h ns t code from to → Good from to
    an_end Open ns from to l c u m = none from to m
    an_end (At edge e) ns from to l c u m = expr e ns from to l c u m

    write : (p : Tree) (ns : Names) (from to : ℕ) → length ns ≤ b.locals → Counted (callee h) p → to ≤ top → MakesWrite h ns p code from to → Good from to
    write (Name line w) ns from to l c u m = writes (slot h ns w) from to (slot_fits ns w l) m
    write (IndexTree line e edge i) ns from to l c u m =
        join u (λ v. expr e ns from m.0 l c.0 v m.1)
        (join u (λ v. expr i ns m.0 m.2.0 l c.1 v m.2.1) (line_plain2 (Rotate 3) (SetIndex edge) m.2.0 to (omega arith, λ p. tt) (tt, λ p. tt) m.2.2))
    write _ ns from to l c u m = absurd m

    place : (p : Tree) (ns : Names) → length ns ≤ b.locals → Counted (callee h) p → PartsGood p ns
    place (IndexTree line e edge i) ns l c = (λ from to u m. expr e ns from to l c.0 u m, λ from to u m. expr i ns from to l c.1 u m)
    place _ ns l c = tt

    scanned : (ps : Trees) (ns : Names) (from to : ℕ) → length ns ≤ b.locals → AllCounted (callee h) ps → to ≤ top → MakesScanned h ns ps code from to → Good from to
    scanned NoTree ns from to l c u m = none from to m
    scanned (OneMore p ps) ns from to l c u m =
        let z = both (one Pop m.0 m.2.0 m.2.1 tt tt) (scanned ps ns m.2.0 to l c.1 u m.2.2) in
        let v = before z u in
        let y = write p ns m.1.0 m.0 l c.0 v m.1.2 in
        let o = y.order in
        let e = m.1.1.1 in
        both (both (one (JumpIfZero m.0) from m.1.0 m.1.1 tt (lands_on from m.0 v (omega (arith, o, e)))) y) z
