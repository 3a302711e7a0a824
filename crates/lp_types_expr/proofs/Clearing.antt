-- Expressions without faults are clear.
use Rattle.std.proofs.Common.{◌≡◌, ℕ, refl, List, [], ◌∷◌, ◌++◌, Bool, true, false, not, length}
use Rattle.std.specs.Prelude.{IsTrue, IsSome, Option, Some, None, is_some}
use Rattle.lp_tree.specs.declared.fault.FaultKind.{FaultKind}
use Rattle.lp_tree.specs.declared.fault.FaultKind.TheVariants.{UnknownName, WrongCount}
use Rattle.lp_tree.specs.declared.types.TypeName.{TypeName}
use Rattle.lp_tree.specs.Trees.{Tree, Int, Text, Name, Paren, Array, Mapping, Call, EfunCall, ParentCall, NamedParentCall, Catch, Sscanf, Index, Range, CallOther, PostStep, PreStep, Unary, Cast, Binary, AndThen, OrElse, Cond, Assign, Sequence, Trees, NoTree, OneMore, Pairs, NoPair, OnePair, End, Open, At, line_of}
use Rattle.lp_types_expr.specs.Clear.{IsCalled, IsClear, AreClear, AreClearPairs, IsClearEnd}
use Rattle.lp_types_expr.specs.ExprFaults.{when, call_kinds, guilt, types_of}
use Rattle.lp_types_expr.specs.Kinds.{ExprType}
use Rattle.lp_types_expr.specs.Known.{Around, Local, is_strong, variable_kind, Callee, AFunction, ASimul, AnEfun, TwoParents, Nobody, callee, allows}
use Rattle.lp_types_expr.specs.Walk.{FaultAt, Guilt, all_at, at_first, at_first_of, behind_first, behind_first_of, in_tree, in_trees, in_pairs, in_end}

-- two lists that are nothing together
split : {A : Type 0} (xs ys : List A) → xs ++ ys ≡ [] → (xs ≡ []) × (ys ≡ [])
split [] ys h = (refl, h)
split (x ∷ xs) ys h = absurd (cc)

no_kinds : (line : ℕ) (ks : List FaultKind) → all_at line ks ≡ [] → ks ≡ []
no_kinds line [] h = refl
no_kinds line (k ∷ ks) h = absurd (cc)

-- a part without faults has none at its first token and none behind it
part : (f : Guilt) (t : Tree) → in_tree f t ≡ [] → (at_first f t ≡ []) × (behind_first f t ≡ [])
part f t h = let p = split (all_at (line_of t) (at_first f t)) (behind_first f t) h in (no_kinds (line_of t) (at_first f t) p.0, p.1)

-- a part behind other faults
behind : (f : Guilt) (xs : List FaultAt) (t : Tree) → (xs ++ all_at (line_of t) (at_first f t)) ++ behind_first f t ≡ [] → (xs ≡ []) × ((at_first f t ≡ []) × (behind_first f t ≡ []))
behind f xs t h = let p = split (xs ++ all_at (line_of t) (at_first f t)) (behind_first f t) h in let q = split xs (all_at (line_of t) (at_first f t)) p.0 in (q.0, (no_kinds (line_of t) (at_first f t) q.1, p.1))

-- what begins with an expression at its first token
lead : (f : Guilt) (t whole : Tree) → at_first f t ++ f whole ≡ [] → at_first f t ≡ []
lead f t whole h = (split (at_first f t) (f whole) h).0

not_told : (b : Bool) (k : FaultKind) → when (not b) k ≡ [] → IsTrue b
not_told true k h = refl
not_told false k h = absurd (cc)

known : (o : Option TypeName) → when (not (is_some o)) UnknownName ≡ [] → IsSome o
known None h = absurd (cc)
known (Some ty) h = refl

called : (strong : Bool) (c : Callee) (ts : List ExprType) → call_kinds strong c ts ≡ [] → IsCalled c (length ts)
called strong Nobody ts h = absurd (cc)
called strong ASimul ts h = tt
called strong TwoParents ts h = tt
called strong (AnEfun e) ts h = not_told (allows e (length ts)) WrongCount h
called strong (AFunction sig) ts h = tt

mutual
  pub clear : (a : Around) (ls : List Local) (t : Tree) → at_first (guilt a ls) t ≡ [] → behind_first (guilt a ls) t ≡ [] → IsClear a ls t
  clear a ls (Int line v) h k = tt
  clear a ls (Text line w) h k = tt
  clear a ls (Name line w) h k = known (variable_kind a ls w) h
  clear a ls (Paren line t) h k = let q = part (guilt a ls) t k in clear a ls t q.0 q.1
  clear a ls (Array line ts) h k = all a ls ts k
  clear a ls (Mapping line ps) h k = all_pairs a ls ps k
  clear a ls (Call line w ts) h k = (called (is_strong a.mode) (callee a (Call line w ts)) (types_of a ls ts) h, all a ls ts k)
  clear a ls (EfunCall line w ts) h k = (called (is_strong a.mode) (callee a (EfunCall line w ts)) (types_of a ls ts) h, all a ls ts k)
  clear a ls (ParentCall line w ts) h k = (called (is_strong a.mode) (callee a (ParentCall line w ts)) (types_of a ls ts) h, all a ls ts k)
  clear a ls (NamedParentCall line p w ts) h k = (called (is_strong a.mode) (callee a (NamedParentCall line p w ts)) (types_of a ls ts) h, all a ls ts k)
  clear a ls (Catch line t) h k = let q = part (guilt a ls) t k in clear a ls t q.0 q.1
  clear a ls (Sscanf line t m ps) h k = let s = split ((in_tree (guilt a ls) t ++ all_at (line_of m) (at_first (guilt a ls) m)) ++ behind_first (guilt a ls) m) (in_trees (guilt a ls) ps) k in let q = behind (guilt a ls) (in_tree (guilt a ls) t) m s.0 in let r = part (guilt a ls) t q.0 in (clear a ls t r.0 r.1, (clear a ls m q.1.0 q.1.1, all a ls ps s.1))
  clear a ls (Index line t e i) h k = let s = behind (guilt a ls) (behind_first (guilt a ls) t) i k in (clear a ls t (lead (guilt a ls) t (Index line t e i) h) s.0, clear a ls i s.1.0 s.1.1)
  clear a ls (Range line t x y) h k = let s = split (behind_first (guilt a ls) t ++ in_end (guilt a ls) x) (in_end (guilt a ls) y) k in let q = split (behind_first (guilt a ls) t) (in_end (guilt a ls) x) s.0 in (clear a ls t (lead (guilt a ls) t (Range line t x y) h) q.0, (of_end a ls x q.1, of_end a ls y s.1))
  clear a ls (CallOther line t w ts) h k = let s = split (behind_first (guilt a ls) t) (in_trees (guilt a ls) ts) k in (clear a ls t (lead (guilt a ls) t (CallOther line t w ts) h) s.0, all a ls ts s.1)
  clear a ls (PostStep line s t) h k = clear a ls t (lead (guilt a ls) t (PostStep line s t) h) k
  clear a ls (PreStep line s t) h k = let q = part (guilt a ls) t k in clear a ls t q.0 q.1
  clear a ls (Unary line op t) h k = let q = part (guilt a ls) t k in clear a ls t q.0 q.1
  clear a ls (Cast line ty t) h k = let q = part (guilt a ls) t k in clear a ls t q.0 q.1
  clear a ls (Binary line op l r) h k = let s = behind (guilt a ls) (behind_first (guilt a ls) l) r k in (clear a ls l (lead (guilt a ls) l (Binary line op l r) h) s.0, clear a ls r s.1.0 s.1.1)
  clear a ls (AndThen line l r) h k = let s = behind (guilt a ls) (behind_first (guilt a ls) l) r k in (clear a ls l (lead (guilt a ls) l (AndThen line l r) h) s.0, clear a ls r s.1.0 s.1.1)
  clear a ls (OrElse line l r) h k = let s = behind (guilt a ls) (behind_first (guilt a ls) l) r k in (clear a ls l (lead (guilt a ls) l (OrElse line l r) h) s.0, clear a ls r s.1.0 s.1.1)
  clear a ls (Cond line t y n) h k = let s = behind (guilt a ls) ((behind_first (guilt a ls) t ++ all_at (line_of y) (at_first (guilt a ls) y)) ++ behind_first (guilt a ls) y) n k in let q = behind (guilt a ls) (behind_first (guilt a ls) t) y s.0 in (clear a ls t (lead (guilt a ls) t (Cond line t y n) h) q.0, (clear a ls y q.1.0 q.1.1, clear a ls n s.1.0 s.1.1))
  clear a ls (Assign line op p v) h k = let s = behind (guilt a ls) (behind_first (guilt a ls) p) v k in (clear a ls p (lead (guilt a ls) p (Assign line op p v) h) s.0, clear a ls v s.1.0 s.1.1)
  clear a ls (Sequence line ts) h k = clear_of a ls ts (split (at_first_of (guilt a ls) ts) (guilt a ls (Sequence line ts)) h).0 k

  clear_of : (a : Around) (ls : List Local) (ts : Trees) → at_first_of (guilt a ls) ts ≡ [] → behind_first_of (guilt a ls) ts ≡ [] → AreClear a ls ts
  clear_of a ls NoTree h k = tt
  clear_of a ls (OneMore t ts) h k = let s = split (behind_first (guilt a ls) t) (in_trees (guilt a ls) ts) k in (clear a ls t h s.0, all a ls ts s.1)

  all : (a : Around) (ls : List Local) (ts : Trees) → in_trees (guilt a ls) ts ≡ [] → AreClear a ls ts
  all a ls NoTree k = tt
  all a ls (OneMore t ts) k = let s = split (in_tree (guilt a ls) t) (in_trees (guilt a ls) ts) k in let q = part (guilt a ls) t s.0 in (clear a ls t q.0 q.1, all a ls ts s.1)

  all_pairs : (a : Around) (ls : List Local) (ps : Pairs) → in_pairs (guilt a ls) ps ≡ [] → AreClearPairs a ls ps
  all_pairs a ls NoPair k = tt
  all_pairs a ls (OnePair x v ps) k = let s = split ((in_tree (guilt a ls) x ++ all_at (line_of v) (at_first (guilt a ls) v)) ++ behind_first (guilt a ls) v) (in_pairs (guilt a ls) ps) k in let q = behind (guilt a ls) (in_tree (guilt a ls) x) v s.0 in let r = part (guilt a ls) x q.0 in (clear a ls x r.0 r.1, (clear a ls v q.1.0 q.1.1, all_pairs a ls ps s.1))

  of_end : (a : Around) (ls : List Local) (e : End) → in_end (guilt a ls) e ≡ [] → IsClearEnd a ls e
  of_end a ls Open k = tt
  of_end a ls (At d t) k = let q = part (guilt a ls) t k in clear a ls t q.0 q.1

-- an expression without faults is clear
pub faultless : (a : Around) (ls : List Local) (t : Tree) → in_tree (guilt a ls) t ≡ [] → IsClear a ls t
faultless a ls t h = let q = part (guilt a ls) t h in clear a ls t q.0 q.1
