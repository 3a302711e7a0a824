-- An expression without faults is clear.
use Rattle.std.proofs.Common.{◌≡◌, ◌≢◌, List, [], Bool, true, false, not, refl, ap}
use Rattle.std.specs.Prelude.{is_some}
use Rattle.lp_tree.specs.declared.fault.FaultKind.{FaultKind}
use Rattle.lp_tree.specs.declared.fault.FaultKind.TheVariants.{UnknownName}
use Rattle.lp_tree.specs.Trees.{Tree, Int, Text, Name, Paren, Array, Mapping, Call, EfunCall, ParentCall, NamedParentCall, Catch, Sscanf, Index, Range, CallOther, PostStep, PreStep, Unary, Cast, Binary, AndThen, OrElse, Cond, Assign, Sequence, Trees, NoTree, OneMore, Pairs, NoPair, OnePair, End, Open, At}
use Rattle.lp_types_expr.specs.declared.kind.ExprType.{ExprType}
use Rattle.lp_types_expr.specs.Known.{Around, is_strong, variable_kind, Callee, AFunction, ASimul, AnEfun, TwoParents, Nobody, callee, as_efun, as_function}
use Rattle.lp_types_expr.specs.declared.local.Local.{Local}
use Rattle.lp_types_expr.specs.Walk.{Guilt}
use Rattle.lp_types_expr.specs.ExprFaults.{when, call_kinds, guilt, types_of}
use Rattle.lp_language.specs.Scope.{Names}
use Rattle.lp_codegen_expr.specs.Names.{Plan}
use Rattle.lp_codegen_expr.specs.Clear.{IsClear, AreClear, ArePairsClear, ArePlaces, IsEndClear}
use Rattle.lp_codegen_layout.specs.Each.{Each, EachOf, EachOfPairs, EachOfEnd}
use Rattle.lp_codegen_layout.specs.Meant.{AreAllPlaces, IsFormed, IsFine, Knows, TellsAmbiguous, FaultlessIsClear}
use Rattle.lp_codegen_layout.proofs.Each.{Innocent, each3, innocent}

-- what is fine in each part is clear
mutual
  clear : (l : Plan) (ns : Names) (t : Tree) → Each (IsFine l ns) t → IsClear l ns t
  clear pl ns (Int line n) h = tt
  clear pl ns (Text line w) h = tt
  clear pl ns (Name line w) h = h
  clear pl ns (Paren line t) h = clear pl ns t h.1
  clear pl ns (Array line ts) h = clear_all pl ns ts h.1
  clear pl ns (Mapping line ps) h = clear_pairs pl ns ps h.1
  clear pl ns (Call line w ts) h = (clear_all pl ns ts h.1, h.0)
  clear pl ns (EfunCall line w ts) h = (clear_all pl ns ts h.1, h.0)
  clear pl ns (ParentCall line w ts) h = (clear_all pl ns ts h.1, h.0)
  clear pl ns (NamedParentCall line p w ts) h = (clear_all pl ns ts h.1, h.0)
  clear pl ns (Catch line t) h = clear pl ns t h.1
  clear pl ns (Sscanf line t m ps) h = (clear pl ns t h.1, clear pl ns m h.2, clear_places pl ns ps h.0 h.3)
  clear pl ns (Index line t e i) h = (clear pl ns t h.1, clear pl ns i h.2)
  clear pl ns (Range line t a b) h = (clear pl ns t h.1, clear_end pl ns a h.2, clear_end pl ns b h.3)
  clear pl ns (CallOther line t w ts) h = (clear pl ns t h.1, clear_all pl ns ts h.2)
  clear pl ns (PostStep line s t) h = (h.0, clear pl ns t h.1)
  clear pl ns (PreStep line s t) h = (h.0, clear pl ns t h.1)
  clear pl ns (Unary line op t) h = clear pl ns t h.1
  clear pl ns (Cast line ty t) h = clear pl ns t h.1
  clear pl ns (Binary line op l r) h = (clear pl ns l h.1, clear pl ns r h.2)
  clear pl ns (AndThen line l r) h = (clear pl ns l h.1, clear pl ns r h.2)
  clear pl ns (OrElse line l r) h = (clear pl ns l h.1, clear pl ns r h.2)
  clear pl ns (Cond line t y n) h = (clear pl ns t h.1, clear pl ns y h.2, clear pl ns n h.3)
  clear pl ns (Assign line op p v) h = (h.0, clear pl ns p h.1, clear pl ns v h.2)
  clear pl ns (Sequence line ts) h = (h.0, clear_all pl ns ts h.1)

  clear_all : (l : Plan) (ns : Names) (ts : Trees) → EachOf (IsFine l ns) ts → AreClear l ns ts
  clear_all l ns NoTree h = tt
  clear_all l ns (OneMore t ts) h = (clear l ns t h.0, clear_all l ns ts h.1)

  clear_pairs : (l : Plan) (ns : Names) (ps : Pairs) → EachOfPairs (IsFine l ns) ps → ArePairsClear l ns ps
  clear_pairs l ns NoPair h = tt
  clear_pairs l ns (OnePair k v ps) h = (clear l ns k h.0, clear l ns v h.1, clear_pairs l ns ps h.2)

  clear_places : (l : Plan) (ns : Names) (ts : Trees) → AreAllPlaces ts → EachOf (IsFine l ns) ts → ArePlaces l ns ts
  clear_places l ns NoTree g h = tt
  clear_places l ns (OneMore t ts) g h = (g.0, clear l ns t h.0, clear_places l ns ts g.1 h.1)

  clear_end : (l : Plan) (ns : Names) (e : End) → EachOfEnd (IsFine l ns) e → IsEndClear l ns e
  clear_end l ns Open h = tt
  clear_end l ns (At d t) h = clear l ns t h

-- a part that is guilty of nothing is fine
known : (b : Bool) (k : FaultKind) → when (not b) k ≡ [] → b ≡ true
known true k e = refl
known false k e = absurd cc

somebody : (strong : Bool) (x : Callee) (ts : List ExprType) → call_kinds strong x ts ≡ [] → x ≢ Nobody
somebody strong Nobody ts e = absurd cc
somebody strong ASimul ts e = λ q. absurd cc
somebody strong TwoParents ts e = λ q. absurd cc
somebody strong (AnEfun f) ts e = λ q. absurd cc
somebody strong (AFunction sig) ts e = λ q. absurd cc

fine : (l : Plan) (ns : Names) (a : Around) (ls : List Local) (f : Guilt) → Knows l ns a ls → TellsAmbiguous f a.parents → (u : Tree) → IsFormed u → Innocent (guilt a ls) u → Innocent f u → IsFine l ns u
fine pl ns ar ls f kn ta (Int line n) h g q = tt
fine pl ns ar ls f kn ta (Text line w) h g q = tt
fine pl ns ar ls f kn ta (Name line w) h g q = kn.variables w (known (is_some (variable_kind ar ls w)) UnknownName g)
fine pl ns ar ls f kn ta (Paren line t) h g q = tt
fine pl ns ar ls f kn ta (Array line ts) h g q = tt
fine pl ns ar ls f kn ta (Mapping line ps) h g q = tt
fine pl ns ar ls f kn ta (Call line w ts) h g q = kn.functions w (somebody (is_strong ar.mode) (callee ar (Call line w ts)) (types_of ar ls ts) g)
fine pl ns ar ls f kn ta (EfunCall line w ts) h g q = λ e. somebody (is_strong ar.mode) (callee ar (EfunCall line w ts)) (types_of ar ls ts) g (ap as_efun e)
fine pl ns ar ls f kn ta (ParentCall line w ts) h g q = kn.inherited w (λ e. somebody (is_strong ar.mode) (callee ar (ParentCall line w ts)) (types_of ar ls ts) g (ap (λ o. as_function o Nobody) e))
fine pl ns ar ls f kn ta (NamedParentCall line p w ts) h g q = kn.named p w (ta line p w ts q) (somebody (is_strong ar.mode) (callee ar (NamedParentCall line p w ts)) (types_of ar ls ts) g)
fine pl ns ar ls f kn ta (Catch line t) h g q = tt
fine pl ns ar ls f kn ta (Sscanf line t x ps) h g q = h
fine pl ns ar ls f kn ta (Index line t e i) h g q = tt
fine pl ns ar ls f kn ta (Range line t x y) h g q = tt
fine pl ns ar ls f kn ta (CallOther line t w ts) h g q = tt
fine pl ns ar ls f kn ta (PostStep line s t) h g q = h
fine pl ns ar ls f kn ta (PreStep line s t) h g q = h
fine pl ns ar ls f kn ta (Unary line op t) h g q = tt
fine pl ns ar ls f kn ta (Cast line ty t) h g q = tt
fine pl ns ar ls f kn ta (Binary line op l r) h g q = tt
fine pl ns ar ls f kn ta (AndThen line l r) h g q = tt
fine pl ns ar ls f kn ta (OrElse line l r) h g q = tt
fine pl ns ar ls f kn ta (Cond line t y n) h g q = tt
fine pl ns ar ls f kn ta (Assign line op p v) h g q = h
fine pl ns ar ls f kn ta (Sequence line ts) h g q = h

pub faultless : FaultlessIsClear
faultless l ns a ls f t k m h g q = clear l ns t (each3 IsFormed (Innocent (guilt a ls)) (Innocent f) (IsFine l ns) (fine l ns a ls f k m) t h (innocent (guilt a ls) t g) (innocent f t q))
