-- An expression with a meaning is clear.
use Rattle.std.proofs.Common.{◌≡◌, ◌≢◌, ℕ, List, [], ◌++◌, Bool, true, false, IsTrue, refl, ap}
use Rattle.lp_tree.specs.declared.fault.FaultKind.{FaultKind}
use Rattle.lp_tree.specs.declared.fault.FaultKind.TheVariants.{AmbiguousSuper}
use Rattle.lp_tree.specs.Trees.{Tree, Int, Text, Name, Paren, Array, Mapping, Call, EfunCall, ParentCall, NamedParentCall, Catch, Sscanf, Index, Range, CallOther, PostStep, PreStep, Unary, Cast, Binary, AndThen, OrElse, Cond, Assign, Sequence, Trees, NoTree, OneMore, Pairs, NoPair, OnePair, End, Open, At}
use Rattle.lp_code.specs.declared.tables.Tables.{Tables}
use Rattle.lp_types_expr.specs.Clear.{IsCalled, IsClear as IsMeant, AreClear as AreMeant, AreClearPairs as ArePairsMeant, IsClearEnd as IsEndMeant}
use Rattle.lp_types_expr.specs.ExprFaults.{types_of, when}
use Rattle.lp_types_expr.specs.Known.{Around, Callee, AFunction, ASimul, AnEfun, TwoParents, Nobody, callee, as_efun, as_function}
use Rattle.lp_types_expr.specs.Meant.{HasPlaces, HavePlaces, ArePlaces as HaveBeenPlaces, HavePlacesPairs, HasPlacesEnd, has_first}
use Rattle.lp_types_expr.specs.declared.local.Local.{Local}
use Rattle.lp_types_expr.specs.Walk.{Guilt}
use Rattle.lp_language.specs.Scope.{Names}
use Rattle.lp_codegen_expr.specs.Names.{Plan}
use Rattle.lp_codegen_expr.specs.Clear.{IsClear, AreClear, ArePairsClear, ArePlaces, IsEndClear}
use Rattle.lp_codegen_layout.specs.Each.{Each, EachOf, EachOfPairs, EachOfEnd}
use Rattle.lp_codegen_layout.specs.Meant.{Knows, TellsAmbiguous, is_ambiguous}
use Rattle.lp_codegen_layout.proofs.Each.{Innocent}
use Rattle.lp_layout.specs.LayoutFaults.{Limits, call_guilt, count, too_many}
use Rattle.std.specs.Prelude.{length}

somebody : (c : Callee) (n : ℕ) → IsCalled c n → c ≢ Nobody
somebody Nobody n h = absurd h
somebody ASimul n h = λ q. absurd cc
somebody TwoParents n h = λ q. absurd cc
somebody (AnEfun e) n h = λ q. absurd cc
somebody (AFunction sig) n h = λ q. absurd cc

some_tree : (ts : Trees) → IsTrue (has_first ts) → ts ≢ NoTree
some_tree NoTree h = absurd cc
some_tree (OneMore t ts) h = λ q. absurd cc

mutual
  pub meant : (l : Plan) (ns : Names) (a : Around) (ls : List Local) (f : Guilt) → Knows l ns a ls → TellsAmbiguous f a.parents → (t : Tree) → IsMeant a ls t → HasPlaces t → Each (Innocent f) t → IsClear l ns t
  meant l ns a ls f kn ta (Int line n) h p q = tt
  meant l ns a ls f kn ta (Text line w) h p q = tt
  meant l ns a ls f kn ta (Name line w) h p q = kn.variables w h
  meant l ns a ls f kn ta (Paren line t) h p q = meant l ns a ls f kn ta t h p q.1
  meant l ns a ls f kn ta (Array line ts) h p q = all_meant l ns a ls f kn ta ts h p q.1
  meant l ns a ls f kn ta (Mapping line ps) h p q = pairs_meant l ns a ls f kn ta ps h p q.1
  meant l ns a ls f kn ta (Call line w ts) h p q = (all_meant l ns a ls f kn ta ts h.1 p q.1, kn.functions w (somebody (callee a (Call line w ts)) (length (types_of a ls ts)) h.0))
  meant l ns a ls f kn ta (EfunCall line w ts) h p q = (all_meant l ns a ls f kn ta ts h.1 p q.1, λ e. somebody (callee a (EfunCall line w ts)) (length (types_of a ls ts)) h.0 (ap as_efun e))
  meant l ns a ls f kn ta (ParentCall line w ts) h p q =
      (all_meant l ns a ls f kn ta ts h.1 p q.1, kn.inherited w (λ e. somebody (callee a (ParentCall line w ts)) (length (types_of a ls ts)) h.0 (ap (λ o. as_function o Nobody) e)))
  meant l ns a ls f kn ta (NamedParentCall line v w ts) h p q =
      (all_meant l ns a ls f kn ta ts h.1 p q.1, kn.named v w (ta line v w ts q.0) (somebody (callee a (NamedParentCall line v w ts)) (length (types_of a ls ts)) h.0))
  meant l ns a ls f kn ta (Catch line t) h p q = meant l ns a ls f kn ta t h p q.1
  meant l ns a ls f kn ta (Sscanf line t m ps) h p q =
      (meant l ns a ls f kn ta t h.0 p.0 q.1, meant l ns a ls f kn ta m h.1.0 p.1.0 q.2, places_meant l ns a ls f kn ta ps h.1.1 p.1.1 q.3)
  meant l ns a ls f kn ta (Index line t e i) h p q = (meant l ns a ls f kn ta t h.0 p.0 q.1, meant l ns a ls f kn ta i h.1 p.1 q.2)
  meant l ns a ls f kn ta (Range line t x y) h p q = (meant l ns a ls f kn ta t h.0 p.0 q.1, end_meant l ns a ls f kn ta x h.1.0 p.1.0 q.2, end_meant l ns a ls f kn ta y h.1.1 p.1.1 q.3)
  meant l ns a ls f kn ta (CallOther line t w ts) h p q = (meant l ns a ls f kn ta t h.0 p.0 q.1, all_meant l ns a ls f kn ta ts h.1 p.1 q.2)
  meant l ns a ls f kn ta (PostStep line s t) h p q = (p.0, meant l ns a ls f kn ta t h p.1 q.1)
  meant l ns a ls f kn ta (PreStep line s t) h p q = (p.0, meant l ns a ls f kn ta t h p.1 q.1)
  meant l ns a ls f kn ta (Unary line op t) h p q = meant l ns a ls f kn ta t h p q.1
  meant l ns a ls f kn ta (Cast line ty t) h p q = meant l ns a ls f kn ta t h p q.1
  meant l ns a ls f kn ta (Binary line op x y) h p q = (meant l ns a ls f kn ta x h.0 p.0 q.1, meant l ns a ls f kn ta y h.1 p.1 q.2)
  meant l ns a ls f kn ta (AndThen line x y) h p q = (meant l ns a ls f kn ta x h.0 p.0 q.1, meant l ns a ls f kn ta y h.1 p.1 q.2)
  meant l ns a ls f kn ta (OrElse line x y) h p q = (meant l ns a ls f kn ta x h.0 p.0 q.1, meant l ns a ls f kn ta y h.1 p.1 q.2)
  meant l ns a ls f kn ta (Cond line t x y) h p q = (meant l ns a ls f kn ta t h.0 p.0 q.1, meant l ns a ls f kn ta x h.1.0 p.1.0 q.2, meant l ns a ls f kn ta y h.1.1 p.1.1 q.3)
  meant l ns a ls f kn ta (Assign line op x v) h p q = (p.0, meant l ns a ls f kn ta x h.0 p.1.0 q.1, meant l ns a ls f kn ta v h.1 p.1.1 q.2)
  meant l ns a ls f kn ta (Sequence line ts) h p q = (some_tree ts p.0, all_meant l ns a ls f kn ta ts h p.1 q.1)

  all_meant : (l : Plan) (ns : Names) (a : Around) (ls : List Local) (f : Guilt) → Knows l ns a ls → TellsAmbiguous f a.parents → (ts : Trees) → AreMeant a ls ts → HavePlaces ts → EachOf (Innocent f) ts → AreClear l ns ts
  all_meant l ns a ls f kn ta NoTree h p q = tt
  all_meant l ns a ls f kn ta (OneMore t ts) h p q = (meant l ns a ls f kn ta t h.0 p.0 q.0, all_meant l ns a ls f kn ta ts h.1 p.1 q.1)

  places_meant : (l : Plan) (ns : Names) (a : Around) (ls : List Local) (f : Guilt) → Knows l ns a ls → TellsAmbiguous f a.parents → (ts : Trees) → AreMeant a ls ts → HaveBeenPlaces ts → EachOf (Innocent f) ts → ArePlaces l ns ts
  places_meant l ns a ls f kn ta NoTree h p q = tt
  places_meant l ns a ls f kn ta (OneMore t ts) h p q = (p.0, meant l ns a ls f kn ta t h.0 p.1.0 q.0, places_meant l ns a ls f kn ta ts h.1 p.1.1 q.1)

  pairs_meant : (l : Plan) (ns : Names) (a : Around) (ls : List Local) (f : Guilt) → Knows l ns a ls → TellsAmbiguous f a.parents → (ps : Pairs) → ArePairsMeant a ls ps → HavePlacesPairs ps → EachOfPairs (Innocent f) ps → ArePairsClear l ns ps
  pairs_meant l ns a ls f kn ta NoPair h p q = tt
  pairs_meant l ns a ls f kn ta (OnePair k v ps) h p q = (meant l ns a ls f kn ta k h.0 p.0 q.0, meant l ns a ls f kn ta v h.1.0 p.1.0 q.1, pairs_meant l ns a ls f kn ta ps h.1.1 p.1.1 q.2)

  end_meant : (l : Plan) (ns : Names) (a : Around) (ls : List Local) (f : Guilt) → Knows l ns a ls → TellsAmbiguous f a.parents → (e : End) → IsEndMeant a ls e → HasPlacesEnd e → EachOfEnd (Innocent f) e → IsEndClear l ns e
  end_meant l ns a ls f kn ta Open h p q = tt
  end_meant l ns a ls f kn ta (At d t) h p q = meant l ns a ls f kn ta t h p q

-- the faults of a layout tell of each call that names a path which two parents have
told_not : (b : Bool) (ks : List FaultKind) → when b AmbiguousSuper ++ ks ≡ [] → b ≡ false
told_not true ks h = absurd cc
told_not false ks h = refl

pub tells_ambiguous : (m : Limits) (ts : List Tables) → TellsAmbiguous (call_guilt m ts) ts
tells_ambiguous m ts line p w args h = told_not (is_ambiguous ts p) (too_many m.arguments (count args)) h
