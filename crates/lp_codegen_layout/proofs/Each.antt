-- What holds of each part of an expression: three facts of each part make a fourth; no fault in it is no fault of any part.
use Rattle.std.proofs.Common.{◌≡◌, ℕ, List, [], ◌∷◌, ◌++◌, refl}
use Rattle.lp_tree.specs.declared.fault.FaultKind.{FaultKind}
use Rattle.lp_tree.specs.Trees.{Tree, Int, Text, Name, Paren, Array, Mapping, Call, EfunCall, ParentCall, NamedParentCall, Catch, Sscanf, Index, Range, CallOther, PostStep, PreStep, Unary, Cast, Binary, AndThen, OrElse, Cond, Assign, Sequence, Trees, NoTree, OneMore, Pairs, NoPair, OnePair, End, Open, At, line_of}
use Rattle.lp_types_expr.specs.Walk.{Guilt, all_at, at_first, at_first_of, behind_first, behind_first_of, in_tree, in_trees, in_pairs, in_end}
use Rattle.lp_codegen_layout.specs.Each.{Each, EachOf, EachOfPairs, EachOfEnd}

mutual
  pub each3 : (P Q R S : Tree → Type 0) → ((u : Tree) → P u → Q u → R u → S u) → (t : Tree) → Each P t → Each Q t → Each R t → Each S t
  each3 P Q R S f (Int line n) hp hq hr = f (Int line n) hp hq hr
  each3 P Q R S f (Text line w) hp hq hr = f (Text line w) hp hq hr
  each3 P Q R S f (Name line w) hp hq hr = f (Name line w) hp hq hr
  each3 P Q R S f (Paren line t) hp hq hr = (f (Paren line t) hp.0 hq.0 hr.0, each3 P Q R S f t hp.1 hq.1 hr.1)
  each3 P Q R S f (Array line ts) hp hq hr = (f (Array line ts) hp.0 hq.0 hr.0, each3_of P Q R S f ts hp.1 hq.1 hr.1)
  each3 P Q R S f (Mapping line ps) hp hq hr = (f (Mapping line ps) hp.0 hq.0 hr.0, each3_pairs P Q R S f ps hp.1 hq.1 hr.1)
  each3 P Q R S f (Call line w ts) hp hq hr = (f (Call line w ts) hp.0 hq.0 hr.0, each3_of P Q R S f ts hp.1 hq.1 hr.1)
  each3 P Q R S f (EfunCall line w ts) hp hq hr = (f (EfunCall line w ts) hp.0 hq.0 hr.0, each3_of P Q R S f ts hp.1 hq.1 hr.1)
  each3 P Q R S f (ParentCall line w ts) hp hq hr = (f (ParentCall line w ts) hp.0 hq.0 hr.0, each3_of P Q R S f ts hp.1 hq.1 hr.1)
  each3 P Q R S f (NamedParentCall line p w ts) hp hq hr = (f (NamedParentCall line p w ts) hp.0 hq.0 hr.0, each3_of P Q R S f ts hp.1 hq.1 hr.1)
  each3 P Q R S f (Catch line t) hp hq hr = (f (Catch line t) hp.0 hq.0 hr.0, each3 P Q R S f t hp.1 hq.1 hr.1)
  each3 P Q R S f (Sscanf line t m ps) hp hq hr = (f (Sscanf line t m ps) hp.0 hq.0 hr.0, each3 P Q R S f t hp.1 hq.1 hr.1, each3 P Q R S f m hp.2 hq.2 hr.2, each3_of P Q R S f ps hp.3 hq.3 hr.3)
  each3 P Q R S f (Index line t e i) hp hq hr = (f (Index line t e i) hp.0 hq.0 hr.0, each3 P Q R S f t hp.1 hq.1 hr.1, each3 P Q R S f i hp.2 hq.2 hr.2)
  each3 P Q R S f (Range line t a b) hp hq hr = (f (Range line t a b) hp.0 hq.0 hr.0, each3 P Q R S f t hp.1 hq.1 hr.1, each3_end P Q R S f a hp.2 hq.2 hr.2, each3_end P Q R S f b hp.3 hq.3 hr.3)
  each3 P Q R S f (CallOther line t w ts) hp hq hr = (f (CallOther line t w ts) hp.0 hq.0 hr.0, each3 P Q R S f t hp.1 hq.1 hr.1, each3_of P Q R S f ts hp.2 hq.2 hr.2)
  each3 P Q R S f (PostStep line s t) hp hq hr = (f (PostStep line s t) hp.0 hq.0 hr.0, each3 P Q R S f t hp.1 hq.1 hr.1)
  each3 P Q R S f (PreStep line s t) hp hq hr = (f (PreStep line s t) hp.0 hq.0 hr.0, each3 P Q R S f t hp.1 hq.1 hr.1)
  each3 P Q R S f (Unary line op t) hp hq hr = (f (Unary line op t) hp.0 hq.0 hr.0, each3 P Q R S f t hp.1 hq.1 hr.1)
  each3 P Q R S f (Cast line ty t) hp hq hr = (f (Cast line ty t) hp.0 hq.0 hr.0, each3 P Q R S f t hp.1 hq.1 hr.1)
  each3 P Q R S f (Binary line op l r) hp hq hr = (f (Binary line op l r) hp.0 hq.0 hr.0, each3 P Q R S f l hp.1 hq.1 hr.1, each3 P Q R S f r hp.2 hq.2 hr.2)
  each3 P Q R S f (AndThen line l r) hp hq hr = (f (AndThen line l r) hp.0 hq.0 hr.0, each3 P Q R S f l hp.1 hq.1 hr.1, each3 P Q R S f r hp.2 hq.2 hr.2)
  each3 P Q R S f (OrElse line l r) hp hq hr = (f (OrElse line l r) hp.0 hq.0 hr.0, each3 P Q R S f l hp.1 hq.1 hr.1, each3 P Q R S f r hp.2 hq.2 hr.2)
  each3 P Q R S f (Cond line t y n) hp hq hr = (f (Cond line t y n) hp.0 hq.0 hr.0, each3 P Q R S f t hp.1 hq.1 hr.1, each3 P Q R S f y hp.2 hq.2 hr.2, each3 P Q R S f n hp.3 hq.3 hr.3)
  each3 P Q R S f (Assign line op p v) hp hq hr = (f (Assign line op p v) hp.0 hq.0 hr.0, each3 P Q R S f p hp.1 hq.1 hr.1, each3 P Q R S f v hp.2 hq.2 hr.2)
  each3 P Q R S f (Sequence line ts) hp hq hr = (f (Sequence line ts) hp.0 hq.0 hr.0, each3_of P Q R S f ts hp.1 hq.1 hr.1)

  each3_of : (P Q R S : Tree → Type 0) → ((u : Tree) → P u → Q u → R u → S u) → (ts : Trees) → EachOf P ts → EachOf Q ts → EachOf R ts → EachOf S ts
  each3_of P Q R S f NoTree x y z = tt
  each3_of P Q R S f (OneMore t ts) x y z = (each3 P Q R S f t x.0 y.0 z.0, each3_of P Q R S f ts x.1 y.1 z.1)

  each3_pairs : (P Q R S : Tree → Type 0) → ((u : Tree) → P u → Q u → R u → S u) → (ps : Pairs) → EachOfPairs P ps → EachOfPairs Q ps → EachOfPairs R ps → EachOfPairs S ps
  each3_pairs P Q R S f NoPair x y z = tt
  each3_pairs P Q R S f (OnePair k v ps) x y z = (each3 P Q R S f k x.0 y.0 z.0, each3 P Q R S f v x.1 y.1 z.1, each3_pairs P Q R S f ps x.2 y.2 z.2)

  each3_end : (P Q R S : Tree → Type 0) → ((u : Tree) → P u → Q u → R u → S u) → (e : End) → EachOfEnd P e → EachOfEnd Q e → EachOfEnd R e → EachOfEnd S e
  each3_end P Q R S f Open x y z = tt
  each3_end P Q R S f (At d t) x y z = each3 P Q R S f t x y z

-- both of two lists are empty where all is
none_left : {A : Type 0} (xs ys : List A) → xs ++ ys ≡ [] → xs ≡ []
none_left [] ys e = refl
none_left (x ∷ xs) ys e = absurd cc

none_right : {A : Type 0} (xs ys : List A) → xs ++ ys ≡ [] → ys ≡ []
none_right [] ys e = e
none_right (x ∷ xs) ys e = absurd cc

none_told : (line : ℕ) (ks : List FaultKind) → all_at line ks ≡ [] → ks ≡ []
none_told line [] e = refl
none_told line (k ∷ ks) e = absurd cc

-- a part is guilty of nothing
abbrev pub Innocent : Guilt → Tree → Type 0
Innocent f u = f u ≡ []

mutual
  free : (f : Guilt) (t : Tree) → at_first f t ≡ [] → behind_first f t ≡ [] → Each (Innocent f) t
  free f (Int line n) h g = h
  free f (Text line w) h g = h
  free f (Name line w) h g = h
  free f (Paren line t) h g = (h, free f t (none_told (line_of t) (at_first f t) (none_left (all_at (line_of t) (at_first f t)) (behind_first f t) g)) (none_right (all_at (line_of t) (at_first f t)) (behind_first f t) g))
  free f (Array line ts) h g = (h, free_all f ts g)
  free f (Mapping line ps) h g = (h, free_pairs f ps g)
  free f (Call line w ts) h g = (h, free_all f ts g)
  free f (EfunCall line w ts) h g = (h, free_all f ts g)
  free f (ParentCall line w ts) h g = (h, free_all f ts g)
  free f (NamedParentCall line p w ts) h g = (h, free_all f ts g)
  free f (Catch line t) h g = (h, free f t (none_told (line_of t) (at_first f t) (none_left (all_at (line_of t) (at_first f t)) (behind_first f t) g)) (none_right (all_at (line_of t) (at_first f t)) (behind_first f t) g))
  free f (Sscanf line t m ps) h g = (h, free f t (none_told (line_of t) (at_first f t) (none_left (all_at (line_of t) (at_first f t)) (behind_first f t) (none_left ((all_at (line_of t) (at_first f t)) ++ (behind_first f t)) (all_at (line_of m) (at_first f m)) (none_left ((all_at (line_of t) (at_first f t)) ++ (behind_first f t) ++ (all_at (line_of m) (at_first f m))) (behind_first f m) (none_left ((all_at (line_of t) (at_first f t)) ++ (behind_first f t) ++ (all_at (line_of m) (at_first f m)) ++ (behind_first f m)) (in_trees f ps) g))))) (none_right (all_at (line_of t) (at_first f t)) (behind_first f t) (none_left ((all_at (line_of t) (at_first f t)) ++ (behind_first f t)) (all_at (line_of m) (at_first f m)) (none_left ((all_at (line_of t) (at_first f t)) ++ (behind_first f t) ++ (all_at (line_of m) (at_first f m))) (behind_first f m) (none_left ((all_at (line_of t) (at_first f t)) ++ (behind_first f t) ++ (all_at (line_of m) (at_first f m)) ++ (behind_first f m)) (in_trees f ps) g)))), free f m (none_told (line_of m) (at_first f m) (none_right ((all_at (line_of t) (at_first f t)) ++ (behind_first f t)) (all_at (line_of m) (at_first f m)) (none_left ((all_at (line_of t) (at_first f t)) ++ (behind_first f t) ++ (all_at (line_of m) (at_first f m))) (behind_first f m) (none_left ((all_at (line_of t) (at_first f t)) ++ (behind_first f t) ++ (all_at (line_of m) (at_first f m)) ++ (behind_first f m)) (in_trees f ps) g)))) (none_right ((all_at (line_of t) (at_first f t)) ++ (behind_first f t) ++ (all_at (line_of m) (at_first f m))) (behind_first f m) (none_left ((all_at (line_of t) (at_first f t)) ++ (behind_first f t) ++ (all_at (line_of m) (at_first f m)) ++ (behind_first f m)) (in_trees f ps) g)), free_all f ps (none_right ((all_at (line_of t) (at_first f t)) ++ (behind_first f t) ++ (all_at (line_of m) (at_first f m)) ++ (behind_first f m)) (in_trees f ps) g))
  free f (Index line t e i) h g = (none_right (at_first f t) (f (Index line t e i)) h, free f t (none_left (at_first f t) (f (Index line t e i)) h) (none_left (behind_first f t) (all_at (line_of i) (at_first f i)) (none_left ((behind_first f t) ++ (all_at (line_of i) (at_first f i))) (behind_first f i) g)), free f i (none_told (line_of i) (at_first f i) (none_right (behind_first f t) (all_at (line_of i) (at_first f i)) (none_left ((behind_first f t) ++ (all_at (line_of i) (at_first f i))) (behind_first f i) g))) (none_right ((behind_first f t) ++ (all_at (line_of i) (at_first f i))) (behind_first f i) g))
  free f (Range line t a b) h g = (none_right (at_first f t) (f (Range line t a b)) h, free f t (none_left (at_first f t) (f (Range line t a b)) h) (none_left (behind_first f t) (in_end f a) (none_left ((behind_first f t) ++ (in_end f a)) (in_end f b) g)), free_end f a (none_right (behind_first f t) (in_end f a) (none_left ((behind_first f t) ++ (in_end f a)) (in_end f b) g)), free_end f b (none_right ((behind_first f t) ++ (in_end f a)) (in_end f b) g))
  free f (CallOther line t w ts) h g = (none_right (at_first f t) (f (CallOther line t w ts)) h, free f t (none_left (at_first f t) (f (CallOther line t w ts)) h) (none_left (behind_first f t) (in_trees f ts) g), free_all f ts (none_right (behind_first f t) (in_trees f ts) g))
  free f (PostStep line s t) h g = (none_right (at_first f t) (f (PostStep line s t)) h, free f t (none_left (at_first f t) (f (PostStep line s t)) h) g)
  free f (PreStep line s t) h g = (h, free f t (none_told (line_of t) (at_first f t) (none_left (all_at (line_of t) (at_first f t)) (behind_first f t) g)) (none_right (all_at (line_of t) (at_first f t)) (behind_first f t) g))
  free f (Unary line op t) h g = (h, free f t (none_told (line_of t) (at_first f t) (none_left (all_at (line_of t) (at_first f t)) (behind_first f t) g)) (none_right (all_at (line_of t) (at_first f t)) (behind_first f t) g))
  free f (Cast line ty t) h g = (h, free f t (none_told (line_of t) (at_first f t) (none_left (all_at (line_of t) (at_first f t)) (behind_first f t) g)) (none_right (all_at (line_of t) (at_first f t)) (behind_first f t) g))
  free f (Binary line op l r) h g = (none_right (at_first f l) (f (Binary line op l r)) h, free f l (none_left (at_first f l) (f (Binary line op l r)) h) (none_left (behind_first f l) (all_at (line_of r) (at_first f r)) (none_left ((behind_first f l) ++ (all_at (line_of r) (at_first f r))) (behind_first f r) g)), free f r (none_told (line_of r) (at_first f r) (none_right (behind_first f l) (all_at (line_of r) (at_first f r)) (none_left ((behind_first f l) ++ (all_at (line_of r) (at_first f r))) (behind_first f r) g))) (none_right ((behind_first f l) ++ (all_at (line_of r) (at_first f r))) (behind_first f r) g))
  free f (AndThen line l r) h g = (none_right (at_first f l) (f (AndThen line l r)) h, free f l (none_left (at_first f l) (f (AndThen line l r)) h) (none_left (behind_first f l) (all_at (line_of r) (at_first f r)) (none_left ((behind_first f l) ++ (all_at (line_of r) (at_first f r))) (behind_first f r) g)), free f r (none_told (line_of r) (at_first f r) (none_right (behind_first f l) (all_at (line_of r) (at_first f r)) (none_left ((behind_first f l) ++ (all_at (line_of r) (at_first f r))) (behind_first f r) g))) (none_right ((behind_first f l) ++ (all_at (line_of r) (at_first f r))) (behind_first f r) g))
  free f (OrElse line l r) h g = (none_right (at_first f l) (f (OrElse line l r)) h, free f l (none_left (at_first f l) (f (OrElse line l r)) h) (none_left (behind_first f l) (all_at (line_of r) (at_first f r)) (none_left ((behind_first f l) ++ (all_at (line_of r) (at_first f r))) (behind_first f r) g)), free f r (none_told (line_of r) (at_first f r) (none_right (behind_first f l) (all_at (line_of r) (at_first f r)) (none_left ((behind_first f l) ++ (all_at (line_of r) (at_first f r))) (behind_first f r) g))) (none_right ((behind_first f l) ++ (all_at (line_of r) (at_first f r))) (behind_first f r) g))
  free f (Cond line t y n) h g = (none_right (at_first f t) (f (Cond line t y n)) h, free f t (none_left (at_first f t) (f (Cond line t y n)) h) (none_left (behind_first f t) (all_at (line_of y) (at_first f y)) (none_left ((behind_first f t) ++ (all_at (line_of y) (at_first f y))) (behind_first f y) (none_left ((behind_first f t) ++ (all_at (line_of y) (at_first f y)) ++ (behind_first f y)) (all_at (line_of n) (at_first f n)) (none_left ((behind_first f t) ++ (all_at (line_of y) (at_first f y)) ++ (behind_first f y) ++ (all_at (line_of n) (at_first f n))) (behind_first f n) g)))), free f y (none_told (line_of y) (at_first f y) (none_right (behind_first f t) (all_at (line_of y) (at_first f y)) (none_left ((behind_first f t) ++ (all_at (line_of y) (at_first f y))) (behind_first f y) (none_left ((behind_first f t) ++ (all_at (line_of y) (at_first f y)) ++ (behind_first f y)) (all_at (line_of n) (at_first f n)) (none_left ((behind_first f t) ++ (all_at (line_of y) (at_first f y)) ++ (behind_first f y) ++ (all_at (line_of n) (at_first f n))) (behind_first f n) g))))) (none_right ((behind_first f t) ++ (all_at (line_of y) (at_first f y))) (behind_first f y) (none_left ((behind_first f t) ++ (all_at (line_of y) (at_first f y)) ++ (behind_first f y)) (all_at (line_of n) (at_first f n)) (none_left ((behind_first f t) ++ (all_at (line_of y) (at_first f y)) ++ (behind_first f y) ++ (all_at (line_of n) (at_first f n))) (behind_first f n) g))), free f n (none_told (line_of n) (at_first f n) (none_right ((behind_first f t) ++ (all_at (line_of y) (at_first f y)) ++ (behind_first f y)) (all_at (line_of n) (at_first f n)) (none_left ((behind_first f t) ++ (all_at (line_of y) (at_first f y)) ++ (behind_first f y) ++ (all_at (line_of n) (at_first f n))) (behind_first f n) g))) (none_right ((behind_first f t) ++ (all_at (line_of y) (at_first f y)) ++ (behind_first f y) ++ (all_at (line_of n) (at_first f n))) (behind_first f n) g))
  free f (Assign line op p v) h g = (none_right (at_first f p) (f (Assign line op p v)) h, free f p (none_left (at_first f p) (f (Assign line op p v)) h) (none_left (behind_first f p) (all_at (line_of v) (at_first f v)) (none_left ((behind_first f p) ++ (all_at (line_of v) (at_first f v))) (behind_first f v) g)), free f v (none_told (line_of v) (at_first f v) (none_right (behind_first f p) (all_at (line_of v) (at_first f v)) (none_left ((behind_first f p) ++ (all_at (line_of v) (at_first f v))) (behind_first f v) g))) (none_right ((behind_first f p) ++ (all_at (line_of v) (at_first f v))) (behind_first f v) g))
  free f (Sequence line ts) h g = (none_right (at_first_of f ts) (f (Sequence line ts)) h, free_parts f ts (none_left (at_first_of f ts) (f (Sequence line ts)) h) g)

  free_parts : (f : Guilt) (ts : Trees) → at_first_of f ts ≡ [] → behind_first_of f ts ≡ [] → EachOf (Innocent f) ts
  free_parts f NoTree h g = tt
  free_parts f (OneMore t ts) h g = (free f t h (none_left (behind_first f t) (in_trees f ts) g), free_all f ts (none_right (behind_first f t) (in_trees f ts) g))

  free_all : (f : Guilt) (ts : Trees) → in_trees f ts ≡ [] → EachOf (Innocent f) ts
  free_all f NoTree g = tt
  free_all f (OneMore t ts) g = (free f t (none_told (line_of t) (at_first f t) (none_left (all_at (line_of t) (at_first f t)) (behind_first f t) (none_left ((all_at (line_of t) (at_first f t)) ++ (behind_first f t)) (in_trees f ts) g))) (none_right (all_at (line_of t) (at_first f t)) (behind_first f t) (none_left ((all_at (line_of t) (at_first f t)) ++ (behind_first f t)) (in_trees f ts) g)), free_all f ts (none_right ((all_at (line_of t) (at_first f t)) ++ (behind_first f t)) (in_trees f ts) g))

  free_pairs : (f : Guilt) (ps : Pairs) → in_pairs f ps ≡ [] → EachOfPairs (Innocent f) ps
  free_pairs f NoPair g = tt
  free_pairs f (OnePair k v ps) g = (free f k (none_told (line_of k) (at_first f k) (none_left (all_at (line_of k) (at_first f k)) (behind_first f k) (none_left ((all_at (line_of k) (at_first f k)) ++ (behind_first f k)) (all_at (line_of v) (at_first f v)) (none_left ((all_at (line_of k) (at_first f k)) ++ (behind_first f k) ++ (all_at (line_of v) (at_first f v))) (behind_first f v) (none_left ((all_at (line_of k) (at_first f k)) ++ (behind_first f k) ++ (all_at (line_of v) (at_first f v)) ++ (behind_first f v)) (in_pairs f ps) g))))) (none_right (all_at (line_of k) (at_first f k)) (behind_first f k) (none_left ((all_at (line_of k) (at_first f k)) ++ (behind_first f k)) (all_at (line_of v) (at_first f v)) (none_left ((all_at (line_of k) (at_first f k)) ++ (behind_first f k) ++ (all_at (line_of v) (at_first f v))) (behind_first f v) (none_left ((all_at (line_of k) (at_first f k)) ++ (behind_first f k) ++ (all_at (line_of v) (at_first f v)) ++ (behind_first f v)) (in_pairs f ps) g)))), free f v (none_told (line_of v) (at_first f v) (none_right ((all_at (line_of k) (at_first f k)) ++ (behind_first f k)) (all_at (line_of v) (at_first f v)) (none_left ((all_at (line_of k) (at_first f k)) ++ (behind_first f k) ++ (all_at (line_of v) (at_first f v))) (behind_first f v) (none_left ((all_at (line_of k) (at_first f k)) ++ (behind_first f k) ++ (all_at (line_of v) (at_first f v)) ++ (behind_first f v)) (in_pairs f ps) g)))) (none_right ((all_at (line_of k) (at_first f k)) ++ (behind_first f k) ++ (all_at (line_of v) (at_first f v))) (behind_first f v) (none_left ((all_at (line_of k) (at_first f k)) ++ (behind_first f k) ++ (all_at (line_of v) (at_first f v)) ++ (behind_first f v)) (in_pairs f ps) g)), free_pairs f ps (none_right ((all_at (line_of k) (at_first f k)) ++ (behind_first f k) ++ (all_at (line_of v) (at_first f v)) ++ (behind_first f v)) (in_pairs f ps) g))

  free_end : (f : Guilt) (e : End) → in_end f e ≡ [] → EachOfEnd (Innocent f) e
  free_end f Open g = tt
  free_end f (At d t) g = free f t (none_told (line_of t) (at_first f t) (none_left (all_at (line_of t) (at_first f t)) (behind_first f t) g)) (none_right (all_at (line_of t) (at_first f t)) (behind_first f t) g)

-- no fault of an expression is no guilt of any part of it
pub innocent : (f : Guilt) (t : Tree) → in_tree f t ≡ [] → Each (Innocent f) t
innocent f t g = free f t (none_told (line_of t) (at_first f t) (none_left (all_at (line_of t) (at_first f t)) (behind_first f t) g)) (none_right (all_at (line_of t) (at_first f t)) (behind_first f t) g)
