-- The faults of an expression are those of its parts, one after another.
use Rattle.std.proofs.Common.{◌≡◌, ℕ, refl, sym, ap, ◌∙◌, List, [], ◌∷◌, ◌++◌, append_assoc}
use Rattle.lp_tree.specs.declared.fault.FaultKind.{FaultKind}
use Rattle.lp_tree.specs.Trees.{Tree, Int, Text, Name, Paren, Array, Mapping, Call, EfunCall, ParentCall, NamedParentCall, Catch, Sscanf, Index, Range, CallOther, PostStep, PreStep, Unary, Cast, Binary, AndThen, OrElse, Cond, Assign, Sequence, Trees, NoTree, OneMore, Pairs, NoPair, OnePair, End, Open, At, line_of}
use Rattle.lp_types_expr.specs.Visits.{firsts, firsts_of, behinds, behinds_of, visits, visits_all, visits_pairs, visits_end, judged}
use Rattle.lp_types_expr.specs.Walk.{FaultAt, Guilt, all_at, at_first, at_first_of, behind_first, behind_first_of, in_tree, in_trees, in_pairs, in_end}
use Rattle.lp_types_expr.proofs.Joins.{all_at_both}

no_more : (xs : List FaultAt) → xs ++ [] ≡ xs
no_more [] = refl
no_more (x ∷ xs) = ap (λ z. x ∷ z) (no_more xs)

pub judged_both : (f : Guilt) (xs ys : List (ℕ × Tree)) → judged f (xs ++ ys) ≡ judged f xs ++ judged f ys
judged_both f [] ys = refl
judged_both f (x ∷ xs) ys = ap (λ z. all_at x.0 (f x.1) ++ z) (judged_both f xs ys) ∙ sym (append_assoc (all_at x.0 (f x.1)) (judged f xs) (judged f ys))

-- parts whose faults are known, one after another
both : (f : Guilt) (xs ys : List (ℕ × Tree)) (a b : List FaultAt) → judged f xs ≡ a → judged f ys ≡ b → judged f (xs ++ ys) ≡ a ++ b
both f xs ys a b h k = judged_both f xs ys ∙ ap (λ z. z ++ judged f ys) h ∙ ap (λ z. a ++ z) k

-- the same of three
more : (f : Guilt) (xs ys zs : List (ℕ × Tree)) (a b c : List FaultAt) → judged f xs ≡ a → judged f ys ≡ b → judged f zs ≡ c → judged f ((xs ++ ys) ++ zs) ≡ (a ++ b) ++ c
more f xs ys zs a b c h k l = both f (xs ++ ys) zs (a ++ b) c (both f xs ys a b h k) l

-- lists in other brackets
regrouped : (a b c d : List FaultAt) → a ++ ((b ++ c) ++ d) ≡ ((a ++ b) ++ c) ++ d
regrouped a b c d = sym (append_assoc a (b ++ c) d) ∙ ap (λ z. z ++ d) (sym (append_assoc a b c))

-- a part that begins at the same token as those before it
last : (f : Guilt) (n : ℕ) (t : Tree) (xs : List (ℕ × Tree)) (ks : List FaultKind) → judged f xs ≡ all_at n ks → judged f (xs ++ (n, t) ∷ []) ≡ all_at n (ks ++ f t)
last f n t xs ks h = both f xs ((n, t) ∷ []) (all_at n ks) (all_at n (f t)) h (no_more (all_at n (f t))) ∙ sym (all_at_both n ks (f t))

one : (f : Guilt) (n : ℕ) (t : Tree) → judged f ((n, t) ∷ []) ≡ all_at n (f t)
one f n t = no_more (all_at n (f t))

mutual
  pub heads : (f : Guilt) (n : ℕ) (t : Tree) → judged f (firsts n t) ≡ all_at n (at_first f t)
  heads f n (Int line v) = one f n (Int line v)
  heads f n (Text line w) = one f n (Text line w)
  heads f n (Name line w) = one f n (Name line w)
  heads f n (Paren line t) = one f n (Paren line t)
  heads f n (Array line ts) = one f n (Array line ts)
  heads f n (Mapping line ps) = one f n (Mapping line ps)
  heads f n (Call line w ts) = one f n (Call line w ts)
  heads f n (EfunCall line w ts) = one f n (EfunCall line w ts)
  heads f n (ParentCall line w ts) = one f n (ParentCall line w ts)
  heads f n (NamedParentCall line p w ts) = one f n (NamedParentCall line p w ts)
  heads f n (Catch line t) = one f n (Catch line t)
  heads f n (Sscanf line t m ps) = one f n (Sscanf line t m ps)
  heads f n (Index line t e i) = last f n (Index line t e i) (firsts n t) (at_first f t) (heads f n t)
  heads f n (Range line t a b) = last f n (Range line t a b) (firsts n t) (at_first f t) (heads f n t)
  heads f n (CallOther line t w ts) = last f n (CallOther line t w ts) (firsts n t) (at_first f t) (heads f n t)
  heads f n (PostStep line s t) = last f n (PostStep line s t) (firsts n t) (at_first f t) (heads f n t)
  heads f n (PreStep line s t) = one f n (PreStep line s t)
  heads f n (Unary line op t) = one f n (Unary line op t)
  heads f n (Cast line ty t) = one f n (Cast line ty t)
  heads f n (Binary line op l r) = last f n (Binary line op l r) (firsts n l) (at_first f l) (heads f n l)
  heads f n (AndThen line l r) = last f n (AndThen line l r) (firsts n l) (at_first f l) (heads f n l)
  heads f n (OrElse line l r) = last f n (OrElse line l r) (firsts n l) (at_first f l) (heads f n l)
  heads f n (Cond line t y m) = last f n (Cond line t y m) (firsts n t) (at_first f t) (heads f n t)
  heads f n (Assign line op p v) = last f n (Assign line op p v) (firsts n p) (at_first f p) (heads f n p)
  heads f n (Sequence line ts) = last f n (Sequence line ts) (firsts_of n ts) (at_first_of f ts) (heads_of f n ts)

  heads_of : (f : Guilt) (n : ℕ) (ts : Trees) → judged f (firsts_of n ts) ≡ all_at n (at_first_of f ts)
  heads_of f n NoTree = refl
  heads_of f n (OneMore t ts) = heads f n t

-- a part, whose faults behind its first token are known
part : (f : Guilt) (t : Tree) → judged f (behinds t) ≡ behind_first f t → judged f (visits t) ≡ in_tree f t
part f t h = both f (firsts (line_of t) t) (behinds t) (all_at (line_of t) (at_first f t)) (behind_first f t) (heads f (line_of t) t) h

-- a part behind others
behind : (f : Guilt) (xs : List (ℕ × Tree)) (a : List FaultAt) (t : Tree) → judged f xs ≡ a → judged f (behinds t) ≡ behind_first f t → judged f (xs ++ visits t) ≡ (a ++ all_at (line_of t) (at_first f t)) ++ behind_first f t
behind f xs a t h k = both f xs (visits t) a (in_tree f t) h (part f t k) ∙ sym (append_assoc a (all_at (line_of t) (at_first f t)) (behind_first f t))

-- a part behind others and before others
between : (f : Guilt) (xs zs : List (ℕ × Tree)) (a b : List FaultAt) (t : Tree) → judged f xs ≡ a → judged f (behinds t) ≡ behind_first f t → judged f zs ≡ b → judged f (xs ++ (visits t ++ zs)) ≡ ((a ++ all_at (line_of t) (at_first f t)) ++ behind_first f t) ++ b
between f xs zs a b t h k l = both f xs (visits t ++ zs) a (in_tree f t ++ b) h (both f (visits t) zs (in_tree f t) b (part f t k) l) ∙ regrouped a (all_at (line_of t) (at_first f t)) (behind_first f t) b

mutual
  pub tails : (f : Guilt) (t : Tree) → judged f (behinds t) ≡ behind_first f t
  tails f (Int line v) = refl
  tails f (Text line w) = refl
  tails f (Name line w) = refl
  tails f (Paren line t) = part f t (tails f t)
  tails f (Array line ts) = all f ts
  tails f (Mapping line ps) = all_pairs f ps
  tails f (Call line w ts) = all f ts
  tails f (EfunCall line w ts) = all f ts
  tails f (ParentCall line w ts) = all f ts
  tails f (NamedParentCall line p w ts) = all f ts
  tails f (Catch line t) = part f t (tails f t)
  tails f (Sscanf line t m ps) = between f (visits t) (visits_all ps) (in_tree f t) (in_trees f ps) m (part f t (tails f t)) (tails f m) (all f ps)
  tails f (Index line t e i) = behind f (behinds t) (behind_first f t) i (tails f t) (tails f i)
  tails f (Range line t a b) = both f (behinds t) (visits_end a ++ visits_end b) (behind_first f t) (in_end f a ++ in_end f b) (tails f t) (both f (visits_end a) (visits_end b) (in_end f a) (in_end f b) (of_end f a) (of_end f b)) ∙ sym (append_assoc (behind_first f t) (in_end f a) (in_end f b))
  tails f (CallOther line t w ts) = both f (behinds t) (visits_all ts) (behind_first f t) (in_trees f ts) (tails f t) (all f ts)
  tails f (PostStep line s t) = tails f t
  tails f (PreStep line s t) = part f t (tails f t)
  tails f (Unary line op t) = part f t (tails f t)
  tails f (Cast line ty t) = part f t (tails f t)
  tails f (Binary line op l r) = behind f (behinds l) (behind_first f l) r (tails f l) (tails f r)
  tails f (AndThen line l r) = behind f (behinds l) (behind_first f l) r (tails f l) (tails f r)
  tails f (OrElse line l r) = behind f (behinds l) (behind_first f l) r (tails f l) (tails f r)
  tails f (Cond line t y n) = between f (behinds t) (visits n) (behind_first f t) (in_tree f n) y (tails f t) (tails f y) (part f n (tails f n)) ∙ sym (append_assoc ((behind_first f t ++ all_at (line_of y) (at_first f y)) ++ behind_first f y) (all_at (line_of n) (at_first f n)) (behind_first f n))
  tails f (Assign line op p v) = behind f (behinds p) (behind_first f p) v (tails f p) (tails f v)
  tails f (Sequence line ts) = tails_of f ts

  tails_of : (f : Guilt) (ts : Trees) → judged f (behinds_of ts) ≡ behind_first_of f ts
  tails_of f NoTree = refl
  tails_of f (OneMore t ts) = both f (behinds t) (visits_all ts) (behind_first f t) (in_trees f ts) (tails f t) (all f ts)

  all : (f : Guilt) (ts : Trees) → judged f (visits_all ts) ≡ in_trees f ts
  all f NoTree = refl
  all f (OneMore t ts) = more f (firsts (line_of t) t) (behinds t) (visits_all ts) (all_at (line_of t) (at_first f t)) (behind_first f t) (in_trees f ts) (heads f (line_of t) t) (tails f t) (all f ts)

  all_pairs : (f : Guilt) (ps : Pairs) → judged f (visits_pairs ps) ≡ in_pairs f ps
  all_pairs f NoPair = refl
  all_pairs f (OnePair k v ps) = between f (visits k) (visits_pairs ps) (in_tree f k) (in_pairs f ps) v (part f k (tails f k)) (tails f v) (all_pairs f ps)

  of_end : (f : Guilt) (e : End) → judged f (visits_end e) ≡ in_end f e
  of_end f Open = refl
  of_end f (At d t) = part f t (tails f t)

-- the faults of an expression are those of its parts
pub whole : (f : Guilt) (t : Tree) → judged f (visits t) ≡ in_tree f t
whole f t = part f t (tails f t)
