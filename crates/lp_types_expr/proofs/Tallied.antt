-- What an expression and its parts are guilty of is the same in any order where it is of one kind: its number counts.
use Rattle.std.proofs.Common.{◌≡◌, ℕ, zero, suc, ◌+◌, refl, sym, ap, ◌∙◌, arith, List, [], ◌∷◌, ◌++◌, length, length-append, append_assoc}
use Rattle.lp_tree.specs.declared.fault.FaultKind.{FaultKind}
use Rattle.lp_tree.specs.Trees.{Tree, Int, Text, Name, Paren, Array, Mapping, Call, EfunCall, ParentCall, NamedParentCall, Catch, Sscanf, Index, Range, CallOther, PostStep, PreStep, Unary, Cast, Binary, AndThen, OrElse, Cond, Assign, Sequence, Trees, NoTree, OneMore, Pairs, NoPair, OnePair, End, Open, At, line_of}
use Rattle.lp_types_expr.specs.Visits.{firsts, firsts_of, behinds, behinds_of, visits, visits_all, visits_pairs, visits_end, listed}
use Rattle.lp_types_expr.specs.Walk.{Guilt, gathered, gathered_all, gathered_pairs, gathered_end}

-- so many of a kind
abbrev pub some : ℕ → FaultKind → List FaultKind
some zero k = []
some (suc n) k = k ∷ some n k

some_both : (m n : ℕ) (k : FaultKind) → some m k ++ some n k ≡ some (m + n) k
some_both zero n k = let e : n ≡ 0 + n = omega arith in ap (λ z. some z k) e
some_both (suc m) n k = let e : suc (m + n) ≡ suc m + n = omega arith in ap (λ z. k ∷ z) (some_both m n k) ∙ ap (λ z. some z k) e

listed_both : (f : Guilt) (xs ys : List (ℕ × Tree)) → listed f (xs ++ ys) ≡ listed f xs ++ listed f ys
listed_both f [] ys = refl
listed_both f (x ∷ xs) ys = ap (λ z. f x.1 ++ z) (listed_both f xs ys) ∙ sym (append_assoc (f x.1) (listed f xs) (listed f ys))

-- how much some parts are guilty of
tally : Guilt → List (ℕ × Tree) → ℕ
tally f xs = length (listed f xs)

tally_both : (f : Guilt) (xs ys : List (ℕ × Tree)) → tally f (xs ++ ys) ≡ tally f xs + tally f ys
unfolding tally
tally_both f xs ys = ap length (listed_both f xs ys) ∙ length-append (listed f xs) (listed f ys)

no_more : (xs : List FaultKind) → xs ++ [] ≡ xs
no_more [] = refl
no_more (x ∷ xs) = ap (λ z. x ∷ z) (no_more xs)

-- a part by itself
own : (f : Guilt) (k : FaultKind) → ((t : Tree) → f t ≡ some (length (f t)) k) → (n : ℕ) (t : Tree) → f t ≡ some (tally f ((n, t) ∷ [])) k
unfolding tally
own f k same n t = same t ∙ ap (λ z. some (length z) k) (sym (no_more (f t)))

nothing : (f : Guilt) (k : FaultKind) → [] ≡ some (tally f []) k
unfolding tally
nothing f k = refl

-- what is known of some parts and of those behind them
next : (f : Guilt) (k : FaultKind) (xs ys : List (ℕ × Tree)) (g h : List FaultKind) → g ≡ some (tally f xs) k → h ≡ some (tally f ys) k → g ++ h ≡ some (tally f (xs ++ ys)) k
next f k xs ys g h p q = ap (λ z. z ++ h) p ∙ ap (λ z. some (tally f xs) k ++ z) q ∙ some_both (tally f xs) (tally f ys) k ∙ ap (λ z. some z k) (sym (tally_both f xs ys))

-- the same where what begins with an expression comes before it, and the rest behind it
ahead : (f : Guilt) (k : FaultKind) → ((t : Tree) → f t ≡ some (length (f t)) k) → (n : ℕ) (t : Tree) (xs ys : List (ℕ × Tree)) (g : List FaultKind) → g ≡ some (tally f (xs ++ ys)) k → f t ++ g ≡ some (tally f ((xs ++ (n, t) ∷ []) ++ ys)) k
ahead f k same n t xs ys g p =
    let e : tally f ((n, t) ∷ [] ++ (xs ++ ys)) ≡ tally f ((xs ++ (n, t) ∷ []) ++ ys) = omega (arith, tally_both f ((n, t) ∷ []) (xs ++ ys), tally_both f xs ys, tally_both f (xs ++ (n, t) ∷ []) ys, tally_both f xs ((n, t) ∷ [])) in
    next f k ((n, t) ∷ []) (xs ++ ys) (f t) g (own f k same n t) p ∙ ap (λ z. some z k) e

-- the same where other parts come behind the first
led : (f : Guilt) (k : FaultKind) → ((t : Tree) → f t ≡ some (length (f t)) k) → (n : ℕ) (t : Tree) (xs ys zs : List (ℕ × Tree)) (g h : List FaultKind) → g ≡ some (tally f (xs ++ ys)) k → h ≡ some (tally f zs) k → (f t ++ g) ++ h ≡ some (tally f ((xs ++ (n, t) ∷ []) ++ (ys ++ zs))) k
led f k same n t xs ys zs g h p q = append_assoc (f t) g h ∙ ahead f k same n t xs (ys ++ zs) (g ++ h) (next f k (xs ++ ys) zs g h p q ∙ ap (λ z. some (tally f z) k) (append_assoc xs ys zs))

mutual
  tallied : (f : Guilt) (k : FaultKind) → ((t : Tree) → f t ≡ some (length (f t)) k) → (n : ℕ) (t : Tree) → gathered f t ≡ some (tally f (firsts n t ++ behinds t)) k
  tallied f k same n (Int line v) = own f k same n (Int line v)
  tallied f k same n (Text line w) = own f k same n (Text line w)
  tallied f k same n (Name line w) = own f k same n (Name line w)
  tallied f k same n (Paren line t) = next f k ((n, Paren line t) ∷ []) (visits t) (f (Paren line t)) (gathered f t) (own f k same n (Paren line t)) (tallied f k same (line_of t) t)
  tallied f k same n (Array line ts) = next f k ((n, Array line ts) ∷ []) (visits_all ts) (f (Array line ts)) (gathered_all f ts) (own f k same n (Array line ts)) (all f k same ts)
  tallied f k same n (Call line w ts) = next f k ((n, Call line w ts) ∷ []) (visits_all ts) (f (Call line w ts)) (gathered_all f ts) (own f k same n (Call line w ts)) (all f k same ts)
  tallied f k same n (EfunCall line w ts) = next f k ((n, EfunCall line w ts) ∷ []) (visits_all ts) (f (EfunCall line w ts)) (gathered_all f ts) (own f k same n (EfunCall line w ts)) (all f k same ts)
  tallied f k same n (ParentCall line w ts) = next f k ((n, ParentCall line w ts) ∷ []) (visits_all ts) (f (ParentCall line w ts)) (gathered_all f ts) (own f k same n (ParentCall line w ts)) (all f k same ts)
  tallied f k same n (NamedParentCall line p w ts) = next f k ((n, NamedParentCall line p w ts) ∷ []) (visits_all ts) (f (NamedParentCall line p w ts)) (gathered_all f ts) (own f k same n (NamedParentCall line p w ts)) (all f k same ts)
  tallied f k same n (Mapping line ps) = next f k ((n, Mapping line ps) ∷ []) (visits_pairs ps) (f (Mapping line ps)) (gathered_pairs f ps) (own f k same n (Mapping line ps)) (all_pairs f k same ps)
  tallied f k same n (Catch line t) = next f k ((n, Catch line t) ∷ []) (visits t) (f (Catch line t)) (gathered f t) (own f k same n (Catch line t)) (tallied f k same (line_of t) t)
  tallied f k same n (PreStep line s t) = next f k ((n, PreStep line s t) ∷ []) (visits t) (f (PreStep line s t)) (gathered f t) (own f k same n (PreStep line s t)) (tallied f k same (line_of t) t)
  tallied f k same n (Unary line op t) = next f k ((n, Unary line op t) ∷ []) (visits t) (f (Unary line op t)) (gathered f t) (own f k same n (Unary line op t)) (tallied f k same (line_of t) t)
  tallied f k same n (Cast line ty t) = next f k ((n, Cast line ty t) ∷ []) (visits t) (f (Cast line ty t)) (gathered f t) (own f k same n (Cast line ty t)) (tallied f k same (line_of t) t)
  tallied f k same n (Sscanf line t m ps) = append_assoc (f (Sscanf line t m ps) ++ gathered f t) (gathered f m) (gathered_all f ps) ∙ append_assoc (f (Sscanf line t m ps)) (gathered f t) (gathered f m ++ gathered_all f ps) ∙ next f k ((n, Sscanf line t m ps) ∷ []) (visits t ++ (visits m ++ visits_all ps)) (f (Sscanf line t m ps)) (gathered f t ++ (gathered f m ++ gathered_all f ps)) (own f k same n (Sscanf line t m ps)) (next f k (visits t) (visits m ++ visits_all ps) (gathered f t) (gathered f m ++ gathered_all f ps) (tallied f k same (line_of t) t) (next f k (visits m) (visits_all ps) (gathered f m) (gathered_all f ps) (tallied f k same (line_of m) m) (all f k same ps)))
  tallied f k same n (Index line t e i) = led f k same n (Index line t e i) (firsts n t) (behinds t) (visits i) (gathered f t) (gathered f i) (tallied f k same n t) (tallied f k same (line_of i) i)
  tallied f k same n (Range line t a b) = append_assoc (f (Range line t a b) ++ gathered f t) (gathered_end f a) (gathered_end f b) ∙ led f k same n (Range line t a b) (firsts n t) (behinds t) (visits_end a ++ visits_end b) (gathered f t) (gathered_end f a ++ gathered_end f b) (tallied f k same n t) (next f k (visits_end a) (visits_end b) (gathered_end f a) (gathered_end f b) (of_end f k same a) (of_end f k same b))
  tallied f k same n (CallOther line t w ts) = led f k same n (CallOther line t w ts) (firsts n t) (behinds t) (visits_all ts) (gathered f t) (gathered_all f ts) (tallied f k same n t) (all f k same ts)
  tallied f k same n (PostStep line s t) = ahead f k same n (PostStep line s t) (firsts n t) (behinds t) (gathered f t) (tallied f k same n t)
  tallied f k same n (Binary line op l r) = led f k same n (Binary line op l r) (firsts n l) (behinds l) (visits r) (gathered f l) (gathered f r) (tallied f k same n l) (tallied f k same (line_of r) r)
  tallied f k same n (AndThen line l r) = led f k same n (AndThen line l r) (firsts n l) (behinds l) (visits r) (gathered f l) (gathered f r) (tallied f k same n l) (tallied f k same (line_of r) r)
  tallied f k same n (OrElse line l r) = led f k same n (OrElse line l r) (firsts n l) (behinds l) (visits r) (gathered f l) (gathered f r) (tallied f k same n l) (tallied f k same (line_of r) r)
  tallied f k same n (Cond line t y m) = append_assoc (f (Cond line t y m) ++ gathered f t) (gathered f y) (gathered f m) ∙ led f k same n (Cond line t y m) (firsts n t) (behinds t) (visits y ++ visits m) (gathered f t) (gathered f y ++ gathered f m) (tallied f k same n t) (next f k (visits y) (visits m) (gathered f y) (gathered f m) (tallied f k same (line_of y) y) (tallied f k same (line_of m) m))
  tallied f k same n (Assign line op p v) = led f k same n (Assign line op p v) (firsts n p) (behinds p) (visits v) (gathered f p) (gathered f v) (tallied f k same n p) (tallied f k same (line_of v) v)
  tallied f k same n (Sequence line ts) = ahead f k same n (Sequence line ts) (firsts_of n ts) (behinds_of ts) (gathered_all f ts) (tallied_of f k same n ts)

  tallied_of : (f : Guilt) (k : FaultKind) → ((t : Tree) → f t ≡ some (length (f t)) k) → (n : ℕ) (ts : Trees) → gathered_all f ts ≡ some (tally f (firsts_of n ts ++ behinds_of ts)) k
  tallied_of f k same n NoTree = nothing f k
  tallied_of f k same n (OneMore t ts) = next f k (firsts n t ++ behinds t) (visits_all ts) (gathered f t) (gathered_all f ts) (tallied f k same n t) (all f k same ts) ∙ ap (λ z. some (tally f z) k) (append_assoc (firsts n t) (behinds t) (visits_all ts))

  all : (f : Guilt) (k : FaultKind) → ((t : Tree) → f t ≡ some (length (f t)) k) → (ts : Trees) → gathered_all f ts ≡ some (tally f (visits_all ts)) k
  all f k same NoTree = nothing f k
  all f k same (OneMore t ts) = next f k (visits t) (visits_all ts) (gathered f t) (gathered_all f ts) (tallied f k same (line_of t) t) (all f k same ts)

  all_pairs : (f : Guilt) (k : FaultKind) → ((t : Tree) → f t ≡ some (length (f t)) k) → (ps : Pairs) → gathered_pairs f ps ≡ some (tally f (visits_pairs ps)) k
  all_pairs f k same NoPair = nothing f k
  all_pairs f k same (OnePair x v ps) = append_assoc (gathered f x) (gathered f v) (gathered_pairs f ps) ∙ next f k (visits x) (visits v ++ visits_pairs ps) (gathered f x) (gathered f v ++ gathered_pairs f ps) (tallied f k same (line_of x) x) (next f k (visits v) (visits_pairs ps) (gathered f v) (gathered_pairs f ps) (tallied f k same (line_of v) v) (all_pairs f k same ps))

  of_end : (f : Guilt) (k : FaultKind) → ((t : Tree) → f t ≡ some (length (f t)) k) → (e : End) → gathered_end f e ≡ some (tally f (visits_end e)) k
  of_end f k same Open = nothing f k
  of_end f k same (At d t) = tallied f k same (line_of t) t

counted : (f : Guilt) (k : FaultKind) → ((t : Tree) → f t ≡ some (length (f t)) k) → (xs : List (ℕ × Tree)) → listed f xs ≡ some (tally f xs) k
unfolding tally
counted f k same [] = refl
counted f k same (x ∷ xs) = ap (λ z. z ++ listed f xs) (same x.1) ∙ ap (λ z. some (length (f x.1)) k ++ z) (counted f k same xs) ∙ some_both (length (f x.1)) (tally f xs) k ∙ ap (λ z. some z k) (sym (length-append (f x.1) (listed f xs)))

-- what is of one kind is the same part by part
pub part_by_part : (f : Guilt) (k : FaultKind) → ((t : Tree) → f t ≡ some (length (f t)) k) → (t : Tree) → gathered f t ≡ listed f (visits t)
part_by_part f k same t = tallied f k same (line_of t) t ∙ sym (counted f k same (visits t))
