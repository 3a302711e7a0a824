-- Which slots statements take.
use Rattle.std.proofs.Common.{◌≡◌, ℕ, suc, ◌+◌, ◌≤◌, ◌<◌, List, [], ◌∷◌, ◌++◌, length, max, arith, length-append}
use Rattle.std.specs.Prelude.{⊤}
use Rattle.std.proofs.lemmas.List.{length-map}
use Rattle.lp_tree.specs.Statements.{DeclaratorTree, StmtTree, Block, Empty, Run, Declares, If, While, DoWhile, For, Foreach, Switch, Break, Continue, Return, StmtTrees, NoStmt, MoreStmts, ElseTree, NoElse, Else}
use Rattle.lp_language.specs.Scope.{Names, declared, declared_each, declared_else, declared_first, declared_second, loose, loose_else, loose_or_own, names_of, slots_from, slots_in, slots_in_all, slots_in_else}

pub names_long : (ds : List DeclaratorTree) → length (names_of ds) ≡ length ds
names_long ds = length-map ds (λ d. d.name)

-- what a statement declares is among the slots that it takes
mutual
  pub reach : (s : StmtTree) (n : ℕ) → n + length (declared s) ≤ slots_in s n
  reach (Block line ss) n = let a = reach_all ss n in omega (arith, a)
  reach (Empty line) n = omega arith
  reach (Run line e) n = omega arith
  reach (Declares line d) n = let a = names_long d.ones in omega (arith, a)
  reach (If line e y x) n =
      let a = reach y n in
      let c = reach_else x (n + length (declared y)) in
      let q = length-append (declared y) (declared_else x) in
      omega (arith, a, c, q)
  reach (While line e b) n = reach b n
  reach (DoWhile line b e) n = reach b n
  reach (For line i t st b) n = let a = reach b (n + length (declared_first i)) in omega (arith, a)
  reach (Foreach line f st e b) n = let a = reach b (n + length (declared_each f ++ declared_second st)) in omega (arith, a)
  reach (Switch line e ps) n = omega arith
  reach (Break line) n = omega arith
  reach (Continue line) n = omega arith
  reach (Return line e) n = omega arith

  pub reach_all : (ss : StmtTrees) (n : ℕ) → n ≤ slots_in_all ss n
  reach_all NoStmt n = omega arith
  reach_all (MoreStmts s ss) n = let a = reach s n in omega (arith, a)

  reach_else : (x : ElseTree) (n : ℕ) → n + length (declared_else x) ≤ slots_in_else x n
  reach_else NoElse n = omega arith
  reach_else (Else s) n = reach s n

-- slots below a number
abbrev pub AllBelow : ℕ → List ℕ → Type 0
AllBelow m [] = ⊤
AllBelow m (k ∷ ks) = (k < m) × AllBelow m ks

pub below_both : (m : ℕ) (xs ys : List ℕ) → AllBelow m xs → AllBelow m ys → AllBelow m (xs ++ ys)
below_both m [] ys a c = c
below_both m (x ∷ xs) ys a c = (a.0, below_both m xs ys a.1 c)

pub below_more : (m n : ℕ) (xs : List ℕ) → m ≤ n → AllBelow m xs → AllBelow n xs
below_more m n [] l a = tt
below_more m n (x ∷ xs) l a = let q = a.0 in (omega (arith, q, l), below_more m n xs l a.1)

pub slots_below : (k : ℕ) (ns : Names) → AllBelow (k + length ns) (slots_from k ns)
slots_below k [] = tt
slots_below k (n ∷ ns) = (omega arith, below_more (suc k + length ns) (k + suc (length ns)) (slots_from (suc k) ns) (omega arith) (slots_below (suc k) ns))

mutual
  pub loose_below : (s : StmtTree) (n : ℕ) → AllBelow (slots_in s n) (loose s n)
  loose_below (If line e y x) n =
      let k = n + length (declared y) in
      let m = max (slots_in y n) (slots_in_else x k) in
      below_both m (loose_or_own y n) (loose_else x k) (below_more (slots_in y n) m (loose_or_own y n) (omega arith) (own_below y n)) (below_more (slots_in_else x k) m (loose_else x k) (omega arith) (else_below x k))
  loose_below (While line e b) n = own_below b n
  loose_below (DoWhile line b e) n = own_below b n
  loose_below (For line i t st b) n = loose_below b (n + length (declared_first i))
  loose_below (Foreach line f st e b) n = loose_below b (n + length (declared_each f ++ declared_second st))
  loose_below _ n = tt

  own_below : (s : StmtTree) (n : ℕ) → AllBelow (slots_in s n) (loose_or_own s n)
  own_below (Declares line d) n = let q = names_long d.ones in below_more (n + length (names_of d.ones)) (n + length d.ones) (slots_from n (names_of d.ones)) (omega (arith, q)) (slots_below n (names_of d.ones))
  own_below (If line e y x) n =
      let k = n + length (declared y) in
      let m = max (slots_in y n) (slots_in_else x k) in
      below_both m (loose_or_own y n) (loose_else x k) (below_more (slots_in y n) m (loose_or_own y n) (omega arith) (own_below y n)) (below_more (slots_in_else x k) m (loose_else x k) (omega arith) (else_below x k))
  own_below (While line e b) n = own_below b n
  own_below (DoWhile line b e) n = own_below b n
  own_below (For line i t st b) n = loose_below b (n + length (declared_first i))
  own_below (Foreach line f st e b) n = loose_below b (n + length (declared_each f ++ declared_second st))
  own_below _ n = tt

  else_below : (x : ElseTree) (n : ℕ) → AllBelow (slots_in_else x n) (loose_else x n)
  else_below NoElse n = tt
  else_below (Else s) n = own_below s n
