-- An expression in front of a token that ends it.
use Rattle.std.proofs.Common.{◌≡◌, ℕ, ◌≤◌, ◌<◌, List, [], ◌∷◌, refl, ap, ◌∙◌, subst, arith}
use Rattle.std.specs.Prelude.{Option, Some, None, option_and_then, option_map}
use Rattle.lp_tree.specs.declared.token.Mark.TheVariants.{CloseParen, Semicolon, Comma}
use Rattle.lp_tree.specs.declared.seen.Seen.{Seen}
use Rattle.lp_tree.specs.Seen.{mark}
use Rattle.lp_tree.specs.Trees.{Tree, rank}
use Rattle.lp_tree.specs.Expressions.{Spells}
use Rattle.lp_parser_expr.specs.Machine.{Frame, Alone, Stack, needs, plug, Held, settle, State, Need, Have, EndCast, EndLiteral, NeedName, NeedParen, binds, act_held, step, whole_held, finished}
use Rattle.lp_parser_expr.proofs.Settle.{follow, settle-ends, rank≤reach, 0<reach, wants-most}
use Rattle.lp_parser_expr.proofs.Complete.{IsReader, complete}
use Rattle.lp_parser_expr.proofs.Sound.{Reads, has, Fitting, fitting, bottom, alone, ReadsOnSome, step_reads, settled}

-- the expression that was read, and the tokens behind it
pub record ReadTree : Type 0 where
  pub tree : Tree
  pub rest : List Seen

abbrev pub tree_end : Option Tree → List Seen → Option ReadTree
tree_end o xs = option_map (λ t. record { tree = t; rest = xs }) o

abbrev pub tree_then : Option State → (State → Option ReadTree) → Option ReadTree → Option ReadTree
tree_then (Some e) go stop = go e
tree_then None go stop = stop

-- an expression ends before the first token that does not go on with it
abbrev pub tree_run : State → List Seen → Option ReadTree
tree_run e [] = None
tree_run e (x ∷ xs) = tree_then (step e x) (λ next. tree_run next xs) (tree_end (finished e) (x ∷ xs))

same-step : (t u : Tree) (f : Frame) (s : Stack) (x : Seen) → binds x.sort < needs f → plug f t ≡ Some u → step (Have t (f ∷ s)) x ≡ step (Have u s) x
same-step t u f s x h e = ap (option_and_then (act_held x.sort)) (settle-ends (binds x.sort) t u f s h e)

same-end : (t u : Tree) (f : Frame) (s : Stack) → 0 < needs f → plug f t ≡ Some u → finished (Have t (f ∷ s)) ≡ finished (Have u s)
same-end t u f s h e = ap (option_and_then whole_held) (settle-ends 0 t u f s h e)

tree_ends : (t u : Tree) (f : Frame) (s : Stack) (rest : List Seen) → follow rest < needs f → plug f t ≡ Some u → tree_run (Have t (f ∷ s)) rest ≡ tree_run (Have u s) rest
tree_ends t u f s [] h e = refl
tree_ends t u f s (x ∷ xs) h e =
    ap (λ o. tree_then o (λ next. tree_run next xs) (tree_end (finished (Have t (f ∷ s))) (x ∷ xs))) (same-step t u f s x h e)
    ∙ ap (λ o. tree_then (step (Have u s) x) (λ next. tree_run next xs) (tree_end o (x ∷ xs))) (same-end t u f s (omega (arith, h)) e)

tree_reader : IsReader tree_run
tree_reader = record {
  goes = λ st next x xs e. ap (λ o. tree_then o (λ n. tree_run n xs) (tree_end (finished st) (x ∷ xs))) e;
  ends = tree_ends;
}

pub before_semicolon : {t : Tree} {ts rest : List Seen} {l : ℕ} → Spells t ts (mark Semicolon l ∷ rest) → tree_run (Need []) ts ≡ Some (record { tree = t; rest = mark Semicolon l ∷ rest })
before_semicolon {t} d = complete tree_run tree_reader d [] (omega arith) (0<reach t)

pub before_paren : {t : Tree} {ts rest : List Seen} {l : ℕ} → Spells t ts (mark CloseParen l ∷ rest) → tree_run (Need []) ts ≡ Some (record { tree = t; rest = mark CloseParen l ∷ rest })
before_paren {t} d = complete tree_run tree_reader d [] (omega arith) (0<reach t)

pub value_before_semicolon : {t : Tree} {ts rest : List Seen} {l : ℕ} → Spells t ts (mark Semicolon l ∷ rest) → 2 ≤ rank t → tree_run (Need (Alone ∷ [])) ts ≡ Some (record { tree = t; rest = mark Semicolon l ∷ rest })
value_before_semicolon {t} d h = complete tree_run tree_reader d (Alone ∷ []) h (0<reach t)

pub value_before_comma : {t : Tree} {ts rest : List Seen} {l : ℕ} → Spells t ts (mark Comma l ∷ rest) → 2 ≤ rank t → tree_run (Need (Alone ∷ [])) ts ≡ Some (record { tree = t; rest = mark Comma l ∷ rest })
value_before_comma {t} d h = complete tree_run tree_reader d (Alone ∷ []) h (omega (arith, rank≤reach t))

-- the tokens before the rest spell the tree, and it has a level of g at least
pub record Spelled (g : ℕ) (t : Tree) (ts rest : List Seen) : Type 0 where
  pub spells : Spells t ts rest
  pub ranked : g ≤ rank t

some_same : {a b : Tree} → Some a ≡ Some b → a ≡ b
some_same e = cc

spelled_as : {g : ℕ} {t u : Tree} {ts rest : List Seen} → t ≡ u → Spelled g t ts rest → Spelled g u ts rest
spelled_as {g} {t} {u} {ts} {rest} e d = subst (λ x. Spelled g x ts rest) e d

whole_spelled : {g : ℕ} (t : Tree) (ts rest : List Seen) (h : Option Held) → Fitting g h 0 ts rest → option_and_then whole_held h ≡ Some t → Spelled g t ts rest
whole_spelled t ts rest None f e = cc
whole_spelled t ts rest (Some h) (fitting bottom d n q r) e = spelled_as (some_same e) (record { spells = d; ranked = r })
whole_spelled t ts rest (Some h) (fitting alone d n q r) e = spelled_as (some_same e) (record { spells = d; ranked = n })
whole_spelled t ts rest (Some h) (fitting _ d n q r) e = cc

finished_spelled : {g : ℕ} (e : State) (t : Tree) (ts rest : List Seen) → Reads g e ts rest → finished e ≡ Some t → Spelled g t ts rest
finished_spelled {g} (Have u s) t ts rest (has {us} o d h) q = whole_spelled t ts rest (settle 0 u s) (settled g 0 s ts rest u us o d (omega (arith, wants-most s)) (omega arith)) q
finished_spelled (Need s) t ts rest r q = cc
finished_spelled (EndCast line ty s) t ts rest r q = cc
finished_spelled (EndLiteral u s) t ts rest r q = cc
finished_spelled (NeedName c s) t ts rest r q = cc
finished_spelled (NeedParen f s) t ts rest r q = cc

some_tree : {a b : ReadTree} → Some a ≡ Some b → a ≡ b
some_tree e = cc

ended_spelled : {g : ℕ} (o : Option Tree) (ts xs : List Seen) (r : ReadTree) → ((t : Tree) → o ≡ Some t → Spelled g t ts xs) → tree_end o xs ≡ Some r → Spelled g r.tree ts r.rest
ended_spelled None ts xs r f q = cc
ended_spelled {g} (Some t) ts xs r f q = subst (λ w. Spelled g w.tree ts w.rest) (some_tree q) (f t refl)

then_spelled : {g : ℕ} (o : Option State) (ts xs : List Seen) (r : ReadTree) (stop : Option ReadTree) → ReadsOnSome g o ts xs → ((next : State) → Reads g next ts xs → tree_run next xs ≡ Some r → Spelled g r.tree ts r.rest) → (stop ≡ Some r → Spelled g r.tree ts r.rest) → tree_then o (λ next. tree_run next xs) stop ≡ Some r → Spelled g r.tree ts r.rest
then_spelled None ts xs r stop d go end q = end q
then_spelled (Some next) ts xs r stop d go end q = go next d q

-- What was read so is spelled so.
pub tree_spelled : {g : ℕ} (e : State) (ts xs : List Seen) (r : ReadTree) → Reads g e ts xs → tree_run e xs ≡ Some r → Spelled g r.tree ts r.rest
tree_spelled e ts [] r d q = cc
tree_spelled e ts (x ∷ xs) r d q =
    then_spelled (step e x) ts xs r (tree_end (finished e) (x ∷ xs)) (step_reads e x.sort x.line ts xs d) (λ next k p. tree_spelled next ts xs r k p)
    (λ p. ended_spelled (finished e) ts (x ∷ xs) r (λ t k. finished_spelled e t ts (x ∷ xs) d k) p) q
