-- The names of a declaration: what is spelled is read, and what is read is spelled.
use Rattle.std.proofs.Common.{◌≡◌, ℕ, suc, ◌+◌, ◌≤◌, List, [], ◌∷◌, ◌++◌, refl, ap, sym, ◌∙◌, subst, arith}
use Rattle.std.specs.Prelude.{Option, Some, None, option_map}
use Rattle.std.proofs.lemmas.List.{append_assoc}
use Rattle.lp_tree.specs.declared.operator.BinOp.TheVariants.{Mul}
use Rattle.lp_tree.specs.declared.operator.AssignOp.TheVariants.{Set}
use Rattle.lp_tree.specs.declared.token.Mark.TheVariants as marks
use Rattle.lp_tree.specs.declared.token.Mark.TheVariants.{Semicolon, Comma}
use Rattle.lp_tree.specs.declared.seen.Sort.{Sort}
use Rattle.lp_tree.specs.declared.seen.Sort.TheVariants as sorts
use Rattle.lp_tree.specs.declared.seen.Seen.{Seen}
use Rattle.lp_tree.specs.Seen.{word, mark, first_line}
use Rattle.lp_tree.specs.Types.{SpellsStars, none as no_star, one_more as one_star}
use Rattle.lp_tree.specs.Trees.{Tree, rank}
use Rattle.lp_tree.specs.Expressions.{Spells}
use Rattle.lp_tree.specs.Statements.{DeclaratorTree, SpellsDeclarator, plain, set_to, SpellsDeclarators, one, another}
use Rattle.lp_parser_expr.specs.Machine as expr
use Rattle.lp_parser_expr.proofs.Sound.{needs_more, alone}
use Rattle.lp_parser_stmt.specs.Machine.{Names, AtOne, AtStars, Named, Valued, with_name, at_one, at_stars, named, valued, value_goes, names_step, names_finished, ReadNames, names_end, names_then, names_run}
use Rattle.lp_parser_stmt.proofs.Expressions.{ReadTree, tree_end, tree_then, tree_run, value_before_semicolon, value_before_comma, tree_spelled}

-- behind the value of a name
abbrev pub value_after : List DeclaratorTree → ℕ → ℕ → List ℕ → Tree → List Seen → Option ReadNames
value_after done line n w t [] = None
value_after done line n w t (x ∷ xs) = names_then (valued x.sort (Some t) done line n w) (λ next. names_run next xs) (Some (record { ones = with_name done line n w (Some t); rest = x ∷ xs }))

abbrev pub value_read : List DeclaratorTree → ℕ → ℕ → List ℕ → Option ReadTree → Option ReadNames
value_read done line n w None = None
value_read done line n w (Some r) = value_after done line n w r.tree r.rest

no_value : (k : Sort) (done : List DeclaratorTree) (line n : ℕ) (w : List ℕ) → valued k None done line n w ≡ None
no_value (sorts.Mark Comma) done line n w = refl
no_value (sorts.Mark _) done line n w = refl
no_value _ done line n w = refl

value_stops : (o : Option Tree) (x : Seen) (xs : List Seen) (done : List DeclaratorTree) (line n : ℕ) (w : List ℕ)
    → names_then (valued x.sort o done line n w) (λ next. names_run next xs) (names_end (option_map (λ t. with_name done line n w (Some t)) o) (x ∷ xs)) ≡ value_read done line n w (tree_end o (x ∷ xs))
value_stops None x xs done line n w = ap (λ o. names_then o (λ next. names_run next xs) None) (no_value x.sort done line n w)
value_stops (Some t) x xs done line n w = refl

value_steps : (o : Option expr.State) (f : Option Tree) (x : Seen) (xs : List Seen) (done : List DeclaratorTree) (line n : ℕ) (w : List ℕ)
    → ((e : expr.State) → names_run (Valued done line n w e) xs ≡ value_read done line n w (tree_run e xs))
    → names_then (value_goes o f x.sort done line n w) (λ next. names_run next xs) (names_end (option_map (λ t. with_name done line n w (Some t)) f) (x ∷ xs)) ≡ value_read done line n w (tree_then o (λ next. tree_run next xs) (tree_end f (x ∷ xs)))
value_steps (Some e) f x xs done line n w ih = ih e
value_steps None f x xs done line n w ih = value_stops f x xs done line n w

pub value_run : (e : expr.State) (xs : List Seen) (done : List DeclaratorTree) (line n : ℕ) (w : List ℕ) → names_run (Valued done line n w e) xs ≡ value_read done line n w (tree_run e xs)
value_run e [] done line n w = refl
value_run e (x ∷ xs) done line n w = value_steps (expr.step e x) (expr.finished e) x xs done line n w (λ next. value_run next xs done line n w)

stars_run : {n : ℕ} {ts us : List Seen} → SpellsStars n ts us → (done : List DeclaratorTree) (line k all : ℕ) → all ≡ k + n → names_run (AtStars done line k) ts ≡ names_run (AtStars done line all) us
stars_run {us} no_star done line k all e = ap (λ m. names_run (AtStars done line m) us) (omega (arith, e))
stars_run (one_star d) done line k all e = stars_run d done line (suc k) all (omega (arith, e))

-- stars and a name
name_run : {n l : ℕ} {w : List ℕ} {ts rest : List Seen} → SpellsStars n ts (word w l ∷ rest) → (done : List DeclaratorTree) → names_run (AtOne done) ts ≡ names_run (Named done (first_line ts) n w) rest
name_run no_star done = refl
name_run {w} {rest} (one_star {n} {l} {ts} d) done = stars_run d done l 1 (suc n) (omega arith)

-- What is spelled is read.
pub names_read : {ds : List DeclaratorTree} {l : ℕ} {ts rest : List Seen} → SpellsDeclarators ds ts (mark Semicolon l ∷ rest) → (done : List DeclaratorTree) → names_run (AtOne done) ts ≡ Some (record { ones = done ++ ds; rest = mark Semicolon l ∷ rest })
names_read (one (plain d)) done = name_run d done
names_read (one (set_to {n} {w} {e = t} {ts} {us} d v h)) done =
    name_run d done ∙ value_run (expr.Need (expr.Alone ∷ [])) us done (first_line ts) n w ∙ ap (value_read done (first_line ts) n w) (value_before_semicolon v h)
names_read {l} {rest} (another {ds} (plain {n} {w} {ts} d) m) done =
    name_run d done ∙ names_read m (with_name done (first_line ts) n w None)
    ∙ ap (λ xs. Some (record { ones = xs; rest = mark Semicolon l ∷ rest })) (append_assoc done _ ds)
names_read {l} {rest} (another {ds} (set_to {n} {w} {e = t} {ts} {us} d v h) m) done =
    name_run d done ∙ value_run (expr.Need (expr.Alone ∷ [])) us done (first_line ts) n w ∙ ap (value_read done (first_line ts) n w) (value_before_comma v h)
    ∙ names_read m (with_name done (first_line ts) n w (Some t))
    ∙ ap (λ xs. Some (record { ones = xs; rest = mark Semicolon l ∷ rest })) (append_assoc done _ ds)

-- From here, the tokens before the rest spell what is missing of the names.
mutual
  pub data Rest : Names → List DeclaratorTree → List Seen → List Seen → Type 0 where
    rest_one : {done more ds : List DeclaratorTree} {xs rest : List Seen} → SpellsDeclarators more xs rest → ds ≡ done ++ more → Rest (AtOne done) ds xs rest
    rest_stars : {done ds : List DeclaratorTree} {line n m l : ℕ} {w : List ℕ} {xs ys rest : List Seen}
        → SpellsStars m xs (word w l ∷ ys) → Rest (Named done line (n + m) w) ds ys rest → Rest (AtStars done line n) ds xs rest
    rest_named : {done ds : List DeclaratorTree} {line n : ℕ} {w : List ℕ} {xs rest : List Seen}
        → Behind (with_name done line n w None) ds xs rest → Rest (Named done line n w) ds xs rest
    rest_set : {done ds : List DeclaratorTree} {line n l : ℕ} {w : List ℕ} {t : Tree} {xs ys rest : List Seen}
        → Spells t xs ys → 2 ≤ rank t → Behind (with_name done line n w (Some t)) ds ys rest → Rest (Named done line n w) ds (mark (marks.Assign Set) l ∷ xs) rest
    rest_value : {done ds : List DeclaratorTree} {line n : ℕ} {w : List ℕ} {e : expr.State} {t : Tree} {xs ys rest : List Seen}
        → tree_run e xs ≡ Some (record { tree = t; rest = ys }) → Behind (with_name done line n w (Some t)) ds ys rest → Rest (Valued done line n w e) ds xs rest

  -- behind a whole name
  pub data Behind : List DeclaratorTree → List DeclaratorTree → List Seen → List Seen → Type 0 where
    ends_names : {done ds : List DeclaratorTree} {rest : List Seen} → ds ≡ done → Behind done ds rest rest
    comma_names : {done ds : List DeclaratorTree} {l : ℕ} {xs rest : List Seen} → Rest (AtOne done) ds xs rest → Behind done ds (mark Comma l ∷ xs) rest

abbrev Missing : List DeclaratorTree → List DeclaratorTree → List Seen → List Seen → Type 0
Missing done ds xs rest = (more : List DeclaratorTree) × SpellsDeclarators more xs rest × (ds ≡ done ++ more)

another_of : (done : List DeclaratorTree) {ds : List DeclaratorTree} {d : DeclaratorTree} {ts ys rest : List Seen} → SpellsDeclarator d ts ys → Behind (done ++ d ∷ []) ds ys rest → Missing done ds ts rest
another_of done {d} s (ends_names e) = (d ∷ [], one s, e)
another_of done {d} s (comma_names (rest_one {more} m e)) = (d ∷ more, another s m, e ∙ append_assoc done (d ∷ []) more)

name_of : {done ds : List DeclaratorTree} {n l : ℕ} {w : List ℕ} {ts ys rest : List Seen} → SpellsStars n ts (word w l ∷ ys) → Rest (Named done (first_line ts) n w) ds ys rest → Missing done ds ts rest
name_of {done} s (rest_named b) = another_of done (plain s) b
name_of {done} s (rest_set d h b) = another_of done (set_to s d h) b

one_of : {done ds : List DeclaratorTree} {ts rest : List Seen} → Missing done ds ts rest → Rest (AtOne done) ds ts rest
one_of m = rest_one m.1 m.2

stars_as : {done ds : List DeclaratorTree} {line m n : ℕ} {w : List ℕ} {xs rest : List Seen} → m ≡ n → Rest (Named done line m w) ds xs rest → Rest (Named done line n w) ds xs rest
stars_as {done} {ds} {line} {w} {xs} {rest} e r = subst (λ k. Rest (Named done line k w) ds xs rest) e r

-- the state that is next has its rest
abbrev pub RestOnSome : Option Names → List DeclaratorTree → List Seen → List Seen → Type 0
RestOnSome None ds xs rest = ⊥
RestOnSome (Some next) ds xs rest = Rest next ds xs rest

stars_back : {done ds : List DeclaratorTree} {line n l : ℕ} {xs rest : List Seen} → Rest (AtStars done line (suc n)) ds xs rest → Rest (AtStars done line n) ds (mark (marks.Binary Mul) l ∷ xs) rest
stars_back {n} (rest_stars {m} s r) = rest_stars (one_star s) (stars_as (omega arith) r)

begun_back : {done ds : List DeclaratorTree} {l : ℕ} {xs rest : List Seen} → Rest (AtStars done l 1) ds xs rest → Rest (AtOne done) ds (mark (marks.Binary Mul) l ∷ xs) rest
begun_back (rest_stars {m} s r) = one_of (name_of (one_star s) (stars_as (omega arith) r))

one_back : (k : Sort) (l : ℕ) (done ds : List DeclaratorTree) (xs rest : List Seen) → RestOnSome (at_one k l done) ds xs rest → Rest (AtOne done) ds (record { sort = k; line = l } ∷ xs) rest
one_back (sorts.Name w) l done ds xs rest r = one_of (name_of no_star r)
one_back (sorts.Mark (marks.Binary Mul)) l done ds xs rest r = begun_back r
one_back _ l done ds xs rest r = absurd r

more_back : (k : Sort) (l : ℕ) (done ds : List DeclaratorTree) (line n : ℕ) (xs rest : List Seen) → RestOnSome (at_stars k done line n) ds xs rest → Rest (AtStars done line n) ds (record { sort = k; line = l } ∷ xs) rest
more_back (sorts.Name w) l done ds line n xs rest r = rest_stars no_star (stars_as (omega arith) r)
more_back (sorts.Mark (marks.Binary Mul)) l done ds line n xs rest r = stars_back r
more_back _ l done ds line n xs rest r = absurd r

value_begins : {done ds : List DeclaratorTree} {line n l : ℕ} {w : List ℕ} {xs rest : List Seen} → Rest (Valued done line n w (expr.Need (expr.Alone ∷ []))) ds xs rest → Rest (Named done line n w) ds (mark (marks.Assign Set) l ∷ xs) rest
value_begins {xs} (rest_value {t} {ys} e b) = let s = tree_spelled {g = 2} (expr.Need (expr.Alone ∷ [])) xs xs (record { tree = t; rest = ys }) (needs_more alone) e in rest_set s.spells s.ranked b

named_back : (k : Sort) (l : ℕ) (done ds : List DeclaratorTree) (line n : ℕ) (w : List ℕ) (xs rest : List Seen) → RestOnSome (named k done line n w) ds xs rest → Rest (Named done line n w) ds (record { sort = k; line = l } ∷ xs) rest
named_back (sorts.Mark (marks.Assign Set)) l done ds line n w xs rest r = value_begins r
named_back (sorts.Mark Comma) l done ds line n w xs rest r = rest_named (comma_names r)
named_back _ l done ds line n w xs rest r = absurd r

-- how a value goes on, or ends
valued_back : (k : Sort) (o : Option Tree) (l : ℕ) (done ds : List DeclaratorTree) (line n : ℕ) (w : List ℕ) (e : expr.State) (xs rest : List Seen)
    → ((t : Tree) → o ≡ Some t → tree_run e (record { sort = k; line = l } ∷ xs) ≡ Some (record { tree = t; rest = record { sort = k; line = l } ∷ xs }))
    → RestOnSome (valued k o done line n w) ds xs rest → Rest (Valued done line n w e) ds (record { sort = k; line = l } ∷ xs) rest
valued_back (sorts.Mark Comma) (Some t) l done ds line n w e xs rest f r = rest_value (f t refl) (comma_names r)
valued_back (sorts.Mark Comma) None l done ds line n w e xs rest f r = absurd r
valued_back (sorts.Mark _) o l done ds line n w e xs rest f r = absurd r
valued_back _ o l done ds line n w e xs rest f r = absurd r

goes_back : {done ds : List DeclaratorTree} {line n : ℕ} {w : List ℕ} {e next : expr.State} {x : Seen} {xs rest : List Seen} → expr.step e x ≡ Some next → Rest (Valued done line n w next) ds xs rest → Rest (Valued done line n w e) ds (x ∷ xs) rest
goes_back {e} {x} {xs} q (rest_value p b) = rest_value (ap (λ o. tree_then o (λ next. tree_run next xs) (tree_end (expr.finished e) (x ∷ xs))) q ∙ p) b

value_back : (o : Option expr.State) (k : Sort) (l : ℕ) (done ds : List DeclaratorTree) (line n : ℕ) (w : List ℕ) (e : expr.State) (xs rest : List Seen)
    → expr.step e (record { sort = k; line = l }) ≡ o → RestOnSome (value_goes o (expr.finished e) k done line n w) ds xs rest → Rest (Valued done line n w e) ds (record { sort = k; line = l } ∷ xs) rest
value_back (Some next) k l done ds line n w e xs rest q r = goes_back q r
value_back None k l done ds line n w e xs rest q r =
    let x : Seen = record { sort = k; line = l } in
    valued_back k (expr.finished e) l done ds line n w e xs rest (λ t f. ap (λ o. tree_then o (λ next. tree_run next xs) (tree_end (expr.finished e) (x ∷ xs))) q ∙ ap (λ o. tree_end o (x ∷ xs)) f) r

pub names_back : (d : Names) (k : Sort) (l : ℕ) (ds : List DeclaratorTree) (xs rest : List Seen) → RestOnSome (names_step d (record { sort = k; line = l })) ds xs rest → Rest d ds (record { sort = k; line = l } ∷ xs) rest
names_back (AtOne done) k l ds xs rest r = one_back k l done ds xs rest r
names_back (AtStars done line n) k l ds xs rest r = more_back k l done ds line n xs rest r
names_back (Named done line n w) k l ds xs rest r = named_back k l done ds line n w xs rest r
names_back (Valued done line n w e) k l ds xs rest r = value_back (expr.step e (record { sort = k; line = l })) k l done ds line n w e xs rest refl r

some_names : {a b : ReadNames} → Some a ≡ Some b → a ≡ b
some_names e = cc

names_stop : (d : Names) (ds : List DeclaratorTree) (x : Seen) (xs : List Seen) → names_step d x ≡ None → names_finished d ≡ Some ds → Rest d ds (x ∷ xs) (x ∷ xs)
names_stop (AtOne done) ds x xs s f = cc
names_stop (AtStars done line n) ds x xs s f = cc
names_stop (Named done line n w) ds x xs s f = rest_named (ends_names (some_list f))
  where
    some_list : Some (with_name done line n w None) ≡ Some ds → ds ≡ with_name done line n w None
    some_list e = cc
names_stop (Valued done line n w e) ds x xs s f = stopped (expr.step e x) (expr.finished e) refl refl s f
  where
    some_list : (t : Tree) → Some (with_name done line n w (Some t)) ≡ Some ds → ds ≡ with_name done line n w (Some t)
    some_list t e = cc

    stopped : (o : Option expr.State) (v : Option Tree) → expr.step e x ≡ o → expr.finished e ≡ v → value_goes o v x.sort done line n w ≡ None → option_map (λ t. with_name done line n w (Some t)) v ≡ Some ds → Rest (Valued done line n w e) ds (x ∷ xs) (x ∷ xs)
    stopped (Some next) v p q s f = cc
    stopped None None p q s f = cc
    stopped None (Some t) p q s f = rest_value (ap (λ o. tree_then o (λ next. tree_run next xs) (tree_end (expr.finished e) (x ∷ xs))) p ∙ ap (λ o. tree_end o (x ∷ xs)) q) (ends_names (some_list t f))

names_ended : (d : Names) (o : Option (List DeclaratorTree)) (x : Seen) (xs : List Seen) (r : ReadNames) → names_step d x ≡ None → names_finished d ≡ o → names_end o (x ∷ xs) ≡ Some r → Rest d r.ones (x ∷ xs) r.rest
names_ended d None x xs r s f e = cc
names_ended d (Some ds) x xs r s f e = subst (λ q. Rest d q.ones (x ∷ xs) q.rest) (some_names e) (names_stop d ds x xs s f)

names_went : (d : Names) (o : Option Names) (x : Seen) (xs : List Seen) (r : ReadNames) → names_step d x ≡ o → ((next : Names) → names_run next xs ≡ Some r → Rest next r.ones xs r.rest)
    → names_then o (λ next. names_run next xs) (names_end (names_finished d) (x ∷ xs)) ≡ Some r → Rest d r.ones (x ∷ xs) r.rest
names_went d None x xs r s ih e = names_ended d (names_finished d) x xs r s refl e
names_went d (Some next) x xs r s ih e = names_back d x.sort x.line r.ones xs r.rest (subst (λ o. RestOnSome o r.ones xs r.rest) (sym s) (ih next e))

-- What is read has its rest.
pub names_rest : (d : Names) (xs : List Seen) (r : ReadNames) → names_run d xs ≡ Some r → Rest d r.ones xs r.rest
names_rest d [] r e = cc
names_rest d (x ∷ xs) r e = names_went d (names_step d x) x xs r refl (λ next p. names_rest next xs r p) e

-- What is read is spelled.
pub names_spelled : {done ds : List DeclaratorTree} {xs rest : List Seen} → Rest (AtOne done) ds xs rest → Missing done ds xs rest
names_spelled (rest_one {more} m e) = (more, m, e)
