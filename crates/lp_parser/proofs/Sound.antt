-- What is read is spelled: units.
use Rattle.std.proofs.Common.{◌≡◌, ℕ, suc, ◌+◌, List, [], ◌∷◌, ◌++◌, refl, ap, sym, ◌∙◌, subst, arith}
use Rattle.std.specs.Prelude.{Option, Some, None, option_and_then, option_map}
use Rattle.std.proofs.lemmas.List.{append_assoc}
use Rattle.lp_tree.specs.declared.keyword.Modifier.{Modifier as ModifierWord}
use Rattle.lp_tree.specs.declared.keyword.Base.{Base as BaseWord}
use Rattle.lp_tree.specs.declared.keyword.Keyword.{Keyword}
use Rattle.lp_tree.specs.declared.keyword.Keyword.TheVariants as words
use Rattle.lp_tree.specs.declared.operator.BinOp.TheVariants.{Mul}
use Rattle.lp_tree.specs.declared.operator.AssignOp.TheVariants.{Set}
use Rattle.lp_tree.specs.declared.token.Mark.{Mark}
use Rattle.lp_tree.specs.declared.token.Mark.TheVariants as marks
use Rattle.lp_tree.specs.declared.token.Mark.TheVariants.{OpenParen, CloseParen, OpenBrace, Comma, Semicolon}
use Rattle.lp_tree.specs.declared.types.TypeName.{TypeName}
use Rattle.lp_tree.specs.declared.seen.Sort.{Sort}
use Rattle.lp_tree.specs.declared.seen.Sort.TheVariants as sorts
use Rattle.lp_tree.specs.declared.seen.Seen.{Seen}
use Rattle.lp_tree.specs.declared.unit.Param.{Param}
use Rattle.lp_tree.specs.Seen.{word, text, mark, reserved, first_line}
use Rattle.lp_tree.specs.Types.{SpellsStars, none as no_star, one_more as one_star, typed as type_of}
use Rattle.lp_tree.specs.Statements.{DeclaratorTree, StmtTrees}
use Rattle.lp_tree.specs.Units as units
use Rattle.lp_tree.specs.Units.{ItemTree, Inherit, Var, Phase, Inherits, Definitions, SpellsMods, no_mod, mod_word, SpellsTypeIf, no_type, type_given, SpellsParam, SpellsParams, one_param, more_params, SpellsParamsIf, SpellsItem, Turns, by_proto, by_inherit, by_fun, by_var, SpellsItems, no_item, item}
use Rattle.lp_parser_stmt.specs.Machine as stmts
use Rattle.lp_parser_stmt.specs.Machine.{Names, AtOne, names_step, names_finished, names_run, names_end, names_then, mark_in}
use Rattle.lp_tree.specs.Trees.{Tree}
use Rattle.lp_parser_expr.specs.Machine as expr
use Rattle.lp_parser_stmt.proofs.Laws.{reads_names, reads_blocks}
use Rattle.lp_parser.specs.Machine.{Before, turned, with_item, Head, untyped_head, typed_head, State, Top, NeedPath, EndInherit, Modified, Typed, NeedOpen, NeedParam, NextParam, ParamStars, BehindParam, HaveParams, InBody, inherits, word_at_top, at_top, need_path, end_inherit, word_modified, modified, named_head, is_paren, after_names, names_go, typed_goes, need_open, need_param, next_param, param_stars, behind_param, have_params, param, proto_of, fun_of, body, step, start, run}
use Rattle.lp_parser.proofs.Complete.{typed_step, no_head}

-- what is missing of the name of a function and of the parenthesis behind it, where so many stars stand before it
abbrev TypedHead : Names → ℕ → List ℕ → List Seen → List Seen → Type 0
TypedHead (AtOne []) n w xs ys = (l l' : ℕ) × SpellsStars n xs (word w l ∷ mark OpenParen l' ∷ ys)
TypedHead (stmts.AtStars [] at k) n w xs ys = (m l l' : ℕ) × SpellsStars m xs (word w l ∷ mark OpenParen l' ∷ ys) × (n ≡ k + m)
TypedHead (stmts.Named [] at k v) n w xs ys = (l : ℕ) × (xs ≡ mark OpenParen l ∷ ys) × (n ≡ k) × (w ≡ v)
TypedHead _ n w xs ys = ⊥

-- From here, the tokens make the items.
pub data Rest : State → List ItemTree → List Seen → Type 0 where
  r_top : {b : Before} {is more : List ItemTree} {xs : List Seen} → SpellsItems b.phase more xs → is ≡ b.done ++ more → Rest (Top b) is xs
  r_path : {b : Before} {line l : ℕ} {w : List ℕ} {is : List ItemTree} {xs : List Seen} → Rest (EndInherit b line w) is xs → Rest (NeedPath b line) is (text w l ∷ xs)
  r_inherit : {b : Before} {line l : ℕ} {w : List ℕ} {is : List ItemTree} {xs : List Seen} → Rest (Top (with_item b (Inherit line w))) is xs → Rest (EndInherit b line w) is (mark Semicolon l ∷ xs)
  -- behind modifiers
  r_mod : {b : Before} {line l : ℕ} {ms : List ModifierWord} {m : ModifierWord} {is : List ItemTree} {xs : List Seen} → Rest (Modified b line (ms ++ m ∷ [])) is xs → Rest (Modified b line ms) is (reserved (words.Modifier m) l ∷ xs)
  r_base : {b : Before} {line l : ℕ} {ms : List ModifierWord} {t : BaseWord} {is : List ItemTree} {xs : List Seen} → Rest (Typed b line ms t (AtOne [])) is xs → Rest (Modified b line ms) is (reserved (words.Base t) l ∷ xs)
  r_name : {b : Before} {line l : ℕ} {ms : List ModifierWord} {w : List ℕ} {is : List ItemTree} {xs : List Seen} → Rest (NeedOpen b (untyped_head line ms w)) is xs → Rest (Modified b line ms) is (word w l ∷ xs)
  -- behind a type word
  r_var : {b : Before} {line l : ℕ} {ms : List ModifierWord} {t : BaseWord} {d : Names} {ds : List DeclaratorTree} {is : List ItemTree} {xs ys : List Seen}
      → names_run d xs ≡ Some (record { ones = ds; rest = mark Semicolon l ∷ ys }) → Rest (Top (with_item b (Var line ms t ds))) is ys → Rest (Typed b line ms t d) is xs
  r_head : {b : Before} {line n : ℕ} {ms : List ModifierWord} {t : BaseWord} {d : Names} {w : List ℕ} {is : List ItemTree} {xs ys : List Seen}
      → TypedHead d n w xs ys → Rest (NeedParam b (typed_head line ms t n w)) is ys → Rest (Typed b line ms t d) is xs
  r_open : {b : Before} {h : Head} {l : ℕ} {is : List ItemTree} {xs : List Seen} → Rest (NeedParam b h) is xs → Rest (NeedOpen b h) is (mark OpenParen l ∷ xs)
  -- parameters
  r_no_params : {b : Before} {h : Head} {l : ℕ} {is : List ItemTree} {xs : List Seen} → Rest (HaveParams b h []) is xs → Rest (NeedParam b h) is (mark CloseParen l ∷ xs)
  r_first : {b : Before} {h : Head} {p : Param} {is : List ItemTree} {xs ys : List Seen} → SpellsParam p xs ys → Rest (BehindParam b h (p ∷ [])) is ys → Rest (NeedParam b h) is xs
  r_next : {b : Before} {h : Head} {p : Param} {ps : List Param} {is : List ItemTree} {xs ys : List Seen} → SpellsParam p xs ys → Rest (BehindParam b h (ps ++ p ∷ [])) is ys → Rest (NextParam b h ps) is xs
  r_param_stars : {b : Before} {h : Head} {ps : List Param} {at n m l : ℕ} {t : BaseWord} {w : List ℕ} {is : List ItemTree} {xs ys : List Seen}
      → SpellsStars m xs (word w l ∷ ys) → Rest (BehindParam b h (ps ++ param at (Some (record { base = t; stars = n + m })) w ∷ [])) is ys → Rest (ParamStars b h ps at t n) is xs
  r_comma : {b : Before} {h : Head} {ps : List Param} {l : ℕ} {is : List ItemTree} {xs : List Seen} → Rest (NextParam b h ps) is xs → Rest (BehindParam b h ps) is (mark Comma l ∷ xs)
  r_params : {b : Before} {h : Head} {ps : List Param} {l : ℕ} {is : List ItemTree} {xs : List Seen} → Rest (HaveParams b h ps) is xs → Rest (BehindParam b h ps) is (mark CloseParen l ∷ xs)
  -- behind them
  r_proto : {b : Before} {h : Head} {ps : List Param} {l : ℕ} {is : List ItemTree} {xs : List Seen} → Rest (Top (with_item b (proto_of h ps))) is xs → Rest (HaveParams b h ps) is (mark Semicolon l ∷ xs)
  r_fun : {b : Before} {h : Head} {ps : List Param} {l : ℕ} {is : List ItemTree} {xs : List Seen} → Rest (InBody b h ps l stmts.start) is xs → Rest (HaveParams b h ps) is (mark OpenBrace l ∷ xs)
  r_body : {b : Before} {h : Head} {ps : List Param} {l : ℕ} {st : stmts.State} {ss : StmtTrees} {is : List ItemTree} {xs ys : List Seen}
      → stmts.run st xs ≡ Some (record { stmts = ss; rest = ys }) → Rest (Top (with_item b (fun_of h ps l ss))) is ys → Rest (InBody b h ps l st) is xs

-- the items that come, spelled by the tokens
abbrev More : Before → List ItemTree → List Seen → Type 0
More b is ts = (more : List ItemTree) × SpellsItems b.phase more ts × (is ≡ b.done ++ more)

item_more : (b : Before) {is : List ItemTree} {i : ItemTree} {ts ys : List Seen} → SpellsItem i ts ys → Turns b.phase i (turned b.phase i) → Rest (Top (with_item b i)) is ys → More b is ts
item_more b {i} d t (r_top {more} m e) = (i ∷ more, item d t m, e ∙ append_assoc b.done (i ∷ []) more)

-- parameters and what stands behind them
record Params (b : Before) (h : Head) (done : List Param) (is : List ItemTree) (xs : List Seen) : Type 0 where
  params : List Param
  line : ℕ
  behind : List Seen
  spelled : SpellsParams params xs (mark CloseParen line ∷ behind)
  rest : Rest (HaveParams b h (done ++ params)) is behind

param_rest : {b : Before} {h : Head} {ps qs : List Param} {p : Param} {is : List ItemTree} {xs ys : List Seen} → qs ≡ ps ++ p ∷ [] → SpellsParam p xs ys → Rest (BehindParam b h qs) is ys → Params b h ps is xs
param_rest {b} {h} {p} {is} e d (r_params {l} {xs = zs} r) = record { params = p ∷ []; line = l; behind = zs; spelled = one_param d; rest = subst (λ k. Rest (HaveParams b h k) is zs) e r }
param_rest {b} {h} {ps} {qs} {p} {is} e d (r_comma (r_next f r)) =
    let q = param_rest {ps = qs} refl f r in
    record { params = p ∷ q.params; line = q.line; behind = q.behind; spelled = more_params d q.spelled; rest = subst (λ k. Rest (HaveParams b h k) is q.behind) (ap (λ k. k ++ q.params) e ∙ append_assoc ps (p ∷ []) q.params) q.rest }

abbrev head : ℕ → List ModifierWord → Option TypeName → List ℕ → Head
head line ms ty w = record { line = line; mods = ms; type_name = ty; name = w }

behind_params : {b : Before} {ms : List ModifierWord} {ty : Option TypeName} {w : List ℕ} {ps : List Param} {l l' l'' : ℕ} {is : List ItemTree} {ts us vs ws : List Seen}
    → SpellsMods ms ts us → SpellsTypeIf ty us (word w l ∷ mark OpenParen l' ∷ vs) → SpellsParamsIf ps vs (mark CloseParen l'' ∷ ws) → Rest (HaveParams b (head (first_line ts) ms ty w) ps) is ws → More b is ts
behind_params {b} m t d (r_proto r) = item_more b (units.proto m t d) by_proto r
behind_params {b} m t d (r_fun (r_body {ss} {xs} {ys} e r)) = item_more b (units.fun m t d (units.block (reads_blocks.read ss xs ys e))) by_fun r

in_params : {b : Before} {ms : List ModifierWord} {ty : Option TypeName} {w : List ℕ} {l l' : ℕ} {is : List ItemTree} {ts us vs : List Seen}
    → SpellsMods ms ts us → SpellsTypeIf ty us (word w l ∷ mark OpenParen l' ∷ vs) → Rest (NeedParam b (head (first_line ts) ms ty w)) is vs → More b is ts
in_params m t (r_no_params r) = behind_params m t units.no_params r
in_params m t (r_first d r) = let q = param_rest {ps = []} refl d r in behind_params m t (units.params q.spelled) q.rest

typed_more : {b : Before} {ms : List ModifierWord} {t : BaseWord} {l : ℕ} {is : List ItemTree} {ts us : List Seen} → SpellsMods ms ts (reserved (words.Base t) l ∷ us) → Rest (Typed b (first_line ts) ms t (AtOne [])) is us → More b is ts
typed_more {b} {us} m (r_var {l} {ds} {ys} e r) = item_more b (units.var m (reads_names.read ds l us ys e)) by_var r
typed_more m (r_head s r) = in_params m (type_given (type_of s.2)) r

-- one more modifier behind the others
mods_push : {ms : List ModifierWord} {m : ModifierWord} {l : ℕ} {ts us : List Seen} → SpellsMods ms ts (reserved (words.Modifier m) l ∷ us) → SpellsMods (ms ++ m ∷ []) ts us
mods_push no_mod = mod_word no_mod
mods_push (mod_word d) = mod_word (mods_push d)

-- some modifiers were read
mods_more : {b : Before} {line : ℕ} {ms : List ModifierWord} {is : List ItemTree} {ts us : List Seen} → line ≡ first_line ts → SpellsMods ms ts us → Rest (Modified b line ms) is us → More b is ts
mods_more e m (r_mod r) = mods_more e (mods_push m) r
mods_more {b} {ms} {is} e m (r_base {t} {xs} r) = typed_more m (subst (λ k. Rest (Typed b k ms t (AtOne [])) is xs) e r)
mods_more {b} {ms} {is} e m (r_name {w} (r_open {xs} r)) = in_params m no_type (subst (λ k. Rest (NeedParam b (untyped_head k ms w)) is xs) e r)

-- the state that is next has its rest
abbrev pub RestOnSome : Option State → List ItemTree → List Seen → Type 0
RestOnSome None is xs = ⊥
RestOnSome (Some next) is xs = Rest next is xs

abbrev on : Sort → ℕ → Seen
on k l = record { sort = k; line = l }

as_top : {b : Before} {is : List ItemTree} {ts : List Seen} → More b is ts → Rest (Top b) is ts
as_top m = r_top m.1 m.2

inherit_more : (done : List ItemTree) {line l l' : ℕ} {w : List ℕ} {is : List ItemTree} {xs : List Seen} → Rest (Top (record { done = done ++ Inherit line w ∷ []; phase = Inherits })) is xs → More (record { done = done; phase = Inherits }) is (reserved words.Inherit line ∷ text w l ∷ mark Semicolon l' ∷ xs)
inherit_more done {line} {w} (r_top {more} m e) = (Inherit line w ∷ more, item units.inherit by_inherit m, e ∙ append_assoc done (Inherit line w ∷ []) more)

inherit_back : (p : Phase) (done : List ItemTree) (l : ℕ) (is : List ItemTree) (xs : List Seen) → RestOnSome (inherits p (record { done = done; phase = p }) l) is xs → Rest (Top (record { done = done; phase = p })) is (reserved words.Inherit l ∷ xs)
inherit_back Inherits done l is xs (r_path (r_inherit r)) = as_top (inherit_more done r)
inherit_back Definitions done l is xs r = absurd r

word_back : (k : Keyword) (l : ℕ) (b : Before) (is : List ItemTree) (xs : List Seen) → RestOnSome (word_at_top k l b) is xs → Rest (Top b) is (reserved k l ∷ xs)
word_back (words.Modifier m) l b is xs r = as_top (mods_more refl (mod_word no_mod) r)
word_back (words.Base t) l b is xs r = as_top (typed_more no_mod r)
word_back words.Inherit l b is xs r = inherit_back b.phase b.done l is xs r
word_back _ l b is xs r = absurd r

top_back : (k : Sort) (l : ℕ) (b : Before) (is : List ItemTree) (xs : List Seen) → RestOnSome (at_top k l b) is xs → Rest (Top b) is (on k l ∷ xs)
top_back (sorts.Reserved k) l b is xs r = word_back k l b is xs r
top_back (sorts.Name w) l b is xs (r_open r) = as_top (in_params no_mod no_type r)
top_back _ l b is xs r = absurd r

path_back : (k : Sort) (l : ℕ) (b : Before) (line : ℕ) (is : List ItemTree) (xs : List Seen) → RestOnSome (need_path k b line) is xs → Rest (NeedPath b line) is (on k l ∷ xs)
path_back (sorts.Text w) l b line is xs r = r_path r
path_back _ l b line is xs r = absurd r

end_back : (k : Sort) (l : ℕ) (b : Before) (line : ℕ) (w : List ℕ) (is : List ItemTree) (xs : List Seen) → RestOnSome (end_inherit k b line w) is xs → Rest (EndInherit b line w) is (on k l ∷ xs)
end_back (sorts.Mark Semicolon) l b line w is xs r = r_inherit r
end_back _ l b line w is xs r = absurd r

word_modified_back : (k : Keyword) (l : ℕ) (b : Before) (line : ℕ) (ms : List ModifierWord) (is : List ItemTree) (xs : List Seen) → RestOnSome (word_modified k b line ms) is xs → Rest (Modified b line ms) is (reserved k l ∷ xs)
word_modified_back (words.Modifier m) l b line ms is xs r = r_mod r
word_modified_back (words.Base t) l b line ms is xs r = r_base r
word_modified_back _ l b line ms is xs r = absurd r

modified_back : (k : Sort) (l : ℕ) (b : Before) (line : ℕ) (ms : List ModifierWord) (is : List ItemTree) (xs : List Seen) → RestOnSome (modified k b line ms) is xs → Rest (Modified b line ms) is (on k l ∷ xs)
modified_back (sorts.Reserved k) l b line ms is xs r = word_modified_back k l b line ms is xs r
modified_back (sorts.Name w) l b line ms is xs r = r_name r
modified_back _ l b line ms is xs r = absurd r

-- the name of a function stays what it is
abbrev HeadOnSome : Option Names → ℕ → List ℕ → List Seen → List Seen → Type 0
HeadOnSome None n w xs ys = ⊥
HeadOnSome (Some d) n w xs ys = TypedHead d n w xs ys

stars_as : {m n : ℕ} {ts us : List Seen} → m ≡ n → SpellsStars m ts us → SpellsStars n ts us
stars_as {ts} {us} e s = subst (λ k. SpellsStars k ts us) e s

name_one : {l l' n : ℕ} {w v : List ℕ} {xs ys : List Seen} → xs ≡ mark OpenParen l' ∷ ys → n ≡ 0 → w ≡ v → SpellsStars n (word v l ∷ xs) (word w l ∷ mark OpenParen l' ∷ ys)
name_one {l} {l'} {n} {w} {v} {xs} {ys} e f g = stars_as (sym f) (subst (λ zs. SpellsStars 0 (word v l ∷ xs) zs) (ap (λ u. word u l ∷ xs) (sym g) ∙ ap (λ zs. word w l ∷ zs) e) no_star)

one_head : (k : Sort) (l n : ℕ) (w : List ℕ) (xs ys : List Seen) → HeadOnSome (stmts.at_one k l []) n w xs ys → TypedHead (AtOne []) n w (on k l ∷ xs) ys
one_head (sorts.Mark (marks.Binary Mul)) l n w xs ys h = (h.1, h.2, stars_as (omega (arith, h.4)) (one_star h.3))
one_head (sorts.Name v) l n w xs ys h = (l, h.0, name_one h.1 h.2 h.3)
one_head _ l n w xs ys h = absurd h

stars_head : (k : Sort) (l at c n : ℕ) (w : List ℕ) (xs ys : List Seen) → HeadOnSome (stmts.at_stars k [] at c) n w xs ys → TypedHead (stmts.AtStars [] at c) n w (on k l ∷ xs) ys
stars_head (sorts.Mark (marks.Binary Mul)) l at c n w xs ys h = (suc h.0, h.1, h.2, one_star h.3, omega (arith, h.4))
stars_head (sorts.Name v) l at c n w xs ys h = (0, l, h.0, name_one h.1 refl h.3, omega (arith, h.2))
stars_head _ l at c n w xs ys h = absurd h

pushed_head : (done : List DeclaratorTree) (d : DeclaratorTree) (n : ℕ) (w : List ℕ) (xs ys : List Seen) → TypedHead (AtOne (done ++ d ∷ [])) n w xs ys → ⊥
pushed_head [] d n w xs ys h = h
pushed_head (y ∷ done) d n w xs ys h = h

no_one : (k : Sort) (l : ℕ) (y : DeclaratorTree) (done : List DeclaratorTree) (n : ℕ) (w : List ℕ) (xs ys : List Seen) → HeadOnSome (stmts.at_one k l (y ∷ done)) n w xs ys → ⊥
no_one (sorts.Mark (marks.Binary Mul)) l y done n w xs ys h = h
no_one (sorts.Name v) l y done n w xs ys h = h
no_one _ l y done n w xs ys h = h

no_stars : (k : Sort) (y : DeclaratorTree) (done : List DeclaratorTree) (at c n : ℕ) (w : List ℕ) (xs ys : List Seen) → HeadOnSome (stmts.at_stars k (y ∷ done) at c) n w xs ys → ⊥
no_stars (sorts.Mark (marks.Binary Mul)) y done at c n w xs ys h = h
no_stars (sorts.Name v) y done at c n w xs ys h = h
no_stars _ y done at c n w xs ys h = h

no_named : (k : Sort) (done : List DeclaratorTree) (at c : ℕ) (v : List ℕ) (n : ℕ) (w : List ℕ) (xs ys : List Seen) → HeadOnSome (stmts.named k done at c v) n w xs ys → ⊥
no_named (sorts.Mark (marks.Assign Set)) done at c v n w xs ys h = h
no_named (sorts.Mark Comma) done at c v n w xs ys h = pushed_head done _ n w xs ys h
no_named (sorts.Mark _) done at c v n w xs ys h = h
no_named _ done at c v n w xs ys h = h

no_valued : (m : Option Mark) (f : Option Tree) (done : List DeclaratorTree) (at c : ℕ) (v : List ℕ) (n : ℕ) (w : List ℕ) (xs ys : List Seen) → HeadOnSome (stmts.mark_valued m f done at c v) n w xs ys → ⊥
no_valued (Some Comma) (Some t) done at c v n w xs ys h = pushed_head done _ n w xs ys h
no_valued (Some Comma) None done at c v n w xs ys h = h
no_valued (Some _) f done at c v n w xs ys h = h
no_valued None f done at c v n w xs ys h = h

no_value : (o : Option expr.State) (f : Option Tree) (k : Sort) (done : List DeclaratorTree) (at c : ℕ) (v : List ℕ) (n : ℕ) (w : List ℕ) (xs ys : List Seen) → HeadOnSome (stmts.value_goes o f k done at c v) n w xs ys → ⊥
no_value (Some e) f k done at c v n w xs ys h = h
no_value None f k done at c v n w xs ys h = no_valued (mark_in k) f done at c v n w xs ys h

head_back : (d : Names) (k : Sort) (l n : ℕ) (w : List ℕ) (xs ys : List Seen) → HeadOnSome (names_step d (on k l)) n w xs ys → TypedHead d n w (on k l ∷ xs) ys
head_back (AtOne []) k l n w xs ys h = one_head k l n w xs ys h
head_back (AtOne (y ∷ done)) k l n w xs ys h = no_one k l y done n w xs ys h
head_back (stmts.AtStars [] at c) k l n w xs ys h = stars_head k l at c n w xs ys h
head_back (stmts.AtStars (y ∷ done) at c) k l n w xs ys h = no_stars k y done at c n w xs ys h
head_back (stmts.Named done at c v) k l n w xs ys h = absurd (no_named k done at c v n w xs ys h)
head_back (stmts.Valued done at c v e) k l n w xs ys h = no_value (expr.step e (on k l)) (expr.finished e) k done at c v n w xs ys h

var_back : (d next : Names) (x : Seen) (xs ys : List Seen) (ds : List DeclaratorTree) (l : ℕ) → names_step d x ≡ Some next → names_run next xs ≡ Some (record { ones = ds; rest = mark Semicolon l ∷ ys }) → names_run d (x ∷ xs) ≡ Some (record { ones = ds; rest = mark Semicolon l ∷ ys })
var_back d next x xs ys ds l e r = ap (λ o. names_then o (λ n. names_run n xs) (names_end (names_finished d) (x ∷ xs))) e ∙ r

going_back : {b : Before} {line : ℕ} {ms : List ModifierWord} {t : BaseWord} (d next : Names) (k : Sort) (l : ℕ) {is : List ItemTree} {xs : List Seen} → names_step d (on k l) ≡ Some next → Rest (Typed b line ms t next) is xs → Rest (Typed b line ms t d) is (on k l ∷ xs)
going_back d next k l {xs} e (r_var {l = l2} {ds} {ys} p r) = r_var (var_back d next (on k l) xs ys ds l2 e p) r
going_back d next k l {xs} e (r_head {n} {w} {ys} h r) = r_head (head_back d k l n w xs ys (subst (λ o. HeadOnSome o n w xs ys) (sym e) h)) r

-- names end before a semicolon
ending_back : (k : Sort) (l : ℕ) (b : Before) (line : ℕ) (ms : List ModifierWord) (t : BaseWord) (d : Names) (o : Option (List DeclaratorTree)) (is : List ItemTree) (xs : List Seen) → names_step d (on k l) ≡ None → names_finished d ≡ o
    → RestOnSome (after_names (mark_in k) o b line ms t) is xs → Rest (Typed b line ms t d) is (on k l ∷ xs)
ending_back (sorts.Mark Semicolon) l b line ms t d (Some ds) is xs e f r =
    r_var {ds = ds} {ys = xs} (ap (λ o. names_then o (λ n. names_run n xs) (names_end (names_finished d) (mark Semicolon l ∷ xs))) e ∙ ap (λ o. names_end o (mark Semicolon l ∷ xs)) f) r
ending_back (sorts.Mark Semicolon) l b line ms t d None is xs e f r = absurd r
ending_back (sorts.Mark _) l b line ms t d o is xs e f r = absurd r
ending_back _ l b line ms t d o is xs e f r = absurd r

first_named : (k : Sort) (l : ℕ) (b : Before) (line : ℕ) (ms : List ModifierWord) (t : BaseWord) (at n : ℕ) (w : List ℕ) (is : List ItemTree) (xs : List Seen) → names_step (stmts.Named [] at n w) (on k l) ≡ None
    → RestOnSome (typed_goes (is_paren (mark_in k)) (Some (typed_head line ms t n w)) (after_names (mark_in k) (names_finished (stmts.Named [] at n w)) b line ms t) b) is xs → Rest (Typed b line ms t (stmts.Named [] at n w)) is (on k l ∷ xs)
first_named (sorts.Mark OpenParen) l b line ms t at n w is xs e r = r_head (l, refl, refl, refl) r
first_named (sorts.Mark m) l b line ms t at n w is xs e r = ending_back (sorts.Mark m) l b line ms t (stmts.Named [] at n w) _ is xs e refl r
first_named _ l b line ms t at n w is xs e r = absurd r

-- where no function can begin
headless : (k : Sort) (l : ℕ) (b : Before) (line : ℕ) (ms : List ModifierWord) (t : BaseWord) (d : Names) (is : List ItemTree) (xs : List Seen) → names_step d (on k l) ≡ None
    → RestOnSome (typed_goes (is_paren (mark_in k)) None (after_names (mark_in k) (names_finished d) b line ms t) b) is xs → Rest (Typed b line ms t d) is (on k l ∷ xs)
headless k l b line ms t d is xs e r = ending_back k l b line ms t d (names_finished d) is xs e refl (subst (λ o. RestOnSome o is xs) (no_head (is_paren (mark_in k)) _ b) r)

stopped_back : (d : Names) (k : Sort) (l : ℕ) (b : Before) (line : ℕ) (ms : List ModifierWord) (t : BaseWord) (is : List ItemTree) (xs : List Seen) → names_step d (on k l) ≡ None
    → RestOnSome (typed_goes (is_paren (mark_in k)) (named_head d line ms t) (after_names (mark_in k) (names_finished d) b line ms t) b) is xs → Rest (Typed b line ms t d) is (on k l ∷ xs)
stopped_back (stmts.Named [] at n w) k l b line ms t is xs e r = first_named k l b line ms t at n w is xs e r
stopped_back (stmts.Named (y ∷ done) at n w) k l b line ms t is xs e r = headless k l b line ms t (stmts.Named (y ∷ done) at n w) is xs e r
stopped_back (AtOne done) k l b line ms t is xs e r = headless k l b line ms t (AtOne done) is xs e r
stopped_back (stmts.AtStars done at n) k l b line ms t is xs e r = headless k l b line ms t (stmts.AtStars done at n) is xs e r
stopped_back (stmts.Valued done at n w v) k l b line ms t is xs e r = headless k l b line ms t (stmts.Valued done at n w v) is xs e r

typed_back : (o : Option Names) (d : Names) (k : Sort) (l : ℕ) (b : Before) (line : ℕ) (ms : List ModifierWord) (t : BaseWord) (is : List ItemTree) (xs : List Seen) → names_step d (on k l) ≡ o
    → RestOnSome (step (Typed b line ms t d) (on k l)) is xs → Rest (Typed b line ms t d) is (on k l ∷ xs)
typed_back (Some next) d k l b line ms t is xs e r = going_back d next k l e (subst (λ o. RestOnSome o is xs) (typed_step b line ms t d next (on k l) e) r)
typed_back None d k l b line ms t is xs e r =
    stopped_back d k l b line ms t is xs e
    (subst (λ o. RestOnSome (typed_goes (is_paren (mark_in k)) (named_head d line ms t) (names_go o (mark_in k) (names_finished d) b line ms t) b) is xs) e r)

open_back : (k : Sort) (l : ℕ) (b : Before) (h : Head) (is : List ItemTree) (xs : List Seen) → RestOnSome (need_open k b h) is xs → Rest (NeedOpen b h) is (on k l ∷ xs)
open_back (sorts.Mark OpenParen) l b h is xs r = r_open r
open_back _ l b h is xs r = absurd r

params_as : {b : Before} {h : Head} (ps : List Param) (at : ℕ) (t : BaseWord) (w : List ℕ) {is : List ItemTree} {xs : List Seen} (m n : ℕ) → m ≡ n
    → Rest (BehindParam b h (ps ++ param at (Some (record { base = t; stars = m })) w ∷ [])) is xs → Rest (BehindParam b h (ps ++ param at (Some (record { base = t; stars = n })) w ∷ [])) is xs
params_as {b} {h} ps at t w {is} {xs} m n e r = subst (λ k. Rest (BehindParam b h (ps ++ param at (Some (record { base = t; stars = k })) w ∷ [])) is xs) e r

typed_param : {b : Before} {h : Head} {ps : List Param} {l : ℕ} {t : BaseWord} {is : List ItemTree} {xs : List Seen} → Rest (ParamStars b h ps l t 0) is xs → Rest (NextParam b h ps) is (reserved (words.Base t) l ∷ xs)
typed_param {ps} {l} {t} (r_param_stars {m} {w} s r) = r_next (units.param (type_given (type_of s))) (params_as ps l t w (0 + m) m (omega arith) r)

typed_first : {b : Before} {h : Head} {l : ℕ} {t : BaseWord} {is : List ItemTree} {xs : List Seen} → Rest (ParamStars b h [] l t 0) is xs → Rest (NeedParam b h) is (reserved (words.Base t) l ∷ xs)
typed_first {l} {t} (r_param_stars {m} {w} s r) = r_first (units.param (type_given (type_of s))) (params_as [] l t w (0 + m) m (omega arith) r)

next_back : (k : Sort) (l : ℕ) (b : Before) (h : Head) (ps : List Param) (is : List ItemTree) (xs : List Seen) → RestOnSome (next_param k l b h ps) is xs → Rest (NextParam b h ps) is (on k l ∷ xs)
next_back (sorts.Name w) l b h ps is xs r = r_next (units.param no_type) r
next_back (sorts.Reserved (words.Base t)) l b h ps is xs r = typed_param r
next_back _ l b h ps is xs r = absurd r

param_back : (k : Sort) (l : ℕ) (b : Before) (h : Head) (is : List ItemTree) (xs : List Seen) → RestOnSome (need_param k l b h) is xs → Rest (NeedParam b h) is (on k l ∷ xs)
param_back (sorts.Mark CloseParen) l b h is xs r = r_no_params r
param_back (sorts.Name w) l b h is xs r = r_first (units.param no_type) r
param_back (sorts.Reserved (words.Base t)) l b h is xs r = typed_first r
param_back _ l b h is xs r = absurd r

star_param : {b : Before} {h : Head} {ps : List Param} {l at n : ℕ} {t : BaseWord} {is : List ItemTree} {xs : List Seen} → Rest (ParamStars b h ps at t (suc n)) is xs → Rest (ParamStars b h ps at t n) is (mark (marks.Binary Mul) l ∷ xs)
star_param {ps} {at} {n} {t} (r_param_stars {m} {w} s r) = r_param_stars (one_star s) (params_as ps at t w (suc n + m) (n + suc m) (omega arith) r)

param_stars_back : (k : Sort) (l : ℕ) (b : Before) (h : Head) (ps : List Param) (at : ℕ) (t : BaseWord) (n : ℕ) (is : List ItemTree) (xs : List Seen) → RestOnSome (param_stars k b h ps at t n) is xs → Rest (ParamStars b h ps at t n) is (on k l ∷ xs)
param_stars_back (sorts.Mark (marks.Binary Mul)) l b h ps at t n is xs r = star_param r
param_stars_back (sorts.Name w) l b h ps at t n is xs r = r_param_stars no_star (params_as ps at t w n (n + 0) (omega arith) r)
param_stars_back _ l b h ps at t n is xs r = absurd r

behind_back : (k : Sort) (l : ℕ) (b : Before) (h : Head) (ps : List Param) (is : List ItemTree) (xs : List Seen) → RestOnSome (behind_param k b h ps) is xs → Rest (BehindParam b h ps) is (on k l ∷ xs)
behind_back (sorts.Mark Comma) l b h ps is xs r = r_comma r
behind_back (sorts.Mark CloseParen) l b h ps is xs r = r_params r
behind_back _ l b h ps is xs r = absurd r

have_back : (k : Sort) (l : ℕ) (b : Before) (h : Head) (ps : List Param) (is : List ItemTree) (xs : List Seen) → RestOnSome (have_params k l b h ps) is xs → Rest (HaveParams b h ps) is (on k l ∷ xs)
have_back (sorts.Mark Semicolon) l b h ps is xs r = r_proto r
have_back (sorts.Mark OpenBrace) l b h ps is xs r = r_fun r
have_back _ l b h ps is xs r = absurd r

-- a token in the block of a function
run_step : (st next : stmts.State) (x : Seen) (xs : List Seen) → stmts.step st x ≡ Some next → stmts.run st (x ∷ xs) ≡ stmts.run next xs
run_step (stmts.Over ss) next x xs e = cc
run_step st next x xs e = ap (λ o. option_and_then (λ n. stmts.run n xs) o) e

in_body : (b : Before) (h : Head) (ps : List Param) (line : ℕ) (st next : stmts.State) (x : Seen) (is : List ItemTree) (xs : List Seen) → stmts.step st x ≡ Some next → Rest (body b h ps line next) is xs → Rest (InBody b h ps line st) is (x ∷ xs)
in_body b h ps line st (stmts.Over ss) x is xs e r = r_body {ss = ss} {ys = xs} (run_step st (stmts.Over ss) x xs e) r
in_body b h ps line st next x is xs e (r_body {ss} {ys} p r) = r_body {ss = ss} {ys = ys} (run_step st next x xs e ∙ p) r

body_back : (o : Option stmts.State) (b : Before) (h : Head) (ps : List Param) (line : ℕ) (st : stmts.State) (x : Seen) (is : List ItemTree) (xs : List Seen) → stmts.step st x ≡ o → RestOnSome (option_map (body b h ps line) o) is xs → Rest (InBody b h ps line st) is (x ∷ xs)
body_back None b h ps line st x is xs e r = absurd r
body_back (Some next) b h ps line st x is xs e r = in_body b h ps line st next x is xs e r

-- A token before the rest of the state that it leads to is the rest of the state before.
pub step_back : (st : State) (k : Sort) (l : ℕ) (is : List ItemTree) (xs : List Seen) → RestOnSome (step st (on k l)) is xs → Rest st is (on k l ∷ xs)
step_back (Top b) k l is xs r = top_back k l b is xs r
step_back (NeedPath b line) k l is xs r = path_back k l b line is xs r
step_back (EndInherit b line w) k l is xs r = end_back k l b line w is xs r
step_back (Modified b line ms) k l is xs r = modified_back k l b line ms is xs r
step_back (Typed b line ms t d) k l is xs r = typed_back (names_step d (on k l)) d k l b line ms t is xs refl r
step_back (NeedOpen b h) k l is xs r = open_back k l b h is xs r
step_back (NeedParam b h) k l is xs r = param_back k l b h is xs r
step_back (NextParam b h ps) k l is xs r = next_back k l b h ps is xs r
step_back (ParamStars b h ps at t n) k l is xs r = param_stars_back k l b h ps at t n is xs r
step_back (BehindParam b h ps) k l is xs r = behind_back k l b h ps is xs r
step_back (HaveParams b h ps) k l is xs r = have_back k l b h ps is xs r
step_back (InBody b h ps line st) k l is xs r = body_back (stmts.step st (on k l)) b h ps line st (on k l) is xs refl r

append_end : (l : List ItemTree) → l ++ [] ≡ l
append_end [] = refl
append_end (x ∷ l) = ap (λ m. x ∷ m) (append_end l)

some_items : {a c : List ItemTree} → Some a ≡ Some c → a ≡ c
some_items e = cc

then_rest : (o : Option State) (st : State) (k : Sort) (l : ℕ) (xs : List Seen) (is : List ItemTree) → step st (on k l) ≡ o → ((next : State) → run next xs ≡ Some is → Rest next is xs) → option_and_then (λ n. run n xs) o ≡ Some is → Rest st is (on k l ∷ xs)
then_rest None st k l xs is q ih e = cc
then_rest (Some next) st k l xs is q ih e = step_back st k l is xs (subst (λ o. RestOnSome o is xs) (sym q) (ih next e))

pub run_rest : (st : State) (xs : List Seen) (is : List ItemTree) → run st xs ≡ Some is → Rest st is xs
run_rest (Top b) [] is e = r_top no_item (sym (some_items e) ∙ sym (append_end b.done))
run_rest st [] is e = cc
run_rest st (x ∷ xs) is e = then_rest (step st x) st x.sort x.line xs is refl (λ next p. run_rest next xs is p) e

pub rest_spelled : {is : List ItemTree} {ts : List Seen} → Rest start is ts → SpellsItems Inherits is ts
rest_spelled {ts} (r_top m e) = subst (λ l. SpellsItems Inherits l ts) (sym e) m
