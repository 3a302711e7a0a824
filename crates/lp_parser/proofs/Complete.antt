-- What is spelled is read: units.
use Rattle.std.proofs.Common.{◌≡◌, ℕ, suc, ◌+◌, List, [], ◌∷◌, ◌++◌, Bool, true, false, refl, ap, sym, ◌∙◌, arith}
use Rattle.std.specs.Prelude.{Option, Some, None, option_and_then, option_map}
use Rattle.std.proofs.lemmas.List.{append_assoc}
use Rattle.lp_tree.specs.declared.keyword.Modifier.{Modifier as ModifierWord}
use Rattle.lp_tree.specs.declared.keyword.Base.{Base as BaseWord}
use Rattle.lp_tree.specs.declared.keyword.Keyword.TheVariants as words
use Rattle.lp_tree.specs.declared.token.Mark.TheVariants.{OpenParen, CloseParen, Semicolon}
use Rattle.lp_tree.specs.declared.types.TypeName.{TypeName}
use Rattle.lp_tree.specs.declared.seen.Sort.{Sort}
use Rattle.lp_tree.specs.declared.seen.Sort.TheVariants as sorts
use Rattle.lp_tree.specs.declared.seen.Seen.{Seen}
use Rattle.lp_tree.specs.declared.unit.Param.{Param}
use Rattle.lp_tree.specs.Seen.{word, text, mark, reserved, first_line}
use Rattle.lp_tree.specs.Types.{SpellsStars, none as no_star, one_more as one_star, typed as type_of}
use Rattle.lp_tree.specs.Statements.{DeclaratorTree, StmtTrees, SpellsStmts, in_function}
use Rattle.lp_tree.specs.Units as units
use Rattle.lp_tree.specs.Units.{ItemTree, Var, Phase, SpellsMods, no_mod, mod_word, SpellsTypeIf, no_type, type_given, SpellsParam, SpellsParams, one_param, more_params, SpellsParamsIf, SpellsItem, Turns, by_proto, by_inherit, by_fun, by_var, SpellsItems, no_item, item}
use Rattle.lp_parser_stmt.specs.Machine as stmts
use Rattle.lp_parser_stmt.specs.Machine.{Names, AtOne, names_step, names_finished, names_run, names_end, names_then, ReadNames, Read, mark_in}
use Rattle.lp_parser_stmt.proofs.Laws.{reads_names, reads_blocks}
use Rattle.lp_parser.specs.Machine.{Before, turned, with_item, Head, typed_head, State, Top, Modified, Typed, NeedParam, NextParam, ParamStars, BehindParam, HaveParams, InBody, inherits, named_head, is_paren, after_names, names_go, typed_goes, param, fun_of, body, step, run}

abbrev pub goes : Option State → List Seen → Option (List ItemTree)
goes o xs = option_and_then (λ next. run next xs) o

-- the block of a function
abbrev pub body_read : Before → Head → List Param → ℕ → Option Read → Option (List ItemTree)
body_read b h ps line None = None
body_read b h ps line (Some r) = run (Top (with_item b (fun_of h ps line r.stmts))) r.rest

body_goes : (b : Before) (h : Head) (ps : List Param) (line : ℕ) (o : Option stmts.State) (xs : List Seen) → ((st : stmts.State) → run (body b h ps line st) xs ≡ body_read b h ps line (stmts.run st xs))
    → goes (option_map (body b h ps line) o) xs ≡ body_read b h ps line (option_and_then (λ next. stmts.run next xs) o)
body_goes b h ps line None xs ih = refl
body_goes b h ps line (Some st) xs ih = ih st

pub body_run : (b : Before) (h : Head) (ps : List Param) (line : ℕ) (st : stmts.State) (xs : List Seen) → run (body b h ps line st) xs ≡ body_read b h ps line (stmts.run st xs)
body_run b h ps line (stmts.Over ss) xs = refl
body_run b h ps line st [] = refl
body_run b h ps line st (x ∷ xs) = body_goes b h ps line (stmts.step st x) xs (λ next. body_run b h ps line next xs)

mods_run : {ms : List ModifierWord} {ts us : List Seen} → SpellsMods ms ts us → (b : Before) (line : ℕ) (done : List ModifierWord) → run (Modified b line done) ts ≡ run (Modified b line (done ++ ms)) us
mods_run {us} no_mod b line done = ap (λ l. run (Modified b line l) us) (sym (append_end done))
  where
    append_end : (l : List ModifierWord) → l ++ [] ≡ l
    append_end [] = refl
    append_end (x ∷ l) = ap (λ m. x ∷ m) (append_end l)
mods_run {us} (mod_word {m} {ms} d) b line done = mods_run d b line (done ++ m ∷ []) ∙ ap (λ l. run (Modified b line l) us) (append_assoc done (m ∷ []) ms)

stars_run : {n l l' : ℕ} {w : List ℕ} {ts us : List Seen} → SpellsStars n ts (word w l ∷ mark OpenParen l' ∷ us) → (b : Before) (line : ℕ) (ms : List ModifierWord) (t : BaseWord) (at k all : ℕ) → all ≡ k + n
    → run (Typed b line ms t (stmts.AtStars [] at k)) ts ≡ run (NeedParam b (typed_head line ms t all w)) us
stars_run {w} {us} no_star b line ms t at k all e = ap (λ m. run (NeedParam b (typed_head line ms t m w)) us) (omega (arith, e))
stars_run (one_star d) b line ms t at k all e = stars_run d b line ms t at (suc k) all (omega (arith, e))

typed_run : {n l l' : ℕ} {w : List ℕ} {ts us : List Seen} → SpellsStars n ts (word w l ∷ mark OpenParen l' ∷ us) → (b : Before) (line : ℕ) (ms : List ModifierWord) (t : BaseWord)
    → run (Typed b line ms t (AtOne [])) ts ≡ run (NeedParam b (typed_head line ms t n w)) us
typed_run no_star b line ms t = refl
typed_run (one_star {n} {l} d) b line ms t = stars_run d b line ms t l 1 (suc n) (omega arith)

abbrev head : ℕ → List ModifierWord → Option TypeName → List ℕ → Head
head line ms ty w = record { line = line; mods = ms; type_name = ty; name = w }

modified_run : {ty : Option TypeName} {w : List ℕ} {l l' : ℕ} {ts us : List Seen} → SpellsTypeIf ty ts (word w l ∷ mark OpenParen l' ∷ us) → (b : Before) (line : ℕ) (ms : List ModifierWord) → run (Modified b line ms) ts ≡ run (NeedParam b (head line ms ty w)) us
modified_run no_type b line ms = refl
modified_run (type_given (type_of {b = t} d)) b line ms = typed_run d b line ms t

head_run : {ms : List ModifierWord} {ty : Option TypeName} {w : List ℕ} {l l' : ℕ} {ts us vs : List Seen} → SpellsMods ms ts us → SpellsTypeIf ty us (word w l ∷ mark OpenParen l' ∷ vs) → (b : Before)
    → run (Top b) ts ≡ run (NeedParam b (head (first_line ts) ms ty w)) vs
head_run no_mod no_type b = refl
head_run no_mod (type_given (type_of {b = t} {l} d)) b = typed_run d b l [] t
head_run (mod_word {m} {ms} {l} d) e b = mods_run d b l (m ∷ []) ∙ modified_run e b l (m ∷ ms)

param_stars_run : {n l : ℕ} {w : List ℕ} {ts us : List Seen} → SpellsStars n ts (word w l ∷ us) → (b : Before) (h : Head) (ps : List Param) (at : ℕ) (t : BaseWord) (k all : ℕ) → all ≡ k + n
    → run (ParamStars b h ps at t k) ts ≡ run (BehindParam b h (ps ++ param at (Some (record { base = t; stars = all })) w ∷ [])) us
param_stars_run {w} {us} no_star b h ps at t k all e = ap (λ m. run (BehindParam b h (ps ++ param at (Some (record { base = t; stars = m })) w ∷ [])) us) (omega (arith, e))
param_stars_run (one_star d) b h ps at t k all e = param_stars_run d b h ps at t (suc k) all (omega (arith, e))

param_run : {p : Param} {ts us : List Seen} → SpellsParam p ts us → (b : Before) (h : Head) (ps : List Param) → run (NextParam b h ps) ts ≡ run (BehindParam b h (ps ++ p ∷ [])) us
param_run (units.param no_type) b h ps = refl
param_run (units.param (type_given (type_of {b = t} {n} {l} d))) b h ps = param_stars_run d b h ps l t 0 n (omega arith)

first_run : {p : Param} {ts us : List Seen} → SpellsParam p ts us → (b : Before) (h : Head) → run (NeedParam b h) ts ≡ run (BehindParam b h (p ∷ [])) us
first_run (units.param no_type) b h = refl
first_run (units.param (type_given (type_of {b = t} {n} {l} d))) b h = param_stars_run d b h [] l t 0 n (omega arith)

more_run : {ps : List Param} {l : ℕ} {ts us : List Seen} → SpellsParams ps ts (mark CloseParen l ∷ us) → (b : Before) (h : Head) (done : List Param) → run (NextParam b h done) ts ≡ run (HaveParams b h (done ++ ps)) us
more_run (one_param d) b h done = param_run d b h done
more_run {us} (more_params {p} {ps} d e) b h done = param_run d b h done ∙ more_run e b h (done ++ p ∷ []) ∙ ap (λ l. run (HaveParams b h l) us) (append_assoc done (p ∷ []) ps)

params_run : {ps : List Param} {l : ℕ} {ts us : List Seen} → SpellsParamsIf ps ts (mark CloseParen l ∷ us) → (b : Before) (h : Head) → run (NeedParam b h) ts ≡ run (HaveParams b h ps) us
params_run units.no_params b h = refl
params_run (units.params (one_param d)) b h = first_run d b h
params_run (units.params (more_params {p} d e)) b h = first_run d b h ∙ more_run e b h (p ∷ [])

block_run : {ss : StmtTrees} {ts us : List Seen} → SpellsStmts in_function ss ts us → (b : Before) (h : Head) (ps : List Param) (line : ℕ) → run (InBody b h ps line stmts.start) ts ≡ run (Top (with_item b (fun_of h ps line ss))) us
block_run {ss} {ts} {us} d b h ps line = body_run b h ps line stmts.start ts ∙ ap (body_read b h ps line) (reads_blocks.spelled ss ts us d)

-- While names go on, no parenthesis ends them.
no_paren : (k : Sort) (line n : ℕ) (w : List ℕ) (d : Names) → stmts.named k [] line n w ≡ Some d → is_paren (mark_in k) ≡ false
no_paren (sorts.Mark OpenParen) line n w d e = cc
no_paren (sorts.Mark _) line n w d e = refl
no_paren _ line n w d e = refl

goes_same : (h : Option Head) (c : Bool) (o : Option State) (b : Before) → c ≡ false → typed_goes c h o b ≡ o
goes_same h true o b e = cc
goes_same (Some h) false o b e = refl
goes_same None false o b e = refl

pub no_head : (c : Bool) (o : Option State) (b : Before) → typed_goes c None o b ≡ o
no_head true o b = refl
no_head false o b = refl

pub typed_step : (b : Before) (line : ℕ) (ms : List ModifierWord) (t : BaseWord) (d next : Names) (x : Seen) → names_step d x ≡ Some next → step (Typed b line ms t d) x ≡ Some (Typed b line ms t next)
typed_step b line ms t (AtOne done) next x e = no_head (is_paren (mark_in x.sort)) _ b ∙ ap (λ o. names_go o (mark_in x.sort) None b line ms t) e
typed_step b line ms t (stmts.AtStars done at n) next x e = no_head (is_paren (mark_in x.sort)) _ b ∙ ap (λ o. names_go o (mark_in x.sort) None b line ms t) e
typed_step b line ms t (stmts.Named [] at n w) next x e =
    goes_same (Some (typed_head line ms t n w)) (is_paren (mark_in x.sort)) _ b (no_paren x.sort at n w next e) ∙ ap (λ o. names_go o (mark_in x.sort) (names_finished (stmts.Named [] at n w)) b line ms t) e
typed_step b line ms t (stmts.Named (y ∷ ys) at n w) next x e = no_head (is_paren (mark_in x.sort)) _ b ∙ ap (λ o. names_go o (mark_in x.sort) (names_finished (stmts.Named (y ∷ ys) at n w)) b line ms t) e
typed_step b line ms t (stmts.Valued done at n w v) next x e = no_head (is_paren (mark_in x.sort)) _ b ∙ ap (λ o. names_go o (mark_in x.sort) (names_finished (stmts.Valued done at n w v)) b line ms t) e

semicolon_goes : (h : Option Head) (o : Option State) (b : Before) → typed_goes false h o b ≡ o
semicolon_goes h o b = goes_same h false o b refl

some_names : {a c : ReadNames} → Some a ≡ Some c → a ≡ c
some_names e = cc

-- names that end before a semicolon
ended_run : (b : Before) (line : ℕ) (ms : List ModifierWord) (t : BaseWord) (d : Names) (o : Option (List DeclaratorTree)) (ds : List DeclaratorTree) (l : ℕ) (x : Seen) (xs ys : List Seen) → names_step d x ≡ None → names_finished d ≡ o
    → names_end o (x ∷ xs) ≡ Some (record { ones = ds; rest = mark Semicolon l ∷ ys }) → run (Typed b line ms t d) (x ∷ xs) ≡ run (Top (with_item b (Var line ms t ds))) ys
ended_run b line ms t d None ds l x xs ys s f e = cc
ended_run b line ms t d (Some cs) ds l x xs ys s f e =
    let same = some_names e in
    let ones : cs ≡ ds = ap (λ r. r.ones) same in
    let rest : x ∷ xs ≡ mark Semicolon l ∷ ys = ap (λ r. r.rest) same in
    let stop : names_step d (mark Semicolon l) ≡ None = ap (names_step d) (sym (first_same rest)) ∙ s in
    ap (run (Typed b line ms t d)) rest
    ∙ ap (λ p. goes p ys) (semicolon_goes (named_head d line ms t) _ b)
    ∙ ap (λ p. goes (names_go p (Some Semicolon) (names_finished d) b line ms t) ys) stop
    ∙ ap (λ p. goes (after_names (Some Semicolon) p b line ms t) ys) (f ∙ ap (λ v. Some v) ones)
  where
    first_same : {p q : Seen} {ps qs : List Seen} → p ∷ ps ≡ q ∷ qs → p ≡ q
    first_same k = cc

names_go_on : (b : Before) (line : ℕ) (ms : List ModifierWord) (t : BaseWord) (d : Names) (o : Option Names) (ds : List DeclaratorTree) (l : ℕ) (x : Seen) (xs ys : List Seen) → names_step d x ≡ o
    → ((next : Names) → names_run next xs ≡ Some (record { ones = ds; rest = mark Semicolon l ∷ ys }) → run (Typed b line ms t next) xs ≡ run (Top (with_item b (Var line ms t ds))) ys)
    → names_then o (λ next. names_run next xs) (names_end (names_finished d) (x ∷ xs)) ≡ Some (record { ones = ds; rest = mark Semicolon l ∷ ys }) → run (Typed b line ms t d) (x ∷ xs) ≡ run (Top (with_item b (Var line ms t ds))) ys
names_go_on b line ms t d None ds l x xs ys s ih e = ended_run b line ms t d (names_finished d) ds l x xs ys s refl e
names_go_on b line ms t d (Some next) ds l x xs ys s ih e = ap (λ p. goes p xs) (typed_step b line ms t d next x s) ∙ ih next e

pub var_run : (b : Before) (line : ℕ) (ms : List ModifierWord) (t : BaseWord) (d : Names) (ds : List DeclaratorTree) (l : ℕ) (xs ys : List Seen) → names_run d xs ≡ Some (record { ones = ds; rest = mark Semicolon l ∷ ys })
    → run (Typed b line ms t d) xs ≡ run (Top (with_item b (Var line ms t ds))) ys
var_run b line ms t d ds l [] ys e = cc
var_run b line ms t d ds l (x ∷ xs) ys e = names_go_on b line ms t d (names_step d x) ds l x xs ys refl (λ next p. var_run b line ms t next ds l xs ys p) e

base_run : {ms : List ModifierWord} {t : BaseWord} {l : ℕ} {ts us : List Seen} → SpellsMods ms ts (reserved (words.Base t) l ∷ us) → (b : Before) → run (Top b) ts ≡ run (Typed b (first_line ts) ms t (AtOne [])) us
base_run no_mod b = refl
base_run (mod_word {m} {ms} {l} d) b = mods_run d b l (m ∷ [])

turns_so : {p q : Phase} {i : ItemTree} → Turns p i q → q ≡ turned p i
turns_so by_proto = refl
turns_so by_inherit = refl
turns_so by_fun = refl
turns_so by_var = refl

item_run : {i : ItemTree} {ts us : List Seen} {p q : Phase} → SpellsItem i ts us → Turns p i q → (b : Before) → b.phase ≡ p → run (Top b) ts ≡ run (Top (with_item b i)) us
item_run (units.inherit {w} {line} {l} {l'} {rest}) by_inherit b e = ap (λ p. goes (inherits p b line) (text w l ∷ mark Semicolon l' ∷ rest)) e
item_run (units.proto m t ps) by_proto b e = head_run m t b ∙ params_run ps b _
item_run (units.fun {ps} m t d (units.block {line} s)) by_fun b e = head_run m t b ∙ params_run d b _ ∙ block_run s b _ ps line
item_run {ts} (units.var {ms} {b = t} {ds} {l'} {us} {rest} m d) by_var b e =
    base_run m b ∙ var_run b (first_line ts) ms t (AtOne []) ds l' us rest (reads_names.spelled ds l' us rest d)

pub items_run : {p : Phase} {is : List ItemTree} {ts : List Seen} → SpellsItems p is ts → (b : Before) → b.phase ≡ p → run (Top b) ts ≡ Some (b.done ++ is)
items_run no_item b e = ap (λ l. Some l) (sym (append_end b.done))
  where
    append_end : (l : List ItemTree) → l ++ [] ≡ l
    append_end [] = refl
    append_end (x ∷ l) = ap (λ m. x ∷ m) (append_end l)
items_run (item {p} {i} {is} d t r) b e =
    item_run d t b e ∙ items_run r (with_item b i) (ap (λ k. turned k i) e ∙ sym (turns_so t)) ∙ ap (λ l. Some l) (append_assoc b.done (i ∷ []) is)
