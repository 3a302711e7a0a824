-- The machine of units, moved by one token at a time.
use Rattle.std.specs.Prelude.{ℕ, suc, List, [], ◌∷◌, ◌++◌, Bool, true, false, Option, Some, None, option_and_then, option_map}
use Rattle.lp_tree.specs.declared.keyword.Modifier.{Modifier as ModifierWord}
use Rattle.lp_tree.specs.declared.keyword.Base.{Base as BaseWord}
use Rattle.lp_tree.specs.declared.keyword.Keyword.{Keyword}
use Rattle.lp_tree.specs.declared.keyword.Keyword.TheVariants as words
use Rattle.lp_tree.specs.declared.operator.BinOp.TheVariants.{Mul}
use Rattle.lp_tree.specs.declared.token.Mark.{Mark}
use Rattle.lp_tree.specs.declared.token.Mark.TheVariants as marks
use Rattle.lp_tree.specs.declared.token.Mark.TheVariants.{OpenParen, CloseParen, OpenBrace, Comma, Semicolon}
use Rattle.lp_tree.specs.declared.types.TypeName.{TypeName}
use Rattle.lp_tree.specs.declared.seen.Sort.{Sort}
use Rattle.lp_tree.specs.declared.seen.Sort.TheVariants as sorts
use Rattle.lp_tree.specs.declared.seen.Seen.{Seen}
use Rattle.lp_tree.specs.declared.unit.Param.{Param}
use Rattle.lp_tree.specs.Statements.{DeclaratorTree, StmtTrees}
use Rattle.lp_tree.specs.Units.{ItemTree, Inherit, Proto, Fun, Var, Phase, Inherits, Definitions}
use Rattle.lp_parser_stmt.specs.Machine as stmts
use Rattle.lp_parser_stmt.specs.Machine.{Names, AtOne, names_step, names_finished, mark_in}

-- the items that were read, and which may come
pub record Before : Type 0 where
  pub done : List ItemTree
  pub phase : Phase

-- a variable or a function ends the phase in which an `inherit` may come
abbrev pub turned : Phase → ItemTree → Phase
turned p (Inherit line w) = p
turned p (Proto line ms ty w ps) = p
turned p (Fun line ms ty w ps b) = Definitions
turned p (Var line ms b ds) = Definitions

abbrev pub with_item : Before → ItemTree → Before
with_item b i = record { done = b.done ++ i ∷ []; phase = turned b.phase i }

-- a function up to its parameters
pub record Head : Type 0 where
  pub line : ℕ
  pub mods : List ModifierWord
  pub type_name : Option TypeName
  pub name : List ℕ

-- what the machine waits for
pub data State : Type 0 where
  -- an item, or the end
  Top : (before : Before) → State
  -- the path of an `inherit`
  NeedPath : (before : Before) (line : ℕ) → State
  -- the semicolon behind it
  EndInherit : (before : Before) (line : ℕ) (path : List ℕ) → State
  -- behind modifiers
  Modified : (before : Before) (line : ℕ) (mods : List ModifierWord) → State
  -- behind a type word: names of variables, or of a function
  Typed : (before : Before) (line : ℕ) (mods : List ModifierWord) (base : BaseWord) (names : Names) → State
  -- the parenthesis behind the name of a function without a type
  NeedOpen : (before : Before) (head : Head) → State
  -- the first parameter, or the end of none
  NeedParam : (before : Before) (head : Head) → State
  -- a parameter behind a comma
  NextParam : (before : Before) (head : Head) (params : List Param) → State
  -- a star of its type, or its name
  ParamStars : (before : Before) (head : Head) (params : List Param) (at : ℕ) (base : BaseWord) (stars : ℕ) → State
  -- what stands behind it
  BehindParam : (before : Before) (head : Head) (params : List Param) → State
  -- the semicolon of a prototype, or the brace of a function
  HaveParams : (before : Before) (head : Head) (params : List Param) → State
  -- a token of the block of a function
  InBody : (before : Before) (head : Head) (params : List Param) (line : ℕ) (body : stmts.State) → State

abbrev pub untyped_head : ℕ → List ModifierWord → List ℕ → Head
untyped_head line ms w = record { line = line; mods = ms; type_name = None; name = w }

abbrev pub typed_head : ℕ → List ModifierWord → BaseWord → ℕ → List ℕ → Head
typed_head line ms t n w = record { line = line; mods = ms; type_name = Some (record { base = t; stars = n }); name = w }

-- `inherit`, where one may come
abbrev pub inherits : Phase → Before → ℕ → Option State
inherits Inherits b line = Some (NeedPath b line)
inherits Definitions b line = None

abbrev pub word_at_top : Keyword → ℕ → Before → Option State
word_at_top (words.Modifier m) l b = Some (Modified b l (m ∷ []))
word_at_top (words.Base t) l b = Some (Typed b l [] t (AtOne []))
word_at_top words.Inherit l b = inherits b.phase b l
word_at_top _ l b = None

abbrev pub at_top : Sort → ℕ → Before → Option State
at_top (sorts.Reserved k) l b = word_at_top k l b
at_top (sorts.Name w) l b = Some (NeedOpen b (untyped_head l [] w))
at_top _ l b = None

abbrev pub need_path : Sort → Before → ℕ → Option State
need_path (sorts.Text w) b line = Some (EndInherit b line w)
need_path _ b line = None

abbrev pub end_inherit : Sort → Before → ℕ → List ℕ → Option State
end_inherit (sorts.Mark Semicolon) b line w = Some (Top (with_item b (Inherit line w)))
end_inherit _ b line w = None

abbrev pub word_modified : Keyword → Before → ℕ → List ModifierWord → Option State
word_modified (words.Modifier m) b line ms = Some (Modified b line (ms ++ m ∷ []))
word_modified (words.Base t) b line ms = Some (Typed b line ms t (AtOne []))
word_modified _ b line ms = None

abbrev pub modified : Sort → Before → ℕ → List ModifierWord → Option State
modified (sorts.Reserved k) b line ms = word_modified k b line ms
modified (sorts.Name w) b line ms = Some (NeedOpen b (untyped_head line ms w))
modified _ b line ms = None

-- names that may be that of a function, and its stars
abbrev pub named_head : Names → ℕ → List ModifierWord → BaseWord → Option Head
named_head (stmts.Named [] l n w) line ms t = Some (typed_head line ms t n w)
named_head _ line ms t = None

abbrev pub is_paren : Option Mark → Bool
is_paren (Some OpenParen) = true
is_paren _ = false

abbrev pub after_names : Option Mark → Option (List DeclaratorTree) → Before → ℕ → List ModifierWord → BaseWord → Option State
after_names (Some Semicolon) (Some ds) b line ms t = Some (Top (with_item b (Var line ms t ds)))
after_names _ ds b line ms t = None

abbrev pub names_go : Option Names → Option Mark → Option (List DeclaratorTree) → Before → ℕ → List ModifierWord → BaseWord → Option State
names_go (Some d) m ds b line ms t = Some (Typed b line ms t d)
names_go None m ds b line ms t = after_names m ds b line ms t

-- a parenthesis behind the first name begins the parameters of a function
abbrev pub typed_goes : Bool → Option Head → Option State → Before → Option State
typed_goes true (Some h) o b = Some (NeedParam b h)
typed_goes _ h o b = o

abbrev pub need_open : Sort → Before → Head → Option State
need_open (sorts.Mark OpenParen) b h = Some (NeedParam b h)
need_open _ b h = None

abbrev pub param : ℕ → Option TypeName → List ℕ → Param
param line ty w = record { line = line; type_name = ty; name = w }

-- a parameter begins
abbrev pub next_param : Sort → ℕ → Before → Head → List Param → Option State
next_param (sorts.Name w) l b h ps = Some (BehindParam b h (ps ++ param l None w ∷ []))
next_param (sorts.Reserved (words.Base t)) l b h ps = Some (ParamStars b h ps l t 0)
next_param _ l b h ps = None

abbrev pub need_param : Sort → ℕ → Before → Head → Option State
need_param (sorts.Mark CloseParen) l b h = Some (HaveParams b h [])
need_param k l b h = next_param k l b h []

abbrev pub param_stars : Sort → Before → Head → List Param → ℕ → BaseWord → ℕ → Option State
param_stars (sorts.Mark (marks.Binary Mul)) b h ps at t n = Some (ParamStars b h ps at t (suc n))
param_stars (sorts.Name w) b h ps at t n = Some (BehindParam b h (ps ++ param at (Some (record { base = t; stars = n })) w ∷ []))
param_stars _ b h ps at t n = None

abbrev pub behind_param : Sort → Before → Head → List Param → Option State
behind_param (sorts.Mark Comma) b h ps = Some (NextParam b h ps)
behind_param (sorts.Mark CloseParen) b h ps = Some (HaveParams b h ps)
behind_param _ b h ps = None

abbrev pub proto_of : Head → List Param → ItemTree
proto_of h ps = Proto h.line h.mods h.type_name h.name ps

abbrev pub fun_of : Head → List Param → ℕ → StmtTrees → ItemTree
fun_of h ps line ss = Fun h.line h.mods h.type_name h.name ps (record { line = line; stmts = ss })

-- a state of the machine of statements, in the block of a function
abbrev pub body : Before → Head → List Param → ℕ → stmts.State → State
body b h ps line (stmts.Over ss) = Top (with_item b (fun_of h ps line ss))
body b h ps line st = InBody b h ps line st

abbrev pub have_params : Sort → ℕ → Before → Head → List Param → Option State
have_params (sorts.Mark Semicolon) l b h ps = Some (Top (with_item b (proto_of h ps)))
have_params (sorts.Mark OpenBrace) l b h ps = Some (InBody b h ps l stmts.start)
have_params _ l b h ps = None

-- one token
abbrev pub step : State → Seen → Option State
step (Top b) x = at_top x.sort x.line b
step (NeedPath b line) x = need_path x.sort b line
step (EndInherit b line w) x = end_inherit x.sort b line w
step (Modified b line ms) x = modified x.sort b line ms
step (Typed b line ms t d) x = typed_goes (is_paren (mark_in x.sort)) (named_head d line ms t) (names_go (names_step d x) (mark_in x.sort) (names_finished d) b line ms t) b
step (NeedOpen b h) x = need_open x.sort b h
step (NeedParam b h) x = need_param x.sort x.line b h
step (NextParam b h ps) x = next_param x.sort x.line b h ps
step (ParamStars b h ps at t n) x = param_stars x.sort b h ps at t n
step (BehindParam b h ps) x = behind_param x.sort b h ps
step (HaveParams b h ps) x = have_params x.sort x.line b h ps
step (InBody b h ps line st) x = option_map (body b h ps line) (stmts.step st x)

-- where a unit begins
abbrev pub start : State
start = Top (record { done = []; phase = Inherits })

-- the items, where what was read is a whole unit
abbrev pub finished : State → Option (List ItemTree)
finished (Top b) = Some b.done
finished _ = None

-- the items that the tokens make from here, where they make a unit
abbrev pub run : State → List Seen → Option (List ItemTree)
run st [] = finished st
run st (x ∷ xs) = option_and_then (λ next. run next xs) (step st x)

-- where the tokens lead
abbrev pub walk : State → List Seen → Option State
walk st [] = Some st
walk st (x ∷ xs) = option_and_then (λ next. walk next xs) (step st x)
