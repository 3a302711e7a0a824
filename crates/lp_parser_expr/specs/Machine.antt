-- The machine: a stack of open productions, moved by one token at a time.
use Rattle.std.specs.Prelude.{ℕ, suc, List, [], ◌∷◌, ◌++◌, Option, Some, None, option_and_then, nat_le, if◌then◌else◌, codes, bytes_eq}
use Rattle.lp_tree.specs.declared.keyword.Keyword.{Keyword}
use Rattle.lp_tree.specs.declared.keyword.Keyword.TheVariants as words
use Rattle.lp_tree.specs.declared.keyword.Base.{Base as BaseWord}
use Rattle.lp_tree.specs.declared.operator.UnOp.{UnOp}
use Rattle.lp_tree.specs.declared.operator.UnOp.TheVariants.{Not, Flip, Neg}
use Rattle.lp_tree.specs.declared.operator.BinOp.{BinOp}
use Rattle.lp_tree.specs.declared.operator.BinOp.TheVariants.{Sub, Lt, Mul}
use Rattle.lp_tree.specs.declared.operator.AssignOp.{AssignOp}
use Rattle.lp_tree.specs.declared.operator.Step.{Step}
use Rattle.lp_tree.specs.declared.types.TypeName.{TypeName}
use Rattle.lp_tree.specs.declared.expr.Edge.{Edge}
use Rattle.lp_tree.specs.declared.expr.Edge.TheVariants.{Front, Back}
use Rattle.lp_tree.specs.declared.token.Mark.{Mark}
use Rattle.lp_tree.specs.declared.token.Mark.TheVariants as marks
use Rattle.lp_tree.specs.declared.token.Mark.TheVariants.{OpenParen, CloseParen, OpenBrace, CloseBrace, OpenBracket, CloseBracket, Comma, Colon, ColonColon, DotDot, Arrow, Question}
use Rattle.lp_tree.specs.declared.seen.Sort.{Sort}
use Rattle.lp_tree.specs.declared.seen.Sort.TheVariants as sorts
use Rattle.lp_tree.specs.declared.seen.Seen.{Seen}
use Rattle.lp_parser_expr.specs.declared.infix.Infix.{Infix}
use Rattle.lp_parser_expr.specs.declared.infix.Infix.TheVariants.{Plain, And, Or}
use Rattle.lp_tree.specs.Trees.{Tree, Int, Text, Name, Paren, Array, Mapping, Call, EfunCall, ParentCall, NamedParentCall, Catch, Sscanf, Index, Range, CallOther, PostStep, PreStep, Unary, Cast, Binary, AndThen, OrElse, Cond, Assign, Sequence, Trees, NoTree, End, Open, At, trees, pairs, level, line_of, is_place}

-- whose function a call names, and the line of its first token
pub data Callee : Type 0 where
  Function : (line : ℕ) → Callee
  Efun : (line : ℕ) → Callee
  Parent : (line : ℕ) → Callee
  NamedParent : (line : ℕ) (parent : List ℕ) → Callee
  Other : (of : Tree) → Callee

-- the call of a function of this name
abbrev pub called : Callee → List ℕ → Trees → Tree
called (Function line) w args = Call line w args
called (Efun line) w args = EfunCall line w args
called (Parent line) w args = ParentCall line w args
called (NamedParent line p) w args = NamedParentCall line p w args
called (Other of) w args = CallOther (line_of of) of w args

-- the level of an operator between two operands
abbrev pub infix_level : Infix → ℕ
infix_level (Plain op) = level op
infix_level And = 5
infix_level Or = 4

abbrev pub infix_mark : Infix → Mark
infix_mark (Plain op) = marks.Binary op
infix_mark And = marks.AndThen
infix_mark Or = marks.OrElse

abbrev pub infix_tree : Infix → Tree → Tree → Tree
infix_tree (Plain op) l r = Binary (line_of l) op l r
infix_tree And l r = AndThen (line_of l) l r
infix_tree Or l r = OrElse (line_of l) l r

-- a production that was begun: what is known of it, the next part being open
pub data Frame : Type 0 where
  -- an assign that ends by what stands round it, as an initialiser
  Alone : Frame
  InParen : (line : ℕ) → Frame
  InArray : (line : ℕ) (done : List Tree) → Frame
  AtKey : (line : ℕ) (done : List (Tree × Tree)) → Frame
  AtValue : (line : ℕ) (done : List (Tree × Tree)) (key : Tree) → Frame
  InArgs : (callee : Callee) (name : List ℕ) (done : List Tree) → Frame
  InCatch : (line : ℕ) → Frame
  ScanText : (line : ℕ) → Frame
  ScanForm : (line : ℕ) (text : Tree) → Frame
  ScanPlaces : (line : ℕ) (text form : Tree) (done : List Tree) → Frame
  InIndex : (of : Tree) (edge : Edge) → Frame
  InRange : (of : Tree) (from : End) (edge : Edge) → Frame
  Stepping : (line : ℕ) (step : Step) → Frame
  UnaryOf : (line : ℕ) (op : UnOp) → Frame
  Casting : (line : ℕ) (to : TypeName) → Frame
  LeftOf : (op : Infix) (left : Tree) → Frame
  Testing : (test : Tree) → Frame
  Choosing : (test yes : Tree) → Frame
  Assigning : (op : AssignOp) (place : Tree) → Frame
  InSequence : (line : ℕ) (done : List Tree) → Frame

-- the open productions, the innermost first
abbrev pub Stack : Type 0
Stack = List Frame

-- the least level of the open part
abbrev pub wants : Frame → ℕ
wants (InParen line) = 0
wants (InCatch line) = 0
wants (InIndex of e) = 0
wants (InRange of a e) = 0
wants (Testing t) = 0
wants (ScanPlaces line t f done) = 15
wants (Stepping line s) = 15
wants (UnaryOf line op) = 14
wants (Casting line ty) = 14
wants (LeftOf op l) = suc (infix_level op)
wants (Choosing t y) = 3
wants _ = 2

abbrev pub wants_of : Stack → ℕ
wants_of [] = 0
wants_of (f ∷ s) = wants f

-- a token below this level ends the production; 0 where only a token of its own does
abbrev pub needs : Frame → ℕ
needs (Stepping line s) = 15
needs (UnaryOf line op) = 14
needs (Casting line ty) = 14
needs (LeftOf op l) = suc (infix_level op)
needs (Choosing t y) = 3
needs (Assigning op p) = 2
needs (InSequence line done) = 1
needs _ = 0

abbrev pub needs_of : Stack → ℕ
needs_of [] = 0
needs_of (f ∷ s) = needs f

-- a production with its last part, where that part may stand there
abbrev pub plug : Frame → Tree → Option Tree
plug (Stepping line s) t = if is_place t then Some (PreStep line s t) else None
plug (UnaryOf line op) t = Some (Unary line op t)
plug (Casting line ty) t = Some (Cast line ty t)
plug (LeftOf op l) t = Some (infix_tree op l t)
plug (Choosing c y) t = Some (Cond (line_of c) c y t)
plug (Assigning op p) t = Some (Assign (line_of p) op p t)
plug (InSequence line done) t = Some (Sequence line (trees (done ++ t ∷ [])))
plug _ t = None

-- an operand on a stack
pub record Held : Type 0 where
  pub tree : Tree
  pub stack : Stack

-- ends the productions that a token of level p ends
abbrev pub settle : ℕ → Tree → Stack → Option Held
settle p t [] = Some (record { tree = t; stack = [] })
settle p t (f ∷ s) = if nat_le (needs f) p then Some (record { tree = t; stack = f ∷ s }) else option_and_then (λ u. settle p u s) (plug f t)

-- what the machine waits for
pub data State : Type 0 where
  -- an operand
  Need : (stack : Stack) → State
  -- a token behind an operand
  Have : (tree : Tree) (stack : Stack) → State
  -- a star, or the parenthesis that ends a cast
  EndCast : (line : ℕ) (to : TypeName) (stack : Stack) → State
  -- the parenthesis that ends a literal
  EndLiteral : (literal : Tree) (stack : Stack) → State
  -- the name of a function
  NeedName : (callee : Callee) (stack : Stack) → State
  -- the parenthesis that begins this production
  NeedParen : (frame : Frame) (stack : Stack) → State

-- the level of a token: the least level of the operand before it
abbrev pub binds_mark : Mark → ℕ
binds_mark (marks.Binary op) = level op
binds_mark marks.AndThen = 5
binds_mark marks.OrElse = 4
binds_mark Question = 4
binds_mark (marks.Assign op) = 2
binds_mark Comma = 1
binds_mark OpenParen = 15
binds_mark OpenBracket = 15
binds_mark ColonColon = 15
binds_mark Arrow = 15
binds_mark (marks.Step s) = 15
binds_mark _ = 0

abbrev pub binds : Sort → ℕ
binds (sorts.Mark m) = binds_mark m
binds _ = 0

-- `)` where an operand may be missing
abbrev pub empty_paren : Stack → Option State
empty_paren (InArgs c w done ∷ s) = Some (Have (called c w (trees done)) s)
empty_paren (ScanPlaces line t f done ∷ s) = Some (Have (Sscanf line t f (trees done)) s)
empty_paren _ = None

-- `}` where an operand may be missing
abbrev pub empty_brace : Stack → Option State
empty_brace (InArray line done ∷ s) = Some (EndLiteral (Array line (trees done)) s)
empty_brace _ = None

-- `]` where an operand may be missing
abbrev pub empty_bracket : Stack → Option State
empty_bracket (AtKey line done ∷ s) = Some (EndLiteral (Mapping line (pairs done)) s)
empty_bracket (InRange of a Front ∷ s) = Some (Have (Range (line_of of) of a Open) s)
empty_bracket _ = None

-- `{` behind `(`
abbrev pub opened_brace : Stack → Option State
opened_brace (InParen line ∷ s) = Some (Need (InArray line [] ∷ s))
opened_brace _ = None

-- `[` behind `(`
abbrev pub opened_bracket : Stack → Option State
opened_bracket (InParen line ∷ s) = Some (Need (AtKey line [] ∷ s))
opened_bracket _ = None

-- `..` without a start
abbrev pub begun_range : Stack → Option State
begun_range (InIndex of Front ∷ s) = Some (Need (InRange of Open Front ∷ s))
begun_range _ = None

-- `<` before an index
abbrev pub counted_back : Stack → Option State
counted_back (InIndex of Front ∷ s) = Some (Need (InIndex of Back ∷ s))
counted_back (InRange of a Front ∷ s) = Some (Need (InRange of a Back ∷ s))
counted_back _ = None

-- a prefix operator may not stand where a postfix expression is wanted
abbrev pub prefixed : UnOp → ℕ → Stack → Option State
prefixed op line s = if nat_le (wants_of s) 14 then Some (Need (UnaryOf line op ∷ s)) else None

abbrev pub stepping : Step → ℕ → Stack → Option State
stepping step line s = if nat_le (wants_of s) 14 then Some (Need (Stepping line step ∷ s)) else None

-- a cast may not stand there either
abbrev pub begun_cast : BaseWord → ℕ → Stack → Option State
begun_cast b line s = if nat_le (wants_of s) 14 then Some (EndCast line (record { base = b; stars = 0 }) s) else None

abbrev pub begin_base : BaseWord → Stack → Option State
begin_base b (InParen line ∷ s) = begun_cast b line s
begin_base b _ = None

abbrev pub begin_op : BinOp → ℕ → Stack → Option State
begin_op Sub line s = prefixed Neg line s
begin_op Lt line s = counted_back s
begin_op _ line s = None

abbrev pub begin_mark : Mark → ℕ → Stack → Option State
begin_mark OpenParen line s = Some (Need (InParen line ∷ s))
begin_mark CloseParen line s = empty_paren s
begin_mark OpenBrace line s = opened_brace s
begin_mark CloseBrace line s = empty_brace s
begin_mark OpenBracket line s = opened_bracket s
begin_mark CloseBracket line s = empty_bracket s
begin_mark ColonColon line s = Some (NeedName (Parent line) s)
begin_mark DotDot line s = begun_range s
begin_mark marks.Not line s = prefixed Not line s
begin_mark marks.Flip line s = prefixed Flip line s
begin_mark (marks.Binary op) line s = begin_op op line s
begin_mark (marks.Step step) line s = stepping step line s
begin_mark _ line s = None

abbrev pub begin_word : Keyword → ℕ → Stack → Option State
begin_word (words.Base b) line s = begin_base b s
begin_word words.Catch line s = Some (NeedParen (InCatch line) s)
begin_word words.Sscanf line s = Some (NeedParen (ScanText line) s)
begin_word _ line s = None

-- what a token makes where an operand is waited for
abbrev pub begin : Sort → ℕ → Stack → Option State
begin (sorts.Name w) line s = Some (Have (Name line w) s)
begin (sorts.Text w) line s = Some (Have (Text line w) s)
begin (sorts.Int n) line s = Some (Have (Int line n) s)
begin (sorts.Mark m) line s = begin_mark m line s
begin (sorts.Reserved k) line s = begin_word k line s
begin sorts.Wrong line s = None

-- an operator, where what it makes may stand
abbrev pub infixed : Infix → Tree → Stack → Option State
infixed op t s = if nat_le (wants_of s) (infix_level op) then Some (Need (LeftOf op t ∷ s)) else None

abbrev pub tested : Tree → Stack → Option State
tested t s = if nat_le (wants_of s) 3 then Some (Need (Testing t ∷ s)) else None

abbrev pub assigned_to : AssignOp → Tree → Stack → Option State
assigned_to op t s = if nat_le (wants_of s) 2 then Some (Need (Assigning op t ∷ s)) else None

abbrev pub assigned : AssignOp → Tree → Stack → Option State
assigned op t s = if is_place t then assigned_to op t s else None

abbrev pub stepped : Step → Tree → Stack → Option State
stepped step t s = if is_place t then Some (Have (PostStep (line_of t) step t) s) else None

-- a parenthesis behind a name
abbrev pub opened : Tree → Stack → Option State
opened (Name line w) s = Some (Need (InArgs (Function line) w [] ∷ s))
opened _ s = None

-- `::` behind `efun` or behind a text
abbrev pub scoped : Tree → Stack → Option State
scoped (Name line w) s = if bytes_eq w (codes "efun") then Some (NeedName (Efun line) s) else None
scoped (Text line p) s = Some (NeedName (NamedParent line p) s)
scoped _ s = None

abbrev pub scanned : ℕ → Tree → Tree → List Tree → Tree → Stack → Option State
scanned line t f done p s = if is_place p then Some (Have (Sscanf line t f (trees (done ++ p ∷ []))) s) else None

-- `)` behind an operand
abbrev pub closed : Tree → Stack → Option State
closed t (InParen line ∷ s) = Some (Have (Paren line t) s)
closed t (InArgs c w done ∷ s) = Some (Have (called c w (trees (done ++ t ∷ []))) s)
closed t (InCatch line ∷ s) = Some (Have (Catch line t) s)
closed t (ScanForm line text ∷ s) = Some (Have (Sscanf line text t NoTree) s)
closed t (ScanPlaces line text form done ∷ s) = scanned line text form done t s
closed t _ = None

-- `}` behind an operand
abbrev pub ended_brace : Tree → Stack → Option State
ended_brace t (InArray line done ∷ s) = Some (EndLiteral (Array line (trees (done ++ t ∷ []))) s)
ended_brace t _ = None

-- `]` behind an operand
abbrev pub ended_bracket : Tree → Stack → Option State
ended_bracket t (AtValue line done k ∷ s) = Some (EndLiteral (Mapping line (pairs (done ++ (k, t) ∷ []))) s)
ended_bracket t (InIndex of e ∷ s) = Some (Have (Index (line_of of) of e t) s)
ended_bracket t (InRange of a e ∷ s) = Some (Have (Range (line_of of) of a (At e t)) s)
ended_bracket t _ = None

-- `..` behind an operand
abbrev pub after_dots : Tree → Stack → Option State
after_dots t (InIndex of e ∷ s) = Some (Need (InRange of (At e t) Front ∷ s))
after_dots t _ = None

-- `:` behind an operand
abbrev pub after_colon : Tree → Stack → Option State
after_colon t (Testing c ∷ s) = Some (Need (Choosing c t ∷ s))
after_colon t (AtKey line done ∷ s) = Some (Need (AtValue line done t ∷ s))
after_colon t _ = None

abbrev pub next_place : ℕ → Tree → Tree → List Tree → Tree → Stack → Option State
next_place line t f done p s = if is_place p then Some (Need (ScanPlaces line t f (done ++ p ∷ []) ∷ s)) else None

-- a comma begins a sequence where one may stand
abbrev pub begun_sequence : Tree → Stack → Option State
begun_sequence t s = if nat_le (wants_of s) 0 then Some (Need (InSequence (line_of t) (t ∷ []) ∷ s)) else None

-- `,` behind an operand
abbrev pub after_comma : Tree → Stack → Option State
after_comma t (InArray line done ∷ s) = Some (Need (InArray line (done ++ t ∷ []) ∷ s))
after_comma t (AtValue line done k ∷ s) = Some (Need (AtKey line (done ++ (k, t) ∷ []) ∷ s))
after_comma t (InArgs c w done ∷ s) = Some (Need (InArgs c w (done ++ t ∷ []) ∷ s))
after_comma t (ScanText line ∷ s) = Some (Need (ScanForm line t ∷ s))
after_comma t (ScanForm line text ∷ s) = Some (Need (ScanPlaces line text t [] ∷ s))
after_comma t (ScanPlaces line text form done ∷ s) = next_place line text form done t s
after_comma t (InSequence line done ∷ s) = Some (Need (InSequence line (done ++ t ∷ []) ∷ s))
after_comma t s = begun_sequence t s

-- what a mark makes of an operand whose inner productions are ended
abbrev pub act_mark : Mark → Tree → Stack → Option State
act_mark (marks.Binary op) t s = infixed (Plain op) t s
act_mark marks.AndThen t s = infixed And t s
act_mark marks.OrElse t s = infixed Or t s
act_mark (marks.Assign op) t s = assigned op t s
act_mark (marks.Step step) t s = stepped step t s
act_mark Question t s = tested t s
act_mark OpenParen t s = opened t s
act_mark OpenBracket t s = Some (Need (InIndex t Front ∷ s))
act_mark Arrow t s = Some (NeedName (Other t) s)
act_mark ColonColon t s = scoped t s
act_mark CloseParen t s = closed t s
act_mark CloseBrace t s = ended_brace t s
act_mark CloseBracket t s = ended_bracket t s
act_mark DotDot t s = after_dots t s
act_mark Colon t s = after_colon t s
act_mark Comma t s = after_comma t s
act_mark _ t s = None

abbrev pub act : Sort → Tree → Stack → Option State
act (sorts.Mark m) t s = act_mark m t s
act _ t s = None

abbrev pub act_held : Sort → Held → Option State
act_held k h = act k h.tree h.stack

-- one more star, or the end of a cast
abbrev pub end_cast : Sort → ℕ → TypeName → Stack → Option State
end_cast (sorts.Mark (marks.Binary Mul)) line ty s = Some (EndCast line (record { base = ty.base; stars = suc ty.stars }) s)
end_cast (sorts.Mark CloseParen) line ty s = Some (Need (Casting line ty ∷ s))
end_cast _ line ty s = None

abbrev pub end_literal : Sort → Tree → Stack → Option State
end_literal (sorts.Mark CloseParen) t s = Some (Have t s)
end_literal _ t s = None

abbrev pub need_name : Sort → Callee → Stack → Option State
need_name (sorts.Name w) c s = Some (NeedParen (InArgs c w []) s)
need_name _ c s = None

abbrev pub need_paren : Sort → Frame → Stack → Option State
need_paren (sorts.Mark OpenParen) f s = Some (Need (f ∷ s))
need_paren _ f s = None

-- one token
abbrev pub step : State → Seen → Option State
step (Need s) x = begin x.sort x.line s
step (Have t s) x = option_and_then (act_held x.sort) (settle (binds x.sort) t s)
step (EndCast line ty s) x = end_cast x.sort line ty s
step (EndLiteral t s) x = end_literal x.sort t s
step (NeedName c s) x = need_name x.sort c s
step (NeedParen f s) x = need_paren x.sort f s

abbrev pub whole : Tree → Stack → Option Tree
whole t [] = Some t
whole t (Alone ∷ []) = Some t
whole t _ = None

abbrev pub whole_held : Held → Option Tree
whole_held h = whole h.tree h.stack

-- the tree, where what was read is a whole expression
abbrev pub finished : State → Option Tree
finished (Have t s) = option_and_then whole_held (settle 0 t s)
finished _ = None

-- the tree that the tokens make from here, where they make one
abbrev pub run : State → List Seen → Option Tree
run st [] = finished st
run st (x ∷ xs) = option_and_then (λ next. run next xs) (step st x)

-- where the tokens lead
abbrev pub walk : State → List Seen → Option State
walk st [] = Some st
walk st (x ∷ xs) = option_and_then (λ next. walk next xs) (step st x)
