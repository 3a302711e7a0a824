-- Which tokens spell which expression.
use Rattle.std.specs.Prelude.{ℕ, ℤ, ◌≤◌, ◌<◌, List, ◌∷◌, IsTrue, codes}
use Rattle.lp_tree.specs.declared.keyword.Keyword.TheVariants as words
use Rattle.lp_tree.specs.declared.operator.UnOp.{UnOp}
use Rattle.lp_tree.specs.declared.operator.UnOp.TheVariants.{Not, Flip, Neg}
use Rattle.lp_tree.specs.declared.operator.BinOp.{BinOp}
use Rattle.lp_tree.specs.declared.operator.BinOp.TheVariants.{Sub, Lt}
use Rattle.lp_tree.specs.declared.operator.AssignOp.{AssignOp}
use Rattle.lp_tree.specs.declared.operator.Step.{Step}
use Rattle.lp_tree.specs.declared.types.TypeName.{TypeName}
use Rattle.lp_tree.specs.declared.expr.Edge.{Edge}
use Rattle.lp_tree.specs.declared.expr.Edge.TheVariants.{Front, Back}
use Rattle.lp_tree.specs.declared.token.Mark.{Mark}
use Rattle.lp_tree.specs.declared.token.Mark.TheVariants as marks
use Rattle.lp_tree.specs.declared.token.Mark.TheVariants.{OpenParen, CloseParen, OpenBrace, CloseBrace, OpenBracket, CloseBracket, Comma, Colon, ColonColon, DotDot, Arrow, Question}
use Rattle.lp_tree.specs.declared.seen.Seen.{Seen}
use Rattle.lp_tree.specs.Seen.{word, text, integer, mark, reserved}
use Rattle.lp_tree.specs.Types.{SpellsType}
use Rattle.lp_tree.specs.Trees.{Tree, Int, Text, Name, Paren, Array, Mapping, Call, EfunCall, ParentCall, NamedParentCall, Catch, Sscanf, Index, Range, CallOther, PostStep, PreStep, Unary, Cast, Binary, AndThen, OrElse, Cond, Assign, Sequence, Trees, NoTree, OneMore, Pairs, NoPair, OnePair, End, Open, At, level, rank, line_of, is_place}

-- which mark is which prefix operator
pub data IsUnary : Mark → UnOp → Type 0 where
  exclamation : IsUnary marks.Not Not
  tilde : IsUnary marks.Flip Flip
  minus : IsUnary (marks.Binary Sub) Neg

-- a `<` before an index counts from the end
pub data SpellsEdge : Edge → List Seen → List Seen → Type 0 where
  from_front : {rest : List Seen} → SpellsEdge Front rest rest
  from_back : {l : ℕ} {rest : List Seen} → SpellsEdge Back (mark (marks.Binary Lt) l ∷ rest) rest

-- Spells t ts rest: the tokens of ts before rest spell t. One case per production.
mutual
  pub data Spells : Tree → List Seen → List Seen → Type 0 where
    int : {line : ℕ} {n : ℤ} {rest : List Seen} → Spells (Int line n) (integer n line ∷ rest) rest
    string : {line : ℕ} {w : List ℕ} {rest : List Seen} → Spells (Text line w) (text w line ∷ rest) rest
    name : {line : ℕ} {w : List ℕ} {rest : List Seen} → Spells (Name line w) (word w line ∷ rest) rest
    -- (expr)
    paren : {line l : ℕ} {t : Tree} {ts rest : List Seen}
        → Spells t ts (mark CloseParen l ∷ rest) → Spells (Paren line t) (mark OpenParen line ∷ ts) rest
    -- ({ a, b, })
    array : {line l l' : ℕ} {items : Trees} {ts rest : List Seen}
        → SpellsItems CloseBrace items ts (mark CloseParen l' ∷ rest) → Spells (Array line items) (mark OpenParen line ∷ mark OpenBrace l ∷ ts) rest
    -- ([ k: v, ])
    mapping : {line l l' : ℕ} {pairs : Pairs} {ts rest : List Seen}
        → SpellsPairs pairs ts (mark CloseParen l' ∷ rest) → Spells (Mapping line pairs) (mark OpenParen line ∷ mark OpenBracket l ∷ ts) rest
    -- NAME(args)
    call : {line l : ℕ} {w : List ℕ} {args : Trees} {ts rest : List Seen}
        → SpellsItems CloseParen args ts rest → Spells (Call line w args) (word w line ∷ mark OpenParen l ∷ ts) rest
    -- efun::NAME(args)
    efun_call : {line l l' l'' : ℕ} {w : List ℕ} {args : Trees} {ts rest : List Seen}
        → SpellsItems CloseParen args ts rest
        → Spells (EfunCall line w args) (word (codes "efun") line ∷ mark ColonColon l ∷ word w l' ∷ mark OpenParen l'' ∷ ts) rest
    -- ::NAME(args)
    parent_call : {line l l' : ℕ} {w : List ℕ} {args : Trees} {ts rest : List Seen}
        → SpellsItems CloseParen args ts rest → Spells (ParentCall line w args) (mark ColonColon line ∷ word w l ∷ mark OpenParen l' ∷ ts) rest
    -- TEXT::NAME(args)
    named_parent_call : {line l l' l'' : ℕ} {p w : List ℕ} {args : Trees} {ts rest : List Seen}
        → SpellsItems CloseParen args ts rest
        → Spells (NamedParentCall line p w args) (text p line ∷ mark ColonColon l ∷ word w l' ∷ mark OpenParen l'' ∷ ts) rest
    -- catch(expr)
    catch : {line l l' : ℕ} {t : Tree} {ts rest : List Seen}
        → Spells t ts (mark CloseParen l' ∷ rest) → Spells (Catch line t) (reserved words.Catch line ∷ mark OpenParen l ∷ ts) rest
    -- sscanf(assign, assign, place, place)
    sscanf : {line l l' : ℕ} {t f : Tree} {places : Trees} {ts us vs rest : List Seen}
        → Spells t ts (mark Comma l' ∷ us) → 2 ≤ rank t → Spells f us vs → 2 ≤ rank f → SpellsPlaces places vs rest
        → Spells (Sscanf line t f places) (reserved words.Sscanf line ∷ mark OpenParen l ∷ ts) rest
    -- postfix [index]
    index : {t i : Tree} {e : Edge} {l l' : ℕ} {ts us vs rest : List Seen}
        → Spells t ts (mark OpenBracket l ∷ us) → 15 ≤ rank t → SpellsEdge e us vs
        → Spells i vs (mark CloseBracket l' ∷ rest) → Spells (Index (line_of t) t e i) ts rest
    -- postfix [[index] .. [index]]
    range : {t : Tree} {a b : End} {l l' l'' : ℕ} {ts us vs rest : List Seen}
        → Spells t ts (mark OpenBracket l ∷ us) → 15 ≤ rank t → SpellsEnd a us (mark DotDot l' ∷ vs)
        → SpellsEnd b vs (mark CloseBracket l'' ∷ rest) → Spells (Range (line_of t) t a b) ts rest
    -- postfix -> NAME(args)
    call_other : {t : Tree} {w : List ℕ} {args : Trees} {l l' l'' : ℕ} {ts us rest : List Seen}
        → Spells t ts (mark Arrow l ∷ word w l' ∷ mark OpenParen l'' ∷ us) → 15 ≤ rank t
        → SpellsItems CloseParen args us rest → Spells (CallOther (line_of t) t w args) ts rest
    -- place ++
    post_step : {t : Tree} {s : Step} {l : ℕ} {ts rest : List Seen}
        → Spells t ts (mark (marks.Step s) l ∷ rest) → IsTrue (is_place t) → Spells (PostStep (line_of t) s t) ts rest
    -- ++ place
    pre_step : {t : Tree} {s : Step} {line : ℕ} {ts rest : List Seen}
        → Spells t ts rest → IsTrue (is_place t) → Spells (PreStep line s t) (mark (marks.Step s) line ∷ ts) rest
    -- ! prefix
    unary : {t : Tree} {m : Mark} {op : UnOp} {line : ℕ} {ts rest : List Seen}
        → IsUnary m op → Spells t ts rest → 14 ≤ rank t → Spells (Unary line op t) (mark m line ∷ ts) rest
    -- (type) prefix
    cast : {t : Tree} {ty : TypeName} {line l : ℕ} {ts us rest : List Seen}
        → SpellsType ty ts (mark CloseParen l ∷ us) → Spells t us rest → 14 ≤ rank t → Spells (Cast line ty t) (mark OpenParen line ∷ ts) rest
    -- left to right: the right operand is tighter
    binary : {op : BinOp} {l r : Tree} {at : ℕ} {ts us rest : List Seen}
        → Spells l ts (mark (marks.Binary op) at ∷ us) → level op ≤ rank l
        → Spells r us rest → level op < rank r → Spells (Binary (line_of l) op l r) ts rest
    and_then : {l r : Tree} {at : ℕ} {ts us rest : List Seen}
        → Spells l ts (mark marks.AndThen at ∷ us) → 5 ≤ rank l → Spells r us rest → 5 < rank r → Spells (AndThen (line_of l) l r) ts rest
    or_else : {l r : Tree} {at : ℕ} {ts us rest : List Seen}
        → Spells l ts (mark marks.OrElse at ∷ us) → 4 ≤ rank l → Spells r us rest → 4 < rank r → Spells (OrElse (line_of l) l r) ts rest
    -- or ? expr : cond
    cond : {t y n : Tree} {at colon : ℕ} {ts us vs rest : List Seen}
        → Spells t ts (mark Question at ∷ us) → 4 ≤ rank t → Spells y us (mark Colon colon ∷ vs)
        → Spells n vs rest → 3 ≤ rank n → Spells (Cond (line_of t) t y n) ts rest
    -- place = assign
    assign : {p v : Tree} {op : AssignOp} {at : ℕ} {ts us rest : List Seen}
        → Spells p ts (mark (marks.Assign op) at ∷ us) → IsTrue (is_place p)
        → Spells v us rest → 2 ≤ rank v → Spells (Assign (line_of p) op p v) ts rest
    -- assign, assign, assign
    sequence : {t : Tree} {parts : Trees} {l : ℕ} {ts us rest : List Seen}
        → Spells t ts (mark Comma l ∷ us) → 2 ≤ rank t → SpellsParts parts us rest → Spells (Sequence (line_of t) (OneMore t parts)) ts rest

  -- the parts of a sequence behind its first
  pub data SpellsParts : Trees → List Seen → List Seen → Type 0 where
    final : {t : Tree} {ts rest : List Seen} → Spells t ts rest → 2 ≤ rank t → SpellsParts (OneMore t NoTree) ts rest
    further : {t : Tree} {parts : Trees} {l : ℕ} {ts us rest : List Seen}
        → Spells t ts (mark Comma l ∷ us) → 2 ≤ rank t → SpellsParts parts us rest → SpellsParts (OneMore t parts) ts rest

  -- items up to a closing mark, with that mark; a comma may stand behind the last
  pub data SpellsItems : Mark → Trees → List Seen → List Seen → Type 0 where
    none : {m : Mark} {l : ℕ} {rest : List Seen} → SpellsItems m NoTree (mark m l ∷ rest) rest
    last : {m : Mark} {t : Tree} {l : ℕ} {ts rest : List Seen}
        → Spells t ts (mark m l ∷ rest) → 2 ≤ rank t → SpellsItems m (OneMore t NoTree) ts rest
    more : {m : Mark} {t : Tree} {us : Trees} {l : ℕ} {ts rest rest' : List Seen}
        → Spells t ts (mark Comma l ∷ rest) → 2 ≤ rank t → SpellsItems m us rest rest' → SpellsItems m (OneMore t us) ts rest'

  -- pairs up to `]`, with that mark; a comma may stand behind the last
  pub data SpellsPairs : Pairs → List Seen → List Seen → Type 0 where
    no_pair : {l : ℕ} {rest : List Seen} → SpellsPairs NoPair (mark CloseBracket l ∷ rest) rest
    last_pair : {k v : Tree} {l l' : ℕ} {ts us rest : List Seen}
        → Spells k ts (mark Colon l ∷ us) → 2 ≤ rank k → Spells v us (mark CloseBracket l' ∷ rest) → 2 ≤ rank v
        → SpellsPairs (OnePair k v NoPair) ts rest
    more_pairs : {k v : Tree} {ps : Pairs} {l l' : ℕ} {ts us vs rest : List Seen}
        → Spells k ts (mark Colon l ∷ us) → 2 ≤ rank k → Spells v us (mark Comma l' ∷ vs) → 2 ≤ rank v
        → SpellsPairs ps vs rest → SpellsPairs (OnePair k v ps) ts rest

  -- places, each behind a comma, up to `)`, with that mark; a comma may stand behind all
  pub data SpellsPlaces : Trees → List Seen → List Seen → Type 0 where
    no_place : {l : ℕ} {rest : List Seen} → SpellsPlaces NoTree (mark CloseParen l ∷ rest) rest
    comma_last : {l l' : ℕ} {rest : List Seen} → SpellsPlaces NoTree (mark Comma l ∷ mark CloseParen l' ∷ rest) rest
    one_place : {p : Tree} {ps : Trees} {l : ℕ} {ts us rest : List Seen}
        → Spells p ts us → IsTrue (is_place p) → SpellsPlaces ps us rest → SpellsPlaces (OneMore p ps) (mark Comma l ∷ ts) rest

  -- an end of a range, where there is one
  pub data SpellsEnd : End → List Seen → List Seen → Type 0 where
    missing : {rest : List Seen} → SpellsEnd Open rest rest
    given : {e : Edge} {t : Tree} {ts us rest : List Seen} → SpellsEdge e ts us → Spells t us rest → SpellsEnd (At e t) ts rest
