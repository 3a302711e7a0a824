-- Units without where they lie in memory, which tokens spell which, and the first fault of tokens that spell none.
use Rattle.std.specs.Prelude.{◌≡◌, ℕ, ◌+◌, ◌≤◌, ◌<◌, List, [], ◌∷◌, ◌++◌, length, take, Option, Some, None, max, zero, suc}
use Rattle.lp_tree.specs.declared.keyword.Base.{Base as BaseWord}
use Rattle.lp_tree.specs.declared.keyword.Modifier.{Modifier as ModifierWord}
use Rattle.lp_tree.specs.declared.keyword.Keyword.TheVariants as words
use Rattle.lp_tree.specs.declared.token.Mark.TheVariants.{OpenParen, CloseParen, OpenBrace, Comma, Semicolon}
use Rattle.lp_tree.specs.declared.types.TypeName.{TypeName}
use Rattle.lp_tree.specs.declared.seen.Seen.{Seen}
use Rattle.lp_tree.specs.declared.unit.Param.{Param}
use Rattle.lp_tree.specs.Seen.{word, text, mark, reserved, first_line}
use Rattle.lp_tree.specs.Types.{SpellsType}
use Rattle.lp_tree.specs.Statements.{DeclaratorTree, StmtTrees, in_function, SpellsDeclarators, SpellsStmts, declarator_heights, stmt_heights}

-- a function's block
pub record BlockTree : Type 0 where
  pub line : ℕ
  pub stmts : StmtTrees

-- one case per production, as in the program's units
pub data ItemTree : Type 0 where
  Inherit : (line : ℕ) (path : List ℕ) → ItemTree
  Proto : (line : ℕ) (mods : List ModifierWord) (type_name : Option TypeName) (name : List ℕ) (params : List Param) → ItemTree
  Fun : (line : ℕ) (mods : List ModifierWord) (type_name : Option TypeName) (name : List ℕ) (params : List Param) (body : BlockTree) → ItemTree
  Var : (line : ℕ) (mods : List ModifierWord) (base : BaseWord) (ones : List DeclaratorTree) → ItemTree

-- the line of an item's first token
abbrev pub item_line : ItemTree → ℕ
item_line (Inherit line path) = line
item_line (Proto line mods ty w ps) = line
item_line (Fun line mods ty w ps b) = line
item_line (Var line mods b ds) = line

-- {mod}
pub data SpellsMods : List ModifierWord → List Seen → List Seen → Type 0 where
  no_mod : {rest : List Seen} → SpellsMods [] rest rest
  mod_word : {m : ModifierWord} {ms : List ModifierWord} {l : ℕ} {ts rest : List Seen}
      → SpellsMods ms ts rest → SpellsMods (m ∷ ms) (reserved (words.Modifier m) l ∷ ts) rest

-- [type]
pub data SpellsTypeIf : Option TypeName → List Seen → List Seen → Type 0 where
  no_type : {rest : List Seen} → SpellsTypeIf None rest rest
  type_given : {ty : TypeName} {ts rest : List Seen} → SpellsType ty ts rest → SpellsTypeIf (Some ty) ts rest

-- param = [type] NAME
pub data SpellsParam : Param → List Seen → List Seen → Type 0 where
  param : {ty : Option TypeName} {w : List ℕ} {l : ℕ} {ts rest : List Seen}
      → SpellsTypeIf ty ts (word w l ∷ rest) → SpellsParam (record { line = first_line ts; type_name = ty; name = w }) ts rest

-- params = param {"," param}
pub data SpellsParams : List Param → List Seen → List Seen → Type 0 where
  one_param : {p : Param} {ts rest : List Seen} → SpellsParam p ts rest → SpellsParams (p ∷ []) ts rest
  more_params : {p : Param} {ps : List Param} {l : ℕ} {ts us rest : List Seen}
      → SpellsParam p ts (mark Comma l ∷ us) → SpellsParams ps us rest → SpellsParams (p ∷ ps) ts rest

-- [params]
pub data SpellsParamsIf : List Param → List Seen → List Seen → Type 0 where
  no_params : {rest : List Seen} → SpellsParamsIf [] rest rest
  params : {ps : List Param} {ts rest : List Seen} → SpellsParams ps ts rest → SpellsParamsIf ps ts rest

-- block = "{" {stmt} "}", of a function
pub data SpellsBlock : BlockTree → List Seen → List Seen → Type 0 where
  block : {ss : StmtTrees} {line : ℕ} {ts rest : List Seen}
      → SpellsStmts in_function ss ts rest → SpellsBlock (record { line = line; stmts = ss }) (mark OpenBrace line ∷ ts) rest

-- SpellsItem i ts rest: the tokens of ts before rest spell i. One case per production.
pub data SpellsItem : ItemTree → List Seen → List Seen → Type 0 where
  -- inherit = "inherit" TEXT ";"
  inherit : {w : List ℕ} {line l l' : ℕ} {rest : List Seen}
      → SpellsItem (Inherit line w) (reserved words.Inherit line ∷ text w l ∷ mark Semicolon l' ∷ rest) rest
  -- proto = {mod} [type] NAME "(" [params] ")" ";"
  proto : {ms : List ModifierWord} {ty : Option TypeName} {w : List ℕ} {ps : List Param} {l l' l'' l''' : ℕ} {ts us vs rest : List Seen}
      → SpellsMods ms ts us → SpellsTypeIf ty us (word w l ∷ mark OpenParen l' ∷ vs)
      → SpellsParamsIf ps vs (mark CloseParen l'' ∷ mark Semicolon l''' ∷ rest)
      → SpellsItem (Proto (first_line ts) ms ty w ps) ts rest
  -- fun = {mod} [type] NAME "(" [params] ")" block
  fun : {ms : List ModifierWord} {ty : Option TypeName} {w : List ℕ} {ps : List Param} {b : BlockTree} {l l' l'' : ℕ} {ts us vs ws rest : List Seen}
      → SpellsMods ms ts us → SpellsTypeIf ty us (word w l ∷ mark OpenParen l' ∷ vs)
      → SpellsParamsIf ps vs (mark CloseParen l'' ∷ ws) → SpellsBlock b ws rest
      → SpellsItem (Fun (first_line ts) ms ty w ps b) ts rest
  -- var = {mod} base one {"," one} ";"
  var : {ms : List ModifierWord} {b : BaseWord} {ds : List DeclaratorTree} {l l' : ℕ} {ts us rest : List Seen}
      → SpellsMods ms ts (reserved (words.Base b) l ∷ us) → SpellsDeclarators ds us (mark Semicolon l' ∷ rest)
      → SpellsItem (Var (first_line ts) ms b ds) ts rest

-- which items may come: each, or no `inherit` any more
pub data Phase : Type 0 where
  Inherits Definitions : Phase

-- a prototype leaves the phase, and an `inherit` stands in the first only
pub data Turns : Phase → ItemTree → Phase → Type 0 where
  by_proto : {p : Phase} {line : ℕ} {ms : List ModifierWord} {ty : Option TypeName} {w : List ℕ} {ps : List Param} → Turns p (Proto line ms ty w ps) p
  by_inherit : {line : ℕ} {w : List ℕ} → Turns Inherits (Inherit line w) Inherits
  by_fun : {p : Phase} {line : ℕ} {ms : List ModifierWord} {ty : Option TypeName} {w : List ℕ} {ps : List Param} {b : BlockTree} → Turns p (Fun line ms ty w ps b) Definitions
  by_var : {p : Phase} {line : ℕ} {ms : List ModifierWord} {b : BaseWord} {ds : List DeclaratorTree} → Turns p (Var line ms b ds) Definitions

-- SpellsItems p is ts: from this phase on, all of ts spells is
pub data SpellsItems : Phase → List ItemTree → List Seen → Type 0 where
  no_item : {p : Phase} → SpellsItems p [] []
  item : {p q : Phase} {i : ItemTree} {is : List ItemTree} {ts us : List Seen}
      → SpellsItem i ts us → Turns p i q → SpellsItems q is us → SpellsItems p (i ∷ is) ts

-- unit = { {proto} inherit } { var / fun / proto }
abbrev pub SpellsUnit : List ItemTree → List Seen → Type 0
SpellsUnit is ts = SpellsItems Inherits is ts

-- The levels of nesting: a function's block and what a global is set to have the first.
abbrev pub item_height : ItemTree → ℕ
item_height (Inherit line w) = 0
item_height (Proto line ms ty w ps) = 0
item_height (Fun line ms ty w ps b) = suc (stmt_heights b.stmts)
item_height (Var line ms b ds) = declarator_heights ds

abbrev pub unit_height : List ItemTree → ℕ
unit_height [] = 0
unit_height (i ∷ is) = max (item_height i) (unit_height is)

-- some unit begins so
abbrev pub Begins : List Seen → Type 0
Begins front = (others : List Seen) × (is : List ItemTree) × SpellsUnit is (front ++ others)

-- some unit begins so that has nothing below a level
abbrev pub BeginsWithin : ℕ → List Seen → Type 0
BeginsWithin limit front = (others : List Seen) × (is : List ItemTree) × SpellsUnit is (front ++ others) × (unit_height is ≤ limit)

-- The first token up to which no unit begins so, or the end behind the last token.
pub record IsUnexpected (limit : ℕ) (tokens : List Seen) (at : ℕ) : Type 0 where
  pub within : at ≤ length tokens
  pub before : BeginsWithin limit (take at tokens)
  pub not_so : at < length tokens → Begins (take (at + 1) tokens) → ⊥
  pub not_whole : at ≡ length tokens → (is : List ItemTree) → SpellsUnit is tokens → ⊥

-- The first token up to which each unit that begins so is too deep.
pub record IsTooNested (limit : ℕ) (tokens : List Seen) (at : ℕ) : Type 0 where
  pub within : at < length tokens
  pub before : BeginsWithin limit (take at tokens)
  pub so : Begins (take (at + 1) tokens)
  pub not_within : BeginsWithin limit (take (at + 1) tokens) → ⊥

-- the line of a fault: that of the token there, or behind the last token the last line that has one, or 0
abbrev pub line_at : List Seen → ℕ → ℕ
line_at [] n = 0
line_at (x ∷ []) n = x.line
line_at (x ∷ y ∷ xs) zero = x.line
line_at (x ∷ y ∷ xs) (suc n) = line_at (y ∷ xs) n
