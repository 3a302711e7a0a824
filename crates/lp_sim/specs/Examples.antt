-- Small pieces of LPC, and what they give.
use Rattle.std.specs.Prelude.{◌≡◌, ℕ, pos, List, [], ◌∷◌, Option, Some, None, codes}
use Rattle.lp_tree.specs.declared.operator.BinOp.TheVariants as ops
use Rattle.lp_tree.specs.declared.operator.AssignOp.TheVariants as sets
use Rattle.lp_tree.specs.declared.operator.Step.TheVariants.{Up}
use Rattle.lp_tree.specs.declared.keyword.Modifier.TheVariants.{Private}
use Rattle.lp_tree.specs.declared.stmt.Each.{Each}
use Rattle.lp_tree.specs.declared.stmt.Label.TheVariants as labels
use Rattle.lp_tree.specs.declared.stmt.Constant.TheVariants as constants
use Rattle.lp_tree.specs.Trees.{Tree, Int, Text, Name, Catch, Sscanf, PostStep, Binary, Assign, NoTree, OneMore}
use Rattle.lp_tree.specs.Statements.{StmtTree, Run, DoWhile, If, Foreach, Switch, Break, Return, NoElse, MoreStmts, NoStmt, NoPart, LabelPart, StmtPart}
use Rattle.lp_tree.specs.Units.{ItemTree, Fun}
use Rattle.lp_values.specs.declared.id.ProgId.{ProgId}
use Rattle.lp_values.specs.declared.value.Value.{Value}
use Rattle.lp_values.specs.declared.value.Value.TheVariants as values
use Rattle.lp_language.specs.World.{World, Version, new_world, no_pragmas}
use Rattle.lp_language.specs.Course.{State, Course, Over, Asks, Gives, Stops}
use Rattle.lp_language.specs.Resolve.{Function, Heir, NoParent, Found, heritage, resolve}
use Rattle.lp_language.specs.Eval.{Site, eval}
use Rattle.lp_language.specs.Exec.{Flow, On, exec}
use Rattle.lp_instr.specs.Code.{Code}
use Rattle.lp_isa.specs.Translates.{MakesFun}
use Rattle.lp_instr.specs.declared.instr.Instr.TheVariants as instr

-- a version that declares these, with these parents
abbrev pub version : List ItemTree → List ProgId → Version
version items parents = record { path = codes "/a.c"; items = items; parents = parents; pragmas = no_pragmas; simuls = []; latest = 0 }

abbrev pub numbered : ℕ → ProgId
numbered n = record { 0 = n }

-- a place where expressions stand that call nothing
abbrev pub site : Site
site = record {
  tree = Heir (numbered 0) (version [] []) NoParent;
  scene = record { this = record { 0 = 0 }; part = 0; version = numbered 0; base = 0; function = []; interactive = None; loads = []; callers = []; depth = 1 };
}

-- with these locals and this budget
abbrev pub state : List Value → ℕ → State
state vs n = record { locals = vs; player = None; commands = []; world = new_world [] 0 0; budget = n; outputs = [] }

abbrev pub int : ℕ → Value
int n = values.Int (pos n)

abbrev pub a : List ℕ
a = codes "a"

abbrev pub b : List ℕ
b = codes "b"

abbrev pub number : ℕ → Tree
number n = Int 1 (pos n)

abbrev pub name : List ℕ → Tree
name w = Name 1 w

abbrev pub adds : Tree → Tree → Tree
adds x y = Binary 1 ops.Add x y

abbrev pub sets_to : List ℕ → Tree → StmtTree
sets_to w e = Run 1 (Assign 1 sets.Set (name w) e)

-- `1 + 2 * 3`
abbrev pub sum : Tree
sum = adds (number 1) (Binary 1 ops.Mul (number 2) (number 3))

-- `catch(1 / 0)`
abbrev pub caught : Tree
caught = Catch 1 (Binary 1 ops.Div (number 1) (number 0))

-- `sscanf("12 x", "%d %s", a, b)`
abbrev pub scan : Tree
scan = Sscanf 1 (Text 1 (codes "12 x")) (Text 1 (codes "%d %s")) (OneMore (name a) (OneMore (name b) NoTree))

-- `switch (a) { case 1: b = 1; case 2: b = b + 5; break; default: b = 9; }`
abbrev pub switch : StmtTree
switch = Switch 1 (name a) (LabelPart (labels.Case 1 (constants.Int (pos 1))) (StmtPart (sets_to b (number 1)) (LabelPart (labels.Case 1 (constants.Int (pos 2))) (StmtPart (sets_to b (adds (name b) (number 5))) (StmtPart (Break 1) (LabelPart (labels.Default 1) (StmtPart (sets_to b (number 9)) NoPart)))))))

-- `do a++; while (a < 3);`
abbrev pub steps : StmtTree
steps = DoWhile 1 (Run 1 (PostStep 1 Up (name a))) (Binary 1 ops.Lt (name a) (number 3))

abbrev pub each : List ℕ → Each
each w = record { line = 1; type_name = None; name = w }

-- `a` and `b` stand for their own
abbrev pub names : List (List ℕ)
names = a ∷ b ∷ []

-- what ends so, with these locals and this budget left
abbrev pub GivesValue : Course Value → Value → List Value → ℕ → Type 0
GivesValue (Over (Gives v s)) w vs n = (v ≡ w) × (s.locals ≡ vs) × (s.budget ≡ n)
GivesValue (Over (Stops x s)) w vs n = ⊥
GivesValue (Asks q k) w vs n = ⊥

abbrev pub GoesOn : Course Flow → List Value → ℕ → Type 0
GoesOn (Over (Gives On s)) vs n = (s.locals ≡ vs) × (s.budget ≡ n)
GoesOn (Over (Gives _ s)) vs n = ⊥
GoesOn (Over (Stops x s)) vs n = ⊥
GoesOn (Asks q k) vs n = ⊥

abbrev pub IsStopped : Course Flow → ℕ → Type 0
IsStopped (Over (Gives f s)) n = ⊥
IsStopped (Over (Stops x s)) n = s.budget ≡ n
IsStopped (Asks q k) n = ⊥

-- Functions of the last parents win, but for private ones.
abbrev pub function : List ℕ → ItemTree
function w = Fun 1 [] None w [] (record { line = 1; stmts = NoStmt })

abbrev pub hidden : List ℕ → ItemTree
hidden w = Fun 1 (Private ∷ []) None w [] (record { line = 1; stmts = NoStmt })

abbrev pub family : World
family = record (new_world [] 0 0) {
  versions = version (function a ∷ function b ∷ []) [] ∷ version (hidden a ∷ function b ∷ []) [] ∷ version [] (numbered 0 ∷ numbered 1 ∷ []) ∷ [];
}

abbrev pub PartIs : Option Found → ℕ → Type 0
PartIs None n = ⊥
PartIs (Some f) n = f.part ≡ n

pub record Examples : Type 0 where
  -- two operators, each 1
  pub sums : GivesValue (eval site [] sum (state [] 5)) (int 7) [] 3
  -- an error that is caught
  pub catches : GivesValue (eval site [] caught (state [] 5)) (values.Str (codes "*Division by zero\n")) [] 4
  -- both places are assigned; the texts are too short for a share
  pub scans : GivesValue (eval site names scan (state (int 0 ∷ int 0 ∷ []) 5)) (int 2) (int 12 ∷ values.Str (codes "x") ∷ []) 4
  -- a label falls through to the next, up to `break`
  pub first : GoesOn (exec site names switch (state (int 1 ∷ int 0 ∷ []) 5)) (int 1 ∷ int 6 ∷ []) 4
  pub second : GoesOn (exec site names switch (state (int 2 ∷ int 0 ∷ []) 5)) (int 2 ∷ int 5 ∷ []) 4
  pub other : GoesOn (exec site names switch (state (int 7 ∷ int 0 ∷ []) 5)) (int 7 ∷ int 9 ∷ []) 5
  -- three turns, each 1, with a step and a comparison, each 1
  pub turns : GoesOn (exec site names steps (state (int 0 ∷ int 0 ∷ []) 20)) (int 3 ∷ int 0 ∷ []) 11
  -- and one less than these cost is too little
  pub spent : IsStopped (exec site names steps (state (int 0 ∷ int 0 ∷ []) 8)) 0
  -- the second parent's function is private, so it is the first one's; the other is the second one's
  pub part_a : PartIs (resolve (heritage family (numbered 2)) a) 0
  pub part_b : PartIs (resolve (heritage family (numbered 2)) b) 1

-- `return a + 1;`, and `foreach (b : a) if (b) break;`, as code
abbrev pub successor : Function
successor = record { name = codes "f"; modifiers = []; parameters = a ∷ []; body = MoreStmts (Return 1 (Some (adds (name a) (number 1)))) NoStmt }

abbrev pub looking : Function
looking = record { name = codes "g"; modifiers = []; parameters = a ∷ b ∷ []; body = MoreStmts (Foreach 1 (each b) None (name a) (If 1 (name b) (Break 1) NoElse)) NoStmt }

abbrev pub code : Code
code = record {
  instrs = instr.PushLocal 0 ∷ instr.PushInt (pos 1) ∷ instr.Binary ops.Add ∷ instr.Return ∷ instr.ReturnZero ∷
      instr.PushLocal 0 ∷ instr.EachBegin 1 ∷ instr.Jump 14 ∷ instr.LoopTurn ∷ instr.SetLocal 1 ∷ instr.Pop ∷ instr.PushLocal 1 ∷ instr.JumpIfZero 14 ∷ instr.Jump 16 ∷ instr.EachNext 8 1 ∷ instr.Jump 18 ∷ instr.Pop ∷ instr.Pop ∷ instr.ReturnZero ∷ [];
  texts = [];
  switches = [];
  rows = [];
  parents = [];
}

-- there is code that stands for them
pub record HasCode : Type 0 where
  pub of_successor : MakesFun site.tree successor code 0
  pub of_looking : MakesFun site.tree looking code 5
