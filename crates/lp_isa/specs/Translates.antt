-- Which code stands for a tree: the instructions from one place up to another.
use Rattle.std.specs.Prelude.{◌≡◌, ℕ, suc, ◌+◌, pos, ⊤, List, [], ◌∷◌, ◌++◌, length, Option, Some, None, slice_get}
use Rattle.lp_tree.specs.declared.operator.BinOp.{BinOp}
use Rattle.lp_tree.specs.declared.operator.AssignOp.{AssignOp}
use Rattle.lp_tree.specs.declared.operator.AssignOp.TheVariants as sets
use Rattle.lp_tree.specs.declared.stmt.Label.TheVariants as labels
use Rattle.lp_tree.specs.declared.stmt.Constant.{Constant}
use Rattle.lp_tree.specs.declared.stmt.Constant.TheVariants as constants
use Rattle.lp_tree.specs.Trees.{Tree, Int, Text, Name, Paren, Array, Mapping, Call, EfunCall, ParentCall, NamedParentCall, Catch, Sscanf, Index as IndexTree, Range as RangeTree, CallOther as CallOtherTree, PostStep, PreStep, Unary as UnaryTree, Cast, Binary as BinaryTree, AndThen, OrElse, Cond, Assign, Sequence, Trees, NoTree, OneMore, Pairs, NoPair, OnePair, End as EndTree, Open, At}
use Rattle.lp_tree.specs.Statements.{DeclaratorTree, InitTree, Nothing as NothingFirst, DeclaresFirst, RunsFirst, StmtTree, Block, Empty, Run, Declares, If, While, DoWhile, For, Foreach, Switch as SwitchTree, Break, Continue, Return as ReturnTree, StmtTrees, NoStmt, MoreStmts, ElseTree, NoElse, Else, PartTrees, NoPart, LabelPart, StmtPart}
use Rattle.lp_instr.specs.declared.instr.Instr.{Instr}
use Rattle.lp_instr.specs.declared.instr.Instr.TheVariants.{PushInt, PushText, PushLocal, SetLocal, PushGlobal, SetGlobal, Pop, Dup, Dup2, Unary, Binary, Step, Rotate, Index, SetIndex, Range, MakeArray, MakeMap, Jump, JumpIfZero, JumpIfNotZero, KeepIfZero, KeepIfNotZero, LoopTurn, CallSlot, CallFixed, CallOther, CallEfun, CallSimul, Scan, CatchBegin, CatchEnd, Switch, EachBegin, EachNext, Return, ReturnZero}
use Rattle.lp_instr.specs.declared.instr.Case.{Case}
use Rattle.lp_instr.specs.declared.instr.Case.TheVariants as cases
use Rattle.lp_instr.specs.EfunList.{efun_named}
use Rattle.lp_language.specs.Resolve.{Heritage, Function, Variable, own_variables, parent_called, parent_with, parents_of, variables_before, version_of}
use Rattle.lp_language.specs.Scope.{Names, Slot, OfLocal, OfGlobal, OfNothing, slot, Callee, AFunction, ASimul, AnEfun, Nobody, callee, as_efun, behind, declared_each, declared_first, declared_parts, declared_second, loose, slots_from, slots_of_each}
use Rattle.lp_language.specs.Eval.{kind_of_end, operator_of, pair_count, tree_count}
use Rattle.lp_language.specs.Exec.{first_label, is_default}
use Rattle.lp_instr.specs.Code.{Code, Table, parent_row}

-- what some code is to be, from one place up to another
abbrev pub Piece : Type 1
Piece = ℕ → ℕ → Type 0

-- nothing
abbrev pub Nothing : Piece
Nothing from to = to ≡ from

-- no code stands for it
abbrev pub Never : Piece
Never from to = ⊥

-- first this, then that
abbrev pub Then : Piece → Piece → Piece
Then P Q from to = (m : ℕ) × P from m × Q m to

-- just these instructions
abbrev pub Line : Code → List Instr → Piece
Line code [] from to = to ≡ from
Line code (i ∷ is) from to = (slice_get code.instrs from ≡ Some i) × Line code is (from + 1) to

abbrev pub One : Code → Instr → Piece
One code i = Line code (i ∷ [])

-- a text of the program's list is pushed
abbrev pub Pushes : Code → List ℕ → Piece
Pushes code t from to = (k : ℕ) × (slice_get code.texts k ≡ Some t) × One code (PushText k) from to

-- Variables: the value is pushed; what is on top is written and stays; it is written and goes.
abbrev pub Reads : Code → Slot → Piece
Reads code (OfLocal k) = One code (PushLocal k)
Reads code (OfGlobal k) = One code (PushGlobal k)
Reads code OfNothing = Never

abbrev pub Writes : Code → Slot → Piece
Writes code (OfLocal k) = One code (SetLocal k)
Writes code (OfGlobal k) = One code (SetGlobal k)
Writes code OfNothing = Never

abbrev pub Takes : Code → Slot → Piece
Takes code x = Then (Writes code x) (One code Pop)

-- Calls with n arguments, which are on the stack.
abbrev pub Calls : Code → Callee → List ℕ → ℕ → Piece
Calls code AFunction name n from to = (k : ℕ) × (slice_get code.rows k ≡ Some name) × One code (CallSlot k n) from to
Calls code ASimul name n from to = (k : ℕ) × (slice_get code.texts k ≡ Some name) × One code (CallSimul k n) from to
Calls code (AnEfun e) name n from to = One code (CallEfun e n) from to
Calls code Nobody name n from to = ⊥

abbrev pub CallsParent : Code → Option ℕ → List ℕ → ℕ → Piece
CallsParent code None name n from to = ⊥
CallsParent code (Some parent) name n from to = (j : ℕ) × (parent_row code parent j ≡ Some name) × One code (CallFixed parent j n) from to

-- An assignment: the right side and then the place; or, for `&&=` and `||=`, the right side between reading and writing
-- the place, where it is needed.
abbrev pub Assigns : Code → Option BinOp → AssignOp → Piece → Piece → (BinOp → Piece) → (Piece → Piece) → Piece
Assigns code op sets.AndThen Right Write Compound Between = Between (λ from to. Then (One code (KeepIfZero to)) Right from to)
Assigns code op sets.OrElse Right Write Compound Between = Between (λ from to. Then (One code (KeepIfNotZero to)) Right from to)
Assigns code (Some b) op Right Write Compound Between = Then Right (Compound b)
Assigns code None op Right Write Compound Between = Then Right Write

abbrev mutual
  -- the value of an expression is pushed
  pub Makes : Heritage → Names → Tree → Code → Piece
  Makes h ns (Int line n) code from to = One code (PushInt n) from to
  Makes h ns (Text line t) code from to = Pushes code t from to
  Makes h ns (Name line w) code from to = Reads code (slot h ns w) from to
  Makes h ns (Paren line e) code from to = Makes h ns e code from to
  Makes h ns (Array line es) code from to = Then (MakesAll h ns es code) (One code (MakeArray (tree_count es))) from to
  Makes h ns (Mapping line ps) code from to = Then (MakesPairs h ns ps code) (One code (MakeMap (pair_count ps))) from to
  Makes h ns (Call line name es) code from to = Then (MakesAll h ns es code) (Calls code (callee h name) name (tree_count es)) from to
  Makes h ns (EfunCall line name es) code from to = Then (MakesAll h ns es code) (Calls code (as_efun (efun_named name)) name (tree_count es)) from to
  Makes h ns (ParentCall line name es) code from to = Then (MakesAll h ns es code) (CallsParent code (parent_with h name) name (tree_count es)) from to
  Makes h ns (NamedParentCall line p name es) code from to = Then (MakesAll h ns es code) (CallsParent code (parent_called h p) name (tree_count es)) from to
  Makes h ns (Catch line e) code from to =
      Then (One code (CatchBegin to)) (Then (Makes h ns e code) (Line code (Pop ∷ CatchEnd ∷ PushInt (pos 0) ∷ []))) from to
  Makes h ns (Sscanf line e form places) code from to =
      Then (Makes h ns e code) (Then (Makes h ns form code) (Then (One code (Scan (tree_count places))) (MakesScanned h ns places code))) from to
  Makes h ns (IndexTree line e edge i) code from to = Then (Makes h ns e code) (Then (Makes h ns i code) (One code (Index edge))) from to
  Makes h ns (RangeTree line e a b) code from to =
      Then (Makes h ns e code) (Then (MakesEnd h ns a code) (Then (MakesEnd h ns b code) (One code (Range (kind_of_end a) (kind_of_end b))))) from to
  Makes h ns (CallOtherTree line e name es) code from to =
      Then (Makes h ns e code) (Then (Pushes code name) (Then (MakesAll h ns es code) (One code (CallOther (tree_count es))))) from to
  Makes h ns (PostStep line st p) code from to =
      MakesChange h ns p code (Line code (Dup ∷ Step st ∷ [])) (Line code (Pop ∷ []))
      (Line code (Dup ∷ Step st ∷ Rotate 4 ∷ Rotate 4 ∷ Rotate 3 ∷ [])) (Line code (Pop ∷ [])) from to
  Makes h ns (PreStep line st p) code from to = MakesChange h ns p code (One code (Step st)) Nothing (One code (Step st)) Nothing from to
  Makes h ns (UnaryTree line op e) code from to = Then (Makes h ns e code) (One code (Unary op)) from to
  Makes h ns (Cast line ty e) code from to = Makes h ns e code from to
  Makes h ns (BinaryTree line op a b) code from to = Then (Makes h ns a code) (Then (Makes h ns b code) (One code (Binary op))) from to
  Makes h ns (AndThen line a b) code from to = Then (Makes h ns a code) (Then (One code (KeepIfZero to)) (Makes h ns b code)) from to
  Makes h ns (OrElse line a b) code from to = Then (Makes h ns a code) (Then (One code (KeepIfNotZero to)) (Makes h ns b code)) from to
  Makes h ns (Cond line a b d) code from to =
      (other : ℕ) × Then (Makes h ns a code) (Then (One code (JumpIfZero other)) (Then (Makes h ns b code) (One code (Jump to)))) from other × Makes h ns d code other to
  Makes h ns (Assign line op p e) code from to =
      Assigns code (operator_of op) op (Makes h ns e code) (MakesWrite h ns p code)
      (λ b. MakesChange h ns p code (Line code (Rotate 2 ∷ Binary b ∷ [])) Nothing (Line code (Rotate 4 ∷ Binary b ∷ [])) Nothing)
      (λ Right. MakesChange h ns p code Right Nothing Right Nothing) from to
  Makes h ns (Sequence line es) code from to = MakesFirst h ns es code from to

  -- those of a list, the last on top
  pub MakesAll : Heritage → Names → Trees → Code → Piece
  MakesAll h ns NoTree code from to = to ≡ from
  MakesAll h ns (OneMore e es) code from to = Then (Makes h ns e code) (MakesAll h ns es code) from to

  pub MakesPairs : Heritage → Names → Pairs → Code → Piece
  MakesPairs h ns NoPair code from to = to ≡ from
  MakesPairs h ns (OnePair k v ps) code from to = Then (Makes h ns k code) (Then (Makes h ns v code) (MakesPairs h ns ps code)) from to

  -- the last of a list alone
  pub MakesFirst : Heritage → Names → Trees → Code → Piece
  MakesFirst h ns NoTree code from to = ⊥
  MakesFirst h ns (OneMore e es) code from to = Then (Makes h ns e code) (MakesMore h ns es code) from to

  pub MakesMore : Heritage → Names → Trees → Code → Piece
  MakesMore h ns NoTree code from to = to ≡ from
  MakesMore h ns (OneMore e es) code from to = Then (One code Pop) (Then (Makes h ns e code) (MakesMore h ns es code)) from to

  -- an end of a range, where it is given
  pub MakesEnd : Heritage → Names → EndTree → Code → Piece
  MakesEnd h ns Open code from to = to ≡ from
  MakesEnd h ns (At edge e) code from to = Makes h ns e code from to

  -- what is on top is written to a place, and stays on top
  pub MakesWrite : Heritage → Names → Tree → Code → Piece
  MakesWrite h ns (Name line w) code from to = Writes code (slot h ns w) from to
  MakesWrite h ns (IndexTree line e edge i) code from to =
      Then (Makes h ns e code) (Then (Makes h ns i code) (Line code (Rotate 3 ∷ SetIndex edge ∷ []))) from to
  MakesWrite h ns _ code from to = ⊥

  -- a place is read, changed by the first piece, written, and then comes the second; two pieces are for a variable, and
  -- two for an item, whose container and index lie below
  pub MakesChange : Heritage → Names → Tree → Code → Piece → Piece → Piece → Piece → Piece
  MakesChange h ns (Name line w) code Alters Ends AltersItem EndsItem from to =
      Then (Reads code (slot h ns w)) (Then Alters (Then (Writes code (slot h ns w)) Ends)) from to
  MakesChange h ns (IndexTree line e edge i) code Alters Ends AltersItem EndsItem from to =
      Then (Makes h ns e code) (Then (Makes h ns i code) (Then (Line code (Dup2 ∷ Index edge ∷ [])) (Then AltersItem (Then (One code (SetIndex edge)) EndsItem)))) from to
  MakesChange h ns _ code Alters Ends AltersItem EndsItem from to = ⊥

  -- what a scan left is written to places, where it is assigned
  pub MakesScanned : Heritage → Names → Trees → Code → Piece
  MakesScanned h ns NoTree code from to = to ≡ from
  MakesScanned h ns (OneMore p ps) code from to =
      (skip : ℕ) × Then (One code (JumpIfZero skip)) (MakesWrite h ns p code) from skip × Then (One code Pop) (MakesScanned h ns ps code) skip to

-- Statements

-- an expression whose value is dropped
abbrev pub MakesRun : Heritage → Names → Tree → Code → Piece
MakesRun h ns e code = Then (Makes h ns e code) (One code Pop)

abbrev pub MakesRunIf : Heritage → Names → Option Tree → Code → Piece
MakesRunIf h ns None code = Nothing
MakesRunIf h ns (Some e) code = MakesRun h ns e code

abbrev pub MakesValueIf : Heritage → Names → Option Tree → Code → Piece
MakesValueIf h ns None code = One code (PushInt (pos 0))
MakesValueIf h ns (Some e) code = Makes h ns e code

-- locals become 0
abbrev pub Clears : Code → List ℕ → Piece
Clears code [] = Nothing
Clears code (k ∷ ks) = Then (Line code (PushInt (pos 0) ∷ SetLocal k ∷ Pop ∷ [])) (Clears code ks)

-- a declaration
abbrev pub MakesOnes : Heritage → Names → List DeclaratorTree → Code → Piece
MakesOnes h ns [] code = Nothing
MakesOnes h ns (d ∷ ds) code =
    Then (MakesValueIf h ns d.value code) (Then (Line code (SetLocal (length ns) ∷ Pop ∷ [])) (MakesOnes h (ns ++ d.name ∷ []) ds code))

abbrev pub MakesInit : Heritage → Names → InitTree → Code → Piece
MakesInit h ns NothingFirst code = Nothing
MakesInit h ns (DeclaresFirst d) code = MakesOnes h ns d.ones code
MakesInit h ns (RunsFirst e) code = MakesRun h ns e code

-- a jump to a place, if there is one
abbrev pub Jumps : Code → Option ℕ → Piece
Jumps code None = Never
Jumps code (Some place) = One code (Jump place)

-- a jump to a place where a test is not 0; a test that is not given never is
abbrev pub MakesTest : Heritage → Names → Option Tree → Code → ℕ → Piece
MakesTest h ns None code turn = One code (Jump turn)
MakesTest h ns (Some e) code turn = Then (Makes h ns e code) (One code (JumpIfNotZero turn))

-- A loop: a jump to the test; the turn, to which alone a jump back leads, and the body; what comes between the turns;
-- and the test, with the jump back.
abbrev pub MakesLoop : Code → (ℕ → Piece) → (ℕ → Piece) → Piece → Piece
MakesLoop code Test Body Between from to =
    (turn : ℕ) × (again : ℕ) × (test : ℕ) × One code (Jump test) from turn × Then (One code LoopTurn) (Body again) turn again × Between again test × Test turn test to

-- A loop whose body comes before its test.
abbrev pub MakesDo : Code → (ℕ → Piece) → (ℕ → Piece) → Piece
MakesDo code Test Body from to = (again : ℕ) × Then (One code LoopTurn) (Body again) from again × Test from again to

-- variables take values from the stack, each in its turn
abbrev pub TakesAll : Code → List Slot → Piece
TakesAll code [] = Nothing
TakesAll code (x ∷ xs) = Then (Takes code x) (TakesAll code xs)

-- A loop over a copy: a jump to the next row; the turn, the variables and the body; the next row, with the jump back;
-- a jump out; and the way out of a `break`, which drops the copy and the place in it.
abbrev pub MakesOver : Code → List Slot → (ℕ → ℕ → Piece) → Piece
MakesOver code xs Body from to =
    (turn : ℕ) × (next : ℕ) × (leave : ℕ) × One code (Jump next) from turn × Then (One code LoopTurn) (Then (TakesAll code xs) (Body leave next)) turn next × Line code (EachNext turn (length xs) ∷ Jump to ∷ []) next leave × Line code (Pop ∷ Pop ∷ []) leave to

-- the jump over an `else`, where there is one
abbrev pub JumpsOver : Code → ElseTree → ℕ → Piece
JumpsOver code NoElse to = Nothing
JumpsOver code (Else st) to = One code (Jump to)

-- a label of a switch stands in the table, with its place
abbrev pub IsCase : Code → Constant → ℕ → Case → Type 0
IsCase code (constants.Int n) to k = k ≡ cases.Ints n n to
IsCase code (constants.Text t) to k = (j : ℕ) × (slice_get code.texts j ≡ Some t) × (k ≡ cases.Text j to)

-- the place where no label fits is that of `default`, or else the end
abbrev pub OtherIs : Option ℕ → ℕ → ℕ → Type 0
OtherIs None other to = other ≡ to
OtherIs (Some n) other to = ⊤

-- `break` leads to out and `continue` to again
abbrev mutual
  pub MakesStmt : Heritage → Names → StmtTree → Option ℕ → Option ℕ → Code → Piece
  MakesStmt h ns (Block line ss) out again code from to = MakesStmts h ns ss out again code from to
  MakesStmt h ns (Empty line) out again code from to = to ≡ from
  MakesStmt h ns (Run line e) out again code from to = MakesRun h ns e code from to
  MakesStmt h ns (Declares line d) out again code from to = MakesOnes h ns d.ones code from to
  MakesStmt h ns (If line e y x) out again code from to =
      (other : ℕ) × Then (Makes h ns e code) (Then (One code (JumpIfZero other)) (Then (MakesStmt h ns y out again code) (JumpsOver code x to))) from other × MakesElse h (behind ns y) x out again code other to
  MakesStmt h ns (While line e b) out again code from to =
      MakesLoop code (MakesTest h ns (Some e) code) (λ again. MakesStmt h ns b (Some to) (Some again) code) Nothing from to
  MakesStmt h ns (DoWhile line b e) out again code from to =
      MakesDo code (MakesTest h (behind ns b) (Some e) code) (λ again. MakesStmt h ns b (Some to) (Some again) code) from to
  MakesStmt h ns (For line i t st b) out again code from to =
      Then (MakesInit h ns i code) (λ from to.
      MakesLoop code (MakesTest h (ns ++ declared_first i) t code) (λ again. MakesStmt h (ns ++ declared_first i) b (Some to) (Some again) code)
      (MakesRunIf h (ns ++ declared_first i) st code) from to) from to
  MakesStmt h ns (Foreach line f g e b) out again code from to =
      Then (Then (Makes h ns e code) (One code (EachBegin (length (slots_of_each h ns f g))))) (λ from to.
      MakesOver code (slots_of_each h ns f g) (λ leave next. MakesStmt h (ns ++ declared_each f ++ declared_second g) b (Some leave) (Some next) code) from to) from to
  MakesStmt h ns (SwitchTree line e ps) out again code from to =
      (k : ℕ) × (table : Table) × (slice_get code.switches k ≡ Some table) × OtherIs (first_label is_default ps) table.other to
      × Then (Makes h ns e code) (Then (Clears code (slots_from (length ns) (declared_parts ps))) (Then (One code (Switch k)) (MakesParts h ns ps table.cases table.other to again code))) from to
  MakesStmt h ns (Break line) out again code from to = Jumps code out from to
  MakesStmt h ns (Continue line) out again code from to = Jumps code again from to
  MakesStmt h ns (ReturnTree line None) out again code from to = One code ReturnZero from to
  MakesStmt h ns (ReturnTree line (Some e)) out again code from to = Then (Makes h ns e code) (One code Return) from to

  pub MakesStmts : Heritage → Names → StmtTrees → Option ℕ → Option ℕ → Code → Piece
  MakesStmts h ns NoStmt out again code from to = to ≡ from
  MakesStmts h ns (MoreStmts st ss) out again code from to =
      Then (Clears code (loose st (length ns))) (Then (MakesStmt h ns st out again code) (MakesStmts h (behind ns st) ss out again code)) from to

  -- an `else`, if there is one
  pub MakesElse : Heritage → Names → ElseTree → Option ℕ → Option ℕ → Code → Piece
  MakesElse h ns NoElse out again code from to = to ≡ from
  MakesElse h ns (Else st) out again code from to = MakesStmt h ns st out again code from to

  -- the parts of a `switch`, of which the labels stand in the table in their order
  pub MakesParts : Heritage → Names → PartTrees → List Case → ℕ → ℕ → Option ℕ → Code → Piece
  MakesParts h ns NoPart ks other out again code from to = (ks ≡ []) × (to ≡ from)
  MakesParts h ns (LabelPart (labels.Case line k) ps) ks other out again code from to =
      (x : Case) × (rest : List Case) × (ks ≡ x ∷ rest) × IsCase code k from x × MakesParts h ns ps rest other out again code from to
  MakesParts h ns (LabelPart (labels.Range line a b) ps) ks other out again code from to =
      (rest : List Case) × (ks ≡ cases.Ints a b from ∷ rest) × MakesParts h ns ps rest other out again code from to
  MakesParts h ns (LabelPart (labels.Default line) ps) ks other out again code from to =
      (other ≡ from) × MakesParts h ns ps ks other out again code from to
  MakesParts h ns (StmtPart st ps) ks other out again code from to =
      Then (Clears code (loose st (length ns))) (Then (MakesStmt h ns st (Some out) again code) (MakesParts h (behind ns st) ps ks other out again code)) from to

-- the code of a function begins at a place
abbrev pub MakesFun : Heritage → Function → Code → ℕ → Type 0
MakesFun h f code from = (end : ℕ) × Then (MakesStmts h f.parameters f.body None None code) (One code ReturnZero) from end

-- the code of the initialisers, of which the first is for the variable at a place
abbrev pub MakesInitialiser : Heritage → ℕ → Option Tree → Code → Piece
MakesInitialiser h k None code = Nothing
MakesInitialiser h k (Some e) code = Then (Makes h [] e code) (Line code (SetGlobal k ∷ Pop ∷ []))

abbrev pub MakesInitialisers : Heritage → ℕ → List Variable → Code → Piece
MakesInitialisers h k [] code = Nothing
MakesInitialisers h k (v ∷ vs) code = Then (MakesInitialiser h k v.declared.value code) (MakesInitialisers h (suc k) vs code)

abbrev pub MakesInitOf : Heritage → Code → ℕ → Type 0
MakesInitOf h code from =
    (end : ℕ) × Then (MakesInitialisers h (variables_before (parents_of h)) (own_variables (version_of h).items) code) (One code ReturnZero) from end
