-- The code of a unit, in the words of programs.
use Rattle.std.proofs.Common.{ℕ, ◌+◌, ◌≤◌, List, [], ◌∷◌, ◌++◌, length, map, Bool, true, false, sym, ap, subst, arith}
use Rattle.std.specs.Prelude.{IsAscii, ⊤}
use Rattle.lp_tree.specs.Statements.{StmtTree, Block, Empty, Run, Declares, If, While, DoWhile, For, Foreach, Switch, Break, Continue, Return, StmtTrees, NoStmt, MoreStmts}
use Rattle.lp_tree.specs.Units.{ItemTree, Inherit, Proto, Fun, Var}
use Rattle.lp_instr.specs.Code.{Code}
use Rattle.lp_code.specs.declared.program.FunRow.{FunRow as CodeRow}
use Rattle.lp_code.specs.declared.program.RawProgram.{RawProgram}
use Rattle.lp_code.specs.declared.tables.Tables.{Tables}
use Rattle.lp_code.specs.Programs.{code_of}
use Rattle.lp_layout.specs.Layout.{AreSpelled, IsSpelled, declared_names}
use Rattle.lp_language.specs.Resolve.{Function, Heritage, has_initialiser, own_variables, parents_of, variables_before, version_of}
use Rattle.lp_language.specs.Scope.{declared_each, declared_first, declared_second, slots_in, slots_in_all}
use Rattle.lp_language.specs.Exec.{local_count}
use Rattle.lp_isa.specs.Translates.{MakesFun, MakesInitOf}
use Rattle.lp_isa.specs.Programs.{AreFuns, AreInit, IsFun, own_functions}
use Rattle.lp_codegen_expr.specs.Names.{Lays}
use Rattle.lp_codegen_layout.specs.Laid.{plan_of}
use Rattle.lp_codegen_unit.specs.Rows.{IsRow, init_if, initialisers, of_functions}
use Rattle.lp_codegen_unit.specs.Stands.{at}
use Rattle.lp_compile.specs.Translated.{IsGenerated, Translates}
use Rattle.lp_part_laws.specs.Versions.{row_of}
use Rattle.lp_unit_laws.specs.Units.{rows_of}
use Rattle.lp_unit_laws.specs.Versions.{variables_in}

-- no fewer slots are in use behind than before
mutual
  grows : (s : StmtTree) (n : ℕ) → n ≤ slots_in s n
  grows (Block line ss) n = grows_all ss n
  grows (Empty line) n = omega arith
  grows (Run line e) n = omega arith
  grows (Declares line d) n = omega arith
  grows (If line e y x) n = let a = grows y n in omega (arith, a)
  grows (While line e b) n = grows b n
  grows (DoWhile line b e) n = grows b n
  grows (For line i t st b) n = let a = grows b (n + length (declared_first i)) in omega (arith, a)
  grows (Foreach line f st e b) n = let a = grows b (n + length (declared_each f ++ declared_second st)) in omega (arith, a)
  grows (Switch line e ps) n = omega arith
  grows (Break line) n = omega arith
  grows (Continue line) n = omega arith
  grows (Return line e) n = omega arith

  grows_all : (ss : StmtTrees) (n : ℕ) → n ≤ slots_in_all ss n
  grows_all NoStmt n = omega arith
  grows_all (MoreStmts s ss) n = let a = grows s n in omega (arith, a)

-- the names of functions are of ASCII
abbrev AreAscii : List Function → Type 0
AreAscii [] = ⊤
AreAscii (f ∷ fs) = IsAscii f.name × AreAscii fs

ascii_names : (is : List ItemTree) → AreSpelled (declared_names is) → AreAscii (own_functions is)
ascii_names [] h = h
ascii_names (Inherit line w ∷ is) h = ascii_names is h
ascii_names (Proto line ms ty w ps ∷ is) h = ascii_names is h.1
ascii_names (Fun line ms ty w ps b ∷ is) h = (h.0, ascii_names is h.1)
ascii_names (Var line ms b ds ∷ is) h = ascii_names is h

-- the row of a function
a_fun : (h : Heritage) (code : Code) (f : Function) (r : CodeRow) (from : ℕ) → IsAscii f.name → IsRow f from r → MakesFun h f code from → IsFun h code f (row_of r)
a_fun h code f r from ascii i m =
    let a = i.params in
    let b = i.locals in
    let c : length f.parameters ≤ local_count f = grows_all f.body (length f.parameters) in
    record { name = i.name ascii; params = i.params; locals = omega (arith, a, b, c); makes = subst (MakesFun h f code) (sym i.from) m }

-- that of the initialisers, where there are some
an_init : (b : Bool) (h : Heritage) (code : Code) (rs : List CodeRow) (from to : ℕ) → init_if b (own_variables (version_of h).items) (variables_before (parents_of h)) rs (at h code) from to → AreInit h code b (map row_of rs)
an_init false h code rs from to (e, p) = ap (map row_of) e
an_init true h code rs from to (r, e, i, m) =
    let a = i.locals in
    (row_of r, ap (map row_of) e, record { name = i.name; params = i.params; locals = omega (arith, a); makes = subst (MakesInitOf h code) (sym i.from) (to, m) })

all_funs : (h : Heritage) (code : Code) (fs : List Function) (rs : List CodeRow) (from to : ℕ) → AreAscii fs → of_functions fs (initialisers (own_variables (version_of h).items) (variables_before (parents_of h))) rs (at h code) from to → AreFuns h code fs (map row_of rs)
all_funs h code [] rs from to ascii p = an_init (has_initialiser (own_variables (version_of h).items)) h code rs from to p
all_funs h code (f ∷ fs) [] from to ascii p = p
all_funs h code (f ∷ fs) (r ∷ rs) from to (s, ascii) (i, (m, c, d)) = (a_fun h code f r from s i (m, c), all_funs h code fs rs m to ascii d)

pub translated : (items : List ItemTree) (t : Tables) (ts : List Tables) (simuls : List (List ℕ)) (p : RawProgram) → IsSpelled items → IsGenerated items t ts simuls p → Translates items ts simuls p
translated items t ts simuls p spelled g h of lays =
    let code = code_of p (rows_of ts) in
    let made = g.code h (subst (λ x. Lays (plan_of x ts simuls) h code) g.tables lays) in
    all_funs h code (own_functions items) p.funs 0 (length p.instrs) (ascii_names items spelled.functions)
    (subst (λ k. of_functions (own_functions items) (initialisers (own_variables (version_of h).items) k) p.funs (at h code) 0 (length p.instrs)) (sym of.first)
    (subst (λ x. of_functions (own_functions items) (initialisers (own_variables x) (variables_in ts)) p.funs (at h code) 0 (length p.instrs)) (sym of.items) made))
