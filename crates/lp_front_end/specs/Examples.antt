-- What a front end tells of small files.
use Rattle.std.specs.Prelude.{◌≡◌, ℕ, List, [], ◌∷◌, Some, codes, pos}
use Rattle.lp_tree.specs.declared.fault.FaultKind.TheVariants.{NoFile, NomaskOverridden, Unexpected}
use Rattle.lp_tree.specs.declared.keyword.Base.TheVariants as bases
use Rattle.lp_tree.specs.declared.keyword.Modifier.{Modifier}
use Rattle.lp_tree.specs.declared.keyword.Modifier.TheVariants.{Nomask}
use Rattle.lp_tree.specs.Trees as trees
use Rattle.lp_tree.specs.Statements.{NoStmt, MoreStmts, Return}
use Rattle.lp_tree.specs.Units.{ItemTree, Inherit, Fun}
use Rattle.lp_values.specs.declared.id.ProgId.{ProgId}
use Rattle.lp_preproc.specs.State.{no_pragmas}
use Rattle.lp_language.specs.World.{File, Version, World, new_world}
use Rattle.lp_meaning.specs.FrontEnd.{FrontEnd, Declares, HasFault}

-- a file without a byte
abbrev pub empty_file : List File
empty_file = record { path = codes "/a.c"; bytes = [] } ∷ []

-- `inherit "/n";`
abbrev pub inherit_bytes : List ℕ
inherit_bytes = codes "inherit \"/n\";"

abbrev pub inherit_file : List File
inherit_file = record { path = codes "/m.c"; bytes = inherit_bytes } ∷ []

-- `int logon( {`
abbrev pub broken_bytes : List ℕ
broken_bytes = codes "int logon( {"

abbrev pub broken_file : List File
broken_file = record { path = codes "/p.c"; bytes = broken_bytes } ∷ []

-- `int f() { return N; }` with some modifiers, in a line
abbrev pub function : ℕ → List Modifier → ℕ → ItemTree
function line ms n = Fun line ms (Some (record { base = bases.Int; stars = 0 })) (codes "f") [] (record { line = line; stmts = MoreStmts (Return line (Some (trees.Int line (pos n)))) NoStmt })

-- `/n.c` is `nomask int f() { return 1; }`, and was compiled
abbrev pub parent : Version
parent = record { path = codes "/n.c"; items = function 1 (Nomask ∷ []) 1 ∷ []; parents = []; pragmas = no_pragmas; simuls = []; latest = 0 }

abbrev pub with_parent : World
with_parent = record (new_world [] 0 0) { versions = parent ∷ [] }

-- `/m.c` is `inherit "/n";` and, in its second line, `int f() { return 2; }`
abbrev pub child : List ItemTree
child = Inherit 1 (codes "/n") ∷ function 2 [] 2 ∷ []

abbrev pub first_version : List ProgId
first_version = record { 0 = 0 } ∷ []

pub record Examples (front : FrontEnd) : Type 0 where
  pub no_file : front.read [] (codes "/a.c") ≡ HasFault (record { file = codes "/a.c"; line = 0; kind = NoFile })
  pub empty : front.read empty_file (codes "/a.c") ≡ Declares [] no_pragmas
  pub inherited : front.read inherit_file (codes "/m.c") ≡ Declares (Inherit 1 (codes "/n") ∷ []) no_pragmas
  pub broken : front.read broken_file (codes "/p.c") ≡ HasFault (record { file = codes "/p.c"; line = 1; kind = Unexpected })
  pub alone : front.check with_parent (codes "/n.c") (function 1 (Nomask ∷ []) 1 ∷ []) no_pragmas [] [] ≡ []
  pub overridden : front.check with_parent (codes "/m.c") child no_pragmas first_version [] ≡ record { file = codes "/m.c"; line = 2; kind = NomaskOverridden } ∷ []
