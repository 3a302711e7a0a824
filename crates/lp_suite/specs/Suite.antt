-- The tests of a mudlib.
use Rattle.std.specs.Prelude.{◌≡◌, ◌⊎◌, ◌<◌, ℕ, List, [], ◌∷◌, ◌++◌, length, Bool, true, false, not, ◌&&◌, Option, nat_eq, codes}
use Rattle.std.specs.List.{starts_with}
use Rattle.std.specs.Str.{encode_utf8_all}
use Rattle.lp_tree.specs.declared.fault.Fault.{Fault}
use Rattle.lp_tree.specs.declared.keyword.Modifier.{Modifier}
use Rattle.lp_tree.specs.declared.pragma.Pragmas.{Pragmas}
use Rattle.lp_tree.specs.declared.unit.Param.{Param}
use Rattle.lp_tree.specs.Units.{ItemTree, Inherit, Proto, Fun, Var}
use Rattle.lp_files.specs.declared.store.Store.{Store}
use Rattle.lp_front.specs.Reading.{Declares, HasFault}
use Rattle.lp_language.specs.Resolve.{is_private}
use Rattle.lp_loads.specs.Loads.{Loaded, LoadsAll, load_of}
use Rattle.lp_check.specs.Report.{IsStoreOf, LoadsSimul, load_faults, simul_file, sources_of}
use Rattle.lp_suite.specs.declared.suite.Entry.{Entry}
use Rattle.lp_suite.specs.declared.suite.Entry.TheVariants.{Faulty, Test}

-- Which functions are tests

-- a name that begins with `test_`
abbrev pub is_test_name : List ℕ → Bool
is_test_name name = starts_with nat_eq name (codes "test_")

-- A TEST: its name begins so, it has no parameters, and it is not private.
abbrev pub is_test : List Modifier → List ℕ → List Param → Bool
is_test mods name params = is_test_name name && nat_eq (length params) 0 && not (is_private mods)

abbrev pub test_if : Bool → List ℕ → List ℕ → List Entry
test_if true path name = Test path (encode_utf8_all name) ∷ []
test_if false path name = []

-- the tests among the items of a file with this path: functions with a body that stand in it, in their order
abbrev pub tests_in : List ℕ → List ItemTree → List Entry
tests_in path [] = []
tests_in path (Inherit line name ∷ is) = tests_in path is
tests_in path (Proto line ms ty name ps ∷ is) = tests_in path is
tests_in path (Fun line ms ty name ps b ∷ is) = test_if (is_test ms name ps) path name ++ tests_in path is
tests_in path (Var line ms base ds ∷ is) = tests_in path is

-- Files

-- a file is faulty: of its expansion or its grammar, or by what its load finds, as a check tells it
abbrev pub IsFaulty : Store → Loaded → List ℕ → Type 0
IsFaulty store ls path = (0 < length (load_faults (load_of ls path))) ⊎ ((fault : Fault) × HasFault store path fault)

-- WHAT IS TOLD OF A FILE: that it is faulty, or its tests
pub data IsFile (store : Store) (ls : Loaded) (path : List ℕ) : List Entry → Type 0 where
  faulty : IsFaulty store ls path → IsFile store ls path (Faulty path ∷ [])
  sound : (items : List ItemTree) (pragmas : Pragmas) → length (load_faults (load_of ls path)) ≡ 0 → Declares store path items pragmas → IsFile store ls path (tests_in path items)

-- and of files, one behind another
pub data AddsEntries (store : Store) (ls : Loaded) : List (List ℕ) → List Entry → Type 0 where
  none : AddsEntries store ls [] []
  more : (paths : List (List ℕ)) (path : List ℕ) (es fs : List Entry) → AddsEntries store ls paths es → IsFile store ls path fs → AddsEntries store ls (paths ++ path ∷ []) (es ++ fs)

-- what is told of a file stands behind what was told before
abbrev pub AddsFile : Store → Loaded → List ℕ → List Entry → List Entry → Type 0
AddsFile store ls path before after = (es : List Entry) × IsFile store ls path es × (after ≡ before ++ es)

-- WHAT IS TOLD OF A MUDLIB of these files: by the paths of those that are compiled, and by what a check of them finds, where this path was
-- given for the simul efuns.
pub record IsSuite (simul : Option (List ℕ)) (files : List (List ℕ × List ℕ)) (entries : List Entry) : Type 0 where
  pub store : Store
  pub holds : IsStoreOf files store
  pub names : List (List ℕ)
  pub before : Loaded
  pub simuls : LoadsSimul store (simul_file (sources_of files) simul) before names
  pub after : Loaded
  pub loads : LoadsAll store names (sources_of files) before after
  pub told : AddsEntries store after (sources_of files) entries
