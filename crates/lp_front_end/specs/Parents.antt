-- The parents that a file names: their files as the front end has them, and their names as loads have them.
use Rattle.std.specs.Prelude.{◌≡◌, ℕ, List, All, Option, Some, map, find, not, is_some, option_map}
use Rattle.std.specs.Str.{encode_utf8_all}
use Rattle.lp_tree.specs.Units.{ItemTree}
use Rattle.lp_code.specs.declared.tables.Tables.{Tables}
use Rattle.lp_inherit.specs.Heirs.{table}
use Rattle.lp_front.specs.declared.parents.Parent.{Parent as Inherited}
use Rattle.lp_front.specs.Names as files
use Rattle.lp_language.specs.World.{World}
use Rattle.lp_language.specs.Resolve.{heritage}
use Rattle.lp_meaning.specs.WorldSteps.{file_of_name}
use Rattle.lp_meaning.specs.FileLoads.{Made, Parent, parents_in, known_version, version_known, first_missing}
use Rattle.lp_front_end.specs.FrontEnds.{tables_in}

-- the file of a name, by the bytes of its path
abbrev pub file_bytes : List ℕ → List ℕ
file_bytes name = encode_utf8_all (file_of_name name)

-- a parent that is known by its name, by its file
abbrev pub by_file : Parent → Inherited
by_file p = record { line = p.line; file = file_bytes p.name }

-- for each `inherit` of a unit the file is that of the name
abbrev pub FilesAreOfNames : Type 0
FilesAreOfNames = (items : List ItemTree) → files.parents_in items ≡ map by_file (parents_in items)

-- two names have two files
abbrev pub NamesHaveFiles : Type 0
NamesHaveFiles = (a b : List ℕ) → file_bytes a ≡ file_bytes b → a ≡ b

-- the tables of the version that is known of a parent
abbrev pub tables_known : World → List Made → List ℕ → Option Tables
tables_known w made name = option_map (λ v. table (heritage w v)) (known_version w made name)

-- Of each parent that these items name this tells the tables of the version that the world and the load under way know, or that
-- none is known.
abbrev pub KnowsParents : (List ℕ → Option Tables) → World → List Made → List ItemTree → Type 0
KnowsParents known w made items = All (λ p. known (file_bytes p.name) ≡ tables_known w made p.name) (parents_in items)

-- the first parent whose tables are not known
abbrev pub first_not_known : (List ℕ → Option Tables) → List Inherited → Option Inherited
first_not_known known ps = find (λ p. not (is_some (known p.file))) ps

-- The first parent whose tables are not known is the first that is missing.
abbrev pub MissingAreTheSame : Type 0
MissingAreTheSame = (known : List ℕ → Option Tables) (w : World) (made : List Made) (items : List ItemTree) → KnowsParents known w made items
    → first_not_known known (files.parents_in items) ≡ option_map by_file (first_missing w made (parents_in items))

-- Where the tables of all parents are known, they are those of the parents' versions.
abbrev pub TablesAreTheSame : Type 0
TablesAreTheSame = (known : List ℕ → Option Tables) (w : World) (made : List Made) (items : List ItemTree) (ts : List Tables) → KnowsParents known w made items
    → map (λ p. known p.file) (files.parents_in items) ≡ map Some ts → ts ≡ tables_in w (map (version_known w made) (parents_in items))
