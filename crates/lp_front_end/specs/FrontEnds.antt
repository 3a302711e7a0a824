-- The front end of the written meaning: reading is expansion and grammar, checking is typing and layout.
use Rattle.std.specs.Prelude.{◌≡◌, ℕ, List, map, All}
use Rattle.std.specs.Str.{encode_utf8_all}
use Rattle.lp_tree.specs.declared.fault.Fault.{Fault}
use Rattle.lp_tree.specs.declared.pragma.Pragmas.{Pragmas}
use Rattle.lp_tree.specs.Units.{ItemTree}
use Rattle.lp_values.specs.declared.id.ProgId.{ProgId}
use Rattle.lp_code.specs.declared.tables.Tables.{Tables}
use Rattle.lp_inherit.specs.Heirs.{table}
use Rattle.lp_front.specs.Settling.{faults_of}
use Rattle.lp_language.specs.World.{File, World}
use Rattle.lp_language.specs.Resolve.{heritage}
use Rattle.lp_meaning.specs.FrontEnd.{FrontEnd, HasFault}
use Rattle.lp_front_end.specs.Readings.{IsReading, setting_of}

-- the tables of some versions of a world
abbrev pub tables_in : World → List ProgId → List Tables
tables_in w vs = map (λ v. table (heritage w v)) vs

-- A front end reads each file by the rules of expansion and grammar. What a unit with these parents has for faults is told by
-- the rules of typing, and where they find none by those of layout, over the tables of the parents' versions.
pub record IsFrontEnd (front : FrontEnd) : Type 0 where
  pub reads : (files : List File) (path : List ℕ) → IsReading (setting_of files path) (front.read files path)
  pub checks : (w : World) (path : List ℕ) (items : List ItemTree) (pragmas : Pragmas) (parents : List ProgId) (simuls : List (List ℕ))
      → front.check w path items pragmas parents simuls ≡ faults_of (encode_utf8_all path) items pragmas (tables_in w parents) simuls

-- there is such a front end
abbrev pub ThereIsOne : Type 0
ThereIsOne = (front : FrontEnd) × IsFrontEnd front

-- and all of them are the same
abbrev pub AllAreTheSame : Type 0
AllAreTheSame = (f g : FrontEnd) → IsFrontEnd f → IsFrontEnd g → f ≡ g

-- Each fault that is told of a file names that file.
pub record NamesTheFile (front : FrontEnd) : Type 0 where
  pub reads : (files : List File) (path : List ℕ) (f : Fault) → front.read files path ≡ HasFault f → f.file ≡ encode_utf8_all path
  pub checks : (w : World) (path : List ℕ) (items : List ItemTree) (pragmas : Pragmas) (parents : List ProgId) (simuls : List (List ℕ)) → All (λ f. f.file ≡ encode_utf8_all path) (front.check w path items pragmas parents simuls)
