-- What a file declares, or its first fault, by the rules of expansion and of grammar, among the files of a world.
use Rattle.std.specs.Prelude.{◌≡◌, ◌≤◌, ◌⊎◌, ℕ, List}
use Rattle.std.specs.Str.{encode_utf8_all}
use Rattle.lp_tree.specs.declared.fault.Fault.{Fault}
use Rattle.lp_tree.specs.declared.pragma.Pragmas.{Pragmas}
use Rattle.lp_tree.specs.declared.token.Token.{Token}
use Rattle.lp_tree.specs.Units.{ItemTree, SpellsUnit, unit_height}
use Rattle.lp_preproc.specs.State.{Setting}
use Rattle.lp_preproc.specs.Expansion.{IsExpansion, IsFirstFault}
use Rattle.lp_parser.specs.Theorem.{sight, deepest}
use Rattle.lp_front.specs.Reading.{IsUnitFault}
use Rattle.lp_language.specs.World.{File}
use Rattle.lp_meaning.specs.FrontEnd.{Reading, Declares, HasFault}
use Rattle.lp_meaning.specs.WorldSteps.{file_at}

-- The files of a world as an expansion sees them, and the path of the one that is read, which an expansion knows by its bytes.
-- The paths of files are of ASCII, so theirs are the same by bytes and by code points.
abbrev pub setting_of : List File → List ℕ → Setting
setting_of files path = record { files = file_at files; path = encode_utf8_all path }

-- The file expands to tokens that spell these items, nothing in them too deep.
pub record IsDeclared (c : Setting) (items : List ItemTree) (pragmas : Pragmas) : Type 0 where
  pub tokens : List Token
  pub expands : IsExpansion c tokens pragmas
  pub spelled : SpellsUnit items (sight tokens)
  pub shallow : unit_height items ≤ deepest

-- The file expands to tokens that spell no unit, or one with something too deep in it, and this is the first fault of them.
pub record IsOfUnit (c : Setting) (f : Fault) : Type 0 where
  pub tokens : List Token
  pub pragmas : Pragmas
  pub expands : IsExpansion c tokens pragmas
  pub fault : IsUnitFault tokens f.kind f.line

-- The first fault of a file, which names the file: that of its expansion, or else that of the unit that its tokens should spell.
abbrev pub IsFaultOf : Setting → Fault → Type 0
IsFaultOf c f = (f.file ≡ c.path) × (IsFirstFault c f.kind f.line ⊎ IsOfUnit c f)

-- what a file declares, or its first fault
abbrev pub IsReading : Setting → Reading → Type 0
IsReading c (Declares items pragmas) = IsDeclared c items pragmas
IsReading c (HasFault f) = IsFaultOf c f
