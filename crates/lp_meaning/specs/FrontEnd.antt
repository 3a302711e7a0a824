-- What reading and checking a file give. The rules of it, which are those of expansion, grammar, typing and layout, stand
-- elsewhere and give one answer; so it is a pair of functions here, and what is said of a run holds whatever they are.
use Rattle.std.specs.Prelude.{◌≡◌, ℕ, List, [], ◌∷◌}
use Rattle.lp_tree.specs.declared.fault.Fault.{Fault}
use Rattle.lp_tree.specs.declared.pragma.Pragmas.{Pragmas}
use Rattle.lp_tree.specs.Units.{ItemTree}
use Rattle.lp_values.specs.declared.id.ProgId.{ProgId}
use Rattle.lp_language.specs.World.{File, World}
use Rattle.lp_language.specs.Course.{Asked, Internal, Parent, OfEfun, Apply, Other, Initialise, Command, Load, Read, Check, Ask, Reply, WasRead, IsSound, IsFaulty, Returned, Outcome}

-- what a file, as it stands among the files, declares; or its first fault
pub data Reading : Type 0 where
  Declares : (items : List ItemTree) (pragmas : Pragmas) → Reading
  HasFault : Fault → Reading

-- Reading a file by its path; and checking what it declared, with these versions of its parents and these simul efuns, which
-- gives its faults, none where it is sound.
pub record FrontEnd : Type 0 where
  pub read : List File → (path : List ℕ) → Reading
  pub check : World → (path : List ℕ) → List ItemTree → Pragmas → (parents : List ProgId) → (simuls : List (List ℕ)) → List Fault

-- the replies of both
abbrev pub read_reply : Reading → Reply
read_reply (Declares items pragmas) = WasRead items pragmas
read_reply (HasFault f) = IsFaulty (f ∷ [])

abbrev pub check_reply : List Fault → Reply
check_reply [] = IsSound
check_reply (f ∷ fs) = IsFaulty (f ∷ fs)

-- what is told of a question that means no course
abbrev pub Tells : FrontEnd → Ask → Asked → Reply → Type 0
Tells front a (Read path) r = read_reply (front.read a.world.files path) ≡ r
Tells front a (Check path items pragmas parents simuls) r = check_reply (front.check a.world path items pragmas parents simuls) ≡ r
Tells front a (Internal name) r = ⊥
Tells front a (Parent inherit name) r = ⊥
Tells front a (OfEfun e) r = ⊥
Tells front a (Apply o name) r = ⊥
Tells front a (Other o name) r = ⊥
Tells front a (Initialise o part) r = ⊥
Tells front a (Command o line) r = ⊥
Tells front a (Load name kind) r = ⊥

-- a reply, and nothing changes
abbrev pub unchanged : Ask → Reply → Outcome
unchanged a r = record { answer = Returned r; player = a.player; commands = a.commands; world = a.world; budget = a.budget; outputs = [] }

-- so its outcome is that reply
abbrev pub IsTold : FrontEnd → Ask → Outcome → Type 0
IsTold front a o = (r : Reply) × Tells front a a.what r × (o ≡ unchanged a r)
