-- Who calls, and what is called, with the programs of all versions. Both are so in each later world.
use Rattle.std.specs.Prelude.{◌≡◌, ◌<◌, ◌^◌, ℕ, List, Some, length, slice_get}
use Rattle.lp_values.specs.declared.id.ObjId.{ObjId}
use Rattle.lp_values.specs.declared.value.Value.{Value}
use Rattle.lp_code.specs.declared.program.FunRow.{FunRow}
use Rattle.lp_code.specs.declared.program.RawProgram.{RawProgram}
use Rattle.lp_code.specs.Programs.{FindsRows, IsProgram}
use Rattle.lp_language.specs.World.{Keeps, World}
use Rattle.lp_language.specs.Resolve.{Part, heritage_of, number_of, part_at}
use Rattle.lp_frames.specs.Entries.{begun_locals}
use Rattle.lp_frames.specs.declared.entry.Callee.{Callee}
use Rattle.lp_asking.specs.Asking.{code_in, rows_in}
use Rattle.lp_targets.specs.Callees as now
use Rattle.lp_reaching.specs.Subjects.{Subject, MakesSubject, first_locals_of, name_of_subject, part_of_subject}

-- Who calls: a part of an object's version, and the program of that part; in a world, and in each later one.
abbrev pub IsCaller : List RawProgram → World → ObjId → ℕ → RawProgram → Type 0
IsCaller programs w this part code = (u : World) → Keeps w u → now.IsCaller programs u this part code

-- A callee is what is called in an object: it is in this part of the object's version, whose variables begin there; and its row
-- in that part's program, which is sound, has its name, gives it the locals with which it begins, and has its code.
pub record IsCallee (programs : List RawProgram) (w : World) (callee : Callee) (o : ObjId) (x : Subject) : Type 0 where
  pub this : callee.this ≡ o
  pub part : callee.part ≡ part_of_subject x
  pub place : Part
  pub at : part_at (heritage_of w o) (part_of_subject x) ≡ Some place
  pub program : callee.program ≡ number_of place.tree
  pub base : callee.base ≡ place.base
  pub code : RawProgram
  pub is : slice_get programs callee.program.0 ≡ Some code
  pub sound : IsProgram code
  pub row : FunRow
  pub found : slice_get code.funs callee.fun ≡ Some row
  pub name : row.name ≡ name_of_subject x
  pub locals : (xs : List Value) → begun_locals row.params row.locals xs ≡ first_locals_of x xs
  pub makes : MakesSubject place.tree x (code_in programs code) row.from
  pub rows : FindsRows code (rows_in programs code)
  pub places : length code.instrs < 2 ^ 32
  pub caller : IsCaller programs w o callee.part code
