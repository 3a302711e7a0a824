-- An object in memory with its program.
use Rattle.std.proofs.Common.{◌≡◌, ◌∙◌, List, Option, Some, None, IsSome, refl, ap, sym}
use Rattle.lp_values.specs.declared.id.ObjId.{ObjId}
use Rattle.lp_values.specs.declared.id.ProgId.{ProgId}
use Rattle.lp_code.specs.declared.program.RawProgram.{RawProgram}
use Rattle.lp_world.specs.declared.live.Live.{Live}
use Rattle.lp_world.specs.declared.objects.Object.{Object}
use Rattle.lp_world.specs.Rows.{row_at, variables_at, variables_in}
use Rattle.lp_targets.specs.Brought.{StaysInMemory, program_at}
use Rattle.lp_targets.proofs.Memory.{some_row, variables_still}
use Rattle.lp_saving.specs.Saving.{IsKeeper}

-- an object that is in memory has its row
pub row_of : (rows : List (Option Object)) (o : ObjId) → IsSome (variables_at rows o) → IsSome (row_at rows o.0)
row_of rows o h = by (row_at rows o.0) h
  where
    by : (x : Option Object) → IsSome (variables_in x) → IsSome x
    by None h = absurd cc
    by (Some x) h = refl

-- it is in memory still, with its program, once that came
pub keeper : (a b : Live) (o : ObjId) (p : ProgId) (code : RawProgram) → StaysInMemory a b → IsSome (variables_at a.objects o) → ((x : Object) → row_at a.objects o.0 ≡ Some x → p ≡ x.program) → program_at b.versions p ≡ Some code → IsKeeper b o code
keeper a b o p code s h v e =
    let x = some_row (row_at a.objects o.0) (row_of a.objects o h) in
    let y = s.objects o.0 x.0 x.1 in
    record {
      here = variables_still a b o s h;
      code = λ z q.
          let same : z.program ≡ p = ap (λ (r : Option Object). of z.program r) (sym q ∙ y.1) ∙ y.2.program ∙ sym (v x.0 x.1) in
          ap (program_at b.versions) same ∙ e;
    }
  where
    of : ProgId → Option Object → ProgId
    of d None = d
    of d (Some z) = z.program
