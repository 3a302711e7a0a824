-- The callee of what a search found is one in each later world.
use Rattle.std.proofs.Common.{◌≡◌, ◌∙◌, ◌<◌, ℕ, arith, List, Option, Some, IsSome, ap, sym, subst, length, slice_get}
use Rattle.lp_values.specs.declared.id.ObjId.{ObjId}
use Rattle.lp_values.specs.declared.id.ProgId.{ProgId}
use Rattle.lp_code.specs.declared.program.RawProgram.{RawProgram}
use Rattle.lp_code.specs.Programs.{FindsRows, code_of}
use Rattle.lp_swapfile.specs.Device.{Bytes}
use Rattle.lp_language.specs.World.{Object, World, object_at}
use Rattle.lp_language.specs.Resolve.{Found, heritage_of, number_of, parents_of, part_at}
use Rattle.lp_isa.specs.Translates.{MakesFun}
use Rattle.lp_inherit.specs.Heirs.{tables}
use Rattle.lp_world.specs.Closed.{IsClosed}
use Rattle.lp_world.specs.declared.live.Live.{Live}
use Rattle.lp_world.specs.Rows.{row_at}
use Rattle.lp_world.specs.Stands.{Stands}
use Rattle.lp_world.proofs.BareWorlds.{heritage_same}
use Rattle.lp_residence.proofs.RowChanges.{object_behind, row_there}
use Rattle.lp_frames.specs.declared.entry.Callee.{Callee}
use Rattle.lp_frames.proofs.Entered.{begins_as_written}
use Rattle.lp_part_laws.specs.Versions.{rows_of}
use Rattle.lp_part_laws.proofs.Lists.{is_below}
use Rattle.lp_asking.specs.Asking.{rows_in}
use Rattle.lp_targets.specs.Callees as now
use Rattle.lp_targets.specs.Callees.{IsWorldOf}
use Rattle.lp_targets.proofs.Memory.{some_row}
use Rattle.lp_reaching.specs.Compiled.{IsCallee}
use Rattle.lp_reaching.specs.Subjects.{OfFunction}
use Rattle.lp_reaching.proofs.Later.{caller_later}
use Rattle.lp_reaching.proofs.Names.{names_of_part}

-- the object of a row, whose version has a number
pub record IsThere (w : World) (o : ObjId) : Type 0 where
  pub object : Object
  pub is : slice_get w.objects o.0 ≡ Some object
  pub low : object.version.0 < length w.versions

pub is_there : (told : Option Bytes) (programs : List RawProgram) (live : Live) (w : World) (o : ObjId) → Stands told programs live w → IsClosed live → IsSome (row_at live.objects o.0) → IsThere w o
is_there told programs live w o h c s =
    let r = some_row (row_at live.objects o.0) s in
    let there = row_there live.objects o.0 r.0 r.1 in
    let b = object_behind told programs live w o.0 r.0 h there in
    let oc = c.objects o.0 r.0 there in
    let below : r.0.program.0 < length live.versions = is_below live.versions r.0.program.0 (Some oc.version) (row_there live.versions r.0.program.0 oc.version oc.there) in
    let many : length live.versions ≡ length w.versions = h.versions.next in
    record { object = b.0; is = b.1; low = subst (λ (v : ProgId). v.0 < length w.versions) b.2.version (omega (arith, below, many)) }

-- the names that the program of a caller finds
pub names_of_caller : (programs : List RawProgram) (told : Option Bytes) (live : Live) (w : World) (o : ObjId) (part : ℕ) (code : RawProgram) → IsWorldOf told programs live w → (who : now.IsCaller programs w o part code)
    → rows_of (tables (parents_of who.place.tree)) ≡ rows_in programs code
names_of_caller programs told live w o part code h who =
    names_of_part programs w.versions (object_at w o).version part who.place code h.compiled (ap (λ t. part_at t part) (sym (heritage_same w (object_at w o).version)) ∙ who.at) who.is

pub callee_later : (told : Option Bytes) (programs : List RawProgram) (live : Live) (w : World) (c : Callee) (o : ObjId) (f : Found) → IsWorldOf told programs live w → IsClosed live → IsSome (row_at live.objects o.0)
    → now.IsCallee programs w c o f → IsCallee programs w c o (OfFunction f)
callee_later told programs live w c o f h closed s k =
    let t = is_there told programs live w o h.stands closed s in
    let is : slice_get programs (number_of k.place.tree).0 ≡ Some k.code = ap (λ (v : ProgId). slice_get programs v.0) (sym k.program) ∙ k.is in
    let who : now.IsCaller programs w o c.part k.code = record { place = k.place; at = ap (part_at (heritage_of w o)) k.part ∙ k.at; is = is } in
    let names : rows_of (tables (parents_of k.place.tree)) ≡ rows_in programs k.code = names_of_caller programs told live w o c.part k.code h who in
    record {
      this = k.this;
      part = k.part;
      place = k.place;
      at = k.at;
      program = k.program;
      base = k.base;
      code = k.code;
      is = k.is;
      sound = k.fits.sound;
      row = k.function.row;
      found = k.function.listed;
      name = k.function.name;
      locals = λ xs. begins_as_written f.function k.function.row xs k.function.params k.function.locals;
      makes = subst (λ ns. MakesFun k.place.tree f.function (code_of k.code ns) k.function.row.from) names k.function.makes;
      rows = subst (FindsRows k.code) names k.fits.rows;
      places = k.fits.places;
      caller = caller_later programs w o t.object c.part k.code h.compiled.rising t.is t.low who;
    }
