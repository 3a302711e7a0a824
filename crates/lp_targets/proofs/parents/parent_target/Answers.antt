use Rattle.std.proofs.Common.{◌≡◌, ◌∙◌, Some, sym, subst}
use Rattle.std.specs.Prelude.{IfOk, slice_get}
use Rattle.lp_code.specs.declared.program.RawProgram.{RawProgram}
use Rattle.lp_code.specs.Programs.{code_of}
use Rattle.lp_instr.specs.Code.{parent_row}
use Rattle.lp_inherit.specs.Heirs.{tables}
use Rattle.lp_language.specs.Resolve.{heritage_of, of_parent_from, parents_of, part_at}
use Rattle.lp_part_laws.specs.Versions.{rows_of}
use Rattle.lp_targets.specs.Callees.{IsAnswer, IsCaller, IsWorldOf}
use Rattle.lp_targets.proofs.Calls.{part_end}
use Rattle.lp_targets.proofs.Inherited.{calls_parent}
use Rattle.lp_targets.proofs.Memory.{brings_err, brings_more, own_version_there, some_row}
use Rattle.lp_targets.proofs.Worlds.{caller_fits}
use Rattle.lp_targets.proofs.parents.parent_target.Goals as goal

pub bring_program-requires-clause-there : goal.bring_program-requires-clause-there
bring_program-requires-clause-there g c = own_version_there c.args.live.now c.args.this.0 c.version_of-version.result c.requires.closed c.requires.there c.version_of-version.ensures

pub returns-in-Err-clause-brings : goal.returns-in-Err-clause-brings
returns-in-Err-clause-brings g c = brings_err c.in-Err.ensures.brings

pub returns-in-Some-clause-brings : goal.returns-in-Some-clause-brings
returns-in-Some-clause-brings g c = brings_more c.in-Ok.ensures.brings c.in-Ok.ensures.stands c.parent_brought.ensures.brings

pub returns-in-Some-clause-found : goal.returns-in-Some-clause-found
returns-in-Some-clause-found g c = λ t programs w name h who named.
    let x = some_row _ c.requires.there in
    let y = c.in-Ok.ensures.brings.stays.objects c.args.this.0 x.0 x.1 in
    let program : y.0.program ≡ c.version_of-version.result = y.2.program ∙ sym (c.version_of-version.ensures x.0 x.1) in
    let world : IsWorldOf (g.W.SwapFile.content c.bring_program.new.swap) programs c.bring_program.new.live w =
    record { stands = c.in-Ok.ensures.stands (c.parent_brought.ensures.brings.truthful t) programs w h.stands; compiled = h.compiled; shadows = h.shadows } in
    let listed = subst (λ (z : RawProgram). slice_get z.tables.parents c.args.parent ≡ Some c.in-Some.number) (c.raw.ensures.same ∙ sym c.raw-in-Some.ensures.same) c.in-Some.ensures.inside.0 in
    subst (λ (z : RawProgram). (who : IsCaller programs w c.args.this c.args.part z) → parent_row (code_of z (rows_of (tables (parents_of who.place.tree)))) c.args.parent c.args.slot ≡ Some name
    → IfOk c.parent_brought.result (λ r. IsAnswer programs w c.args.this r (of_parent_from (part_at (heritage_of w c.args.this) c.args.part) c.args.parent name)))
    c.raw-in-Some.ensures.same
    (λ u n. c.parent_brought.ensures.found t programs w y.0 name world y.1 program listed u n) who named

pub returns-in-None-clause-found : goal.returns-in-None-clause-found
returns-in-None-clause-found g c = λ t programs w name h who named.
    let told = g.W.SwapFile.content c.bring_program.new.swap in
    let live = c.bring_program.new.live in
    let code = c.args.code.now in
    let x = some_row _ c.requires.there in
    let y = c.in-Ok.ensures.brings.stays.objects c.args.this.0 x.0 x.1 in
    let program : y.0.program ≡ c.version_of-version.result = y.2.program ∙ sym (c.version_of-version.ensures x.0 x.1) in
    let world : IsWorldOf told programs live w = record { stands = c.in-Ok.ensures.stands t programs w h.stands; compiled = h.compiled; shadows = h.shadows } in
    let whole = some_row _ c.in-Ok.ensures.here in
    let end = part_end (heritage_of w c.args.this) c.args.part who.place code who.at (caller_fits told programs live w c.args.this y.0 c.args.part code world y.1 who) in
    let cp = calls_parent told programs live w c.args.this y.0 c.version_of-version.result c.args.part code whole.0 c.args.parent c.args.slot name who.place.first world c.in-Ok.ensures.closed y.1 program whole.1 who named end in
    let n = c.in-None.ensures.is cp.number (subst (λ (z : RawProgram). slice_get z.tables.parents c.args.parent ≡ Some cp.number) (sym c.raw.ensures.same) cp.listed) cp.there in
    absurd cc
