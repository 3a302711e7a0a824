use Rattle.std.proofs.Common.{◌≡◌, Some, arith, sym, subst}
use Rattle.std.specs.Prelude.{slice_get}
use Rattle.lp_values.specs.declared.id.ProgId.{ProgId}
use Rattle.lp_isa.specs.Programs.{IsReached}
use Rattle.lp_language.specs.Resolve.{heritage_of, of_parent_from, part_at}
use Rattle.lp_part_laws.proofs.Lists.{one_value}
use Rattle.lp_targets.proofs.Calls.{part_end}
use Rattle.lp_targets.proofs.Inherited.{calls_parent}
use Rattle.lp_targets.proofs.Memory.{some_row}
use Rattle.lp_targets.proofs.Worlds.{caller_fits, program_is}
use Rattle.lp_targets.proofs.parents.parent_in.Goals as goal

pub returns-clause-found : goal.returns-clause-found
returns-clause-found c = λ told programs w o name h closed e p here there listed who named.
    let live = c.args.live.now in
    let code = c.args.code.now in
    let whole = some_row _ here in
    let q = some_row _ there in
    let end = part_end (heritage_of w c.args.this) c.args.part who.place code who.at (caller_fits told programs live w c.args.this o c.args.part code h e who) in
    let cp = calls_parent told programs live w c.args.this o c.args.version c.args.part code whole.0 c.args.parent c.args.slot name who.place.first h closed e p whole.1 who named end in
    let same : c.args.number ≡ cp.number = one_value (slice_get code.tables.parents c.args.parent) c.args.number cp.number listed cp.listed in
    let is : slice_get programs cp.number.0 ≡ Some q.0 = subst (λ (z : ProgId). slice_get programs z.0 ≡ Some q.0) same (program_is told programs live w c.args.number q.0 h.stands q.1) in
    let s = cp.calls q.0 is in
    let at = c.parent_at-at.ensures who.place.first q.0 s.0 q.1 s.1 end (λ r z. let l = s.2.room r z in omega (arith, l)) in
    c.callee_of.ensures.is told programs w o whole.0 _ h closed e p whole.1 s.2.text
    (subst (IsReached (heritage_of w c.args.this) (of_parent_from (part_at (heritage_of w c.args.this) c.args.part) c.args.parent name)) (sym at) s.2.reached)
