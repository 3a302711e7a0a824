use Rattle.std.proofs.Common.{rules, ◌≡◌, ◌+◌, ◌-◌, ◌<◌, ◌^◌, length, refl, Some, slice_get}
use Rattle.lp_frames.proofs.Entered.{can_run_from, entered, lays_out, of_row, params_of, runs_entered}
use Rattle.lp_frames.proofs.entry.enter.Goals as goal

pub begin_locals-requires-clause-params : goal.begin_locals-requires-clause-params
begin_locals-requires-clause-params c =
    let found : slice_get c.args.code.funs c.args.callee.fun ≡ Some c.row_at-row.result.now = search rules in
    params_of (length c.args.code.instrs) c.args.code.funs c.args.callee.fun c.row_at-row.result.now c.raw-raw.ensures.sound.rows found

pub returns-clause-stack : goal.returns-clause-stack
returns-clause-stack c =
    let found : slice_get c.args.code.funs c.args.callee.fun ≡ Some c.row_at-row.result.now = search rules in
    let bottom : c.len.result - c.args.args ≡ length c.args.stack.now.items - c.args.args = search rules in
    lays_out c.args.code c.args.callee c.args.args c.args.stack.now.items c.begin_locals.new.stack.items c.row_at-row.result.now (c.len.result - c.args.args) c.new.result found bottom c.new.ensures.items c.in_ok-begin_locals.ensures

pub returns-clause-enters : goal.returns-clause-enters
returns-clause-enters c =
    let found : slice_get c.args.code.funs c.args.callee.fun ≡ Some c.row_at-row.result.now = search rules in
    let bottom : c.len.result - c.args.args ≡ length c.args.stack.now.items - c.args.args = search rules in
    entered c.args.code c.args.callee c.args.args c.args.stack.now.items c.begin_locals.new.stack.items c.row_at-row.result.now c.row_at-row.result.now.from (c.len.result - c.args.args) c.new.result
    found (params_of (length c.args.code.instrs) c.args.code.funs c.args.callee.fun c.row_at-row.result.now c.raw-raw.ensures.sound.rows found) c.requires.arguments refl bottom c.new.ensures.items c.in_ok-begin_locals.ensures

pub returns-clause-runs : goal.returns-clause-runs
returns-clause-runs c =
    runs_entered c.args.code c.args.callee c.args.args c.args.stack.now.items c.begin_locals.new.stack.items c.row_at-row.result.now.params c.row_at-row.result.now.locals (c.len.result - c.args.args) _
    c.in_ok-begin_locals.ensures (returns-clause-enters c)

pub returns-clause-of : goal.returns-clause-of
returns-clause-of c =
    let bottom : c.len.result - c.args.args ≡ length c.args.stack.now.items - c.args.args = search rules in
    let fits : c.len.result - c.args.args + c.row_at-row.result.now.locals + c.args.code.max_height < 2 ^ 32 = search rules in
    let found : slice_get c.args.code.funs c.args.callee.fun ≡ Some c.row_at-row.result.now = search rules in
    of_row c.args.code c.args.callee c.args.args c.args.stack.now.items c.row_at-row.result.now (c.len.result - c.args.args) found c.requires.arguments bottom fits

pub returns-clause-can : goal.returns-clause-can
returns-clause-can c = can_run_from c.args.code c.args.callee c.args.args c.args.stack.now.items c.begin_locals.new.stack.items _ c.raw-raw.ensures.sound (returns-clause-of c) (returns-clause-runs c)
