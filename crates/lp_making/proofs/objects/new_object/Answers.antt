use Rattle.std.proofs.Common.{◌≡◌, length}
use Rattle.std.specs.Str.{chars}
use Rattle.lp_world.specs.Closed.{variables_in}
use Rattle.lp_world.specs.Rows.{row_at}
use Rattle.lp_world.specs.declared.live.Live.{Live}
use Rattle.lp_making.specs.Objects.{with_object, with_watches, zeros}
use Rattle.lp_making.proofs.NewObject.{made_closed, made_stands, new_is, not_made, not_made_closed, old_is}
use Rattle.lp_making.proofs.objects.new_object.Goals as goal

after : (c : goal.In-Ok) → record c.args.live.now { names = c.add_named.new.names; objects = c.add_named.new.objects; timers = c.watch_new.new.timers }
    ≡ with_object c.args.live.now c.args.program (zeros (variables_in (row_at c.args.live.now.versions c.args.program.0))) c.add_named.new.names (with_watches c.args.live.now.timers c.wanted_at-wanted.result.reset c.wanted_at-wanted.result.clean_up (record { 0 = length c.args.live.now.objects }) c.args.live.now.clock)
after c =
    new_is c.args.live.now c.args.program c.wanted_at-wanted.result.reset c.wanted_at-wanted.result.clean_up c.add_named.new.names c.add_named.new.objects c.watch_new.new.timers c.in_ok-values.values c.variable_count.result c.len.result
    c.in_ok-values.ensures c.variable_count.ensures c.len.ensures c.in-Ok.ensures.ok c.in_ok-watch_new.ensures.ok

pub returns-in-Ok-clause-stands : goal.returns-in-Ok-clause-stands
returns-in-Ok-clause-stands c =
    let new : Live = record c.args.live.now { names = c.add_named.new.names; objects = c.add_named.new.objects; timers = c.watch_new.new.timers } in
    made_stands c.args.live.now new (chars c.args.name.now) c.args.program c.wanted_at-wanted.result.reset c.wanted_at-wanted.result.clean_up c.requires.closed c.requires.inside c.wanted_at-wanted.ensures
    (after c) c.in-Ok.ensures.named c.add_named.ensures.clones

pub returns-in-Ok-clause-closed : goal.returns-in-Ok-clause-closed
returns-in-Ok-clause-closed c =
    let new : Live = record c.args.live.now { names = c.add_named.new.names; objects = c.add_named.new.objects; timers = c.watch_new.new.timers } in
    made_closed c.args.live.now new (chars c.args.name.now) c.args.program c.wanted_at-wanted.result.reset c.wanted_at-wanted.result.clean_up c.requires.closed c.requires.inside c.wanted_at-wanted.ensures (after c)

as_before : (c : goal.After-unwatch) → record c.args.live.now { names = c.add_named.new.names; objects = c.add_named.new.objects; timers = c.unwatch.new.timers } ≡ record c.args.live.now { names = c.add_named.new.names }
as_before c =
    old_is c.args.live.now c.add_named.new.names c.add_named.new.objects c.watch_new.new.timers c.unwatch.new.timers c.wanted_at-wanted.result.reset c.wanted_at-wanted.result.clean_up (record { 0 = c.len.result })
    c.if-not-is_unwatched.ensures c.in-Err.ensures.err c.in_ok-watch_new.ensures.ok c.unwatch.ensures

pub returns-in-Err-clause-refused : goal.returns-in-Err-clause-refused
returns-in-Err-clause-refused c =
    let new : Live = record c.args.live.now { names = c.add_named.new.names; objects = c.add_named.new.objects; timers = c.unwatch.new.timers } in
    not_made c.args.live.now new (chars c.args.name.now) c.in-Err.e (as_before c) c.in-Err.ensures.refused c.add_named.ensures.clones

pub returns-in-Err-clause-same : goal.returns-in-Err-clause-same
returns-in-Err-clause-same c = as_before c

pub returns-in-Err-clause-closed : goal.returns-in-Err-clause-closed
returns-in-Err-clause-closed c =
    let new : Live = record c.args.live.now { names = c.add_named.new.names; objects = c.add_named.new.objects; timers = c.unwatch.new.timers } in
    not_made_closed c.args.live.now new (as_before c) c.requires.closed
