use Rattle.lp_meaning.specs.FileLoads.{clone_name}
use Rattle.lp_cloning.proofs.Telling.{taken_want, tells_either}
use Rattle.std.proofs.Common.{sym, true, false}
use Rattle.std.specs.Prelude.{map}
use Rattle.std.specs.Str.{chars}
use Rattle.lp_values.specs.declared.error.ErrorKind.TheVariants.{TooMany}
use Rattle.lp_world.specs.Stands.{named_of}
use Rattle.lp_targets.proofs.Lookups.{if_ok}
use Rattle.lp_beginning.proofs.Made.{room_told}
use Rattle.lp_cloning.specs.Beginning.{made_numbered, made_roomy}
use Rattle.lp_cloning.proofs.Cloned.{error_starts, full_same, room_same, starts_as}
use Rattle.lp_cloning.proofs.clone.clone_roomy.Goals as goal

pub returns-then-has_room-clause-starts : goal.returns-then-has_room-clause-starts
returns-then-has_room-clause-starts g c =
    let told = g.W.SwapFile.content c.args.swap.now in
    let name = chars c.args.name.now in
    let v = c.args.version in
    let live = c.args.live.now in
    if_ok c.clone_numbered.result (λ r h.
    starts_as r (made_numbered name v) (made_roomy name v) told live c.clone_numbered.new.live
    (λ k by turn b s q f. room_same name v by s (sym (room_told k.told k.programs live s.world true f.world.stands (c.if-has_room.ensures (map named_of s.world.objects) f.world.stands.names)))) h)
    c.clone_numbered.ensures.starts

pub returns-clause-starts : goal.returns-clause-starts
returns-clause-starts g c =
    let told = g.W.SwapFile.content c.args.swap.now in
    let name = chars c.args.name.now in
    let v = c.args.version in
    let live = c.args.live.now in
    if_ok c.error_begun.result (λ r i.
    error_starts TooMany r (made_roomy name v) told live i
    (λ k by turn b s q f. full_same name v by s (sym (room_told k.told k.programs live s.world false f.world.stands (c.if-has_room.ensures (map named_of s.world.objects) f.world.stands.names)))))
    c.error_begun.ensures.error

pub returns-clause-tells : goal.returns-clause-tells
returns-clause-tells g c = tells_either (g.W.SwapFile.content c.args.swap.now) (g.W.SwapFile.last c.args.swap.now) (g.W.SwapFile.read_faults c.args.swap.now) (g.W.SwapFile.write_faults c.args.swap.now) (g.W.SwapFile.is_truthful c.args.swap.now) (g.W.SwapFile.is_honest c.args.swap.now) c.args.live.now c.error_begun.result c.error_begun.ensures.fault

pub returns-clause-refused : goal.returns-clause-refused
returns-clause-refused g c = taken_want (g.W.SwapFile.content c.args.swap.now) c.args.live.now (λ w. clone_name w (chars c.args.name.now)) c.error_begun.result c.error_begun.ensures.fault
