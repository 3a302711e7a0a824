use Rattle.std.proofs.Common.{false, sym}
use Rattle.std.specs.Prelude.{map}
use Rattle.std.specs.Str.{chars}
use Rattle.lp_world.specs.Stands.{named_of}
use Rattle.lp_targets.proofs.Lookups.{if_ok}
use Rattle.lp_beginning.proofs.Brought.{first_fault, first_ok, first_refused, full_first, full_refused}
use Rattle.lp_beginning.proofs.Made.{room_told}
use Rattle.lp_beginning.proofs.Stopped.{full_begins, refused_before}
use Rattle.lp_beginning.proofs.begin.begin.Goals as goal

pub returns-then-not-has_room-clause-begins : goal.returns-then-not-has_room-clause-begins
returns-then-not-has_room-clause-begins g c =
    if_ok c.full.result (λ b i. full_begins b c.args.kind (chars c.args.name.now) c.args.version (g.W.SwapFile.content c.args.swap.now) c.args.live.now i (λ programs w s.
    sym (room_told (g.W.SwapFile.content c.args.swap.now) programs c.args.live.now w false s (c.if-not-has_room.ensures (map named_of w.objects) s.names)))) c.full.ensures.full

pub returns-then-not-has_room-clause-brings : goal.returns-then-not-has_room-clause-brings
returns-then-not-has_room-clause-brings g c =
    full_first (g.W.SwapFile.content c.args.swap.now) (g.W.SwapFile.last c.args.swap.now) (g.W.SwapFile.read_faults c.args.swap.now) (g.W.SwapFile.write_faults c.args.swap.now) (g.W.SwapFile.is_truthful c.args.swap.now) (g.W.SwapFile.is_honest c.args.swap.now) c.args.live.now c.full.result c.full.ensures.fault

pub returns-in-Ok-make-clause-brings : goal.returns-in-Ok-make-clause-brings
returns-in-Ok-make-clause-brings g c = first_ok c.in-Ok.ensures.brings

pub returns-in-Err-make-clause-refused : goal.returns-in-Err-make-clause-refused
returns-in-Err-make-clause-refused g c =
    refused_before (g.W.SwapFile.content c.args.swap.now) (g.W.SwapFile.content c.initialised_parts.new.swap) c.args.live.now c.initialised_parts.new.live (chars c.args.name.now) c.in-Err-make.e (c.in-Ok.ensures.stands c.in-Ok.ensures.truthful)
    (c.in-Err-make.ensures.refused (g.W.SwapFile.content c.initialised_parts.new.swap))

pub returns-in-Err-make-clause-still : goal.returns-in-Err-make-clause-still
returns-in-Err-make-clause-still g c = λ t programs w s. c.in-Err-make.ensures.still (g.W.SwapFile.content c.initialised_parts.new.swap) programs w (c.in-Ok.ensures.stands t programs w s)

pub returns-in-Err-make-clause-brings : goal.returns-in-Err-make-clause-brings
returns-in-Err-make-clause-brings g c = first_refused c.in-Err-make.e c.in-Err-make.ensures.refusal c.in-Ok.ensures.brings

pub returns-then-not-has_room-clause-refused : goal.returns-then-not-has_room-clause-refused
returns-then-not-has_room-clause-refused g c = full_refused (g.W.SwapFile.content c.args.swap.now) c.args.live.now (chars c.args.name.now) c.full.result c.full.ensures.fault

pub returns-in-Err-clause-brings : goal.returns-in-Err-clause-brings
returns-in-Err-clause-brings g c = first_fault c.in-Err.e c.from.result c.from.ensures c.in-Err.ensures.brings
