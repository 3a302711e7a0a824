use Rattle.lp_cloning.proofs.Telling.{taken_numbered, tells_no_memory, tells_numbered}
use Rattle.std.proofs.Common.{◌∙◌, ap}
use Rattle.std.specs.Str.{chars}
use Rattle.lp_targets.proofs.Lookups.{if_ok}
use Rattle.lp_cloning.proofs.Cloned.{numbered_starts, numbers}
use Rattle.lp_cloning.proofs.clone.clone_numbered.Goals as goal

pub returns-in-Ok-clause-starts : goal.returns-in-Ok-clause-starts
returns-in-Ok-clause-starts g c =
    let told = g.W.SwapFile.content c.args.swap.now in
    let name = chars c.args.name.now in
    let live = c.args.live.now in
    let table = c.next_clone.new.self in
    let full = chars c.as_str.result.now in
    if_ok c.clone_named.result (λ r h.
    numbered_starts r name full c.args.version told live (record live { names = table }) c.clone_named.new.live
    (numbers told live table name full c.in-Some.number c.in-Some.ensures.given c.in-Some.ensures.after c.in-Some.ensures.same (ap chars c.as_str.ensures.value ∙ c.in-Ok.ensures)) h)
    c.clone_named.ensures.starts

pub returns-in-Ok-clause-tells : goal.returns-in-Ok-clause-tells
returns-in-Ok-clause-tells g c =
    let told = g.W.SwapFile.content c.args.swap.now in
    let name = chars c.args.name.now in
    let live = c.args.live.now in
    let table = c.next_clone.new.self in
    let full = chars c.as_str.result.now in
    tells_numbered told live (record live { names = table }) name full
    (numbers told live table name full c.in-Some.number c.in-Some.ensures.given c.in-Some.ensures.after c.in-Some.ensures.same (ap chars c.as_str.ensures.value ∙ c.in-Ok.ensures)) c.clone_named.ensures.tells

pub returns-in-Ok-clause-refused : goal.returns-in-Ok-clause-refused
returns-in-Ok-clause-refused g c =
    let told = g.W.SwapFile.content c.args.swap.now in
    let name = chars c.args.name.now in
    let live = c.args.live.now in
    let table = c.next_clone.new.self in
    let full = chars c.as_str.result.now in
    taken_numbered told live (record live { names = table }) name full c.clone_named.result
    (numbers told live table name full c.in-Some.number c.in-Some.ensures.given c.in-Some.ensures.after c.in-Some.ensures.same (ap chars c.as_str.ensures.value ∙ c.in-Ok.ensures)) c.clone_named.ensures.refused

pub returns-in-Err-clause-tells : goal.returns-in-Err-clause-tells
returns-in-Err-clause-tells g c = tells_no_memory (g.W.SwapFile.content c.args.swap.now) (g.W.SwapFile.last c.args.swap.now) (g.W.SwapFile.read_faults c.args.swap.now) (g.W.SwapFile.write_faults c.args.swap.now) (g.W.SwapFile.is_truthful c.args.swap.now) (g.W.SwapFile.is_honest c.args.swap.now) c.args.live.now

pub returns-in-None-clause-tells : goal.returns-in-None-clause-tells
returns-in-None-clause-tells g c = tells_no_memory (g.W.SwapFile.content c.args.swap.now) (g.W.SwapFile.last c.args.swap.now) (g.W.SwapFile.read_faults c.args.swap.now) (g.W.SwapFile.write_faults c.args.swap.now) (g.W.SwapFile.is_truthful c.args.swap.now) (g.W.SwapFile.is_honest c.args.swap.now) c.args.live.now
