use Rattle.lp_meaning.specs.FileLoads.{clone_name}
use Rattle.lp_cloning.proofs.Telling.{taken_want, tells_either}
use Rattle.std.proofs.Common.{◌∙◌, sym}
use Rattle.std.specs.Str.{chars}
use Rattle.lp_values.specs.declared.error.ErrorKind.TheVariants.{NoClone}
use Rattle.lp_targets.specs.Brought.{program_at}
use Rattle.lp_targets.proofs.Lookups.{if_ok}
use Rattle.lp_targets.proofs.Memory.{some_row}
use Rattle.lp_cloning.specs.Beginning.{made_of, made_roomy}
use Rattle.lp_cloning.proofs.Cloned.{cloned_same, error_starts, pragma_same, starts_as, uncloned_same}
use Rattle.lp_cloning.proofs.clone.clone_inside.Goals as goal

pub returns-then-not-is_no_clone-clause-starts : goal.returns-then-not-is_no_clone-clause-starts
returns-then-not-is_no_clone-clause-starts g c =
    let told = g.W.SwapFile.content c.args.swap.now in
    let name = chars c.args.name.now in
    let v = c.args.version in
    let live = c.args.live.now in
    let x = some_row (program_at live.versions v) c.requires.here in
    if_ok c.clone_roomy.result (λ r h.
    starts_as r (made_roomy name v) (made_of name v) told live c.clone_roomy.new.live
    (λ k by turn b s q f. cloned_same name v by s (pragma_same k.told k.programs live s.world v x.0 f.world.stands f.world.compiled x.1 ∙ sym (c.if-not-is_no_clone.ensures x.0 x.1))) h)
    c.clone_roomy.ensures.starts

pub returns-clause-starts : goal.returns-clause-starts
returns-clause-starts g c =
    let told = g.W.SwapFile.content c.args.swap.now in
    let name = chars c.args.name.now in
    let v = c.args.version in
    let live = c.args.live.now in
    let x = some_row (program_at live.versions v) c.requires.here in
    if_ok c.error_begun.result (λ r i.
    error_starts NoClone r (made_of name v) told live i
    (λ k by turn b s q f. uncloned_same name v by s (pragma_same k.told k.programs live s.world v x.0 f.world.stands f.world.compiled x.1 ∙ sym (c.if-not-is_no_clone.ensures x.0 x.1))))
    c.error_begun.ensures.error

pub returns-clause-tells : goal.returns-clause-tells
returns-clause-tells g c = tells_either (g.W.SwapFile.content c.args.swap.now) (g.W.SwapFile.last c.args.swap.now) (g.W.SwapFile.read_faults c.args.swap.now) (g.W.SwapFile.write_faults c.args.swap.now) (g.W.SwapFile.is_truthful c.args.swap.now) (g.W.SwapFile.is_honest c.args.swap.now) c.args.live.now c.error_begun.result c.error_begun.ensures.fault

pub returns-clause-refused : goal.returns-clause-refused
returns-clause-refused g c = taken_want (g.W.SwapFile.content c.args.swap.now) c.args.live.now (λ w. clone_name w (chars c.args.name.now)) c.error_begun.result c.error_begun.ensures.fault
