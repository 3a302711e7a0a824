use Rattle.std.proofs.Common.{IfErr}
use Rattle.lp_meaning.specs.FileLoads.{clone_name}
use Rattle.lp_cloning.specs.Faults.{IsTakenFor}
use Rattle.lp_cloning.proofs.Telling.{taken_want, tells_either, tells_none}
use Rattle.std.proofs.Common.{◌≡◌, ◌∙◌, ap, sym, false}
use Rattle.std.specs.Prelude.{map}
use Rattle.std.specs.Str.{chars}
use Rattle.std.specs.String.{string_bytes}
use Rattle.lp_meaning.specs.FileLoads.{clone_of, cloning}
use Rattle.lp_meaning.specs.WorldSteps.{is_clone_name}
use Rattle.lp_world.specs.Stands.{named_of}
use Rattle.lp_objects.specs.Objects as named
use Rattle.lp_targets.proofs.Lookups.{if_ok}
use Rattle.lp_cloning.proofs.Cloned.{starts_as}
use Rattle.lp_cloning.proofs.Told.{clone_found, clone_lost}
use Rattle.lp_cloning.proofs.begin.clone_of.Goals as goal
use Rattle.std.proofs.Common.{subst}
use Rattle.lp_cloning.specs.Beginning.{StartsAs}

pub returns-in-Some-clause-starts : goal.returns-in-Some-clause-starts
returns-in-Some-clause-starts g c =
    let told = g.W.SwapFile.content c.args.swap.now in
    let live = c.args.live.now in
    let name = chars (string_bytes c.args.name) in
    let plain : is_clone_name name ≡ false = ap (λ b. is_clone_name (chars b)) (sym c.as_str.ensures.value) ∙ sym c.if-is_clone_name.ensures in
    if_ok c.clone_live.result (λ r h.
    starts_as r (λ by s. cloning by name c.in-Some.o s) (λ by s. clone_of by name s) told live c.clone_live.new.live
    (λ k by turn b s q f. clone_found k live turn b s name c.in-Some.o by plain f (c.in-Some.ensures (map named_of s.world.objects) f.world.stands.names ∙ ap (λ z. named.object_named (map named_of s.world.objects) (chars z)) c.as_str-2.ensures.value))
    (subst (λ z. StartsAs r (λ by s. cloning by (chars z) c.in-Some.o s) told live c.clone_live.new.live) c.as_str-in-Some.ensures.value h))
    c.clone_live.ensures.starts

pub returns-in-None-clause-starts : goal.returns-in-None-clause-starts
returns-in-None-clause-starts g c =
    let live = c.args.live.now in
    let name = chars (string_bytes c.args.name) in
    let plain : is_clone_name name ≡ false = ap (λ b. is_clone_name (chars b)) (sym c.as_str.ensures.value) ∙ sym c.if-is_clone_name.ensures in
    λ budget k by turn s q f.
    (s, f, clone_lost k live turn budget s name by plain f (c.in-None.ensures (map named_of s.world.objects) f.world.stands.names ∙ ap (λ z. named.object_named (map named_of s.world.objects) (chars z)) c.as_str-2.ensures.value), tt)

pub returns-then-is_clone_name-clause-tells : goal.returns-then-is_clone_name-clause-tells
returns-then-is_clone_name-clause-tells g c = tells_either (g.W.SwapFile.content c.args.swap.now) (g.W.SwapFile.last c.args.swap.now) (g.W.SwapFile.read_faults c.args.swap.now) (g.W.SwapFile.write_faults c.args.swap.now) (g.W.SwapFile.is_truthful c.args.swap.now) (g.W.SwapFile.is_honest c.args.swap.now) c.args.live.now c.error_begun.result c.error_begun.ensures.fault

pub returns-then-is_clone_name-clause-refused : goal.returns-then-is_clone_name-clause-refused
returns-then-is_clone_name-clause-refused g c = taken_want (g.W.SwapFile.content c.args.swap.now) c.args.live.now (λ w. clone_name w (chars (string_bytes c.args.name))) c.error_begun.result c.error_begun.ensures.fault

pub returns-in-Some-clause-refused : goal.returns-in-Some-clause-refused
returns-in-Some-clause-refused g c =
    subst (λ t. IfErr c.clone_live.result (IsTakenFor (g.W.SwapFile.content c.args.swap.now) c.args.live.now (λ w. clone_name w (chars t)))) c.as_str-in-Some.ensures.value c.clone_live.ensures.refused

pub returns-in-None-clause-tells : goal.returns-in-None-clause-tells
returns-in-None-clause-tells g c = tells_none (g.W.SwapFile.content c.args.swap.now) (g.W.SwapFile.last c.args.swap.now) (g.W.SwapFile.read_faults c.args.swap.now) (g.W.SwapFile.write_faults c.args.swap.now) (g.W.SwapFile.is_truthful c.args.swap.now) (g.W.SwapFile.is_honest c.args.swap.now) c.args.live.now
