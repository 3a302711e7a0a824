use Rattle.std.proofs.Common.{map, subst, sym}
use Rattle.lp_tree.specs.UnitView.{item_of}
use Rattle.lp_isa.specs.Programs.{own_functions}
use Rattle.lp_language.specs.Resolve.{own_variables}
use Rattle.lp_codegen_layout.specs.Laid.{plan_of}
use Rattle.lp_codegen_unit.specs.Stands.{IsClearUnit}
use Rattle.lp_compile.specs.Translated.{IsGenerated}
use Rattle.lp_compile.proofs.Settling.{clear, sound}
use Rattle.lp_compile.proofs.compile.make.Goals as goal

pub verified-requires : goal.verified-requires
verified-requires c =
    let items = map item_of c.args.items.now.items in
    record { sound = sound c.law_programs.ensures items c.args.tables c.args.parents.now c.args.simuls.now c.in-Ok.raw c.requires.settled (subst (λ ns. IsGenerated items c.args.tables c.args.parents.now ns c.in-Ok.raw) c.as_slice.ensures c.in-Ok.ensures) }

pub unreachable-requires : goal.unreachable-requires
unreachable-requires c =
    let items = map item_of c.args.items.now.items in
    c.in-Err-Unclear.ensures c.in-Err-Unclear.field-0-is
    (subst (λ ns. IsClearUnit (plan_of c.args.tables c.args.parents.now ns) (own_functions items) (own_variables items)) (sym c.as_slice.ensures)
    (clear c.law_code.ensures items c.args.tables c.args.parents.now c.args.simuls.now c.requires.settled))
