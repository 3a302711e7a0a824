use Rattle.std.proofs.Common.{sym, subst}
use Rattle.lp_tree.specs.Signs.{AreUnsigned}
use Rattle.lp_tree.specs.UnitView.{unit_of}
use Rattle.lp_preproc.specs.Expansion.{IsExpansion, setting}
use Rattle.lp_front.proofs.Faulty.{of_unit, of_expansion, of_read}
use Rattle.lp_front.proofs.read.read_file.Goals as goal

pub returns-in-Ok-parse-clause-read : goal.returns-in-Ok-parse-clause-read
returns-in-Ok-parse-clause-read c =
    of_read c.args.files.now c.args.path.now c.as_slice.result.now c.in-Ok.expanded.pragmas c.in-Ok-parse.unit
    (subst (λ ts. IsExpansion (setting c.args.files.now c.args.path.now) ts c.in-Ok.expanded.pragmas) (sym c.as_slice.ensures.value) c.in-Ok.ensures.found)
    c.in-Ok-parse.ensures.found.0 c.in-Ok-parse.ensures.found.1

pub returns-in-Ok-parse-clause-spelled : goal.returns-in-Ok-parse-clause-spelled
returns-in-Ok-parse-clause-spelled c = c.law_spelled.ensures c.args.files.now c.args.path.now (unit_of c.in-Ok-parse.unit) c.in-Ok.expanded.pragmas (returns-in-Ok-parse-clause-read c)

pub returns-in-Ok-clause-fault : goal.returns-in-Ok-clause-fault
returns-in-Ok-clause-fault c =
    of_unit c.args.files.now c.args.path.now c.as_slice.result.now c.in-Ok.expanded.pragmas c.in-Err-parse.fault c.unit_fault.result
    (subst (λ ts. IsExpansion (setting c.args.files.now c.args.path.now) ts c.in-Ok.expanded.pragmas) (sym c.as_slice.ensures.value) c.in-Ok.ensures.found)
    c.in-Err-parse.ensures.faults c.unit_fault.ensures

pub returns-clause-fault : goal.returns-clause-fault
returns-clause-fault c = of_expansion c.args.files.now c.args.path.now c.in-Err.fault c.expansion_fault.result c.in-Err.ensures.fault c.expansion_fault.ensures

pub parse-requires : goal.parse-requires
parse-requires c = subst AreUnsigned (sym c.as_slice.ensures.value) (c.law_unsigned.ensures (setting c.args.files.now c.args.path.now) c.in-Ok.expanded.tokens.items c.in-Ok.expanded.pragmas c.in-Ok.ensures.found)
