use Rattle.std.proofs.Common.{◌≡◌, All, IfSome, Some, Ok, Err, ap, map, subst}
use Rattle.lp_cells.specs.Cells.{IsThere, Store}
use Rattle.lp_files.specs.Store.{file_at}
use Rattle.lp_language.specs.Course.{Scene}
use Rattle.lp_meaning.specs.FileEfuns.{restoring}
use Rattle.lp_save.specs.declared.fault.RestoreFault.TheVariants as faults
use Rattle.lp_world.specs.declared.live.Live.{Live}
use Rattle.lp_world.proofs.Closing.{closed_with_cells}
use Rattle.lp_filing.specs.Filing.{ComesWith}
use Rattle.lp_filing.specs.Rows.{ReadsFrom, saved_in}
use Rattle.lp_filing.proofs.Keeping.{comes_faulty, comes_restored, faulty_ends, has_row, read_faulty, read_some, restored_closed, restored_keeps, some_variables}
use Rattle.lp_filing.proofs.restoring.restore_from.Goals as goal

pub returns-in-Ok-Some-clause-variables : goal.returns-in-Ok-Some-clause-variables
returns-in-Ok-Some-clause-variables c =
    restored_keeps c.args.live.now c.read_given.new.cells c.put_all.new.objects c.args.this c.as_slice-in-Ok-Some.result.now c.in-Ok-Some.given.items c.requires.variables c.put_all.ensures

pub returns-in-Ok-Some-clause-closed : goal.returns-in-Ok-Some-clause-closed
returns-in-Ok-Some-clause-closed c =
    let q : c.in-Ok-Some.field-0 ≡ Some c.in-Ok-Some.given = cc in
    restored_closed c.args.live.now c.read_given.new.cells c.put_all.new.objects c.args.this c.as_slice-in-Ok-Some.result.now c.in-Ok-Some.given.items c.requires.variables c.put_all.ensures
    c.requires.closed c.read_given.ensures.stay (c.read_given.ensures.closed c.requires.closed.cells)
    (subst (λ o. IfSome o (λ vs. All (λ x. IfSome x (IsThere c.read_given.new.cells)) vs.items)) q c.in-Ok-Some.ensures.there)

pub returns-in-Ok-None-clause-closed : goal.returns-in-Ok-None-clause-closed
returns-in-Ok-None-clause-closed c = closed_with_cells c.args.live.now c.read_given.new.cells c.requires.closed c.read_given.ensures.stay (c.read_given.ensures.closed c.requires.closed.cells)

pub returns-in-Err-Line-clause-closed : goal.returns-in-Err-Line-clause-closed
returns-in-Err-Line-clause-closed c = closed_with_cells c.args.live.now c.read_given.new.cells c.requires.closed c.read_given.ensures.stay (c.read_given.ensures.closed c.requires.closed.cells)

pub returns-clause-closed : goal.returns-clause-closed
returns-clause-closed c = closed_with_cells c.args.live.now c.read_given.new.cells c.requires.closed c.read_given.ensures.stay (c.read_given.ensures.closed c.requires.closed.cells)

pub returns-in-Ok-Some-clause-comes : goal.returns-in-Ok-Some-clause-comes
returns-in-Ok-Some-clause-comes c = λ k me.
    let old : Live = c.args.live.now in
    let new : Live = record old { cells = c.read_given.new.cells; objects = c.put_all.new.objects } in
    let v = some_variables old.objects c.args.this c.requires.variables in
    let r = has_row old.objects c.args.this v.0 v.1 in
    let q : c.in-Ok-Some.field-0 ≡ Some c.in-Ok-Some.given = cc in
    let reads : ReadsFrom (file_at old.store c.args.path.now) c.as_slice-3.result.now (Ok (Some c.in-Ok-Some.given)) old.cells c.read_given.new.cells = subst (λ o. ReadsFrom (file_at old.store c.args.path.now) c.as_slice-3.result.now (Ok o) old.cells c.read_given.new.cells) q c.in-Ok-Some.ensures.reads in
    let i = read_some (file_at old.store c.args.path.now) c.as_slice-3.result.now c.in-Ok-Some.given old.cells c.read_given.new.cells reads in
    let names : c.as_slice-3.result.now ≡ map (λ x. x.name) (saved_in c.args.code.now) = cc (c.in_ok-names.ensures) in
    let places : c.as_slice-in-Ok-Some.result.now ≡ map (λ x. x.place) (saved_in c.args.code.now) = cc (c.in_ok-places.ensures) in
    comes_restored old new c.args.this c.args.code.now v.0 c.args.path.now k me v.1 c.as_slice-3.result.now names
    i.0 c.in-Ok-Some.given.items c.read_given.new.cells c.as_slice-in-Ok-Some.result.now r.row i.1 i.2 places r.there r.resident
    (ap (λ os. record old { cells = c.read_given.new.cells; objects = os }) (c.put_all.ensures r.row v.0 r.there r.resident))

pub returns-in-Err-Line-clause-comes : goal.returns-in-Err-Line-clause-comes
returns-in-Err-Line-clause-comes c =
    let old : Live = c.args.live.now in
    let new : Live = record old { cells = c.read_given.new.cells } in
    let v = some_variables old.objects c.args.this c.requires.variables in
    let q : c.in-Err-Line.field-0 ≡ faults.Line c.in-Err-Line.line c.in-Err-Line.field-0-1 = cc in
    let reads : ReadsFrom (file_at old.store c.args.path.now) c.as_slice-3.result.now (Err (faults.Line c.in-Err-Line.line c.in-Err-Line.field-0-1)) old.cells c.read_given.new.cells = subst (λ f. ReadsFrom (file_at old.store c.args.path.now) c.as_slice-3.result.now (Err f) old.cells c.read_given.new.cells) q c.in-Err-Line.ensures.reads in
    let i = read_faulty (file_at old.store c.args.path.now) c.as_slice-3.result.now c.in-Err-Line.line c.in-Err-Line.field-0-1 old.cells c.read_given.new.cells reads in
    let names : c.as_slice-3.result.now ≡ map (λ x. x.name) (saved_in c.args.code.now) = cc (c.in_ok-names.ensures) in
    faulty_ends c.in-Err-Line.line-is c.faulty.result c.args.path.now (λ d. (k : Scene) → k.this ≡ c.args.this → ComesWith c.args.code.now c.args.this (restoring k (Some c.args.path.now)) old d new) c.faulty.ensures
    (λ k me. comes_faulty old new c.args.this c.args.code.now v.0 c.args.path.now k me v.1 c.as_slice-3.result.now names i.0 c.in-Err-Line.line c.in-Err-Line.field-0-1 i.1 i.2 (ap (λ (a : Store). record old { cells = a }) i.3))
