use Rattle.std.proofs.Common.{◌≡◌, IsSome, subst, sym}
use Rattle.lp_world.specs.Rows.{row_at}
use Rattle.lp_world.specs.declared.live.Live.{Live}
use Rattle.lp_making.specs.Entries.{entry_counted}
use Rattle.lp_making.proofs.Counted.{counted_is, entered_closed, entered_stands, text_there, version_there}
use Rattle.lp_making.proofs.entries.count_entry.Goals as goal

pub note_entry-requires-2 : goal.note_entry-requires-2
note_entry-requires-2 c = subst (λ q. IsSome (row_at c.args.live.now.versions q.0)) (sym c.program_of-own.ensures) (version_there c.args.live.now c.args.ob c.requires.closed c.requires.there)

pub note_entry-requires-3 : goal.note_entry-requires-3
note_entry-requires-3 c = subst (λ vs. IsSome (row_at vs c.args.program.0)) (sym c.note_entry-2.ensures) (text_there c.args.live.now c.program_of-own.result c.args.program c.requires.text)

counted : (c : goal.After-note_entry-3) → record c.args.live.now { objects = c.note_entry.new.self; versions = c.note_entry-3.new.self } ≡ entry_counted c.args.live.now c.args.ob c.args.program
counted c =
    counted_is c.args.live.now c.args.ob c.args.program c.program_of-own.result c.note_entry.new.self c.note_entry-2.new.self c.note_entry-3.new.self c.program_of-own.ensures c.note_entry.ensures c.note_entry-2.ensures c.note_entry-3.ensures

pub returns-clause-stands : goal.returns-clause-stands
returns-clause-stands c =
    let new : Live = record c.args.live.now { objects = c.note_entry.new.self; versions = c.note_entry-3.new.self } in
    entered_stands c.args.live.now new c.args.ob c.args.program (counted c) c.requires.there

pub returns-clause-closed : goal.returns-clause-closed
returns-clause-closed c =
    let new : Live = record c.args.live.now { objects = c.note_entry.new.self; versions = c.note_entry-3.new.self } in
    entered_closed c.args.live.now new c.args.ob c.args.program (counted c) c.requires.closed
