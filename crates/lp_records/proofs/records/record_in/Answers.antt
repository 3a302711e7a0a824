use Rattle.std.proofs.Common.{◌∙◌, ◌++◌, ap, subst, sym}
use Rattle.std.specs.Prelude.{codes}
use Rattle.std.specs.Str.{chars}
use Rattle.lp_events.specs.declared.out.Out.TheVariants as outs
use Rattle.lp_records.specs.Records.{IsRecordIn}
use Rattle.lp_records.proofs.Placing.{recorded}
use Rattle.lp_records.proofs.Spelling.{chars-error}
use Rattle.lp_records.proofs.records.record_in.Goals as goal

pub returns : goal.returns
returns c =
    subst (λ t. IsRecordIn c.args.live.now c.args.stop.now (outs.Log t)) (sym c.in_ok-from_vec.ensures)
    (recorded c.args.live.now c.args.stop.now c.put_words.new.text.items c.put_cause.new.text.items c.put_place_if.new.text.items (c.in_ok-put_words.ensures ∙ ap (λ l. l ++ chars (codes "error: ")) c.new-text.ensures.items ∙ chars-error)
    c.in_ok-put_cause.ensures c.in_ok-put_place_if.ensures)
