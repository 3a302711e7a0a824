use Rattle.std.proofs.Common.{◌∙◌, List, ap, sym}
use Rattle.lp_values.specs.declared.value.Value.{Value}
use Rattle.lp_format.specs.Forms.{pieces}
use Rattle.lp_format.specs.Formatted.{formatted}
use Rattle.lp_format.specs.Spelled.{spelled}
use Rattle.lp_instr.specs.declared.efun.Efun.TheVariants as efuns
use Rattle.lp_meaning.specs.ComputingEfuns.{as_text}
use Rattle.lp_meaning.specs.EfunArguments.{text_in}
use Rattle.lp_world.specs.Rows.{live_in}
use Rattle.lp_efuns.specs.Names.{name_at}
use Rattle.lp_calling.proofs.Writing.{printed_error, printed_text}
use Rattle.lp_calling.proofs.messages.printed.Goals as goal

pub returns-in-Ok : goal.returns-in-Ok
returns-in-Ok c = λ s p i h.
    let live = c.args.live.now in
    printed_text (live_in live.objects) (name_at live.names) live.cells c.args.args.now c.text_in.result.now c.in-Ok.text c.requires.closed c.requires.there
    (λ cells. c.text_in.ensures (live_in live.objects) cells ∙ ap text_in (c.in_ok-form.ensures.value cells))
    (ap (λ (ws : List Value). formatted (live_in live.objects) (spelled (live_in live.objects) (name_at live.names) live.cells) ws (pieces c.text_in.result.now)) (sym c.rest.ensures.value) ∙ c.in-Ok.ensures) s p i h

pub returns : goal.returns
returns c = λ s p i h.
    let live = c.args.live.now in
    printed_error (live_in live.objects) (name_at live.names) live.cells c.args.args.now c.text_in.result.now c.in_ok-format_error-in-Err.field-0 c.requires.closed c.requires.there
    (λ cells. c.text_in.ensures (live_in live.objects) cells ∙ ap text_in (c.in_ok-form.ensures.value cells))
    (ap (λ (ws : List Value). as_text efuns.Printf (formatted (live_in live.objects) (spelled (live_in live.objects) (name_at live.names) live.cells) ws (pieces c.text_in.result.now))) (sym c.rest.ensures.value)
    ∙ c.in_ok-format_error-in-Err.ensures (formatted (live_in live.objects) (spelled (live_in live.objects) (name_at live.names) live.cells) c.rest.result.now (pieces c.text_in.result.now)) c.in-Err.ensures) s p i h
