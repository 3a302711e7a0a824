use Rattle.std.proofs.Common.{◌∙◌, ap}
use Rattle.lp_targets.proofs.Lookups.{if_ok}
use Rattle.lp_beginning.specs.Reports.{place_words}
use Rattle.lp_beginning.proofs.Words.{place_told}
use Rattle.lp_beginning.proofs.report.place_inside.Goals as goal

pub returns : goal.returns
returns c =
    let f = c.in_ok-function.function.items in
    let p = c.in_ok-program.program.items in
    let o = c.in_ok-object.object.items in
    if_ok c.place_words.result (λ v e.
    place_told c.args.live.now c.args.at f p o v.items c.in_ok-function.ensures c.in_ok-program.ensures c.in_ok-object.ensures
    (e ∙ ap (λ z. place_words z c.as_slice-2.result.now c.as_slice-3.result.now) c.as_slice.ensures.value ∙ ap (λ z. place_words f z c.as_slice-3.result.now) c.as_slice-2.ensures.value ∙ ap (λ z. place_words f p z) c.as_slice-3.ensures.value))
    c.place_words.ensures
