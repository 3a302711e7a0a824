use Rattle.std.proofs.Common.{◌∙◌, ap, sym, map, string_bytes, codes}
use Rattle.clap.specs.Words.{fault_of, is_simple_and_free}
use Rattle.std.proofs.lemmas.Result.{IfOk-weaker}
use Rattle.lp_serve_words.specs.Words.{has_some}
use Rattle.lp_top.specs.Words.{check_with, taken_with, line_of}
use Rattle.lp_top.specs.declared.words.CommandName.TheVariants as name
use Rattle.lp_top.proofs.Naming.{is_simple_line, make_refused, make_taken, replay_read, value_read, taken_by}
use Rattle.lp_top.proofs.words.command_with.Goals as goal

pub matched-requires : goal.matched-requires
matched-requires c = ap is_simple_and_free c.in_ok-line.ensures ∙ is_simple_line c.args.name

pub returns-in-Replay-clause-named : goal.returns-in-Replay-clause-named
returns-in-Replay-clause-named c =
    let words = map string_bytes c.args.words.now in
    let replay = c.in_ok-line.ensures ∙ ap line_of c.in-Replay.is in
    let time = c.get_str-in-Replay.ensures ∙ value_read name.Replay (codes "swap-time") words _ c.in_ok-matches.matches replay c.in_ok-matches.ensures.matches in
    let asked = c.get_str.ensures ∙ value_read name.Replay (codes "report") words _ c.in_ok-matches.matches replay c.in_ok-matches.ensures.matches in
    IfOk-weaker c.replay_of.result _ _ (λ command h.
    ap (λ n. taken_with n words) c.in-Replay.is
    ∙ taken_by name.Replay words (sym (ap (λ a. has_some (fault_of a words)) replay) ∙ c.in_ok-matches.ensures.taken)
    ∙ replay_read words _ _ c.is_set-report.result time asked c.is_set-report.ensures
    ∙ h) c.replay_of.ensures.named

pub returns-in-Replay-clause-refused : goal.returns-in-Replay-clause-refused
returns-in-Replay-clause-refused c = λ e.
    let words = map string_bytes c.args.words.now in
    let replay = c.in_ok-line.ensures ∙ ap line_of c.in-Replay.is in
    let time = c.get_str-in-Replay.ensures ∙ value_read name.Replay (codes "swap-time") words _ c.in_ok-matches.matches replay c.in_ok-matches.ensures.matches in
    let asked = c.get_str.ensures ∙ value_read name.Replay (codes "report") words _ c.in_ok-matches.matches replay c.in_ok-matches.ensures.matches in
    ap (λ n. taken_with n words) c.in-Replay.is
    ∙ taken_by name.Replay words (sym (ap (λ a. has_some (fault_of a words)) replay) ∙ c.in_ok-matches.ensures.taken)
    ∙ replay_read words _ _ c.is_set-report.result time asked c.is_set-report.ensures
    ∙ c.replay_of.ensures.refused e

pub returns-in-Check-clause-named : goal.returns-in-Check-clause-named
returns-in-Check-clause-named c =
    let words = map string_bytes c.args.words.now in
    let check = c.in_ok-line.ensures ∙ ap line_of c.in-Check.is in
    let read = sym (c.get_str-in-Check.ensures ∙ value_read name.Check (codes "simul") words _ c.in_ok-matches.matches check c.in_ok-matches.ensures.matches) in
    IfOk-weaker c.check_of.result _ _ (λ command h.
    ap (λ n. taken_with n words) c.in-Check.is
    ∙ taken_by name.Check words (sym (ap (λ a. has_some (fault_of a words)) check) ∙ c.in_ok-matches.ensures.taken)
    ∙ ap check_with read
    ∙ h) c.check_of.ensures.named

pub returns-in-Check-clause-refused : goal.returns-in-Check-clause-refused
returns-in-Check-clause-refused c = λ e.
    let words = map string_bytes c.args.words.now in
    let check = c.in_ok-line.ensures ∙ ap line_of c.in-Check.is in
    let read = sym (c.get_str-in-Check.ensures ∙ value_read name.Check (codes "simul") words _ c.in_ok-matches.matches check c.in_ok-matches.ensures.matches) in
    ap (λ n. taken_with n words) c.in-Check.is
    ∙ taken_by name.Check words (sym (ap (λ a. has_some (fault_of a words)) check) ∙ c.in_ok-matches.ensures.taken)
    ∙ ap check_with read
    ∙ c.check_of.ensures.refused e

pub returns-clause-named : goal.returns-clause-named
returns-clause-named c =
    let words = map string_bytes c.args.words.now in
    let make = c.in_ok-line.ensures ∙ ap line_of c.in-Make.is in
    let count = c.get_str-in-Make.ensures ∙ value_read name.Make (codes "count") words _ c.in_ok-matches.matches make c.in_ok-matches.ensures.matches in
    let seed = c.get_str-in-Make-2.ensures ∙ value_read name.Make (codes "seed") words _ c.in_ok-matches.matches make c.in_ok-matches.ensures.matches in
    make_taken c.args.name words _ _ c.make_of.result c.in-Make.is (sym (ap (λ a. has_some (fault_of a words)) make) ∙ c.in_ok-matches.ensures.taken) count seed c.make_of.ensures.named

pub returns-clause-refused : goal.returns-clause-refused
returns-clause-refused c = λ e.
    let words = map string_bytes c.args.words.now in
    let make = c.in_ok-line.ensures ∙ ap line_of c.in-Make.is in
    let count = c.get_str-in-Make.ensures ∙ value_read name.Make (codes "count") words _ c.in_ok-matches.matches make c.in_ok-matches.ensures.matches in
    let seed = c.get_str-in-Make-2.ensures ∙ value_read name.Make (codes "seed") words _ c.in_ok-matches.matches make c.in_ok-matches.ensures.matches in
    make_refused c.args.name words _ _ c.in-Make.is (sym (ap (λ a. has_some (fault_of a words)) make) ∙ c.in_ok-matches.ensures.taken) count seed (c.make_of.ensures.refused e)
