use Rattle.std.proofs.Common.{◌≡◌, true, false, Some, None, rules, refl, codes}
use Rattle.lp_words.specs.Paths.{is_path}
use Rattle.lp_wire.specs.Heard.{reload_heard}
use Rattle.lp_serving.proofs.Going.{ok_then}
use Rattle.lp_serve.proofs.Doing.{answer_does}
use Rattle.lp_serve.proofs.Ordering.{does_read, no_path_does, path_does, reload_on}
use Rattle.lp_serving.proofs.Cutting.{cut_none, err_then}
use Rattle.lp_serve.proofs.game.Game.reload.Goals as goal

pub returns-then-not-is_path-clause-does : goal.returns-then-not-is_path-clause-does
returns-then-not-is_path-clause-does g c =
    let isnt : is_path c.args.word.now ≡ false = search rules in
    ok_then c.answer.result _ _
    (λ tells origin from. no_path_does c.args.word.now (codes "reload failed\n") _ _ _ _ _ _ isnt (λ slow h. refl) (answer_does (codes "reload failed\n") _ _ _ _ _ tells c.answer.ensures.rest))
    c.answer.ensures.tells

pub returns-in-Ok-read-clause-does : goal.returns-in-Ok-read-clause-does
returns-in-Ok-read-clause-does g c =
    let is : is_path c.args.word.now ≡ true = search rules in
    let same : c.in-Ok.path ≡ c.args.word.now = search rules in
    ok_then c.reloaded.result _ _
    (λ all origin from. path_does c.args.word.now _ _ _ _ _ _ is (does_read c.args.word.now (Some c.in-Ok-read.bytes) (λ slow h. reload_heard slow c.args.word.now h) _ _ _ _ _ _ _ _ _ _
    (reload_on c.in-Ok.path c.args.word.now (Some c.in-Ok-read.bytes) _ _ _ _ _ _ _ same (all origin from))))
    c.reloaded.ensures.does

pub returns-in-Err-Failed-clause-does : goal.returns-in-Err-Failed-clause-does
returns-in-Err-Failed-clause-does g c =
    let is : is_path c.args.word.now ≡ true = search rules in
    ok_then c.answer-in-Err-Failed.result _ _
    (λ tells origin from. path_does c.args.word.now _ _ _ _ _ _ is (does_read c.args.word.now None (λ slow h. reload_heard slow c.args.word.now h) _ _ _ _ _ _ _ _ _ _
    (answer_does (codes "reload failed\n") _ _ _ _ _ tells c.answer-in-Err-Failed.ensures.rest)))
    c.answer-in-Err-Failed.ensures.tells

pub returns-then-not-is_path-clause-cut : goal.returns-then-not-is_path-clause-cut
returns-then-not-is_path-clause-cut g c = err_then c.answer.result _ _ (λ end h. cut_none _ _ g.C.Core.ran c.args.core.now c.args.swap.now _ _ _ end refl) c.answer.ensures.memory

pub returns-in-Err-Failed-clause-cut : goal.returns-in-Err-Failed-clause-cut
returns-in-Err-Failed-clause-cut g c = err_then c.answer-in-Err-Failed.result _ _ (λ end h. cut_none _ _ g.C.Core.ran c.args.core.now c.args.swap.now _ _ _ end refl) c.answer-in-Err-Failed.ensures.memory
