use Rattle.std.proofs.Common.{◌∙◌, ◌≡◌, ◌+◌, ◌++◌, ◌∷◌, ap, arith, chars, drop, drop-cons, refl, suc, sym}
use Rattle.std.proofs.Math.Utf8.{encode}
use Rattle.std.proofs.lemmas.List.{drop_all}
use Rattle.std.proofs.lemmas.Str.{IsUtf8-past_char}
use Rattle.lp_instr.specs.EfunList.{is_name}
use Rattle.lp_loading.proofs.Worlds.{spelled_end, spelled_next, spelled_not}
use Rattle.lp_loading.proofs.present.is_spelled.Goals as goal

pub loop-c-init : goal.loop-c-init
loop-c-init c = (c.utf8.text, refl)

pub strip_prefix-requires-text-self : goal.strip_prefix-requires-text-self
strip_prefix-requires-text-self c κs = c.loop-c.invariant.0

pub returns-in-None : goal.returns-in-None
returns-in-None c =
    let name = c.args.name.now in
    let i = c.loop-c.c-index in
    let letter = c.c-item.result in
    let n : suc i ≡ i + 1 = omega arith in
    let here : drop i name ≡ letter ∷ drop (i + 1) name = drop-cons name i letter c.loop-c-test.true ∙ ap (λ x. x ∷ drop (suc i) name) (sym c.c-item.is) ∙ ap (λ k. letter ∷ drop k name) n in
    spelled_not letter (drop (i + 1) name) c.loop-c.rest.now c.loop-c.invariant.0 c.in-None.ensures.cases ∙ ap (λ x. is_name x (chars c.loop-c.rest.now)) (sym here) ∙ c.loop-c.invariant.1

pub loop-c-preserved : goal.loop-c-preserved
loop-c-preserved c =
    let name = c.args.name.now in
    let i = c.loop-c.c-index in
    let letter = c.c-item.result in
    let rest = c.loop-c.rest.now in
    let behind = c.in-Some.behind.now in
    let n : suc i ≡ i + 1 = omega arith in
    let here : drop i name ≡ letter ∷ drop (i + 1) name = drop-cons name i letter c.loop-c-test.true ∙ ap (λ x. x ∷ drop (suc i) name) (sym c.c-item.is) ∙ ap (λ k. letter ∷ drop k name) n in
    let e = c.in-Some.ensures.cases in
    let split : rest ≡ encode letter ++ behind = e.1.split ∙ ap (λ l. encode letter ++ l) (sym e.2) in
    (IsUtf8-past_char rest behind letter c.loop-c.invariant.0 split, spelled_next letter (drop (i + 1) name) rest behind c.loop-c.invariant.0 split ∙ ap (λ x. is_name x (chars rest)) (sym here) ∙ c.loop-c.invariant.1)

pub is_empty-requires-text-self : goal.is_empty-requires-text-self
is_empty-requires-text-self c κs = c.loop-c.invariant.0

pub returns : goal.returns
returns c =
    c.is_empty.ensures ∙ spelled_end c.loop-c.rest.now c.loop-c.invariant.0
    ∙ ap (λ x. is_name x (chars c.loop-c.rest.now)) (sym (drop_all c.loop-c.c-index c.args.name.now c.loop-c-test.false)) ∙ c.loop-c.invariant.1
