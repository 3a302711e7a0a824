use Rattle.std.proofs.Common.{◌≡◌, Some, refl, ap, sym, ◌∙◌, subst, rules}
use Rattle.std.specs.Option.{option_map}
use Rattle.lp_files.specs.Store.{file_at}
use Rattle.lp_preproc.specs.Expansion.{fails, opening_found, setting}
use Rattle.lp_preproc.specs.Steps.{Expanding}
use Rattle.lp_preproc.proofs.compiled.expand_words.Goals as goal

pub returns-in_default : goal.returns-in_default
returns-in_default c = rw (sym c.read.ensures ∙ ap (option_map (λ b. b.now)) c.in_default.is) fails

pub returns : goal.returns
returns c =
    let s = setting c.args.files.now c.args.path.now in
    let found : Some c.in-Some.bytes.now ≡ file_at c.args.files.now c.args.path.now = sym (ap (option_map (λ b. b.now)) c.in-Some.is) ∙ c.read.ensures in
    subst (λ b. Expanding s (opening_found s b) c.expand_bytes.result) found
    (c.expand_bytes.ensures s (record { files = refl; place = c.in_ok-place.ensures }) (search rules))
