use Rattle.std.proofs.Common.{◌∙◌, ◌++◌, ap, subst, Some, ℕ, List}
use Rattle.std.specs.Prelude.{OnOk}
use Rattle.lp_files.specs.Store.{IsWith, file_at}
use Rattle.lp_meaning.specs.FileEfuns.{or_empty}
use Rattle.lp_filing.proofs.Coming.{or_empty-is}
use Rattle.lp_filing.proofs.writing.append_to.Goals as goal

pub returns-clause-files : goal.returns-clause-files
returns-clause-files c =
    let old = c.args.live.now.store in
    subst (λ (b : List ℕ). OnOk c.append.result (IsWith old c.append.new.self c.args.path.now (Some b)))
    (ap (λ (b : List ℕ). b ++ c.as_bytes.result.now) (or_empty-is (file_at old c.args.path.now)) ∙ ap (λ (t : List ℕ). or_empty (file_at old c.args.path.now) ++ t) (c.as_bytes.ensures.value ∙ c.in_ok-more.ensures))
    c.append.ensures.files
