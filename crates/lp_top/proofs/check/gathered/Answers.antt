use Rattle.std.proofs.Common.{subst, sym, ap, ◌++◌, ◌∷◌, []}
use Rattle.std.specs.Prelude.{OnOk}
use Rattle.lp_events.specs.declared.item.Item.TheVariants.{File}
use Rattle.lp_events.specs.Script.{files_of}
use Rattle.lp_check.specs.Sources.{AreFiles}
use Rattle.lp_top.proofs.Filing.{files-append}
use Rattle.lp_top.proofs.Checking.{files_same}
use Rattle.lp_top.proofs.check.gathered.Goals as goal

pub returns-in-File : goal.returns-in-File
returns-in-File c = λ xs h.
    let taken = subst (λ b. OnOk c.add.result (AreFiles (files_of xs ++ (c.in-File.path, b) ∷ []) c.add.new.self)) c.as_slice.ensures (c.add.ensures (files_of xs) h) in
    subst (λ x. OnOk c.add.result (AreFiles (files_of (xs ++ x ∷ [])) c.add.new.self)) (sym c.in-File.is)
    (subst (λ fs. OnOk c.add.result (AreFiles fs c.add.new.self)) (sym (files-append xs (File c.in-File.path c.in-File.bytes ∷ []))) taken)

pub returns-in-Head : goal.returns-in-Head
returns-in-Head c = λ xs h. files_same xs c.args.item c.args.sources.now (ap (λ x. files_of (x ∷ [])) c.in-Head.is) h

pub returns-in-Start : goal.returns-in-Start
returns-in-Start c = λ xs h. files_same xs c.args.item c.args.sources.now (ap (λ x. files_of (x ∷ [])) c.in-Start.is) h

pub returns-in-Event : goal.returns-in-Event
returns-in-Event c = λ xs h. files_same xs c.args.item c.args.sources.now (ap (λ x. files_of (x ∷ [])) c.in-Event.is) h

pub returns-in-End : goal.returns-in-End
returns-in-End c = λ xs h. files_same xs c.args.item c.args.sources.now (ap (λ x. files_of (x ∷ [])) c.in-End.is) h
