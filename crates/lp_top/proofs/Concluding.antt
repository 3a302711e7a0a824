-- The lines at the end of a transcript.
use Rattle.std.proofs.Common.{◌≡◌, ℕ, List, [], ◌++◌, true, false, Bool, Option, refl, sym, subst, codes, inl, inr}
use Rattle.std.proofs.lemmas.List.{append-nil}
use Rattle.lp_world.specs.declared.live.Live.{Live}
use Rattle.lp_report.specs.Report.{Reports}
use Rattle.lp_report.specs.declared.report.Report.{Report}
use Rattle.lp_top.specs.declared.status.Status.{Status}
use Rattle.lp_top.specs.declared.status.Status.TheVariants as ends
use Rattle.lp_top.specs.Replay.{Concludes, Finishes}
use Rattle.lp_top.specs.Reports.{report_line}

-- no report is asked for
pub concludes-plain : (report : Bool) (live : Live) (before after : Option (List ℕ)) (s : Status) → report ≡ false → Finishes (codes "end\n") before after s → Concludes report live before after s
concludes-plain false live before after s e h = inl ([], refl, subst (λ x. Finishes x before after s) (sym (append-nil (codes "end\n"))) h)
concludes-plain true live before after s e h = absurd cc

-- the line of a report follows
pub concludes-lines : (report : Bool) (live : Live) (lines : List ℕ) (before after : Option (List ℕ)) (s : Status) → report ≡ true → (r : Report) × Reports live r × (lines ≡ codes "end\n" ++ report_line r) → Finishes lines before after s → Concludes report live before after s
concludes-lines true live lines before after s e k h = inl (report_line k.0, (k.0, k.1, refl), subst (λ x. Finishes x before after s) k.2 h)
concludes-lines false live lines before after s e k h = absurd cc

-- there is no memory for them
pub concludes-none : (report : Bool) (live : Live) (before : Option (List ℕ)) → Concludes report live before before ends.NoMemory
concludes-none report live before = inr (refl, refl)
