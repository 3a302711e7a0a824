-- What a row gives is the transcript of its run.
use Rattle.std.proofs.Common.{◌≡◌, ℕ, List, Option, Some, None, refl, ap}
use Rattle.std.specs.Prelude.{unwrap_or}
use Rattle.lp_events.specs.Transcript.{transcript}
use Rattle.lp_meaning.specs.Computing.{rules, Shown, Outputs, Refused}
use Rattle.lp_meaning.proofs.Computed.{computed_is_meant}
use Rattle.lp_meaning_rows.specs.Rows.{Row, front_end, files_of, shown_by, written, RunsTo, RowsAreRuns}

same_text : (x y : List ℕ) → Some x ≡ Some y → x ≡ y
same_text x y p = ap (λ o. unwrap_or o x) p

runs_so : (r : Row) (text : List ℕ) (o : Option Shown) → shown_by rules r ≡ o → written o ≡ Some text → RunsTo r text
runs_so r text (Some (Outputs outs)) e h =
    let x = computed_is_meant (front_end r) 250 0 r.moment (files_of r) r.events outs e in record { outputs = outs; last = x.0; runs = x.1; spells = same_text (transcript outs) text h }
runs_so r text (Some (Refused faults)) e h = cc
runs_so r text None e h = cc

pub rows_are_runs : RowsAreRuns
rows_are_runs r text h = runs_so r text (shown_by rules r) refl h
