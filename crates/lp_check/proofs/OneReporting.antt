-- There is one report.
use Rattle.std.proofs.Common.{◌≡◌, ◌∙◌, ℕ, List, [], Option, Some, None, sym, ap, subst, length, is_some}
use mathlib.Core.Path.{fun_ext}
use Rattle.lp_files.specs.declared.store.Store.{Store}
use Rattle.lp_files.specs.Store.{file_at}
use Rattle.lp_preproc.specs.Expansion.{setting}
use Rattle.lp_parser.specs.Theorem.{SpellsOne}
use Rattle.lp_loads.specs.Loads.{Loaded, load_of, LoadsAll}
use Rattle.lp_check.specs.Report.{LoadsSimul, AreEnded, faults_in, load_names, report, simul_file, sources_of}
use Rattle.lp_check.specs.Unique.{OneOutcome, OneReport}
use Rattle.lp_check.proofs.OneAnswer.{Agree, agree}
use Rattle.lp_check.proofs.OneLoad.{one_load, one_of_all}
use Rattle.lp_check.proofs.Unique.{rising_same}

same_settings : (r s : Store) → ((path : List ℕ) → file_at r path ≡ file_at s path) → (file : List ℕ) → setting r file ≡ setting s file
same_settings r s h file = ap (λ (f : List ℕ → Option (List ℕ)). record { files = f; path = file }) (fun_ext h)

one_simul : (r s : Store) → Agree r s → (o : Option (List ℕ)) (x y : Loaded) (ns ms : List (List ℕ)) → LoadsSimul r o x ns → LoadsSimul s o y ms → (x ≡ y) × (ns ≡ ms)
one_simul r s g None x y ns ms h i = (h.0 ∙ sym i.0, h.1 ∙ sym i.1)
one_simul r s g (Some file) x y ns ms h i =
    let e : x ≡ y = one_load g [] h.0 i.0 in
    (e, h.1 ∙ ap (λ (z : Loaded). load_names (load_of z file)) e ∙ sym i.1)

one_order : (x y : Loaded) (ps qs : List (List ℕ)) → x ≡ y → AreEnded x ps → AreEnded y qs → ps ≡ qs
one_order x y ps qs e a b = rising_same ps qs a.rising b.rising (λ p. a.each p ∙ ap (λ (z : Loaded). is_some (load_of z p)) e ∙ sym (b.each p))

pub one_report : OneOutcome → SpellsOne → OneReport
one_report law grammar simul files a b h i =
    let g = agree law grammar h.store i.store (same_settings h.store i.store (λ path. h.holds path ∙ sym (i.holds path))) in
    let o = one_simul h.store i.store g (simul_file (sources_of files) simul) h.before i.before h.names i.names h.simuls i.simuls in
    let m = subst (λ (z : Loaded). LoadsAll i.store i.names (sources_of files) z i.after) (sym o.0) i.loads in
    let e : h.after ≡ i.after = one_of_all g h.names h.loads (subst (λ (ns : List (List ℕ)). LoadsAll i.store ns (sources_of files) h.before i.after) (sym o.1) m) in
    let q : h.ended ≡ i.ended = one_order h.after i.after h.ended i.ended e h.are_ended i.are_ended in
    h.told ∙ ap (λ (z : Loaded). report (length (sources_of files)) (faults_in z h.ended)) e ∙ ap (λ (ps : List (List ℕ)). report (length (sources_of files)) (faults_in i.after ps)) q ∙ sym i.told
