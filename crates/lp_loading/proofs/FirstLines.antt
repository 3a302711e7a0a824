-- The first `inherit` of a parent that is missing.
use Rattle.std.proofs.Common.{◌≡◌, ◌∙◌, ◌++◌, ◌⊎◌, inl, inr, ℕ, zero, suc, Bool, true, false, List, [], ◌∷◌, Option, Some, None, Vec, Global, refl, ap, sym, subst, map, unwrap_or, if◌then◌else◌, arith}
use Rattle.std.specs.Prelude.{is_some, nat_lt, not}
use Rattle.std.specs.Option.{option_map}
use Rattle.std.proofs.lemmas.Slice.Eq.{bytes_eq-Decides}
use Rattle.lp_instr.specs.EfunList.{is_name}
use Rattle.lp_codegen_expr.proofs.Meanings.{same_name}
use Rattle.lp_tree.specs.declared.fault.Fault.{Fault}
use Rattle.lp_tree.specs.declared.fault.FaultKind.{FaultKind}
use Rattle.lp_tree.specs.declared.fault.FaultKind.TheVariants as faults
use Rattle.lp_tree.specs.declared.pragma.Pragmas.{Pragmas}
use Rattle.lp_tree.specs.Units.{ItemTree}
use Rattle.lp_values.specs.declared.id.ProgId.{ProgId}
use Rattle.lp_events.specs.declared.out.Out.{Out}
use Rattle.lp_swapfile.specs.Device.{Bytes}
use Rattle.lp_front.specs.declared.parents.Parent.{Parent as Inherited}
use Rattle.lp_front.specs.Names as files
use Rattle.lp_language.specs.Course.{Course, Gives, IsFaulty, Reply, State}
use Rattle.lp_language.specs.World.{World}
use Rattle.lp_meaning.specs.Askers.{Asker, told}
use Rattle.lp_meaning.specs.Closing.{Ends}
use Rattle.lp_meaning.specs.FileLoads.{Made, Parent, fault_record, faulty, file_fault, first_missing, is_under_way, known_version, parent_loaded, parent_missing, parents_in, reading}
use Rattle.lp_meaning.specs.FrontEnd.{Declares, FrontEnd, Reading}
use Rattle.lp_meaning.specs.Limits.{max_nested}
use Rattle.lp_meaning.specs.WorldSteps.{file_of_name}
use Rattle.lp_front_end.specs.Parents.{FilesAreOfNames, NamesHaveFiles, by_file, file_bytes}
use Rattle.lp_front_end.specs.FrontEnds.{IsFrontEnd}
use Rattle.lp_front_end.specs.Stores.{HasFiles, StoresAreRead}
use Rattle.lp_compile_laws.specs.Told.{IsMissing}
use Rattle.lp_world.specs.declared.live.Live.{Live}
use Rattle.lp_asking.specs.declared.asker.Loading.{Loading}
use Rattle.lp_efuns.specs.declared.caller.Turn.{Turn}
use Rattle.lp_loading.specs.declared.compiling.Compiled.TheVariants as compiled
use Rattle.lp_loading.specs.declared.job.Answer.TheVariants as answers
use Rattle.lp_loading.specs.declared.job.Going.TheVariants as goings
use Rattle.lp_loading.specs.declared.job.LoadJob.{LoadJob}
use Rattle.lp_loading.specs.declared.job.Step.{Step}
use Rattle.lp_loading.specs.declared.job.Step.TheVariants as steps
use Rattle.lp_loading.specs.Going.{Goes, HasEnded, LeadsTo}
use Rattle.lp_loading.specs.Lines.{IsLineOf, IsTooFar, first_of}
use Rattle.lp_loading.specs.Loads.{going_course, kind_of, loads_of}
use Rattle.lp_loading.specs.Present.{all_made}
use Rattle.lp_loading.specs.Reads.{HasRead}
use Rattle.lp_loading.specs.Readings.{MissingGoesOn}
use Rattle.lp_loading.proofs.FilesRead.{told_over}
use Rattle.lp_loading.proofs.Growth.{grows_same}
use Rattle.lp_loading.proofs.Telling.{over_ends}

-- what was found of some parents
pub line_found : (o : Option Inherited) (line : ℕ) → Some line ≡ option_map (λ p. p.line) o → (q : Inherited) × (o ≡ Some q) × (line ≡ q.line)
line_found None line e = absurd cc
line_found (Some q) line e = (q, refl, ap (λ x. unwrap_or x 0) e)

module _ (names : NamesHaveFiles) (w : World) (made : List Made) where
  -- the first that is missing is not known
  not_known : (ps : List Parent) (p : Parent) → first_missing w made ps ≡ Some p → known_version w made p.name ≡ None
  not_known [] p e = absurd cc
  not_known (q ∷ ps) p e = by (not_known ps p) (known_version w made q.name) refl e
    where
      by : (first_missing w made ps ≡ Some p → known_version w made p.name ≡ None) → (o : Option ProgId) → known_version w made q.name ≡ o → (if not (is_some o) then Some q else first_missing w made ps) ≡ Some p → known_version w made p.name ≡ None
      by more (Some v) k e = more e
      by more None k e = subst (λ x. known_version w made x.name ≡ None) (ap (λ o. unwrap_or o q) e) k

  -- and the first with its file
  pub first_is : (ps : List Parent) (p : Parent) (file : List ℕ) → ((xs : List ℕ) → is_name xs xs ≡ true) → first_missing w made ps ≡ Some p → file ≡ file_bytes p.name → first_of file (map by_file ps) ≡ Some (by_file p)
  first_is [] p file self e f = absurd cc
  first_is (q ∷ ps) p file self e f = by (λ r. first_is ps p file self r f) (known_version w made q.name) refl e
    where
      here : (first_missing w made ps ≡ Some p → first_of file (map by_file ps) ≡ Some (by_file p)) → (b : Bool) → is_name (file_bytes q.name) file ≡ b → (v : ProgId) → known_version w made q.name ≡ Some v → first_missing w made ps ≡ Some p → (if b then Some (by_file q) else first_of file (map by_file ps)) ≡ Some (by_file p)
      here more true y v k r =
          let same : q.name ≡ p.name = names q.name p.name (same_name (file_bytes q.name) file y ∙ f) in
          let known : Some v ≡ None = sym k ∙ ap (known_version w made) same ∙ not_known ps p r in
          absurd (cc known)
      here more false y v k r = more r

      by : (first_missing w made ps ≡ Some p → first_of file (map by_file ps) ≡ Some (by_file p)) → (o : Option ProgId) → known_version w made q.name ≡ o → (if not (is_some o) then Some q else first_missing w made ps) ≡ Some p
          → (if is_name (file_bytes q.name) file then Some (by_file q) else first_of file (map by_file ps)) ≡ Some (by_file p)
      by more (Some v) k r = here more (is_name (file_bytes q.name) file) refl v k r
      by more None k r =
          let same : q ≡ p = ap (λ o. unwrap_or o q) r in
          let y : is_name (file_bytes q.name) file ≡ true = ap (is_name (file_bytes q.name)) (f ∙ ap (λ x. file_bytes x.name) (sym same)) ∙ self (file_bytes q.name) in
          ap (λ b. if b then Some (by_file q) else first_of file (map by_file ps)) y ∙ ap (λ x. Some (by_file x)) same

items_same : (r : Reading) (items more : List ItemTree) (p q : Pragmas) → r ≡ Declares items p → r ≡ Declares more q → items ≡ more
items_same r items more p q e f = cc

-- its line is that of the parent that is missing
pub line_same : NamesHaveFiles → FilesAreOfNames → StoresAreRead → (front : FrontEnd) (live : Live) (w : World) (made : List Made) (name file : List ℕ) (line : ℕ) → IsFrontEnd front → HasFiles live.store w.files
    → IsLineOf live.store (file_bytes name) file line → (m : IsMissing front w made (file_of_name name) file) → line ≡ m.parent.line
line_same names of reads front live w made name file line real has l m =
    let there = (reads front live.store w.files (file_of_name name) real has).declared l.items l.pragmas l.declares in
    let same : l.items ≡ m.items = items_same (front.read w.files (file_of_name name)) l.items m.items l.pragmas m.pragmas there m.read in
    let first : first_of file (files.parents_in l.items) ≡ Some (by_file m.parent) =
    ap (λ x. first_of file (files.parents_in x)) same ∙ ap (first_of file) (of m.items)
    ∙ first_is names w made (parents_in m.items) m.parent file (λ xs. (bytes_eq-Decides xs xs).1 refl) m.missing m.file_is in
    let q : l.parent ≡ by_file m.parent = ap (λ o. unwrap_or o l.parent) (sym l.first ∙ first) in
    l.line_is ∙ ap (λ (x : Inherited). x.line) q

-- It ends the load with its fault.
pub too_far_goes : MissingGoesOn → NamesHaveFiles → FilesAreOfNames → StoresAreRead → (fs : Vec Fault Global) (kind : FaultKind) (name file : List ℕ) (line : ℕ) (job : LoadJob) (loads : List Loading) (told0 : Option Bytes) (live0 : Live) (told1 : Option Bytes)
    (live1 live2 : Live) (budget : ℕ) (turn : Turn) (r : Step) → fs.items ≡ record { file = file_bytes name; line = line; kind = kind } ∷ [] → job.name ≡ name → IsLineOf live1.store (file_bytes name) file line
    → live2 ≡ record live1 { outputs = live1.outputs ++ map fault_record fs.items } → r ≡ steps.Ends (answers.Faulty fs) → HasRead (compiled.Missing file) job loads told0 live0 told1 live1 → IsTooFar kind file job loads
    → Goes r job goings.Read loads told0 live0 budget told1 live2 budget turn
too_far_goes goes names of reads fs kind name file line job loads told0 live0 told1 live1 live2 budget turn r one n l e q h far front programs before by s zero real at under b = absurd (omega (arith, b))
too_far_goes goes names of reads fs kind name file line job loads told0 live0 told1 live1 live2 budget turn r one n l e q h far front programs before by s (suc m) real at under b =
    let c = h.is programs s.world at.world in
    let made : List Made = all_made job.made.items in
    let os : List Out = map fault_record fs.items in
    let miss = c.front_end front real in
    let its : line ≡ miss.parent.line = line_same names of reads front live1 s.world made job.name file line real c.world.stands.rest.files (subst (λ x. IsLineOf live1.store (file_bytes x) file line) (sym n) l) miss in
    let same : far.name ≡ miss.parent.name = names far.name miss.parent.name (sym far.file_is ∙ miss.file_is) in
    let again = λ (made : List Made) (s : State). reading m (kind_of job.purpose) by job.nested job.name made s in
    let way : is_under_way miss.parent.name by.loads ≡ is_under_way far.name (loads_of loads) = ap (λ x. is_under_way x by.loads) (sym same) ∙ ap (is_under_way far.name) under.2 in
    let ended : faulty fs.items s ≡ parent_missing by job.nested job.name made again miss.parent s =
    ap (λ x. faulty x s) (one ∙ ap (λ x. record { file = file_bytes x; line = line; kind = kind } ∷ []) (sym n) ∙ ap (λ x. file_fault job.name x kind ∷ []) its) ∙ by_why by job made again miss.parent s kind (is_under_way far.name (loads_of loads)) (nat_lt max_nested (suc job.nested)) way refl far.why in
    let it : HasEnded front (answers.Faulty fs) (going_course (suc m) job goings.Read by s) programs told1 before (record live1 { outputs = live1.outputs ++ os }) turn budget = record {
      programs = programs;
      grown = grows_same programs;
      end = Gives (IsFaulty fs.items) (told os s);
      is = record { answer = refl; at = told_over told0 told1 programs before live0 live1 turn budget s os at c.world h.outputs };
      ends = goes front m (kind_of job.purpose) by job.nested job.name made s file _ miss (subst (λ x. Ends front x (Gives (IsFaulty fs.items) (told os s))) ended (over_ends front _));
    } in
    subst (λ x. LeadsTo front x job (going_course (suc m) job goings.Read by s) programs told1 before live2 turn budget by) (sym q)
    (subst (λ (x : Live). HasEnded front (answers.Faulty fs) (going_course (suc m) job goings.Read by s) programs told1 before x turn budget) (sym e) it, tt)
  where
    by_why : (by : Asker) (job : LoadJob) (made : List Made) (again : List Made → State → Course Reply) (p : Parent) (s : State) (kind : FaultKind) (way deep : Bool) → is_under_way p.name by.loads ≡ way → nat_lt max_nested (suc job.nested) ≡ deep
        → ((kind ≡ faults.Cycle) × (way ≡ true)) ⊎ ((kind ≡ faults.InheritDepth) × (way ≡ false) × (deep ≡ true)) → faulty (file_fault job.name p.line kind ∷ []) s ≡ parent_missing by job.nested job.name made again p s
    by_why by job made again p s kind way deep w d (inl k) =
        ap (λ x. faulty (file_fault job.name p.line x ∷ []) s) k.0
        ∙ sym (ap (λ z. if z then faulty (file_fault job.name p.line faults.Cycle ∷ []) s else (if nat_lt max_nested (suc job.nested) then faulty (file_fault job.name p.line faults.InheritDepth ∷ []) s else parent_loaded by job.name made again p s)) (w ∙ k.1))
    by_why by job made again p s kind way deep w d (inr k) =
        ap (λ x. faulty (file_fault job.name p.line x ∷ []) s) k.0
        ∙ sym (ap (λ z. if z then faulty (file_fault job.name p.line faults.Cycle ∷ []) s else (if nat_lt max_nested (suc job.nested) then faulty (file_fault job.name p.line faults.InheritDepth ∷ []) s else parent_loaded by job.name made again p s)) (w ∙ k.1)
        ∙ ap (λ z. if z then faulty (file_fault job.name p.line faults.InheritDepth ∷ []) s else parent_loaded by job.name made again p s) (d ∙ k.2))
