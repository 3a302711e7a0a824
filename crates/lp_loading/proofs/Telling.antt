-- What reading a file leads to.
use Rattle.std.proofs.Common.{◌≡◌, ◌∙◌, inl, inr, ℕ, suc, List, [], ◌∷◌, Some, None, refl, ap, sym, subst, map}
use Rattle.std.proofs.lemmas.List.{append-nil}
use Rattle.lp_tree.specs.declared.fault.Fault.{Fault}
use Rattle.lp_tree.specs.declared.pragma.Pragmas.{Pragmas}
use Rattle.lp_tree.specs.Units.{ItemTree}
use Rattle.lp_values.specs.declared.id.ProgId.{ProgId}
use Rattle.lp_language.specs.Course.{Asked, Check, Course, End, Gives, IsFaulty, LoadKind, Over, Read, Reply, State, WasRead, after, and_then, end_of_reply, told as stated}
use Rattle.lp_language.specs.World.{Version}
use Rattle.lp_meaning.specs.Askers.{Asker, ask_reply, question, told}
use Rattle.lp_meaning.specs.Closing.{Ends}
use Rattle.lp_meaning.specs.FileLoads.{Made, after_check, after_read, checking, fault_record, first_missing, parent_missing, parents_in, reading, simul_names, version_known, version_now}
use Rattle.lp_meaning.specs.FrontEnd.{FrontEnd, Tells, check_reply, read_reply, unchanged}
use Rattle.lp_meaning.specs.Questions.{means}
use Rattle.lp_meaning.specs.WorldSteps.{file_of_name}
use Rattle.lp_meaning.proofs.Kept.{unchanged_can}
use Rattle.lp_compile_laws.specs.Told.{IsChecked}
use Rattle.lp_asking.proofs.Courses.{asks_ends}
use Rattle.lp_loading.specs.Readings.{FaultyEnds, MissingGoesOn, SoundGoesOn}

-- the state behind an answer that changed nothing
same_state : (what : Asked) (by : Asker) (s : State) (r : Reply) → after s (unchanged (question what [] by s) r) ≡ s
same_state what by s r = ap (λ os. record s { outputs = os }) (append-nil s.outputs)

-- What is told of a question that means no course is its answer.
told_goes : (front : FrontEnd) (what : Asked) (by : Asker) (s : State) (k : Reply → State → Course Reply) (r : Reply) (e : End Reply) → means (question what [] by s) ≡ None → Tells front (question what [] by s) what r
    → Ends front (k r s) e → Ends front (and_then (ask_reply what [] by s) k) e
told_goes front what by s k r e n t h =
    asks_ends front (question what [] by s) (λ o. and_then (Over (end_of_reply o.answer (after s o))) k) (unchanged (question what [] by s) r) e (stated n (r, t, refl)) (unchanged_can (question what [] by s) r)
    (subst (λ z. Ends front (k r z) e) (sym (same_state what by s r)) h)

read_goes : (front : FrontEnd) (path : List ℕ) (by : Asker) (s : State) (k : Reply → State → Course Reply) (r : Reply) (e : End Reply) → read_reply (front.read s.world.files path) ≡ r
    → Ends front (k r s) e → Ends front (and_then (ask_reply (Read path) [] by s) k) e
read_goes front path by s k r e t h = told_goes front (Read path) by s k r e refl t h

check_goes : (front : FrontEnd) (path : List ℕ) (items : List ItemTree) (pragmas : Pragmas) (parents : List ProgId) (simuls : List (List ℕ)) (by : Asker) (s : State) (k : Reply → State → Course Reply) (r : Reply) (e : End Reply)
    → check_reply (front.check s.world path items pragmas parents simuls) ≡ r → Ends front (k r s) e → Ends front (and_then (ask_reply (Check path items pragmas parents simuls) [] by s) k) e
check_goes front path items pragmas parents simuls by s k r e t h = told_goes front (Check path items pragmas parents simuls) by s k r e refl t h

-- a course that is over
pub over_ends : (front : FrontEnd) (e : End Reply) → Ends front (Over e) e
over_ends front e = ([], refl, tt)

module _ (front : FrontEnd) (turns : ℕ) (kind : LoadKind) (by : Asker) (nested : ℕ) (name : List ℕ) (made : List Made) (s : State) where
  abbrev path : List ℕ
  path = file_of_name name

  abbrev again : List Made → State → Course Reply
  again made s = reading turns kind by nested name made s

  abbrev simuls : List (List ℕ)
  simuls = simul_names s.world by.loads

  abbrev behind : Reply → State → Course Reply
  behind r t = after_read kind by nested name made again r t

  -- what was read has all its parents
  parents_known : (items : List ItemTree) (pragmas : Pragmas) (e : End Reply) → first_missing s.world made (parents_in items) ≡ None
      → Ends front (checking kind by name items pragmas (map (version_known s.world made) (parents_in items)) s) e → Ends front (behind (WasRead items pragmas) s) e
  parents_known items pragmas e n h =
      subst (λ o. Ends front (elim o [ None ↦ checking kind by name items pragmas (map (version_known s.world made) (parents_in items)) s | Some p ↦ parent_missing by nested name made again p s ]) e) (sym n) h

  -- it is checked
  checked_goes : (items : List ItemTree) (pragmas : Pragmas) (fs : List Fault) (e : End Reply) → IsChecked front s.world made path simuls items pragmas fs
      → Ends front (after_check kind by name (version_now s.world name items pragmas (map (version_known s.world made) (parents_in items)) simuls) (check_reply fs) s) e
      → Ends front (reading (suc turns) kind by nested name made s) e
  checked_goes items pragmas fs e c h =
      let parents : List ProgId = map (version_known s.world made) (parents_in items) in
      let v : Version = version_now s.world name items pragmas parents simuls in
      read_goes front path by s behind (WasRead items pragmas) e (ap read_reply c.read)
      (parents_known items pragmas e c.none_missing
      (check_goes front path items pragmas parents simuls by s (λ r t. after_check kind by name v r t) (check_reply fs) e (ap check_reply c.checked) h))

  faulty_unit : (items : List ItemTree) (pragmas : Pragmas) (fs : List Fault) → IsChecked front s.world made path simuls items pragmas fs → (fs ≡ [] → ⊥)
      → Ends front (reading (suc turns) kind by nested name made s) (Gives (IsFaulty fs) (told (map fault_record fs) s))
  faulty_unit items pragmas [] c n = absurd (n refl)
  faulty_unit items pragmas (f ∷ fs) c n = checked_goes items pragmas (f ∷ fs) _ c (over_ends front _)

pub faulty_ends : FaultyEnds
faulty_ends front turns kind by nested name made s fs (inl u) =
    read_goes front (file_of_name name) by s (λ r t. after_read kind by nested name made (λ made s. reading turns kind by nested name made s) r t) (IsFaulty fs) _ (ap read_reply u.read ∙ ap IsFaulty (sym u.alone)) (over_ends front _)
faulty_ends front turns kind by nested name made s fs (inr u) = faulty_unit front turns kind by nested name made s u.items u.pragmas fs u.checked u.some

pub missing_goes_on : MissingGoesOn
missing_goes_on front turns kind by nested name made s file e m h =
    read_goes front (file_of_name name) by s (λ r t. after_read kind by nested name made (λ made s. reading turns kind by nested name made s) r t) (WasRead m.items m.pragmas) e (ap read_reply m.read)
    (subst
    (λ o. Ends front (elim o [ None ↦ checking kind by name m.items m.pragmas (map (version_known s.world made) (parents_in m.items)) s | Some p ↦ parent_missing by nested name made (λ made s. reading turns kind by nested name made s) p s ]) e)
    (sym m.missing) h)

pub sound_goes_on : SoundGoesOn
sound_goes_on front turns kind by nested name made s items pragmas e c h = checked_goes front turns kind by nested name made s items pragmas [] e c h
