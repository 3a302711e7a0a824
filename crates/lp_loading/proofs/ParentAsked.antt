-- A load asks for a parent.
use Rattle.std.proofs.Common.{◌≡◌, ◌∙◌, ℕ, zero, suc, false, List, [], ◌∷◌, Option, refl, ap, sym, subst, nat_lt, if◌then◌else◌, arith}
use mathlib.Core.Path.{fun_ext}
use Rattle.lp_tree.specs.declared.fault.FaultKind.TheVariants as faults
use Rattle.lp_swapfile.specs.Device.{Bytes}
use Rattle.lp_language.specs.Course as course
use Rattle.lp_language.specs.Course.{Asks, Course, Load, Over, Reply, Returned, State, after, and_then, end_of_reply}
use Rattle.lp_language.specs.World.{object_at}
use Rattle.lp_meaning.specs.Askers.{Asker, question}
use Rattle.lp_meaning.specs.Closing.{Ends}
use Rattle.lp_meaning.specs.FileLoads.{Made, Parent, after_load, faulty, file_fault, is_under_way, parent_loaded, parent_missing, reading, unless_there}
use Rattle.lp_meaning.specs.Limits.{max_nested}
use Rattle.lp_front_end.specs.Parents.{NamesHaveFiles, file_bytes}
use Rattle.lp_world.specs.declared.live.Live.{Live}
use Rattle.lp_asking.specs.declared.asker.Loading.{Loading}
use Rattle.lp_efuns.specs.declared.caller.Turn.{Turn}
use Rattle.lp_loading.specs.declared.job.Going.TheVariants as goings
use Rattle.lp_loading.specs.declared.job.LoadJob.{LoadJob}
use Rattle.lp_loading.specs.declared.job.Step.TheVariants as steps
use Rattle.lp_loading.specs.declared.job.Waiting.TheVariants as waitings
use Rattle.lp_loading.specs.Going.{Goes}
use Rattle.lp_loading.specs.Loads.{kind_of, waiting_course}
use Rattle.lp_loading.specs.Parents.{AsksParent}
use Rattle.lp_loading.specs.Present.{all_made}
use Rattle.lp_loading.specs.Readings.{MissingGoesOn}
use Rattle.lp_loading.proofs.Growth.{grows_same}

module _ (turns : ℕ) (job : LoadJob) (by : Asker) (s : State) where
  abbrev again : List Made → State → Course Reply
  again made s = reading turns (kind_of job.purpose) by job.nested job.name made s

  abbrev asking : List ℕ → List ℕ → Course Reply
  asking name waits = Asks (question (Load name course.Inherited) [] by s) (λ r. waiting_course turns job (waitings.Parent waits) by (end_of_reply r.answer (after s r)))

  abbrev loaded : Parent → Course Reply
  loaded p = parent_loaded by job.name (all_made job.made.items) again p s

  answered : (p : Parent) (a : course.Answer) (t : State) → waiting_course turns job (waitings.Parent p.name) by (end_of_reply a t)
      ≡ and_then (Over (end_of_reply a t)) (λ r s. after_load r s (λ o s. unless_there job.name s (again (record { name = p.name; version = (object_at s.world o).version } ∷ all_made job.made.items))))
  answered p (Returned r) t = refl
  answered p (course.Stopped x) t = refl

  parent_asked : (p : Parent) → asking p.name p.name ≡ loaded p
  parent_asked p = ap (Asks (question (Load p.name course.Inherited) [] by s)) (fun_ext (λ r. answered p r.answer (after s r)))

  abbrev cycle : Parent → Course Reply
  cycle p = faulty (file_fault job.name p.line faults.Cycle ∷ []) s

  abbrev too_deep : Parent → Course Reply
  too_deep p = faulty (file_fault job.name p.line faults.InheritDepth ∷ []) s

  pub is_asked : (p : Parent) (name waits : List ℕ) → name ≡ p.name → waits ≡ name → is_under_way p.name by.loads ≡ false → nat_lt max_nested (suc job.nested) ≡ false
      → asking name waits ≡ parent_missing by job.nested job.name (all_made job.made.items) again p s
  is_asked p name waits n same away shallow =
      ap (asking name) same ∙ ap (λ z. asking z z) n ∙ parent_asked p
      ∙ sym (ap (λ b. if b then cycle p else (if nat_lt max_nested (suc job.nested) then too_deep p else loaded p)) away ∙ ap (λ b. if b then too_deep p else loaded p) shallow)

pub parent_goes : MissingGoesOn → NamesHaveFiles → (job : LoadJob) (loads : List Loading) (told : Option Bytes) (live : Live) (budget : ℕ) (turn : Turn) (name waits : List ℕ) → waits ≡ name → AsksParent job loads told live name
    → Goes (steps.Asks name (waitings.Parent waits)) job goings.Read loads told live budget told live budget turn
parent_goes goes names job loads told live budget turn name waits same a front programs before by s zero real at under l = absurd (omega (arith, l))
parent_goes goes names job loads told live budget turn name waits same a front programs before by s (suc m) real at under l =
    let miss = a.missing front programs s.world real at.world in
    let n : name ≡ miss.parent.name = names name miss.parent.name miss.file_is in
    let away = ap (λ z. is_under_way z by.loads) (sym n) ∙ ap (is_under_way name) under.2 ∙ a.away in
    record {
      programs = programs;
      grown = grows_same programs;
      state = s;
      turns = m;
      at = at;
      enough = omega (arith, l);
      ends = λ e h.
          goes front m (kind_of job.purpose) by job.nested job.name (all_made job.made.items) s (file_bytes name) e miss (subst (λ c. Ends front c e) (is_asked m job by s miss.parent name waits n same away a.shallow) h);
    }
