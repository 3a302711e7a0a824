-- What is told of a file, and of a unit.
use Rattle.std.proofs.Common.{◌≡◌, ◌<◌, ℕ, zero, suc, List, [], ◌∷◌, All, map, length, refl, sym, ap, subst, arith}
use Rattle.std.specs.Prelude.{slice_index_or}
use Rattle.std.specs.Str.{encode_utf8_all}
use Rattle.lp_tree.specs.declared.fault.Fault.{Fault}
use Rattle.lp_types_expr.specs.declared.fault.FaultAt.{FaultAt}
use Rattle.lp_front.specs.Settling.{in_file}
use Rattle.lp_meaning.specs.FrontEnd.{FrontEnd, Reading, Tells, check_reply, read_reply}
use Rattle.lp_front_end.specs.Readings.{IsReading, setting_of}
use Rattle.lp_front_end.specs.FrontEnds.{IsFrontEnd, NamesTheFile}
use Rattle.lp_front_end.specs.Told.{CheckIsTold, FaultsAreTold, ReadIsTold}

pub read_is_told : ReadIsTold
read_is_told front a path r e h = (read_reply r, subst (λ q. Tells front a q (read_reply r)) (sym e) (ap read_reply h), refl)

pub check_is_told : CheckIsTold
check_is_told front a path items pragmas parents simuls fs e h = (check_reply fs, subst (λ q. Tells front a q (check_reply fs)) (sym e) (ap check_reply h), refl)

pub faults_are_told : FaultsAreTold
faults_are_told [] some = absurd (some refl)
faults_are_told (f ∷ fs) some = refl

named : (file : List ℕ) (fs : List FaultAt) (k : ℕ) (d : Fault) → k < length (map (in_file file) fs) → (slice_index_or (map (in_file file) fs) k d).file ≡ file
named file [] k d lt = absurd (omega (arith, lt))
named file (f ∷ fs) zero d lt = refl
named file (f ∷ fs) (suc k) d lt = named file fs k d (omega (arith, lt))

pub faults_name_the_file : (front : FrontEnd) → IsFrontEnd front → NamesTheFile front
faults_name_the_file front is = record {
  reads = λ files path f e. (subst (λ (r : Reading). IsReading (setting_of files path) r) e (is.reads files path)).0;
  checks = λ w path items pragmas parents simuls. subst (λ (fs : List Fault). All (λ f. f.file ≡ encode_utf8_all path) fs) (sym (is.checks w path items pragmas parents simuls)) (λ k d lt. named (encode_utf8_all path) _ k d lt);
}
