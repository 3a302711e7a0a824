-- What all others leave over is `sscanf`, which has an instruction of its own.
use Rattle.std.proofs.Common.{◌≡◌, ◌∙◌, Bool, true, false, refl, ap, if◌then◌else◌}
use Rattle.lp_instr.specs.declared.efun.Efun.{Efun}
use Rattle.lp_instr.specs.declared.efun.Efun.TheVariants as efuns
use Rattle.lp_efuns.specs.Plain.{is_plain}
use Rattle.lp_calling.specs.Beginning.{is_calling}
use Rattle.lp_object_efuns.specs.Called.{is_with_program}
use Rattle.lp_vm.specs.Efuns.{BringsNothing, is_clone, is_command, is_ending, is_shadow}

differ : false ≡ true → ⊥
differ q = cc

abbrev left_by : Bool → Bool → Bool
left_by b rest = if b then false else rest

abbrev is_left : Efun → Bool
is_left e = left_by (is_plain e) (left_by (is_calling e) (left_by (is_with_program e) (left_by (is_shadow e) (left_by (is_clone e) (left_by (is_command e) (left_by (is_ending e) true))))))

left_is : (e : Efun) → is_left e ≡ true → e ≡ efuns.Sscanf
left_is efuns.Sscanf p = refl
left_is _ p = absurd (differ p)

pub only_sscanf : (e : Efun) → is_plain e ≡ false → is_calling e ≡ false → is_ending e ≡ false → BringsNothing e → e ≡ efuns.Sscanf
only_sscanf e plain calling ending h =
    left_is e
    (ap (λ b. left_by b (left_by (is_calling e) (left_by (is_with_program e) (left_by (is_shadow e) (left_by (is_clone e) (left_by (is_command e) (left_by (is_ending e) true))))))) plain
    ∙ ap (λ b. left_by b (left_by (is_with_program e) (left_by (is_shadow e) (left_by (is_clone e) (left_by (is_command e) (left_by (is_ending e) true)))))) calling
    ∙ ap (λ b. left_by b (left_by (is_shadow e) (left_by (is_clone e) (left_by (is_command e) (left_by (is_ending e) true))))) h.0
    ∙ ap (λ b. left_by b (left_by (is_clone e) (left_by (is_command e) (left_by (is_ending e) true)))) h.1
    ∙ ap (λ b. left_by b (left_by (is_command e) (left_by (is_ending e) true))) (h.2).0
    ∙ ap (λ b. left_by b (left_by (is_ending e) true)) (h.2).1
    ∙ ap (λ b. left_by b true) ending)
