-- Breaks and continues become jumps, one place after another.
use Rattle.std.proofs.Common.{◌≡◌, ℕ, ◌+◌, ◌<◌, ◌≤◌, ◌≢◌, List, length, get_or, Option, Some, refl, sym, ap, ◌∙◌, ⊎_elim, arith}
use Rattle.std.specs.Prelude.{slice_get, slice_set}
use Rattle.std.proofs.lemmas.List.{length-set}
use Rattle.std.proofs.lemmas.Bool.{cases_lt}
use Rattle.std.proofs.lemmas.Option.{slice_get-get_or, slice_get_past}
use Rattle.lp_codegen_expr.specs.declared.code.Draft.{Draft}
use Rattle.lp_codegen_expr.proofs.Compose.{slice_get-set, slice_get-set_same}
use Rattle.lp_codegen_flow.specs.Led.{Same, lead_to, leads_to, Led}

-- the places below k are done
pub record LedUpTo (from k out : ℕ) (again : Option ℕ) (old new : List Draft) : Type 0 where
  pub as_long : length new ≡ length old
  pub below : Same old new 0 from
  pub led : (p : ℕ) → from ≤ p → p < k → slice_get new p ≡ leads_to out again (slice_get old p)
  pub above : (p : ℕ) → k ≤ p → slice_get new p ≡ slice_get old p

pub led_none : (from k out : ℕ) (again : Option ℕ) (old : List Draft) → k ≡ from → LedUpTo from k out again old old
led_none from k out again old e =
    record { as_long = refl; below = λ p a b. refl; led = λ p a b. absurd (omega arith); above = λ p a. refl }

pub led_more : (from k out : ℕ) (again : Option ℕ) (old cur : List Draft) (x d : Draft) → from ≤ k → k < length cur → x ≡ get_or cur k x → d ≡ lead_to out again x → LedUpTo from k out again old cur → LedUpTo from (k + 1) out again old (slice_set cur k d)
led_more from k out again old cur x d le lt is made h = record {
  as_long = length-set cur k d ∙ h.as_long;
  below = λ p a b. slice_get-set cur k p d (let g : p ≢ k = omega arith in g) ∙ h.below p a b;
  led = λ p a b.
      ⊎_elim
      (λ (l : p < k). slice_get-set cur k p d (let g : p ≢ k = omega arith in g) ∙ h.led p a l)
      (λ (l : k ≤ p). let e : p ≡ k = omega arith in
      let here : slice_get old k ≡ Some x = sym (h.above k (omega arith)) ∙ slice_get-get_or cur k x lt ∙ ap Some (sym is) in
      ap (λ q. slice_get (slice_set cur k d) q) e ∙ slice_get-set_same cur k d lt ∙ ap Some made ∙ ap (leads_to out again) (sym here) ∙ ap (λ q. leads_to out again (slice_get old q)) (sym e))
      (cases_lt p k);
  above = λ p a. slice_get-set cur k p d (let g : p ≢ k = omega arith in g) ∙ h.above p (omega arith);
}

pub led_all : (from k out : ℕ) (again : Option ℕ) (old new : List Draft) → length old ≤ k → LedUpTo from k out again old new → Led from out again old new
led_all from k out again old new le h = record {
  as_long = h.as_long;
  below = h.below;
  led = λ p a.
      ⊎_elim
      (λ (l : p < k). h.led p a l)
      (λ (l : k ≤ p). slice_get_past new p (let e = h.as_long in omega arith) ∙ ap (leads_to out again) (sym (slice_get_past old p (omega arith))))
      (cases_lt p k);
}
