-- Tables of parents, one after another.
use Rattle.std.proofs.Common.{◌≡◌, ℕ, zero, suc, ◌+◌, ◌<◌, ◌≤◌, List, [], ◌∷◌, ◌++◌, length, drop, get_or, Some, refl, sym, ap, ◌∙◌, subst, arith, length-append, append_assoc}
use Rattle.std.specs.Prelude.{string_bytes}
use Rattle.std.proofs.lemmas.List.{append-nil, drop_more}
use Rattle.std.proofs.lemmas.Option.{none-some}
use Rattle.lp_code.specs.declared.tables.Tables.{Tables}
use Rattle.lp_layout.specs.Layout.{AreInside}
use Rattle.lp_front.specs.declared.parents.Parent.{Parent}
use Rattle.lp_unit_laws.specs.Versions.{AreOfVersions, IsOfVersion}
use Rattle.lp_compile.specs.Known.{AreGiven, AreNotGiven, IsFirstMissing, IsMissing, IsNotGiven, IsOnTheWay, Known}
use Rattle.lp_compile.specs.declared.fault.CompileFault.{CompileFault}
use Rattle.lp_compile.specs.declared.fault.CompileFault.TheVariants.{Need, Faults, TooLarge, NoMemory}

no_tables : AreInside []
no_tables i t e = absurd (none-some t e)

pub starts : (k : Known) (ps : List Parent) (ts : List Tables) → ts ≡ [] → IsOnTheWay k ps ps 0 ts
starts k ps ts e = record {
  inside = subst AreInside (sym e) no_tables;
  versions = subst AreOfVersions (sym e) tt;
  count = ap length e;
  given = λ us g. subst (λ l. AreGiven k ps (l ++ us)) (sym e) g;
  missing = λ file m. m;
}

inside_more : (ts : List Tables) (t : Tables) → AreInside ts → AreInside (t ∷ []) → AreInside (ts ++ t ∷ [])
inside_more [] t h k i u e = k i u e
inside_more (x ∷ ts) t h k zero u e = h 0 u e
inside_more (x ∷ ts) t h k (suc i) u e = inside_more ts t (λ j v d. h (suc j) v d) k i u e

versions_more : (ts : List Tables) (t : Tables) → AreOfVersions ts → IsOfVersion t → AreOfVersions (ts ++ t ∷ [])
versions_more [] t h k = (k, tt)
versions_more (x ∷ ts) t h k = (h.0, versions_more ts t h.1 k)

-- one more
pub goes_on : (k : Known) (ps : List Parent) (i : ℕ) (p : Parent) (ts us : List Tables) (t : Tables) → i < length ps → p ≡ get_or ps i p → IsOnTheWay k (drop i ps) ps i ts → k p.file ≡ Some t → AreInside (t ∷ []) → IsOfVersion t → us ≡ ts ++ t ∷ [] → IsOnTheWay k (drop (i + 1) ps) ps (i + 1) us
goes_on k ps i p ts us t lt is h kt inside of e =
    let here : drop i ps ≡ p ∷ drop (i + 1) ps = drop_more ps i p lt ∙ ap (λ x. x ∷ drop (i + 1) ps) (sym is) in
    let n = h.count in
    let m : length us ≡ length ts + 1 = ap length e ∙ length-append ts (t ∷ []) in
    record {
      inside = subst AreInside (sym e) (inside_more ts t h.inside inside);
      versions = subst AreOfVersions (sym e) (versions_more ts t h.versions of);
      count = omega (arith, n, m);
      given = λ vs g. subst (AreGiven k ps) (sym (ap (λ l. l ++ vs) e ∙ append_assoc ts (t ∷ []) vs)) (h.given (t ∷ vs) (subst (λ l. AreGiven k l (t ∷ vs)) (sym here) (kt, g)));
      missing = λ file f. h.missing file (subst (λ l. IsFirstMissing k l file) (sym here) (subst (λ o. IsMissing o p.file file (IsFirstMissing k (drop (i + 1) ps) file)) (sym kt) f));
    }

-- one whose tables are not at hand
pub stops : (k : Known) (ps : List Parent) (i : ℕ) (p : Parent) (ts : List Tables) (f : CompileFault) → i < length ps → p ≡ get_or ps i p → IsOnTheWay k (drop i ps) ps i ts → IsNotGiven k p.file f → AreNotGiven k ps f
stops k ps i p ts (Need name) lt is h (none, e) =
    let here : drop i ps ≡ p ∷ drop (i + 1) ps = drop_more ps i p lt ∙ ap (λ x. x ∷ drop (i + 1) ps) (sym is) in
    h.missing (string_bytes name) (subst (λ l. IsFirstMissing k l (string_bytes name)) (sym here) (subst (λ o. IsMissing o p.file (string_bytes name) (IsFirstMissing k (drop (i + 1) ps) (string_bytes name))) (sym none) e))
stops k ps i p ts (Faults fs) lt is h n = n
stops k ps i p ts TooLarge lt is h n = n
stops k ps i p ts NoMemory lt is h n = n

all_dropped : {A : Type 0} (xs : List A) (n : ℕ) → length xs ≤ n → drop n xs ≡ []
all_dropped [] zero h = refl
all_dropped [] (suc n) h = refl
all_dropped (x ∷ xs) zero h = absurd (omega (arith, h))
all_dropped (x ∷ xs) (suc n) h = all_dropped xs n (omega (arith, h))

-- all of them
pub ends : (k : Known) (ps : List Parent) (n : ℕ) (ts : List Tables) → length ps ≤ n → IsOnTheWay k (drop n ps) ps n ts → AreGiven k ps ts
ends k ps n ts le h = subst (AreGiven k ps) (append-nil ts) (h.given [] (subst (λ l. AreGiven k l []) (sym (all_dropped ps n le)) tt))
