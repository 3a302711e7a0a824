-- What the scan for a greatest suffix keeps as it goes, and what it ends with.
use Rattle.std.proofs.Common.{◌≡◌, ℕ, zero, suc, ◌+◌, ◌-◌, ◌*◌, ◌/◌, ◌%◌, ◌<◌, ◌≤◌, sym, ap, subst, ◌∙◌, arith, inl, inr, ⊎_elim, suc-mul, add-mul, zero-mul, one-mul, div-add-mod'}
use Rattle.std.proofs.lemmas.Bool.{cases_lt, cases_eq}
use Rattle.std.proofs.lemmas.Nat.{div_below, mod_below}
use Rattle.lp_search.specs.Critical.{IsSuffixAt}

-- a term of the type given
abbrev by : (A : Type 0) → A → A
by A a = a

-- the values from s on first differ from those from c on by a lesser one, before place n
pub record IsBelow (lt : ℕ → ℕ → Type 0) (x : ℕ → ℕ) (n s c : ℕ) : Type 0 where
  pub at : ℕ
  pub same : (t : ℕ) → t < at → x (s + t) ≡ x (c + t)
  pub room_s : s + at < n
  pub room_c : c + at < n
  pub less : lt (x (s + at)) (x (c + at))

IsBelow-wider : {lt : ℕ → ℕ → Type 0} {x : ℕ → ℕ} {n s c : ℕ} (k : ℕ) → n ≤ k → IsBelow lt x n s c → IsBelow lt x k s c
IsBelow-wider k le b = record { at = b.at; same = b.same; room_s = omega (arith, b.room_s); room_c = omega (arith, b.room_c); less = b.less }

module _ (x : ℕ → ℕ) (p per n : ℕ) (periodic : (i : ℕ) → p ≤ i → i + per < n → x i ≡ x (i + per)) where
  -- a period repeats any number of times
  pub periodic-many : (a i : ℕ) → p ≤ i → i + a * per < n → x i ≡ x (i + a * per)
  periodic-many zero i low high =
      let none = zero-mul per in
      ap x (omega arith)
  periodic-many (suc a) i low high =
      let sum = suc-mul a per in
      periodic i low (omega arith) ∙ periodic-many a (i + per) (omega arith) (omega arith) ∙ ap x (omega arith)

-- what the scan knows: the values from p up to cand + off repeat with period per, cand lies whole periods after p,
-- each place before p is beaten, and so is each place of the first period
pub record IsScan (lt : ℕ → ℕ → Type 0) (x : ℕ → ℕ) (m p per cand off : ℕ) : Type 0 where
  pub some : 0 < per
  pub short : off < per
  pub blocks : ℕ
  pub many : 0 < blocks
  pub aligned : cand ≡ p + blocks * per
  pub within : cand + off ≤ m
  pub periodic : (i : ℕ) → p ≤ i → i + per < cand + off → x i ≡ x (i + per)
  pub before : (s : ℕ) → s < p → IsBelow lt x m s p
  pub inside : (d : ℕ) → 0 < d → d < per → IsBelow lt x (cand + off) (p + d) p

module _ (lt : ℕ → ℕ → Type 0) (trans : (a b c : ℕ) → lt a b → lt b c → lt a c) (irrefl : (a : ℕ) → lt a a → ⊥) (x : ℕ → ℕ) (m : ℕ) where
  -- the scan begins with the first place as the greatest
  pub IsScan-start : 0 < m → IsScan lt x m 0 1 1 0
  IsScan-start pos = record {
    some = omega arith;
    short = omega arith;
    blocks = 1;
    many = omega arith;
    aligned = omega arith;
    within = omega arith;
    periodic = λ i low high. absurd (omega arith);
    before = λ s h. absurd (omega arith);
    inside = λ d a b. absurd (omega arith);
  }

  module _ {p per cand off : ℕ} (h : IsScan lt x m p per cand off) where
    -- the periods from p up to cand end one place on
    many_to : (a i : ℕ) → p ≤ i → i + a * per < cand + off → x i ≡ x (i + a * per)
    many_to = periodic-many x p per (cand + off) h.periodic

    -- the values before cand + off read the same a period on from p and from cand
    same_at_cand : (t : ℕ) → t < off → x (p + t) ≡ x (cand + t)
    same_at_cand t l =
        let at = h.aligned in
        many_to h.blocks (p + t) (omega arith) (omega arith) ∙ ap x (omega arith)

    -- a place a whole number of periods before cand + off, as far as p + off
    back_to : (c : ℕ) → c < h.blocks → x (p + off) ≡ x (p + off + c * per)
    back_to c l =
        let at = h.aligned in
        let rest = ap (λ b. b * per) (by (h.blocks ≡ (h.blocks - (c + 1)) + (c + 1)) (omega arith)) ∙ add-mul (h.blocks - (c + 1)) (c + 1) per in
        let sum = suc-mul c per in
        let some = h.some in
        many_to c (p + off) (omega arith) (omega arith)

    extended : x (p + off) ≡ x (cand + off) → (i : ℕ) → p ≤ i → i + per < cand + off + 1 → x i ≡ x (i + per)
    extended eq i low high = ⊎_elim
        (λ below. h.periodic i low below)
        (λ last.
        let at = h.aligned in
        let count = h.many in
        let c = h.blocks - 1 in
        let sum = ap (λ b. b * per) (by (h.blocks ≡ suc c) (omega arith)) ∙ suc-mul c per in
        let place : p + off + c * per ≡ i = omega arith in
        let end : cand + off ≡ i + per = omega arith in
        ap x (sym place) ∙ sym (back_to c (omega arith)) ∙ eq ∙ ap x end)
        (cases_lt (i + per) (cand + off))

    -- the candidate goes on as the period says
    pub IsScan-push : cand + off < m → x (p + off) ≡ x (cand + off) → off + 1 < per → IsScan lt x m p per cand (off + 1)
    IsScan-push room eq more = record {
      some = h.some;
      short = more;
      blocks = h.blocks;
      many = h.many;
      aligned = h.aligned;
      within = omega arith;
      periodic = λ i low high. extended eq i low (omega arith);
      before = h.before;
      inside = λ d a b. IsBelow-wider (cand + (off + 1)) (omega arith) (h.inside d a b);
    }

    -- the candidate has gone on for a whole period
    pub IsScan-block : cand + off < m → x (p + off) ≡ x (cand + off) → off + 1 ≡ per → IsScan lt x m p per (cand + per) 0
    IsScan-block room eq last =
        let sum = suc-mul h.blocks per in
        let at = h.aligned in
        record {
          some = h.some;
          short = h.some;
          blocks = suc h.blocks;
          many = omega arith;
          aligned = omega arith;
          within = omega arith;
          periodic = λ i low high. extended eq i low (omega arith);
          before = h.before;
          inside = λ d a b. IsBelow-wider (cand + per + 0) (omega arith) (h.inside d a b);
        }

    -- a place of a longer first period, where the candidate lost to the values from p
    skip_inside : cand + off < m → lt (x (cand + off)) (x (p + off)) → (d : ℕ) → 0 < d → d < cand + off + 1 - p
        → IsBelow lt x (cand + off + 1 + 0) (p + d) p
    skip_inside room lost d pos high =
        let at = h.aligned in
        let some = h.some in
        let short = h.short in
        let n = cand + off in
        let a = d / per in
        let e = d % per in
        let parts : a * per + e ≡ d = div-add-mod' d per in
        let e_below : e < per = mod_below d per some in
        let top = suc-mul h.blocks per in
        let a_below : a < suc h.blocks = div_below d per (suc h.blocks) some (omega arith) in
        let c = h.blocks - a in
        let split = ap (λ b. b * per) (by (h.blocks ≡ c + a) (omega arith)) ∙ add-mul c a per in
        let l2 = n - (p + d) in
        ⊎_elim
        (λ none.
        let a_pos : 0 < a = ⊎_elim (λ z. absurd (omega (arith, ap (λ k. k * per) z, zero-mul per))) (λ nz. omega arith) (cases_eq a 0) in
        let at_p : x (p + l2) ≡ x (p + off) = ap x (by (p + l2 ≡ p + off + c * per) (omega arith)) ∙ sym (back_to c (omega arith)) in
        let at_n : x (p + d + l2) ≡ x n = ap x (omega arith) in
        record {
          at = l2;
          same = λ t l. ap x (by (p + d + t ≡ p + t + a * per) (omega arith)) ∙ sym (many_to a (p + t) (omega arith) (omega arith));
          room_s = omega arith;
          room_c = omega arith;
          less = subst (λ v. lt v (x (p + l2))) (sym at_n) (subst (lt (x n)) (sym at_p) lost);
        })
        (λ some_e.
        let b = h.inside e (omega arith) e_below in
        let l = b.at in
        let rs = b.room_s in
        let rc = b.room_c in
        let lift : (t : ℕ) → p + d + t < n → x (p + d + t) ≡ x (p + e + t) =
        λ t r. ap x (by (p + d + t ≡ p + e + t + a * per) (omega arith)) ∙ sym (many_to a (p + e + t) (omega arith) (omega arith)) in
        ⊎_elim
        (λ early.
        record {
          at = l;
          same = λ t q. lift t (omega arith) ∙ b.same t q;
          room_s = omega arith;
          room_c = omega arith;
          less = subst (λ v. lt v (x (p + l))) (sym (lift l (omega arith))) b.less;
        })
        (λ late.
        let a_pos : 0 < a = ⊎_elim (λ z. absurd (omega (arith, ap (λ k. k * per) z, zero-mul per))) (λ nz. omega arith) (cases_eq a 0) in
        let at_z : x (p + e + l2) ≡ x (p + off) = ap x (by (p + e + l2 ≡ p + off + c * per) (omega arith)) ∙ sym (back_to c (omega arith)) in
        let at_n : x (p + d + l2) ≡ x n = ap x (omega arith) in
        let wanted : lt (x n) (x (p + l2)) = ⊎_elim
        (λ same.
        let got : lt (x (p + e + l2)) (x (p + l2)) = subst (λ k. lt (x (p + e + k)) (x (p + k))) (sym same) b.less in
        trans _ _ _ lost (subst (λ v. lt v (x (p + l2))) at_z got))
        (λ differ.
        let eq : x (p + e + l2) ≡ x (p + l2) = b.same l2 (omega arith) in
        subst (lt (x n)) (sym at_z ∙ eq) lost)
        (cases_eq l2 l) in
        record {
          at = l2;
          same = λ t q. lift t (omega arith) ∙ b.same t (omega arith);
          room_s = omega arith;
          room_c = omega arith;
          less = subst (λ v. lt v (x (p + l2))) (sym at_n) wanted;
        })
        (cases_lt l l2))
        (cases_eq e 0)

    -- the candidate lost: all up to it is one longer period
    pub IsScan-skip : cand + off < m → lt (x (cand + off)) (x (p + off)) → IsScan lt x m p (cand + off + 1 - p) (cand + off + 1) 0
    IsScan-skip room lost =
        let at = h.aligned in
        let one = one-mul (cand + off + 1 - p) in
        let some = h.some in
        let first = h.many in
        let sum = ap (λ b. b * per) (by (h.blocks ≡ suc (h.blocks - 1)) (omega arith)) ∙ suc-mul (h.blocks - 1) per in
        record {
          some = omega arith;
          short = omega arith;
          blocks = 1;
          many = omega arith;
          aligned = omega arith;
          within = omega arith;
          periodic = λ i low high. absurd (omega arith);
          before = h.before;
          inside = skip_inside room lost;
        }

    -- each place before the candidate loses to it
    accept_before : cand + off < m → lt (x (p + off)) (x (cand + off)) → (s : ℕ) → s < cand → IsBelow lt x m s cand
    accept_before room won s high =
        let at = h.aligned in
        let within = h.within in
        let n = cand + off in
        ⊎_elim
        (λ early.
        let b = h.before s early in
        let l = b.at in
        let rs = b.room_s in
        let rc = b.room_c in
        ⊎_elim
        (λ short.
        record {
          at = l;
          same = λ t q. b.same t q ∙ same_at_cand t (omega arith);
          room_s = rs;
          room_c = omega arith;
          less = subst (lt (x (s + l))) (same_at_cand l short) b.less;
        })
        (λ long.
        let wanted : lt (x (s + off)) (x n) = ⊎_elim
        (λ same.
        let got : lt (x (s + off)) (x (p + off)) = subst (λ k. lt (x (s + k)) (x (p + k))) (sym same) b.less in
        trans _ _ _ got won)
        (λ differ. subst (λ v. lt v (x n)) (sym (b.same off (omega arith))) won)
        (cases_eq off l) in
        record {
          at = off;
          same = λ t q. b.same t (omega arith) ∙ same_at_cand t q;
          room_s = omega arith;
          room_c = room;
          less = wanted;
        })
        (cases_lt l off))
        (λ late.
        let some = h.some in
        let d = s - p in
        let a = d / per in
        let e = d % per in
        let parts : a * per + e ≡ d = div-add-mod' d per in
        let e_below : e < per = mod_below d per some in
        ⊎_elim
        (λ none.
        let at_off : x (s + off) ≡ x (p + off) = ap x (by (s + off ≡ p + off + a * per) (omega arith)) ∙ sym (many_to a (p + off) (omega arith) (omega arith)) in
        record {
          at = off;
          same = λ t q. ap x (by (s + t ≡ p + t + a * per) (omega arith)) ∙ sym (many_to a (p + t) (omega arith) (omega arith)) ∙ same_at_cand t q;
          room_s = omega arith;
          room_c = room;
          less = subst (λ v. lt v (x n)) (sym at_off) won;
        })
        (λ some_e.
        let b = h.inside e (omega arith) e_below in
        let l = b.at in
        let rs = b.room_s in
        let rc = b.room_c in
        let lift : (t : ℕ) → s + t < n → x (s + t) ≡ x (p + e + t) =
        λ t r. ap x (by (s + t ≡ p + e + t + a * per) (omega arith)) ∙ sym (many_to a (p + e + t) (omega arith) (omega arith)) in
        ⊎_elim
        (λ short.
        record {
          at = l;
          same = λ t q. lift t (omega arith) ∙ b.same t q ∙ same_at_cand t (omega arith);
          room_s = omega arith;
          room_c = omega arith;
          less = subst (lt (x (s + l))) (same_at_cand l short) (subst (λ v. lt v (x (p + l))) (sym (lift l (omega arith))) b.less);
        })
        (λ long.
        let wanted : lt (x (p + e + off)) (x n) = ⊎_elim
        (λ same.
        let got : lt (x (p + e + off)) (x (p + off)) = subst (λ k. lt (x (p + e + k)) (x (p + k))) (sym same) b.less in
        trans _ _ _ got won)
        (λ differ. subst (λ v. lt v (x n)) (sym (b.same off (omega arith))) won)
        (cases_eq off l) in
        record {
          at = off;
          same = λ t q. lift t (omega arith) ∙ b.same t (omega arith) ∙ same_at_cand t q;
          room_s = omega arith;
          room_c = room;
          less = subst (λ v. lt v (x n)) (sym (lift off (omega arith))) wanted;
        })
        (cases_lt l off))
        (cases_eq e 0))
        (cases_lt s p)

    -- the candidate won: it is the new greatest
    pub IsScan-accept : cand + off < m → lt (x (p + off)) (x (cand + off)) → IsScan lt x m cand 1 (cand + 1) 0
    IsScan-accept room won = record {
      some = omega arith;
      short = omega arith;
      blocks = 1;
      many = omega arith;
      aligned = omega arith;
      within = omega arith;
      periodic = λ i low high. absurd (omega arith);
      before = accept_before room won;
      inside = λ d a b. absurd (omega arith);
    }

    -- the scan has read all m values
    pub IsScan-end : cand + off ≡ m → IsSuffixAt lt x m p per
    IsScan-end end =
        let at = h.aligned in
        let some = h.some in
        let first = h.many in
        let sum = ap (λ b. b * per) (by (h.blocks ≡ suc (h.blocks - 1)) (omega arith)) ∙ suc-mul (h.blocks - 1) per in
        record {
          greatest = λ s below differs. ⊎_elim
              (λ early.
              let b = h.before s early in
              record { at = b.at; same = b.same; room = b.room_c; ends = inr (b.room_s, b.less) })
              (λ late.
              let d = s - p in
              let a = d / per in
              let e = d % per in
              let parts : a * per + e ≡ d = div-add-mod' d per in
              let e_below : e < per = mod_below d per some in
              ⊎_elim
              (λ none. record {
                at = m - s;
                same = λ t q. ap x (by (s + t ≡ p + t + a * per) (omega arith)) ∙ sym (many_to a (p + t) (omega arith) (omega arith));
                room = omega arith;
                ends = inl (omega arith);
              })
              (λ some_e.
              let b = h.inside e (omega arith) e_below in
              let l = b.at in
              let rs = b.room_s in
              let rc = b.room_c in
              let lift : (t : ℕ) → s + t < m → x (s + t) ≡ x (p + e + t) =
              λ t r. ap x (by (s + t ≡ p + e + t + a * per) (omega arith)) ∙ sym (many_to a (p + e + t) (omega arith) (omega arith)) in
              ⊎_elim
              (λ inner. record {
                at = l;
                same = λ t q. lift t (omega arith) ∙ b.same t q;
                room = omega arith;
                ends = inr (inner, subst (λ v. lt v (x (p + l))) (sym (lift l inner)) b.less);
              })
              (λ outer. record {
                at = m - s;
                same = λ t q. lift t (omega arith) ∙ b.same t (omega arith);
                room = omega arith;
                ends = inl (omega arith);
              })
              (cases_lt (s + l) m))
              (cases_eq e 0))
              (cases_lt s p);
          some = some;
          fits = omega arith;
          periodic = λ i low high. h.periodic i low (omega arith);
          least = λ d pos below period.
              let b = h.inside d pos below in
              let l = b.at in
              let rs = b.room_s in
              let rc = b.room_c in
              let same : x (p + l) ≡ x (p + d + l) = period (p + l) (omega arith) (omega arith) ∙ ap x (omega arith) in
              irrefl _ (subst (lt (x (p + d + l))) same b.less);
        }
