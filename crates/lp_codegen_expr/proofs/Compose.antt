-- How pieces of code under construction are put together, and how a jump is filled in.
use Rattle.std.proofs.Common.{◌≡◌, ℕ, zero, suc, ◌+◌, ◌<◌, ◌≤◌, ◌≢◌, List, [], ◌∷◌, ◌++◌, length, Some, refl, sym, ap, ◌∙◌, subst, ⊎_elim, arith, length-append, append_assoc, map}
use Rattle.std.specs.Prelude.{slice_get, slice_set}
use Rattle.std.proofs.lemmas.List.{length-set, append-nil}
use Rattle.std.proofs.lemmas.Bool.{cases_lt}
use Rattle.std.proofs.lemmas.Option.{slice_get_within}
use Rattle.lp_instr.specs.declared.instr.Instr.{Instr}
use Rattle.lp_instr.specs.declared.instr.Instr.TheVariants.{Switch}
use Rattle.lp_isa.specs.Translates.{Line, Then}
use Rattle.lp_codegen_expr.specs.declared.code.Draft.{Draft}
use Rattle.lp_codegen_expr.specs.declared.code.Draft.TheVariants.{Done}
use Rattle.lp_codegen_expr.specs.Names.{Plan, Lays}
use Rattle.lp_codegen_expr.specs.Drafts.{Sketch, grown, filled, HasText, Around, resolved, Form, Adds, NamesSwitch, line, after}

pub slice_get-front : {A : Type 0} (a b : List A) (p : ℕ) → p < length a → slice_get (a ++ b) p ≡ slice_get a p
slice_get-front [] b p h = absurd (omega arith)
slice_get-front (x ∷ a) b zero h = refl
slice_get-front (x ∷ a) b (suc p) h = slice_get-front a b p (omega arith)

pub slice_get-seam : {A : Type 0} (a b : List A) (x : A) → slice_get (a ++ x ∷ b) (length a) ≡ Some x
slice_get-seam [] b x = refl
slice_get-seam (y ∷ a) b x = slice_get-seam a b x

pub slice_get-set : {A : Type 0} (a : List A) (h p : ℕ) (d : A) → p ≢ h → slice_get (slice_set a h d) p ≡ slice_get a p
slice_get-set [] h p d ne = refl
slice_get-set (x ∷ a) zero zero d ne = absurd (ne refl)
slice_get-set (x ∷ a) zero (suc p) d ne = refl
slice_get-set (x ∷ a) (suc h) zero d ne = refl
slice_get-set (x ∷ a) (suc h) (suc p) d ne = slice_get-set a h p d (λ e. ne (ap suc e))

pub slice_get-set_same : {A : Type 0} (a : List A) (h : ℕ) (d : A) → h < length a → slice_get (slice_set a h d) h ≡ Some d
slice_get-set_same [] h d lt = absurd (omega arith)
slice_get-set_same (x ∷ a) zero d lt = refl
slice_get-set_same (x ∷ a) (suc h) d lt = slice_get-set_same a h d (omega arith)

pub set-front : {A : Type 0} (a b : List A) (h : ℕ) (d : A) → h < length a → slice_set (a ++ b) h d ≡ slice_set a h d ++ b
set-front [] b h d lt = absurd (omega arith)
set-front (x ∷ a) b zero d lt = refl
set-front (x ∷ a) b (suc h) d lt = ap (λ l. x ∷ l) (set-front a b h d (omega arith))

pub set-seam : {A : Type 0} (a : List A) (x d : A) → slice_set (a ++ x ∷ []) (length a) d ≡ a ++ d ∷ []
set-seam [] x d = refl
set-seam (y ∷ a) x d = ap (λ l. y ∷ l) (set-seam a x d)

-- what was there stays, and so does what it names
pub names_still : {c d : List Draft} {from k n : ℕ} → ((p : ℕ) → p < length c → slice_get d p ≡ slice_get c p) → n ≤ from → NamesSwitch c from k → NamesSwitch d n k
names_still {c} {d} {from} {k} {n} same l s =
    let a = s.behind in
    record { place = s.place; behind = omega (arith, a, l); there = same s.place (slice_get_within c s.place (Done (Switch k)) s.there) ∙ s.there }

pub names_from : {c : List Draft} {from k n : ℕ} → n ≤ from → NamesSwitch c from k → NamesSwitch c n k
names_from {c} {from} {k} {n} l s = let a = s.behind in record { place = s.place; behind = omega (arith, a, l); there = s.there }

-- one piece after another
pub adds_then : (l : Plan) (P Q R : Form) (old mid new : Sketch) → Adds l P old mid → Adds l Q mid new → ((a : Around) → P a (length old.code) (length mid.code) → Q a (length mid.code) (length new.code) → R a (length old.code) (length new.code)) → Adds l R old new
adds_then l P Q R old mid new v w f = record {
  longer = let a = v.longer in let b = w.longer in omega arith;
  same = λ p h. w.same p (let c = v.longer in omega arith) ∙ v.same p h;
  more_texts = let a = v.more_texts in let b = w.more_texts in omega arith;
  texts = λ k h. w.texts k (let c = v.more_texts in omega arith) ∙ v.texts k h;
  more_switches = let a = v.more_switches in let b = w.more_switches in omega arith;
  switches = λ k h. w.switches k (let c = v.more_switches in omega arith) ∙ v.switches k h;
  named = λ k x y. ⊎_elim
      (λ (q : k < length mid.switches). names_still w.same (omega arith) (v.named k x q))
      (λ (q : length mid.switches ≤ k). names_from v.longer (w.named k q y))
      (cases_lt k (length mid.switches));
  makes = λ a r.
      f a
      (v.makes a (record {
        lays = r.lays;
        instrs = λ p x y. r.instrs p x (let c = w.longer in omega arith) ∙ ap (resolved a.out a.again) (w.same p y);
        texts = λ k h. r.texts k (let c = w.more_texts in omega arith) ∙ w.texts k h;
        switches = λ k h. r.switches k (let c = w.more_switches in omega arith) ∙ w.switches k h;
      }))
      (w.makes a (record {
        lays = r.lays;
        instrs = λ p x y. r.instrs p (let c = v.longer in omega arith) y;
        texts = r.texts;
        switches = r.switches;
      }));
}

pub seq : {l : Plan} {F G : Form} {old mid new : Sketch} → Adds l F old mid → Adds l G mid new → Adds l (after F G) old new
seq {l} {F} {G} {old} {mid} {new} v w = adds_then l F G (after F G) old mid new v w (λ a p q. (length mid.code, p, q))

-- the same form, in other words
pub reform : {l : Plan} {old new : Sketch} (F G : Form) → ((a : Around) (from to : ℕ) → F a from to → G a from to) → Adds l F old new → Adds l G old new
reform {l} {old} {new} F G f w = record {
  longer = w.longer;
  same = w.same;
  more_texts = w.more_texts;
  texts = w.texts;
  more_switches = w.more_switches;
  switches = w.switches;
  named = w.named;
  makes = λ a r. f a (length old.code) (length new.code) (w.makes a r);
}

-- the same, by what the layout says
pub by_layout : {l : Plan} {old new : Sketch} (F G : Form) → ((a : Around) → Lays l a.heritage a.code → (from to : ℕ) → F a from to → G a from to) → Adds l F old new → Adds l G old new
by_layout {l} {old} {new} F G f w = record {
  longer = w.longer;
  same = w.same;
  more_texts = w.more_texts;
  texts = w.texts;
  more_switches = w.more_switches;
  switches = w.switches;
  named = w.named;
  makes = λ a r. f a r.lays (length old.code) (length new.code) (w.makes a r);
}

-- nothing
pub line_none : (l : Plan) (old : Sketch) → Adds l (line []) old old
line_none l old = record {
  longer = omega arith;
  same = λ p h. refl;
  more_texts = omega arith;
  texts = λ k h. refl;
  more_switches = omega arith;
  switches = λ k h. refl;
  named = λ k x y. absurd (omega (arith, x, y));
  makes = λ a r. refl;
}

-- one instruction
pub one_adds : {l : Plan} {old new : Sketch} (i : Instr) → new ≡ grown old (Done i ∷ []) → Adds l (line (i ∷ [])) old new
one_adds {l} {old} {new} i e =
    let n : length new.code ≡ length old.code + 1 = ap (λ d. length d.code) e ∙ (omega (arith, length-append old.code (Done i ∷ []))) in
    let m : length new.texts ≡ length old.texts = ap (λ d. length d.texts) e in
    let o : length new.switches ≡ length old.switches = ap (λ d. length d.switches) e in
    record {
      longer = omega arith;
      same = λ p h. ap (λ d. slice_get d.code p) e ∙ slice_get-front old.code (Done i ∷ []) p h;
      more_texts = omega arith;
      texts = λ k h. ap (λ d. slice_get d.texts k) e;
      more_switches = omega arith;
      switches = λ k h. ap (λ d. slice_get d.switches k) e;
      named = λ k x y. absurd (omega (arith, x, y, o));
      makes = λ a r. (r.instrs (length old.code) (omega arith) (omega arith) ∙ ap (λ d. resolved a.out a.again (slice_get d.code (length old.code))) e ∙ ap (resolved a.out a.again) (slice_get-seam old.code [] (Done i)), n);
    }

-- several instructions
pub line_adds : {l : Plan} {old new : Sketch} (is : List Instr) → new ≡ grown old (map Done is) → Adds l (line is) old new
line_adds {l} {old} {new} [] e =
    subst (Adds l (line []) old) (ap (λ c. record old { code = c }) (sym (append-nil old.code)) ∙ sym e) (line_none l old)
line_adds {l} {old} {new} (i ∷ is) e =
    let mid = grown old (Done i ∷ []) in
    let first : Adds l (line (i ∷ [])) old mid = one_adds i refl in
    let rest : Adds l (line is) mid new = line_adds is (e ∙ ap (λ c. record old { code = c }) (sym (append_assoc old.code (Done i ∷ []) (map Done is)))) in
    adds_then l (line (i ∷ [])) (line is) (line (i ∷ is)) old mid new first rest (λ a p q. (p.0, subst (λ m. Line a.code is m (length new.code)) p.1 q))

-- what is added stays where something before it is filled in
pub adds_below : {l : Plan} (P : Form) (old new : Sketch) (h : ℕ) (d : Draft) → h < length old.code → Adds l P old new → Adds l P (filled old h d) (filled new h d)
adds_below {l} P old new h d lt w =
    let a = length-set old.code h d in
    let b = length-set new.code h d in
    record {
      longer = let c = w.longer in omega arith;
      same = same;
      more_texts = w.more_texts;
      texts = w.texts;
      more_switches = w.more_switches;
      switches = w.switches;
      named = λ k x y.
          let s = w.named k x y in
          let q = s.behind in
          let ne : s.place ≢ h = omega (arith, q, lt) in
          record { place = s.place; behind = omega (arith, q, a); there = slice_get-set new.code h s.place d ne ∙ s.there };
      makes = λ c r.
          subst (λ n. P c n (length (slice_set new.code h d))) (sym a) (subst (λ n. P c (length old.code) n) (sym b)
          (w.makes c (record {
            lays = r.lays;
            instrs = λ p x y. r.instrs p (omega arith) (omega arith) ∙ ap (resolved c.out c.again) (slice_get-set new.code h p d (let g : p ≢ h = omega arith in g));
            texts = r.texts;
            switches = r.switches;
          })));
    }
  where
    same : (p : ℕ) → p < length (slice_set old.code h d) → slice_get (slice_set new.code h d) p ≡ slice_get (slice_set old.code h d) p
    same p y =
        let gone : (p ≢ h) → slice_get (slice_set new.code h d) p ≡ slice_get (slice_set old.code h d) p = λ ne. slice_get-set new.code h p d ne ∙ w.same p (omega (arith, length-set old.code h d)) ∙ sym (slice_get-set old.code h p d ne) in
        ⊎_elim
        (λ (l : p < h). gone (let g : p ≢ h = omega arith in g))
        (λ (l : h ≤ p). ⊎_elim
        (λ (m : h < p). gone (let g : p ≢ h = omega arith in g))
        (λ (m : p ≤ h). let e : p ≡ h = omega arith in
        ap (λ q. slice_get (slice_set new.code h d) q) e ∙ slice_get-set_same new.code h d (let c = w.longer in omega arith) ∙ sym (slice_get-set_same old.code h d lt) ∙ ap (λ q. slice_get (slice_set old.code h d) q) (sym e))
        (cases_lt h p))
        (cases_lt p h)

-- a place that was kept for an instruction is filled in
pub hole_filled : (i : Instr) (x : Draft) (old new : Sketch) (h : ℕ) → new ≡ grown old (x ∷ []) → h ≡ length old.code → filled new h (Done i) ≡ grown old (Done i ∷ [])
hole_filled i x old new h e m =
    ap (λ d. filled d h (Done i)) e ∙ ap (λ n. filled (grown old (x ∷ [])) n (Done i)) m ∙ ap (λ c. record old { code = c }) (set-seam old.code x (Done i))

-- what is put after a place that is filled in
pub put_after : (i : Draft) (x : Draft) (old new : Sketch) (h : ℕ) → new ≡ grown old (x ∷ []) → h < length old.code → filled new h i ≡ grown (filled old h i) (x ∷ [])
put_after i x old new h e lt = ap (λ d. filled d h i) e ∙ ap (λ c. record old { code = c }) (set-front old.code (x ∷ []) h i lt)

-- A jump that is filled in later, with the place where all ends: one instruction, and a piece.
pub skip : {l : Plan} {c1 c2 c3 new : Sketch} (G : Form) (i : ℕ → Instr) (x : Draft) (h n : ℕ) → h ≡ length c1.code → c2 ≡ grown c1 (x ∷ []) → Adds l G c2 c3 → n ≡ length c3.code → new ≡ filled c3 h (Done (i n)) → Adds l (λ a from to. Then (Line a.code (i to ∷ [])) (G a) from to) c1 new
skip {l} {c1} {c2} {c3} {new} G i x h n m e w k f =
    let lt : h < length c2.code = (let q = ap (λ d. length d.code) e in omega (arith, length-append c1.code (x ∷ []))) in
    let d = Done (i n) in
    let c2' = filled c2 h d in
    let c3' = filled c3 h d in
    let to : n ≡ length c3'.code = k ∙ sym (length-set c3.code h d) in
    let whole = adds_then l (line (i n ∷ [])) G (λ a from to. Then (Line a.code (i to ∷ [])) (G a) from to) c1 c2' c3' (one_adds (i n) (hole_filled (i n) x c1 c2 h e m)) (adds_below G c2 c3 h d lt w)
    (λ a p q. (length c2'.code, subst (λ t. Line a.code (i t ∷ []) (length c1.code) (length c2'.code)) to p, q)) in
    subst (λ s. Adds l (λ a from to. Then (Line a.code (i to ∷ [])) (G a) from to) c1 s) (sym f) whole

-- a choice
pub choice : {l : Plan} {old c1 c2 c3 c4 c5 c6 new : Sketch} (A B C : Form) (i j : ℕ → Instr) (x y : Draft) (h k n m : ℕ) → Adds l A old c1 → h ≡ length c1.code → c2 ≡ grown c1 (x ∷ []) → Adds l B c2 c3 → k ≡ length c3.code → c4 ≡ grown c3 (y ∷ []) → n ≡ length c4.code → c5 ≡ filled c4 h (Done (i n)) → Adds l C c5 c6 → m ≡ length c6.code → new ≡ filled c6 k (Done (j m)) → Adds l (λ a from to. (other : ℕ) × Then (A a) (Then (Line a.code (i other ∷ [])) (Then (B a) (Line a.code (j to ∷ [])))) from other × C a other to) old new
choice {l} {old} {c1} {c2} {c3} {c4} {c5} {c6} {new} A B C i j x y h k n m wa eh e2 wb ek e4 en e5 wc em ew =
    let n2 : length c2.code ≡ length c1.code + 1 = ap (λ s. length s.code) e2 ∙ (omega (arith, length-append c1.code (x ∷ []))) in
    let n4 : length c4.code ≡ length c3.code + 1 = ap (λ s. length s.code) e4 ∙ (omega (arith, length-append c3.code (y ∷ []))) in
    let lb = wb.longer in
    let d = Done (i n) in
    let D = Done (j m) in
    let c4' = filled c4 h d in
    let mid = filled c4' k D in
    let end = filled c6 k D in
    let lt2 : h < length c2.code = omega arith in
    let lt3 : h < length c3.code = omega arith in
    let k3 : k ≡ length (slice_set c3.code h d) = ek ∙ sym (length-set c3.code h d) in
    let lt4 : k < length (slice_set c4.code h d) = omega (arith, length-set c4.code h d) in
    let first = one_adds (i n) (hole_filled (i n) x c1 c2 h e2 eh) in
    let second = adds_below B c2 c3 h d lt2 wb in
    let put = put_after d y c3 c4 h e4 lt3 in
    let third = one_adds (j m) (hole_filled (j m) y (filled c3 h d) c4' k put k3) in
    let wc' = subst (λ s. Adds l C s c6) e5 wc in
    let fourth = adds_below C c4' c6 k D lt4 wc' in
    let whole = seq wa (seq first (seq second third)) in
    let F : ℕ → ℕ → Form = λ other to. after A (after (line (i other ∷ [])) (after B (line (j to ∷ [])))) in
    let G : Form = λ a from to. (other : ℕ) × Then (A a) (Then (Line a.code (i other ∷ [])) (Then (B a) (Line a.code (j to ∷ [])))) from other × C a other to in
    let en' : n ≡ length mid.code = en ∙ sym (length-set c4.code h d) ∙ sym (length-set c4'.code k D) in
    let em' : m ≡ length end.code = em ∙ sym (length-set c6.code k D) in
    let done : Adds l G old end =
    adds_then l (after A (after (line (i n ∷ [])) (after B (line (j m ∷ []))))) C G old mid end whole fourth
    (λ a p q. (length mid.code, subst (λ o. F o (length end.code) a (length old.code) (length mid.code)) en' (subst (λ t. F n t a (length old.code) (length mid.code)) em' p), q)) in
    subst (λ s. Adds l G old s) (sym ew) done

-- one instruction, whose operand has another name
pub one_at : {l : Plan} {old new : Sketch} {A : Type 0} (i : A → Instr) {k n : A} → k ≡ n → new ≡ grown old (Done (i k) ∷ []) → Adds l (line (i n ∷ [])) old new
one_at {l} {old} {new} {A} i {k} {n} e f = one_adds (i n) (f ∙ ap (λ m. grown old (Done (i m) ∷ [])) e)

-- an instruction with the number of a text
pub with_text : {l : Plan} {old mid new : Sketch} (i : ℕ → Instr) (t : List ℕ) (k : ℕ) → HasText k t old mid → new ≡ grown mid (Done (i k) ∷ []) → Adds l (λ a from to. (k : ℕ) × (slice_get a.code.texts k ≡ Some t) × Line a.code (i k ∷ []) from to) old new
with_text {l} {old} {mid} {new} i t k h e =
    let K : Form = λ a from to. (slice_get a.code.texts k ≡ Some t) × (to ≡ from) in
    let n : length mid.code ≡ length old.code = ap length h.code in
    let kept : Adds l K old mid = record {
      longer = omega arith;
      same = λ p x. ap (λ c. slice_get c p) h.code;
      more_texts = h.texts.longer;
      texts = h.texts.kept;
      more_switches = let q = ap length h.switches in omega arith;
      switches = λ p x. ap (λ c. slice_get c p) h.switches;
      named = λ j x y. absurd (let q = ap length h.switches in omega (arith, x, y, q));
      makes = λ a r. (r.texts k h.texts.within ∙ h.texts.there, n);
    } in
    adds_then l K (line (i k ∷ [])) (λ a from to. (k : ℕ) × (slice_get a.code.texts k ≡ Some t) × Line a.code (i k ∷ []) from to) old mid new kept (one_adds (i k) e)
    (λ a p q. (k, p.0, subst (λ m. Line a.code (i k ∷ []) m (length new.code)) p.1 q))

-- with two operands, or three
pub one_two : {l : Plan} {old new : Sketch} {A : Type 0} (i : A → A → Instr) {j k m n : A} → j ≡ k → m ≡ n → new ≡ grown old (Done (i j m) ∷ []) → Adds l (line (i k n ∷ [])) old new
one_two {l} {old} {new} {A} i {j} {k} {m} {n} d e f = one_adds (i k n) (f ∙ ap (λ x. grown old (Done (i x m) ∷ [])) d ∙ ap (λ x. grown old (Done (i k x) ∷ [])) e)

pub one_three : {l : Plan} {old new : Sketch} (i : ℕ → ℕ → ℕ → Instr) {h g j k m n : ℕ} → h ≡ g → j ≡ k → m ≡ n → new ≡ grown old (Done (i h j m) ∷ []) → Adds l (line (i g k n ∷ [])) old new
one_three {l} {old} {new} i {h} {g} {j} {k} {m} {n} c d e f =
    one_adds (i g k n) (f ∙ ap (λ x. grown old (Done (i x j m) ∷ [])) c ∙ ap (λ x. grown old (Done (i g x m) ∷ [])) d ∙ ap (λ x. grown old (Done (i g k x) ∷ [])) e)

pub with_text_n : {l : Plan} {old mid new : Sketch} (i : ℕ → ℕ → Instr) (t : List ℕ) (k : ℕ) {m n : ℕ} → m ≡ n → HasText k t old mid → new ≡ grown mid (Done (i k m) ∷ []) → Adds l (λ a from to. (k : ℕ) × (slice_get a.code.texts k ≡ Some t) × Line a.code (i k n ∷ []) from to) old new
with_text_n {l} {old} {mid} {new} i t k {m} {n} e h f = with_text (λ k. i k n) t k h (f ∙ ap (λ x. grown mid (Done (i k x) ∷ [])) e)

-- what fills in, by another name
pub fill_as : {new : Sketch} (s : Sketch) (h : ℕ) {i j : Instr} → new ≡ filled s h (Done i) → i ≡ j → new ≡ filled s h (Done j)
fill_as {new} s h {i} {j} e f = e ∙ ap (λ x. filled s h (Done x)) f
