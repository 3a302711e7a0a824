-- How the pieces of a loop are put together.
use Rattle.std.proofs.Common.{◌≡◌, ℕ, ◌+◌, ◌<◌, List, [], ◌∷◌, length, map, Option, Some, None, refl, sym, ap, ◌∙◌, subst, arith, length-append}
use Rattle.std.specs.Prelude.{slice_get}
use Rattle.std.proofs.lemmas.List.{length-set}
use Rattle.lp_instr.specs.declared.instr.Instr.TheVariants.{Jump, LoopTurn, EachNext, Pop}
use Rattle.lp_isa.specs.Translates.{Then, Line, One}
use Rattle.lp_codegen_expr.specs.declared.code.Draft.{Draft}
use Rattle.lp_codegen_expr.specs.declared.code.Draft.TheVariants.{Done, Break, Continue}
use Rattle.lp_codegen_expr.specs.Names.{Plan}
use Rattle.lp_codegen_expr.specs.Drafts.{Sketch, grown, filled, Around, resolved, Form, Adds, line, after}
use Rattle.lp_codegen_expr.proofs.Compose.{adds_then, seq, one_adds, line_adds, adds_below, hole_filled, put_after, slice_get-front, slice_get-seam}
use Rattle.lp_codegen_flow.specs.Led.{leads_to, Led}

-- where a continue leads
abbrev pub again_in : Option ℕ → ℕ → ℕ
again_in None other = other
again_in (Some again) other = again

-- the same around, with other places for breaks and continues
abbrev pub within : Around → ℕ → Option ℕ → Around
within a out again = record a { out = out; again = again_in again a.again }

abbrev pub recoded : Sketch → List Draft → Sketch
recoded d c = record d { code = c }

resolved_led : (o g out : ℕ) (again : Option ℕ) (d : Option Draft) → resolved o g (leads_to out again d) ≡ resolved out (again_in again g) d
resolved_led o g out again None = refl
resolved_led o g out again (Some (Done i)) = refl
resolved_led o g out again (Some Break) = refl
resolved_led o g out None (Some Continue) = refl
resolved_led o g out (Some again) (Some Continue) = refl

-- breaks of what was added become jumps, and continues where a place is given
pub led_adds : {l : Plan} {old cur : Sketch} (F : Form) (from out : ℕ) (again : Option ℕ) (new : List Draft) → from ≡ length old.code → Led from out again cur.code new → Adds l F old cur → Adds l (λ a. F (within a out again)) old (recoded cur new)
led_adds {l} {old} {cur} F from out again new e led w =
    let long = led.as_long in
    record {
      longer = let q = w.longer in omega arith;
      same = λ p h. led.below p (omega arith) (omega (arith, e, h)) ∙ w.same p h;
      more_texts = w.more_texts;
      texts = w.texts;
      more_switches = w.more_switches;
      switches = w.switches;
      named = λ k x y.
          let s = w.named k x y in
          record { place = s.place; behind = s.behind; there = led.led s.place (let q = s.behind in omega (arith, e, q)) ∙ ap (leads_to out again) s.there };
      makes = λ a r.
          subst (λ t. F (within a out again) (length old.code) t) (sym long)
          (w.makes (within a out again) (record {
            lays = r.lays;
            instrs = λ p x y. r.instrs p x (omega (arith, long, y)) ∙ ap (resolved a.out a.again) (led.led p (omega (arith, e, x))) ∙ resolved_led a.out a.again out again (slice_get cur.code p);
            texts = r.texts;
            switches = r.switches;
          }));
    }

-- what a loop is, where breaks lead out of it and continues on: a jump to the test; the turn and the body; what comes
-- between; and the test, which jumps back to the turn
abbrev pub of_loop : Form → Form → (ℕ → Form) → Form
of_loop B Bt T a from to =
    (turn : ℕ) × (again : ℕ) × (test : ℕ) × One a.code (Jump test) from turn × Then (One a.code LoopTurn) (B (within a to (Some again))) turn again × Bt (within a to (Some again)) again test × T turn (within a to (Some again)) test to

pub loop_adds : {l : Plan} {old c1 c2 c3 c4 c5 c7 : Sketch} (B Bt : Form) (T : ℕ → Form) (x : Draft) (start turn again test out : ℕ) (new : List Draft) → start ≡ length old.code → c1 ≡ grown old (x ∷ []) → turn ≡ length c1.code → c2 ≡ grown c1 (Done LoopTurn ∷ []) → Adds l B c2 c3 → again ≡ length c3.code → Adds l Bt c3 c4 → test ≡ length c4.code → c5 ≡ filled c4 start (Done (Jump test)) → Adds l (T turn) c5 c7 → out ≡ length c7.code → Led turn out (Some again) c7.code new → Adds l (of_loop B Bt T) old (recoded c7 new)
loop_adds {l} {old} {c1} {c2} {c3} {c4} {c5} {c7} B Bt T x start turn again test out new es e1 et e2 w3 ea w4 ee e5 w7 eo led =
    let d = Done (Jump test) in
    let n1 : length c1.code ≡ length old.code + 1 = ap (λ s. length s.code) e1 ∙ (omega (arith, length-append old.code (x ∷ []))) in
    let n2 : length c2.code ≡ length c1.code + 1 = ap (λ s. length s.code) e2 ∙ (omega (arith, length-append c1.code (Done LoopTurn ∷ []))) in
    let l3 = w3.longer in
    let lt1 : start < length c1.code = omega arith in
    let lt2 : start < length c2.code = omega arith in
    let lt3 : start < length c3.code = omega arith in
    let C1 = filled c1 start d in
    let C2 = filled c2 start d in
    let C3 = filled c3 start d in
    let C4 = filled c4 start d in
    let m1 : length C1.code ≡ turn = length-set c1.code start d ∙ sym et in
    let m3 : length C3.code ≡ again = length-set c3.code start d ∙ sym ea in
    let m4 : length C4.code ≡ test = length-set c4.code start d ∙ sym ee in
    let v1 : Adds l (line (Jump test ∷ [])) old C1 = one_adds (Jump test) (hole_filled (Jump test) x old c1 start e1 es) in
    let v2 : Adds l (line (LoopTurn ∷ [])) C1 C2 = one_adds LoopTurn (put_after d (Done LoopTurn) c1 c2 start e2 lt1) in
    let v3 : Adds l B C2 C3 = adds_below B c2 c3 start d lt2 w3 in
    let v4 : Adds l Bt C3 C4 = adds_below Bt c3 c4 start d lt3 w4 in
    let v7 : Adds l (T turn) C4 c7 = subst (λ s. Adds l (T turn) s c7) e5 w7 in
    let G1 : Form = λ a from to. Then (One a.code LoopTurn) (B a) from again × Bt a again to in
    let G2 : Form = λ a from to. Then (One a.code LoopTurn) (B a) from again × Bt a again test × T turn a test to in
    let G3 : Form = λ a. G2 (within a out (Some again)) in
    let end = recoded c7 new in
    let g1 : Adds l G1 C1 C4 =
    adds_then l (after (line (LoopTurn ∷ [])) B) Bt G1 C1 C3 C4 (seq v2 v3) v4
    (λ a p q. (subst (λ m. Then (One a.code LoopTurn) (B a) (length C1.code) m) m3 p, subst (λ m. Bt a m (length C4.code)) m3 q)) in
    let g2 : Adds l G2 C1 c7 =
    adds_then l G1 (T turn) G2 C1 C4 c7 g1 v7
    (λ a p q. (p.0, subst (λ m. Bt a again m) m4 p.1, subst (λ m. T turn a m (length c7.code)) m4 q)) in
    let g3 : Adds l G3 C1 end = led_adds G2 turn out (Some again) new (sym m1) led g2 in
    let ends : out ≡ length new = eo ∙ sym led.as_long in
    adds_then l (line (Jump test ∷ [])) G3 (of_loop B Bt T) old C1 end v1 g3
    (λ a p q.
    let whole : G2 (within a (length new) (Some again)) turn (length new) =
    subst (λ t. G2 (within a t (Some again)) turn (length new)) ends (subst (λ m. G2 (within a out (Some again)) m (length new)) m1 q) in
    (turn, again, test, subst (λ m. One a.code (Jump test) (length old.code) m) m1 p, whole.0, whole.1, whole.2))

-- a loop whose body comes before its test
abbrev pub of_do : Form → (ℕ → Form) → Form
of_do B T a from to = (again : ℕ) × Then (One a.code LoopTurn) (B (within a to (Some again))) from again × T from (within a to (Some again)) again to

pub do_adds : {l : Plan} {old c1 c2 c3 : Sketch} (B : Form) (T : ℕ → Form) (turn again out : ℕ) (new : List Draft) → turn ≡ length old.code → c1 ≡ grown old (Done LoopTurn ∷ []) → Adds l B c1 c2 → again ≡ length c2.code → Adds l (T turn) c2 c3 → out ≡ length c3.code → Led turn out (Some again) c3.code new → Adds l (of_do B T) old (recoded c3 new)
do_adds {l} {old} {c1} {c2} {c3} B T turn again out new et e1 w2 ea w3 eo led =
    let v1 : Adds l (line (LoopTurn ∷ [])) old c1 = one_adds LoopTurn e1 in
    let G : Form = λ a from to. Then (One a.code LoopTurn) (B a) from again × T turn a again to in
    let end = recoded c3 new in
    let g1 : Adds l G old c3 =
    adds_then l (after (line (LoopTurn ∷ [])) B) (T turn) G old c2 c3 (seq v1 w2) w3
    (λ a p q. (subst (λ m. Then (One a.code LoopTurn) (B a) (length old.code) m) (sym ea) p, subst (λ m. T turn a m (length c3.code)) (sym ea) q)) in
    let g2 : Adds l (λ a. G (within a out (Some again))) old end = led_adds G turn out (Some again) new et led g1 in
    let ends : out ≡ length new = eo ∙ sym led.as_long in
    record {
      longer = g2.longer;
      same = g2.same;
      more_texts = g2.more_texts;
      texts = g2.texts;
      more_switches = g2.more_switches;
      switches = g2.switches;
      named = g2.named;
      makes = λ a r.
          let h : G (within a (length new) (Some again)) (length old.code) (length new) = subst (λ t. G (within a t (Some again)) (length old.code) (length new)) ends (g2.makes a r) in
          (again, h.0, subst (λ t. T t (within a (length new) (Some again)) again (length new)) et h.1);
    }

-- a loop over a copy
abbrev pub of_copy : Form → Form → ℕ → Form
of_copy K B count a from to =
    (turn : ℕ) × (next : ℕ) × (leave : ℕ) × One a.code (Jump next) from turn × Then (One a.code LoopTurn) (Then (K (within a leave (Some next))) (B (within a leave (Some next)))) turn next × Line a.code (EachNext turn count ∷ Jump to ∷ []) next leave × Line a.code (Pop ∷ Pop ∷ []) leave to

pub copy_adds : {l : Plan} {old c1 c2 c3 c4 c5 c6 : Sketch} (K B : Form) (x : Draft) (start turn next leave end count : ℕ) (new : List Draft) → start ≡ length old.code → c1 ≡ grown old (x ∷ []) → turn ≡ length c1.code → c2 ≡ grown c1 (Done LoopTurn ∷ []) → Adds l K c2 c3 → Adds l B c3 c4 → next ≡ length c4.code → leave ≡ next + 2 → end ≡ next + 4 → c5 ≡ filled c4 start (Done (Jump next)) → c6 ≡ grown c5 (map Done (EachNext turn count ∷ Jump end ∷ Pop ∷ Pop ∷ [])) → Led turn leave (Some next) c6.code new → Adds l (of_copy K B count) old (recoded c6 new)
copy_adds {l} {old} {c1} {c2} {c3} {c4} {c5} {c6} K B x start turn next leave end count new es e1 et e2 w3 w4 en el ee e5 e6 led =
    let d = Done (Jump next) in
    let is = EachNext turn count ∷ Jump end ∷ Pop ∷ Pop ∷ [] in
    let n1 : length c1.code ≡ length old.code + 1 = ap (λ s. length s.code) e1 ∙ (omega (arith, length-append old.code (x ∷ []))) in
    let n2 : length c2.code ≡ length c1.code + 1 = ap (λ s. length s.code) e2 ∙ (omega (arith, length-append c1.code (Done LoopTurn ∷ []))) in
    let l3 = w3.longer in
    let lt1 : start < length c1.code = omega arith in
    let lt2 : start < length c2.code = omega arith in
    let lt3 : start < length c3.code = omega arith in
    let C1 = filled c1 start d in
    let C2 = filled c2 start d in
    let C3 = filled c3 start d in
    let C4 = filled c4 start d in
    let m1 : length C1.code ≡ turn = length-set c1.code start d ∙ sym et in
    let m4 : length C4.code ≡ next = length-set c4.code start d ∙ sym en in
    let v1 : Adds l (line (Jump next ∷ [])) old C1 = one_adds (Jump next) (hole_filled (Jump next) x old c1 start e1 es) in
    let v2 : Adds l (line (LoopTurn ∷ [])) C1 C2 = one_adds LoopTurn (put_after d (Done LoopTurn) c1 c2 start e2 lt1) in
    let v3 : Adds l K C2 C3 = adds_below K c2 c3 start d lt2 w3 in
    let v4 : Adds l B C3 C4 = adds_below B c3 c4 start d lt3 w4 in
    let v6 : Adds l (line is) C4 c6 = subst (λ s. Adds l (line is) s c6) e5 (line_adds is e6) in
    let G : Form = λ a from to. Then (One a.code LoopTurn) (Then (K a) (B a)) from next × Line a.code is next to in
    let G3 : Form = λ a. G (within a leave (Some next)) in
    let last = recoded c6 new in
    let g1 : Adds l G C1 c6 =
    adds_then l (after (line (LoopTurn ∷ [])) (after K B)) (line is) G C1 C4 c6 (seq v2 (seq v3 v4)) v6
    (λ a p q. (subst (λ m. Then (One a.code LoopTurn) (Then (K a) (B a)) (length C1.code) m) m4 p, subst (λ m. Line a.code is m (length c6.code)) m4 q)) in
    let g3 : Adds l G3 C1 last = led_adds G turn leave (Some next) new (sym m1) led g1 in
    adds_then l (line (Jump next ∷ [])) G3 (of_copy K B count) old C1 last v1 g3
    (λ a p q.
    let g = q.1 in
    let stop = g.1.1.1.1 in
    let ends : length new ≡ end = omega (arith, ee, stop) in
    let place : leave ≡ next + 1 + 1 = omega (arith, el) in (
      turn,
      next,
      leave,
      subst (λ m. One a.code (Jump next) (length old.code) m) m1 p,
      subst (λ m. Then (One a.code LoopTurn) (Then (K (within a leave (Some next))) (B (within a leave (Some next)))) m next) m1 q.0,
      (g.0, (subst (λ t. slice_get a.code.instrs (next + 1) ≡ Some (Jump t)) (sym ends) g.1.0, place)),
      subst (λ t. Line a.code (Pop ∷ Pop ∷ []) t (length new)) (sym place) (g.1.1.0, (g.1.1.1.0, stop)),
    ))

-- one draft
pub open_adds : {l : Plan} {old new : Sketch} (x : Draft) (F : Form) → new ≡ grown old (x ∷ []) → ((a : Around) (from : ℕ) → slice_get a.code.instrs from ≡ resolved a.out a.again (Some x) → F a from (from + 1)) → Adds l F old new
open_adds {l} {old} {new} x F e f =
    let n : length new.code ≡ length old.code + 1 = ap (λ d. length d.code) e ∙ (omega (arith, length-append old.code (x ∷ []))) in
    let m : length new.texts ≡ length old.texts = ap (λ d. length d.texts) e in
    let o : length new.switches ≡ length old.switches = ap (λ d. length d.switches) e in
    record {
      longer = omega arith;
      same = λ p h. ap (λ d. slice_get d.code p) e ∙ slice_get-front old.code (x ∷ []) p h;
      more_texts = omega arith;
      texts = λ k h. ap (λ d. slice_get d.texts k) e;
      more_switches = omega arith;
      switches = λ k h. ap (λ d. slice_get d.switches k) e;
      named = λ k x y. absurd (omega (arith, x, y, o));
      makes = λ a r. subst (λ t. F a (length old.code) t) (sym n) (f a (length old.code) (r.instrs (length old.code) (omega arith) (omega arith) ∙ ap (λ d. resolved a.out a.again (slice_get d.code (length old.code))) e ∙ ap (resolved a.out a.again) (slice_get-seam old.code [] x)));
    }

pub break_adds : {l : Plan} {old new : Sketch} → new ≡ grown old (Break ∷ []) → Adds l (λ a from to. One a.code (Jump a.out) from to) old new
break_adds e = open_adds Break (λ a from to. One a.code (Jump a.out) from to) e (λ a from h. (h, refl))

pub continue_adds : {l : Plan} {old new : Sketch} → new ≡ grown old (Continue ∷ []) → Adds l (λ a from to. One a.code (Jump a.again) from to) old new
continue_adds e = open_adds Continue (λ a from to. One a.code (Jump a.again) from to) e (λ a from h. (h, refl))
