-- Sound code is sound with a low stack.
use Rattle.std.proofs.Common.{◌≡◌, ℕ, ◌+◌, ◌-◌, ◌*◌, ◌≤◌, ◌<◌, Bool, true, false, ◌&&◌, cond, List, [], ◌∷◌, Option, Some, None, refl, ap, ◌∙◌, subst, arith}
use Rattle.std.specs.Prelude.{slice_get, nat_lt, ⊤}
use Rattle.std.proofs.lemmas.Bool.{and_from, lt-ltb, ltb-true}
use Rattle.lp_instr.specs.declared.instr.Instr.{Instr}
use Rattle.lp_instr.specs.declared.instr.Instr.TheVariants.{PushInt, PushText, PushLocal, SetLocal, PushGlobal, SetGlobal, Pop, Dup, Dup2, Unary, Binary, Step, Rotate, Index, SetIndex, Range, MakeArray, MakeMap, Jump, JumpIfZero, JumpIfNotZero, KeepIfZero, KeepIfNotZero, LoopTurn, CallSlot, CallFixed, CallOther, CallEfun, CallSimul, Scan, CatchBegin, CatchEnd, Switch, EachBegin, EachNext, Return, ReturnZero}
use Rattle.lp_instr.specs.declared.instr.Case.{Case}
use Rattle.lp_instr.specs.Code.{Code, Catching, Table}
use Rattle.lp_instr.specs.Sound.{Shape, Shapes, shape, By, CatchLeads, LeadsTo, Flows, CasesLead, TableLeads, Closes, IsFine, end_count}
use Rattle.lp_sound_laws.specs.Heights.{SoundCodeIsLow, gain}
use Rattle.lp_sound_laws.proofs.Counting.{free_height}

-- what is caught goes on below a height
abbrev AreBelow : ℕ → List Catching → Type 0
AreBelow t [] = ⊤
AreBelow t (c ∷ cs) = (c.height + 1 < t) × AreBelow t cs

abbrev are_below : ℕ → List Catching → Bool
are_below t [] = true
are_below t (c ∷ cs) = nat_lt (c.height + 1) t && are_below t cs

-- so is what is reached, and what is caught there
pub record IsBelow (t : ℕ) (sh : Shape) : Type 0 where
  pub height : sh.height < t
  pub catches : AreBelow t sh.catches

abbrev is_below : ℕ → Shape → Bool
is_below t sh = nat_lt sh.height t && are_below t sh.catches

abbrev kept : ℕ → Option Shape → Option Shape
kept t None = None
kept t (Some sh) = cond (is_below t sh) (Some sh) None

both_true : (a b : Bool) → (a && b) ≡ true → (a ≡ true) × (b ≡ true)
both_true true true e = (refl, refl)
both_true true false e = absurd cc
both_true false b e = absurd cc

catches_said : (t : ℕ) (cs : List Catching) → AreBelow t cs → are_below t cs ≡ true
catches_said t [] h = refl
catches_said t (c ∷ cs) h = and_from (nat_lt (c.height + 1) t) (are_below t cs) (lt-ltb (c.height + 1) t h.0) (catches_said t cs h.1)

catches_are : (t : ℕ) (cs : List Catching) → are_below t cs ≡ true → AreBelow t cs
catches_are t [] h = tt
catches_are t (c ∷ cs) h = let q = both_true (nat_lt (c.height + 1) t) (are_below t cs) h in (ltb-true (c.height + 1) t q.0, catches_are t cs q.1)

stays : (t : ℕ) (o : Option Shape) (sh : Shape) → o ≡ Some sh → IsBelow t sh → kept t o ≡ Some sh
stays t o sh e h =
    ap (kept t) e ∙ ap (λ b. cond b (Some sh) None) (and_from (nat_lt sh.height t) (are_below t sh.catches) (lt-ltb sh.height t h.height) (catches_said t sh.catches h.catches))

pub record Stayed (t : ℕ) (o : Option Shape) (sh : Shape) : Type 0 where
  pub was : o ≡ Some sh
  pub below : IsBelow t sh

stayed : (t : ℕ) (o : Option Shape) (sh : Shape) → kept t o ≡ Some sh → Stayed t o sh
stayed t None sh e = absurd cc
stayed t (Some x) sh e = go (is_below t x) refl e
  where
    go : (b : Bool) → is_below t x ≡ b → cond b (Some x) None ≡ Some sh → Stayed t (Some x) sh
    go true f g =
        let q = both_true (nat_lt x.height t) (are_below t x.catches) f in
        let same : x ≡ sh = cc in
        record { was = g; below = subst (IsBelow t) same (record { height = ltb-true x.height t q.0; catches = catches_are t x.catches q.1 }) }
    go false f g = absurd cc

module _ (code : Code) (parents : List (List (List ℕ))) (T U : ℕ → Shape → Type 0) (t : ℕ) (F : (q : ℕ) (sh : Shape) → T q sh → IsBelow t sh → U q sh) where
  abbrev other : Code
  other = record code { parents = parents }

  leads : {p q : ℕ} {sh : Shape} → LeadsTo code T p q sh → IsBelow t sh → LeadsTo other U p q sh
  leads {p} {q} {sh} l h = record { reached = F q sh l.reached h; turns = l.turns }

  flows : (n k g p : ℕ) (sh : Shape) → Flows code T n k p sh → sh.height + g < t → AreBelow t sh.catches → k ≤ n + g → Flows other U n k p sh
  flows n k g p sh f l c less =
      let enough = f.takes.enough in
      record { takes = record { enough = enough; above = f.takes.above }; leads = leads f.leads (record { height = omega (arith, enough, l, less); catches = c }) }

  cases_lead : (p : ℕ) (sh : Shape) (ks : List Case) → CasesLead code T p sh ks → IsBelow t sh → CasesLead other U p sh ks
  cases_lead p sh [] h b = tt
  cases_lead p sh (k ∷ ks) h b = (leads h.0 b, cases_lead p sh ks h.1 b)

  table_leads : (p : ℕ) (sh : Shape) (o : Option Table) → TableLeads code T p sh o → IsBelow t sh → TableLeads other U p sh o
  table_leads p sh None h b = absurd h
  table_leads p sh (Some x) h b = (cases_lead p sh x.cases h.0 b, leads h.1 b)

  closes : (p : ℕ) (sh : Shape) (cs : List Catching) → Closes code T p sh cs → sh.height < t → AreBelow t cs → Closes other U p sh cs
  closes p sh [] h l c = absurd h
  closes p sh (x ∷ cs) h l c = leads h (record { height = l; catches = c.1 })

  catch_leads : (cs : List Catching) → CatchLeads T cs → AreBelow t cs → CatchLeads U cs
  catch_leads [] h c = tt
  catch_leads (x ∷ cs) h c = F x.place (shape (x.height + 1) cs) h (record { height = c.0; catches = c.1 })

  fine : (i : Instr) (p : ℕ) (sh : Shape) → IsFine code T i p sh → IsBelow t sh → sh.height + gain i < t → IsFine other U i p sh
  fine (PushInt z) p sh h b l = flows 0 1 1 p sh h l b.catches (omega arith)
  fine (PushText k) p sh h b l = flows 0 1 1 p sh h l b.catches (omega arith)
  fine (PushLocal k) p sh h b l = flows 0 1 1 p sh h l b.catches (omega arith)
  fine (SetLocal k) p sh h b l = flows 1 1 0 p sh h l b.catches (omega arith)
  fine (PushGlobal k) p sh h b l = flows 0 1 1 p sh h l b.catches (omega arith)
  fine (SetGlobal k) p sh h b l = flows 1 1 0 p sh h l b.catches (omega arith)
  fine Pop p sh h b l = flows 1 0 0 p sh h l b.catches (omega arith)
  fine Dup p sh h b l = flows 1 2 1 p sh h l b.catches (omega arith)
  fine Dup2 p sh h b l = flows 2 4 2 p sh h l b.catches (omega arith)
  fine (Unary op) p sh h b l = flows 1 1 0 p sh h l b.catches (omega arith)
  fine (Binary op) p sh h b l = flows 2 1 0 p sh h l b.catches (omega arith)
  fine (Step op) p sh h b l = flows 1 1 0 p sh h l b.catches (omega arith)
  fine (Rotate n) p sh h b l = flows n n 0 p sh h l b.catches (omega arith)
  fine (Index e) p sh h b l = flows 2 1 0 p sh h l b.catches (omega arith)
  fine (SetIndex e) p sh h b l = flows 3 1 0 p sh h l b.catches (omega arith)
  fine (Range x y) p sh h b l = flows (1 + end_count x + end_count y) 1 0 p sh h l b.catches (omega arith)
  fine (MakeArray n) p sh h b l = flows n 1 1 p sh h l b.catches (omega arith)
  fine (MakeMap n) p sh h b l = flows (2 * n) 1 1 p sh h l b.catches (omega arith)
  fine (Jump to) p sh h b l = leads h b
  fine (JumpIfZero to) p sh h b l = let less = b.height in (flows 1 0 0 p sh h.0 l b.catches (omega arith), leads h.1 (record { height = omega (arith, less); catches = b.catches }))
  fine (JumpIfNotZero to) p sh h b l = let less = b.height in (flows 1 0 0 p sh h.0 l b.catches (omega arith), leads h.1 (record { height = omega (arith, less); catches = b.catches }))
  fine (KeepIfZero to) p sh h b l = (flows 1 0 0 p sh h.0 l b.catches (omega arith), leads h.1 b)
  fine (KeepIfNotZero to) p sh h b l = (flows 1 0 0 p sh h.0 l b.catches (omega arith), leads h.1 b)
  fine LoopTurn p sh h b l = flows 0 0 0 p sh h l b.catches (omega arith)
  fine (CallSlot k n) p sh h b l = flows n 1 1 p sh h l b.catches (omega arith)
  fine (CallFixed parent j n) p sh h b l = flows n 1 1 p sh h l b.catches (omega arith)
  fine (CallOther n) p sh h b l = flows (n + 2) 1 0 p sh h l b.catches (omega arith)
  fine (CallEfun e n) p sh h b l = flows n 1 1 p sh h l b.catches (omega arith)
  fine (CallSimul k n) p sh h b l = flows n 1 1 p sh h l b.catches (omega arith)
  fine (Scan n) p sh h b l = flows 2 (2 * n + 1) (2 * n + 1) p sh h l b.catches (omega arith)
  fine (CatchBegin to) p sh h b l =
      (leads h.0 (record { height = b.height; catches = (l, b.catches) }), leads h.1 (record { height = l; catches = b.catches }))
  fine CatchEnd p sh h b l = closes p sh sh.catches h b.height b.catches
  fine (Switch k) p sh h b l = let less = b.height in (h.0, table_leads p (shape (sh.height - 1) sh.catches) (slice_get code.switches k) h.1 (record { height = omega (arith, less); catches = b.catches }))
  fine (EachBegin n) p sh h b l = flows 1 2 1 p sh h l b.catches (omega arith)
  fine (EachNext to n) p sh h b l = let less = b.height in (flows 2 0 n p sh h.0 l b.catches (omega arith), leads h.1 (record { height = l; catches = b.catches }))
  fine Return p sh h b l = h
  fine ReturnZero p sh h b l = h

pub low : SoundCodeIsLow
low code b from to shapes s =
    let f = free_height shapes code.instrs in
    let t = f.height in
    let some = f.some in
    let less = f.low in
    let lower : Shapes = λ p. kept t (shapes p) in (
      lower,
      λ parents c top named. record {
        begins = stays t (shapes from) (shape 0 []) s.begins (record { height = omega (arith, some); catches = tt });
        inside = λ p sh e. s.inside p sh (stayed t (shapes p) sh e).was;
        low = λ p sh e. let l = (stayed t (shapes p) sh e).below.height in omega (arith, l, less, top);
        well = λ p sh e.
            let k = stayed t (shapes p) sh e in
            let w = s.well p sh k.was in
            let i = s.inside p sh k.was in
            let F = λ (q : ℕ) (x : Shape) (r : shapes q ≡ Some x) (h : IsBelow t x). stays t (shapes q) x r h in
            record {
              instr = w.instr;
              is = w.is;
              named = named p w.instr i.0 i.1 w.is;
              fine = fine code parents (By shapes) (By lower) t F w.instr p sh w.fine k.below (f.free p w.instr sh w.is k.was k.below.height);
              catch = catch_leads code parents (By shapes) (By lower) t F sh.catches w.catch k.below.catches;
            };
      },
    )
