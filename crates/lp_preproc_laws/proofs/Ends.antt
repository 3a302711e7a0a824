-- Each expansion comes to an end.
use Rattle.std.proofs.Common.{ℕ, zero, suc, ℤ, ◌≤◌, ◌<◌, Bool, true, false, List, [], ◌∷◌, Option, None, Some, refl, arith, inl, inr}
use Rattle.std.specs.Prelude.{nat_lt, if◌then◌else◌, length}
use Rattle.lp_tree.specs.declared.fault.FaultKind.TheVariants as faults
use Rattle.lp_tree.specs.declared.token.Token.{Token}
use Rattle.lp_lexer.specs.Lexis.{IsLexed}
use Rattle.lp_lexer.specs.Laws.{HasAnswer as HasTokens}
use Rattle.lp_lexer.specs.Source.{most_bytes}
use Rattle.lp_preproc.specs.declared.word.Word.{Word}
use Rattle.lp_preproc.specs.State.{Setting, State, begin, Next, Goes, Fails, Asks, Reads, Tests, line_or}
use Rattle.lp_preproc.specs.Expansion.{Outcome, Whole, Faulty, LeadsTo, next, ends, fails, goes, asks, asks_fault, reads, reads_fault, tests, tests_fault, line_at, compiled, came_out_of, opening, opening_found}
use Rattle.lp_preproc.specs.Falls as falls
use Rattle.lp_preproc.specs.Falls.{level, weight, Falls}
use Rattle.lp_preproc_laws.specs.Answers.{HasAnswer}
use Rattle.lp_preproc_laws.proofs.Decision.{HasDecision}

-- each source has tokens or a fault, and each condition a value or none
abbrev pub Lexes : Type 0
Lexes = (bs : List ℕ) → HasTokens bs

abbrev pub Decides : Type 0
Decides = (ws : List Word) → HasDecision ws

-- each step leaves less to do
abbrev pub AllFall : Type 0
AllFall = (c : Setting) (s : State) → Falls s (next c s)

-- nothing less was put in
abbrev Above : ℕ → Outcome → Type 0
Above n (Whole s) = n ≤ s.put_in
Above n (Faulty kind line) = Unit {0}

abbrev Answered : Setting → ℕ → Next → Type 0
Answered c p n = (o : Outcome) × LeadsTo c n o × Above p o

above : (m n : ℕ) (o : Outcome) → m ≤ n → Above n o → Above m o
above m n (Whole s) h g = omega (arith, h, g)
above m n (Faulty kind line) h g = tt

asked : (c : Setting) (p : ℕ) (q : State) (k : State → Next) (o : Outcome) → LeadsTo c (Goes q) o → Above q.put_in o → ((r : State) → q.put_in ≤ r.put_in → Answered c p (k r)) → Answered c p (Asks q k)
asked c p q k (Whole r) d b g = let x = g r b in (x.0, asks d x.1, x.2)
asked c p q k (Faulty kind line) d b g = (Faulty kind line, asks_fault d, tt)

lexed : (c : Setting) (p : ℕ) (bytes : List ℕ) (line : Option ℕ) (k : List Token → Next) → HasTokens bytes → ((ts : List Token) → IsLexed bytes ts → Answered c p (k ts)) → Answered c p (Reads bytes line k)
lexed c p bytes line k (inl l) g = let x = g l.0 l.1 in (x.0, reads l.1 x.1, x.2)
lexed c p bytes line k (inr f) g = (Faulty faults.Lex (line_or line (line_at bytes f.0)), reads_fault f.0 f.1 f.2, tt)

tested : (c : Setting) (p : ℕ) (ws : List Word) (line : ℕ) (k : ℤ → Next) → HasDecision ws → ((z : ℤ) → Answered c p (k z)) → Answered c p (Tests ws line k)
tested c p ws line k (inl v) g = let x = g v.0 in (x.0, tests v.1 x.1, x.2)
tested c p ws line k (inr n) g = (Faulty faults.BadDirective line, tests_fault n, tt)

abbrev Comes : Setting → State → Type 0
Comes c s = Answered c s.put_in (Goes s)

-- where all that is deeper and all that is less comes to an end, what comes next does
answered : Lexes → Decides → (c : Setting) (a : State) → ((t : State) → level t < level a → Comes c t) → ((t : State) → level t ≤ level a → weight t < weight a → Comes c t)
    → {n : Next} → Falls a n → Answered c a.put_in n
answered lx dc c a f g (falls.goes {t} h) = let r = g t h.0 h.2 in (r.0, r.1, above a.put_in t.put_in r.0 h.1 r.2)
answered lx dc c a f g (falls.ends {t} h) = (Whole t, ends, h)
answered lx dc c a f g (falls.fails {kind} {line}) = (Faulty kind line, fails, tt)
answered lx dc c a f g (falls.asks {q} {k} l h e) = let r = f q l in asked c a.put_in q k r.0 r.1 r.2 (λ s b. answered lx dc c a f g (e s b))
answered lx dc c a f g (falls.reads {bytes} {line} {k} e) = lexed c a.put_in bytes line k (lx bytes) (λ ts l. answered lx dc c a f g (e ts l))
answered lx dc c a f g (falls.tests {ws} {line} {k} e) = tested c a.put_in ws line k (dc ws) (λ z. answered lx dc c a f g (e z))

step : Lexes → Decides → AllFall → (c : Setting) (s : State) → ((t : State) → level t < level s → Comes c t) → ((t : State) → level t ≤ level s → weight t < weight s → Comes c t) → Comes c s
step lx dc af c s f g = let r = answered lx dc c s f g (af c s) in (r.0, goes r.1, r.2)

-- induction over what is left to do, and over the depth
by_weight : Lexes → Decides → AllFall → (c : Setting) (l : ℕ) → ((t : State) → level t < l → Comes c t) → (n : ℕ) (s : State) → level s ≤ l → weight s < n → Comes c s
by_weight lx dc af c l f zero s a b = absurd (omega (arith, b))
by_weight lx dc af c l f (suc n) s a b = step lx dc af c s (λ t h. f t (omega (arith, a, h))) (λ t h w. by_weight lx dc af c l f n t (omega (arith, a, h)) (omega (arith, b, w)))

by_level : Lexes → Decides → AllFall → (c : Setting) (l : ℕ) (s : State) → level s < l → Comes c s
by_level lx dc af c zero s a = absurd (omega (arith, a))
by_level lx dc af c (suc l) s a = by_weight lx dc af c l (by_level lx dc af c l) (suc (weight s)) s (omega (arith, a)) (omega arith)

comes : Lexes → Decides → AllFall → (c : Setting) (s : State) → Comes c s
comes lx dc af c s = by_level lx dc af c (suc (level s)) s (omega arith)

-- ---- A file

abbrev Leads : Setting → Next → Type 0
Leads c n = (o : Outcome) × LeadsTo c n o

opened : Lexes → Decides → AllFall → (c : Setting) (bytes : List ℕ) → HasTokens bytes → Leads c (Reads bytes None (λ ts. Goes (record begin { files = compiled c ts ∷ [] })))
opened lx dc af c bytes (inl l) = let x = comes lx dc af c (record begin { files = compiled c l.0 ∷ [] }) in (x.0, reads l.1 x.1)
opened lx dc af c bytes (inr f) = (Faulty faults.Lex (line_or None (line_at bytes f.0)), reads_fault f.0 f.1 f.2)

sized : (c : Setting) (b : Bool) (n : Next) → Leads c n → Leads c (if b then Fails faults.TooManyTokens 0 else n)
sized c true n h = (Faulty faults.TooManyTokens 0, fails)
sized c false n h = h

found : Lexes → Decides → AllFall → (c : Setting) (b : Option (List ℕ)) → Leads c (opening_found c b)
found lx dc af c None = (Faulty faults.NoFile 0, fails)
found lx dc af c (Some bytes) = sized c (nat_lt most_bytes (length bytes)) _ (opened lx dc af c bytes (lx bytes))

answer : (c : Setting) (o : Outcome) → LeadsTo c (opening c) o → HasAnswer c
answer c (Whole s) h = inl (came_out_of s.out, s.pragmas, (s, h, refl, refl))
answer c (Faulty kind line) h = inr (kind, line, h)

-- Each file has an answer.
pub answered_file : Lexes → Decides → AllFall → (c : Setting) → HasAnswer c
answered_file lx dc af c = let x = found lx dc af c (c.files c.path) in answer c x.0 x.1
