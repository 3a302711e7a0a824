-- Where steps lead.
use Rattle.std.proofs.Common.{◌≡◌, ℕ, length, ◌+◌, ◌≤◌, ◌<◌, max, List, [], ◌∷◌, ◌++◌, Bool, true, false, None, refl, sym, ap, subst, arith}
use Rattle.std.specs.Prelude.{Result, Ok, Err, reverse, nat_lt, map, not, pos}
use Rattle.std.specs.Ordering.{int_eq}
use Rattle.lp_tree.specs.declared.fault.FaultKind.TheVariants.{BadDirective, Lex, MacroDepth, TooManyTokens}
use Rattle.lp_tree.specs.declared.token.Token.{Token}
use Rattle.lp_lexer.specs.Lexis.{IsLexed}
use Rattle.lp_lexer.specs.Source.{most_bytes}
use Rattle.lp_lexer.specs.Answer.{IsLexFault}
use Rattle.lp_lexer.specs.declared.LexFault.{LexFault}
use Rattle.lp_lexer.specs.declared.LexFault.TheVariants as lexes
use Rattle.lp_tree.specs.declared.pragma.Pragmas.{Pragmas}
use Rattle.lp_preproc.specs.declared.reader.Reader.{Reader}
use Rattle.lp_preproc.specs.declared.row.Row.{Row}
use Rattle.lp_preproc.specs.declared.state.Group.{Group}
use Rattle.lp_preproc.specs.declared.state.Use.{Use}
use Rattle.lp_preproc.specs.declared.state.Purpose.TheVariants as purposes
use Rattle.lp_preproc.specs.declared.stop.Stop.{Stop}
use Rattle.lp_preproc.specs.declared.stop.Stop.TheVariants.{NoMemory, At}
use Rattle.lp_preproc.specs.declared.word.Word.{Word}
use Rattle.lp_preproc.specs.Macros.{Table}
use Rattle.lp_preproc.specs.State.{Setting, State, Open, apart, begin, Next, Goes, Ends, Reads as ReadsFile}
use Rattle.lp_preproc.specs.Uses.{used, expanded, ended}
use Rattle.lp_preproc.specs.Conditions.{HasValue}
use Rattle.lp_preproc.specs.Directives.{in_condition}
use Rattle.lp_preproc.specs.Directives as lines
use Rattle.lp_preproc.specs.Paths.{stays, went, asked, lexed, tested}
use Rattle.lp_preproc.specs.Expansion.{Outcome, Whole, Faulty, LeadsTo, ends, fails, goes, asks, asks_fault, reads, reads_fault, tests, tests_fault, next, closed, from_file, from_files, from_waiting, opening_bytes, compiled, line_at}
use Rattle.lp_preproc.specs.Steps.{state_of, Branches, IsDecided, Does, Reads, Leads, Reaches, Turns, Finishes, ComesOut, Expanding, Expands, Runs, in_list, stop_of, turned}

-- what comes later leads on
pub onward : {c : Setting} {n m : Next} {o : Outcome} → Leads c n m → LeadsTo c m o → LeadsTo c n o
onward stays l = l
onward (went g) l = goes (onward g l)
onward (asked i g) l = asks i (onward g l)
onward (lexed i g) l = reads i (onward g l)
onward (tested v g) l = tests v (onward g l)

pub further : {c : Setting} {n m p : Next} → Leads c n m → Leads c m p → Leads c n p
further stays l = l
further (went g) l = went (further g l)
further (asked i g) l = asked i (further g l)
further (lexed i g) l = lexed i (further g l)
further (tested v g) l = tested v (further g l)

pub leads_same : (c : Setting) (n m : Next) → n ≡ m → Leads c n m
leads_same c n m e = subst (λ x. Leads c n x) e stays

-- a call that went on
pub turn_went : (c : Setting) (n : Next) (s : State) → n ≡ Goes s → Leads c n (Goes s)
turn_went c n s e = subst (λ m. Leads c m (Goes s)) (sym e) stays

-- a call that failed
pub turn_failed : (c : Setting) (n : Next) (x : Stop) (s t : State) → Reads c n (Err x) s → Turns c n (Err x) t
turn_failed c n NoMemory s t h = h
turn_failed c n (At kind line) s t e = subst (λ m. LeadsTo c m (Faulty kind line)) (sym e) fails

-- a use that was carried out
pub turn_used : (c : Setting) (n m : Next) (s : State) → n ≡ m → Leads c m (Goes s) → Leads c n (Goes s)
turn_used c n m s e h = subst (λ x. Leads c x (Goes s)) (sym e) h

pub turn_used_failed : (c : Setting) (n m : Next) (x : Stop) (s t : State) → n ≡ m → Reaches c m (Err x) s → Turns c n (Err x) t
turn_used_failed c n m NoMemory s t e h = h
turn_used_failed c n m (At kind line) s t e h = subst (λ y. LeadsTo c y (Faulty kind line)) (sym e) h

-- the end of the words
pub turn_finishes : (c : Setting) (n : Next) (r : Result Bool Stop) (s : State) → Finishes n r s → Turns c n r s
turn_finishes c n (Ok true) s e = subst (λ m. Leads c m (Ends s)) (sym e) stays
turn_finishes c n (Ok false) s e = subst (λ m. Leads c m (Goes s)) (sym e) stays
turn_finishes c n (Err NoMemory) s h = h
turn_finishes c n (Err (At kind line)) s e = subst (λ m. LeadsTo c m (Faulty kind line)) (sym e) fails

-- what a list's end says of the whole
pub list_failed : (c : Setting) (q s t : State) (x : Stop) → Leads c (Goes q) (Goes s) → Turns c (next c s) (Err x) t → ComesOut c q (Err x)
list_failed c q s t NoMemory h g = g
list_failed c q s t (At kind line) h g = onward h (goes g)

pub list_ended : (c : Setting) (q s t : State) (r : List Word × ℕ) → Leads c (Goes q) (Goes s) → Leads c (next c s) (Ends t) → r.0 ≡ reverse t.out → r.1 ≡ t.put_in → ComesOut c q (Ok r)
list_ended c q s t r h g e f = (t, onward h (goes (onward g ends)), sym e, sym f)

pub list_next : (c : Setting) (q s t : State) → Leads c (Goes q) (Goes s) → Leads c (next c s) (Goes t) → Leads c (Goes q) (Goes t)
list_next c q s t h g = further h (went g)

-- what is put in is read next
pub does_reaches : (c : Setting) (n m : Next) (r : Result (Unit {0}) Stop) (s : State) → Leads c n m → Does m r s → Reaches c n r s
does_reaches c n m (Ok u) s h e = further h (subst (λ x. Leads c x (Goes s)) (sym e) stays)
does_reaches c n m (Err NoMemory) s h e = e
does_reaches c n m (Err (At kind line)) s h e = onward h (subst (λ x. LeadsTo c x (Faulty kind line)) (sym e) fails)

pub expands_failed : (c : Setting) (u : Use) (d : ℕ) (old new t : State) (args : List (List Word)) (x : Stop) → Expands c u d old args (Err x) new → Reaches c (expanded c u d old [] args) (Err x) t
expands_failed c u d old new t args NoMemory h = h
expands_failed c u d old new t args (At kind line) h = h

-- an argument was expanded
pub argument_next : (c : Setting) (u : Use) (d : ℕ) (n : Next) (s : State) (done rest : List (List Word)) (a : List Word) (r : List Word × ℕ)
    → Leads c n (expanded c u d s done (a ∷ rest)) → ComesOut c (apart purposes.Argument d s a) (Ok r)
    → Leads c n (expanded c u d (record s { put_in = r.1 }) (done ++ r.0 ∷ []) rest)
argument_next c u d n s done rest a r h g =
    let m = expanded c u d (record s { put_in = r.1 }) (done ++ r.0 ∷ []) rest in
    further h (asked g.1 (subst (λ k. Leads c (expanded c u d (record s { put_in = k }) (done ++ reverse g.0.out ∷ []) rest) m) (sym g.3)
    (subst (λ ws. Leads c (expanded c u d (record s { put_in = r.1 }) (done ++ ws ∷ []) rest) m) (sym g.2) stays)))

-- an argument has a fault
pub argument_failed : (c : Setting) (u : Use) (d : ℕ) (old s t : State) (args done rest : List (List Word)) (a : List Word) (x : Stop)
    → Leads c (expanded c u d old [] args) (expanded c u d s done (a ∷ rest)) → ComesOut c (apart purposes.Argument d s a) (Err x)
    → Expands c u d old args (Err x) t
argument_failed c u d old s t args done rest a NoMemory h g = g
argument_failed c u d old s t args done rest a (At kind line) h g = onward h (asks_fault g)

-- a use that lies too deep
pub use_deep : (c : Setting) (u : Use) (s : State) (args : List (List Word)) → 64 ≤ max u.word.depth s.least → LeadsTo c (used c u s args) (Faulty MacroDepth u.word.line)
use_deep c u s args h =
    let e : nat_lt 64 (max u.word.depth s.least + 1) ≡ true = grind arith in
    rw e fails

-- the end of a list
pub next_end : (c : Setting) (r : Reader) (ms : Table) (least : ℕ) (p : Pragmas) → r.waiting ≡ [] → next c (state_of r ms (in_list least p)) ≡ ended (state_of r ms (in_list least p))
next_end c r ms least p e = ap (from_waiting c (state_of r ms (in_list least p))) e

-- a fault is one whatever was changed before
pub failed_does : (n : Next) (x : Stop) (s t : State) → Does n (Err x) s → Does n (Err x) t
failed_does n NoMemory s t h = h
failed_does n (At kind line) s t h = h

-- what is done, as a turn
pub does_turns : (c : Setting) (n : Next) (r : Result (Unit {0}) Stop) (q : Result Bool Stop) (s : State) → Does n r s → q ≡ turned r → Turns c n q s
does_turns c n (Ok u) q s e f = subst (λ x. Turns c n x s) (sym f) (subst (λ m. Leads c m (Goes s)) (sym e) stays)
does_turns c n (Err NoMemory) q s e f = subst (λ x. Turns c n x s) (sym f) e
does_turns c n (Err (At kind line)) q s e f = subst (λ x. Turns c n x s) (sym f) (subst (λ m. LeadsTo c m (Faulty kind line)) (sym e) fails)

-- what the innermost file does next, when it was taken out of the open files
closed_same : (s : State) (fs os : List Open) (o : Open) (gs : List Group) → closed (record s { files = fs }) o os gs ≡ closed s o os gs
closed_same s fs os o [] = refl
closed_same s fs os o (g ∷ gs) = refl

file_same : (c : Setting) (s : State) (fs os : List Open) (o : Open) (ts : List Token) → from_file c (record s { files = fs }) o os ts ≡ from_file c s o os ts
file_same c s fs os o [] = closed_same s fs os o o.groups
file_same c s fs os o (t ∷ ts) = refl

pub turn_file : (c : Setting) (s : State) (fs os : List Open) (o : Open) (r : Result Bool Stop) (t : State) → Turns c (from_file c (record s { files = os }) o os o.left) r t → fs ≡ o ∷ os → Turns c (from_files c s fs) r t
turn_file c s fs os o r t h e = subst (λ gs. Turns c (from_files c s gs) r t) (sym e) (subst (λ n. Turns c n r t) (file_same c s os os o o.left) h)

-- what a turn's end says of the whole
pub run_failed : (c : Setting) (n : Next) (s t : State) (x : Stop) → Leads c n (Goes s) → Turns c (next c s) (Err x) t → Runs c n (Err x) t
run_failed c n s t NoMemory h g = g
run_failed c n s t (At kind line) h g = onward h (goes g)

pub run_ended : (c : Setting) (n : Next) (s t : State) → Leads c n (Goes s) → Leads c (next c s) (Ends t) → LeadsTo c n (Whole t)
run_ended c n s t h g = onward h (goes (onward g ends))

pub run_next : (c : Setting) (n : Next) (s t : State) → Leads c n (Goes s) → Leads c (next c s) (Goes t) → Leads c n (Goes t)
run_next c n s t h g = further h (went g)

-- what a run's fault says of an expansion
pub expanding_failed : (c : Setting) (n : Next) (x : Stop) (s : State) → Runs c n (Err x) s → Expanding c n (Err x)
expanding_failed c n NoMemory s h = h
expanding_failed c n (At kind line) s h = h

-- what is done, with a step before it
pub reaches_turns : (c : Setting) (n : Next) (r : Result (Unit {0}) Stop) (q : Result Bool Stop) (s : State) → Reaches c n r s → q ≡ turned r → Turns c n q s
reaches_turns c n (Ok u) q s e f = subst (λ x. Turns c n x s) (sym f) e
reaches_turns c n (Err NoMemory) q s e f = subst (λ x. Turns c n x s) (sym f) e
reaches_turns c n (Err (At kind line)) q s e f = subst (λ x. Turns c n x s) (sym f) e

-- what is done is reached
pub does_reached : (c : Setting) (n : Next) (r : Result (Unit {0}) Stop) (s : State) → Does n r s → Reaches c n r s
does_reached c n r s e = does_reaches c n n r s stays e

-- a fault is reached whatever was changed before
pub failed_reaches : (c : Setting) (n : Next) (x : Stop) (s t : State) → Reaches c n (Err x) s → Reaches c n (Err x) t
failed_reaches c n NoMemory s t h = h
failed_reaches c n (At kind line) s t h = h

-- a condition that has this value; or none; or a fault
pub tested_decided : (c : Setting) (s : State) (ts : List Token) (line : ℕ) (f : State → Bool → Next) (ws : List Word) (n : ℕ) (r : Result Bool Stop)
    → ComesOut c (apart purposes.Condition 0 s (map (in_condition line) ts)) (Ok (ws, n)) → IsDecided ws line r
    → Branches c (lines.tested s ts line f) r (λ b. f (record s { put_in = n }) b)
tested_decided c s ts line f ws n (Ok b) g d =
    let m = f (record s { put_in = n }) b in
    asked g.1 (tested (subst (λ us. HasValue us d.0) (sym g.2) d.1)
    (subst (λ k. Leads c (f (record s { put_in = k }) (not (int_eq d.0 (pos 0)))) m) (sym g.3)
    (subst (λ x. Leads c (f (record s { put_in = n }) x) m) d.2 stays)))
tested_decided c s ts line f ws n (Err NoMemory) g d = tt
tested_decided c s ts line f ws n (Err (At kind l)) g d =
    subst (λ k. LeadsTo c (lines.tested s ts line f) (Faulty k l)) (sym d.0)
    (subst (λ k. LeadsTo c (lines.tested s ts line f) (Faulty BadDirective k)) (sym d.1)
    (asks g.1 (tests_fault (λ z h. d.2 z (subst (λ us. HasValue us z) g.2 h)))))

pub tested_failed : (c : Setting) (s : State) (ts : List Token) (line : ℕ) (f : State → Bool → Next) (x : Stop) (g : Bool → Next)
    → ComesOut c (apart purposes.Condition 0 s (map (in_condition line) ts)) (Err x) → Branches c (lines.tested s ts line f) (Err x) g
tested_failed c s ts line f NoMemory g h = h
tested_failed c s ts line f (At kind l) g h = asks_fault h

-- a condition that was looked at
pub branch_went : (c : Setting) (n : Next) (s : State) (g : Bool → Next) (b : Bool) → Branches c n (Ok b) g → g b ≡ Goes s → Leads c n (Goes s)
branch_went c n s g b h e = subst (λ m. Leads c n m) e h

pub branch_failed : (c : Setting) (n : Next) (x : Stop) (g : Bool → Next) (s : State) → Branches c n (Err x) g → Reaches c n (Err x) s
branch_failed c n NoMemory g s h = h
branch_failed c n (At kind line) g s h = h

-- a file with these tokens
pub opening_small : (c : Setting) (bytes : List ℕ) → length bytes ≤ most_bytes → opening_bytes c bytes ≡ ReadsFile bytes None (λ ts. Goes (record begin { files = compiled c ts ∷ [] }))
opening_small c bytes h =
    let e : nat_lt most_bytes (length bytes) ≡ false = grind arith in
    rw e refl

pub expanding_lexed : (c : Setting) (bytes : List ℕ) (ts : List Token) (r : Result (Row Word × Pragmas) Stop) → length bytes ≤ most_bytes → IsLexed bytes ts
    → Expanding c (Goes (record begin { files = compiled c ts ∷ [] })) r → Expanding c (opening_bytes c bytes) r
expanding_lexed c bytes ts (Ok r) h l g = (g.0, subst (λ n. LeadsTo c n (Whole g.0)) (sym (opening_small c bytes h)) (reads l g.1), g.2, g.3)
expanding_lexed c bytes ts (Err NoMemory) h l g = g
expanding_lexed c bytes ts (Err (At kind line)) h l g = subst (λ n. LeadsTo c n (Faulty kind line)) (sym (opening_small c bytes h)) (reads l g)

pub expanding_unlexed : (c : Setting) (bytes : List ℕ) (f : LexFault) → length bytes ≤ most_bytes → IsLexFault bytes f → Expanding c (opening_bytes c bytes) (Err (stop_of bytes f))
expanding_unlexed c bytes lexes.NoMemory h f = tt
expanding_unlexed c bytes (lexes.At at kind) h f = subst (λ n. LeadsTo c n (Faulty Lex (line_at bytes at))) (sym (opening_small c bytes h)) (reads_fault at kind f)

pub opening_large : (c : Setting) (bytes : List ℕ) → most_bytes < length bytes → LeadsTo c (opening_bytes c bytes) (Faulty TooManyTokens 0)
opening_large c bytes h =
    let e : nat_lt most_bytes (length bytes) ≡ true = grind arith in
    rw e fails
