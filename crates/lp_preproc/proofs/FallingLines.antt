-- Each line and each token of a file leaves less to do.
use Rattle.std.proofs.Common.{◌≡◌, ℕ, pos, ◌+◌, ◌≤◌, Bool, true, false, List, [], ◌∷◌, length, Option, None, Some, refl, arith}
use Rattle.std.specs.Prelude.{nat_lt, ◌&&◌, ◌||◌, not, if◌then◌else◌}
use Rattle.std.specs.Ordering.{int_eq}
use Rattle.lp_tree.specs.declared.token.Token.{Token}
use Rattle.lp_lexer.specs.Laws.{AreDisjoint}
use Rattle.lp_lexer.specs.Lexis.{IsLexed}
use Rattle.lp_lexer.specs.Source.{most_bytes}
use Rattle.lp_preproc.specs.declared.macros.Macro.{Macro}
use Rattle.lp_preproc.specs.declared.word.Word.{Word}
use Rattle.lp_preproc.specs.declared.directive.Directive.{Directive}
use Rattle.lp_preproc.specs.declared.directive.Directive.TheVariants as says
use Rattle.lp_preproc.specs.declared.state.Group.{Group}
use Rattle.lp_preproc.specs.declared.state.Stage.{Stage}
use Rattle.lp_preproc.specs.declared.state.Stage.TheVariants.{Waiting, Live, Done}
use Rattle.lp_preproc.specs.Macros
use Rattle.lp_preproc.specs.declared.source.Open.{Open}
use Rattle.lp_preproc.specs.State.{Setting, State, Next, Goes, line_or, skips}
use Rattle.lp_preproc.specs.Uses.{name_of, most_put_in, folder}
use Rattle.lp_preproc.specs.Directives
use Rattle.lp_preproc.specs.Expansion
use Rattle.lp_preproc.specs.Falls.{level, room, left_in, light, Falls, goes, fails, asks, reads, tests}
use Rattle.lp_preproc.proofs.Falling.{fuller, on, either, either_by, level_most, read, ended}

-- a state of a file: it may go to any level
abbrev File : State → ℕ → State → Type 0
File a k s = (level a ≡ 66) × (a.put_in ≤ s.put_in) × (light s + k ≤ light a)

step : (a t : State) → File a 1 t → Falls a (Goes t)
step a t h = on a t (rw h.0 (level_most t.files t.least), h.1, h.2)

-- ---- Conditionals

same_left : (fs : List Open) (gs : List Group) → left_in (Directives.in_first fs gs) ≡ left_in fs
same_left [] gs = refl
same_left (o ∷ os) gs = refl

with_groups : (a s : State) (gs : List Group) → File a 1 s → Falls a (Directives.with_groups s gs)
with_groups a s gs h = step a (record s { files = Directives.in_first s.files gs }) (h.0, h.1, rw (same_left s.files gs) h.2)

unless_bad : (a : State) (i : Option ℕ) (t : Option Token) (n : Next) → Falls a n → Falls a (Directives.unless_bad i t n)
unless_bad a i (Some t) n h = fails
unless_bad a i None n h = h

tested : (a s : State) (ts : List Token) (line : ℕ) (k : State → Bool → Next) → File a 1 s → ((t : State) (b : Bool) → File a 1 t → Falls a (k t b)) → Falls a (Directives.tested s ts line k)
tested a s ts line k h f = asks (rw h.0 (omega arith)) h.1
    (λ r g. tests (λ z. f (record s { put_in = r.put_in }) (not (int_eq z (pos 0))) (h.0, omega (arith, h.1, g), h.2)))

if_name : (a s : State) (gs : List Group) (n : Option (List ℕ)) (line : ℕ) (f : Bool → Bool) → File a 1 s → Falls a (Directives.if_name s gs n line f)
if_name a s gs None line f h = fails
if_name a s gs (Some n) line f h = with_groups a s _ h

elif_waiting : (a s : State) (i : Option ℕ) (g : Group) (gs : List Group) (ts : List Token) (line : ℕ) → File a 1 s → Falls a (Directives.elif_waiting s i g gs ts line)
elif_waiting a s i g gs ts line h = unless_bad a i (Directives.first_bad ts) _ (tested a s ts line (λ s b. Directives.with_groups s (record g { stage = Directives.stage_if b } ∷ gs)) h
    (λ t b e. with_groups a t (record g { stage = Directives.stage_if b } ∷ gs) e))

elif_by : (a s : State) (i : Option ℕ) (g : Group) (gs : List Group) (ts : List Token) (line : ℕ) (b : Bool) (st : Stage) → g.after_else ≡ b → g.stage ≡ st → File a 1 s → Falls a (Directives.elif s i (g ∷ gs) ts line)
elif_by a s i g gs ts line true st d e h = rw d fails
elif_by a s i g gs ts line false Waiting d e h = rw (d, e) (elif_waiting a s i (record { stage = Waiting; after_else = false; inner = g.inner }) gs ts line h)
elif_by a s i g gs ts line false Live d e h = rw (d, e) (with_groups a s _ h)
elif_by a s i g gs ts line false Done d e h = rw (d, e) (with_groups a s _ h)

elif : (a s : State) (i : Option ℕ) (gs : List Group) (ts : List Token) (line : ℕ) → File a 1 s → Falls a (Directives.elif s i gs ts line)
elif a s i [] ts line h = fails
elif a s i (g ∷ gs) ts line h = elif_by a s i g gs ts line g.after_else g.stage refl refl h

else_line : (a s : State) (gs : List Group) (ts : List Token) (line : ℕ) → File a 1 s → Falls a (Directives.else_line s gs ts line)
else_line a s [] ts line h = fails
else_line a s (g ∷ gs) ts line h = either a g.after_else _ _ fails (either a (Directives.has_rest g ts) _ _ fails (with_groups a s _ h))

endif : (a s : State) (gs : List Group) (ts : List Token) (line : ℕ) → File a 1 s → Falls a (Directives.endif s gs ts line)
endif a s [] ts line h = fails
endif a s (g ∷ gs) ts line h = either a (Directives.has_rest g ts) _ _ fails (with_groups a s gs h)

-- ---- Includes and definitions

or_false : (x y : Bool) → (x || y) ≡ false → x ≡ false
or_false true y e = e
or_false false y e = refl

apart : true ≡ false → ⊥
apart e = cc

or_false_right : (x y : Bool) → (x || y) ≡ false → y ≡ false
or_false_right true y e = absurd (apart e)
or_false_right false y e = e

-- tokens have bytes, and no two of them the same
abbrev pub AreApart : Type 0
AreApart = (bytes : List ℕ) (ts : List Token) → IsLexed bytes ts → AreDisjoint 0 ts (length bytes)

-- so there are no more of them than bytes
counted : (from : ℕ) (ts : List Token) (to : ℕ) → AreDisjoint from ts to → from + length ts ≤ to
counted from [] to h = omega (arith, h)
counted from (t ∷ ts) to h = let g = counted (t.at + t.len) ts to h.2 in omega (arith, g, h.0, h.1)

opened : (a s : State) (path : List ℕ) (line : ℕ) (bytes : List ℕ) (ts : List Token) → File a 1 s → nat_lt most_put_in (s.put_in + 1) ≡ false → nat_lt most_bytes (length bytes) ≡ false → 0 + length ts ≤ length bytes
    → Falls a (Goes (record s { files = Directives.included path line ts ∷ s.files; put_in = s.put_in + 1 }))
opened a s path line bytes ts h e f g =
    let t : State = record s { files = Directives.included path line ts ∷ s.files; put_in = s.put_in + 1 } in
    goes (rw h.0 (omega arith), omega (arith, h.1), fuller (room t) (room a) (light t) (light a) (grind (arith, e, h.1)) (grind (arith, f, g, h.2)))

include_bytes : AreApart → (a s : State) (path : List ℕ) (line : ℕ) (bs : Option (List ℕ)) → File a 1 s → Falls a (Directives.include_bytes s path line bs)
include_bytes ap a s path line None h = fails
include_bytes ap a s path line (Some bytes) h = either a (nat_lt Directives.most_included (length s.files)) _ _ fails
    (either_by a (nat_lt most_put_in (s.put_in + 1) || nat_lt most_bytes (length bytes)) _ _ (λ e. fails)
    (λ e. reads (λ ts l. opened a s path line bytes ts h (or_false (nat_lt most_put_in (s.put_in + 1)) _ e) (or_false_right (nat_lt most_put_in (s.put_in + 1)) _ e) (counted 0 ts (length bytes) (ap bytes ts l)))))

include : AreApart → (a : State) (c : Setting) (s : State) (p : Option (List ℕ)) (line : ℕ) → File a 1 s → Falls a (Directives.include c s p line)
include ap a c s None line h = fails
include ap a c s (Some path) line h = include_bytes ap a s path line (c.files path) h

defined : (a s : State) (n : List ℕ) (m : Macro) (line : ℕ) (old : Option Macro) → File a 1 s → Falls a (Directives.defined s n m line old)
defined a s n m line None h = step a (record s { macros = Macros.with_macro n m s.macros }) h
defined a s n m line (Some old) h = either a (Macros.same_macro old m) _ _ (step a s h) fails

define_name : (a s : State) (n : Option (List ℕ)) (m : Option Macro) (line : ℕ) → File a 1 s → Falls a (Directives.define_name s n m line)
define_name a s (Some n) (Some m) line h = defined a s n m line (Macros.macro_of n s.macros) h
define_name a s (Some n) None line h = fails
define_name a s None m line h = fails

define : (a s : State) (bytes : List ℕ) (ts : List Token) (line : ℕ) → File a 1 s → Falls a (Directives.define s bytes ts line)
define a s bytes [] line h = fails
define a s bytes (t ∷ ts) line h = define_name a s (name_of t.kind) (Directives.definition bytes t ts) line h

undefine : (a s : State) (n : Option (List ℕ)) (line : ℕ) → File a 1 s → Falls a (Directives.undefine s n line)
undefine a s None line h = fails
undefine a s (Some n) line h = step a (record s { macros = Macros.without n s.macros }) h

-- ---- Lines

carried_out : AreApart → (a : State) (c : Setting) (s : State) (o : Open) (d : Option Directive) (ts : List Token) (line : ℕ) → File a 1 s → Falls a (Directives.carried_out c s o d ts line)
carried_out ap a c s o (Some says.If) ts line h = tested a s ts line (λ s b. Directives.with_groups s (Directives.begun b ∷ o.groups)) h (λ t b e. with_groups a t (Directives.begun b ∷ o.groups) e)
carried_out ap a c s o (Some says.Ifdef) ts line h = if_name a s o.groups (Directives.one_name ts) line (λ b. b) h
carried_out ap a c s o (Some says.Ifndef) ts line h = if_name a s o.groups (Directives.one_name ts) line not h
carried_out ap a c s o (Some says.Elif) ts line h = elif a s o.included o.groups ts line h
carried_out ap a c s o (Some says.Else) ts line h = else_line a s o.groups ts line h
carried_out ap a c s o (Some says.Endif) ts line h = endif a s o.groups ts line h
carried_out ap a c s o (Some says.Include) ts line h = include ap a c s (Directives.path_of (folder o.path) (Directives.bytes_of c o) ts) line h
carried_out ap a c s o (Some says.Define) ts line h = define a s (Directives.bytes_of c o) ts line h
carried_out ap a c s o (Some says.Undef) ts line h = undefine a s (Directives.one_name ts) line h
carried_out ap a c s o (Some says.Error) ts line h = fails
carried_out ap a c s o (Some says.Pragma) ts line h = step a (record s { pragmas = Directives.with_pragmas s.pragmas ts }) h
carried_out ap a c s o None ts line h = fails

skipped : (a s : State) (o : Open) (d : Option Directive) (ts : List Token) (line : ℕ) → File a 1 s → Falls a (Directives.skipped s o d ts line)
skipped a s o (Some says.If) ts line h = with_groups a s _ h
skipped a s o (Some says.Ifdef) ts line h = with_groups a s _ h
skipped a s o (Some says.Ifndef) ts line h = with_groups a s _ h
skipped a s o (Some says.Elif) ts line h = elif a s o.included o.groups ts line h
skipped a s o (Some says.Else) ts line h = else_line a s o.groups ts line h
skipped a s o (Some says.Endif) ts line h = endif a s o.groups ts line h
skipped a s o (Some says.Include) ts line h = step a s h
skipped a s o (Some says.Define) ts line h = step a s h
skipped a s o (Some says.Undef) ts line h = step a s h
skipped a s o (Some says.Error) ts line h = step a s h
skipped a s o (Some says.Pragma) ts line h = step a s h
skipped a s o None ts line h = step a s h

directive : AreApart → (a : State) (c : Setting) (s : State) (o : Open) (ts : List Token) (line : ℕ) → File a 1 s → Falls a (Directives.directive c s o ts line)
directive ap a c s o ts line h = either a (skips o.groups) _ _ (skipped a s o (Directives.said ts) (Directives.behind ts) line h)
    (unless_bad a o.included (Directives.first_bad ts) _ (carried_out ap a c s o (Directives.said ts) (Directives.behind ts) line h))

fewer_if : (b : Bool) (n : ℕ) (ts us : List Token) → length ts ≤ n → length us ≤ n → length (if b then ts else us) ≤ n
fewer_if true n ts us h g = h
fewer_if false n ts us h g = g

fewer : (ts : List Token) → length (Directives.next_lines ts) ≤ length ts
fewer [] = omega arith
fewer (t ∷ ts) = fewer_if t.first (length (t ∷ ts)) (t ∷ ts) (Directives.next_lines ts) (omega arith) (let h = fewer ts in omega (arith, h))

closed : (s : State) (o : Open) (os : List Open) (gs : List Group) → s.files ≡ o ∷ os → Falls s (Expansion.closed s o os gs)
closed s o os [] e = step s (record s { files = os }) (rw e refl, omega arith, rw e (omega arith))
closed s o os (g ∷ gs) e = fails

-- what is left of a file where tokens of it were taken
past : (s : State) (o p : Open) (os : List Open) (t : Token) (ts : List Token) → s.files ≡ o ∷ os → o.left ≡ t ∷ ts → length p.left ≤ length ts → File s 2 (record s { files = p ∷ os })
past s o p os t ts e f h = (rw e refl, omega arith, rw (e, f) (omega (arith, h)))

token : (c : Setting) (s : State) (o : Open) (os : List Open) (t : Token) (ts : List Token) → s.files ≡ o ∷ os → o.left ≡ t ∷ ts → Falls s (Expansion.token c s o os t ts)
token c s o os t ts e f =
    let h = past s o (record o { left = ts }) os t ts e f (omega arith) in
    either s (skips o.groups) _ _ (step s (Expansion.past s o os ts) (h.0, h.1, omega (arith, h.2)))
    (either s (Directives.is_bad t.kind) _ _ fails (read s c (Expansion.past s o os ts) (Expansion.word_of o t) (rw h.0 (omega arith), h.1, h.2)))

from_file : AreApart → (c : Setting) (s : State) (o : Open) (os : List Open) (ts : List Token) → s.files ≡ o ∷ os → o.left ≡ ts → Falls s (Expansion.from_file c s o os ts)
from_file ap c s o os [] e f = closed s o os o.groups e
from_file ap c s o os (t ∷ ts) e f =
    let p : Open = record o { left = Directives.next_lines ts } in
    let h = past s o p os t ts e f (fewer ts) in
    either s (t.first && Directives.is_hash t.kind) _ _
    (directive ap s c (record s { files = p ∷ os }) p (Directives.rest_of_line ts) (line_or o.included t.line) (h.0, h.1, omega (arith, h.2)))
    (token c s o os t ts e f)

from_files : AreApart → (c : Setting) (s : State) (fs : List Open) → s.files ≡ fs → Falls s (Expansion.from_files c s fs)
from_files ap c s [] e = ended s
from_files ap c s (o ∷ os) e = from_file ap c s o os o.left e refl

from_waiting : AreApart → (c : Setting) (s : State) (ws : List Word) → s.waiting ≡ ws → Falls s (Expansion.from_waiting c s ws)
from_waiting ap c s [] e = from_files ap c s s.files refl
from_waiting ap c s (w ∷ ws) e = read s c (record s { waiting = ws }) w (omega arith, omega arith, rw e (omega arith))

-- Each step leaves less to do.
pub falling : AreApart → (c : Setting) (s : State) → Falls s (Expansion.next c s)
falling ap c s = from_waiting ap c s s.waiting refl
