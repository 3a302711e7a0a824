-- What comes out of an expansion is as in a source: each integer is that of a token, a line, or a truth, so none is negative, and each name is that of a token.
use Rattle.std.proofs.Common.{◌≡◌, ℕ, ℤ, pos, ◌+◌, ◌-◌, ◌||◌, List, [], ◌∷◌, ◌++◌, Bool, true, false, Option, Some, None, subst, if◌then◌else◌, length, ◌==◌, ◌&&◌, refl, sym, codes}
use Rattle.std.specs.Prelude.{⊤, map, reverse, nat_lt, nat_le, not}
use Rattle.std.specs.Ordering.{int_eq}
use Rattle.std.proofs.lemmas.Grind.{reverse_onto}
use Rattle.std.proofs.lemmas.List.Elements.{All-nil, All-cons, All-head, All-tail}
use Rattle.lp_tree.specs.declared.fault.FaultKind.TheVariants as faults
use Rattle.lp_tree.specs.declared.pragma.Pragmas.{Pragmas}
use Rattle.lp_tree.specs.declared.token.Token.{Token}
use Rattle.lp_tree.specs.declared.token.TokenKind.{TokenKind}
use Rattle.lp_tree.specs.declared.token.TokenKind.TheVariants.{Name, Text, Int, Mark, Bad}
use Rattle.lp_tree.specs.Signs.{IsUnsigned, AreUnsigned}
use Rattle.lp_lexer.specs.Source.{most_bytes}
use Rattle.lp_preproc.specs.declared.macros.Macro.{Macro}
use Rattle.lp_preproc.specs.declared.macros.Body.{Body}
use Rattle.lp_preproc.specs.declared.macros.Body.TheVariants.{Tokens, File, Line, Folder}
use Rattle.lp_preproc.specs.declared.source.Open.{Open}
use Rattle.lp_preproc.specs.declared.word.Word.{Word}
use Rattle.lp_preproc.specs.declared.state.Use.{Use}
use Rattle.lp_preproc.specs.declared.state.Group.{Group}
use Rattle.lp_preproc.specs.declared.state.Stage.{Stage}
use Rattle.lp_preproc.specs.declared.state.Stage.TheVariants.{Waiting, Live, Done}
use Rattle.lp_preproc.specs.Arguments.{Arguments}
use Rattle.lp_preproc.specs.declared.state.Reading.{Reading}
use Rattle.lp_preproc.specs.declared.state.Reading.TheVariants.{Plain, Named, Within}
use Rattle.lp_preproc.specs.declared.state.Part.{Part}
use Rattle.lp_preproc.specs.declared.state.Part.TheVariants.{Opens, Closes, Parts, Other}
use Rattle.lp_preproc.specs.declared.state.Purpose.{Purpose}
use Rattle.lp_preproc.specs.declared.state.Purpose.TheVariants as purposes
use Rattle.lp_preproc.specs.declared.directive.Directive.{Directive}
use Rattle.lp_preproc.specs.declared.directive.Directive.TheVariants as says
use Rattle.lp_preproc.specs.Macros.{Table, same_name, among, macro_of, is_defined, with_macro, without, same_macro, plain, no_macros, predefined}
use Rattle.lp_preproc.specs.State.{Setting, State, begin, Next, Goes, Ends, Fails, Asks, Reads, Tests, line_or, skips}
use Rattle.lp_preproc.specs.Uses.{one_more, with_text, last_text, text_after, out_by, comes_out, emit, text_of, name_of, put_argument, put_words, argument_of, argument_at, filled, folder, tokens_of, put_back, result_words, depth_of, expanded, used, use_macro, read_name, Asked, asked_name, asked_within, asked, truth, read_defined, is_defined_word, read_plain, read_named, all_of, given, closed as closed_use, argument_word, within_by, part_of, read_by, read, end_by, ended, is_open, is_close, is_comma, deepest, most_tokens, longest_text, most_put_in}
use Rattle.lp_preproc.specs.Directives.{rest_of_line, next_lines, is_hash, is_bad, first_bad, said, behind, one_name, in_first, with_groups, stage_if, begun, begun_inside, in_condition, tested, if_name, unless_bad, elif_waiting, elif, stage_else, has_rest, else_line, endif, bytes_of, path_of, included, include_bytes, include, Parameters, new_name, more_parameters, parameters, kinds, with_parameters, definition, defined, define_name, define, undefine, skipped, carried_out, directive, most_included}
use Rattle.lp_preproc.specs.Expansion.{word_of, past, closed as closed_file, token, directive_line, from_file, from_files, from_waiting, next, Outcome, Whole, Faulty, LeadsTo, ends, fails, goes, asks, asks_fault, reads, reads_fault, tests, tests_fault, compiled, opening_bytes, opening_found, came_out, IsExpansion}
use Rattle.lp_preproc_laws.specs.Names.{IsNamed, AreNamed}
use Rattle.lp_preproc_laws.proofs.Reading.{IsOfSource, AreOfSource, to-unsigned, to-named, lexed}

-- ---- What is as in a source

abbrev Words : List Word → Type 0
Words [] = ⊤
Words (w ∷ ws) = IsOfSource w.kind × Words ws

abbrev Lists : List (List Word) → Type 0
Lists [] = ⊤
Lists (ws ∷ wss) = Words ws × Lists wss

abbrev Kinds : List TokenKind → Type 0
Kinds [] = ⊤
Kinds (k ∷ ks) = IsOfSource k × Kinds ks

abbrev Source : List Token → Type 0
Source [] = ⊤
Source (t ∷ ts) = IsOfSource t.kind × Source ts

abbrev InBody : Body → Type 0
InBody (Tokens ks) = Kinds ks
InBody File = ⊤
InBody Line = ⊤
InBody Folder = ⊤

abbrev InMacro : Option Macro → Type 0
InMacro None = ⊤
InMacro (Some m) = InBody m.body

abbrev InTable : Table → Type 0
InTable ms = (n : List ℕ) → InMacro (ms n)

abbrev InUse : Use → Type 0
InUse u = IsOfSource u.word.kind × InBody u.body

abbrev InArguments : Arguments → Type 0
InArguments a = InUse a.usage × Lists a.whole × Words a.current

abbrev InReading : Reading → Type 0
InReading Plain = ⊤
InReading (Named u) = InUse u
InReading (Within a) = InArguments a

abbrev InFiles : List Open → Type 0
InFiles [] = ⊤
InFiles (o ∷ os) = Source o.left × InFiles os

abbrev IsClean : State → Type 0
IsClean s = InReading s.reading × Words s.waiting × InFiles s.files × Words s.out × InTable s.macros

-- what comes next leads to states that have such tokens only
abbrev StaysClean : Next → Type 0
StaysClean (Goes s) = IsClean s
StaysClean (Ends s) = IsClean s
StaysClean (Fails kind line) = ⊤
StaysClean (Asks q k) = IsClean q × ((r : State) → IsClean r → StaysClean (k r))
StaysClean (Reads bytes line k) = (ts : List Token) → Source ts → StaysClean (k ts)
StaysClean (Tests ws line k) = (z : ℤ) → StaysClean (k z)

either : {A : Type 0} (P : A → Type 0) (b : Bool) (x y : A) → P x → P y → P (if b then x else y)
either P true x y h k = h
either P false x y h k = k

-- ---- Lists

words-append : (ws vs : List Word) → Words ws → Words vs → Words (ws ++ vs)
words-append [] vs h k = k
words-append (w ∷ ws) vs h k = (h.0, words-append ws vs h.1 k)

words-reverse : (ws : List Word) → Words ws → Words (reverse ws)
words-reverse [] h = tt
words-reverse (w ∷ ws) h = subst Words (sym (reverse_onto ws w [])) (words-append (reverse ws) (w ∷ []) (words-reverse ws h.1) (h.0, tt))

lists-append : (ws vs : List (List Word)) → Lists ws → Lists vs → Lists (ws ++ vs)
lists-append [] vs h k = k
lists-append (w ∷ ws) vs h k = (h.0, lists-append ws vs h.1 k)

source-from : (ts : List Token) → AreOfSource ts → Source ts
source-from [] h = tt
source-from (t ∷ ts) h = (All-head (λ (t : Token). IsOfSource t.kind) t ts h, source-from ts (All-tail (λ (t : Token). IsOfSource t.kind) t ts h))

kinds-of : (ts : List Token) → Source ts → Kinds (kinds ts)
kinds-of [] h = tt
kinds-of (t ∷ ts) h = (h.0, kinds-of ts h.1)

rest-clean : (ts : List Token) → Source ts → Source (rest_of_line ts)
rest-clean [] h = tt
rest-clean (t ∷ ts) h = either Source t.first [] (t ∷ rest_of_line ts) tt (h.0, rest-clean ts h.1)

lines-clean : (ts : List Token) → Source ts → Source (next_lines ts)
lines-clean [] h = tt
lines-clean (t ∷ ts) h = either Source t.first (t ∷ ts) (next_lines ts) h (lines-clean ts h.1)

behind-clean : (ts : List Token) → Source ts → Source (behind ts)
behind-clean [] h = tt
behind-clean (t ∷ ts) h = h.1

-- ---- What comes out

one-more : (s : State) (w : Word) → IsClean s → IsOfSource w.kind → StaysClean (one_more s w)
one-more s w h u = either StaysClean (nat_le most_tokens (length s.out)) (Fails faults.TooManyTokens w.line) _ tt (h.0, h.1, h.2, (u, h.3), h.4)

with-text : (s : State) (t : List ℕ) (us : List Word) → IsClean s → Words us → StaysClean (with_text s t us)
with-text s t [] h k = h
with-text s t (u ∷ us) h k = either StaysClean (nat_lt longest_text (length t)) (Fails faults.Lex u.line) _ tt (h.0, h.1, h.2, (tt, k.1), h.4)

text-after : (s : State) (w : Word) (t : List ℕ) (o : Option (List ℕ)) → IsClean s → IsOfSource w.kind → StaysClean (text_after s w t o)
text-after s w t (Some before) h u = with-text s (before ++ t) s.out h h.3
text-after s w t None h u = either StaysClean (nat_lt longest_text (length t)) (Fails faults.Lex w.line) (one_more s w) tt (one-more s w h u)

out-by : (s : State) (w : Word) (o : Option (List ℕ)) → IsClean s → IsOfSource w.kind → StaysClean (out_by s w o)
out-by s w (Some t) h u = text-after s w t (last_text s.out) h u
out-by s w None h u = one-more s w h u

comes-out : (p : Purpose) (s : State) (w : Word) → IsClean s → IsOfSource w.kind → StaysClean (comes_out p s w)
comes-out purposes.File s w h u = out-by s w (text_of w.kind) h u
comes-out purposes.Argument s w h u = (h.0, h.1, h.2, (u, h.3), h.4)
comes-out purposes.Condition s w h u = (h.0, h.1, h.2, (u, h.3), h.4)

emits : (s : State) (w : Word) → IsClean s → IsOfSource w.kind → StaysClean (emit s w)
emits s w h u = comes-out s.purpose s w h u

-- ---- What is put in

abbrev InArgument : Option (List Word) → Type 0
InArgument None = ⊤
InArgument (Some a) = Words a

argument-of : (n : List ℕ) (ps : List (List ℕ)) (args : List (List Word)) → Lists args → InArgument (argument_of n ps args)
argument-of n [] args h = tt
argument-of n (p ∷ ps) [] h = tt
argument-of n (p ∷ ps) (a ∷ args) h = either InArgument (same_name n p) (Some a) (argument_of n ps args) h.0 (argument-of n ps args h.1)

argument-at : (k : TokenKind) (ps : List (List ℕ)) (args : List (List Word)) → Lists args → InArgument (argument_at k ps args)
argument-at (Name n) ps args h = argument-of n ps args h
argument-at (Text t) ps args h = tt
argument-at (Int n) ps args h = tt
argument-at (Mark m) ps args h = tt
argument-at (Bad k) ps args h = tt

put-arguments : (w : Word) (d : ℕ) (hidden : List (List ℕ)) (a : List Word) → Words a → Words (map (put_argument w d hidden) a)
put-arguments w d hidden [] h = tt
put-arguments w d hidden (x ∷ xs) h = (h.0, put-arguments w d hidden xs h.1)

put-words : (w : Word) (d : ℕ) (hidden : List (List ℕ)) (a : Option (List Word)) (k : TokenKind) → InArgument a → IsOfSource k → Words (put_words w d hidden a k)
put-words w d hidden (Some a) k h u = put-arguments w d hidden a h
put-words w d hidden None k h u = (u, tt)

filled-clean : (w : Word) (d : ℕ) (hidden ps : List (List ℕ)) (args : List (List Word)) (ks : List TokenKind) → Lists args → Kinds ks → Words (filled w d hidden ps args ks)
filled-clean w d hidden ps args [] h u = tt
filled-clean w d hidden ps args (k ∷ ks) h u =
    words-append (put_words w d hidden (argument_at k ps args) k) (filled w d hidden ps args ks)
    (put-words w d hidden (argument_at k ps args) k (argument-at k ps args h) u.0) (filled-clean w d hidden ps args ks h u.1)

tokens-of : (c : Setting) (w : Word) (b : Body) → InBody b → Kinds (tokens_of c w b)
tokens-of c w (Tokens ks) h = h
tokens-of c w File h = (tt, tt)
tokens-of c w Line h = (tt, tt)
tokens-of c w Folder h = (tt, tt)

put-back : (s : State) (w : Word) (ws : List Word) → IsClean s → Words ws → StaysClean (put_back s w ws)
put-back s w ws h k =
    either StaysClean (nat_lt most_put_in (s.put_in + (1 + length ws))) (Fails faults.TooManyTokens w.line) _ tt
    (h.0, words-append ws s.waiting k h.1, h.2, h.3, h.4)

expands : (c : Setting) (u : Use) (d : ℕ) (s : State) (done args : List (List Word)) → InUse u → IsClean s → Lists done → Lists args → StaysClean (expanded c u d s done args)
expands c u d s done [] v h k l = put-back s u.word (result_words c u d done) h (filled-clean u.word d _ u.params done (tokens_of c u.word u.body) k (tokens-of c u.word u.body v.1))
expands c u d s done (a ∷ args) v h k l =
    ((tt, l.0, tt, tt, h.4), λ r g. expands c u d (record s { put_in = r.put_in }) (done ++ reverse r.out ∷ []) args v h (lists-append done (reverse r.out ∷ []) k (words-reverse r.out g.3, tt)) l.1)

uses : (c : Setting) (u : Use) (s : State) (args : List (List Word)) → InUse u → IsClean s → Lists args → StaysClean (used c u s args)
uses c u s args v h l =
    either StaysClean (nat_lt deepest (depth_of s u.word)) (Fails faults.MacroDepth u.word.line) (expanded c u (depth_of s u.word) s [] args) tt
    (expands c u (depth_of s u.word) s [] args v h tt l)

-- ---- Reading a use

by-params : (c : Setting) (s : State) (w : Word) (m : Macro) (ps : Option (List (List ℕ))) → m.params ≡ ps → IsClean s → IsOfSource w.kind → InBody m.body → StaysClean (use_macro c s w (Some m))
by-params c s w m None e h u b = subst (λ o. StaysClean (use_macro c s w (Some (record { params = o; body = m.body })))) (sym e) (uses c (record { word = w; params = []; body = m.body }) s [] (u, b) h tt)
by-params c s w m (Some ps) e h u b = subst (λ o. StaysClean (use_macro c s w (Some (record { params = o; body = m.body })))) (sym e) ((u, b), h.1, h.2, h.3, h.4)

use-macro : (c : Setting) (s : State) (w : Word) (o : Option Macro) → IsClean s → IsOfSource w.kind → InMacro o → StaysClean (use_macro c s w o)
use-macro c s w None h u m = emits s w h u
use-macro c s w (Some m) h u b = by-params c s w m m.params refl h u b

read-name : (c : Setting) (s : State) (w : Word) (n : List ℕ) → IsClean s → IsOfSource w.kind → StaysClean (read_name c s w n)
read-name c s w n h u = either StaysClean (among n w.hidden) (emit s w) (use_macro c s w (macro_of n s.macros)) (emits s w h u) (use-macro c s w (macro_of n s.macros) h u (h.4 n))

abbrev IsAnswered : Option Asked → Type 0
IsAnswered None = ⊤
IsAnswered (Some d) = Words d.after

asked-name : (ms : Table) (o : Option (List ℕ)) (ws : List Word) → Words ws → IsAnswered (asked_name ms o ws)
asked-name ms (Some n) ws h = h
asked-name ms None ws h = tt

asked-within : (ms : Table) (ws : List Word) → Words ws → IsAnswered (asked_within ms ws)
asked-within ms [] h = tt
asked-within ms (v ∷ []) h = tt
asked-within ms (v ∷ x ∷ ws) h = either IsAnswered (is_close x.kind) (asked_name ms (name_of v.kind) ws) None (asked-name ms (name_of v.kind) ws h.1.1) tt

asked-clean : (ms : Table) (ws : List Word) → Words ws → IsAnswered (asked ms ws)
asked-clean ms [] h = tt
asked-clean ms (w ∷ ws) h = either IsAnswered (is_open w.kind) (asked_within ms ws) (asked_name ms (name_of w.kind) ws) (asked-within ms ws h.1) (asked-name ms (name_of w.kind) ws h.1)

truth-of-source : (b : Bool) → IsOfSource (truth b)
truth-of-source true = tt
truth-of-source false = tt

read-defined : (s : State) (w : Word) (o : Option Asked) → IsClean s → IsAnswered o → StaysClean (read_defined s w o)
read-defined s w None h k = tt
read-defined s w (Some d) h k = emits (record s { waiting = d.after }) (record w { kind = truth d.answer }) (h.0, k, h.2, h.3, h.4) (truth-of-source d.answer)

read-plain : (c : Setting) (s : State) (w : Word) (o : Option (List ℕ)) → IsClean s → IsOfSource w.kind → StaysClean (read_plain c s w o)
read-plain c s w None h u = emits s w h u
read-plain c s w (Some n) h u =
    either StaysClean (is_defined_word s.purpose n) (read_defined s w (asked s.macros s.waiting)) (read_name c s w n)
    (read-defined s w (asked s.macros s.waiting) h (asked-clean s.macros s.waiting h.1)) (read-name c s w n h u)

read-named : (s : State) (u : Use) (w : Word) → IsClean s → InUse u → IsOfSource w.kind → StaysClean (read_named s u w)
read-named s u w h v k =
    either StaysClean (is_open w.kind) (Goes (record s { reading = Within (record { usage = u; nested = 0; whole = []; current = [] }) })) (emit (record s { waiting = w ∷ s.waiting }) u.word)
    ((v, tt, tt), h.1, h.2, h.3, h.4) (emits (record s { waiting = w ∷ s.waiting }) u.word (h.0, (k, h.1), h.2, h.3, h.4) v.0)

all-of : (a : Arguments) → InArguments a → Lists (all_of a)
all-of a h = lists-append a.whole (a.current ∷ []) h.1 (h.2, tt)

given-clean : (ps : List (List ℕ)) (args : List (List Word)) → Lists args → Lists (given ps args)
given-clean [] [] h = h
given-clean [] ([] ∷ []) h = tt
given-clean [] ((w ∷ ws) ∷ []) h = h
given-clean [] ([] ∷ vs ∷ args) h = h
given-clean [] ((w ∷ ws) ∷ vs ∷ args) h = h
given-clean (p ∷ ps) args h = h

closes-use : (c : Setting) (s : State) (u : Use) (args : List (List Word)) → IsClean s → InUse u → Lists args → StaysClean (closed_use c s u args)
closes-use c s u args h v l = either StaysClean (length args == length u.params) (used c u s args) (Fails faults.MacroArgs u.word.line) (uses c u s args v h l) tt

argument-word : (s : State) (a : Arguments) (n : ℕ) (w : Word) → IsClean s → InArguments a → IsOfSource w.kind → StaysClean (argument_word s a n w)
argument-word s a n w h k u = ((k.0, k.1, words-append a.current (w ∷ []) k.2 (u, tt)), h.1, h.2, h.3, h.4)

within-by : (c : Setting) (s : State) (a : Arguments) (w : Word) (p : Part) → IsClean s → InArguments a → IsOfSource w.kind → StaysClean (within_by c s a w p)
within-by c s a w Closes h k u =
    either StaysClean (a.nested == 0) (closed_use c s a.usage (given a.usage.params (all_of a))) _
    (closes-use c s a.usage (given a.usage.params (all_of a)) h k.0 (given-clean a.usage.params (all_of a) (all-of a k))) (argument-word s a (a.nested - 1) w h k u)
within-by c s a w Parts h k u =
    either StaysClean (a.nested == 0) (Goes (record s { reading = Within (record a { whole = all_of a; current = [] }) })) (argument_word s a a.nested w)
    ((k.0, all-of a k, tt), h.1, h.2, h.3, h.4) (argument-word s a a.nested w h k u)
within-by c s a w Opens h k u = argument-word s a (a.nested + 1) w h k u
within-by c s a w Other h k u = argument-word s a a.nested w h k u

read-by : (c : Setting) (s : State) (w : Word) (r : Reading) → IsClean s → InReading r → IsOfSource w.kind → StaysClean (read_by c s w r)
read-by c s w Plain h k u = read-plain c s w (name_of w.kind) h u
read-by c s w (Named v) h k u = read-named s v w h k u
read-by c s w (Within a) h k u = within-by c s a w (part_of w.kind) h k u

reads-word : (c : Setting) (s : State) (w : Word) → IsClean s → IsOfSource w.kind → StaysClean (read c s w)
reads-word c s w h u = read-by c (record s { reading = Plain }) w s.reading (tt, h.1, h.2, h.3, h.4) h.0 u

end-by : (s : State) (r : Reading) → IsClean s → InReading r → StaysClean (end_by s r)
end-by s Plain h k = h
end-by s (Named u) h k = emits s u.word h k.0
end-by s (Within a) h k = tt

ends-clean : (s : State) → IsClean s → StaysClean (ended s)
ends-clean s h = end-by (record s { reading = Plain }) s.reading (tt, h.1, h.2, h.3, h.4) h.0

-- ---- Conditionals

in-first : (os : List Open) (gs : List Group) → InFiles os → InFiles (in_first os gs)
in-first [] gs h = tt
in-first (o ∷ os) gs h = h

groups-clean : (s : State) (gs : List Group) → IsClean s → StaysClean (with_groups s gs)
groups-clean s gs h = (h.0, h.1, in-first s.files gs h.2, h.3, h.4)

in-condition : (line : ℕ) (ts : List Token) → Source ts → Words (map (in_condition line) ts)
in-condition line [] h = tt
in-condition line (t ∷ ts) h = (h.0, in-condition line ts h.1)

tested-clean : (s : State) (ts : List Token) (line : ℕ) (k : State → Bool → Next) → IsClean s → Source ts → ((r : State) (b : Bool) → IsClean r → StaysClean (k r b)) → StaysClean (tested s ts line k)
tested-clean s ts line k h l g = ((tt, in-condition line ts l, tt, tt, h.4), λ r i z. g (record s { put_in = r.put_in }) (not (int_eq z (pos 0))) h)

if-name : (s : State) (gs : List Group) (o : Option (List ℕ)) (line : ℕ) (f : Bool → Bool) → IsClean s → StaysClean (if_name s gs o line f)
if-name s gs None line f h = tt
if-name s gs (Some n) line f h = groups-clean s (begun (f (is_defined n s.macros)) ∷ gs) h

unless-bad : (included : Option ℕ) (o : Option Token) (k : Next) → StaysClean k → StaysClean (unless_bad included o k)
unless-bad included (Some t) k h = tt
unless-bad included None k h = h

elif-waiting : (s : State) (included : Option ℕ) (g : Group) (gs : List Group) (ts : List Token) (line : ℕ) → IsClean s → Source ts → StaysClean (elif_waiting s included g gs ts line)
elif-waiting s included g gs ts line h l =
    unless-bad included (first_bad ts) _ (tested-clean s ts line (λ s b. with_groups s (record g { stage = stage_if b } ∷ gs)) h l (λ r b i. groups-clean r (record g { stage = stage_if b } ∷ gs) i))

by-stage : (s : State) (included : Option ℕ) (g : Group) (gs : List Group) (ts : List Token) (line : ℕ) (e : Stage) → g.stage ≡ e → IsClean s → Source ts → StaysClean (elif s included (g ∷ gs) ts line)
by-stage s included g gs ts line Waiting e h l = elim g.after_else as (λ b. StaysClean (elif s included (record { stage = g.stage; after_else = b; inner = g.inner } ∷ gs) ts line)) [
  | true ↦ tt
  | false ↦ subst (λ x. StaysClean (elif s included (record { stage = x; after_else = false; inner = g.inner } ∷ gs) ts line)) (sym e) (elif-waiting s included (record { stage = Waiting; after_else = false; inner = g.inner }) gs ts line h l)
]
by-stage s included g gs ts line Live e h l = elim g.after_else as (λ b. StaysClean (elif s included (record { stage = g.stage; after_else = b; inner = g.inner } ∷ gs) ts line)) [
  | true ↦ tt
  | false ↦ subst (λ x. StaysClean (elif s included (record { stage = x; after_else = false; inner = g.inner } ∷ gs) ts line)) (sym e) (groups-clean s _ h)
]
by-stage s included g gs ts line Done e h l = elim g.after_else as (λ b. StaysClean (elif s included (record { stage = g.stage; after_else = b; inner = g.inner } ∷ gs) ts line)) [
  | true ↦ tt
  | false ↦ subst (λ x. StaysClean (elif s included (record { stage = x; after_else = false; inner = g.inner } ∷ gs) ts line)) (sym e) (groups-clean s _ h)
]

elif-clean : (s : State) (included : Option ℕ) (gs : List Group) (ts : List Token) (line : ℕ) → IsClean s → Source ts → StaysClean (elif s included gs ts line)
elif-clean s included [] ts line h l = tt
elif-clean s included (g ∷ gs) ts line h l = by-stage s included g gs ts line g.stage refl h l

else-clean : (s : State) (gs : List Group) (ts : List Token) (line : ℕ) → IsClean s → StaysClean (else_line s gs ts line)
else-clean s [] ts line h = tt
else-clean s (g ∷ gs) ts line h =
    either StaysClean g.after_else (Fails faults.StrayElse line) _ tt
    (either StaysClean (has_rest g ts) (Fails faults.BadDirective line) _ tt (groups-clean s (record g { stage = stage_else g.stage; after_else = true } ∷ gs) h))

endif-clean : (s : State) (gs : List Group) (ts : List Token) (line : ℕ) → IsClean s → StaysClean (endif s gs ts line)
endif-clean s [] ts line h = tt
endif-clean s (g ∷ gs) ts line h = either StaysClean (has_rest g ts) (Fails faults.BadDirective line) (with_groups s gs) tt (groups-clean s gs h)

-- ---- Includes

include-bytes : (s : State) (path : List ℕ) (line : ℕ) (o : Option (List ℕ)) → IsClean s → StaysClean (include_bytes s path line o)
include-bytes s path line None h = tt
include-bytes s path line (Some bytes) h =
    either StaysClean (nat_lt most_included (length s.files)) (Fails faults.IncludeDepth line) _ tt
    (either StaysClean (nat_lt most_put_in (s.put_in + 1) || nat_lt most_bytes (length bytes)) (Fails faults.TooManyTokens line)
    (Reads bytes (Some line) (λ ts. Goes (record s { files = included path line ts ∷ s.files; put_in = s.put_in + 1 }))) tt (λ ts l. (h.0, h.1, (l, h.2), h.3, h.4)))

include-clean : (c : Setting) (s : State) (o : Option (List ℕ)) (line : ℕ) → IsClean s → StaysClean (include c s o line)
include-clean c s None line h = tt
include-clean c s (Some path) line h = include-bytes s path line (c.files path) h

-- ---- Definitions

abbrev InParameters : Option Parameters → Type 0
InParameters None = ⊤
InParameters (Some p) = Source p.after

more-by-two : (a b : Bool) (n : List ℕ) (names : List (List ℕ)) (t u : Token) (us : List Token) → new_name names (name_of t.kind) ≡ Some n → is_close u.kind ≡ a → is_comma u.kind ≡ b
    → Source us → InParameters (more_parameters (names ++ n ∷ []) us) → InParameters (more_parameters names (t ∷ u ∷ us))
more-by-two true b n names t u us e f g h k = rw (e, f) h
more-by-two false true n names t u us e f g h k = rw (e, f, g) k
more-by-two false false n names t u us e f g h k = rw (e, f, g) tt

more-by : (o : Option (List ℕ)) (names : List (List ℕ)) (t u : Token) (us : List Token) → new_name names (name_of t.kind) ≡ o → Source us
    → ((n : List ℕ) → InParameters (more_parameters (names ++ n ∷ []) us)) → InParameters (more_parameters names (t ∷ u ∷ us))
more-by None names t u us e h k = rw e tt
more-by (Some n) names t u us e h k = more-by-two (is_close u.kind) (is_comma u.kind) n names t u us e refl refl h (k n)

more-parameters : (names : List (List ℕ)) (ts : List Token) → Source ts → InParameters (more_parameters names ts)
more-parameters names [] h = tt
more-parameters names (t ∷ []) h = tt
more-parameters names (t ∷ u ∷ us) h = more-by (new_name names (name_of t.kind)) names t u us refl h.1.1 (λ n. more-parameters (names ++ n ∷ []) us h.1.1)

parameters-clean : (ts : List Token) → Source ts → InParameters (parameters ts)
parameters-clean [] h = tt
parameters-clean (t ∷ ts) h = either InParameters (is_close t.kind) (Some (record { names = []; after = ts })) (more_parameters [] (t ∷ ts)) h.1 (more-parameters [] (t ∷ ts) h)

with-parameters : (o : Option Parameters) → InParameters o → InMacro (with_parameters o)
with-parameters None h = tt
with-parameters (Some p) h = kinds-of p.after h

definition-clean : (bytes : List ℕ) (t : Token) (ts : List Token) → Source ts → InMacro (definition bytes t ts)
definition-clean bytes t [] h = tt
definition-clean bytes t (u ∷ us) h =
    either InMacro _ (with_parameters (parameters us)) (Some (plain (Tokens (kinds (u ∷ us))))) (with-parameters (parameters us) (parameters-clean us h.1)) (kinds-of (u ∷ us) h)

table-with : (n : List ℕ) (m : Macro) (ms : Table) → InBody m.body → InTable ms → InTable (with_macro n m ms)
table-with n m ms b h = λ q. either InMacro (same_name n q) (Some m) (ms q) b (h q)

table-without : (n : List ℕ) (ms : Table) → InTable ms → InTable (without n ms)
table-without n ms h = λ q. either InMacro (same_name n q) None (ms q) tt (h q)

defined-clean : (s : State) (n : List ℕ) (m : Macro) (line : ℕ) (o : Option Macro) → IsClean s → InBody m.body → StaysClean (defined s n m line o)
defined-clean s n m line None h b = (h.0, h.1, h.2, h.3, table-with n m s.macros b h.4)
defined-clean s n m line (Some old) h b = either StaysClean (same_macro old m) (Goes s) (Fails faults.BadDirective line) h tt

define-name : (s : State) (n : Option (List ℕ)) (m : Option Macro) (line : ℕ) → IsClean s → InMacro m → StaysClean (define_name s n m line)
define-name s (Some n) (Some m) line h b = defined-clean s n m line (macro_of n s.macros) h b
define-name s (Some n) None line h b = tt
define-name s None m line h b = tt

define-clean : (s : State) (bytes : List ℕ) (ts : List Token) (line : ℕ) → IsClean s → Source ts → StaysClean (define s bytes ts line)
define-clean s bytes [] line h l = tt
define-clean s bytes (t ∷ ts) line h l = define-name s (name_of t.kind) (definition bytes t ts) line h (definition-clean bytes t ts l.1)

undefine-clean : (s : State) (o : Option (List ℕ)) (line : ℕ) → IsClean s → StaysClean (undefine s o line)
undefine-clean s None line h = tt
undefine-clean s (Some n) line h = (h.0, h.1, h.2, h.3, table-without n s.macros h.4)

-- ---- One line

skipped-clean : (s : State) (o : Open) (d : Option Directive) (ts : List Token) (line : ℕ) → IsClean s → Source ts → StaysClean (skipped s o d ts line)
skipped-clean s o (Some says.If) ts line h l = groups-clean s (begun_inside ∷ o.groups) h
skipped-clean s o (Some says.Ifdef) ts line h l = groups-clean s (begun_inside ∷ o.groups) h
skipped-clean s o (Some says.Ifndef) ts line h l = groups-clean s (begun_inside ∷ o.groups) h
skipped-clean s o (Some says.Elif) ts line h l = elif-clean s o.included o.groups ts line h l
skipped-clean s o (Some says.Else) ts line h l = else-clean s o.groups ts line h
skipped-clean s o (Some says.Endif) ts line h l = endif-clean s o.groups ts line h
skipped-clean s o (Some says.Include) ts line h l = h
skipped-clean s o (Some says.Define) ts line h l = h
skipped-clean s o (Some says.Undef) ts line h l = h
skipped-clean s o (Some says.Error) ts line h l = h
skipped-clean s o (Some says.Pragma) ts line h l = h
skipped-clean s o None ts line h l = h

carried-clean : (c : Setting) (s : State) (o : Open) (d : Option Directive) (ts : List Token) (line : ℕ) → IsClean s → Source ts → StaysClean (carried_out c s o d ts line)
carried-clean c s o (Some says.If) ts line h l = tested-clean s ts line (λ s b. with_groups s (begun b ∷ o.groups)) h l (λ r b i. groups-clean r (begun b ∷ o.groups) i)
carried-clean c s o (Some says.Ifdef) ts line h l = if-name s o.groups (one_name ts) line (λ b. b) h
carried-clean c s o (Some says.Ifndef) ts line h l = if-name s o.groups (one_name ts) line not h
carried-clean c s o (Some says.Elif) ts line h l = elif-clean s o.included o.groups ts line h l
carried-clean c s o (Some says.Else) ts line h l = else-clean s o.groups ts line h
carried-clean c s o (Some says.Endif) ts line h l = endif-clean s o.groups ts line h
carried-clean c s o (Some says.Include) ts line h l = include-clean c s (path_of (folder o.path) (bytes_of c o) ts) line h
carried-clean c s o (Some says.Define) ts line h l = define-clean s (bytes_of c o) ts line h l
carried-clean c s o (Some says.Undef) ts line h l = undefine-clean s (one_name ts) line h
carried-clean c s o (Some says.Error) ts line h l = tt
carried-clean c s o (Some says.Pragma) ts line h l = (h.0, h.1, h.2, h.3, h.4)
carried-clean c s o None ts line h l = tt

directive-clean : (c : Setting) (s : State) (o : Open) (ts : List Token) (line : ℕ) → IsClean s → Source ts → StaysClean (directive c s o ts line)
directive-clean c s o ts line h l =
    either StaysClean (skips o.groups) (skipped s o (said ts) (behind ts) line) _
    (skipped-clean s o (said ts) (behind ts) line h (behind-clean ts l))
    (unless-bad o.included (first_bad ts) (carried_out c s o (said ts) (behind ts) line) (carried-clean c s o (said ts) (behind ts) line h (behind-clean ts l)))

-- ---- What comes next

closes-file : (s : State) (o : Open) (os : List Open) (gs : List Group) → IsClean s → InFiles os → StaysClean (closed_file s o os gs)
closes-file s o os [] h l = (h.0, h.1, l, h.3, h.4)
closes-file s o os (g ∷ gs) h l = tt

token-clean : (c : Setting) (s : State) (o : Open) (os : List Open) (t : Token) (ts : List Token) → IsClean s → InFiles os → IsOfSource t.kind → Source ts → StaysClean (token c s o os t ts)
token-clean c s o os t ts h l u k =
    either StaysClean (skips o.groups) (Goes (past s o os ts)) _ (h.0, h.1, (k, l), h.3, h.4)
    (either StaysClean (is_bad t.kind) (Fails faults.Lex (line_or o.included t.line)) (read c (past s o os ts) (word_of o t)) tt (reads-word c (past s o os ts) (word_of o t) (h.0, h.1, (k, l), h.3, h.4) u))

from-file : (c : Setting) (s : State) (o : Open) (os : List Open) (ts : List Token) → IsClean s → InFiles os → Source ts → StaysClean (from_file c s o os ts)
from-file c s o os [] h l k = closes-file s o os o.groups h l
from-file c s o os (t ∷ ts) h l k =
    either StaysClean (t.first && is_hash t.kind) (directive_line c s (record o { left = next_lines ts }) os (rest_of_line ts) (line_or o.included t.line)) (token c s o os t ts)
    (directive-clean c (record s { files = record o { left = next_lines ts } ∷ os }) (record o { left = next_lines ts }) (rest_of_line ts) (line_or o.included t.line)
    (h.0, h.1, (lines-clean ts k.1, l), h.3, h.4) (rest-clean ts k.1))
    (token-clean c s o os t ts h l k.0 k.1)

from-files : (c : Setting) (s : State) (os : List Open) → IsClean s → InFiles os → StaysClean (from_files c s os)
from-files c s [] h l = ends-clean s h
from-files c s (o ∷ os) h l = from-file c s o os o.left h l.1 l.0

from-waiting : (c : Setting) (s : State) (ws : List Word) → IsClean s → Words ws → StaysClean (from_waiting c s ws)
from-waiting c s [] h l = from-files c s s.files h h.2
from-waiting c s (w ∷ ws) h l = reads-word c (record s { waiting = ws }) w (h.0, l.1, h.2, h.3, h.4) l.0

next-clean : (c : Setting) (s : State) → IsClean s → StaysClean (next c s)
next-clean c s h = from-waiting c s s.waiting h h.1

-- ---- Where it leads

abbrev IsCleanEnd : Outcome → Type 0
IsCleanEnd (Whole s) = IsClean s
IsCleanEnd (Faulty kind line) = ⊤

leads-clean : {c : Setting} {n : Next} {o : Outcome} → LeadsTo c n o → StaysClean n → IsCleanEnd o
leads-clean ends h = h
leads-clean fails h = tt
leads-clean {c} (goes {s} l) h = leads-clean l (next-clean c s h)
leads-clean {c} (asks {q} {r} l m) h = leads-clean m (h.1 r (leads-clean l h.0))
leads-clean (asks_fault l) h = tt
leads-clean (reads {bytes} {ts = ts} x m) h = leads-clean m (h ts (source-from ts (lexed bytes ts x)))
leads-clean (reads_fault at kind f) h = tt
leads-clean (tests {z = z} v m) h = leads-clean m (h z)
leads-clean (tests_fault v) h = tt

-- ---- The whole

predefined-clean : InTable predefined
predefined-clean =
    table-with (codes "__LDMUD__") (plain (Tokens (Int (pos 1) ∷ []))) _ (tt, tt)
    (table-with (codes "LPC3") (plain (Tokens (Int (pos 1) ∷ []))) _ (tt, tt)
    (table-with (codes "__VERSION__") (plain (Tokens (Text (codes "3.6") ∷ []))) _ (tt, tt)
    (table-with (codes "__DIR__") (plain Folder) _ tt
    (table-with (codes "__LINE__") (plain Line) _ tt
    (table-with (codes "__FILE__") (plain File) no_macros tt (λ q. tt))))))

opening-bytes : (c : Setting) (bytes : List ℕ) → StaysClean (opening_bytes c bytes)
opening-bytes c bytes =
    either StaysClean (nat_lt most_bytes (length bytes)) (Fails faults.TooManyTokens 0) (Reads bytes None (λ ts. Goes (record begin { files = compiled c ts ∷ [] }))) tt
    (λ ts l. (tt, tt, (l, tt), tt, predefined-clean))

opening-found : (c : Setting) (o : Option (List ℕ)) → StaysClean (opening_found c o)
opening-found c None = tt
opening-found c (Some bytes) = opening-bytes c bytes

came-unsigned : (ws : List Word) → Words ws → AreUnsigned (map came_out ws)
came-unsigned [] h = All-nil (λ (t : Token). IsUnsigned t.kind)
came-unsigned (w ∷ ws) h = All-cons (λ (t : Token). IsUnsigned t.kind) (came_out w) (map came_out ws) (to-unsigned w.kind h.0) (came-unsigned ws h.1)

came-named : (ws : List Word) → Words ws → AreNamed (map came_out ws)
came-named [] h = All-nil (λ (t : Token). IsNamed t.kind)
came-named (w ∷ ws) h = All-cons (λ (t : Token). IsNamed t.kind) (came_out w) (map came_out ws) (to-named w.kind h.0) (came-named ws h.1)

-- the words that come out are as in a source
whole-clean : (c : Setting) (ts : List Token) (p : Pragmas) → (x : IsExpansion c ts p) → Words (reverse x.0.out)
whole-clean c ts p x = let clean : IsClean x.0 = leads-clean x.1 (opening-found c (c.files c.path)) in words-reverse x.0.out clean.3

pub expansion_unsigned : (c : Setting) (ts : List Token) (p : Pragmas) → IsExpansion c ts p → AreUnsigned ts
expansion_unsigned c ts p x = subst AreUnsigned x.2 (came-unsigned (reverse x.0.out) (whole-clean c ts p x))

pub expansion_named : (c : Setting) (ts : List Token) (p : Pragmas) → IsExpansion c ts p → AreNamed ts
expansion_named c ts p x = subst AreNamed x.2 (came-named (reverse x.0.out) (whole-clean c ts p x))
