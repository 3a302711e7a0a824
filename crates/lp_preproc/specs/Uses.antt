-- Macro uses: what a word does that comes next.
use Rattle.std.specs.Prelude.{ℕ, pos, ◌+◌, ◌-◌, max, List, [], ◌∷◌, ◌++◌, map, reverse, length, take, Bool, true, false, Option, Some, None, nat_lt, nat_le, ◌==◌, ◌&&◌, if◌then◌else◌, codes, chars}
use Rattle.lp_tree.specs.declared.fault.FaultKind.TheVariants as faults
use Rattle.lp_tree.specs.declared.token.TokenKind.{TokenKind}
use Rattle.lp_tree.specs.declared.token.TokenKind.TheVariants.{Name, Text, Int, Mark}
use Rattle.lp_tree.specs.declared.token.Mark.TheVariants.{OpenParen, CloseParen, Comma}
use Rattle.lp_preproc.specs.declared.macros.Macro.{Macro}
use Rattle.lp_preproc.specs.declared.macros.Body.{Body}
use Rattle.lp_preproc.specs.declared.macros.Body.TheVariants.{Tokens, File, Line, Folder}
use Rattle.lp_preproc.specs.declared.word.Word.{Word}
use Rattle.lp_preproc.specs.declared.state.Use.{Use}
use Rattle.lp_preproc.specs.Arguments.{Arguments}
use Rattle.lp_preproc.specs.declared.state.Reading.{Reading}
use Rattle.lp_preproc.specs.declared.state.Reading.TheVariants.{Plain, Named, Within}
use Rattle.lp_preproc.specs.declared.state.Part.{Part}
use Rattle.lp_preproc.specs.declared.state.Part.TheVariants.{Opens, Closes, Parts, Other}
use Rattle.lp_preproc.specs.declared.state.Purpose.{Purpose}
use Rattle.lp_preproc.specs.declared.state.Purpose.TheVariants as purposes
use Rattle.lp_preproc.specs.Macros.{same_name, among, with_name, with_names, macro_of, is_defined, Table}
use Rattle.lp_preproc.specs.State.{Setting, State, apart, Next, Goes, Ends, Fails, Asks}

-- what a file, a text and the macro uses of a file may have, and how deep a use may lie
abbrev pub most_tokens : ℕ
most_tokens = 200000

abbrev pub longest_text : ℕ
longest_text = 100000

abbrev pub most_put_in : ℕ
most_put_in = 1000000

abbrev pub deepest : ℕ
deepest = 64

-- some kinds of words
abbrev pub is_open : TokenKind → Bool
is_open (Mark OpenParen) = true
is_open _ = false

abbrev pub is_close : TokenKind → Bool
is_close (Mark CloseParen) = true
is_close _ = false

abbrev pub is_comma : TokenKind → Bool
is_comma (Mark Comma) = true
is_comma _ = false

-- what a word is to the arguments of a use
abbrev pub part_of : TokenKind → Part
part_of (Mark OpenParen) = Opens
part_of (Mark CloseParen) = Closes
part_of (Mark Comma) = Parts
part_of _ = Other

abbrev pub text_of : TokenKind → Option (List ℕ)
text_of (Text t) = Some t
text_of _ = None

abbrev pub name_of : TokenKind → Option (List ℕ)
name_of (Name n) = Some n
name_of _ = None

-- ---- What comes out

-- a word more, unless a file has as many as it may
abbrev pub one_more : State → Word → Next
one_more s w = if nat_le most_tokens (length s.out) then Fails faults.TooManyTokens w.line else Goes (record s { out = w ∷ s.out })

-- a text alone, if a text may be so long
abbrev pub lone_text : State → Word → List ℕ → Next
lone_text s w t = if nat_lt longest_text (length t) then Fails faults.Lex w.line else one_more s w

-- a text in the place of the last word, likewise
abbrev pub with_text : State → List ℕ → List Word → Next
with_text s t [] = Goes s
with_text s t (u ∷ us) = if nat_lt longest_text (length t) then Fails faults.Lex u.line else Goes (record s { out = record u { kind = Text t } ∷ us })

-- the text that the last word is
abbrev pub last_text : List Word → Option (List ℕ)
last_text [] = None
last_text (u ∷ us) = text_of u.kind

-- Neighbouring texts are one, at the place of the first.
abbrev pub text_after : State → Word → List ℕ → Option (List ℕ) → Next
text_after s w t (Some before) = with_text s (before ++ t) s.out
text_after s w t None = lone_text s w t

abbrev pub out_by : State → Word → Option (List ℕ) → Next
out_by s w (Some t) = text_after s w t (last_text s.out)
out_by s w None = one_more s w

-- a word comes out: of the file joined and counted, of a list as it is
abbrev pub comes_out : Purpose → State → Word → Next
comes_out purposes.File s w = out_by s w (text_of w.kind)
comes_out _ s w = Goes (record s { out = w ∷ s.out })

abbrev pub emit : State → Word → Next
emit s w = comes_out s.purpose s w

-- ---- What is put in

-- the argument of a parameter
abbrev pub argument_of : List ℕ → List (List ℕ) → List (List Word) → Option (List Word)
argument_of n [] args = None
argument_of n (p ∷ ps) [] = None
argument_of n (p ∷ ps) (a ∷ args) = if same_name n p then Some a else argument_of n ps args

-- What is put in for a use at a depth has the use's line, that depth, and the use's name is no macro in it.
abbrev pub put : Word → ℕ → List (List ℕ) → TokenKind → Word
put w d hidden k = record { kind = k; line = w.line; hidden = hidden; depth = d }

-- a word of an argument keeps what it has, too
abbrev pub put_argument : Word → ℕ → List (List ℕ) → Word → Word
put_argument w d hidden a = record { kind = a.kind; line = w.line; hidden = with_names a.hidden hidden; depth = max a.depth d }

abbrev pub put_words : Word → ℕ → List (List ℕ) → Option (List Word) → TokenKind → List Word
put_words w d hidden (Some a) k = map (put_argument w d hidden) a
put_words w d hidden None k = put w d hidden k ∷ []

abbrev pub argument_at : TokenKind → List (List ℕ) → List (List Word) → Option (List Word)
argument_at (Name n) ps args = argument_of n ps args
argument_at _ ps args = None

-- the body, the expanded arguments in the places of the parameters
abbrev pub filled : Word → ℕ → List (List ℕ) → List (List ℕ) → List (List Word) → List TokenKind → List Word
filled w d hidden ps args [] = []
filled w d hidden ps args (k ∷ ks) = put_words w d hidden (argument_at k ps args) k ++ filled w d hidden ps args ks

-- The folder of a path: up to its last `/`, that one included. It goes for the bytes and for the code points of a path.
abbrev pub folder_end : ℕ → ℕ → List ℕ → ℕ
folder_end end at [] = end
folder_end end at (c ∷ cs) = folder_end (if c == 47 then at + 1 else end) (at + 1) cs

abbrev pub folder : List ℕ → List ℕ
folder path = take (folder_end 0 0 path) path

-- The tokens of a body. The path, the line and the folder are those of the file that is compiled.
abbrev pub tokens_of : Setting → Word → Body → List TokenKind
tokens_of c w (Tokens ks) = ks
tokens_of c w File = Text (chars c.path) ∷ []
tokens_of c w Line = Int (pos w.line) ∷ []
tokens_of c w Folder = Text (folder (chars c.path)) ∷ []

-- so many are put in, if a file may have them
abbrev pub counted : State → ℕ → ℕ → Next
counted s n line = if nat_lt most_put_in (s.put_in + n) then Fails faults.TooManyTokens line else Goes (record s { put_in = s.put_in + n })

-- The result of a use: it is read again, together with what follows. The use itself counts one more.
abbrev pub put_back : State → Word → List Word → Next
put_back s w ws =
    if nat_lt most_put_in (s.put_in + (1 + length ws)) then Fails faults.TooManyTokens w.line
    else Goes (record s { waiting = ws ++ s.waiting; put_in = s.put_in + (1 + length ws) })

-- the names that are no macros in a result: those of the use, and its own
abbrev pub hidden_in : Word → Option (List ℕ) → List (List ℕ)
hidden_in w (Some n) = with_name n w.hidden
hidden_in w None = w.hidden

abbrev pub result_words : Setting → Use → ℕ → List (List Word) → List Word
result_words c u d args = filled u.word d (hidden_in u.word (name_of u.word.kind)) u.params args (tokens_of c u.word u.body)

-- how deep a use lies: one deeper than the one that put its name in, or than the one to whose argument it belongs
abbrev pub depth_of : State → Word → ℕ
depth_of s w = max w.depth s.least + 1

-- Each argument is expanded by itself, and then the result is put in.
abbrev pub expanded : Setting → Use → ℕ → State → List (List Word) → List (List Word) → Next
expanded c u d s done [] = put_back s u.word (result_words c u d done)
expanded c u d s done (a ∷ args) =
    Asks (apart purposes.Argument d s a) (λ r. expanded c u d (record s { put_in = r.put_in }) (done ++ reverse r.out ∷ []) args)

-- a use whose arguments are there: none lies deeper than 64
abbrev pub used : Setting → Use → State → List (List Word) → Next
used c u s args =
    if nat_lt deepest (depth_of s u.word) then Fails faults.MacroDepth u.word.line
    else expanded c u (depth_of s u.word) s [] args

-- ---- Reading a use

-- A macro without parameters is used at once; one with parameters where a `(` follows.
abbrev pub use_macro : Setting → State → Word → Option Macro → Next
use_macro c s w None = emit s w
use_macro c s w (Some m) = by_params m.params
  where
    by_params : Option (List (List ℕ)) → Next
    by_params None = used c (record { word = w; params = []; body = m.body }) s []
    by_params (Some ps) = Goes (record s { reading = Named (record { word = w; params = ps; body = m.body }) })

-- a name that came out of a macro of its own name stays as it is
abbrev pub read_name : Setting → State → Word → List ℕ → Next
read_name c s w n = if among n w.hidden then emit s w else use_macro c s w (macro_of n s.macros)

-- `defined N` and `defined(N)`: whether the name is a macro's, and what follows
pub record Asked : Type 0 where
  pub answer : Bool
  pub after : List Word

abbrev pub asked_name : Table → Option (List ℕ) → List Word → Option Asked
asked_name ms (Some n) ws = Some (record { answer = is_defined n ms; after = ws })
asked_name ms None ws = None

abbrev pub asked_within : Table → List Word → Option Asked
asked_within ms (v ∷ x ∷ ws) = if is_close x.kind then asked_name ms (name_of v.kind) ws else None
asked_within ms _ = None

abbrev pub asked : Table → List Word → Option Asked
asked ms [] = None
asked ms (w ∷ ws) = if is_open w.kind then asked_within ms ws else asked_name ms (name_of w.kind) ws

abbrev pub truth : Bool → TokenKind
truth b = Int (if b then pos 1 else pos 0)

abbrev pub read_defined : State → Word → Option Asked → Next
read_defined s w None = Fails faults.BadDirective w.line
read_defined s w (Some d) = emit (record s { waiting = d.after }) (record w { kind = truth d.answer })

-- in a condition `defined` is no name of a macro
abbrev pub is_condition : Purpose → Bool
is_condition purposes.Condition = true
is_condition _ = false

abbrev pub is_defined_word : Purpose → List ℕ → Bool
is_defined_word p n = is_condition p && same_name n (codes "defined")

abbrev pub read_plain : Setting → State → Word → Option (List ℕ) → Next
read_plain c s w None = emit s w
read_plain c s w (Some n) = if is_defined_word s.purpose n then read_defined s w (asked s.macros s.waiting) else read_name c s w n

-- Behind the name of a macro with parameters: without a `(` it is a name like any other.
abbrev pub read_named : State → Use → Word → Next
read_named s u w =
    if is_open w.kind then Goes (record s { reading = Within (record { usage = u; nested = 0; whole = []; current = [] }) })
    else emit (record s { waiting = w ∷ s.waiting }) u.word

-- the arguments; `F()` has none where there are no parameters, and else an empty one
abbrev pub all_of : Arguments → List (List Word)
all_of a = a.whole ++ a.current ∷ []

abbrev pub given : List (List ℕ) → List (List Word) → List (List Word)
given [] ([] ∷ []) = []
given ps args = args

-- as many arguments as parameters
abbrev pub closed : Setting → State → Use → List (List Word) → Next
closed c s u args = if length args == length u.params then used c u s args else Fails faults.MacroArgs u.word.line

-- a word of an argument, within so many parentheses
abbrev pub argument_word : State → Arguments → ℕ → Word → Next
argument_word s a n w = Goes (record s { reading = Within (record a { nested = n; current = a.current ++ w ∷ [] }) })

-- the `)` of the use, or of a pair of parentheses within an argument
abbrev pub close_within : Setting → State → Arguments → ℕ → Word → Next
close_within c s a n w =
    if n == 0 then closed c s a.usage (given a.usage.params (all_of a))
    else argument_word s a (n - 1) w

-- a comma parts arguments, or stands within one
abbrev pub comma_within : State → Arguments → ℕ → Word → Next
comma_within s a n w =
    if n == 0 then Goes (record s { reading = Within (record a { whole = all_of a; current = [] }) })
    else argument_word s a n w

-- Arguments are parted by commas outside parentheses, up to the `)` of the use.
abbrev pub within_by : Setting → State → Arguments → Word → Part → Next
within_by c s a w Closes = close_within c s a a.nested w
within_by c s a w Parts = comma_within s a a.nested w
within_by c s a w Opens = argument_word s a (a.nested + 1) w
within_by c s a w Other = argument_word s a a.nested w

abbrev pub read_within : Setting → State → Arguments → Word → Next
read_within c s a w = within_by c s a w (part_of w.kind)

-- A word that comes next: by what was being read, which it ends or goes on with.
abbrev pub read_by : Setting → State → Word → Reading → Next
read_by c s w Plain = read_plain c s w (name_of w.kind)
read_by c s w (Named u) = read_named s u w
read_by c s w (Within a) = read_within c s a w

abbrev pub read : Setting → State → Word → Next
read c s w = read_by c (record s { reading = Plain }) w s.reading

-- No word comes any more: a name without a `(` comes out, and arguments without a `)` are a fault.
abbrev pub end_by : State → Reading → Next
end_by s Plain = Ends s
end_by s (Named u) = emit s u.word
end_by s (Within a) = Fails faults.MacroArgs a.usage.word.line

abbrev pub ended : State → Next
ended s = end_by (record s { reading = Plain }) s.reading
