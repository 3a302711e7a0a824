-- Directives: what a line does that begins with `#`.
use Rattle.std.specs.Prelude.{◌≡◌, ℕ, pos, ◌+◌, ◌-◌, List, [], ◌∷◌, ◌++◌, map, reverse, length, take, drop, Bool, true, false, Option, Some, None, nat_lt, ◌==◌, ◌&&◌, ◌||◌, not, if◌then◌else◌, codes, encode_utf8_all, unwrap_or}
use Rattle.std.specs.Ordering.{int_eq}
use Rattle.lp_tree.specs.declared.fault.FaultKind.TheVariants as faults
use Rattle.lp_tree.specs.declared.pragma.Pragmas.{Pragmas}
use Rattle.lp_tree.specs.declared.pragma.TypeMode.TheVariants.{Weak, Strong, Strict}
use Rattle.lp_tree.specs.declared.token.Token.{Token}
use Rattle.lp_tree.specs.declared.token.TokenKind.{TokenKind}
use Rattle.lp_tree.specs.declared.token.TokenKind.TheVariants.{Mark, Bad}
use Rattle.lp_tree.specs.declared.token.Mark.TheVariants.{Hash, Binary}
use Rattle.lp_tree.specs.declared.operator.BinOp.TheVariants.{Lt, Gt}
use Rattle.lp_lexer.specs.Source.{joins, most_bytes}
use Rattle.lp_preproc.specs.declared.macros.Macro.{Macro}
use Rattle.lp_preproc.specs.declared.macros.Body.TheVariants.{Tokens}
use Rattle.lp_preproc.specs.declared.word.Word.{Word}
use Rattle.lp_preproc.specs.declared.definitions.ParameterStep.{ParameterStep}
use Rattle.lp_preproc.specs.declared.definitions.ParameterStep.TheVariants as step
use Rattle.lp_preproc.specs.declared.directive.Directive.{Directive}
use Rattle.lp_preproc.specs.declared.directive.Directive.TheVariants as says
use Rattle.lp_preproc.specs.declared.state.Group.{Group}
use Rattle.lp_preproc.specs.declared.state.Stage.{Stage}
use Rattle.lp_preproc.specs.declared.state.Stage.TheVariants.{Waiting, Live, Done}
use Rattle.lp_preproc.specs.declared.state.Purpose.TheVariants as purposes
use Rattle.lp_preproc.specs.Macros.{same_name, among, macro_of, is_defined, with_macro, without, same_macro, plain}
use Rattle.lp_preproc.specs.State.{Setting, Open, State, apart, Next, Goes, Fails, Asks, Reads, Tests, line_or, skips}
use Rattle.lp_preproc.specs.Uses.{is_open, is_close, is_comma, text_of, name_of, folder, most_put_in}

-- how deep included files may lie
abbrev pub most_included : ℕ
most_included = 32

-- ---- The line of a directive

-- the tokens up to the next that is the first of a line, and those from it on
abbrev pub rest_of_line : List Token → List Token
rest_of_line [] = []
rest_of_line (t ∷ ts) = if t.first then [] else (t ∷ rest_of_line ts)

abbrev pub next_lines : List Token → List Token
next_lines [] = []
next_lines (t ∷ ts) = if t.first then (t ∷ ts) else next_lines ts

-- whether the next token stands on the line
abbrev pub goes_on : List Token → Bool
goes_on [] = false
goes_on (t ∷ ts) = not t.first

abbrev pub is_hash : TokenKind → Bool
is_hash (Mark Hash) = true
is_hash _ = false

abbrev pub is_bad : TokenKind → Bool
is_bad (Bad k) = true
is_bad _ = false

-- the first that is no token
abbrev pub first_bad : List Token → Option Token
first_bad [] = None
first_bad (t ∷ ts) = if is_bad t.kind then Some t else first_bad ts

-- the names of the directives
abbrev pub other_of : List ℕ → Option Directive
other_of n =
    if same_name n (codes "include") then Some says.Include
    else (if same_name n (codes "define") then Some says.Define
    else (if same_name n (codes "undef") then Some says.Undef
    else (if same_name n (codes "error") then Some says.Error
    else (if same_name n (codes "pragma") then Some says.Pragma
    else None))))

abbrev pub directive_of : List ℕ → Option Directive
directive_of n =
    if same_name n (codes "if") then Some says.If
    else (if same_name n (codes "ifdef") then Some says.Ifdef
    else (if same_name n (codes "ifndef") then Some says.Ifndef
    else (if same_name n (codes "elif") then Some says.Elif
    else (if same_name n (codes "else") then Some says.Else
    else (if same_name n (codes "endif") then Some says.Endif
    else other_of n)))))

abbrev pub named : Option (List ℕ) → Option Directive
named (Some n) = directive_of n
named None = None

-- what the words behind a `#` say, and the words behind that
abbrev pub said : List Token → Option Directive
said [] = None
said (t ∷ ts) = named (name_of t.kind)

abbrev pub behind : List Token → List Token
behind [] = []
behind (t ∷ ts) = ts

-- the one name of a line
abbrev pub one_name : List Token → Option (List ℕ)
one_name (t ∷ []) = name_of t.kind
one_name _ = None

-- ---- Conditionals

-- with these conditionals open in the innermost file
abbrev pub in_first : List Open → List Group → List Open
in_first [] gs = []
in_first (o ∷ os) gs = record o { groups = gs } ∷ os

abbrev pub with_groups : State → List Group → Next
with_groups s gs = Goes (record s { files = in_first s.files gs })

abbrev pub stage_if : Bool → Stage
stage_if b = if b then Live else Waiting

-- a conditional begins; one in a skipped group has nothing that is read
abbrev pub begun : Bool → Group
begun b = record { stage = stage_if b; after_else = false; inner = false }

abbrev pub begun_inside : Group
begun_inside = record { stage = Done; after_else = false; inner = true }

-- Whether a condition is not 0. Its words are expanded by themselves, with `defined`, on the line of the directive.
abbrev pub in_condition : ℕ → Token → Word
in_condition line t = record { kind = t.kind; line = line; hidden = []; depth = 0 }

abbrev pub tested : State → List Token → ℕ → (State → Bool → Next) → Next
tested s ts line k =
    Asks (apart purposes.Condition 0 s (map (in_condition line) ts)) (λ r. Tests (reverse r.out) line (λ z. k (record s { put_in = r.put_in }) (not (int_eq z (pos 0)))))

abbrev pub if_name : State → List Group → Option (List ℕ) → ℕ → (Bool → Bool) → Next
if_name s gs None line f = Fails faults.BadDirective line
if_name s gs (Some n) line f = with_groups s (begun (f (is_defined n s.macros)) ∷ gs)

-- what is no token in a condition is a fault of its own line
abbrev pub unless_bad : Option ℕ → Option Token → Next → Next
unless_bad included (Some t) k = Fails faults.Lex (line_or included t.line)
unless_bad included None k = k

-- `#elif` is looked at only where no group was read yet
abbrev pub elif_waiting : State → Option ℕ → Group → List Group → List Token → ℕ → Next
elif_waiting s included g gs ts line = unless_bad included (first_bad ts) (tested s ts line (λ s b. with_groups s (record g { stage = stage_if b } ∷ gs)))

abbrev pub elif : State → Option ℕ → List Group → List Token → ℕ → Next
elif s included [] ts line = Fails faults.StrayElse line
elif s included (g ∷ gs) ts line = if g.after_else then Fails faults.StrayElse line else by_stage g.stage
  where
    by_stage : Stage → Next
    by_stage Waiting = elif_waiting s included g gs ts line
    by_stage _ = with_groups s (record g { stage = Done } ∷ gs)

-- `#else` is read where no group was; nothing may follow it, but in a skipped group
abbrev pub stage_else : Stage → Stage
stage_else Waiting = Live
stage_else _ = Done

abbrev pub has_rest : Group → List Token → Bool
has_rest g [] = false
has_rest g (t ∷ ts) = not g.inner

abbrev pub else_line : State → List Group → List Token → ℕ → Next
else_line s [] ts line = Fails faults.StrayElse line
else_line s (g ∷ gs) ts line =
    if g.after_else then Fails faults.StrayElse line
    else (if has_rest g ts then Fails faults.BadDirective line
    else with_groups s (record g { stage = stage_else g.stage; after_else = true } ∷ gs))

abbrev pub endif : State → List Group → List Token → ℕ → Next
endif s [] ts line = Fails faults.StrayElse line
endif s (g ∷ gs) ts line = if has_rest g ts then Fails faults.BadDirective line else with_groups s gs

-- ---- Includes

-- the bytes of an open file
abbrev pub bytes_of : Setting → Open → List ℕ
bytes_of c o = unwrap_or (c.files o.path) []

abbrev pub is_less : TokenKind → Bool
is_less (Mark (Binary Lt)) = true
is_less _ = false

abbrev pub is_greater : TokenKind → Bool
is_greater (Mark (Binary Gt)) = true
is_greater _ = false

-- bytes without those that join two lines
abbrev pub unjoined : List ℕ → List ℕ
unjoined [] = []
unjoined (b ∷ []) = b ∷ []
unjoined (b ∷ d ∷ bs) = if joins b d then unjoined bs else (b ∷ unjoined (d ∷ bs))

-- the bytes between two tokens
abbrev pub between : List ℕ → Token → Token → List ℕ
between bytes t u = unjoined (take (u.at - (t.at + t.len)) (drop (t.at + t.len) bytes))

-- `"p"` is `p` where it begins with `/`, and else beside the including file
abbrev pub beside : List ℕ → List ℕ → List ℕ
beside folder [] = folder
beside folder (b ∷ bs) = if b == 47 then (b ∷ bs) else folder ++ (b ∷ bs)

-- `<p>` is `/sys/p`; p is what stands between the first `<` and a last `>`
abbrev pub last_of : Token → List Token → Token
last_of t [] = t
last_of t (u ∷ us) = last_of u us

abbrev pub in_sys : List ℕ → Token → Token → Option (List ℕ)
in_sys bytes t u = if is_less t.kind && is_greater u.kind then Some (codes "/sys/" ++ between bytes t u) else None

abbrev pub quoted : List ℕ → Option (List ℕ) → Option (List ℕ)
quoted folder (Some p) = Some (beside folder (encode_utf8_all p))
quoted folder None = None

abbrev pub path_of : List ℕ → List ℕ → List Token → Option (List ℕ)
path_of folder bytes [] = None
path_of folder bytes (t ∷ []) = quoted folder (text_of t.kind)
path_of folder bytes (t ∷ u ∷ us) = in_sys bytes t (last_of u us)

-- an included file is opened before what follows its `#include`
abbrev pub included : List ℕ → ℕ → List Token → Open
included path line ts = record { path = path; left = ts; groups = []; included = Some line; last_line = line }

-- At most 32 included files are open, each counts as one token that is put in, and none is too large.
abbrev pub include_bytes : State → List ℕ → ℕ → Option (List ℕ) → Next
include_bytes s path line None = Fails faults.NoInclude line
include_bytes s path line (Some bytes) =
    if nat_lt most_included (length s.files) then Fails faults.IncludeDepth line
    else (if nat_lt most_put_in (s.put_in + 1) || nat_lt most_bytes (length bytes) then Fails faults.TooManyTokens line
    else Reads bytes (Some line) (λ ts. Goes (record s { files = included path line ts ∷ s.files; put_in = s.put_in + 1 })))

abbrev pub include : Setting → State → Option (List ℕ) → ℕ → Next
include c s None line = Fails faults.BadDirective line
include c s (Some path) line = include_bytes s path line (c.files path)

-- ---- Definitions

-- parameters, and the tokens behind them
pub record Parameters : Type 0 where
  pub names : List (List ℕ)
  pub after : List Token

abbrev pub new_name : List (List ℕ) → Option (List ℕ) → Option (List ℕ)
new_name names None = None
new_name names (Some n) = if among n names then None else Some n

-- names, each another, parted by commas, up to the `)`
abbrev pub more_parameters : List (List ℕ) → List Token → Option Parameters
more_parameters names [] = None
more_parameters names (t ∷ []) = None
more_parameters names (t ∷ u ∷ us) = by_name (new_name names (name_of t.kind)) (λ done. more_parameters done us)
  where
    by_name : Option (List ℕ) → (List (List ℕ) → Option Parameters) → Option Parameters
    by_name None more = None
    by_name (Some n) more =
        if is_close u.kind then Some (record { names = names ++ n ∷ []; after = us })
        else (if is_comma u.kind then more (names ++ n ∷ []) else None)

-- a token was one more parameter, or it could not be
abbrev pub IsParameter : List (List ℕ) → Option (List ℕ) → List (List ℕ) → Bool → Type 0
IsParameter old n new true = (m : List ℕ) × (new_name old n ≡ Some m) × (new ≡ old ++ m ∷ [])
IsParameter old n new false = new_name old n ≡ None

-- what stands behind a parameter
abbrev pub step_by : TokenKind → ParameterStep
step_by k = if is_close k then step.Ends else (if is_comma k then step.GoesOn else step.Bad)

-- a parameter and what stands behind it: the last one, one more, or none
abbrev pub IsParameterStep : List (List ℕ) → Token → Token → List (List ℕ) → ParameterStep → Type 0
IsParameterStep old t u new step.Ends = (us : List Token) → more_parameters old (t ∷ u ∷ us) ≡ Some (record { names = new; after = us })
IsParameterStep old t u new step.GoesOn = (us : List Token) → more_parameters old (t ∷ u ∷ us) ≡ more_parameters new us
IsParameterStep old t u new step.Bad = (us : List Token) → more_parameters old (t ∷ u ∷ us) ≡ None

-- the parameters of these words, and the place behind them
abbrev pub AreParameters : List Token → Option Parameters → Option (List (List ℕ) × ℕ) → Type 0
AreParameters ts ps None = ps ≡ None
AreParameters ts ps (Some r) = ps ≡ Some (record { names = r.0; after = drop r.1 ts })

abbrev pub parameters : List Token → Option Parameters
parameters [] = None
parameters (t ∷ ts) = if is_close t.kind then Some (record { names = []; after = ts }) else more_parameters [] (t ∷ ts)

-- nothing stands between the name and the parenthesis, but where two lines are joined
abbrev pub is_directly_behind : List ℕ → Token → Token → Bool
is_directly_behind bytes t u = length (between bytes t u) == 0

abbrev pub kinds : List Token → List TokenKind
kinds ts = map (λ (t : Token). t.kind) ts

abbrev pub with_parameters : Option Parameters → Option Macro
with_parameters None = None
with_parameters (Some p) = Some (record { params = Some p.names; body = Tokens (kinds p.after) })

abbrev pub definition : List ℕ → Token → List Token → Option Macro
definition bytes t [] = Some (plain (Tokens []))
definition bytes t (u ∷ us) =
    if is_open u.kind && is_directly_behind bytes t u then with_parameters (parameters us) else Some (plain (Tokens (kinds (u ∷ us))))

-- A name may be defined again with the same parameters and tokens.
abbrev pub defined : State → List ℕ → Macro → ℕ → Option Macro → Next
defined s n m line None = Goes (record s { macros = with_macro n m s.macros })
defined s n m line (Some old) = if same_macro old m then Goes s else Fails faults.BadDirective line

abbrev pub define_name : State → Option (List ℕ) → Option Macro → ℕ → Next
define_name s (Some n) (Some m) line = defined s n m line (macro_of n s.macros)
define_name s _ _ line = Fails faults.BadDirective line

abbrev pub define : State → List ℕ → List Token → ℕ → Next
define s bytes [] line = Fails faults.BadDirective line
define s bytes (t ∷ ts) line = define_name s (name_of t.kind) (definition bytes t ts) line

abbrev pub undefine : State → Option (List ℕ) → ℕ → Next
undefine s None line = Fails faults.BadDirective line
undefine s (Some n) line = Goes (record s { macros = without n s.macros })

-- ---- Pragmas

-- other words are ignored
abbrev pub with_pragma : Pragmas → List ℕ → Pragmas
with_pragma p n =
    if same_name n (codes "no_clone") then record p { no_clone = true }
    else (if same_name n (codes "no_inherit") then record p { no_inherit = true }
    else (if same_name n (codes "no_shadow") then record p { no_shadow = true }
    else (if same_name n (codes "weak_types") then record p { types = Weak }
    else (if same_name n (codes "strong_types") then record p { types = Strong }
    else (if same_name n (codes "strict_types") then record p { types = Strict }
    else p)))))

abbrev pub with_named : Pragmas → Option (List ℕ) → Pragmas
with_named p None = p
with_named p (Some n) = with_pragma p n

abbrev pub with_pragmas : Pragmas → List Token → Pragmas
with_pragmas p [] = p
with_pragmas p (t ∷ ts) = with_pragmas (with_named p (name_of t.kind)) ts

-- ---- One line

-- whether a directive asks for neither a condition nor a file
abbrev pub asks_nothing : Directive → Bool
asks_nothing says.If = false
asks_nothing says.Elif = false
asks_nothing says.Include = false
asks_nothing _ = true

-- whether a line says `#elif`
abbrev pub is_elif_line : Option Directive → Bool
is_elif_line (Some says.Elif) = true
is_elif_line _ = false

-- In a skipped group only the directives of conditionals are looked at.
abbrev pub skipped : State → Open → Option Directive → List Token → ℕ → Next
skipped s o (Some says.If) ts line = with_groups s (begun_inside ∷ o.groups)
skipped s o (Some says.Ifdef) ts line = with_groups s (begun_inside ∷ o.groups)
skipped s o (Some says.Ifndef) ts line = with_groups s (begun_inside ∷ o.groups)
skipped s o (Some says.Elif) ts line = elif s o.included o.groups ts line
skipped s o (Some says.Else) ts line = else_line s o.groups ts line
skipped s o (Some says.Endif) ts line = endif s o.groups ts line
skipped s o _ ts line = Goes s

-- What a directive does; each that is none of these is bad.
abbrev pub carried_out : Setting → State → Open → Option Directive → List Token → ℕ → Next
carried_out c s o (Some says.If) ts line = tested s ts line (λ s b. with_groups s (begun b ∷ o.groups))
carried_out c s o (Some says.Ifdef) ts line = if_name s o.groups (one_name ts) line (λ b. b)
carried_out c s o (Some says.Ifndef) ts line = if_name s o.groups (one_name ts) line not
carried_out c s o (Some says.Elif) ts line = elif s o.included o.groups ts line
carried_out c s o (Some says.Else) ts line = else_line s o.groups ts line
carried_out c s o (Some says.Endif) ts line = endif s o.groups ts line
carried_out c s o (Some says.Include) ts line = include c s (path_of (folder o.path) (bytes_of c o) ts) line
carried_out c s o (Some says.Define) ts line = define s (bytes_of c o) ts line
carried_out c s o (Some says.Undef) ts line = undefine s (one_name ts) line
carried_out c s o (Some says.Error) ts line = Fails faults.UserError line
carried_out c s o (Some says.Pragma) ts line = Goes (record s { pragmas = with_pragmas s.pragmas ts })
carried_out c s o None ts line = Fails faults.BadDirective line

-- The line of a directive, whose words stand behind its `#`. Outside skipped groups what is no token is refused first.
abbrev pub directive : Setting → State → Open → List Token → ℕ → Next
directive c s o ts line =
    if skips o.groups then skipped s o (said ts) (behind ts) line
    else unless_bad o.included (first_bad ts) (carried_out c s o (said ts) (behind ts) line)
