-- The records of faults.
use Rattle.std.proofs.Common.{◌≡◌, ◌∙◌, ◌++◌, ◌∷◌, ℕ, List, [], refl, ap, sym}
use Rattle.std.specs.Prelude.{codes, decimal}
use Rattle.std.specs.Str.{chars}
use Rattle.std.proofs.lemmas.List.{append_assoc, append-nil}
use Rattle.lp_events.specs.declared.out.Out.{Out}
use Rattle.lp_tree.specs.declared.fault.Fault.{Fault}
use Rattle.lp_tree.specs.declared.fault.FaultKind.{FaultKind}
use Rattle.lp_tree.specs.declared.fault.FaultKind.TheVariants.{NoFile, NoInclude, IncludeDepth, OpenIf, StrayElse, BadDirective, MacroArgs, MacroDepth, TooManyTokens, UserError, Lex, Unexpected, TooNested, UnknownName, UnknownFunction, WrongCount, WrongType, MissingType, DoubleName, DoubleCase, BadReturn, NomaskOverridden, NoInheritPragma, AmbiguousSuper, Cycle, InheritDepth, TooManyNames, Aborted}
use Rattle.lp_tree.specs.FaultText.{text_of}
use Rattle.lp_world.specs.Closed.{IsClosed}
use Rattle.lp_world.specs.declared.live.Live.{Live}
use Rattle.lp_loading.specs.Faults.{fault_text}

pub chars-line : chars (codes " line ") ≡ codes " line "
unfolding chars
chars-line = refl

pub chars-colon : chars (codes ": ") ≡ codes ": "
unfolding chars
chars-colon = refl

-- the text of a fault has letters of ASCII alone
pub chars-text : (k : FaultKind) → chars (text_of k) ≡ text_of k
unfolding chars
chars-text NoFile = refl
chars-text NoInclude = refl
chars-text IncludeDepth = refl
chars-text OpenIf = refl
chars-text StrayElse = refl
chars-text BadDirective = refl
chars-text MacroArgs = refl
chars-text MacroDepth = refl
chars-text TooManyTokens = refl
chars-text UserError = refl
chars-text Lex = refl
chars-text Unexpected = refl
chars-text TooNested = refl
chars-text UnknownName = refl
chars-text UnknownFunction = refl
chars-text WrongCount = refl
chars-text WrongType = refl
chars-text MissingType = refl
chars-text DoubleName = refl
chars-text DoubleCase = refl
chars-text BadReturn = refl
chars-text NomaskOverridden = refl
chars-text NoInheritPragma = refl
chars-text AmbiguousSuper = refl
chars-text Cycle = refl
chars-text InheritDepth = refl
chars-text TooManyNames = refl
chars-text Aborted = refl

-- five parts behind others, one after another
five : (t0 t1 t2 t3 t4 t5 a b c d e : List ℕ) → t1 ≡ t0 ++ a → t2 ≡ t1 ++ b → t3 ≡ t2 ++ c → t4 ≡ t3 ++ d → t5 ≡ t4 ++ e → t5 ≡ t0 ++ (a ++ b ++ c ++ d ++ e)
five t0 t1 t2 t3 t4 t5 a b c d e p q r s u =
    u ∙ ap (λ l. l ++ e) (s ∙ ap (λ l. l ++ d) (r ∙ ap (λ l. l ++ c) (q ∙ ap (λ l. l ++ b) p))) ∙ simp append_assoc

pub fault_put : (t0 t1 t2 t3 t4 t5 : List ℕ) (f : Fault) → t1 ≡ t0 ++ chars f.file → t2 ≡ t1 ++ chars (codes " line ") → t3 ≡ t2 ++ decimal f.line → t4 ≡ t3 ++ chars (codes ": ") → t5 ≡ t4 ++ chars (text_of f.kind) → t5 ≡ t0 ++ fault_text f
fault_put t0 t1 t2 t3 t4 t5 f p q r s u =
    five t0 t1 t2 t3 t4 t5 (chars f.file) (codes " line ") (decimal f.line) (codes ": ") (text_of f.kind) p (q ∙ ap (λ l. t1 ++ l) chars-line) r (s ∙ ap (λ l. t3 ++ l) chars-colon) (u ∙ ap (λ l. t4 ++ l) (chars-text f.kind))

-- outputs are not part of what is closed
pub closed_told : (live : Live) (os : List Out) → IsClosed live → IsClosed (record live { outputs = os })
closed_told live os c = record {
  clock = c.clock;
  cells = c.cells;
  objects = c.objects;
  apart = c.apart;
  versions = c.versions;
  call_outs = c.call_outs;
  waiting = c.waiting;
  placed = c.placed;
  numbered = c.numbered;
  room = c.room;
}

-- one record and then the others
pub more_told : (live live1 live2 : Live) (o : Out) (os : List Out) → live1 ≡ record live { outputs = live.outputs ++ o ∷ [] } → live2 ≡ record live1 { outputs = live1.outputs ++ os } → live2 ≡ record live { outputs = live.outputs ++ o ∷ os }
more_told live live1 live2 o os e f =
    f ∙ ap (λ (l : Live). record l { outputs = l.outputs ++ os }) e ∙ ap (λ l. record live { outputs = l }) (append_assoc live.outputs (o ∷ []) os)

pub none_told : (live : Live) → live ≡ record live { outputs = live.outputs ++ [] }
none_told live = ap (λ l. record live { outputs = l }) (sym (append-nil live.outputs))
