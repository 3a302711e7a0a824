-- Runs of texts: the outputs that give one text of a transcript.
use Rattle.std.specs.Prelude.{◌≡◌, ℕ, ◌<◌, ◌≤◌, ◌||◌, List, [], ◌∷◌, ◌++◌, length, drop, flat_map, take_while, nat_eq, Bool, true, false, Result, Ok, Err}
use Rattle.lp_io.specs.declared.put.PutFault.{PutFault}
use Rattle.lp_events.specs.Transcript.{output_spelling, block}
use Rattle.lp_script.specs.Put.{Told, Puts}
use Rattle.lp_events.specs.declared.out.Out.{Out}
use Rattle.lp_events.specs.declared.out.Out.TheVariants.{Text, Hide, Show, Close, Log}

-- there is nothing in a text
abbrev pub is_empty : List ℕ → Bool
is_empty [] = true
is_empty (c ∷ text) = false

-- an output goes on with a text to a connection: it is a text to that one, or an empty one
abbrev pub goes_on : ℕ → Out → Bool
goes_on k (Text j text) = nat_eq k j || is_empty text
goes_on k (Hide j) = false
goes_on k (Show j) = false
goes_on k (Close j) = false
goes_on k (Log text) = false

-- the text that an output has for a connection
abbrev pub text_of : Out → List ℕ
text_of (Text j text) = text
text_of (Hide j) = []
text_of (Show j) = []
text_of (Close j) = []
text_of (Log text) = []

-- the texts of outputs, joined
abbrev pub texts : List Out → List ℕ
texts outs = flat_map text_of outs

-- how many outputs from the first on go on with a text to a connection
abbrev pub run_length : ℕ → List Out → ℕ
run_length k outs = length (take_while (goes_on k) outs)

-- what an output gives by itself: nothing where it is a text
abbrev pub alone : Out → List ℕ
alone (Text k text) = []
alone (Hide k) = output_spelling (Hide k)
alone (Show k) = output_spelling (Show k)
alone (Close k) = output_spelling (Close k)
alone (Log text) = output_spelling (Log text)

-- Of outputs the first n were written, as bytes with which their block begins; or the block was cut.
pub data Advances (before now : Told) (outs : List Out) : Result ℕ PutFault → Type 0 where
  wrote : (n : ℕ) (bytes : List ℕ) → 0 < n → n ≤ length outs → block outs ≡ bytes ++ block (drop n outs) → Puts before now (Ok tt) bytes → Advances before now outs (Ok n)
  failed : (e : PutFault) → Puts before now (Err e) (block outs) → Advances before now outs (Err e)
