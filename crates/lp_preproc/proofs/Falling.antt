-- Each word of an expansion leaves less to do.
use Rattle.std.proofs.Common.{◌≡◌, ℕ, ◌+◌, ◌-◌, ◌*◌, ◌≤◌, ◌<◌, Bool, true, false, List, [], ◌∷◌, ◌++◌, length, length-append, Option, None, Some, refl, arith}
use Rattle.std.specs.Prelude.{nat_lt, nat_le, ◌==◌, if◌then◌else◌, reverse}
use Rattle.lp_preproc.specs.declared.macros.Macro.{Macro}
use Rattle.lp_preproc.specs.declared.word.Word.{Word}
use Rattle.lp_preproc.specs.declared.state.Use.{Use}
use Rattle.lp_preproc.specs.Arguments.{Arguments}
use Rattle.lp_preproc.specs.declared.state.Reading.{Reading}
use Rattle.lp_preproc.specs.declared.state.Reading.TheVariants.{Plain, Named, Within}
use Rattle.lp_preproc.specs.declared.state.Part.{Part}
use Rattle.lp_preproc.specs.declared.state.Part.TheVariants.{Opens, Closes, Parts, Other}
use Rattle.lp_preproc.specs.declared.state.Purpose.{Purpose}
use Rattle.lp_preproc.specs.declared.state.Purpose.TheVariants as purposes
use Rattle.lp_preproc.specs.Macros.{Table, macro_of, among}
use Rattle.lp_preproc.specs.declared.source.Open.{Open}
use Rattle.lp_preproc.specs.State.{Setting, State, Next, Goes}
use Rattle.lp_preproc.specs.Falls.{level_of, level, room, left_in, held, light, Falls, goes, ends, fails, asks}
use Rattle.lp_preproc.specs.Uses

-- what was put in stands, and what is left is less
lighter : (r s l k : ℕ) → r ≤ s → l < k → 33554433 * r + l < 33554433 * s + k
lighter r s l k h g = omega (arith, h, g)

-- something was put in, which brought no more than it weighs
pub fuller : (r s l k : ℕ) → r < s → l ≤ k + 33554432 → 33554433 * r + l < 33554433 * s + k
fuller r s l k h g = omega (arith, h, g)

-- a state was reached from another, where nothing was taken back; and so much less is left to read
abbrev pub Near : State → State → Type 0
Near a s = (level s ≤ level a) × (a.put_in ≤ s.put_in)

abbrev pub Below : State → ℕ → State → Type 0
Below a k s = (level s ≤ level a) × (a.put_in ≤ s.put_in) × (light s + k ≤ light a)

pub on : (a t : State) → Below a 1 t → Falls a (Goes t)
on a t h = goes (h.0, h.1, lighter (room t) (room a) (light t) (light a) (omega (arith, h.1)) (omega (arith, h.2)))

pub either : (a : State) (b : Bool) (m n : Next) → Falls a m → Falls a n → Falls a (if b then m else n)
either a true m n f g = f
either a false m n f g = g

pub either_by : (a : State) (b : Bool) (m n : Next) → (b ≡ true → Falls a m) → (b ≡ false → Falls a n) → Falls a (if b then m else n)
either_by a true m n f g = f refl
either_by a false m n f g = g refl

pub level_most : (fs : List Open) (n : ℕ) → level_of fs n ≤ 66
level_most [] n = omega arith
level_most (o ∷ os) n = omega arith

pub level_least : (fs : List Open) (n : ℕ) → 65 - n ≤ level_of fs n
level_least [] n = omega arith
level_least (o ∷ os) n = omega arith

-- ---- What comes out

one_more : (a s : State) (w : Word) → Below a 1 s → Falls a (Uses.one_more s w)
one_more a s w h = either a (nat_le Uses.most_tokens (length s.out)) _ _ fails (on a (record s { out = w ∷ s.out }) h)

with_text : (a s : State) (t : List ℕ) (os : List Word) → Below a 1 s → Falls a (Uses.with_text s t os)
with_text a s t [] h = on a s h
with_text a s t (u ∷ us) h = either a (nat_lt Uses.longest_text (length t)) _ _ fails (on a _ h)

text_after : (a s : State) (w : Word) (t : List ℕ) (b : Option (List ℕ)) → Below a 1 s → Falls a (Uses.text_after s w t b)
text_after a s w t (Some b) h = with_text a s (b ++ t) s.out h
text_after a s w t None h = either a (nat_lt Uses.longest_text (length t)) _ _ fails (one_more a s w h)

out_by : (a s : State) (w : Word) (t : Option (List ℕ)) → Below a 1 s → Falls a (Uses.out_by s w t)
out_by a s w (Some t) h = text_after a s w t (Uses.last_text s.out) h
out_by a s w None h = one_more a s w h

comes_out : (a : State) (p : Purpose) (s : State) (w : Word) → Below a 1 s → Falls a (Uses.comes_out p s w)
comes_out a purposes.File s w h = out_by a s w (Uses.text_of w.kind) h
comes_out a purposes.Argument s w h = on a (record s { out = w ∷ s.out }) h
comes_out a purposes.Condition s w h = on a (record s { out = w ∷ s.out }) h

emit : (a s : State) (w : Word) → Below a 1 s → Falls a (Uses.emit s w)
emit a s w h = comes_out a s.purpose s w h

-- ---- What is put in

put_back : (a s : State) (w : Word) (ws : List Word) → Below a 0 s → Falls a (Uses.put_back s w ws)
put_back a s w ws h = either_by a (nat_lt Uses.most_put_in (s.put_in + (1 + length ws))) _ _ (λ e. fails)
    (λ e. let t : State = record s { waiting = ws ++ s.waiting; put_in = s.put_in + (1 + length ws) } in
    goes (h.0, omega (arith, h.1), fuller (room t) (room a) (light t) (light a) (grind (arith, e, h.1)) (let l = length-append ws s.waiting in grind (arith, e, l, h.2))))

expanded : (a : State) (c : Setting) (u : Use) (d : ℕ) (s : State) (done args : List (List Word)) → Below a 0 s → 65 - d < level a → Falls a (Uses.expanded c u d s done args)
expanded a c u d s done [] h l = put_back a s u.word (Uses.result_words c u d done) h
expanded a c u d s done (x ∷ args) h l = asks l h.1 (λ r g. expanded a c u d (record s { put_in = r.put_in }) (done ++ reverse r.out ∷ []) args (h.0, omega (arith, h.1, g), h.2) l)

used : (a : State) (c : Setting) (u : Use) (s : State) (args : List (List Word)) → Below a 0 s → Falls a (Uses.used c u s args)
used a c u s args h = either_by a (nat_lt Uses.deepest (Uses.depth_of s u.word)) _ _ (λ e. fails)
    (λ e. expanded a c u (Uses.depth_of s u.word) s [] args h (let l = level_least s.files s.least in grind (arith, e, l, h.0)))

-- ---- Words

by_params : (a : State) (c : Setting) (s : State) (w : Word) (m : Macro) (ps : Option (List (List ℕ))) → m.params ≡ ps → Below a 2 s → Falls a (Uses.use_macro c s w (Some m))
by_params a c s w m None e h = rw e (used a c (record { word = w; params = []; body = m.body }) s [] (h.0, h.1, omega (arith, h.2)))
by_params a c s w m (Some ps) e h = rw e (on a (record s { reading = Named (record { word = w; params = ps; body = m.body }) }) (h.0, h.1, omega (arith, h.2)))

less : (a s : State) → Below a 2 s → Below a 1 s
less a s h = (h.0, h.1, omega (arith, h.2))

use_macro : (a : State) (c : Setting) (s : State) (w : Word) (m : Option Macro) → Below a 2 s → Falls a (Uses.use_macro c s w m)
use_macro a c s w None h = emit a s w (less a s h)
use_macro a c s w (Some m) h = by_params a c s w m m.params refl h

read_name : (a : State) (c : Setting) (s : State) (w : Word) (n : List ℕ) → Below a 2 s → Falls a (Uses.read_name c s w n)
read_name a c s w n h = either a (among n w.hidden) _ _ (emit a s w (less a s h)) (use_macro a c s w (macro_of n s.macros) h)

-- behind `defined` no words are more
NoMore : ℕ → Option Uses.Asked → Type 0
NoMore n None = Unit {0}
NoMore n (Some d) = length d.after ≤ n

no_more_name : (ms : Table) (n : Option (List ℕ)) (ws : List Word) (m : ℕ) → length ws ≤ m → NoMore m (Uses.asked_name ms n ws)
unfolding NoMore
no_more_name ms (Some n) ws m h = h
no_more_name ms None ws m h = tt

no_more_if : (b : Bool) (n : ℕ) (d e : Option Uses.Asked) → NoMore n d → NoMore n e → NoMore n (if b then d else e)
no_more_if true n d e f g = f
no_more_if false n d e f g = g

no_more_within : (ms : Table) (ws : List Word) (m : ℕ) → length ws ≤ m → NoMore m (Uses.asked_within ms ws)
unfolding NoMore
no_more_within ms [] m h = tt
no_more_within ms (v ∷ []) m h = tt
no_more_within ms (v ∷ x ∷ ws) m h = no_more_if (Uses.is_close x.kind) m _ _ (no_more_name ms (Uses.name_of v.kind) ws m (omega (arith, h))) tt

no_more : (ms : Table) (ws : List Word) → NoMore (length ws) (Uses.asked ms ws)
unfolding NoMore
no_more ms [] = tt
no_more ms (w ∷ ws) = no_more_if (Uses.is_open w.kind) (length (w ∷ ws)) _ _ (no_more_within ms ws _ (omega arith)) (no_more_name ms (Uses.name_of w.kind) ws _ (omega arith))

read_defined : (a s : State) (w : Word) (d : Option Uses.Asked) → NoMore (length s.waiting) d → Below a 2 s → Falls a (Uses.read_defined s w d)
unfolding NoMore
read_defined a s w None n h = fails
read_defined a s w (Some d) n h = emit a (record s { waiting = d.after }) (record w { kind = Uses.truth d.answer }) (h.0, h.1, omega (arith, h.2, n))

read_plain : (a : State) (c : Setting) (s : State) (w : Word) (n : Option (List ℕ)) → Below a 2 s → Falls a (Uses.read_plain c s w n)
read_plain a c s w None h = emit a s w (less a s h)
read_plain a c s w (Some n) h = either a (Uses.is_defined_word s.purpose n) _ _ (read_defined a s w (Uses.asked s.macros s.waiting) (no_more s.macros s.waiting) h) (read_name a c s w n h)

read_named : (a s : State) (u : Use) (w : Word) → Near a s → 2 * length s.waiting + (left_in s.files + 3) ≤ light a → s.reading ≡ Plain → Falls a (Uses.read_named s u w)
read_named a s u w h l e = either a (Uses.is_open w.kind) _ _
    (on a (record s { reading = Within (record { usage = u; nested = 0; whole = []; current = [] }) }) (h.0, h.1, omega (arith, l)))
    (emit a (record s { waiting = w ∷ s.waiting }) u.word (h.0, h.1, rw e (omega (arith, l))))

argument_word : (a s : State) (x : Arguments) (n : ℕ) (w : Word) → Below a 2 s → Falls a (Uses.argument_word s x n w)
argument_word a s x n w h = on a (record s { reading = Within (record x { nested = n; current = x.current ++ w ∷ [] }) }) (h.0, h.1, omega (arith, h.2))

closed : (a : State) (c : Setting) (s : State) (u : Use) (args : List (List Word)) → Below a 0 s → Falls a (Uses.closed c s u args)
closed a c s u args h = either a (length args == length u.params) _ _ (used a c u s args h) fails

within_by : (a : State) (c : Setting) (s : State) (x : Arguments) (w : Word) (p : Part) → Below a 2 s → Falls a (Uses.within_by c s x w p)
within_by a c s x w Closes h = either a (x.nested == 0) _ _ (closed a c s x.usage (Uses.given x.usage.params (Uses.all_of x)) (h.0, h.1, omega (arith, h.2))) (argument_word a s x (x.nested - 1) w h)
within_by a c s x w Parts h = either a (x.nested == 0) _ _ (on a (record s { reading = Within (record x { whole = Uses.all_of x; current = [] }) }) (h.0, h.1, omega (arith, h.2))) (argument_word a s x x.nested w h)
within_by a c s x w Opens h = argument_word a s x (x.nested + 1) w h
within_by a c s x w Other h = argument_word a s x x.nested w h

read_by : (a : State) (c : Setting) (s : State) (w : Word) (r : Reading) → Near a s → s.reading ≡ Plain → 2 * length s.waiting + (held r + (left_in s.files + 2)) ≤ light a → Falls a (Uses.read_by c s w r)
read_by a c s w Plain h e l = read_plain a c s w (Uses.name_of w.kind) (h.0, h.1, rw e (omega (arith, l)))
read_by a c s w (Named u) h e l = read_named a s u w h (omega (arith, l)) e
read_by a c s w (Within x) h e l = within_by a c s x w (Uses.part_of w.kind) (h.0, h.1, rw e (omega (arith, l)))

-- A word was taken, and it is read.
pub read : (a : State) (c : Setting) (s : State) (w : Word) → Below a 2 s → Falls a (Uses.read c s w)
read a c s w h = read_by a c (record s { reading = Plain }) w s.reading (h.0, h.1) refl (omega (arith, h.2))

end_by : (a s : State) (r : Reading) → Near a s → s.reading ≡ Plain → 2 * length s.waiting + (held r + left_in s.files) ≤ light a → Falls a (Uses.end_by s r)
end_by a s Plain h e l = ends h.1
end_by a s (Named u) h e l = emit a s u.word (h.0, h.1, rw e (omega (arith, l)))
end_by a s (Within x) h e l = fails

-- no word comes any more
pub ended : (s : State) → Falls s (Uses.ended s)
ended s = end_by s (record s { reading = Plain }) s.reading (omega arith, omega arith) refl (omega arith)
