-- The block of outputs, run by run.
use Rattle.std.proofs.Common.{◌≡◌, ap, sym, refl, ◌∙◌, ℕ, suc, ◌+◌, ◌-◌, ◌^◌, ◌<◌, ◌≤◌, Bool, true, false, cond, eqb, ◌||◌, List, [], ◌∷◌, ◌++◌, Result, Ok, Err, length, take, drop, get_or, flat_map, arith, append_assoc, ◌⊎◌, inl, inr}
use Rattle.std.specs.Str.{encode_utf8_all}
use Rattle.std.specs.List.{prefix_len}
use Rattle.std.proofs.Math.Numerals.{one-add}
use Rattle.std.proofs.lemmas.Bool.{eqb-true}
use Rattle.std.proofs.lemmas.List.{take_more, take_all, take-append-drop, append-nil, length-take, length-drop, drop-drop, drop_all}
use Rattle.std.proofs.lemmas.List.Folds.{length-prefix_len}
use Rattle.std.proofs.lemmas.List.Concat.{flat_map-append}
use Rattle.std.proofs.lemmas.Str.{encodes-append}
use Rattle.lp_io.specs.declared.put.PutFault.{PutFault}
use Rattle.lp_events.specs.declared.out.Out.{Out}
use Rattle.lp_events.specs.declared.out.Out.TheVariants.{Text, Hide, Show, Close, Log}
use Rattle.lp_events.specs.Script.{numeral}
use Rattle.lp_events.specs.Transcript.{output_spelling, before_joined, joined, block}
use Rattle.lp_script.specs.Put.{Told, Puts}
use Rattle.lp_script.specs.Runs.{goes_on, text_of, texts, run_length, alone, Advances, wrote, failed}
use Rattle.std.specs.Fmt.{decimal}
use Rattle.lp_script.proofs.Numerals.{decimal-numeral}
use Rattle.lp_script.proofs.PutLemmas.{Puts-same, Puts-then, Puts-cut, Puts-none}

-- the texts up to one more output
pub texts_more : (outs : List Out) (i : ℕ) (d : Out) → i < length outs → encode_utf8_all (texts (take (i + 1) outs)) ≡ encode_utf8_all (texts (take i outs)) ++ encode_utf8_all (text_of (get_or outs i d))
texts_more outs i d within =
    ap encode_utf8_all (ap texts (take_more outs i d within) ∙ flat_map-append text_of (take i outs) (get_or outs i d ∷ []) ∙ ap (λ (xs : List ℕ). texts (take i outs) ++ xs) (append-nil (text_of (get_or outs i d))))
    ∙ encodes-append (texts (take i outs)) (text_of (get_or outs i d))

-- a text that was cut, among others
pub texts_stop : (a m c : Told) (e : PutFault) (outs : List Out) (i : ℕ) (d : Out) (bytes : List ℕ) → i < length outs → bytes ≡ encode_utf8_all (text_of (get_or outs i d))
    → Puts a m (Ok tt) (encode_utf8_all (texts (take i outs))) → Puts m c (Err e) bytes → Puts a c (Err e) (encode_utf8_all (texts outs))
texts_stop a m c e outs i d bytes within is p q =
    let whole : encode_utf8_all (texts outs) ≡ encode_utf8_all (texts (take (i + 1) outs)) ++ encode_utf8_all (texts (drop (i + 1) outs))
    = ap encode_utf8_all (ap texts (sym (take-append-drop (i + 1) outs)) ∙ flat_map-append text_of (take (i + 1) outs) (drop (i + 1) outs)) ∙ encodes-append (texts (take (i + 1) outs)) (texts (drop (i + 1) outs)) in
    let front : encode_utf8_all (texts (take (i + 1) outs)) ≡ encode_utf8_all (texts (take i outs)) ++ bytes
    = texts_more outs i d within ∙ ap (λ (xs : List ℕ). encode_utf8_all (texts (take i outs)) ++ xs) (sym is) in
    Puts-same a c (Err e) _ _ (ap (λ (xs : List ℕ). xs ++ encode_utf8_all (texts (drop (i + 1) outs))) (sym front) ∙ sym whole)
    (Puts-cut a c e _ (encode_utf8_all (texts (drop (i + 1) outs))) (Puts-then a m c (Err e) _ _ p q))

-- one more text
pub texts_next : (a m c : Told) (outs : List Out) (i : ℕ) (d : Out) (bytes : List ℕ) → i < length outs → bytes ≡ encode_utf8_all (text_of (get_or outs i d))
    → Puts a m (Ok tt) (encode_utf8_all (texts (take i outs))) → Puts m c (Ok tt) bytes → Puts a c (Ok tt) (encode_utf8_all (texts (take (i + 1) outs)))
texts_next a m c outs i d bytes within is p q =
    Puts-same a c (Ok tt) _ _ (ap (λ (xs : List ℕ). encode_utf8_all (texts (take i outs)) ++ xs) is ∙ sym (texts_more outs i d within)) (Puts-then a m c (Ok tt) _ _ p q)

-- ---- the laws of runs

-- a test or `true`
either_true : (b : Bool) → (b || true) ≡ true
either_true true = refl
either_true false = refl

-- the outputs behind a run
after_run : ℕ → List Out → List Out
after_run k outs = drop (run_length k outs) outs

-- the text of a run
run_text : ℕ → List Out → List ℕ
run_text k outs = texts (take (run_length k outs) outs)

-- the outputs of a run are counted
run_length_is : (k : ℕ) (outs : List Out) → run_length k outs ≡ prefix_len (goes_on k) outs
run_length_is k outs = length-prefix_len (goes_on k) outs

run_length-cons : (k : ℕ) (o : Out) (outs : List Out) → run_length k (o ∷ outs) ≡ cond (goes_on k o) (suc (run_length k outs)) 0
run_length-cons k o outs = run_length_is k (o ∷ outs) ∙ ap (λ (n : ℕ). cond (goes_on k o) n 0) (one-add (prefix_len (goes_on k) outs)) ∙ ap (λ (n : ℕ). cond (goes_on k o) (suc n) 0) (sym (run_length_is k outs))

-- an output that goes on belongs to the run
run_goes_on : (k : ℕ) (o : Out) (outs : List Out) → goes_on k o ≡ true → (after_run k (o ∷ outs) ≡ after_run k outs) × (run_text k (o ∷ outs) ≡ text_of o ++ run_text k outs)
unfolding after_run run_text
run_goes_on k o outs e =
    let n : run_length k (o ∷ outs) ≡ suc (run_length k outs) = run_length-cons k o outs ∙ ap (λ (b : Bool). cond b (suc (run_length k outs)) 0) e in
    (ap (λ (i : ℕ). drop i (o ∷ outs)) n, ap (λ (i : ℕ). texts (take i (o ∷ outs))) n)

-- another one does not
run_ends : (k : ℕ) (o : Out) (outs : List Out) → goes_on k o ≡ false → (after_run k (o ∷ outs) ≡ o ∷ outs) × (run_text k (o ∷ outs) ≡ [])
unfolding after_run run_text
run_ends k o outs e =
    let n : run_length k (o ∷ outs) ≡ 0 = run_length-cons k o outs ∙ ap (λ (b : Bool). cond b (suc (run_length k outs)) 0) e in
    (ap (λ (i : ℕ). drop i (o ∷ outs)) n, ap (λ (i : ℕ). texts (take i (o ∷ outs))) n)

-- nothing of a text that ends a run is taken
before_end : (k : ℕ) (text : List ℕ) (o : Out) (outs : List Out) → goes_on k o ≡ false → before_joined k text (joined (o ∷ outs)) ≡ Text k text ∷ joined (o ∷ outs)
    → before_joined k text (joined (o ∷ outs)) ≡ Text k (text ++ run_text k (o ∷ outs)) ∷ joined (after_run k (o ∷ outs))
before_end k text o outs e h =
    let r = run_ends k o outs e in
    h ∙ ap (λ (t : List ℕ). Text k t ∷ joined (o ∷ outs)) (sym (append-nil text) ∙ ap (λ (t : List ℕ). text ++ t) (sym r.1)) ∙ ap (λ (os : List Out). Text k (text ++ run_text k (o ∷ outs)) ∷ joined os) (sym r.0)

-- a text before one that takes its own run
before_text : (k : ℕ) (text : List ℕ) (j c : ℕ) (more : List ℕ) (outs : List Out) (b : Bool) → eqb k j ≡ b
    → before_joined j (c ∷ more) (joined outs) ≡ Text j ((c ∷ more) ++ run_text j outs) ∷ joined (after_run j outs)
    → before_joined k text (joined (Text j (c ∷ more) ∷ outs)) ≡ Text k (text ++ run_text k (Text j (c ∷ more) ∷ outs)) ∷ joined (after_run k (Text j (c ∷ more) ∷ outs))
before_text k text j c more outs true e h =
    let same : k ≡ j = eqb-true k j e in
    let goes : goes_on k (Text j (c ∷ more)) ≡ true = rw e refl in
    let r = run_goes_on k (Text j (c ∷ more)) outs goes in
    ap (before_joined k text) h
    ∙ ap (λ (b : Bool). cond b (Text k (text ++ ((c ∷ more) ++ run_text j outs)) ∷ joined (after_run j outs)) (Text k text ∷ Text j ((c ∷ more) ++ run_text j outs) ∷ joined (after_run j outs))) e
    ∙ ap (λ (i : ℕ). Text k (text ++ ((c ∷ more) ++ run_text i outs)) ∷ joined (after_run i outs)) (sym same)
    ∙ ap (λ (t : List ℕ). Text k (text ++ t) ∷ joined (after_run k outs)) (sym r.1)
    ∙ ap (λ (os : List Out). Text k (text ++ run_text k (Text j (c ∷ more) ∷ outs)) ∷ joined os) (sym r.0)
before_text k text j c more outs false e h =
    let ends : goes_on k (Text j (c ∷ more)) ≡ false = rw e refl in
    before_end k text (Text j (c ∷ more)) outs ends
    (ap (before_joined k text) h
    ∙ ap (λ (b : Bool). cond b (Text k (text ++ ((c ∷ more) ++ run_text j outs)) ∷ joined (after_run j outs)) (Text k text ∷ Text j ((c ∷ more) ++ run_text j outs) ∷ joined (after_run j outs))) e
    ∙ ap (λ (os : List Out). Text k text ∷ os) (sym h))

-- a text to a connection takes the run behind it
before_run : (k : ℕ) (text : List ℕ) (outs : List Out) → before_joined k text (joined outs) ≡ Text k (text ++ run_text k outs) ∷ joined (after_run k outs)
unfolding after_run run_text
before_run k text [] = ap (λ (t : List ℕ). Text k t ∷ []) (sym (append-nil text))
before_run k text (Text j [] ∷ outs) =
    let e = run_goes_on k (Text j []) outs (either_true (eqb k j)) in
    before_run k text outs ∙ ap (λ (t : List ℕ). Text k (text ++ t) ∷ joined (after_run k outs)) (sym e.1) ∙ ap (λ (os : List Out). Text k (text ++ run_text k (Text j [] ∷ outs)) ∷ joined os) (sym e.0)
before_run k text (Text j (c ∷ more) ∷ outs) = before_text k text j c more outs (eqb k j) refl (before_run j (c ∷ more) outs)
before_run k text (Hide j ∷ outs) = before_end k text (Hide j) outs refl refl
before_run k text (Show j ∷ outs) = before_end k text (Show j) outs refl refl
before_run k text (Close j ∷ outs) = before_end k text (Close j) outs refl refl
before_run k text (Log t ∷ outs) = before_end k text (Log t) outs refl refl

-- the first output is a text that has something: the block begins with its run
pub run_block : (outs : List Out) (k : ℕ) (text : List ℕ) (d : Out) → 0 < length outs → get_or outs 0 d ≡ Text k text → (length text ≡ 0 → ⊥)
    → block outs ≡ output_spelling (Text k (texts (take (1 + run_length k (drop 1 outs)) outs))) ++ block (drop (1 + run_length k (drop 1 outs)) outs)
unfolding after_run run_text
run_block [] k text d some is has = absurd (omega arith)
run_block (o ∷ outs) k [] d some is has = absurd (has refl)
run_block (o ∷ outs) k (c ∷ text) d some is has =
    let n : 1 + run_length k outs ≡ suc (run_length k outs) = omega arith in
    rw (is, n) (ap (flat_map output_spelling) (before_run k (c ∷ text) outs))

-- the first output is an empty text: it gives nothing
pub empty_block : (outs : List Out) (k : ℕ) (text : List ℕ) (d : Out) → 0 < length outs → get_or outs 0 d ≡ Text k text → length text ≡ 0 → block outs ≡ [] ++ block (drop 1 outs)
empty_block [] k text d some is none = absurd (omega arith)
empty_block (o ∷ outs) k [] d some is none = rw is refl
empty_block (o ∷ outs) k (c ∷ text) d some is none = absurd (omega arith)

-- the first output is no text
pub alone_block : (outs : List Out) (d : Out) → 0 < length outs → ((k : ℕ) (text : List ℕ) → get_or outs 0 d ≡ Text k text → ⊥) → block outs ≡ alone (get_or outs 0 d) ++ block (drop 1 outs)
alone_block [] d some no_text = absurd (omega arith)
alone_block (Text k text ∷ outs) d some no_text = absurd (no_text k text refl)
alone_block (Hide k ∷ outs) d some no_text = refl
alone_block (Show k ∷ outs) d some no_text = refl
alone_block (Close k ∷ outs) d some no_text = refl
alone_block (Log text ∷ outs) d some no_text = refl

-- a log record, and a text to a connection, in three parts
pub log_parts : (word line bytes digits : List ℕ) (n : ℕ) → n < 10 ^ 64 → digits ≡ decimal n → n ≡ length bytes → word ++ (((numeral (length bytes) ++ line) ++ bytes) ++ line) ≡ ((word ++ (digits ++ (line ++ []))) ++ bytes) ++ line
log_parts word line bytes digits n small e is =
    ap (λ (i : ℕ). word ++ (((numeral i ++ line) ++ bytes) ++ line)) (sym is) ∙ ap (λ (xs : List ℕ). word ++ (((xs ++ line) ++ bytes) ++ line)) (sym (e ∙ decimal-numeral n small)) ∙ simp (append_assoc, append-nil)

pub to_parts : (word space line bytes first digits : List ℕ) (k n : ℕ) → k < 10 ^ 64 → n < 10 ^ 64 → first ≡ decimal k → digits ≡ decimal n → n ≡ length bytes
    → ((word ++ numeral k) ++ space) ++ (((numeral (length bytes) ++ line) ++ bytes) ++ line) ≡ ((word ++ (first ++ (space ++ (digits ++ (line ++ []))))) ++ bytes) ++ line
to_parts word space line bytes first digits k n k_small n_small d e is =
    ap (λ (i : ℕ). ((word ++ numeral k) ++ space) ++ (((numeral i ++ line) ++ bytes) ++ line)) (sym is)
    ∙ ap (λ (xs : List ℕ). ((word ++ numeral k) ++ space) ++ (((xs ++ line) ++ bytes) ++ line)) (sym (e ∙ decimal-numeral n n_small))
    ∙ ap (λ (xs : List ℕ). ((word ++ xs) ++ space) ++ (((digits ++ line) ++ bytes) ++ line)) (sym (d ∙ decimal-numeral k k_small)) ∙ simp (append_assoc, append-nil)

-- the block goes on behind what was written
pub block_next : (outs : List Out) (done n : ℕ) (before bytes : List ℕ) → block outs ≡ before ++ block (drop done outs) → block (drop done outs) ≡ bytes ++ block (drop n (drop done outs)) → block outs ≡ (before ++ bytes) ++ block (drop (done + n) outs)
block_next outs done n before bytes e f =
    e ∙ ap (λ (xs : List ℕ). before ++ xs) f ∙ sym (append_assoc before bytes (block (drop n (drop done outs)))) ∙ ap (λ (os : List Out). (before ++ bytes) ++ block os) (drop-drop n done outs)

-- some more outputs were dealt with
pub block_more : (a m c : Told) (outs : List Out) (done n : ℕ) (before : List ℕ) → done ≤ length outs → block outs ≡ before ++ block (drop done outs) → Puts a m (Ok tt) before → Advances m c (drop done outs) (Ok n)
    → (done + n ≤ length outs) × (bytes : List ℕ) × (block outs ≡ bytes ++ block (drop (done + n) outs)) × Puts a c (Ok tt) bytes
block_more a m c outs done n before within e p (wrote _ bytes some few f q) =
    (omega (arith, length-drop done outs), before ++ bytes, block_next outs done n before bytes e f, Puts-then a m c (Ok tt) before bytes p q)

pub some_more : (m c : Told) (outs : List Out) (n : ℕ) → Advances m c outs (Ok n) → (0 < n) × (n ≤ length outs)
some_more m c outs n (wrote _ bytes some few f q) = (some, few)

-- the rest of the block was cut
pub block_cut : (a m c : Told) (e : PutFault) (outs : List Out) (done : ℕ) (before : List ℕ) → block outs ≡ before ++ block (drop done outs) → Puts a m (Ok tt) before → Advances m c (drop done outs) (Err e) → Puts a c (Err e) (block outs)
block_cut a m c e outs done before is p (failed _ q) = Puts-same a c (Err e) _ _ (sym is) (Puts-then a m c (Err e) before (block (drop done outs)) p q)

-- all outputs were dealt with
pub block_all : (a c : Told) (outs : List Out) (done : ℕ) (before : List ℕ) → length outs ≤ done → block outs ≡ before ++ block (drop done outs) → Puts a c (Ok tt) before → Puts a c (Ok tt) (block outs)
block_all a c outs done before all is p =
    Puts-same a c (Ok tt) _ _ (sym (append-nil before) ∙ ap (λ (os : List Out). before ++ block os) (sym (drop_all done outs all)) ∙ sym is) p

-- of three pieces the first was cut, or the second, or all were written
pub first_of_three : (a c : Told) (e : PutFault) (h b t whole : List ℕ) → whole ≡ (h ++ b) ++ t → Puts a c (Err e) h → Puts a c (Err e) whole
first_of_three a c e h b t whole is p = Puts-same a c (Err e) _ _ (sym is) (Puts-cut a c e (h ++ b) t (Puts-cut a c e h b p))

pub second_of_three : (a m c : Told) (e : PutFault) (h b t whole : List ℕ) → whole ≡ (h ++ b) ++ t → Puts a m (Ok tt) h → Puts m c (Err e) b → Puts a c (Err e) whole
second_of_three a m c e h b t whole is p q = Puts-same a c (Err e) _ _ (sym is) (Puts-cut a c e (h ++ b) t (Puts-then a m c (Err e) h b p q))

pub all_of_three : (a m n c : Told) (r : Result (Unit {0}) PutFault) (h b t whole : List ℕ) → whole ≡ (h ++ b) ++ t → Puts a m (Ok tt) h → Puts m n (Ok tt) b → Puts n c r t → Puts a c r whole
all_of_three a m n c r h b t whole is p q s = Puts-same a c r _ _ (sym is) (Puts-then a n c r (h ++ b) t (Puts-then a m n (Ok tt) h b p q) s)

-- the first output was dealt with, where it begins a run, is empty, or is no text
pub run_wrote : (a c : Told) (outs : List Out) (k : ℕ) (text : List ℕ) (d : Out) (n : ℕ) (rest front : List Out) → 0 < length outs → get_or outs 0 d ≡ Text k text → (length text ≡ 0 → ⊥) → rest ≡ drop 1 outs → n ≡ run_length k rest → 1 + n ≤ length outs
    → front ≡ take (1 + n) outs → Puts a c (Ok tt) (output_spelling (Text k (texts front))) → Advances a c outs (Ok (1 + n))
run_wrote a c outs k text d n rest front some is has behind counted few taken p =
    let m : n ≡ run_length k (drop 1 outs) = counted ∙ ap (run_length k) behind in
    let e : block outs ≡ output_spelling (Text k (texts front)) ++ block (drop (1 + n) outs) =
    run_block outs k text d some is has ∙ ap (λ (i : ℕ). output_spelling (Text k (texts (take (1 + i) outs))) ++ block (drop (1 + i) outs)) (sym m) ∙ ap (λ (os : List Out). output_spelling (Text k (texts os)) ++ block (drop (1 + n) outs)) (sym taken) in
    wrote (1 + n) (output_spelling (Text k (texts front))) (omega arith) few e p

pub run_failed : (a c : Told) (e : PutFault) (outs : List Out) (k : ℕ) (text : List ℕ) (d : Out) (n : ℕ) (rest front : List Out) → 0 < length outs → get_or outs 0 d ≡ Text k text → (length text ≡ 0 → ⊥) → rest ≡ drop 1 outs → n ≡ run_length k rest
    → front ≡ take (1 + n) outs → Puts a c (Err e) (output_spelling (Text k (texts front))) → Advances a c outs (Err e)
run_failed a c e outs k text d n rest front some is has behind counted taken p =
    let m : n ≡ run_length k (drop 1 outs) = counted ∙ ap (run_length k) behind in
    let b : block outs ≡ output_spelling (Text k (texts front)) ++ block (drop (1 + n) outs) =
    run_block outs k text d some is has ∙ ap (λ (i : ℕ). output_spelling (Text k (texts (take (1 + i) outs))) ++ block (drop (1 + i) outs)) (sym m) ∙ ap (λ (os : List Out). output_spelling (Text k (texts os)) ++ block (drop (1 + n) outs)) (sym taken) in
    failed e (Puts-same a c (Err e) _ _ (sym b) (Puts-cut a c e _ (block (drop (1 + n) outs)) p))

pub empty_wrote : (a : Told) (outs : List Out) (k : ℕ) (text : List ℕ) (d : Out) → 0 < length outs → get_or outs 0 d ≡ Text k text → length text ≡ 0 → Advances a a outs (Ok 1)
empty_wrote a outs k text d some is none = wrote 1 [] (omega arith) (omega arith) (empty_block outs k text d some is none) (Puts-none a)

pub alone_wrote : (a c : Told) (outs : List Out) (o d : Out) → 0 < length outs → o ≡ get_or outs 0 d → ((k : ℕ) (text : List ℕ) → o ≡ Text k text → ⊥) → Puts a c (Ok tt) (alone o) → Advances a c outs (Ok 1)
alone_wrote a c outs o d some is no_text p =
    wrote 1 (alone o) (omega arith) (omega arith) (alone_block outs d some (λ k text e. no_text k text (is ∙ e)) ∙ ap (λ (x : Out). alone x ++ block (drop 1 outs)) (sym is)) p

pub alone_failed : (a c : Told) (e : PutFault) (outs : List Out) (o d : Out) → 0 < length outs → o ≡ get_or outs 0 d → ((k : ℕ) (text : List ℕ) → o ≡ Text k text → ⊥) → Puts a c (Err e) (alone o) → Advances a c outs (Err e)
alone_failed a c e outs o d some is no_text p =
    failed e (Puts-same a c (Err e) _ _ (sym (alone_block outs d some (λ k text f. no_text k text (is ∙ f)) ∙ ap (λ (x : Out). alone x ++ block (drop 1 outs)) (sym is))) (Puts-cut a c e _ (block (drop 1 outs)) p))

-- a list from a place on
pub rest_from : (i : ℕ) (outs : List Out) → take (length outs - i) (drop i outs) ≡ drop i outs
rest_from i outs = take_all (length outs - i) (drop i outs) (omega (arith, length-drop i outs))

-- a text that is not empty, and one that is
pub is_some : (text shown : List ℕ) (b : Bool) → shown ≡ text → b ≡ eqb (length shown) 0 → b ≡ false → length text ≡ 0 → ⊥
is_some text shown b same is has z = let f : true ≡ false = sym (ap (λ (n : ℕ). eqb n 0) (ap length same ∙ z)) ∙ sym is ∙ has in cc

pub is_none : (text shown : List ℕ) (b : Bool) → shown ≡ text → b ≡ eqb (length shown) 0 → b ≡ true → length text ≡ 0
is_none text shown b same is none = sym (ap length same) ∙ eqb-true (length shown) 0 (sym is ∙ none)

-- a run has no more outputs than there are
pub run_few : (n k : ℕ) (rest outs : List Out) → n ≡ run_length k rest → rest ≡ drop 1 outs → 0 < length outs → 1 + n ≤ length outs
run_few n k rest outs counted behind some = omega (arith, counted, length-take (prefix_len (goes_on k) rest) rest, ap length behind, length-drop 1 outs)

-- an output of another kind is no text
pub no_text : (o : Out) → ((x : ℕ) × (o ≡ Hide x)) ⊎ (((x : ℕ) × (o ≡ Show x)) ⊎ (((x : ℕ) × (o ≡ Close x)) ⊎ ((x : List ℕ) × (o ≡ Log x)))) → (k : ℕ) (text : List ℕ) → o ≡ Text k text → ⊥
no_text o (inl (x, e)) k text f = cc
no_text o (inr (inl (x, e))) k text f = cc
no_text o (inr (inr (inl (x, e)))) k text f = cc
no_text o (inr (inr (inr (x, e)))) k text f = cc
