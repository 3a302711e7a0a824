-- Locals become 0, one after another.
use Rattle.std.proofs.Common.{◌≡◌, ℕ, suc, ◌+◌, ◌<◌, List, [], ◌∷◌, ◌++◌, length, take, get_or, map, pos, refl, sym, ap, ◌∙◌, subst, arith, length-append, append-nil}
use Rattle.std.proofs.lemmas.List.{length-take-le, take_more, take_all}
use Rattle.lp_tree.specs.declared.stmt.Declarator.{Declarator}
use Rattle.lp_tree.specs.Trees.{Tree}
use Rattle.lp_tree.specs.Statements.{LocalTree, InitTree, StmtTree, Declares, DoWhile, If, NoElse, Else, For, Foreach, While}
use Rattle.lp_tree.specs.declared.stmt.Each.{Each}
use Rattle.std.specs.Prelude.{Option}
use Rattle.lp_instr.specs.Code.{Code}
use Rattle.lp_instr.specs.declared.instr.Instr.TheVariants.{PushInt, SetLocal, Pop}
use Rattle.lp_language.specs.Scope.{Names, declared, declared_first, declared_each, declared_second, names_of, slots_from}
use Rattle.lp_isa.specs.Translates.{Clears}
use Rattle.lp_codegen_expr.specs.declared.code.Draft.TheVariants.{Done}
use Rattle.lp_codegen_expr.specs.Names.{Plan}
use Rattle.lp_codegen_expr.specs.Drafts.{Sketch, Adds, grown, line}
use Rattle.lp_codegen_expr.proofs.Compose.{adds_then, reform, line_none, line_adds}
use Rattle.lp_codegen_flow.specs.declared.clears.Which.{Which}
use Rattle.lp_codegen_flow.specs.declared.clears.Which.TheVariants as which
use Rattle.lp_codegen_flow.specs.Cleared.{Cleared, of_clears, cleared_by, hidden_by, inside_of, local_by, names_in}

clears_both : (code : Code) (ks js : List ℕ) (from mid to : ℕ) → Clears code ks from mid → Clears code js mid to → Clears code (ks ++ js) from to
clears_both code [] js from mid to p q = subst (λ n. Clears code js n to) p q
clears_both code (k ∷ ks) js from mid to p q = (p.0, p.1, clears_both code ks js p.0 mid to p.2 q)

pub clear_both : {l : Plan} {old mid new : Sketch} (ks js : List ℕ) → Adds l (of_clears ks) old mid → Adds l (of_clears js) mid new → Adds l (of_clears (ks ++ js)) old new
clear_both {l} {old} {mid} {new} ks js v w =
    adds_then l (of_clears ks) (of_clears js) (of_clears (ks ++ js)) old mid new v w (λ a p q. clears_both a.code ks js (length old.code) (length mid.code) (length new.code) p q)

pub clear_as : {l : Plan} {old new : Sketch} {ks js : List ℕ} → ks ≡ js → Adds l (of_clears ks) old new → Adds l (of_clears js) old new
clear_as {l} {old} {new} {ks} {js} e w = subst (λ x. Adds l (of_clears x) old new) e w

pub clear_none : (l : Plan) (d : Sketch) → Adds l (of_clears []) d d
clear_none l d = line_none l d

pub clear_one : {l : Plan} {old new : Sketch} (k : ℕ) → new ≡ grown old (map Done (PushInt (pos 0) ∷ SetLocal k ∷ Pop ∷ [])) → Adds l (of_clears (k ∷ [])) old new
clear_one k e = let is = PushInt (pos 0) ∷ SetLocal k ∷ Pop ∷ [] in reform (line is) (of_clears (k ∷ [])) (λ a from to p. (to, p, refl)) (line_adds is e)

slots_more : (k : ℕ) (ns : Names) (n : List ℕ) → slots_from k (ns ++ n ∷ []) ≡ slots_from k ns ++ (k + length ns) ∷ []
slots_more k [] n = let e : k ≡ k + 0 = omega arith in ap (λ j. j ∷ []) e
slots_more k (m ∷ ns) n = let e : suc k + length ns ≡ k + suc (length ns) = omega arith in
    ap (λ l. k ∷ l) (slots_more (suc k) ns n ∙ ap (λ j. slots_from (suc k) ns ++ j ∷ []) e)

pub slots_both : (k : ℕ) (ns ms : Names) → slots_from k ns ++ slots_from (k + length ns) ms ≡ slots_from k (ns ++ ms)
slots_both k [] ms = let e : k + 0 ≡ k = omega arith in ap (λ j. slots_from j ms) e
slots_both k (n ∷ ns) ms = let e : k + suc (length ns) ≡ suc k + length ns = omega arith in
    ap (λ l. k ∷ l) (ap (λ j. slots_from (suc k) ns ++ slots_from j ms) e ∙ slots_both (suc k) ns ms)

names_more : (ds : List Declarator) (d : Declarator) → names_in (ds ++ d ∷ []) ≡ names_in ds ++ d.name ∷ []
names_more [] d = refl
names_more (c ∷ ds) d = ap (λ l. c.name ∷ l) (names_more ds d)

pub names_long : (ds : List Declarator) → length (names_in ds) ≡ length ds
names_long [] = refl
names_long (d ∷ ds) = ap suc (names_long ds)

-- nothing
pub cleared_none : (n : ℕ) (d : Sketch) → Cleared [] n 0 n d d
cleared_none n d = record { code = λ l. clear_none l d; place = omega arith }

pub cleared_past : (n c k : ℕ) (d : Sketch) → k ≡ n + c → Cleared [] n c k d d
cleared_past n c k d e = record { code = λ l. clear_none l d; place = e }

pub cleared_as : {n k c e : ℕ} {ks js : List ℕ} {old new : Sketch} → ks ≡ js → c ≡ e → Cleared ks n c k old new → Cleared js n e k old new
cleared_as {n} {k} {c} {e} {ks} {js} {old} {new} f g w = record { code = λ l. clear_as f (w.code l); place = w.place ∙ ap (λ x. n + x) g }

-- one local more of a declaration
pub local_more : {old mid new : Sketch} (first i slot next : ℕ) (ones : List Declarator) (x : Declarator) → i < length ones → get_or ones i x ≡ x → next ≡ slot + 1 → Cleared (slots_from first (names_in (take i ones))) first i slot old mid → new ≡ grown mid (map Done (PushInt (pos 0) ∷ SetLocal slot ∷ Pop ∷ [])) → Cleared (slots_from first (names_in (take (i + 1) ones))) first (i + 1) next old new
local_more {old} {mid} {new} first i slot next ones x lt is e w f =
    let ds = take i ones in
    let long : length (names_in ds) ≡ i = names_long ds ∙ length-take-le i ones (omega (arith, lt)) in
    let place : slot ≡ first + length (names_in ds) = w.place ∙ ap (λ j. first + j) (sym long) in
    let more : take (i + 1) ones ≡ ds ++ x ∷ [] = take_more ones i x lt ∙ ap (λ y. ds ++ y ∷ []) is in
    let all : slots_from first (names_in ds) ++ slot ∷ [] ≡ slots_from first (names_in (take (i + 1) ones)) = ap (λ j. slots_from first (names_in ds) ++ j ∷ []) place ∙ sym (slots_more first (names_in ds) x.name) ∙ ap (slots_from first) (sym (names_more ds x)) ∙ ap (λ l. slots_from first (names_in l)) (sym more) in
    record {
      code = λ l. clear_as all (clear_both (slots_from first (names_in ds)) (slot ∷ []) (w.code l) (clear_one slot f));
      place = let g = w.place in omega (arith, e, g);
    }

-- all of it
pub local_all : {old new : Sketch} (first i slot : ℕ) (ones : List Declarator) → length ones ≡ i → Cleared (slots_from first (names_in (take i ones))) first i slot old new → Cleared (slots_from first (names_in ones)) first (length ones) slot old new
local_all first i slot ones e w = cleared_as (ap (λ l. slots_from first (names_in l)) (take_all i ones (omega (arith, e)))) (sym e) w

-- by cases on which locals are meant
pub nothing_by : (w : Which) (t : StmtTree) (n : ℕ) → cleared_by which.Loose t n ≡ [] → cleared_by which.Own t n ≡ [] → declared t ≡ [] → [] ≡ cleared_by w t n
nothing_by which.Loose t n a b c = sym a
nothing_by which.Own t n a b c = sym b
nothing_by which.All t n a b c = sym (ap (slots_from n) c)

abbrev else_slots : Which → StmtTree → StmtTree → ℕ → List ℕ
else_slots w y x n = cleared_by (inside_of w) y n ++ cleared_by (inside_of w) x (n + length (declared y))

else_by : (w : Which) (line : ℕ) (e : Tree) (y x : StmtTree) (n : ℕ) → else_slots w y x n ≡ cleared_by w (If line e y (Else x)) n
else_by which.Loose line e y x n = refl
else_by which.Own line e y x n = refl
else_by which.All line e y x n = slots_both n (declared y) (declared x)

if_by : (w : Which) (line : ℕ) (e : Tree) (y : StmtTree) (n : ℕ) → cleared_by (inside_of w) y n ≡ cleared_by w (If line e y NoElse) n
if_by which.Loose line e y n = sym (append-nil (cleared_by which.Own y n))
if_by which.Own line e y n = sym (append-nil (cleared_by which.Own y n))
if_by which.All line e y n = ap (slots_from n) (sym (append-nil (declared y)))

pub else_cleared : {old mid new : Sketch} (w : Which) (line : ℕ) (e : Tree) (y x : StmtTree) (n k m : ℕ) → Cleared (cleared_by (inside_of w) y n) n (length (declared y)) k old mid → Cleared (cleared_by (inside_of w) x k) k (length (declared x)) m mid new → Cleared (cleared_by w (If line e y (Else x)) n) n (length (declared (If line e y (Else x)))) m old new
else_cleared {old} {mid} {new} w line e y x n k m v u = record {
  code = λ l. clear_as (ap (λ j. cleared_by (inside_of w) y n ++ cleared_by (inside_of w) x j) v.place ∙ else_by w line e y x n) (clear_both (cleared_by (inside_of w) y n) (cleared_by (inside_of w) x k) (v.code l) (u.code l));
  place = let a = v.place in let b = u.place in let c = length-append (declared y) (declared x) in omega (arith, a, b, c);
}

pub if_cleared : {old new : Sketch} (w : Which) (line : ℕ) (e : Tree) (y : StmtTree) (n k : ℕ) → Cleared (cleared_by (inside_of w) y n) n (length (declared y)) k old new → Cleared (cleared_by w (If line e y NoElse) n) n (length (declared (If line e y NoElse))) k old new
if_cleared w line e y n k v = cleared_as (if_by w line e y n) (ap length (sym (append-nil (declared y)))) v

for_by : (w : Which) (line : ℕ) (i : InitTree) (t s : Option Tree) (b : StmtTree) (n : ℕ) → hidden_by w b (n + length (declared_first i)) ≡ cleared_by w (For line i t s b) n
for_by which.Loose line i t s b n = refl
for_by which.Own line i t s b n = refl
for_by which.All line i t s b n = refl

pub for_cleared : {old new : Sketch} (w : Which) (line : ℕ) (i : InitTree) (t s : Option Tree) (b : StmtTree) (n k : ℕ) → k ≡ n + length (declared_first i) → ((l : Plan) → Adds l (of_clears (hidden_by w b k)) old new) → Cleared (cleared_by w (For line i t s b) n) n 0 n old new
for_cleared w line i t s b n k e v = record { code = λ l. clear_as (ap (hidden_by w b) e ∙ for_by w line i t s b n) (v l); place = omega arith }

each_by : (w : Which) (line : ℕ) (f : Each) (g : Option Each) (e : Tree) (b : StmtTree) (n : ℕ) → hidden_by w b (n + length (declared_each f ++ declared_second g)) ≡ cleared_by w (Foreach line f g e b) n
each_by which.Loose line f g e b n = refl
each_by which.Own line f g e b n = refl
each_by which.All line f g e b n = refl

pub each_cleared : {old new : Sketch} (w : Which) (line : ℕ) (f : Each) (g : Option Each) (x : Tree) (b : StmtTree) (n k : ℕ) → k ≡ n + length (declared_each f ++ declared_second g) → ((l : Plan) → Adds l (of_clears (hidden_by w b k)) old new) → Cleared (cleared_by w (Foreach line f g x b) n) n 0 n old new
each_cleared w line f g x b n k e v = record { code = λ l. clear_as (ap (hidden_by w b) e ∙ each_by w line f g x b n) (v l); place = omega arith }

-- by the tree of a statement
pub cleared_tree : {old new : Sketch} (w : Which) (n k : ℕ) (t u : StmtTree) → t ≡ u → Cleared (cleared_by w u n) n (length (declared u)) k old new → Cleared (cleared_by w t n) n (length (declared t)) k old new
cleared_tree {old} {new} w n k t u e v = subst (λ x. Cleared (cleared_by w x n) n (length (declared x)) k old new) (sym e) v

pub local_by_tree : (w : Which) (line : ℕ) (d : LocalTree) (n : ℕ) → local_by w (names_of d.ones) n ≡ cleared_by w (Declares line d) n
local_by_tree which.Loose line d n = refl
local_by_tree which.Own line d n = refl
local_by_tree which.All line d n = refl

pub while_by : (w : Which) (line : ℕ) (e : Tree) (b : StmtTree) (n : ℕ) → cleared_by (inside_of w) b n ≡ cleared_by w (While line e b) n
while_by which.Loose line e b n = refl
while_by which.Own line e b n = refl
while_by which.All line e b n = refl

pub do_by : (w : Which) (line : ℕ) (e : Tree) (b : StmtTree) (n : ℕ) → cleared_by (inside_of w) b n ≡ cleared_by w (DoWhile line b e) n
do_by which.Loose line e b n = refl
do_by which.Own line e b n = refl
do_by which.All line e b n = refl

-- by other words for which locals, which statement and which slot
pub cleared_at : {old new : Sketch} {w v : Which} {t u : StmtTree} {n m k : ℕ} → w ≡ v → t ≡ u → n ≡ m → Cleared (cleared_by w t n) n (length (declared t)) k old new → Cleared (cleared_by v u m) m (length (declared u)) k old new
cleared_at {old} {new} {w} {v} {t} {u} {n} {m} {k} e f g h =
    subst (λ x. Cleared (cleared_by x u m) m (length (declared u)) k old new) e (subst (λ x. Cleared (cleared_by w x m) m (length (declared x)) k old new) f (subst (λ x. Cleared (cleared_by w t x) x (length (declared t)) k old new) g h))

pub hidden_at : {l : Plan} {old new : Sketch} (w : Which) {t u : StmtTree} (n : ℕ) → t ≡ u → Adds l (of_clears (hidden_by w t n)) old new → Adds l (of_clears (hidden_by w u n)) old new
hidden_at {l} {old} {new} w {t} {u} n e h = subst (λ x. Adds l (of_clears (hidden_by w x n)) old new) e h

pub hidden_which : {l : Plan} {old new : Sketch} {w v : Which} (t : StmtTree) (n : ℕ) → w ≡ v → Adds l (of_clears (hidden_by w t n)) old new → Adds l (of_clears (hidden_by v t n)) old new
hidden_which {l} {old} {new} {w} {v} t n e h = subst (λ x. Adds l (of_clears (hidden_by x t n)) old new) e h
