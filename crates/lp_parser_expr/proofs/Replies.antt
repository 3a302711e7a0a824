-- What the reader answers is what is spelled.
use Rattle.std.proofs.Common.{◌≡◌, ℕ, ◌+◌, ◌≤◌, ◌<◌, List, [], take, true, false, leb, inl, inr, ap, ◌∙◌, subst, sym, arith}
use Rattle.std.specs.Prelude.{Result, Ok, Err, ◌⊎◌}
use Rattle.std.proofs.lemmas.Bool.Decides.{leb_tells}
use Rattle.lp_tree.specs.declared.expr.Expr.{Expr}
use Rattle.lp_tree.specs.declared.token.Token.{Token}
use Rattle.lp_tree.specs.Trees.{Tree}
use Rattle.lp_tree.specs.TreeView.{tree_of}
use Rattle.lp_tree.specs.Expressions.{Spells}
use Rattle.lp_parser_expr.specs.declared.tall.Tall.{Tall}
use Rattle.lp_parser_expr.specs.declared.fault.Stop.{Stop}
use Rattle.lp_parser_expr.specs.declared.fault.Stop.TheVariants as stop
use Rattle.lp_parser_expr.specs.Theorem.{sight, IsRead, IsUnexpected, IsTooNested, Stops, line_of_place}
use Rattle.lp_parser_expr.proofs.Main.{begun, deep, spells_one, found, unexpected_at, nested_at, same_place, not_longer, read_begins, whole_begins, shorter, stands_begins, stuck_not, not_finished}

stops_as : (limit lim : ℕ) (ts us : List Token) (r : Result (Tall × ℕ) Stop) → lim ≡ limit → us ≡ ts → Stops lim us r → Stops limit ts r
stops_as limit lim ts us r e f s = subst (λ l. Stops l ts r) e (subst (λ xs. Stops lim xs r) f s)

pub read_found : (limit lim : ℕ) (ts us : List Token) (w : Tall) (n : ℕ) → lim ≡ limit → us ≡ ts → Stops lim us (Ok (w, n)) → IsRead limit ts n (tree_of w.expr.value)
read_found limit lim ts us w n e f s = let r = stops_as limit lim ts us (Ok (w, n)) e f s in found limit ts (tree_of w.expr.value) n r.0 r.1 r.2 r.3

equal : (m n : ℕ) → (n < m → ⊥) → (m < n → ⊥) → m ≡ n
equal m n a b = go (leb_tells m n)
  where
    below : m ≤ n → ((leb n m ≡ true) × (n ≤ m)) ⊎ ((leb n m ≡ false) × (m < n)) → m ≡ n
    below h (inl x) = omega (arith, h, x.1)
    below h (inr x) = absurd (b x.1)

    go : ((leb m n ≡ true) × (m ≤ n)) ⊎ ((leb m n ≡ false) × (n < m)) → m ≡ n
    go (inl x) = below x.1 (leb_tells n m)
    go (inr x) = absurd (a x.1)

pub read_found_as : (limit lim : ℕ) (ts us : List Token) (w : Tall) (n : ℕ) (x : Expr) → x ≡ w.expr.value → lim ≡ limit → us ≡ ts → Stops lim us (Ok (w, n)) → IsRead limit ts n (tree_of x)
read_found_as limit lim ts us w n x d e f s = subst (λ y. IsRead limit ts n (tree_of y)) (sym d) (read_found limit lim ts us w n e f s)

pub read_once : (limit : ℕ) (ts : List Token) (from m n : ℕ) (u t : Tree) → IsRead limit ts m u → IsRead limit ts n t → (u ≡ t) × (from + m ≡ from + n)
read_once limit ts from m n u t q r =
    let p = same_place limit ts n m t u r q in
    let e : m ≡ n = equal m n p.0 p.1 in
    (spells_one u t (sight (take n ts)) (subst (λ k. Spells u (sight (take k ts)) []) e q.spelled) r.spelled, ap (λ k. from + k) e)

three_ways : (m n : ℕ) → (m < n → ⊥) → (n < m → ⊥) → (m ≡ n → ⊥) → ⊥
three_ways m n a b c = c (equal m n b a)

unexpected_stops : (limit : ℕ) (ts : List Token) (at : ℕ) → Stops limit ts (Err (stop.Unexpected at)) → (t : Tree) (n : ℕ) → IsRead limit ts n t → ⊥
unexpected_stops limit ts at s t n r =
    three_ways n at
    (λ h. not_longer limit ts n at t r s.1.within (stands_begins limit ts at s.0 s.1) h)
    (λ h. stuck_not ts at s.2 (omega (arith, h, r.within)) (shorter (at + 1) n ts (omega arith) (read_begins limit ts n t r)))
    (λ e. not_finished ts at s.0 t s.1.walked s.3 (subst (λ k. Spells t (sight (take k ts)) []) e r.spelled))

nested_stops : (limit : ℕ) (ts : List Token) (at : ℕ) → Stops limit ts (Err (stop.TooNested at)) → (t : Tree) (n : ℕ) → IsRead limit ts n t → ⊥
nested_stops limit ts at s t n r =
    let begins = begun false (sight (take (at + 1) ts)) s.1 s.4 in
    three_ways n at
    (λ h. not_longer limit ts n (at + 1) t r (omega (arith, s.3)) (begins.0, begins.1, begins.2) (omega arith))
    (λ h. let w = whole_begins (at + 1) n ts t (omega arith) r.spelled in absurd (omega (arith, deep false (sight (take (at + 1) ts)) w.0 t s.1 s.4 w.1 (omega arith), r.shallow, s.5)))
    (λ e. not_longer limit ts n (at + 1) t r (omega (arith, s.3)) (begins.0, begins.1, begins.2) (omega arith))

pub unexpected_not : (limit lim : ℕ) (ts us : List Token) (e : Stop) (at : ℕ) → lim ≡ limit → us ≡ ts → Stops lim us (Err e) → e ≡ stop.Unexpected at → (t : Tree) (n : ℕ) → IsRead limit ts n t → ⊥
unexpected_not limit lim ts us e at k f s w = unexpected_stops limit ts at (subst (λ y. Stops limit ts (Err y)) w (stops_as limit lim ts us (Err e) k f s))

pub nested_not : (limit lim : ℕ) (ts us : List Token) (e : Stop) (at : ℕ) → lim ≡ limit → us ≡ ts → Stops lim us (Err e) → e ≡ stop.TooNested at → (t : Tree) (n : ℕ) → IsRead limit ts n t → ⊥
nested_not limit lim ts us e at k f s w = nested_stops limit ts at (subst (λ y. Stops limit ts (Err y)) w (stops_as limit lim ts us (Err e) k f s))

pub unexpected_ok : (limit lim : ℕ) (all ts us : List Token) (e : Stop) (at line : ℕ) → lim ≡ limit → us ≡ ts → Stops lim us (Err e) → e ≡ stop.Unexpected at → line ≡ line_of_place all us at → (x : ℕ) × IsUnexpected limit ts x × (line ≡ line_of_place all ts x)
unexpected_ok limit lim all ts us e at line k f s w l =
    let r = subst (λ y. Stops limit ts (Err y)) w (stops_as limit lim ts us (Err e) k f s) in
    (at, unexpected_at limit ts at r.0 r.1 r.2 r.3, l ∙ ap (λ xs. line_of_place all xs at) f)

pub nested_ok : (limit lim : ℕ) (all ts us : List Token) (e : Stop) (at line : ℕ) → lim ≡ limit → us ≡ ts → Stops lim us (Err e) → e ≡ stop.TooNested at → line ≡ line_of_place all us at → (x : ℕ) × IsTooNested limit ts x × (line ≡ line_of_place all ts x)
nested_ok limit lim all ts us e at line k f s w l =
    let r = subst (λ y. Stops limit ts (Err y)) w (stops_as limit lim ts us (Err e) k f s) in
    (at, nested_at limit ts at r.0 r.1 r.2 r.3 r.4 r.5, l ∙ ap (λ xs. line_of_place all xs at) f)
