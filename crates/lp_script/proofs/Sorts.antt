-- Each kind of item is read exactly.
use Rattle.std.proofs.Common.{◌≡◌, ap, sym, refl, ◌∙◌, subst, ℕ, ◌+◌, ◌<◌, ◌≤◌, Bool, true, false, cond, eqb, leb, ltb, ◌||◌, List, [], ◌∷◌, ◌++◌, length, codes, arith, append_assoc, ◌⊎◌, inl, inr}
use Rattle.std.specs.List.{list_all, list_any, Contains}
use Rattle.std.specs.Ordering.{nat_cmp}
use Rattle.std.specs.Cmp.{nat_eq_equiv}
use Rattle.std.specs.Cmp.Lexicographic.{slice_cmp}
use Rattle.std.specs.declared.cmp.Ordering.TheVariants.{Less}
use Rattle.std.proofs.lemmas.Bool.{eqb-true, ltb-true, ltb-false, le-leb, leb-true}
use Rattle.std.proofs.lemmas.List.Sums.{AllPass-from_list_all, list_all-from_AllPass}
use Rattle.std.proofs.lemmas.Map.Views.{Contains-from_any, list_any-from_Contains}
use Rattle.lp_events.specs.declared.event.Event.TheVariants.{Connect, Line, Gone, Tick, Reload, Swap}
use Rattle.lp_events.specs.declared.item.Item.{Item}
use Rattle.lp_events.specs.declared.item.Item.TheVariants as items
use Rattle.lp_events.specs.Script.{numeral, event_spelling, spelling, IsPath, IsObjectName, path_of, is_line_byte, Context, Stage, Beginning, Filing, Running, Over, Fits}
use Rattle.lp_words.specs.Paths.{begins_path}
use Rattle.lp_script.specs.Reading.{is_between, is_one_of, passes, pair_at, after, made, either, none_at}
use Rattle.lp_script.specs.Items.{last_moment, last_seed, last_number, between_at, path_at, file_bytes_at, head_at, file_at, start_at, connect_at, line_at, gone_at, tick_at, reload_at, swap_at, end_at, running_at, stage_at, item_at}
use Rattle.lp_script.proofs.Exact.{Exact, after_exact, made_exact, pair_exact, either_exact, same_fits, nothing_exact, none_exact, eqb-same}
use Rattle.lp_script.proofs.Numbers.{both, joins}
use Rattle.lp_words.proofs.PathLaws.{begins_path-yes, begins_path-no}
use Rattle.lp_script.proofs.Fields.{between_exact, one_of_exact, path_exact, name_exact, file_bytes_exact, line_bytes_exact, some_path, some_name}

-- what each kind of item has
abbrev IsHead : Item → Type 0
IsHead w = (p : ℕ × ℕ) × ((is_between 0 last_seed p.0 ≡ true) × (is_between 0 last_moment p.1 ≡ true)) × (w ≡ items.Head p.0 p.1)

abbrev IsFile : List ℕ → Item → Type 0
IsFile last w = (p : List ℕ × List ℕ) × ((IsPath p.0 × (slice_cmp nat_cmp last p.0 ≡ Less)) × ((true ≡ true) × (list_all (passes false) p.1 ≡ true))) × (w ≡ items.File p.0 p.1)

abbrev IsStart : Item → Type 0
IsStart w = (p : Unit {0}) × Unit {0} × (w ≡ items.Start)

abbrev IsConnect : ℕ → Item → Type 0
IsConnect highest w = (k : ℕ) × (is_between (highest + 1) last_number k ≡ true) × (w ≡ items.Event (Connect k))

abbrev IsLine : List ℕ → Item → Type 0
IsLine connected w = (p : ℕ × List ℕ) × ((is_one_of connected p.0 ≡ true) × ((is_between 0 4096 (length p.1) ≡ true) × (list_all (passes true) p.1 ≡ true))) × (w ≡ items.Event (Line p.0 p.1))

abbrev IsGone : List ℕ → Item → Type 0
IsGone connected w = (k : ℕ) × (is_one_of connected k ≡ true) × (w ≡ items.Event (Gone k))

abbrev IsTick : ℕ → Item → Type 0
IsTick moment w = (t : ℕ) × (is_between moment last_moment t ≡ true) × (w ≡ items.Event (Tick t))

abbrev IsReload : Item → Type 0
IsReload w = (p : List ℕ × List ℕ) × ((IsPath p.0 × (slice_cmp nat_cmp [] p.0 ≡ Less)) × ((true ≡ true) × (list_all (passes false) p.1 ≡ true))) × (w ≡ items.Event (Reload p.0 p.1))

abbrev IsSwap : Item → Type 0
IsSwap w = (p : List ℕ) × IsObjectName p × (w ≡ items.Event (Swap p))

abbrev IsEnd : Item → Type 0
IsEnd w = (p : Unit {0}) × Unit {0} × (w ≡ items.End)

head_exact : Exact Item IsHead spelling head_at
unfolding head_at spelling
head_exact = made_exact _ _ _ _ (after_exact _ _ _ _ (pair_exact _ _ _ _ (between_exact 0 last_seed 32 (omega arith) (omega arith) refl) _ _ _ _ (between_exact 0 last_moment 10 (omega arith) (omega arith) refl) 0 refl) (codes "mudscript 1 ") (0, 0) (refl, refl)) Item (λ p. items.Head p.0 p.1) spelling
    (λ p f. ap (λ (r : List ℕ). codes "mudscript 1 " ++ r) (append_assoc (numeral p.0 ++ 32 ∷ []) (numeral p.1) (10 ∷ [])))

file_exact : (last : List ℕ) → Exact Item (IsFile last) spelling (file_at last)
unfolding file_at spelling
file_exact last = one (begins_path last []) refl
  where
    one : (b : Bool) → begins_path last [] ≡ b → Exact Item (IsFile last) spelling (λ bs. cond b (made (λ p. items.File p.0 p.1) (after (codes "file ") (pair_at (path_at last) file_bytes_at)) bs) (none_at bs))
    one true e = let s = begins_path-yes last [] e in
        made_exact _ _ _ _ (after_exact _ _ _ _ (pair_exact _ _ _ _ (path_exact last) _ _ _ _ file_bytes_exact [] (refl, refl)) (codes "file ") (s.0, []) ((s.1, s.2), (refl, refl))) Item (λ p. items.File p.0 p.1) spelling
        (λ p f. ap (λ (r : List ℕ). codes "file " ++ r) refl)
    one false e = none_exact Item (IsFile last) spelling (λ w f. begins_path-no last [] e f.0.0 f.0.0 f.1.0.0 f.1.0.1 refl)

start_exact : Exact Item IsStart spelling start_at
unfolding start_at spelling
start_exact = made_exact _ _ _ _ (after_exact _ _ _ _ nothing_exact (codes "start\n") tt tt) Item (λ p. items.Start) spelling (λ p f. refl)

end_exact : Exact Item IsEnd spelling end_at
unfolding end_at spelling
end_exact = made_exact _ _ _ _ (after_exact _ _ _ _ nothing_exact (codes "end\n") tt tt) Item (λ p. items.End) spelling (λ p f. refl)

connect_exact : (highest : ℕ) → Exact Item (IsConnect highest) spelling (connect_at highest)
unfolding connect_at spelling event_spelling
connect_exact highest = one (ltb highest last_number) refl
  where
    one : (b : Bool) → ltb highest last_number ≡ b → Exact Item (IsConnect highest) spelling (λ bs. cond b (made (λ k. items.Event (Connect k)) (after (codes "connect ") (between_at (highest + 1) last_number 10)) bs) (none_at bs))
    one true e = let lt : highest < last_number = ltb-true _ _ e in
        made_exact _ _ _ _ (after_exact _ _ _ _ (between_exact (highest + 1) last_number 10 (omega arith) (omega arith) refl) (codes "connect ") last_number (joins _ _ (le-leb _ _ (omega arith)) (le-leb last_number last_number (omega arith)))) Item (λ k. items.Event (Connect k)) spelling
        (λ k f. refl)
    one false e = none_exact Item (IsConnect highest) spelling (λ w f. let g = both (leb (highest + 1) f.0) (leb f.0 last_number) f.1 in let a : highest + 1 ≤ f.0 = leb-true _ _ g.0 in let b : f.0 ≤ last_number = leb-true _ _ g.1 in let c : last_number ≤ highest = ltb-false _ _ e in absurd (omega arith))

line_exact : (connected : List ℕ) → Exact Item (IsLine connected) spelling (line_at connected)
unfolding line_at spelling event_spelling
line_exact [] = none_exact Item (IsLine []) spelling (λ w f. let g : false ≡ true = f.1.0 in absurd cc)
line_exact (k ∷ ks) =
    made_exact _ _ _ _ (after_exact _ _ _ _ (pair_exact _ _ _ _ (one_of_exact (k ∷ ks) 32 refl) _ _ _ _ line_bytes_exact [] (refl, refl)) (codes "line ") (k, []) (ap (λ (b : Bool). b || list_any (eqb k) ks) (eqb-same k), (refl, refl))) Item (λ p. items.Event (Line p.0 p.1)) spelling
    (λ p f. refl)

gone_exact : (connected : List ℕ) → Exact Item (IsGone connected) spelling (gone_at connected)
unfolding gone_at spelling event_spelling
gone_exact [] = none_exact Item (IsGone []) spelling (λ w f. let g : false ≡ true = f.1 in absurd cc)
gone_exact (k ∷ ks) = made_exact _ _ _ _ (after_exact _ _ _ _ (one_of_exact (k ∷ ks) 10 refl) (codes "gone ") k (ap (λ (b : Bool). b || list_any (eqb k) ks) (eqb-same k))) Item (λ k. items.Event (Gone k)) spelling (λ k f. refl)

tick_exact : (moment : ℕ) → Exact Item (IsTick moment) spelling (tick_at moment)
unfolding tick_at spelling event_spelling
tick_exact moment = one (leb moment last_moment) refl
  where
    one : (b : Bool) → leb moment last_moment ≡ b → Exact Item (IsTick moment) spelling (λ bs. cond b (made (λ t. items.Event (Tick t)) (after (codes "tick ") (between_at moment last_moment 10)) bs) (none_at bs))
    one true e = let le : moment ≤ last_moment = leb-true _ _ e in
        made_exact _ _ _ _ (after_exact _ _ _ _ (between_exact moment last_moment 10 le (omega arith) refl) (codes "tick ") last_moment (joins _ _ (le-leb _ _ le) (le-leb last_moment last_moment (omega arith)))) Item (λ t. items.Event (Tick t)) spelling (λ t f. refl)
    one false e = none_exact Item (IsTick moment) spelling (λ w f. let g = both (leb moment f.0) (leb f.0 last_moment) f.1 in let a : moment ≤ f.0 = leb-true _ _ g.0 in let b : f.0 ≤ last_moment = leb-true _ _ g.1 in let h : false ≡ true = sym e ∙ le-leb moment last_moment (omega arith) in absurd cc)

reload_exact : Exact Item IsReload spelling reload_at
unfolding reload_at spelling event_spelling
reload_exact = made_exact _ _ _ _ (after_exact _ _ _ _ (pair_exact _ _ _ _ (path_exact []) _ _ _ _ file_bytes_exact [] (refl, refl)) (codes "reload ") (some_path.0, []) ((some_path.1, some_path.2), (refl, refl))) Item (λ p. items.Event (Reload p.0 p.1)) spelling (λ p f. refl)

swap_exact : Exact Item IsSwap spelling swap_at
unfolding swap_at spelling event_spelling
swap_exact = made_exact _ _ _ _ (after_exact _ _ _ _ name_exact (codes "swap ") some_name.0 some_name.1) Item (λ p. items.Event (Swap p)) spelling (λ p f. refl)

-- ---- the choice among events and the end

abbrev Is1 : Context → Item → Type 0
Is1 c w = IsEnd w ⊎ IsConnect c.highest w

abbrev Is2 : Context → Item → Type 0
Is2 c w = IsGone c.connected w ⊎ Is1 c w

abbrev Is3 : Context → Item → Type 0
Is3 c w = IsLine c.connected w ⊎ Is2 c w

abbrev Is4 : Context → Item → Type 0
Is4 c w = IsReload w ⊎ Is3 c w

abbrev Is5 : Context → Item → Type 0
Is5 c w = IsSwap w ⊎ Is4 c w

abbrev Is6 : Context → Item → Type 0
Is6 c w = IsTick c.moment w ⊎ Is5 c w

-- the first byte is at most this one
abbrev Below : ℕ → Item → Type 0
Below most w = (b : ℕ) × (t : List ℕ) × (spelling w ≡ b ∷ t) × (b ≤ most)

first0 : (c : Context) (w : Item) → IsConnect c.highest w → Below 99 w
unfolding spelling event_spelling
first0 c w f = (99, _, ap spelling f.2, omega arith)

first1 : (c : Context) (w : Item) → Is1 c w → Below 101 w
unfolding spelling event_spelling
first1 c w (inl f) = (101, _, ap spelling f.2, omega arith)
first1 c w (inr f) = let h = first0 c w f in (h.0, h.1, h.2, omega (arith, h.3))

first2 : (c : Context) (w : Item) → Is2 c w → Below 103 w
unfolding spelling event_spelling
first2 c w (inl f) = (103, _, ap spelling f.2, omega arith)
first2 c w (inr f) = let h = first1 c w f in (h.0, h.1, h.2, omega (arith, h.3))

first3 : (c : Context) (w : Item) → Is3 c w → Below 108 w
unfolding spelling event_spelling
first3 c w (inl f) = (108, _, ap spelling f.2, omega arith)
first3 c w (inr f) = let h = first2 c w f in (h.0, h.1, h.2, omega (arith, h.3))

first4 : (c : Context) (w : Item) → Is4 c w → Below 114 w
unfolding spelling event_spelling
first4 c w (inl f) = (114, _, ap spelling f.2, omega arith)
first4 c w (inr f) = let h = first3 c w f in (h.0, h.1, h.2, omega (arith, h.3))

first5 : (c : Context) (w : Item) → Is5 c w → Below 115 w
unfolding spelling event_spelling
first5 c w (inl f) = (115, _, ap spelling f.2, omega arith)
first5 c w (inr f) = let h = first4 c w f in (h.0, h.1, h.2, omega (arith, h.3))

not_first : (first : ℕ) (w : Item) (most : ℕ) → most < first → Below most w → (b : ℕ) × (t : List ℕ) × (spelling w ≡ b ∷ t) × (b ≡ first → ⊥)
not_first first w most lt h = (h.0, h.1, h.2, λ e. absurd (omega (arith, h.3, e)))

pub running_exact : (c : Context) → Exact Item (Is6 c) spelling (running_at c)
unfolding running_at spelling event_spelling
running_exact c =
    let end : IsEnd items.End = (tt, tt, refl) in
    let x1 = either_exact _ _ _ _ end_exact _ _ (connect_exact c.highest) 101 (λ v f. (_, ap spelling f.2)) (λ v f. not_first 101 v 99 (omega arith) (first0 c v f)) items.End (inl end) in
    let x2 = either_exact _ _ _ _ (gone_exact c.connected) _ _ x1 103 (λ v f. (_, ap spelling f.2)) (λ v f. not_first 103 v 101 (omega arith) (first1 c v f)) items.End (inr (inl end)) in
    let x3 = either_exact _ _ _ _ (line_exact c.connected) _ _ x2 108 (λ v f. (_, ap spelling f.2)) (λ v f. not_first 108 v 103 (omega arith) (first2 c v f)) items.End (inr (inr (inl end))) in
    let x4 = either_exact _ _ _ _ reload_exact _ _ x3 114 (λ v f. (_, ap spelling f.2)) (λ v f. not_first 114 v 108 (omega arith) (first3 c v f)) items.End (inr (inr (inr (inl end)))) in
    let x5 = either_exact _ _ _ _ swap_exact _ _ x4 115 (λ v f. (_, ap spelling f.2)) (λ v f. not_first 115 v 114 (omega arith) (first4 c v f)) items.End (inr (inr (inr (inr (inl end))))) in
    either_exact _ _ _ _ (tick_exact c.moment) _ _ x5 116 (λ v f. (_, ap spelling f.2)) (λ v f. not_first 116 v 115 (omega arith) (first5 c v f)) items.End (inr (inr (inr (inr (inr (inl end))))))

filing_exact : (last : List ℕ) → Exact Item (λ w. IsStart w ⊎ IsFile last w) spelling (either 115 start_at (file_at last))
unfolding spelling
filing_exact last = either_exact _ _ _ _ start_exact _ _ (file_exact last) 115 (λ v f. (_, ap spelling f.2)) (λ v f. (102, _, ap spelling f.2, λ e. absurd (omega (arith, e)))) items.Start (inl (tt, tt, refl))

-- ---- in the words of the definition

between_to : (low high n : ℕ) → is_between low high n ≡ true → (low ≤ n) × (n ≤ high)
between_to low high n e = let g = both (leb low n) (leb n high) e in (leb-true low n g.0, leb-true n high g.1)

between_from : (low high n : ℕ) → low ≤ n → n ≤ high → is_between low high n ≡ true
between_from low high n a b = joins _ _ (le-leb low n a) (le-leb n high b)

pub all_pass : (bytes : List ℕ) → list_all (passes false) bytes ≡ true
all_pass [] = refl
all_pass (b ∷ bytes) = all_pass bytes

pub above_nothing : (p : List ℕ) → IsPath p → slice_cmp nat_cmp [] p ≡ Less
above_nothing [] f = absurd (no_empty f.parts f.some f.joined)
  where
    no_empty : (parts : List (List ℕ)) → 0 < length parts → [] ≡ path_of parts → ⊥
    no_empty [] some e = omega arith
    no_empty (part ∷ parts) some e = cc
above_nothing (c ∷ p) f = refl

connected_to : (ks : List ℕ) (k : ℕ) → is_one_of ks k ≡ true → Contains ks k
connected_to ks k e = Contains-from_any (λ x y f. eqb-true x y f) k ks e

connected_from : (ks : List ℕ) (k : ℕ) → Contains ks k → is_one_of ks k ≡ true
connected_from ks k f = list_any-from_Contains nat_eq_equiv k ks f

head_to : (c : Context) → c.stage ≡ Beginning → (w : Item) → IsHead w → Fits c w
head_to c s w f =
    let a = between_to 0 last_seed f.0.0 f.1.0 in
    let b = between_to 0 last_moment f.0.1 f.1.1 in
    subst (Fits c) (sym f.2) (s, omega (arith, a.1), b.1)

head_from : (c : Context) → c.stage ≡ Beginning → (w : Item) → Fits c w → IsHead w
head_from c s (items.Head seed moment) f = ((seed, moment), (between_from 0 last_seed seed (omega arith) (omega (arith, f.1)), between_from 0 last_moment moment (omega arith) f.2), refl)
head_from c s (items.File path bytes) f = let e = sym s ∙ f.0 in absurd cc
head_from c s items.Start f = let e = sym s ∙ f in absurd cc
head_from c s (items.Event event) f = let e = sym s ∙ f.0 in absurd cc
head_from c s items.End f = let e = sym s ∙ f in absurd cc

filing_to : (c : Context) → c.stage ≡ Filing → (w : Item) → (IsStart w ⊎ IsFile c.last_path w) → Fits c w
filing_to c s w (inl f) = subst (Fits c) (sym f.2) s
filing_to c s w (inr f) = subst (Fits c) (sym f.2) (s, f.1.0.0, f.1.0.1)

filing_from : (c : Context) → c.stage ≡ Filing → (w : Item) → Fits c w → (IsStart w ⊎ IsFile c.last_path w)
filing_from c s (items.Head seed moment) f = let e = sym s ∙ f.0 in absurd cc
filing_from c s (items.File path bytes) f = inr ((path, bytes), ((f.1, f.2), (refl, all_pass bytes)), refl)
filing_from c s items.Start f = inl (tt, tt, refl)
filing_from c s (items.Event event) f = let e = sym s ∙ f.0 in absurd cc
filing_from c s items.End f = let e = sym s ∙ f in absurd cc

running_to : (c : Context) → c.stage ≡ Running → (w : Item) → Is6 c w → Fits c w
running_to c s w (inl f) = let a = between_to c.moment last_moment f.0 f.1 in subst (Fits c) (sym f.2) (s, a)
running_to c s w (inr (inl f)) = subst (Fits c) (sym f.2) (s, f.1)
running_to c s w (inr (inr (inl f))) = subst (Fits c) (sym f.2) (s, f.1.0.0)
running_to c s w (inr (inr (inr (inl f)))) = let a = between_to 0 4096 (length f.0.1) f.1.1.0 in subst (Fits c) (sym f.2) (s, (connected_to c.connected f.0.0 f.1.0, a.1, AllPass-from_list_all is_line_byte f.0.1 f.1.1.1))
running_to c s w (inr (inr (inr (inr (inl f))))) = subst (Fits c) (sym f.2) (s, connected_to c.connected f.0 f.1)
running_to c s w (inr (inr (inr (inr (inr (inl f)))))) = subst (Fits c) (sym f.2) s
running_to c s w (inr (inr (inr (inr (inr (inr f)))))) = let a = between_to (c.highest + 1) last_number f.0 f.1 in subst (Fits c) (sym f.2) (s, (omega (arith, a.0), a.1))

running_from : (c : Context) → c.stage ≡ Running → (w : Item) → Fits c w → Is6 c w
running_from c s (items.Head seed moment) f = let e = sym s ∙ f.0 in absurd cc
running_from c s (items.File path bytes) f = let e = sym s ∙ f.0 in absurd cc
running_from c s items.Start f = let e = sym s ∙ f in absurd cc
running_from c s (items.Event (Connect k)) f = inr (inr (inr (inr (inr (inr (k, between_from (c.highest + 1) last_number k (omega (arith, f.1.0)) f.1.1, refl))))))
running_from c s (items.Event (Line k bytes)) f = inr (inr (inr (inl ((k, bytes), (connected_from c.connected k f.1.0, (between_from 0 4096 (length bytes) (omega arith) f.1.1, list_all-from_AllPass is_line_byte bytes f.1.2)), refl))))
running_from c s (items.Event (Gone k)) f = inr (inr (inr (inr (inl (k, connected_from c.connected k f.1, refl)))))
running_from c s (items.Event (Tick moment)) f = inl (moment, between_from c.moment last_moment moment f.1.0 f.1.1, refl)
running_from c s (items.Event (Reload path bytes)) f = inr (inr (inl ((path, bytes), ((f.1, above_nothing path f.1), (refl, all_pass bytes)), refl)))
running_from c s (items.Event (Swap name)) f = inr (inl (name, f.1, refl))
running_from c s items.End f = inr (inr (inr (inr (inr (inl (tt, tt, refl))))))

pub over_none : (c : Context) → c.stage ≡ Over → (w : Item) → Fits c w → ⊥
over_none c s (items.Head seed moment) f = let e = sym s ∙ f.0 in cc
over_none c s (items.File path bytes) f = let e = sym s ∙ f.0 in cc
over_none c s items.Start f = let e = sym s ∙ f in cc
over_none c s (items.Event event) f = let e = sym s ∙ f.0 in cc
over_none c s items.End f = let e = sym s ∙ f in cc

-- what is read of an item is spelled so and fits; it is short where an item that fits begins so; else none does
pub item_exact : (c : Context) → Exact Item (Fits c) spelling (item_at c)
unfolding item_at stage_at
item_exact c = at c.stage refl
  where
    at : (s : Stage) → c.stage ≡ s → Exact Item (Fits c) spelling (stage_at c.stage c)
    at Beginning e = subst (λ (s : Stage). Exact Item (Fits c) spelling (stage_at s c)) (sym e) (same_fits _ _ _ _ head_exact (Fits c) (head_to c e) (head_from c e))
    at Filing e = subst (λ (s : Stage). Exact Item (Fits c) spelling (stage_at s c)) (sym e) (same_fits _ _ _ _ (filing_exact c.last_path) (Fits c) (filing_to c e) (filing_from c e))
    at Running e = subst (λ (s : Stage). Exact Item (Fits c) spelling (stage_at s c)) (sym e) (same_fits _ _ _ _ (running_exact c) (Fits c) (running_to c e) (running_from c e))
    at Over e = subst (λ (s : Stage). Exact Item (Fits c) spelling (stage_at s c)) (sym e) (none_exact Item (Fits c) spelling (over_none c e))
