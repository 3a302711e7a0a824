-- A script of whose files a master is made is never refused.
use Rattle.std.proofs.Common.{subst, ◌≡◌, ◌∙◌, ◌<◌, ◌≤◌, ℕ, List, [], ◌∷◌, ◌++◌, length, map, take, drop, Bool, true, false, refl, sym, ap, arith, append_assoc, ◌⊎◌, inl, inr}
use Rattle.std.proofs.lemmas.Bool.{cases_lt}
use Rattle.std.proofs.lemmas.List.{append-nil, take_all, take-append-drop}
use Rattle.lp_tree.specs.declared.fault.Fault.{Fault}
use Rattle.lp_residence.specs.declared.answers.SwapCause.{SwapCause}
use Rattle.lp_events.specs.declared.item.Item.{Item}
use Rattle.lp_events.specs.declared.item.Item.TheVariants as items
use Rattle.lp_events.specs.Script.{beginning, after_item, after_items, AllFit, Fits, Context, Stage, Beginning, Filing, Running, Over, spelling, spellings, files_of, seed_of, longest_input, IsScript, IsBadScript}
use Rattle.lp_language.specs.Course.{End, Gives, Stops}
use Rattle.lp_language.specs.World.{new_world}
use Rattle.lp_meaning.specs.ClosingLaws.{OneEnd}
use Rattle.lp_meaning.specs.EventTurns.{Begins, NoMaster, Start, starting, at_rest}
use Rattle.lp_meaning.specs.Closing.{Starts}
use Rattle.lp_front_end.specs.FrontEnds.{ThereIsOne}
use Rattle.lp_top.specs.declared.status.Status.{Status}
use Rattle.lp_top.specs.declared.status.Status.TheVariants as ends
use Rattle.lp_top.specs.Items.{BeginsWithItems, HasMaster, HasNoMaster, moment_of, world_file, world_files}
use Rattle.lp_top.specs.Replay.{Ends}
use Rattle.lp_top.proofs.Reading.{spellings-append}
use Rattle.lp_top.proofs.Filing.{seed-front, moment-front}
use Rattle.lp_top.proofs.Going.{is_late, late-not, after-late}

-- the spelling of an item tells which item it is
abbrev pub OneSpelling : Type 0
OneSpelling = (c : Context) (x y : Item) (a b : List ℕ) → Fits c x → Fits c y → spelling x ++ a ≡ spelling y ++ b → x ≡ y

tail-same : {x y : ℕ} {a b : List ℕ} → x ∷ a ≡ y ∷ b → a ≡ b
tail-same e = cc

abbrev is_over : Stage → Bool
is_over Over = true
is_over s = false

cases-le : (n m : ℕ) → n ≤ m → (n < m) ⊎ (n ≡ m)
cases-le n m l = elim (cases_lt n m) [ inl a ↦ inl a | inr a ↦ inr (omega arith) ]

-- the same front may be left away
cancel : (xs a b : List ℕ) → xs ++ a ≡ xs ++ b → a ≡ b
cancel [] a b e = e
cancel (x ∷ xs) a b e = cancel xs a b (tail-same e)

stage-not : (s t : Stage) → is_over t ≡ false → s ≡ Over → s ≡ t → ⊥
stage-not s t n o e = let h = ap is_over o in let k = ap is_over e in absurd cc

-- nothing stands behind the end
over-nothing : (c : Context) (x : Item) → c.stage ≡ Over → Fits c x → ⊥
over-nothing c (items.Head seed moment) o f = stage-not c.stage Beginning refl o f.0
over-nothing c (items.File path bytes) o f = stage-not c.stage Filing refl o f.0
over-nothing c items.Start o f = stage-not c.stage Filing refl o f
over-nothing c (items.Event event) o f = stage-not c.stage Running refl o f.0
over-nothing c items.End o f = stage-not c.stage Running refl o f

-- items that the bytes begin with are the first ones of their script
front-of-script : OneSpelling → (c : Context) (xs ys : List Item) (o : List ℕ) → AllFit c xs → AllFit c ys → (after_items c ys).stage ≡ Over → spellings xs ++ o ≡ spellings ys → (zs : List Item) × (ys ≡ xs ++ zs)
front-of-script law c [] ys o f g v e = (ys, refl)
front-of-script law c (x ∷ xs) [] o f g v e = absurd (over-nothing c x v f.0)
front-of-script law c (x ∷ xs) (y ∷ ys) o f g v e =
    let l : spelling x ++ (spellings xs ++ o) ≡ spelling y ++ spellings ys = sym (append_assoc (spelling x) (spellings xs) o) ∙ e in
    let same : x ≡ y = law c x y (spellings xs ++ o) (spellings ys) f.0 g.0 l in
    let rest : spellings xs ++ o ≡ spellings ys = cancel (spelling x) (spellings xs ++ o) (spellings ys) (l ∙ ap (λ z. spelling z ++ spellings ys) (sym same)) in
    let g' : AllFit (after_item c x) ys = subst (λ z. AllFit (after_item c z) ys) (sym same) g.1 in
    let v' : (after_items (after_item c x) ys).stage ≡ Over = subst (λ z. (after_items (after_item c z) ys).stage ≡ Over) (sym same) v in
    let w = front-of-script law (after_item c x) xs ys o f.1 g' v' rest in
    (w.0, ap (λ z. z ∷ ys) (sym same) ∙ ap (λ zs. x ∷ zs) w.1)

-- what a short input begins with is the beginning of its script
front-held : OneSpelling → (b : List ℕ) (xs ys : List Item) → length b ≤ longest_input → IsScript b ys → BeginsWithItems (take longest_input b) xs → (zs : List Item) × (ys ≡ xs ++ zs)
front-held law b xs ys l s h =
    front-of-script law beginning xs ys h.others h.fit s.fit s.over (sym h.spelled ∙ take_all longest_input b l ∙ s.spelled)

fits-middle : (c : Context) (xs : List Item) (z : Item) (zs : List Item) → AllFit c (xs ++ z ∷ zs) → Fits (after_items c xs) z
fits-middle c [] z zs f = f.0
fits-middle c (x ∷ xs) z zs f = fits-middle (after_item c x) xs z zs f.1

-- where the items end no item of a script stands
bad-more : (b : List ℕ) (xs ys zs : List Item) (at : ℕ) → take longest_input b ≡ b → IsScript b ys → IsBadScript b xs at → ys ≡ xs ++ zs → ⊥
bad-more b xs ys [] at all s h e = h.1 (subst (IsScript b) (e ∙ append-nil xs) s)
bad-more b xs ys (z ∷ zs) at all s h e =
    let fr = h.0 in
    let whole : spellings xs ++ drop at (take longest_input b) ≡ spellings xs ++ (spelling z ++ spellings zs) =
    ap (λ t. t ++ drop at (take longest_input b)) (sym fr.spelled) ∙ take-append-drop at (take longest_input b) ∙ all ∙ s.spelled ∙ ap spellings e ∙ spellings-append xs (z ∷ zs) in
    fr.longest z (record { fits = fits-middle beginning xs z zs (subst (AllFit beginning) e s.fit); others = spellings zs; spelled = cancel (spellings xs) _ _ whole })

pub bad-not-script : OneSpelling → (b : List ℕ) (xs ys : List Item) (at : ℕ) → length b ≤ longest_input → IsScript b ys → IsBadScript b xs at → ⊥
bad-not-script law b xs ys at l s h =
    let fr = h.0 in
    let w = front-held law b xs ys l s (record { others = drop at (take longest_input b); spelled = sym (take-append-drop at (take longest_input b)) ∙ ap (λ z. z ++ drop at (take longest_input b)) fr.spelled; fit = fr.fit }) in
    bad-more b xs ys w.0 at (take_all longest_input b l) s h w.1

-- no file stands behind `start`
no-files : (c : Context) (xs : List Item) → is_late c.stage ≡ true → AllFit c xs → files_of xs ≡ []
no-files c [] e f = refl
no-files c (items.Head seed moment ∷ xs) e f = absurd (late-not c.stage Beginning e refl f.0.0)
no-files c (items.File path bytes ∷ xs) e f = absurd (late-not c.stage Filing e refl f.0.0)
no-files c (items.Start ∷ xs) e f = absurd (late-not c.stage Filing e refl f.0)
no-files c (items.Event event ∷ xs) e f = no-files (after_item c (items.Event event)) xs (after-late c event e) f.1
no-files c (items.End ∷ xs) e f = no-files (after_item c items.End) xs refl f.1

files-before : (c : Context) (xs zs : List Item) → AllFit c ((xs ++ items.Start ∷ []) ++ zs) → files_of ((xs ++ items.Start ∷ []) ++ zs) ≡ files_of xs
files-before c [] zs f = no-files (after_item c items.Start) zs refl f.1
files-before c (items.Head seed moment ∷ xs) zs f = files-before (after_item c (items.Head seed moment)) xs zs f.1
files-before c (items.File path bytes ∷ xs) zs f = ap (λ fs. (path, bytes) ∷ fs) (files-before (after_item c (items.File path bytes)) xs zs f.1)
files-before c (items.Start ∷ xs) zs f = files-before (after_item c items.Start) xs zs f.1
files-before c (items.Event event ∷ xs) zs f = files-before (after_item c (items.Event event)) xs zs f.1
files-before c (items.End ∷ xs) zs f = files-before (after_item c items.End) xs zs f.1

-- what stands before `start` says the seed and the moment
seed-before : (xs zs : List Item) → seed_of ((xs ++ items.Start ∷ []) ++ zs) ≡ seed_of xs
seed-before [] zs = refl
seed-before (y ∷ xs) zs = seed-front y ((xs ++ items.Start ∷ []) ++ zs) ∙ sym (seed-front y xs)

moment-before : (xs zs : List Item) → moment_of ((xs ++ items.Start ∷ []) ++ zs) ≡ moment_of xs
moment-before [] zs = refl
moment-before (y ∷ xs) zs = moment-front y ((xs ++ items.Start ∷ []) ++ zs) ∙ sym (moment-front y xs)

abbrev begins_so : End Start → Bool
begins_so (Gives Begins s) = true
begins_so (Gives (NoMaster fs) s) = false
begins_so (Stops x s) = false

-- a start makes a master or none
made-not-none : OneEnd Start → ThereIsOne → (xs : List Item) (fs : List Fault) → HasMaster xs → HasNoMaster xs fs → ⊥
made-not-none one there xs fs made none =
    let t = made there.0 there.1 in
    let m = none there.0 there.1 in
    let h : true ≡ false = ap begins_so (one there.0 (starting (at_rest (new_world (world_files xs) (seed_of xs) (moment_of xs)))) (Gives Begins t.2.at_end) (Gives (NoMaster fs) m.at_end) t.2.ends m.ends) in
    absurd cc

-- the master of a script is that of the items before its start
master-before : (xs zs ys : List Item) → ys ≡ (xs ++ items.Start ∷ []) ++ zs → AllFit beginning ys → HasMaster ys → HasMaster xs
master-before xs zs ys e f m front real =
    let w = m front real in
    let fs : world_files ys ≡ world_files xs = ap (map world_file) (ap files_of e ∙ files-before beginning xs zs (subst (AllFit beginning) e f)) in
    let s : seed_of ys ≡ seed_of xs = ap seed_of e ∙ seed-before xs zs in
    let n : moment_of ys ≡ moment_of xs = ap moment_of e ∙ moment-before xs zs in (
      w.0,
      w.1,
      subst (λ gs. Starts front gs (seed_of xs) (moment_of xs) w.0 w.1) fs
          (subst (λ k. Starts front (world_files ys) k (moment_of xs) w.0 w.1) s (subst (λ k. Starts front (world_files ys) (seed_of ys) k w.0 w.1) n w.2)),
    )

-- a script of whose files a master is made is carried out to its end, or memory runs out
pub completes : OneSpelling → OneEnd Start → ThereIsOne → (b : List ℕ) (xs ys : List Item) (s : Status) → length b ≤ longest_input → IsScript b ys → HasMaster ys
    → (s ≡ ends.InputFault → ⊥) → (s ≡ ends.OutputFault → ⊥) → ((cause : SwapCause) → s ≡ ends.SwapFault cause → ⊥) → Ends b xs s → (s ≡ ends.Done) ⊎ (s ≡ ends.NoMemory)
completes law one there b xs ys ends.Done l i m p q r e = inl refl
completes law one there b xs ys ends.BadWords l i m p q r e = absurd e
completes law one there b xs ys (ends.FilesFault path) l i m p q r e = absurd e
completes law one there b xs ys ends.WireFault l i m p q r e = absurd e
completes law one there b xs ys ends.TurnsSpent l i m p q r e = absurd e
completes law one there b xs ys (ends.BadScript at) l i m p q r e = absurd (bad-not-script law b xs ys at l i e)
completes law one there b xs ys (ends.NoMaster fs) l i m p q r e =
    let v = front-held law b (xs ++ items.Start ∷ []) ys l i e.0 in
    absurd (made-not-none one there xs fs (master-before xs v.0 ys v.1 i.fit m) e.2)
completes law one there b xs ys ends.TooLarge l i m p q r e = absurd (omega (arith, e.0))
completes law one there b xs ys ends.InputFault l i m p q r e = absurd (p refl)
completes law one there b xs ys ends.OutputFault l i m p q r e = absurd (q refl)
completes law one there b xs ys (ends.SwapFault cause) l i m p q r e = absurd (r cause refl)
completes law one there b xs ys ends.NoMemory l i m p q r e = inr refl
