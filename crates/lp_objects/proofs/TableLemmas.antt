-- What the table of objects stands for after an object was made, after one died, and after the dead were forgotten.
use Rattle.std.proofs.Common.{◌≡◌, ℕ, suc, ◌+◌, ◌≤◌, ◌<◌, ◌==◌, Bool, true, false, ◌||◌, cond, List, [], ◌∷◌, ◌++◌, length, Option, Some, None, is_some, nat_eq, refl, sym, ap, subst, ◌∙◌, inl, inr, ◌⊎◌, arith, string_bytes, take, get_or}
use Rattle.std.proofs.Math.Seq.{take-suc}
use Rattle.std.specs.Option.{option_map}
use Rattle.std.specs.Ordering.{nat_cmp}
use Rattle.std.specs.Cmp.Lexicographic.{pointwise}
use Rattle.std.proofs.lemmas.Grind.{common_steps}
use Rattle.std.specs.BTreeMap.{is_at, get, get_by_text, btree_map_len}
use Rattle.std.specs.Str.{bytes_eq, chars, IsUtf8}
use Rattle.std.specs.Vec.{vec_len, vec_capacity}
use Rattle.std.proofs.lemmas.Bool.{cases_Bool, cases_eq, cond-true, cond-false, true≢false, and_parts, and_from, or_left, or_right, or_cases, not-true, eq-eqb, eqb-true, eqb-false, ne_eqb, false_from_ne_true}
use Rattle.std.proofs.lemmas.Option.{none-some, same_Some, slice_get_past}
use Rattle.std.proofs.lemmas.List.Folds.{list_any-append}
use Rattle.std.proofs.lemmas.Slice.Eq.{bytes_eq-Decides}
use Rattle.std.proofs.lemmas.Str.{encodes-chars}
use Rattle.lp_values.specs.declared.id.ObjId.{ObjId}
use Rattle.lp_objects.specs.declared.fault.ObjectFault.TheVariants.{NameTaken, TooMany}
use Rattle.lp_objects.specs.declared.objects.Entry.{Entry}
use Rattle.lp_objects.specs.declared.objects.Objects.{Objects}
use Rattle.lp_objects.specs.Objects.{Named, HasDistinctNames, bears, dead, killed, killed_from, live_count, lives, max_live, may_add, object_at, object_named, with_object}
use Rattle.lp_objects.specs.Stands.{Stands, died_in, ended_entry, is_among, is_dead, known_at, named}
use Rattle.lp_objects.proofs.ListLemmas.{found, unborne, or_else, named_from-more, at_new, at_others, live_count-more, at_killed, length-killed, live_count-killed}

-- a look-up by a number asks whether it is that number
pub nat_at : (k q : ℕ) → is_at (nat_cmp k) q ≡ nat_eq k q
nat_at k q = grind (arith, common_steps)

-- ---- names

pub same_name : (a b : List ℕ) → pointwise nat_eq a b ≡ true → a ≡ b
same_name a b e = (bytes_eq-Decides a b).0 e

pub name_itself : (a : List ℕ) → pointwise nat_eq a a ≡ true
name_itself a = (bytes_eq-Decides a a).1 refl

-- texts of the same code points are the same
pub same_text : (a b : List ℕ) → IsUtf8 a → IsUtf8 b → chars a ≡ chars b → a ≡ b
same_text a b ua ub e = sym (encodes-chars a ua) ∙ rw e (encodes-chars b ub)

pub bears_name : (name : List ℕ) (x : Named) → x.is_live ≡ true → x.name ≡ name → bears name x ≡ true
bears_name name x live e = and_from _ _ live (subst (λ n. pointwise nat_eq x.name n ≡ true) e (name_itself x.name))

-- ---- what a table tells of one object

known_there : (b : Bool) (o : Option Named) (x : Named) → Some x ≡ cond b o None → o ≡ Some x
known_there true o x e = sym e
known_there false o x e = absurd (none-some x (sym e))

pub entry_there : (t : Objects) (objects : List Named) (n : ℕ) (e : Entry) → Stands t objects → get nat_cmp t.entries n ≡ Some e → object_at objects n ≡ Some (named e)
entry_there t objects n e st is = known_there _ _ _ (sym (ap (option_map named) is) ∙ st.known n)

-- a live object is found by its name
pub found_by_name : (objects : List Named) (n : ℕ) (x : Named) → HasDistinctNames objects → object_at objects n ≡ Some x → x.is_live ≡ true → object_named objects x.name ≡ Some (record { 0 = n })
found_by_name objects n x distinct there live =
    elim (object_named objects x.name) as (λ o. object_named objects x.name ≡ o → o ≡ Some (record { 0 = n })) [
      | None ↦ λ e. absurd (true≢false (sym (bears_name x.name x live refl) ∙ unborne x.name 0 objects e n x there))
      | Some r ↦ λ e.
          let f = found x.name 0 objects r e in
          let parts = and_parts _ _ f.bearing in
          let same : f.place ≡ n = distinct f.place n f.object x f.there there parts.0 live (same_name _ _ parts.1) in
          let serial : r.0 ≡ n = (let s : r.0 ≡ 0 + f.place = f.serial in omega arith) in
          ap (λ (k : ℕ). Some (let o : ObjId = record { 0 = k } in o)) serial
    ] refl

-- ---- nothing that counts changed

pub record IsAs (t t' : Objects) : Type 0 where
  pub next : t'.next ≡ t.next
  pub serials : (q : List ℕ) → get_by_text t'.serials q ≡ get_by_text t.serials q
  pub entries : (n : ℕ) → get nat_cmp t'.entries n ≡ get nat_cmp t.entries n
  pub died : t'.died.items ≡ t.died.items
  pub count : btree_map_len t'.serials ≡ btree_map_len t.serials
  pub room : btree_map_len t'.serials + vec_len t'.died ≤ vec_capacity t'.died

pub stands_as : (t t' : Objects) (objects : List Named) → IsAs t t' → Stands t objects → Stands t' objects
stands_as t t' objects is st = record {
  next = is.next ∙ st.next;
  listed = λ q uq. is.serials q ∙ st.listed q uq;
  known = λ n. ap (option_map named) (is.entries n) ∙ st.known n ∙ sym (rw is.died refl);
  ended = λ n among. st.ended n (rw is.died at among);
  distinct = st.distinct;
  count = is.count ∙ st.count;
  few = st.few;
  room = is.room;
}

-- what is put in where there was nothing, and taken out again
pub undone : {A : Type 0} (b : Bool) (x old : Option A) → (b ≡ true → old ≡ None) → cond b None (cond b x old) ≡ old
undone true x old h = sym (h refl)
undone false x old h = refl

-- ---- an object more

pub may_unnamed : (o : Option ObjId) (b : Bool) → cond (is_some o) (Some NameTaken) (cond b (Some TooMany) None) ≡ None → o ≡ None
may_unnamed None b e = refl
may_unnamed (Some x) b e = absurd (none-some _ (sym e))

may_room : (o : Option ObjId) (b : Bool) → cond (is_some o) (Some NameTaken) (cond b (Some TooMany) None) ≡ None → b ≡ false
may_room None true e = absurd (none-some _ (sym e))
may_room None false e = refl
may_room (Some x) b e = absurd (none-some _ (sym e))

one_more : (a b : ℕ) → a ≤ b → (a == b) ≡ false → a + 1 ≤ b
one_more a b le e = let apart = eqb-false a b e in omega arith

dead_there : (o : Option Named) → is_dead o ≡ true → (x : Named) × (o ≡ Some x)
dead_there None e = absurd (true≢false (sym e))
dead_there (Some x) e = (x, refl)

-- what changes in the table when an object is made
pub record HasMore (t t' : Objects) (bs : List ℕ) (e : Entry) : Type 0 where
  pub next : t'.next ≡ t.next + 1
  pub serials : (q : List ℕ) → get_by_text t'.serials q ≡ cond (bytes_eq bs q) (Some (record { 0 = t.next })) (get_by_text t.serials q)
  pub entries : (n : ℕ) → get nat_cmp t'.entries n ≡ cond (nat_eq t.next n) (Some e) (get nat_cmp t.entries n)
  pub died : t'.died.items ≡ t.died.items
  pub count : btree_map_len t'.serials ≡ btree_map_len t.serials + 1
  pub room : btree_map_len t'.serials + vec_len t'.died ≤ vec_capacity t'.died

module _ (t t' : Objects) (objects : List Named) (bs : List ℕ) (e : Entry) (utf8 : IsUtf8 bs) (st : Stands t objects) (may : may_add objects (chars bs) ≡ None)
    (named_so : string_bytes e.name ≡ bs) (live : e.is_live ≡ true) (more : HasMore t t' bs e) where
  x : Named
  x = named e

  name_is : (named e).name ≡ chars bs
  name_is = ap chars named_so

  unnamed : object_named objects (chars bs) ≡ None
  unnamed = may_unnamed _ _ may

  new : List Named
  new = objects ++ named e ∷ []

  listed : (q : List ℕ) → IsUtf8 q → get_by_text t'.serials q ≡ object_named (objects ++ named e ∷ []) (chars q)
  listed q uq = more.serials q ∙ elim (cases_Bool (bytes_eq bs q)) [
    | inl y ↦
        let is : bs ≡ q = (bytes_eq-Decides bs q).0 y in
        let none : object_named objects (chars q) ≡ None = subst (λ r. object_named objects (chars r) ≡ None) is unnamed in
        let its : bears (chars q) (named e) ≡ true = bears_name (chars q) (named e) live (name_is ∙ ap chars is) in
        let at : t.next ≡ 0 + length objects = st.next ∙ (omega arith) in
        cond-true _ _ _ y ∙ ap (λ (k : ℕ). Some (let o : ObjId = record { 0 = k } in o)) at
        ∙ sym (named_from-more (chars q) 0 objects (named e) ∙ ap (λ o. or_else o (cond (bears (chars q) (named e)) (Some (record { 0 = 0 + length objects })) None)) none ∙ cond-true _ _ _ its)
    | inr n ↦
        let others : bears (chars q) (named e) ≡ false = false_from_ne_true _ (λ b. true≢false (sym ((bytes_eq-Decides bs q).1 (same_text bs q utf8 uq (sym name_is ∙ same_name _ _ (and_parts _ _ b).1))) ∙ n)) in
        cond-false _ _ _ n ∙ st.listed q uq
        ∙ sym (named_from-more (chars q) 0 objects (named e) ∙ ap (or_else (object_named objects (chars q))) (cond-false _ _ _ others) ∙ or_none (object_named objects (chars q)))
  ]
    where
      or_none : (o : Option ObjId) → or_else o None ≡ o
      or_none None = refl
      or_none (Some r) = refl

  known : (n : ℕ) → option_map named (get nat_cmp t'.entries n) ≡ known_at t' (objects ++ named e ∷ []) n
  known n = ap (option_map named) (more.entries n) ∙ elim (cases_eq n (length objects)) [
    | inl is ↦
        let there : object_at (objects ++ named e ∷ []) n ≡ Some (named e) = subst (λ k. object_at (objects ++ named e ∷ []) k ≡ Some (named e)) (sym is) (at_new objects (named e)) in
        ap (option_map named) (cond-true _ _ _ (eq-eqb t.next n (st.next ∙ sym is)))
        ∙ sym (cond-true _ _ _ (or_left _ _ (ap lives there ∙ live)) ∙ there)
    | inr apart ↦
        let there : object_at (objects ++ named e ∷ []) n ≡ object_at objects n = at_others objects (named e) n apart in
        ap (option_map named) (cond-false _ _ _ (ne_eqb t.next n (λ k. apart (sym k ∙ st.next))))
        ∙ st.known n
        ∙ sym (rw (there, more.died) refl)
  ]

  ended : (n : ℕ) → is_among n (died_in t') ≡ true → is_dead (object_at (objects ++ named e ∷ []) n) ≡ true
  ended n among =
      let was : is_dead (object_at objects n) ≡ true = st.ended n (rw more.died at among) in
      let apart : (n ≡ length objects → ⊥) = λ is. none-some _ (sym (slice_get_past objects n (omega arith)) ∙ (dead_there _ was).1) in
      ap is_dead (at_others objects (named e) n apart) ∙ was

  -- another live object has another name
  unlike : (n : ℕ) (y : Named) → object_at objects n ≡ Some y → y.is_live ≡ true → y.name ≡ (named e).name → ⊥
  unlike n y there lives_so same = true≢false (sym (bears_name (chars bs) y lives_so (same ∙ name_is)) ∙ unborne (chars bs) 0 objects unnamed n y there)

  where_it_is : (n : ℕ) (y : Named) → object_at (objects ++ named e ∷ []) n ≡ Some y → ((n ≡ length objects) × (named e ≡ y)) ⊎ (object_at objects n ≡ Some y)
  where_it_is n y there = elim (cases_eq n (length objects)) [
    | inl is ↦ inl (is, same_Some _ _ (sym (at_new objects (named e)) ∙ subst (λ k. object_at (objects ++ named e ∷ []) k ≡ Some y) is there))
    | inr apart ↦ inr (sym (at_others objects (named e) n apart) ∙ there)
  ]

  distinct : HasDistinctNames (objects ++ named e ∷ [])
  distinct n m y z there_y there_z live_y live_z same = elim (where_it_is n y there_y) [
    | inl a ↦ elim (where_it_is m z there_z) [
      | inl b ↦ a.0 ∙ sym b.0
      | inr b ↦ absurd (unlike m z b live_z (sym same ∙ ap (λ (v : Named). v.name) (sym a.1)))
    ]
    | inr a ↦ elim (where_it_is m z there_z) [
      | inl b ↦ absurd (unlike n y a live_y (same ∙ ap (λ (v : Named). v.name) (sym b.1)))
      | inr b ↦ st.distinct n m y z a b live_y live_z same
    ]
  ]

  pub stands_more : Stands t' (objects ++ named e ∷ [])
  stands_more =
      let counted : live_count (objects ++ named e ∷ []) ≡ live_count objects + 1 = live_count-more objects (named e) live in
      record {
        next = let a : t'.next ≡ t.next + 1 = more.next in let b : t.next ≡ length objects = st.next in a ∙ (rw b (sym (length_more objects)));
        listed = listed;
        known = known;
        ended = ended;
        distinct = distinct;
        count = more.count ∙ ap (λ k. k + 1) st.count ∙ sym counted;
        few = subst (λ k. k ≤ max_live) (sym counted) (one_more _ _ st.few (may_room _ _ may));
        room = more.room;
      }
    where
      length_more : (xs : List Named) → length (xs ++ named e ∷ []) ≡ length xs + 1
      length_more [] = refl
      length_more (y ∷ ys) = rw (length_more ys) (omega arith)

  named_is : named e ≡ record { name = chars bs; program = e.program; is_live = true }
  named_is = rw (named_so, live) refl

  pub stands_made : Stands t' (with_object objects (chars bs) e.program)
  stands_made = subst (λ (y : Named). Stands t' (objects ++ y ∷ [])) named_is stands_more

-- ---- a death

-- what changes in the table when an object dies
pub record HasLess (t t' : Objects) (name : List ℕ) (id : ObjId) : Type 0 where
  pub next : t'.next ≡ t.next
  pub serials : (q : List ℕ) → get_by_text t'.serials q ≡ cond (bytes_eq name q) None (get_by_text t.serials q)
  pub entries : (n : ℕ) → get nat_cmp t'.entries n ≡ cond (nat_eq id.0 n) (option_map ended_entry (get nat_cmp t.entries n)) (get nat_cmp t.entries n)
  pub died : t'.died.items ≡ t.died.items ++ id ∷ []
  pub count : btree_map_len t'.serials + 1 ≡ btree_map_len t.serials
  pub room : btree_map_len t'.serials + vec_len t'.died ≤ vec_capacity t'.died

-- whether a serial is among some and one more
among_more : (n : ℕ) (os : List ObjId) (o : ObjId) → is_among n (os ++ o ∷ []) ≡ (is_among n os || nat_eq o.0 n)
among_more n os o = list_any-append (λ p. nat_eq p.0 n) os (o ∷ []) ∙ ap (λ b. is_among n os || b) (or_false (nat_eq o.0 n))
  where
    or_false : (b : Bool) → (b || false) ≡ b
    or_false true = refl
    or_false false = refl

-- one more of some is taken out
pub take_out_step : (q i j : ℕ) (os : List ObjId) (d : ObjId) (old : Option Entry) → i < length os → j ≡ suc i → cond (nat_eq (get_or os i d).0 q) None (cond (is_among q (take i os)) None old) ≡ cond (is_among q (take j os)) None old
take_out_step q i j os d old lt e =
    two (nat_eq (get_or os i d).0 q) (is_among q (take i os)) old
    ∙ ap (λ b. cond b None old) (sym (ap (is_among q) (ap (λ k. take k os) e ∙ take-suc os i d lt) ∙ among_more q (take i os) (get_or os i d)))
  where
    two : (a b : Bool) (old : Option Entry) → cond a None (cond b None old) ≡ cond (b || a) None old
    two true true old = refl
    two true false old = refl
    two false true old = refl
    two false false old = refl

pub its_name : (t : Objects) (objects : List Named) (id : ObjId) (e : Entry) → Stands t objects → get nat_cmp t.entries id.0 ≡ Some e → e.is_live ≡ true → object_named objects (named e).name ≡ Some (record { 0 = id.0 })
its_name t objects id e st is_there live = found_by_name objects id.0 (named e) st.distinct (entry_there t objects id.0 e st is_there) live

module _ (t t' : Objects) (objects : List Named) (id : ObjId) (e : Entry) (utf8 : IsUtf8 (string_bytes e.name)) (st : Stands t objects)
    (is_there : get nat_cmp t.entries id.0 ≡ Some e) (live : e.is_live ≡ true) (less : HasLess t t' (string_bytes e.name) id) where
  there : object_at objects id.0 ≡ Some (named e)
  there = entry_there t objects id.0 e st is_there

  -- a live object of the new list was live, and is another one
  was : (n : ℕ) (y : Named) → object_at (killed_from id.0 objects) n ≡ Some y → y.is_live ≡ true → (object_at objects n ≡ Some y) × (nat_eq id.0 n ≡ false)
  was n y is lives_so = elim (cases_Bool (nat_eq id.0 n)) [
    | inl b ↦
        let dead_one : Some (dead (named e)) ≡ Some y = (sym (ap (option_map dead) (subst (λ k. object_at objects k ≡ Some (named e)) (eqb-true _ _ b) there)) ∙ sym (cond-true _ _ _ b) ∙ sym (at_killed id.0 objects n) ∙ is) in
        absurd (true≢false (sym lives_so ∙ ap (λ (v : Named). v.is_live) (sym (same_Some _ _ dead_one))))
    | inr b ↦ (sym (cond-false _ _ _ b) ∙ sym (at_killed id.0 objects n) ∙ is, b)
  ]

  -- what is at another place stays
  others_stay : (n : ℕ) → nat_eq id.0 n ≡ false → object_at (killed_from id.0 objects) n ≡ object_at objects n
  others_stay n b = at_killed id.0 objects n ∙ cond-false _ _ _ b

  itself_dies : (n : ℕ) → nat_eq id.0 n ≡ true → object_at (killed_from id.0 objects) n ≡ Some (dead (named e))
  itself_dies n b = at_killed id.0 objects n ∙ cond-true _ _ _ b ∙ ap (option_map dead) (subst (λ k. object_at objects k ≡ Some (named e)) (eqb-true _ _ b) there)

  -- an object that is found by a name in the new list is found so in the old one, and the name is not that of the dead
  found_before : (q : List ℕ) (r : ObjId) → object_named (killed_from id.0 objects) q ≡ Some r → (object_named objects q ≡ Some r) × (q ≡ (named e).name → ⊥)
  found_before q r is =
      let f = found q 0 (killed_from id.0 objects) r is in
      let parts = and_parts _ _ f.bearing in
      let before = was f.place f.object f.there parts.0 in
      let name_is : f.object.name ≡ q = same_name _ _ parts.1 in
      let at : (f.place ≡ r.0) = (let s : r.0 ≡ 0 + f.place = f.serial in omega arith) in (
        sym (ap (object_named objects) name_is) ∙ found_by_name objects f.place f.object st.distinct before.0 parts.0 ∙ ap (λ (k : ℕ). Some (let o : ObjId = record { 0 = k } in o)) at,
        λ same. absurd (true≢false (sym (eq-eqb id.0 f.place (st.distinct id.0 f.place (named e) f.object there before.0 live parts.0 (sym same ∙ sym name_is))) ∙ before.1)),
      )

  -- a name that is not that of the dead and is borne by nobody now was borne by nobody
  none_before : (q : List ℕ) → object_named (killed_from id.0 objects) q ≡ None → (q ≡ (named e).name → ⊥) → object_named objects q ≡ None
  none_before q none other =
      elim (object_named objects q) as (λ o. object_named objects q ≡ o → o ≡ None) [
        | None ↦ λ is. refl
        | Some r ↦ λ is.
            let f = found q 0 objects r is in
            elim (cases_Bool (nat_eq id.0 f.place)) [
              | inl b ↦
                  let it : named e ≡ f.object = same_Some _ _ (sym (subst (λ k. object_at objects k ≡ Some (named e)) (eqb-true _ _ b) there) ∙ f.there) in
                  absurd (other (sym (same_name _ _ (and_parts _ _ f.bearing).1) ∙ ap (λ (v : Named). v.name) (sym it)))
              | inr b ↦ absurd (true≢false (sym f.bearing ∙ unborne q 0 (killed_from id.0 objects) none f.place f.object (others_stay f.place b ∙ f.there)))
            ]
      ] refl

  listed_less : (q : List ℕ) → IsUtf8 q → get_by_text t'.serials q ≡ object_named (killed_from id.0 objects) (chars q)
  listed_less q uq = less.serials q ∙ ap (cond (bytes_eq (string_bytes e.name) q) None) (st.listed q uq) ∙
      elim (object_named (killed_from id.0 objects) (chars q)) as (λ o. object_named (killed_from id.0 objects) (chars q) ≡ o → cond (bytes_eq (string_bytes e.name) q) None (object_named objects (chars q)) ≡ o) [
        | Some r ↦ λ is.
            let f = found_before (chars q) r is in
            cond-false _ _ _ (false_from_ne_true _ (λ b. f.1 (ap chars (sym ((bytes_eq-Decides (string_bytes e.name) q).0 b))))) ∙ f.0
        | None ↦ λ is. elim (cases_Bool (bytes_eq (string_bytes e.name) q)) [
          | inl b ↦ cond-true _ _ _ b
          | inr b ↦ cond-false _ _ _ b ∙ none_before (chars q) is (λ same. true≢false (sym ((bytes_eq-Decides (string_bytes e.name) q).1 (same_text (string_bytes e.name) q utf8 uq (sym same))) ∙ b))
        ]
      ] refl

  known_less : (n : ℕ) → option_map named (get nat_cmp t'.entries n) ≡ known_at t' (killed_from id.0 objects) n
  known_less n = ap (option_map named) (less.entries n) ∙ elim (cases_Bool (nat_eq id.0 n)) [
    | inl b ↦
        let at : get nat_cmp t.entries n ≡ Some e = subst (λ k. get nat_cmp t.entries k ≡ Some e) (eqb-true _ _ b) is_there in
        let among : is_among n (died_in t') ≡ true = rw less.died (among_more n (died_in t) id ∙ or_right _ _ b) in
        ap (option_map named) (cond-true _ _ _ b ∙ ap (option_map ended_entry) at)
        ∙ sym (cond-true _ _ _ (or_right _ _ among) ∙ itself_dies n b)
    | inr b ↦
        let among : is_among n (died_in t') ≡ is_among n (died_in t) = rw less.died (among_more n (died_in t) id ∙ ap (λ v. is_among n (died_in t) || v) b ∙ or_false (is_among n (died_in t))) in
        ap (option_map named) (cond-false _ _ _ b) ∙ st.known n ∙ sym (rw (others_stay n b, among) refl)
  ]
    where
      or_false : (b : Bool) → (b || false) ≡ b
      or_false true = refl
      or_false false = refl

  ended_less : (n : ℕ) → is_among n (died_in t') ≡ true → is_dead (object_at (killed_from id.0 objects) n) ≡ true
  ended_less n among = elim (cases_Bool (nat_eq id.0 n)) [
    | inl b ↦ ap is_dead (itself_dies n b)
    | inr b ↦
        let before : is_among n (died_in t) ≡ true = elim (or_cases _ _ (sym (among_more n (died_in t) id) ∙ (rw less.died at among))) [ inl y ↦ y | inr y ↦ absurd (true≢false (sym y ∙ b)) ] in
        ap is_dead (others_stay n b) ∙ st.ended n before
  ]

  distinct_less : HasDistinctNames (killed_from id.0 objects)
  distinct_less n m y z there_y there_z live_y live_z same = st.distinct n m y z (was n y there_y live_y).0 (was m z there_z live_z).0 live_y live_z same

  pub stands_less : Stands t' (killed objects id)
  stands_less =
      let counted : live_count (killed_from id.0 objects) + 1 ≡ live_count objects = live_count-killed id.0 objects (ap lives there ∙ live) in
      record {
        next = less.next ∙ st.next ∙ sym (length-killed id.0 objects);
        listed = listed_less;
        known = known_less;
        ended = ended_less;
        distinct = distinct_less;
        count = one_less _ _ _ _ counted less.count st.count;
        few = let some : live_count objects ≤ max_live = st.few in below _ _ _ counted some;
        room = less.room;
      }
    where
      one_less : (a b d f : ℕ) → a + 1 ≡ b → d + 1 ≡ f → f ≡ b → d ≡ a
      one_less a b d f e g h = omega arith

      below : (a b d : ℕ) → a + 1 ≡ b → b ≤ d → a ≤ d
      below a b d e le = omega arith

-- ---- the dead are forgotten

dead_not_live : (o : Option Named) → is_dead o ≡ true → lives o ≡ false
dead_not_live None e = refl
dead_not_live (Some x) e = not-true _ e

pub record HasForgotten (t t' : Objects) : Type 0 where
  pub next : t'.next ≡ t.next
  pub serials : t'.serials ≡ t.serials
  pub entries : (n : ℕ) → get nat_cmp t'.entries n ≡ cond (is_among n (died_in t)) None (get nat_cmp t.entries n)
  pub died : t'.died.items ≡ []
  pub len : vec_len t'.died ≡ 0
  pub capacity : vec_capacity t'.died ≡ vec_capacity t.died

pub stands_forgotten : (t t' : Objects) (objects : List Named) → Stands t objects → HasForgotten t t' → Stands t' objects
stands_forgotten t t' objects st f = record {
  next = f.next ∙ st.next;
  listed = λ q uq. rw f.serials (st.listed q uq);
  known = known_then;
  ended = λ n among. absurd (true≢false (sym among ∙ rw f.died refl));
  distinct = st.distinct;
  count = ap btree_map_len f.serials ∙ st.count;
  few = st.few;
  room = fewer _ _ _ _ _ _ st.room (ap btree_map_len f.serials) f.len f.capacity;
}
  where
    fewer : (a b d a' b' d' : ℕ) → a + b ≤ d → a' ≡ a → b' ≡ 0 → d' ≡ d → a' + b' ≤ d'
    fewer a b d a' b' d' le e f g = omega arith

    or_false : (b : Bool) → (b || false) ≡ b
    or_false true = refl
    or_false false = refl

    known_then : (n : ℕ) → option_map named (get nat_cmp t'.entries n) ≡ known_at t' objects n
    known_then n = ap (option_map named) (f.entries n) ∙ elim (cases_Bool (is_among n (died_in t))) [
      | inl b ↦
          let off : lives (object_at objects n) ≡ false = dead_not_live _ (st.ended n b) in
          ap (option_map named) (cond-true _ _ _ b) ∙ sym (rw (f.died, off) refl)
      | inr b ↦ ap (option_map named) (cond-false _ _ _ b) ∙ st.known n ∙ rw (f.died, b) refl
    ]
