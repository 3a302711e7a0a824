-- A name that means a function is of ASCII, as the names of each file are.
use Rattle.std.proofs.Common.{◌≡◌, ℕ, zero, suc, arith, refl, sym, ◌∙◌, ap, subst, Bool, true, false, List, [], ◌∷◌, length, Option, Some, None, unwrap_or}
use Rattle.std.specs.Prelude.{◌+◌, ◌<◌, slice_get, if◌then◌else◌, map, IsAscii}
use Rattle.lp_tree.specs.Units.{ItemTree, Inherit, Proto, Fun, Var}
use Rattle.lp_values.specs.declared.id.ProgId.{ProgId}
use Rattle.lp_instr.specs.EfunList.{is_name}
use Rattle.lp_language.specs.World.{Version, World, new_world, no_version, version_at}
use Rattle.lp_language.specs.Resolve.{Heritage, Heir, Heritages, NoParent, OneParent, Found, Function, each_heritage, found_in, heritage_within, moved, shown, or_else, resolve, resolve_last, own_function, part_count, parts_before}
use Rattle.lp_layout.specs.Layout.{AreSpelled, declared_names}
use Rattle.lp_layout.proofs.RowLaid.{same_name}
use Rattle.lp_part_laws.specs.Versions.{AreSpelledTrees, IsSpelledTree, NamesAreSpelled, heritage_in}
use Rattle.lp_part_laws.proofs.Lists.{is_below, there_below}

own_spelled : (is : List ItemTree) (w : List ℕ) (f : Function) → AreSpelled (declared_names is) → own_function is w ≡ Some f → IsAscii w
own_spelled [] w f s e = absurd cc
own_spelled (Inherit line path ∷ is) w f s e = own_spelled is w f s e
own_spelled (Proto line ms ty name ps ∷ is) w f s e = own_spelled is w f s.1 e
own_spelled (Fun line ms ty name ps b ∷ is) w f s e = by (is_name name w) refl e (λ e. own_spelled is w f s.1 e)
  where
    this : Function
    this = record { name = name; modifiers = ms; parameters = map (λ p. p.name) ps; body = b.stmts }

    by : (c : Bool) → is_name name w ≡ c → (if c then Some this else own_function is w) ≡ Some f → (own_function is w ≡ Some f → IsAscii w) → IsAscii w
    by true q e rest = subst (λ z. IsAscii z) (same_name name w q) s.0
    by false q e rest = rest e
own_spelled (Var line ms base ds ∷ is) w f s e = own_spelled is w f s e

shown_spelled : (first : ℕ) (w : List ℕ) (o : Option Found) (f : Found) → moved first (shown o) ≡ Some f → ((g : Found) → o ≡ Some g → IsAscii w) → IsAscii w
shown_spelled first w None f e h = absurd cc
shown_spelled first w (Some g) f e h = h g refl

mutual
  resolved_spelled : (h : Heritage) (w : List ℕ) (f : Found) → IsSpelledTree h → resolve h w ≡ Some f → IsAscii w
  resolved_spelled (Heir n v ps) w f t e = by (own_function v.items w) refl e (λ e. last_spelled ps 0 w f t.1 e)
    where
      by : (o : Option Function) → own_function v.items w ≡ o → or_else (found_in (parts_before ps) o) (resolve_last ps 0 w) ≡ Some f → (resolve_last ps 0 w ≡ Some f → IsAscii w) → IsAscii w
      by None q e rest = rest e
      by (Some x) q e rest = own_spelled v.items w x t.0.functions q

  last_spelled : (hs : Heritages) (first : ℕ) (w : List ℕ) (f : Found) → AreSpelledTrees hs → resolve_last hs first w ≡ Some f → IsAscii w
  last_spelled NoParent first w f t e = absurd cc
  last_spelled (OneParent h hs) first w f t e =
      by (resolve_last hs (first + part_count h) w) refl e (λ g r. resolved_spelled h w g t.0 r) (λ g r. last_spelled hs (first + part_count h) w g t.1 r)
    where
      by : (o : Option Found) → resolve_last hs (first + part_count h) w ≡ o → or_else o (moved first (shown (resolve h w))) ≡ Some f
          → ((g : Found) → resolve h w ≡ Some g → IsAscii w) → ((g : Found) → resolve_last hs (first + part_count h) w ≡ Some g → IsAscii w) → IsAscii w
      by None q e one others = shown_spelled first w (resolve h w) f e one
      by (Some g) q e one others = others g q

-- A version that is not there has no function.

no_function : (k : ℕ) (w : World) (v : ProgId) (name : List ℕ) → version_at w v ≡ no_version → resolve (heritage_within k w v) name ≡ None
no_function zero w v name e = subst (λ (x : Version). resolve (Heir v x NoParent) name ≡ None) (sym e) refl
no_function (suc k) w v name e = subst (λ (x : Version). resolve (Heir v x (each_heritage (heritage_within k w) x.parents)) name ≡ None) (sym e) refl

pub names_are_spelled : NamesAreSpelled
names_are_spelled programs versions v name f c e = by (slice_get versions v.0) refl
  where
    nothing : Some f ≡ None → IsAscii name
    nothing x = absurd cc

    by : (o : Option Version) → slice_get versions v.0 ≡ o → IsAscii name
    by None q = nothing (sym e ∙ no_function v.0 (record (new_world [] 0 0) { versions = versions }) v name (ap (λ o. unwrap_or o no_version) q))
    by (Some u) q =
        let l : v.0 < length versions = is_below versions v.0 u q in
        let w : length programs ≡ length versions = c.whole in
        let p = there_below programs v.0 (omega (arith, l, w)) in
        resolved_spelled (heritage_in versions v) name f (c.fit v.0 p.0 p.1).spelled e
