-- Signs of characters.
use Rattle.std.proofs.Common.{◌≡◌, ℕ, zero, suc, ◌+◌, false, cond, List, [], ◌∷◌, refl, sym, ap, ◌∙◌, ne_eqb, eq-eqb}
use Rattle.std.specs.Char.{len_utf8}
use Rattle.lp_lexer.specs.declared.sign.Sign.{Sign}
use Rattle.lp_lexer.specs.Source.{signs, line_after, begins_join, Rest, passed, skipped, code_at}

-- what no join begins has a sign
signs-plain : (at line c : ℕ) (ds : List ℕ) → begins_join (c ∷ ds) ≡ false → signs at line (c ∷ ds) ≡ record { code = c; at = at; line = line } ∷ signs (at + len_utf8 c) (line_after line c) ds
signs-plain at line c [] e = refl
signs-plain at line c (d ∷ ds) e =
    ap (λ b. cond b (signs (at + 2) (line + 1) ds) (record { code = c; at = at; line = line } ∷ signs (at + len_utf8 c) (line_after line c) (d ∷ ds))) e

pub next_plain : (at line c place next : ℕ) (old cs ds : List ℕ) → cs ≡ old → begins_join old ≡ false → cs ≡ c ∷ ds → place ≡ at + len_utf8 c → next ≡ line_after line c → signs at line old ≡ record { code = c; at = at; line = line } ∷ signs place next ds
next_plain at line c place next old cs ds e j f p n =
    let g : old ≡ c ∷ ds = sym e ∙ f in
    ap (signs at line) g ∙ signs-plain at line c ds (ap begins_join (sym g) ∙ j)
    ∙ ap (λ k. record { code = c; at = at; line = line } ∷ signs k (line_after line c) ds) (sym p)
    ∙ ap (λ k. record { code = c; at = at; line = line } ∷ signs place k ds) (sym n)

pub line_after-newline : (line c : ℕ) → c ≡ 10 → line + 1 ≡ line_after line c
line_after-newline line c e = sym (ap (λ b. cond b (line + 1) line) (eq-eqb c 10 e))

pub line_after-other : (line c : ℕ) → (c ≡ 10 → ⊥) → line ≡ line_after line c
line_after-other line c e = sym (ap (λ b. cond b (line + 1) line) (ne_eqb c 10 e))

-- one sign, and then the rest
pub code_at-passed : (n behind : ℕ) (ss : List Sign) → code_at n (passed behind ss).left ≡ code_at (suc n) ss
code_at-passed zero behind [] = refl
code_at-passed zero behind (s ∷ ss) = refl
code_at-passed (suc n) behind [] = refl
code_at-passed (suc n) behind (s ∷ ss) = refl

pub skipped-passed : (n behind : ℕ) (ss : List Sign) → skipped n (passed behind ss).behind (passed behind ss).left ≡ skipped (suc n) behind ss
skipped-passed zero behind [] = refl
skipped-passed (suc n) behind [] = refl
skipped-passed n behind (s ∷ ss) = refl

pub skipped-passed_by : (n behind : ℕ) (ss : List Sign) (r : Rest) → r ≡ passed behind ss → skipped n r.behind r.left ≡ skipped (suc n) behind ss
skipped-passed_by n behind ss r e = ap (λ q. skipped n q.behind q.left) e ∙ skipped-passed n behind ss
