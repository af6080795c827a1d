-- A string between two quotes is bytes whose quotes are doubled.
use Rattle.std.proofs.Common.{◌≡◌, ℕ, suc, List, [], ◌∷◌, ◌++◌, length, Some, Bool, true, false, cond, eqb, refl, sym, ap, ◌∙◌}
use Rattle.std.proofs.lemmas.Bool.{eqb-true}
use Rattle.query_select.specs.Tokens.{closing}
use Rattle.query_select.proofs.Strings.{EndsAt, ends, plain, pair, ends_at}
use Rattle.query_parse.specs.Text.{doubled}

ends_by : (x : ℕ) (t : Bool) (ds more : List ℕ) → eqb x 39 ≡ t → EndsAt (ds ++ 39 ∷ more) (length ds) → EndsAt (cond t (x ∷ x ∷ ds) (x ∷ ds) ++ 39 ∷ more) (length (cond t (x ∷ x ∷ ds) (x ∷ ds)))
ends_by x true ds more e h = pair e e h
ends_by x false ds more e h = plain e h

-- the quote after bytes whose quotes are doubled ends a string
pub string_ends : (text more : List ℕ) → EndsAt (doubled text ++ 39 ∷ more) (length (doubled text))
string_ends [] more = ends refl
string_ends (x ∷ text) more = ends_by x (eqb x 39) (doubled text) more refl (string_ends text more)

pub record IsString (bs : List ℕ) (n : ℕ) : Type 0 where
  pub text : List ℕ
  pub more : List ℕ
  pub parts : bs ≡ doubled text ++ 39 ∷ more
  pub len : n ≡ length (doubled text)

doubled_quote : (b : ℕ) (bs : List ℕ) → eqb b 39 ≡ true → doubled (b ∷ bs) ≡ b ∷ b ∷ doubled bs
doubled_quote b bs e = rw e refl

doubled_other : (b : ℕ) (bs : List ℕ) → eqb b 39 ≡ false → doubled (b ∷ bs) ≡ b ∷ doubled bs
doubled_other b bs e = rw e refl

pub string_of : (bs : List ℕ) (n : ℕ) → EndsAt bs n → IsString bs n
string_of _ _ (ends {b = b} {more = more} e) = record { text = []; more = more; parts = ap (λ (x : ℕ). x ∷ more) (eqb-true b 39 e); len = refl }
string_of _ _ (plain {b = b} {n = n} {bs = bs} e h) =
    let s = string_of bs n h in
    record {
      text = b ∷ s.text;
      more = s.more;
      parts = ap (λ (l : List ℕ). b ∷ l) s.parts ∙ ap (λ (l : List ℕ). l ++ 39 ∷ s.more) (sym (doubled_other b s.text e));
      len = ap suc s.len ∙ ap length (sym (doubled_other b s.text e));
    }
string_of _ _ (pair {b = b} {c = c} {n = n} {bs = bs} e f h) =
    let s = string_of bs n h in
    let same : c ≡ b = eqb-true c 39 f ∙ sym (eqb-true b 39 e) in
    record {
      text = b ∷ s.text;
      more = s.more;
      parts = ap (λ (x : ℕ). b ∷ x ∷ bs) same ∙ ap (λ (l : List ℕ). b ∷ b ∷ l) s.parts ∙ ap (λ (l : List ℕ). l ++ 39 ∷ s.more) (sym (doubled_quote b s.text e));
      len = ap (λ (k : ℕ). suc (suc k)) s.len ∙ ap length (sym (doubled_quote b s.text e));
    }

pub closing_string : (bs : List ℕ) (n : ℕ) → closing bs ≡ Some n → IsString bs n
closing_string bs n h = string_of bs n (ends_at bs n h)
