-- The numbers of lists of values, and the links that they are.
use Rattle.std.proofs.Common.{◌≡◌, ◌↔◌, ℕ, nat_eq, List, [], ◌∷◌, length, get_or, position, Some, refl, sym, ap, ◌∙◌, arith}
use Rattle.std.specs.Cmp.Lexicographic.{bytes_decides, pointwise}
use Rattle.std.proofs.lemmas.List.Quantifiers.{position-Some}
use Rattle.link_index.specs.NumberedLists.{AreMore, IsNumbered}
use Rattle.node_build.specs.Links.{IsLink}

-- a list of values stands at its number
at_number : (lists : List (List (List ℕ))) (q n : ℕ) (values : List ℕ) → IsNumbered lists q n values → values ≡ get_or (get_or lists q []) n []
at_number lists q n values h = (bytes_decides values (get_or (get_or lists q []) n [])).0 (position-Some (pointwise nat_eq values) (get_or lists q []) n [] h).1

some_injective : (m n : ℕ) → Some m ≡ Some n → m ≡ n
some_injective m n e = cc

-- two lists have the same number exactly where they are the same
number_iff : (lists : List (List (List ℕ))) (q m n : ℕ) (x y : List ℕ) → IsNumbered lists q m x → IsNumbered lists q n y → (m ≡ n) ↔ (x ≡ y)
number_iff lists q m n x y p r = (
  λ e. at_number lists q m x p ∙ ap (λ (k : ℕ). get_or (get_or lists q []) k []) e ∙ sym (at_number lists q n y r),
  λ e. some_injective m n (sym p ∙ ap (λ (values : List ℕ). position (pointwise nat_eq values) (get_or lists q [])) e ∙ r),
)

-- two links of lists of one length are the same exactly where the lists are
pub link_iff : (lists : List (List (List ℕ))) (q m n : ℕ) (x y : List ℕ) → length x ≡ length y → IsLink lists q m x → IsLink lists q n y → (m ≡ n) ↔ (x ≡ y)
link_iff lists q m n [] [] same p r = (λ e. refl, λ e. p ∙ sym r)
link_iff lists q m n [] (b ∷ y) same p r = absurd (omega (arith, same))
link_iff lists q m n (a ∷ x) [] same p r = absurd (omega (arith, same))
link_iff lists q m n (a ∷ []) (b ∷ []) same p r = (
  λ e. ap (λ (k : ℕ). k ∷ []) (sym p ∙ e ∙ r),
  λ e. p ∙ ap (λ (l : List ℕ). get_or l 0 0) e ∙ sym r,
)
link_iff lists q m n (a ∷ []) (b ∷ d ∷ y) same p r = absurd (omega (arith, same))
link_iff lists q m n (a ∷ c ∷ x) (b ∷ []) same p r = absurd (omega (arith, same))
link_iff lists q m n (a ∷ c ∷ x) (b ∷ d ∷ y) same p r = number_iff lists q m n (a ∷ c ∷ x) (b ∷ d ∷ y) p r

-- links are kept when more lists are numbered
pub link_kept : (old new : List (List (List ℕ))) (q n : ℕ) (values : List ℕ) → AreMore old new → IsLink old q n values → IsLink new q n values
link_kept old new q n [] more h = h
link_kept old new q n (value ∷ []) more h = h
link_kept old new q n (first ∷ second ∷ rest) more h = more.kept q n (first ∷ second ∷ rest) h

-- more than more
pub more_trans : (a b c : List (List (List ℕ))) → AreMore a b → AreMore b c → AreMore a c
more_trans a b c p r = record { count = r.count ∙ p.count; kept = λ q n values h. r.kept q n values (p.kept q n values h) }

pub more_same : (a : List (List (List ℕ))) → AreMore a a
more_same a = record { count = refl; kept = λ q n values h. h }
