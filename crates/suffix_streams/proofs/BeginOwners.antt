-- The owners of entries, and their places, when an entry is added after all others.
use Rattle.std.proofs.Common.{◌≡◌, ℕ, zero, suc, ◌+◌, ◌<◌, cond, nat_eq, List, [], ◌∷◌, ◌++◌, length, take, get_or, refl, arith}
use Rattle.std.proofs.lemmas.Bool.Decides.{nat_tests}
use Rattle.suffix_streams.specs.Links.{owned}
use Rattle.suffix_streams.proofs.Linking.{owned_more, counts_own, counts_other}

-- an entry's place is below the length of its stream
pub owned_within : (vs gs : List ℕ) (i q g : ℕ) → length vs ≡ length gs → i < length vs → get_or vs i 0 ≡ q → get_or gs i 0 ≡ g → owned (take i vs) (take i gs) q g < owned vs gs q g
unfolding owned
owned_within [] gs i q g e l a b = absurd (omega arith)
owned_within (x ∷ vs) [] i q g e l a b = absurd (omega arith)
owned_within (x ∷ vs) (y ∷ gs) zero q g e l a b = here x y q g (owned vs gs q g) a b
  where
    here : (x y q g n : ℕ) → x ≡ q → y ≡ g → 0 < cond (nat_eq x q) (cond (nat_eq y g) 1 0) 0 + n
    here x y q g n a b = grind (arith, nat_tests)
owned_within (x ∷ vs) (y ∷ gs) (suc i) q g e l a b = omega (arith, owned_within vs gs i q g (omega arith) (omega arith) a b)

pub owned_by : (vs gs : List ℕ) (v h : ℕ) → length vs ≡ length gs → owned (vs ++ (v ∷ [])) (gs ++ (h ∷ [])) v h ≡ owned vs gs v h + 1
owned_by vs gs v h e = omega (arith, owned_more vs gs v h v h e, counts_own v h v h refl refl)

pub owned_else : (vs gs : List ℕ) (v h q g : ℕ) → length vs ≡ length gs → (v ≡ q → h ≡ g → ⊥) → owned (vs ++ (v ∷ [])) (gs ++ (h ∷ [])) q g ≡ owned vs gs q g
owned_else vs gs v h q g e other = omega (arith, owned_more vs gs v h q g e, counts_other v h q g other)
