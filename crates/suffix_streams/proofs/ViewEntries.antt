-- The entries of a store, by their owners and places.
use Rattle.std.proofs.Common.{◌≡◌, ℕ, zero, suc, ◌+◌, ◌<◌, Bool, true, false, cond, nat_eq, List, [], ◌∷◌, length, take, get_or, refl, ap, ◌∙◌, arith}
use Rattle.std.proofs.lemmas.Bool.Decides.{nat_tests}
use Rattle.stream_store.specs.declared.linked.Linked.{Linked}
use Rattle.take2_heap.specs.declared.entry.Entry.{Entry}
use Rattle.suffix_streams.specs.Links.{owned}
use Rattle.suffix_streams.specs.declared.stream.Found.{Found}
use Rattle.suffix_streams.specs.declared.source.Source.{Source}
use Rattle.suffix_streams.specs.TreeStreams.{node_list, group_list_of, node_of, group_of, place_of, stream}

picked_length : {A : Type 0} (b c : Bool) (x : A) (xs : List A) (n : ℕ) → length xs ≡ n → length (cond b (cond c (x ∷ xs) xs) xs) ≡ cond b (cond c 1 0) 0 + n
picked_length true true x xs n e = omega (arith, e)
picked_length true false x xs n e = omega (arith, e)
picked_length false c x xs n e = omega (arith, e)

picked_at : {A : Type 0} (b c : Bool) (x a d : A) (xs : List A) (n : ℕ) → get_or xs n d ≡ a → get_or (cond b (cond c (x ∷ xs) xs) xs) (cond b (cond c 1 0) 0 + n) d ≡ a
picked_at true true x a d xs n e = let s : 1 + n ≡ suc n = omega arith in ap (λ k. get_or (x ∷ xs) k d) s ∙ e
picked_at true false x a d xs n e = let s : 0 + n ≡ n = omega arith in ap (λ k. get_or xs k d) s ∙ e
picked_at false c x a d xs n e = let s : 0 + n ≡ n = omega arith in ap (λ k. get_or xs k d) s ∙ e

picked_head : {A : Type 0} (v h q g : ℕ) (x d : A) (xs : List A) → v ≡ q → h ≡ g → get_or (cond (nat_eq v q) (cond (nat_eq h g) (x ∷ xs) xs) xs) 0 d ≡ x
picked_head v h q g x d xs a b = let s : cond (nat_eq v q) (cond (nat_eq h g) (x ∷ xs) xs) xs ≡ x ∷ xs = grind (arith, nat_tests) in ap (λ z. get_or z 0 d) s

module _ {R : Type 0} where
  -- a stream has as many solutions as it owns entries
  pub stream_length : (es : List (Linked (Found R))) (q g : ℕ) → length (stream es q g) ≡ owned (node_list es) (group_list_of es) q g
  unfolding stream owned
  stream_length [] q g = refl
  stream_length (e ∷ es) q g = picked_length (nat_eq e.value.node q) (nat_eq e.value.group g) e.value.solution (stream es q g) _ (stream_length es q g)

  -- an entry's solution is at the entry's place of its stream
  pub stream_at : (es : List (Linked (Found R))) (q g i : ℕ) (e : Linked (Found R)) (a : Entry R Source) → i < length es → node_of es i ≡ q → group_of es i ≡ g
      → get_or (stream es q g) (owned (take i (node_list es)) (take i (group_list_of es)) q g) a ≡ (get_or es i e).value.solution
  unfolding stream owned
  stream_at [] q g i e a l n h = absurd (omega arith)
  stream_at (x ∷ es) q g zero e a l n h = picked_head x.value.node x.value.group q g x.value.solution a (stream es q g) n h
  stream_at (x ∷ es) q g (suc i) e a l n h =
      picked_at (nat_eq x.value.node q) (nat_eq x.value.group g) x.value.solution ((get_or es i e).value.solution) a (stream es q g) (owned (take i (node_list es)) (take i (group_list_of es)) q g)
      (stream_at es q g i e a (omega arith) n h)

  pub entry_at : (es : List (Linked (Found R))) (i : ℕ) (e : Linked (Found R)) (a : Entry R Source) → i < length es → get_or (stream es (node_of es i) (group_of es i)) (place_of es i) a ≡ (get_or es i e).value.solution
  entry_at es i e a l = stream_at es (node_of es i) (group_of es i) i e a l refl refl
