-- What entries and products stand for, in well-formed streams.
use Rattle.std.proofs.Common.{◌≡◌, ℕ, zero, suc, ◌+◌, ◌<◌, ◌≤◌, Bool, true, false, cond, nat_eq, List, [], ◌∷◌, length, take, get_or, refl, sym, ap, ◌∙◌, subst, arith}
use Rattle.std.proofs.lemmas.Bool.{eq-eqb}
use Rattle.stream_store.specs.declared.linked.Linked.{Linked}
use Rattle.take2_heap.specs.declared.entry.Entry.{Entry}
use Rattle.tdp_core.specs.TreeView.{NodeView, rows, child_count, group_count, group_named}
use Rattle.tdp_model.specs.KeyTuple.{KeyOf, key_none}
use Rattle.suffix_streams.specs.Links.{owned}
use Rattle.suffix_streams.specs.declared.stream.Found.{Found}
use Rattle.suffix_streams.specs.declared.source.Source.{Source}
use Rattle.suffix_streams.specs.NodeStreamsView.{NodeStreamsView}
use Rattle.suffix_streams.specs.Rankings.{child, part_list, group_list}
use Rattle.suffix_streams.specs.TreeStreams.{node_list, group_list_of, node_of, group_of, place_of, stream, products_of, stream_of, part_known, HasKey, AreLefts, IsStreams, IsHeaded, HasParts}
use Rattle.suffix_streams.proofs.Rankings.{kid, named_in, own_some, sum_fits}
use Rattle.suffix_streams.proofs.Firsts.{first_at}
use Rattle.suffix_streams.proofs.Stores.{node_value, group_value}

shifted : {A : Type 0} (b c : Bool) (xs : List A) (y a z : A) (p : ℕ) → (p < length xs) × (get_or xs p a ≡ z)
    → (cond b (cond c 1 0) 0 + p < length (cond b (cond c (y ∷ xs) xs) xs)) × (get_or (cond b (cond c (y ∷ xs) xs) xs) (cond b (cond c 1 0) 0 + p) a ≡ z)
shifted true true xs y a z p h = let e : suc p ≡ 1 + p = omega arith in (omega (arith, h.0), subst (λ n. get_or (y ∷ xs) n a ≡ z) e h.1)
shifted true false xs y a z p h = let e : p ≡ 0 + p = omega arith in (omega (arith, h.0), subst (λ n. get_or xs n a ≡ z) e h.1)
shifted false c xs y a z p h = let e : p ≡ 0 + p = omega arith in (omega (arith, h.0), subst (λ n. get_or xs n a ≡ z) e h.1)

begins_at : {A : Type 0} (b c : Bool) (xs : List A) (y a : A) → b ≡ true → c ≡ true → (0 < length (cond b (cond c (y ∷ xs) xs) xs)) × (get_or (cond b (cond c (y ∷ xs) xs) xs) 0 a ≡ y)
begins_at true true xs y a e f = (omega arith, refl)
begins_at true false xs y a e f = cc
begins_at false c xs y a e f = cc

-- an entry's solution is in its stream, at the entry's place
entry_at : {R : Type 0} (es : List (Linked (Found R))) (i q g : ℕ) (x : Linked (Found R)) (a : Entry R Source) → i < length es → (get_or es i x).value.node ≡ q → (get_or es i x).value.group ≡ g
    → (owned (take i (node_list es)) (take i (group_list_of es)) q g < length (stream es q g)) × (get_or (stream es q g) (owned (take i (node_list es)) (take i (group_list_of es)) q g) a ≡ (get_or es i x).value.solution)
unfolding owned stream
entry_at [] i q g x a l n h = absurd (omega arith)
entry_at (e ∷ es) zero q g x a l n h = begins_at (nat_eq e.value.node q) (nat_eq e.value.group g) (stream es q g) e.value.solution a (eq-eqb e.value.node q n) (eq-eqb e.value.group g h)
entry_at (e ∷ es) (suc i) q g x a l n h =
    shifted (nat_eq e.value.node q) (nat_eq e.value.group g) (stream es q g) e.value.solution a (get_or es i x).value.solution (owned (take i (node_list es)) (take i (group_list_of es)) q g) (entry_at es i q g x a (omega arith) n h)

module _ {R : Type 0} (d : ℕ) (key : R → KeyOf d 16) (t : List (NodeView R)) (es : List (Linked (Found R))) (nodes : List (NodeStreamsView R)) (h : IsStreams d key t es nodes) where
  -- an entry's solution is the member of its group's ranking at the entry's place
  pub entry_key : (i q g : ℕ) → i < length es → node_of es i ≡ q → group_of es i ≡ g
      → (place_of es i < length (stream es q g)) × (place_of es i < length (group_list d key t q g)) × HasKey d key es i (get_or (group_list d key t q g) (place_of es i) (key_none d 16))
  entry_key i q g l n k =
      let own : (node_of es i < length t) × (group_of es i < group_count t (node_of es i)) = h.owners i l in
      let inside : q < length t = omega (arith, n, own.0) in
      let in_group : g < group_count t q = subst (λ z. z < group_count t q) k (subst (λ z. group_of es i < group_count t z) n own.1) in
      let s = h.streams q g inside in_group in
      let place : owned (take i (node_list es)) (take i (group_list_of es)) q g ≡ place_of es i = ap (λ z. owned (take i (node_list es)) (take i (group_list_of es)) z g) (sym n) ∙ ap (λ z. owned (take i (node_list es)) (take i (group_list_of es)) (node_of es i) z) (sym k) in
      let at : (x : Linked (Found R)) → (place_of es i < length (stream es q g)) × (get_or (stream es q g) (place_of es i) (get_or es i x).value.solution ≡ (get_or es i x).value.solution) =
      λ x. subst (λ p. (p < length (stream es q g)) × (get_or (stream es q g) p (get_or es i x).value.solution ≡ (get_or es i x).value.solution)) place
      (entry_at es i q g x (get_or es i x).value.solution l (sym (node_value es i x l) ∙ n) (sym (group_value es i x l) ∙ k)) in
      let within : place_of es i < length (stream es q g) = subst (λ p. p < length (stream es q g)) place (any_entry i q g l n k) in (
        within,
        omega (arith, within, s.merge.prefix.1),
        λ x.
            let p : key (get_or (stream es q g) (place_of es i) (get_or es i x).value.solution).rank ≡ get_or (group_list d key t q g) (place_of es i) (key_none d 16) =
            first_at d key (stream es q g) (group_list d key t q g) (place_of es i) (get_or es i x).value.solution s.merge.prefix within in
            subst (λ (a : Entry R Source). key a.rank ≡ get_or (group_list d key t q g) (place_of es i) (key_none d 16)) (at x).1 p,
      )
    where
      any_entry : (i q g : ℕ) → i < length es → node_of es i ≡ q → group_of es i ≡ g → owned (take i (node_list es)) (take i (group_list_of es)) q g < length (stream es q g)
      any_entry i q g l n k = found es l (λ x. (entry_at es i q g x x.value.solution l (sym (node_value es i x l) ∙ n) (sym (group_value es i x l) ∙ k)).0)
        where
          found : (xs : List (Linked (Found R))) → i < length xs → ((x : Linked (Found R)) → owned (take i (node_list es)) (take i (group_list_of es)) q g < length (stream es q g)) → owned (take i (node_list es)) (take i (group_list_of es)) q g < length (stream es q g)
          found [] l f = absurd (omega arith)
          found (x ∷ xs) l f = f x

  pub named_stream : (v r c : ℕ) → v < length t → r < rows t v → c < child_count t v → group_named t v r c < group_count t (child t v c)
  named_stream v r c l row k = named_in d key t h.tree v r c row k

  pub headed_of : (v r : ℕ) → v < length t → r < rows t v → IsHeaded d key t es nodes v r
  headed_of v r l row = record {
    all_nodes = h.all_nodes;
    all_children = h.all_children v l;
    children = λ c k. h.children v c l k;
    streams = λ c k. omega (arith, named_stream v r c l row k, h.all_streams (child t v c) (kid d key t h.tree v c k).within);
    heads = λ c k. (h.streams (child t v c) (group_named t v r c) (kid d key t h.tree v c k).within (named_stream v r c l row k)).head_in;
    owners = λ c k.
        let s = h.streams (child t v c) (group_named t v r c) (kid d key t h.tree v c k).within (named_stream v r c l row k) in
        (s.head_node, s.head_group);
    places = λ c k. (h.streams (child t v c) (group_named t v r c) (kid d key t h.tree v c k).within (named_stream v r c l row k)).head_place;
    keys = λ c k.
        let s = h.streams (child t v c) (group_named t v r c) (kid d key t h.tree v c k).within (named_stream v r c l row k) in
        subst (λ p. HasKey d key es (stream_of nodes (child t v c) (group_named t v r c)).head (get_or (group_list d key t (child t v c) (group_named t v r c)) p (key_none d 16))) s.head_place
        (entry_key (stream_of nodes (child t v c) (group_named t v r c)).head (child t v c) (group_named t v r c) s.head_in s.head_node s.head_group).2;
  }

  pub child_in : (v r c : ℕ) → v < length t → r < rows t v → c < length (products_of nodes v r) → c < child_count t v
  child_in v r c l row k = omega (arith, k, h.whole_rows v r l row (omega arith))

  -- the products before the last one keep ranks
  pub lefts_of : (v r c : ℕ) → v < length t → r < rows t v → c < length (products_of nodes v r) → AreLefts d key t nodes v r c
  lefts_of v r zero l row k = tt
  lefts_of v r (suc c) l row k = (h.products v r c l row (omega arith)).ranked (child_in v r (suc c) l row k)

  -- some solution is known
  pub some_known : (v r c : ℕ) → v < length t → r < rows t v → c ≤ length (products_of nodes v r) → 0 < part_known nodes v r c
  some_known v r zero l row k = omega arith
  some_known v r (suc c) l row k = (h.products v r c l row (omega arith)).sums.prefix.0

  -- what is known is in the ranking
  pub known_inside : (v r c place : ℕ) → v < length t → r < rows t v → c ≤ length (products_of nodes v r) → place < part_known nodes v r c → place < length (part_list d key t v r c)
  known_inside v r zero place l row k p = omega (arith, own_some d key t h.tree v r l)
  known_inside v r (suc c) place l row k p = omega (arith, p, (h.products v r c l row (omega arith)).sums.prefix.1)

  pub parts_of : (v r c : ℕ) → v < length t → r < rows t v → c < length (products_of nodes v r) → HasParts d key t es nodes v r c
  parts_of v r c l row k = record {
    node = omega (arith, h.all_nodes);
    count = omega arith;
    lefts = lefts_of v r c l row k;
    rights = λ i a n m. let e = entry_key i (child t v c) (group_named t v r c) a n m in (e.1, e.2);
    fits = λ i j a b. sum_fits d key t h.tree v r c i j l (child_in v r c l row k) a b;
  }

-- a stream is as long as its owner has entries
pub stream_owned : {R : Type 0} (es : List (Linked (Found R))) (q g : ℕ) → length (stream es q g) ≡ owned (node_list es) (group_list_of es) q g
unfolding owned stream
stream_owned [] q g = refl
stream_owned {R} (e ∷ es) q g = counted (nat_eq e.value.node q) (nat_eq e.value.group g) (stream es q g) e.value.solution ∙ ap (λ n. cond (nat_eq e.value.node q) (cond (nat_eq e.value.group g) 1 0) 0 + n) (stream_owned es q g)
  where
    counted : (b c : Bool) (xs : List (Entry R Source)) (x : Entry R Source) → length (cond b (cond c (x ∷ xs) xs) xs) ≡ cond b (cond c 1 0) 0 + length xs
    counted true true xs x = omega arith
    counted true false xs x = omega arith
    counted false c xs x = omega arith
