-- The store of entries, when an entry is added after all others and linked.
use Rattle.std.proofs.Common.{◌≡◌, ◌≢◌, ℕ, zero, suc, ◌+◌, ◌<◌, ◌≤◌, ◌⊎◌, Option, Some, None, Bool, true, false, cond, nat_eq, List, [], ◌∷◌, ◌++◌, map, length, get_or, slice_set, refl, sym, ap, ◌∙◌, subst, inl, inr, arith}
use Rattle.std.proofs.lemmas.Bool.{cases_lt, cases_eq, eq-eqb, ne_eqb}
use Rattle.stream_store.specs.declared.linked.Linked.{Linked}
use Rattle.suffix_streams.specs.Links.{place_in, IsLinked}
use Rattle.suffix_streams.proofs.Linking.{link_kept, place_kept}
use Rattle.suffix_streams.specs.declared.stream.Found.{Found}
use Rattle.suffix_streams.specs.TreeStreams.{open_rows, node_list, group_list_of, next_list, node_of, group_of, place_of, next_of, stream, node_size}
use Rattle.suffix_streams.specs.Growing.{IsStoreGrown}
use Rattle.suffix_streams.proofs.State.{stream_own, stream_other, node_size_more, stream_linked, count_more}
use Rattle.suffix_streams.proofs.ListEnds.{any_default, at_end, at_more, map_at, map_length, map_more, map_set, set_length, set_map, set_more}

-- the number of rows whose products can be kept: at most all, and all if they have several children
pub open_few : (k n : ℕ) → open_rows k n ≤ n
open_few zero n = omega arith
open_few (suc zero) n = omega arith
open_few (suc (suc k)) n = omega arith

pub open_all : (k n : ℕ) → 1 < k → open_rows k n ≡ n
open_all zero n l = absurd (omega arith)
open_all (suc zero) n l = absurd (omega arith)
open_all (suc (suc k)) n l = refl

value_set : {A B : Type 0} (f : A → B) (xs : List A) (i j : ℕ) (x d : A) → f x ≡ f (get_or xs i d) → j < length xs → f (get_or (slice_set xs i x) j d) ≡ f (get_or xs j d)
value_set f [] i j x d e l = absurd (omega arith)
value_set f (y ∷ xs) zero zero x d e l = e
value_set f (y ∷ xs) zero (suc j) x d e l = refl
value_set f (y ∷ xs) (suc i) zero x d e l = refl
value_set f (y ∷ xs) (suc i) (suc j) x d e l = value_set f xs i j x d e (omega arith)

linked_size : {R : Type 0} (es : List (Linked (Found R))) (i : ℕ) (y z : Linked (Found R)) (q : ℕ) → y.value.node ≡ (get_or es i z).value.node → node_size (slice_set es i y) q ≡ node_size es q
unfolding node_size
linked_size [] i y z q e = refl
linked_size (w ∷ es) zero y z q e = ap (λ n. cond (nat_eq n q) 1 0 + node_size es q) e
linked_size (w ∷ es) (suc i) y z q e = ap (λ n. cond (nat_eq w.value.node q) 1 0 + n) (linked_size es i y z q e)

module _ {R : Type 0} where
  pub node_length : (es : List (Linked (Found R))) → length (node_list es) ≡ length es
  node_length es = map_length (λ e. e.value.node) es

  pub group_length : (es : List (Linked (Found R))) → length (group_list_of es) ≡ length es
  group_length es = map_length (λ e. e.value.group) es

  next_length : (es : List (Linked (Found R))) → length (next_list es) ≡ length es
  next_length es = map_length (λ e. e.next) es

  pub node_value : (es : List (Linked (Found R))) (i : ℕ) (x : Linked (Found R)) → i < length es → node_of es i ≡ (get_or es i x).value.node
  node_value es i x l = map_at (λ e. e.value.node) es i x 0 l

  pub group_value : (es : List (Linked (Found R))) (i : ℕ) (x : Linked (Found R)) → i < length es → group_of es i ≡ (get_or es i x).value.group
  group_value es i x l = map_at (λ e. e.value.group) es i x 0 l

  pub next_value : (es : List (Linked (Found R))) (i : ℕ) (x : Linked (Found R)) → i < length es → next_of es i ≡ (get_or es i x).next
  next_value es i x l = map_at (λ e. e.next) es i x None l

  next_within : (es : List (Linked (Found R))) (i n : ℕ) → next_of es i ≡ Some n → i < length es
  next_within es i n e = elim (cases_lt i (length es)) [
    | inl l ↦ l
    | inr l ↦ absurd (none_some n (sym (past (next_list es) i (omega (arith, next_length es))) ∙ e))
  ]
    where
      past : (xs : List (Option ℕ)) (i : ℕ) → length xs ≤ i → get_or xs i None ≡ None
      past [] i l = refl
      past (x ∷ xs) zero l = absurd (omega arith)
      past (x ∷ xs) (suc i) l = past xs i (omega arith)

      none_some : (n : ℕ) → None ≡ Some n → ⊥
      none_some n e = cc

  stays : (q : ℕ) (es : List (Linked (Found R))) → IsStoreGrown q es es
  stays q es = record {
    longer = omega arith;
    values = λ i x l. refl;
    nodes = λ i l. refl;
    groups = λ i l. refl;
    places = λ i l. refl;
    links = λ i n e. e;
    above = λ i l h. refl;
  }

  pub store_stays : (q : ℕ) (es : List (Linked (Found R))) → IsStoreGrown q es es
  store_stays = stays

  pub store_goes_on : (q : ℕ) (a b c : List (Linked (Found R))) → IsStoreGrown q a b → IsStoreGrown q b c → IsStoreGrown q a c
  store_goes_on q a b c g h = record {
    longer = omega (arith, g.longer, h.longer);
    values = λ i x l. h.values i x (omega (arith, g.longer)) ∙ g.values i x l;
    nodes = λ i l. h.nodes i (omega (arith, g.longer)) ∙ g.nodes i l;
    groups = λ i l. h.groups i (omega (arith, g.longer)) ∙ g.groups i l;
    places = λ i l. h.places i (omega (arith, g.longer)) ∙ g.places i l;
    links = λ i n e. h.links i n (g.links i n e);
    above = λ i l z. h.above i (omega (arith, g.longer)) (omega (arith, g.nodes i l)) ∙ g.above i l z;
  }

  pub store_from_above : (p q : ℕ) (a b : List (Linked (Found R))) → p ≤ q → IsStoreGrown q a b → IsStoreGrown p a b
  store_from_above p q a b l g = record {
    longer = g.longer;
    values = g.values;
    nodes = g.nodes;
    groups = g.groups;
    places = g.places;
    links = g.links;
    above = λ i k z. g.above i k (omega arith);
  }

  -- # An entry is added after all others, and linked after the last of its stream

  module _ (es : List (Linked (Found R))) (last : ℕ) (x : Found R) (linked : Linked (Found R)) (within : last < length es)
      (same : linked.value ≡ (get_or es last linked).value) (to : linked.next ≡ Some (length es)) (node : node_of es last ≡ x.node) (group : group_of es last ≡ x.group) (none : next_of es last ≡ None) where
    abbrev new : Linked (Found R)
    new = record { value = x; next = None }

    abbrev pub with_entry : List (Linked (Found R))
    with_entry = slice_set (es ++ (new ∷ [])) last linked

    as_last : linked.value ≡ (get_or (es ++ (new ∷ [])) last linked).value
    as_last = same ∙ ap (λ e. e.value) (sym (at_more es new linked last within))

    node_list_new : node_list with_entry ≡ node_list es ++ (x.node ∷ [])
    node_list_new = map_set (λ e. e.value.node) (es ++ (new ∷ [])) last linked linked (ap (λ v. v.node) as_last) ∙ map_more (λ e. e.value.node) es new

    group_list_new : group_list_of with_entry ≡ group_list_of es ++ (x.group ∷ [])
    group_list_new = map_set (λ e. e.value.group) (es ++ (new ∷ [])) last linked linked (ap (λ v. v.group) as_last) ∙ map_more (λ e. e.value.group) es new

    next_list_new : next_list with_entry ≡ slice_set (next_list es) last (Some (length es)) ++ (None ∷ [])
    next_list_new =
        set_map (λ e. e.next) (es ++ (new ∷ [])) last linked ∙ ap (λ n. slice_set (map (λ e. e.next) (es ++ (new ∷ []))) last n) to
        ∙ ap (λ z. slice_set z last (Some (length es))) (map_more (λ e. e.next) es new) ∙ set_more (next_list es) last (Some (length es)) None (omega (arith, next_length es))

    pub entry_length : length with_entry ≡ suc (length es)
    entry_length = set_length (es ++ (new ∷ [])) last linked ∙ count_more es new

    pub old_node : (i : ℕ) → i < length es → node_of with_entry i ≡ node_of es i
    old_node i l = ap (λ z. get_or z i 0) node_list_new ∙ at_more (node_list es) x.node 0 i (omega (arith, node_length es))

    pub old_group : (i : ℕ) → i < length es → group_of with_entry i ≡ group_of es i
    old_group i l = ap (λ z. get_or z i 0) group_list_new ∙ at_more (group_list_of es) x.group 0 i (omega (arith, group_length es))

    both_lengths : length (node_list es) ≡ length (group_list_of es)
    both_lengths = node_length es ∙ sym (group_length es)

    pub old_place : (i : ℕ) → i < length es → place_of with_entry i ≡ place_of es i
    old_place i l =
        ap (λ z. place_in z (group_list_of with_entry) i) node_list_new ∙ ap (λ z. place_in (node_list es ++ (x.node ∷ [])) z i) group_list_new
        ∙ place_kept (node_list es) (group_list_of es) both_lengths x.node x.group i (omega (arith, node_length es))

    pub new_node : node_of with_entry (length es) ≡ x.node
    new_node = ap (λ z. get_or z (length es) 0) node_list_new ∙ ap (λ n. get_or (node_list es ++ (x.node ∷ [])) n 0) (sym (node_length es)) ∙ at_end (node_list es) x.node 0

    pub new_group : group_of with_entry (length es) ≡ x.group
    new_group = ap (λ z. get_or z (length es) 0) group_list_new ∙ ap (λ n. get_or (group_list_of es ++ (x.group ∷ [])) n 0) (sym (group_length es)) ∙ at_end (group_list_of es) x.group 0

    old_next : (i : ℕ) → i < length es → i ≢ last → next_of with_entry i ≡ next_of es i
    old_next i l n =
        ap (λ z. get_or z i None) next_list_new
        ∙ at_more (slice_set (next_list es) last (Some (length es))) None None i (omega (arith, set_length (next_list es) last (Some (length es)), next_length es))
        ∙ other (next_list es) last i (Some (length es)) n
      where
        other : (xs : List (Option ℕ)) (i j : ℕ) (x : Option ℕ) → j ≢ i → get_or (slice_set xs i x) j None ≡ get_or xs j None
        other [] i j x n = refl
        other (y ∷ xs) zero zero x n = absurd (n refl)
        other (y ∷ xs) zero (suc j) x n = refl
        other (y ∷ xs) (suc i) zero x n = refl
        other (y ∷ xs) (suc i) (suc j) x n = other xs i j x (λ e. n (ap suc e))

    pub last_next : next_of with_entry last ≡ Some (length es)
    last_next =
        ap (λ z. get_or z last None) next_list_new
        ∙ at_more (slice_set (next_list es) last (Some (length es))) None None last (omega (arith, set_length (next_list es) last (Some (length es)), next_length es))
        ∙ here (next_list es) last (Some (length es)) (omega (arith, next_length es))
      where
        here : (xs : List (Option ℕ)) (i : ℕ) (x : Option ℕ) → i < length xs → get_or (slice_set xs i x) i None ≡ x
        here [] i x l = absurd (omega arith)
        here (y ∷ xs) zero x l = refl
        here (y ∷ xs) (suc i) x l = here xs i x (omega arith)

    pub entry_added : IsStoreGrown x.node es with_entry
    entry_added = record {
      longer = omega (arith, entry_length);
      values = λ i y l.
          value_set (λ e. e.value) (es ++ (new ∷ [])) last i linked y (as_last ∙ ap (λ e. e.value) (any_default (es ++ (new ∷ [])) last linked y (omega (arith, count_more es new)))) (omega (arith, count_more es new))
          ∙ ap (λ e. e.value) (at_more es new y i l);
      nodes = old_node;
      groups = old_group;
      places = old_place;
      links = λ i n e. elim (cases_eq i last) [
        | inl s ↦ absurd (clash n (sym e ∙ ap (λ j. next_of es j) s ∙ none))
        | inr s ↦ old_next i (next_within es i n e) s ∙ e
      ];
      above = λ i l h. old_next i l (λ s. omega (arith, ap (λ j. node_of es j) s, node));
    }
      where
        clash : (n : ℕ) → Some n ≡ None → ⊥
        clash n e = cc

    pub stream_longer : stream with_entry x.node x.group ≡ stream es x.node x.group ++ (x.solution ∷ [])
    stream_longer =
        stream_linked (es ++ (new ∷ [])) last linked linked x.node x.group as_last
        ∙ stream_own es new x.node x.group (eq-eqb x.node x.node refl) (eq-eqb x.group x.group refl)

    pub stream_same : (q g : ℕ) → (q ≢ x.node ⊎ g ≢ x.group) → stream with_entry q g ≡ stream es q g
    stream_same q g other =
        stream_linked (es ++ (new ∷ [])) last linked linked q g as_last
        ∙ stream_other es new q g (apart other)
      where
        never : (b : Bool) → cond b false false ≡ false
        never true = refl
        never false = refl

        apart : (q ≢ x.node ⊎ g ≢ x.group) → cond (nat_eq x.node q) (nat_eq x.group g) false ≡ false
        apart (inl n) = ap (λ b. cond b (nat_eq x.group g) false) (ne_eqb x.node q (λ e. n (sym e)))
        apart (inr n) = ap (λ b. cond (nat_eq x.node q) b false) (ne_eqb x.group g (λ e. n (sym e))) ∙ never (nat_eq x.node q)

    pub size_longer : (q : ℕ) → node_size with_entry q ≡ node_size es q + cond (nat_eq x.node q) 1 0
    size_longer q = linked_size (es ++ (new ∷ [])) last linked linked q (ap (λ v. v.node) as_last) ∙ node_size_more es new q

    next_list_linked : next_list with_entry ≡ slice_set (next_list es ++ (None ∷ [])) last (Some (length (node_list es)))
    next_list_linked =
        set_map (λ e. e.next) (es ++ (new ∷ [])) last linked ∙ ap (λ n. slice_set (map (λ e. e.next) (es ++ (new ∷ []))) last n) (to ∙ ap Some (sym (node_length es)))
        ∙ ap (λ z. slice_set z last (Some (length (node_list es)))) (map_more (λ e. e.next) es new)

    pub all_linked : IsLinked (node_list es) (group_list_of es) (next_list es) → IsLinked (node_list with_entry) (group_list_of with_entry) (next_list with_entry)
    all_linked h =
        subst (λ z. IsLinked (node_list with_entry) (group_list_of with_entry) z) (sym next_list_linked)
        (subst (λ z. IsLinked z (group_list_of with_entry) (slice_set (next_list es ++ (None ∷ [])) last (Some (length (node_list es))))) (sym (node_list_new ∙ ap (λ v. node_list es ++ (v ∷ [])) (sym node)))
        (subst (λ z. IsLinked (node_list es ++ (get_or (node_list es) last 0 ∷ [])) z (slice_set (next_list es ++ (None ∷ [])) last (Some (length (node_list es))))) (sym (group_list_new ∙ ap (λ v. group_list_of es ++ (v ∷ [])) (sym group)))
        (link_kept (node_list es) (group_list_of es) (next_list es) both_lengths (next_length es ∙ sym (node_length es)) last (omega (arith, node_length es)) none h)))
