-- One product of one row changes, and all else stays.
use Rattle.std.proofs.Common.{◌≡◌, ◌≢◌, ℕ, zero, suc, ◌+◌, ◌<◌, ◌≤◌, ◌⊎◌, max, List, [], length, get_or, slice_set, refl, sym, ap, ◌∙◌, subst, inl, inr, arith}
use Rattle.std.proofs.lemmas.Bool.{cases_eq}
use Rattle.std.proofs.lemmas.List.{get_or-set_same, get_or-set_other}
use Rattle.stream_store.specs.declared.linked.Linked.{Linked}
use Rattle.tdp_core.specs.TreeView.{NodeView, rows}
use Rattle.tdp_model.specs.KeyTuple.{KeyOf}
use Rattle.suffix_streams.specs.declared.stream.Found.{Found}
use Rattle.suffix_streams.specs.ProductView.{ProductView}
use Rattle.suffix_streams.specs.NodeStreamsView.{NodeStreamsView, product_at, stream_at, known_of, with_product}
use Rattle.suffix_streams.specs.TreeStreams.{lists_of, products_of, product_of, stream_of, part_known, row_known, IsProductOf, IsStreams}
use Rattle.suffix_streams.specs.Growing.{AreQueuesGrown}
use Rattle.suffix_streams.proofs.Kept.{held_itself, stream_stays, part_stays, product_stays}
use Rattle.suffix_streams.proofs.ListEnds.{row_inside, set_length}

module _ {R : Type 0} where
  pub lists_same : (nodes : List (NodeStreamsView R)) (v : ℕ) (n : NodeStreamsView R) → v < length nodes → lists_of (slice_set nodes v n) v ≡ n
  lists_same nodes v n l = get_or-set_same nodes v n (record { children = []; streams = []; products = [] }) l

  pub lists_other : (nodes : List (NodeStreamsView R)) (v w : ℕ) (n : NodeStreamsView R) → w ≢ v → lists_of (slice_set nodes v n) w ≡ lists_of nodes w
  lists_other nodes v w n h = get_or-set_other nodes v w n (record { children = []; streams = []; products = [] }) h

  module _ (n : NodeStreamsView R) (r c : ℕ) (p : ProductView R) (row : r < length n.products) (in_row : c < length (get_or n.products r [])) where
    pub product_new : product_at (with_product n r c p) r c ≡ p
    product_new =
        ap (λ z. get_or z c (record { found = []; ranks = []; frontier = []; room = 0; frontier_room = 0 })) (get_or-set_same n.products r (slice_set (get_or n.products r []) c p) [] row)
        ∙ get_or-set_same (get_or n.products r []) c p (record { found = []; ranks = []; frontier = []; room = 0; frontier_room = 0 }) in_row

    pub product_row : (k : ℕ) → k ≢ c → product_at (with_product n r c p) r k ≡ product_at n r k
    product_row k h =
        ap (λ z. get_or z k (record { found = []; ranks = []; frontier = []; room = 0; frontier_room = 0 })) (get_or-set_same n.products r (slice_set (get_or n.products r []) c p) [] row)
        ∙ get_or-set_other (get_or n.products r []) c k p (record { found = []; ranks = []; frontier = []; room = 0; frontier_room = 0 }) h

    pub product_elsewhere : (s k : ℕ) → s ≢ r → product_at (with_product n r c p) s k ≡ product_at n s k
    product_elsewhere s k h = ap (λ z. get_or z k (record { found = []; ranks = []; frontier = []; room = 0; frontier_room = 0 })) (get_or-set_other n.products r s (slice_set (get_or n.products r []) c p) [] h)

    pub rows_kept : length (with_product n r c p).products ≡ length n.products
    rows_kept = set_length n.products r (slice_set (get_or n.products r []) c p)

    pub counts_kept : (s : ℕ) → length (get_or (with_product n r c p).products s []) ≡ length (get_or n.products s [])
    counts_kept s = elim (cases_eq s r) [
      | inl e ↦
          ap (λ z. length (get_or (with_product n r c p).products z [])) e ∙ ap length (get_or-set_same n.products r (slice_set (get_or n.products r []) c p) [] row) ∙ set_length (get_or n.products r []) c p
          ∙ ap (λ z. length (get_or n.products z [])) (sym e)
      | inr h ↦ ap length (get_or-set_other n.products r s (slice_set (get_or n.products r []) c p) [] h)
    ]

    -- the solutions of a product do not become fewer
    module _ (rises : length (product_at n r c).found ≤ length p.found) where
      found_kept : (s k : ℕ) → length (product_at n s k).found ≤ length (product_at (with_product n r c p) s k).found
      found_kept s k = elim (cases_eq s r) [
        | inl e ↦ subst (λ z. length (product_at n z k).found ≤ length (product_at (with_product n r c p) z k).found) (sym e) (elim (cases_eq k c) [
          | inl f ↦ subst (λ z. length (product_at n r z).found ≤ length (product_at (with_product n r c p) r z).found) (sym f) (omega (arith, rises, ap (λ z. length z.found) product_new))
          | inr h ↦ omega (arith, ap (λ z. length z.found) (product_row k h))
        ])
        | inr h ↦ omega (arith, ap (λ z. length z.found) (product_elsewhere s k h))
      ]

      pub known_kept : (s k : ℕ) → known_of n s k ≤ known_of (with_product n r c p) s k
      known_kept s zero = omega arith
      known_kept s (suc k) = found_kept s k

-- # One product is replaced

module _ {R : Type 0} (nodes : List (NodeStreamsView R)) (v r c : ℕ) (p : ProductView R) (in_nodes : v < length nodes) (in_rows : r < length (lists_of nodes v).products) (in_row : c < length (products_of nodes v r)) where
  abbrev pub replaced : List (NodeStreamsView R)
  replaced = slice_set nodes v (with_product (lists_of nodes v) r c p)

  pub replaced_at : lists_of replaced v ≡ with_product (lists_of nodes v) r c p
  replaced_at = lists_same nodes v (with_product (lists_of nodes v) r c p) in_nodes

  pub replaced_other : (w : ℕ) → w ≢ v → lists_of replaced w ≡ lists_of nodes w
  replaced_other w n = lists_other nodes v w (with_product (lists_of nodes v) r c p) n

  pub replaced_product : product_of replaced v r c ≡ p
  replaced_product = ap (λ n. product_at n r c) replaced_at ∙ product_new (lists_of nodes v) r c p in_rows in_row

  pub replaced_others : (w s k : ℕ) → ((w ≢ v) ⊎ (s ≢ r) ⊎ (k ≢ c)) → product_of replaced w s k ≡ product_of nodes w s k
  replaced_others w s k (inl n) = ap (λ z. product_at z s k) (replaced_other w n)
  replaced_others w s k (inr n) = elim (cases_eq w v) [
    | inr m ↦ ap (λ z. product_at z s k) (replaced_other w m)
    | inl e ↦ subst (λ z. product_of replaced z s k ≡ product_of nodes z s k) (sym e) (ap (λ z. product_at z s k) replaced_at ∙ at n)
  ]
    where
      at : ((s ≢ r) ⊎ (k ≢ c)) → product_at (with_product (lists_of nodes v) r c p) s k ≡ product_of nodes v s k
      at (inl n) = product_elsewhere (lists_of nodes v) r c p in_rows in_row s k n
      at (inr n) = elim (cases_eq s r) [
        | inl e ↦ subst (λ z. product_at (with_product (lists_of nodes v) r c p) z k ≡ product_of nodes v z k) (sym e) (product_row (lists_of nodes v) r c p in_rows in_row k n)
        | inr m ↦ product_elsewhere (lists_of nodes v) r c p in_rows in_row s k m
      ]

  pub replaced_queues : (more : ℕ → ℕ) (old : List (NodeStreamsView R)) → AreQueuesGrown more old nodes → length p.frontier ≤ max 1 (length (product_of old v r c).frontier) + more v → AreQueuesGrown more old replaced
  replaced_queues more old q own w s k = elim (cases_eq w v) [
    | inr n ↦ other w s k (inl n)
    | inl e ↦ elim (cases_eq s r) [
      | inr n ↦ other w s k (inr (inl n))
      | inl f ↦ elim (cases_eq k c) [
        | inr n ↦ other w s k (inr (inr n))
        | inl i ↦
            subst (λ z. length (product_of replaced z s k).frontier ≤ max 1 (length (product_of old z s k).frontier) + more z) (sym e)
            (subst (λ z. length (product_of replaced v z k).frontier ≤ max 1 (length (product_of old v z k).frontier) + more v) (sym f)
            (subst (λ z. length (product_of replaced v r z).frontier ≤ max 1 (length (product_of old v r z).frontier) + more v) (sym i)
            (omega (arith, own, ap (λ (z : ProductView R). length z.frontier) replaced_product))))
      ]
    ]
  ]
    where
      other : (w s k : ℕ) → ((w ≢ v) ⊎ (s ≢ r) ⊎ (k ≢ c)) → length (product_of replaced w s k).frontier ≤ max 1 (length (product_of old w s k).frontier) + more w
      other w s k n = omega (arith, q w s k, ap (λ (z : ProductView R). length z.frontier) (replaced_others w s k n))

-- # The invariants then

module _ {R : Type 0} (d : ℕ) (key : R → KeyOf d 16) (t : List (NodeView R)) (es : List (Linked (Found R))) (nodes : List (NodeStreamsView R)) (h : IsStreams d key t es nodes) (v r c : ℕ) (p : ProductView R)
    (l : v < length t) (row : r < rows t v) (in_row : c < length (products_of nodes v r)) (rises : length (product_of nodes v r c).found ≤ length p.found) where
  abbrev changed : List (NodeStreamsView R)
  changed = slice_set nodes v (with_product (lists_of nodes v) r c p)

  in_nodes : v < length nodes
  in_nodes = omega (arith, h.all_nodes)

  in_rows : r < length (lists_of nodes v).products
  in_rows = row_inside (lists_of nodes v).products r c in_row

  changed_at : lists_of changed v ≡ with_product (lists_of nodes v) r c p
  changed_at = replaced_at nodes v r c p in_nodes in_rows in_row

  changed_other : (w : ℕ) → w ≢ v → lists_of changed w ≡ lists_of nodes w
  changed_other w n = replaced_other nodes v r c p in_nodes in_rows in_row w n

  pub changed_product : product_of changed v r c ≡ p
  changed_product = replaced_product nodes v r c p in_nodes in_rows in_row

  changed_count : (w s : ℕ) → length (products_of changed w s) ≡ length (products_of nodes w s)
  changed_count w s = elim (cases_eq w v) [
    | inl e ↦ subst (λ z. length (products_of changed z s) ≡ length (products_of nodes z s)) (sym e) (ap (λ n. length (get_or n.products s [])) changed_at ∙ counts_kept (lists_of nodes v) r c p in_rows in_row s)
    | inr n ↦ ap (λ z. length (get_or z.products s [])) (changed_other w n)
  ]

  pub changed_known : (w s k : ℕ) → part_known nodes w s k ≤ part_known changed w s k
  changed_known w s k = elim (cases_eq w v) [
    | inl e ↦ subst (λ z. part_known nodes z s k ≤ part_known changed z s k) (sym e) (subst (λ n. part_known nodes v s k ≤ known_of n s k) (sym changed_at) (known_kept (lists_of nodes v) r c p in_rows in_row rises s k))
    | inr n ↦ subst (λ z. part_known nodes w s k ≤ known_of z s k) (sym (changed_other w n)) (omega arith)
  ]

  changed_row_known : (w s : ℕ) → row_known nodes w s ≤ row_known changed w s
  changed_row_known w s = omega (arith, changed_known w s (length (products_of nodes w s)), ap (λ z. part_known changed w s z) (changed_count w s))

  others : (w s k : ℕ) → ((w ≢ v) ⊎ (s ≢ r) ⊎ (k ≢ c)) → product_of changed w s k ≡ product_of nodes w s k
  others w s k n = replaced_others nodes v r c p in_nodes in_rows in_row w s k n

  streams_changed : (w g : ℕ) → stream_of changed w g ≡ stream_of nodes w g
  streams_changed w g = elim (cases_eq w v) [
    | inl e ↦ subst (λ z. stream_of changed z g ≡ stream_of nodes z g) (sym e) (ap (λ n. stream_at n g) changed_at)
    | inr n ↦ ap (λ z. stream_at z g) (changed_other w n)
  ]

  -- All invariants hold again, if that of the product does.
  pub product_set : IsProductOf d key t es changed v r c → IsStreams d key t es changed
  product_set own = record {
    tree = h.tree;
    all_nodes = set_length nodes v (with_product (lists_of nodes v) r c p) ∙ h.all_nodes;
    all_children = λ w k. ap length (same_children w) ∙ h.all_children w k;
    children = λ w k a b. ap (λ z. get_or z k 0) (same_children w) ∙ h.children w k a b;
    all_streams = λ w k. ap length (same_streams w) ∙ h.all_streams w k;
    all_rows = λ w k. same_rows w ∙ h.all_rows w k;
    whole_rows = λ w s a b some. changed_count w s ∙ h.whole_rows w s a b (omega (arith, changed_count w s));
    owners = h.owners;
    linked = h.linked;
    streams = λ q g a b. stream_stays d key t es es nodes changed (held_itself es) q g (streams_changed q g) refl (λ s. changed_row_known q s) (λ s k p few. part_stays nodes changed q s k p (changed_count q s) (changed_known q s k)) (h.streams q g a b);
    products = λ w s k a b x. each w s k a b (omega (arith, x, changed_count w s));
  }
    where
      same_children : (w : ℕ) → (lists_of changed w).children ≡ (lists_of nodes w).children
      same_children w = elim (cases_eq w v) [
        | inl e ↦ subst (λ z. (lists_of changed z).children ≡ (lists_of nodes z).children) (sym e) (ap (λ n. n.children) changed_at)
        | inr n ↦ ap (λ z. z.children) (changed_other w n)
      ]

      same_streams : (w : ℕ) → (lists_of changed w).streams ≡ (lists_of nodes w).streams
      same_streams w = elim (cases_eq w v) [
        | inl e ↦ subst (λ z. (lists_of changed z).streams ≡ (lists_of nodes z).streams) (sym e) (ap (λ n. n.streams) changed_at)
        | inr n ↦ ap (λ z. z.streams) (changed_other w n)
      ]

      same_rows : (w : ℕ) → length (lists_of changed w).products ≡ length (lists_of nodes w).products
      same_rows w = elim (cases_eq w v) [
        | inl e ↦ subst (λ z. length (lists_of changed z).products ≡ length (lists_of nodes z).products) (sym e) (ap (λ n. length n.products) changed_at ∙ rows_kept (lists_of nodes v) r c p in_rows in_row)
        | inr n ↦ ap (λ z. length z.products) (changed_other w n)
      ]

      apart : (w s k : ℕ) → w < length t → s < rows t w → k < length (products_of nodes w s) → ((w ≢ v) ⊎ (s ≢ r) ⊎ (k ≢ c)) → IsProductOf d key t es changed w s k
      apart w s k a b x n =
          product_stays d key t es es nodes changed (held_itself es) w s k (ap (λ z. z.found) (others w s k n)) (ap (λ z. z.frontier) (others w s k n)) (ap (λ z. z.ranks) (others w s k n)) (changed_known w s k) (h.products w s k a b x)

      each : (w s k : ℕ) → w < length t → s < rows t w → k < length (products_of nodes w s) → IsProductOf d key t es changed w s k
      each w s k a b x = elim (cases_eq w v) [
        | inr n ↦ apart w s k a b x (inl n)
        | inl e ↦ elim (cases_eq s r) [
          | inr n ↦ apart w s k a b x (inr (inl n))
          | inl f ↦ elim (cases_eq k c) [
            | inr n ↦ apart w s k a b x (inr (inr n))
            | inl i ↦
                subst (λ z. IsProductOf d key t es changed z s k) (sym e) (subst (λ z. IsProductOf d key t es changed v z k) (sym f) (subst (λ z. IsProductOf d key t es changed v r z) (sym i) own))
          ]
        ]
      ]
