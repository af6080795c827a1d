-- A node in which one queue, one product or a row's products change.
use Rattle.std.proofs.Common.{◌≡◌, ℕ, Bool, IsTrue, ◌↔◌, ◌+◌, ◌-◌, ◌<◌, ◌≤◌, List, [], length, get_or, slice_set, refl, sym, ap, ◌∙◌, subst, arith}
use Rattle.std.proofs.lemmas.List.{get_or-set_same}
use Rattle.take2_heap.specs.Heap.{Heap}
use Rattle.suffix_streams.specs.declared.source.Source.{Source}
use Rattle.suffix_streams.specs.ProductView.{ProductView}
use Rattle.suffix_streams.specs.StreamView.{StreamView, headed}
use Rattle.suffix_streams.specs.NodeStreamsView.{NodeStreamsView, HasHead, product_at, stream_at, with_product, with_queue}
use Rattle.suffix_streams.proofs.HeadedStreams.{stream_at_head, headed_length, headed_at, headed_set}
use Rattle.suffix_streams.proofs.ListEnds.{row_inside}

module _ {R : Type 0} (children : List ℕ) (first : ℕ) (queues : List (Heap R Source)) (products : List (List (ProductView R))) (n : NodeStreamsView R)
    (is : record { children = children; streams = headed first queues; products = products } ≡ n) (g : ℕ) (l : g < length n.streams) where
  pub in_queues : g < length queues
  in_queues = omega (arith, l, ap (λ (m : NodeStreamsView R). length m.streams) is, headed_length first queues)

  -- a stream of a node, by its queue
  pub queue_read : (q : Heap R Source) → q ≡ get_or queues g q → stream_at n g ≡ stream_at_head (first + g) q
  queue_read q e =
      ap (λ (m : NodeStreamsView R). stream_at m g) (sym is) ∙ headed_at first queues g (record { head = 0; queue = []; room = 0 }) q in_queues
      ∙ ap (λ (p : Heap R Source). stream_at_head (first + g) p) (sym e)

  pub head_read : (stream_at n g).head ≡ first + g
  head_read =
      ap (λ (m : NodeStreamsView R). (stream_at m g).head) (sym is)
      ∙ ap (λ (s : StreamView R). s.head) (headed_at first queues g (record { head = 0; queue = []; room = 0 }) (record { entries = []; spare = 0 }) in_queues)

  -- a stream of a node, when a queue of the node changes
  pub queue_changed : (q old : Heap R Source) → old ≡ get_or queues g old
      → (stream_at n g ≡ stream_at_head (first + g) old)
      × (stream_at (record { children = children; streams = headed first (slice_set queues g q); products = products }) g ≡ stream_at_head (first + g) q)
      × (record { children = children; streams = headed first (slice_set queues g q); products = products } ≡ with_queue n g q.entries q.spare)
  queue_changed q old o = (was, ap (λ z. get_or z g (record { head = 0; queue = []; room = 0 })) set ∙ get_or-set_same (headed first queues) g (stream_at_head (first + g) q) (record { head = 0; queue = []; room = 0 }) inside, whole)
    where
      was : stream_at n g ≡ stream_at_head (first + g) old
      was = queue_read old o

      set : headed first (slice_set queues g q) ≡ slice_set (headed first queues) g (stream_at_head (first + g) q)
      set = headed_set first queues g q

      inside : g < length (headed first queues)
      inside = omega (arith, in_queues, headed_length first queues)

      node : List (StreamView R) → NodeStreamsView R
      node streams = record { children = children; streams = streams; products = products }

      changed : StreamView R → NodeStreamsView R → NodeStreamsView R
      changed s m = record m { streams = slice_set m.streams g s }

      whole : record { children = children; streams = headed first (slice_set queues g q); products = products } ≡ with_queue n g q.entries q.spare
      whole = ap node set ∙ ap (changed (stream_at_head (first + g) q)) is
          ∙ ap (λ (h : ℕ). changed (record { head = h; queue = q.entries; room = q.spare }) n) (sym (ap (λ (s : StreamView R). s.head) was))

-- the first entries of the groups of a node, by their names
pub head_named : {R : Type 0} (children : List ℕ) (first : ℕ) (queues : List (Heap R Source)) (products : List (List (ProductView R))) (n : NodeStreamsView R)
    → record { children = children; streams = headed first queues; products = products } ≡ n → (i : ℕ) (b : Bool) → (IsTrue b ↔ ((first ≤ i) × (i < first + length queues))) → IsTrue b ↔ HasHead n i
head_named {R} children first queues products n is i b named = (found, λ h. named.1 (omega (arith, name h), omega (arith, name h, in_queues children first queues products n is h.0 h.1)))
  where
    name : (h : HasHead n i) → i ≡ first + h.0
    name h = h.2 ∙ head_read children first queues products n is h.0 h.1

    within : IsTrue b → i - first < length n.streams
    within y = omega (arith, named.0 y, ap (λ (m : NodeStreamsView R). length m.streams) is, headed_length first queues)

    found : IsTrue b → HasHead n i
    found y = (i - first, within y, omega (arith, named.0 y, head_read children first queues products n is (i - first) (within y)))

-- a product of a node, when it changes
pub product_changed : {R : Type 0} (children : List ℕ) (streams : List (StreamView R)) (products : List (List (ProductView R))) (n : NodeStreamsView R) (r c : ℕ) (p : ProductView R)
    → record { children = children; streams = streams; products = products } ≡ n → c < length (get_or n.products r [])
    → (product_at (record { children = children; streams = streams; products = slice_set products r (slice_set (get_or products r []) c p) }) r c ≡ p)
    × (record { children = children; streams = streams; products = slice_set products r (slice_set (get_or products r []) c p) } ≡ with_product n r c p)
product_changed {R} children streams products n r c p e l =
    subst (λ (n : NodeStreamsView R). c < length (get_or n.products r []) → (product_at (record { children = children; streams = streams; products = slice_set products r (slice_set (get_or products r []) c p) }) r c ≡ p)
    × (record { children = children; streams = streams; products = slice_set products r (slice_set (get_or products r []) c p) } ≡ with_product n r c p)) e literal l
  where
    literal : c < length (get_or products r [])
        → (product_at (record { children = children; streams = streams; products = slice_set products r (slice_set (get_or products r []) c p) }) r c ≡ p)
        × (record { children = children; streams = streams; products = slice_set products r (slice_set (get_or products r []) c p) } ≡ with_product (record { children = children; streams = streams; products = products }) r c p)
    literal l =
        let none : ProductView R = record { found = []; ranks = []; frontier = []; room = 0; frontier_room = 0 } in
        let here = get_or-set_same products r (slice_set (get_or products r []) c p) [] (row_inside products r c l) in
        (ap (λ (ps : List (ProductView R)). get_or ps c none) here ∙ get_or-set_same (get_or products r []) c p none l, refl)

-- a product that was read
pub product_read : {R : Type 0} (children : List ℕ) (streams : List (StreamView R)) (products : List (List (ProductView R))) (n : NodeStreamsView R) (r c : ℕ) (p : ProductView R)
    → record { children = children; streams = streams; products = products } ≡ n → ((d : ProductView R) → p ≡ get_or (get_or products r []) c d) → p ≡ product_at n r c
product_read children streams products n r c p e read = read (record { found = []; ranks = []; frontier = []; room = 0; frontier_room = 0 }) ∙ ap (λ m. product_at m r c) e

-- a node whose lists of products become `new`
module _ {R : Type 0} (children : List ℕ) (streams : List (StreamView R)) (products new : List (List (ProductView R))) (n : NodeStreamsView R) (is : record { children = children; streams = streams; products = products } ≡ n) where
  pub products_set : (r : ℕ) (ps : List (ProductView R)) → new ≡ slice_set products r ps
      → record { children = children; streams = streams; products = new } ≡ record n { products = slice_set n.products r ps }
  products_set r ps e =
      subst (λ (z : NodeStreamsView R). record { children = children; streams = streams; products = new } ≡ record z { products = slice_set z.products r ps }) is
      (ap (λ (z : List (List (ProductView R))). (let m : NodeStreamsView R = record { children = children; streams = streams; products = z } in m)) e)

  pub products_kept : new ≡ products → record { children = children; streams = streams; products = new } ≡ n
  products_kept e = ap (λ (z : List (List (ProductView R))). (let m : NodeStreamsView R = record { children = children; streams = streams; products = z } in m)) e ∙ is
