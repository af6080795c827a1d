-- Groups of rows in heap order by their best keys.
use Rattle.std.proofs.Common.{◌≡◌, ℕ, ◌-◌, ◌/◌, ◌<◌, List, length, get_or, ap, sym, ◌∙◌}
use Rattle.std.proofs.lemmas.List.{get_or-map}
use Rattle.tdp_model.specs.KeyTuple.{KeyOf, key_none}
use Rattle.tdp_model.proofs.KeyNumbers.{not_less_at_most}
use Rattle.take2_heap.specs.Order.{IsHeapBy}
use Rattle.tree_dp.specs.Orders.{key_at, IsHeapOver}

module _ {R : Type 0} (keys : ℕ) (key : R → KeyOf keys 16) (best : List R) where
  -- the key of a row, where its rank is read
  pub key_read : (r : ℕ) (rank : R) → r < length best → rank ≡ get_or best r rank → key rank ≡ key_at keys key best r
  key_read r rank h is = ap key is ∙ sym (get_or-map key best r rank (key_none keys 16) h)

  pub heap_over : (rows : List ℕ) → IsHeapBy keys (key_at keys key best) rows → IsHeapOver keys key best rows
  heap_over rows heap = λ i some h.
      not_less_at_most keys 16 (key_at keys key best (get_or rows i 0)) (key_at keys key best (get_or rows ((i - 1) / 2) 0)) (heap i 0 some h)
