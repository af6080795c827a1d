-- What a read of a node's bounds gives: the numbers and the ranks that the definitions name.
use Rattle.std.proofs.Common.{◌≡◌, ℕ, ◌<◌, List, [], Option, None, length, map, get_or, slice_index_or, sym, ap, ◌∙◌}
use Rattle.std.proofs.lemmas.List.{get_or-map, get_or_read}
use Rattle.tdp_model.specs.KeyTuple.{KeyOf, key_none}
use Rattle.proof_check.specs.BoundedRows.{BoundedView, bound_ranks, named_bound, own_bound, rank_of_bound}
use Rattle.proof_check.specs.declared.bounded.NodeBounds.{NodeBounds}

pub field_read : {X Y : Type 0} (f : X → Y) (xs : List X) (i : ℕ) (x : X) (d : Y) → i < length xs → x ≡ get_or xs i x → get_or (map f xs) i d ≡ f x
field_read f xs i x d within at = get_or-map f xs i x d within ∙ ap f (sym at)

-- a read of the list that stands behind the view
pub at_node : {R : Type 0} (tree : BoundedView R) (list : List (NodeBounds R)) (v : ℕ) (b : NodeBounds R) → list ≡ tree.bounds → b ≡ get_or list v b
    → b ≡ get_or tree.bounds v b
at_node {R = R} tree list v b is at = at ∙ ap (λ (l : List (NodeBounds R)). get_or l v b) is

module _ {R : Type 0} (tree : BoundedView R) (v : ℕ) (b : NodeBounds R) (within : v < length tree.bounds) (at : b ≡ get_or tree.bounds v b) where
  pub own_items : slice_index_or (map (λ x. x.own.items) tree.bounds) v [] ≡ b.own.items
  own_items = field_read (λ (x : NodeBounds R). x.own.items) tree.bounds v b [] within at

  pub named_items : slice_index_or (map (λ x. x.named.items) tree.bounds) v [] ≡ b.named.items
  named_items = field_read (λ (x : NodeBounds R). x.named.items) tree.bounds v b [] within at

  pub rank_items : bound_ranks tree v ≡ b.ranks.items
  rank_items = field_read (λ (x : NodeBounds R). x.ranks.items) tree.bounds v b [] within at

  pub own_read : (i : ℕ) (x : Option ℕ) → i < length b.own.items → x ≡ get_or b.own.items i x → own_bound tree v i ≡ x
  own_read i x inside is = ap (λ (l : List (Option ℕ)). slice_index_or l i None) own_items ∙ sym (get_or_read b.own.items i x inside is None)

  pub named_read : (i : ℕ) (x : Option ℕ) → i < length b.named.items → x ≡ get_or b.named.items i x → named_bound tree v i ≡ x
  named_read i x inside is = ap (λ (l : List (Option ℕ)). slice_index_or l i None) named_items ∙ sym (get_or_read b.named.items i x inside is None)

  pub rank_read : (d : ℕ) (key : R → KeyOf d 16) (n : ℕ) (r : R) → n < length b.ranks.items → r ≡ get_or b.ranks.items n r
      → rank_of_bound tree d key v n ≡ key r
  rank_read d key n r inside is =
      ap (λ (l : List R). slice_index_or (map key l) n (key_none d 16)) rank_items ∙ field_read key b.ranks.items n r (key_none d 16) inside is
