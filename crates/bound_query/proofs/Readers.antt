-- What reading the stored weights gives.
use Rattle.std.proofs.Common.{◌≡◌, ◌+◌, ◌<◌, ℕ, ℤ, pos, List, [], ◌∷◌, map, length, get_or, true, false, Bool, neg_ℤ, if◌then◌else◌, Vec, Global, sym, ap, ◌∙◌, refl, arith}
use Rattle.std.specs.List.{range_with_len}
use Rattle.std.proofs.lemmas.List.{get_or-map, length-map}
use Rattle.std.proofs.lemmas.List.FromFn.{get_or-map-range_with_len, length-map-range_with_len}
use Rattle.anyk_model.specs.Table.{Table}
use Rattle.anyk_model.specs.Query.{Item, OrderKey, Term, total}
use Rattle.bound_query.specs.WeighedQuery.{ItemParts, item_parts, kept, key_parts, row_parts}
use Rattle.bound_query.specs.WeighedView.{item_weights_view, weighed_view}
use Rattle.bound_query.specs.Weights.{key_at, part_of, row_term, table_in, terms_in}
use Rattle.bound_query.specs.declared.bound.ItemWeights.{ItemWeights}

pub weighed_length : (ws : List (Vec ItemWeights Global)) (order : List OrderKey) (f : OrderKey → List ItemParts) → map weighed_view ws ≡ map f order
    → length ws ≡ length order
weighed_length ws order f e = sym (length-map ws weighed_view) ∙ ap length e ∙ length-map order f

pub weighed_at : (ws : List (Vec ItemWeights Global)) (order : List OrderKey) (f : OrderKey → List ItemParts) (k : ℕ) (d : Vec ItemWeights Global)
    → map weighed_view ws ≡ map f order → k < length order → weighed_view (get_or ws k d) ≡ f (key_at order k)
weighed_at ws order f k d e h =
    let inside : k < length ws = omega (arith, weighed_length ws order f e) in
    sym (get_or-map weighed_view ws k d (weighed_view d) inside) ∙ ap (λ (l : List (List ItemParts)). get_or l k (weighed_view d)) e
    ∙ get_or-map f order k (record { terms = []; descending = false }) (weighed_view d) h

module _ (tables : List Table) (items : List Item) (key : OrderKey) (v : Vec ItemWeights Global) (shown : weighed_view v ≡ key_parts tables items key) where
  pub items_length : length v.items ≡ length items
  items_length = sym (length-map v.items item_weights_view) ∙ ap length shown ∙ length-map-range_with_len (item_parts tables items key) 0 (length items)

  -- what an item adds to the key
  pub parts_of : (item : ℕ) (d : ItemWeights) → item < length items → item_weights_view (get_or v.items item d) ≡ item_parts tables items key item
  parts_of item d h =
      let inside : item < length v.items = omega (arith, items_length, h) in
      sym (get_or-map item_weights_view v.items item d (item_weights_view d) inside) ∙ ap (λ (l : List ItemParts). get_or l item (item_weights_view d)) shown
      ∙ get_or-map-range_with_len (item_parts tables items key) 0 (length items) item item (item_weights_view d) h (omega arith)

abbrev signed_total : List Table → List Item → List Term → Bool → ℕ → ℤ
signed_total tables items ts b row = if b then neg_ℤ (total (map (row_term tables items row) ts)) else total (map (row_term tables items row) ts)

-- the part of a row that is kept, or 0 if none is kept
pub part_kept : (tables : List Table) (items : List Item) (key : OrderKey) (item row i : ℕ) → i < length (table_in tables items item).rows → 1 + i ≡ row
    → get_or (row_parts tables items key item) i (pos 0) ≡ part_of tables items item row key
part_kept tables items key item row i h is = by_terms (terms_in item key.terms) key.descending
  where
    by_terms : (ts : List Term) (b : Bool)
        → get_or (kept ts (map (signed_total tables items ts b) (range_with_len 1 (length (table_in tables items item).rows)))) i (pos 0) ≡ signed_total tables items ts b row
    by_terms [] true = refl
    by_terms [] false = refl
    by_terms (t ∷ ts) b = get_or-map-range_with_len (signed_total tables items (t ∷ ts) b) 1 (length (table_in tables items item).rows) i row (pos 0) h is
