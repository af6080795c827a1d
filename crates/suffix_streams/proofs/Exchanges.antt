-- The sum below a sum: its rank is that of the sum with another right part.
use Rattle.std.proofs.Common.{◌≡◌, ℕ, ◌<◌, Option, Some, None, IfSome, List, [], ◌∷◌, length, get_or, sym, ap, ◌∙◌, subst, arith}
use Rattle.std.proofs.lemmas.List.Elements.{All-get_or}
use Rattle.rank_key.specs.Keys.{KeyFits}
use Rattle.stream_store.specs.declared.linked.Linked.{Linked}
use Rattle.suffix_streams.specs.QueueEntries.{IsHeld, InProduct}
use Rattle.take2_heap.specs.declared.entry.Entry.{Entry}
use Rattle.tdp_core.specs.TreeView.{NodeView, rows, child_count, group_named}
use Rattle.tdp_model.specs.KeyTuple.{KeyOf, key_add, key_none}
use Rattle.tdp_model.specs.Product.{pair_key}
use Rattle.suffix_streams.specs.declared.cell.Cell.{Cell}
use Rattle.suffix_streams.specs.Cells.{cell_down}
use Rattle.suffix_streams.specs.declared.stream.Found.{Found}
use Rattle.suffix_streams.specs.NodeStreamsView.{NodeStreamsView}
use Rattle.suffix_streams.specs.Rankings.{child, part_list, group_list}
use Rattle.suffix_streams.specs.TreeStreams.{place_of, products_of, product_of, pair_of, HasKey, IsStreams, IsCell, IsOffer}
use Rattle.suffix_streams.specs.Exchanges.{CanExchange, IsExchanged}
use Rattle.suffix_streams.specs.Growing.{IsAnswered}
use Rattle.suffix_streams.proofs.Rankings.{part_fits, sum_fits}
use Rattle.suffix_streams.proofs.Entries.{entry_key, child_in}
use Rattle.suffix_streams.proofs.StepCells.{cell_known, down_cell_known}

-- an entry's solution has one key
pub key_once : {R : Type 0} (d : ℕ) (key : R → KeyOf d 16) (es : List (Linked (Found R))) (i : ℕ) (a b : KeyOf d 16) → i < length es → HasKey d key es i a → HasKey d key es i b → a ≡ b
key_once d key [] i a b l x y = absurd (omega arith)
key_once d key (e ∷ es) i a b l x y = sym (x e) ∙ y e

-- a solution that was read has its key
key_read : {R : Type 0} (d : ℕ) (key : R → KeyOf d 16) (es : List (Linked (Found R))) (i n : ℕ) (f : Found R) → i ≡ n → ((x : Linked (Found R)) → (get_or es i x).value ≡ f) → HasKey d key es n (key f.solution.rank)
key_read d key es i n f same read x = ap (λ k. key (get_or es k x).value.solution.rank) (sym same) ∙ ap (λ v. key v.solution.rank) (read x)

cell_is : (c x : Cell) (n : ℕ) → cell_down c (Some n) ≡ Some x → x ≡ record { left = c.left; right = n }
cell_is c x n e = cc

-- # A step to the sum below, with the solutions that were read

module _ {R : Type 0} (d : ℕ) (key : R → KeyOf d 16) (es : List (Linked (Found R))) (sum : Entry R Cell) where
  pub exchanged_none : (below : Option ℕ) (o : Option (Entry R Cell)) → cell_down sum.tag below ≡ None → o ≡ None → IsExchanged d key es sum below o
  exchanged_none None o same none = subst (IsExchanged d key es sum None) (sym none) tt
  exchanged_none (Some n) o same none = cc

  module _ (old new : Found R) (was : (x : Linked (Found R)) → (get_or es sum.tag.right x).value ≡ old) where
    pub exchanged : (below : Option ℕ) (e : Entry R Cell) → cell_down sum.tag below ≡ Some e.tag → ((x : Linked (Found R)) → (get_or es e.tag.right x).value ≡ new)
        → ((rest : KeyOf d 16) → key sum.rank ≡ key_add d 16 rest (key old.solution.rank) → key e.rank ≡ key_add d 16 rest (key new.solution.rank)) → IsExchanged d key es sum below (Some e)
    exchanged None e same will f = cc
    exchanged (Some n) e same will f = (
      cell_is sum.tag e.tag n same,
      λ rest a b a_is b_is whole.
          let x : Linked (Found R) = record { value = old; next = None } in
          let old_is : a ≡ key old.solution.rank = sym (a_is x) ∙ ap (λ v. key v.solution.rank) (was x) in
          let new_is : b ≡ key new.solution.rank = sym (b_is x) ∙ key_read d key es e.tag.right n new (ap (λ c. c.right) (cell_is sum.tag e.tag n same)) will x in
          f rest (whole ∙ ap (λ z. key_add d 16 rest z) old_is) ∙ ap (λ z. key_add d 16 rest z) (sym new_is),
    )

-- # The sum below the top of a product's frontier

module _ {R : Type 0} (d : ℕ) (key : R → KeyOf d 16) (t : List (NodeView R)) (es : List (Linked (Found R))) (nodes : List (NodeStreamsView R)) (h : IsStreams d key t es nodes) (v r c : ℕ)
    (l : v < length t) (row : r < rows t v) (in_row : c < length (products_of nodes v r)) (top : Entry R Cell) (some : 0 < length (product_of nodes v r c).frontier)
    (first : (x : Entry R Cell) → get_or (product_of nodes v r c).frontier 0 x ≡ top) where
  abbrev xs : List (KeyOf d 16)
  xs = part_list d key t v r c

  abbrev ys : List (KeyOf d 16)
  ys = group_list d key t (child t v c) (group_named t v r c)

  abbrev Held : Entry R Cell → Type 0
  Held = IsHeld d key (pair_key (key_add d 16) (key_none d 16) xs ys) (InProduct d xs ys) (pair_of es)

  held : Held top
  held = subst Held (first top) (All-get_or Held (product_of nodes v r c).frontier 0 top some (h.products v r c l row in_row).sums.held)

  abbrev rest : KeyOf d 16
  rest = get_or xs top.tag.left (key_none d 16)

  known : IsCell d key t es nodes v r c top.tag
  known = cell_known d key t es nodes h v r c l row in_row top.tag some (λ x. ap (λ (e : Entry R Cell). e.tag) (first x))

  right_key : HasKey d key es top.tag.right (get_or ys (place_of es top.tag.right) (key_none d 16))
  right_key = (entry_key d key t es nodes h top.tag.right (child t v c) (group_named t v r c) known.right known.node known.group).2

  -- the cell below, if there is one
  lower : (n : ℕ) → IsAnswered d key t es top.tag.right (Some n) → IsCell d key t es nodes v r c (record { left = top.tag.left; right = n })
  lower n e = down_cell_known d key t es nodes h v r c l row in_row top.tag some (λ x. ap (λ (e : Entry R Cell). e.tag) (first x)) (Some n) e

  lower_key : (n : ℕ) → IsAnswered d key t es top.tag.right (Some n) → (place_of es n < length ys) × HasKey d key es n (get_or ys (place_of es n) (key_none d 16))
  lower_key n e =
      let k = lower n e in
      let own = entry_key d key t es nodes h n (child t v c) (group_named t v r c) k.right k.node k.group in
      (own.1, own.2)

  pub top_right : top.tag.right < length es
  top_right = known.right

  pub below_right : (b : Option ℕ) → IsAnswered d key t es top.tag.right b → IfSome b (λ n. n < length es)
  below_right None e = tt
  below_right (Some n) e = (lower n e).right

  pub can_exchange : (b : Option ℕ) → IsAnswered d key t es top.tag.right b → IfSome b (CanExchange d key es top)
  can_exchange None e = tt
  can_exchange (Some n) e = λ old new old_is new_is.
      let kids : c < child_count t v = child_in d key t es nodes h v r c l row in_row in
      let was : old ≡ get_or ys (place_of es top.tag.right) (key_none d 16) = key_once d key es top.tag.right old _ known.right old_is right_key in
      let will : new ≡ get_or ys (place_of es n) (key_none d 16) = key_once d key es n new _ (lower n e).right new_is (lower_key n e).1 in
      record {
        rest = rest;
        whole = held.1 ∙ ap (λ z. key_add d 16 rest z) (sym was);
        rest_fits = part_fits d key t h.tree v r c top.tag.left l (omega (arith, kids)) held.0.0;
        swapped_fits = subst (λ z. KeyFits d key (key_add d 16 rest z)) (sym will) (sum_fits d key t h.tree v r c top.tag.left (place_of es n) l kids held.0.0 (lower_key n e).0);
      }

  -- the exchange gives the sum of the cell below
  pub exchanged_offer : (b : Option ℕ) (o : Option (Entry R Cell)) → IsAnswered d key t es top.tag.right b → IsExchanged d key es top b o → IsOffer d key t es v r c (cell_down top.tag b) o
  exchanged_offer None None e x = tt
  exchanged_offer None (Some a) e x = absurd x
  exchanged_offer (Some n) None e x = absurd x
  exchanged_offer (Some n) (Some a) e x = (x.0, x.1 rest _ _ right_key (lower_key n e).1 held.1)
