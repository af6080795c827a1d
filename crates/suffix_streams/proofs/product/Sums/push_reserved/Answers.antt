use Rattle.std.proofs.Common.{◌≡◌, ◌<◌, List, [], ◌∷◌, ◌++◌, map, length, refl, sym, ap, ◌∙◌, subst, arith}
use Rattle.std.specs.declared.vec.Vec.{Vec}
use Rattle.take2_heap.specs.declared.entry.Entry.{Entry}
use Rattle.suffix_streams.specs.ProductView.{with_rank}
use Rattle.suffix_streams.specs.Sums.{cells_of, ranks_of}
use Rattle.suffix_streams.specs.declared.cell.Cell.{Cell}
use Rattle.suffix_streams.specs.declared.product.Sums.{Sums}
use Rattle.suffix_streams.specs.declared.product.Sums.TheVariants.{Cells, Ranked}
use Rattle.suffix_streams.proofs.ListEnds.{map_more}
use Rattle.suffix_streams.proofs.product.Sums.push_reserved.Goals as goal

module _ {R A : Type 0} (s : Sums R A) (x : Entry R Cell) where
  one_cell : (v : Vec Cell A) → s ≡ Cells v → (xs : List Cell) → xs ≡ v.items ++ (x.tag ∷ []) → xs ≡ cells_of s ++ (x.tag ∷ [])
  one_cell v e xs f = f ∙ sym (ap (λ z. cells_of z ++ (x.tag ∷ [])) e)

  no_rank : (v : Vec Cell A) → s ≡ Cells v → ◌≡◌ {A = List R} [] (with_rank (ranks_of s) x.rank)
  no_rank v e = sym (ap (λ z. with_rank (ranks_of z) x.rank) e)

  module _ (v : Vec (Entry R Cell) A) (e : s ≡ Ranked v) (xs : List (Entry R Cell)) (f : xs ≡ v.items ++ (x ∷ [])) where
    one_tag : map (λ y. y.tag) xs ≡ cells_of s ++ (x.tag ∷ [])
    one_tag = ap (λ l. map (λ (y : Entry R Cell). y.tag) l) f ∙ map_more (λ (y : Entry R Cell). y.tag) v.items x ∙ sym (ap (λ z. cells_of z ++ (x.tag ∷ [])) e)

    one_rank : 0 < length (cells_of s) → map (λ y. y.rank) xs ≡ with_rank (ranks_of s) x.rank
    one_rank some =
        ap (λ l. map (λ (y : Entry R Cell). y.rank) l) f ∙ map_more (λ (y : Entry R Cell). y.rank) v.items x
        ∙ more v.items (subst (λ z. 0 < length (cells_of z)) e some) ∙ sym (ap (λ z. with_rank (ranks_of z) x.rank) e)
      where
        more : (ys : List (Entry R Cell)) → 0 < length (map (λ y. y.tag) ys) → map (λ y. y.rank) ys ++ (x.rank ∷ []) ≡ with_rank (map (λ y. y.rank) ys) x.rank
        more [] l = absurd (omega (arith, l))
        more (y ∷ ys) l = refl

pub returns-in-Cells : goal.returns-in-Cells
returns-in-Cells g c =
    record {
      cells = one_cell c.args.self.now c.args.sum c.in-Cells.cells c.in-Cells.is c.push_reserved.new.self.items c.push_reserved.ensures.items;
      ranks = no_rank c.args.self.now c.args.sum c.in-Cells.cells c.in-Cells.is;
    }

pub returns-in-Ranked : goal.returns-in-Ranked
returns-in-Ranked g c =
    record {
      cells = one_tag c.args.self.now c.args.sum c.in-Ranked.sums c.in-Ranked.is c.push_reserved-in-Ranked.new.self.items c.push_reserved-in-Ranked.ensures.items;
      ranks = one_rank c.args.self.now c.args.sum c.in-Ranked.sums c.in-Ranked.is c.push_reserved-in-Ranked.new.self.items c.push_reserved-in-Ranked.ensures.items c.requires.some;
    }
