use Rattle.std.proofs.Common.{◌≡◌, ℕ, List, ◌++◌, ◌∷◌, [], length, length-append, sym, ap, ◌∙◌, arith}
use Rattle.tdp_core.specs.declared.parts.NodeRow.{NodeRow}
use Rattle.tdp_core.specs.RankedRows.{ranked_rows}
use Rattle.tdp_core.proofs.RankedRowLists.{row_more}
use Rattle.tdp_core.proofs.Refusals.{failed, on_err}
use Rattle.tdp_core.proofs.node_rows.NodeRows.push.Goals as goal

module _ {R : Type 0} (row : NodeRow R) (ranks ranks_kept ranks_now : List R) (numbers numbers_kept numbers_now : List ℕ) (r : ranks_kept ≡ ranks) (n : numbers_kept ≡ numbers)
    (r_now : ranks_now ≡ ranks_kept ++ row.rank ∷ []) (n_now : numbers_now ≡ numbers_kept ++ row.row ∷ []) (long : length numbers ≡ length ranks) where
  ranks_are : ranks_now ≡ ranks ++ row.rank ∷ []
  ranks_are = r_now ∙ ap (λ l. l ++ row.rank ∷ []) r

  numbers_are : numbers_now ≡ numbers ++ row.row ∷ []
  numbers_are = n_now ∙ ap (λ l. l ++ row.row ∷ []) n

  long_now : length numbers_now ≡ length ranks_now
  long_now = omega (arith, ap length ranks_are, ap length numbers_are, length-append ranks (row.rank ∷ []), length-append numbers (row.row ∷ []), long)

  one_more : ranked_rows ranks_now numbers_now ≡ ranked_rows ranks numbers ++ row ∷ []
  one_more = ap (λ l. ranked_rows l numbers_now) ranks_are ∙ ap (ranked_rows (ranks ++ row.rank ∷ [])) numbers_are ∙ row_more row ranks numbers long

pub invariant_of-self-2 : goal.invariant_of-self-2
invariant_of-self-2 g c =
    let t = c.self.inside in
    long_now c.args.row t.ranks.items c.reserve.new.self.items c.push_reserved.new.self.items t.numbers.items c.reserve-2.new.self.items c.push_reserved-2.new.self.items
    c.reserve.ensures.items c.reserve-2.ensures.items c.push_reserved.ensures.items c.push_reserved-2.ensures.items c.self.invariant

pub returns : goal.returns
returns g c = record {
  ok = let t = c.self.inside in
      one_more c.args.row t.ranks.items c.reserve.new.self.items c.push_reserved.new.self.items t.numbers.items c.reserve-2.new.self.items c.push_reserved-2.new.self.items
      c.reserve.ensures.items c.reserve-2.ensures.items c.push_reserved.ensures.items c.push_reserved-2.ensures.items c.self.invariant
      ∙ ap (λ l. l ++ c.args.row ∷ []) c.self.view_is;
  err = tt;
}

pub invariant_of-self : goal.invariant_of-self
invariant_of-self g c = c.self.invariant ∙ sym (ap length c.reserve.ensures.items)

pub returns-in_err-reserve : goal.returns-in_err-reserve
returns-in_err-reserve g c = record {
  ok = failed c.from_residual.result _ c.from_residual.ensures.0;
  err = on_err c.from_residual.result (ap (λ l. ranked_rows l c.self.inside.numbers.items) c.reserve.ensures.items ∙ c.self.view_is);
}

pub invariant_of-self-in_err-reserve-2 : goal.invariant_of-self-in_err-reserve-2
invariant_of-self-in_err-reserve-2 g c = ap length c.reserve-2.ensures.items ∙ c.self.invariant ∙ sym (ap length c.reserve.ensures.items)

pub returns-in_err-reserve-2 : goal.returns-in_err-reserve-2
returns-in_err-reserve-2 g c = record {
  ok = failed c.from_residual-in_err-reserve-2.result _ c.from_residual-in_err-reserve-2.ensures.0;
  err = on_err c.from_residual-in_err-reserve-2.result
      (ap (λ l. ranked_rows l c.reserve-2.new.self.items) c.reserve.ensures.items ∙ ap (ranked_rows c.self.inside.ranks.items) c.reserve-2.ensures.items ∙ c.self.view_is);
}
