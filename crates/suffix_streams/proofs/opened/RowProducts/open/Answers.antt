use Rattle.std.proofs.Common.{Fits, w32, ◌≡◌, ℕ, ◌+◌, ◌-◌, ◌^◌, ◌<◌, List, [], ◌∷◌, ◌++◌, length, length-append, slice_set, sym, ap, ◌∙◌, subst, arith}
use Rattle.std.specs.declared.vec.Vec.{Vec}
use Rattle.suffix_streams.specs.OpenedRows.{HaveOwnLists}
use Rattle.suffix_streams.proofs.Errors.{none_done}
use Rattle.suffix_streams.proofs.SearchCalls.{on_err}
use Rattle.suffix_streams.proofs.OpenedRows.{rows_of, in_opened, opened_own, opened_rows}
use Rattle.suffix_streams.proofs.Numbers.{in_same}
use Rattle.suffix_streams.proofs.opened.RowProducts.open.Goals as goal

number_fits : (n : ℕ) → n < 2 ^ 32 - 1 → Fits w32 n
number_fits n h = omega arith

-- the lists with one more, and what they are for each row
module _ {P Z : Type 0} (vs room all : List (Vec P Z)) (v : Vec P Z) (opened : List ℕ) (own : HaveOwnLists opened (length vs)) (rows : List (List P)) (seen : rows_of vs opened ≡ rows) (r n : ℕ) (inside : r < length rows)
    (count : n ≡ length vs) (same : room ≡ vs) (more : all ≡ room ++ (v ∷ [])) where
  longer : all ≡ vs ++ (v ∷ [])
  longer = more ∙ ap (λ l. l ++ (v ∷ [])) same

  own_more : HaveOwnLists (slice_set opened r (n + 1)) (length all)
  own_more =
      subst (λ k. HaveOwnLists (slice_set opened r (k + 1)) (length all)) (sym count)
      (subst (HaveOwnLists (slice_set opened r (length vs + 1))) (sym (ap length longer ∙ length-append vs (v ∷ []))) (opened_own vs opened own rows seen r inside v))

  rows_more : rows_of all (slice_set opened r (n + 1)) ≡ slice_set rows r v.items
  rows_more = ap (λ l. rows_of l (slice_set opened r (n + 1))) longer ∙ ap (λ k. rows_of (vs ++ (v ∷ [])) (slice_set opened r (k + 1))) count ∙ opened_rows vs opened own rows seen r inside v

pub invariant_of-self-2 : goal.invariant_of-self-2
invariant_of-self-2 g c =
    own_more c.self.inside.lists.items c.reserve.new.self.items c.push_reserved.new.self.items c.args.products c.self.inside.opened.items c.self.invariant c.args.self.now c.self.view_is c.args.row c.len-count.result c.requires.row (c.len-count.ensures ∙ c.self.inside.lists.ok.0) c.in_ok-reserve.ensures.items c.push_reserved.ensures.items

pub returns : goal.returns
returns g c =
    record {
      opened = rows_more c.self.inside.lists.items c.reserve.new.self.items c.push_reserved.new.self.items c.args.products c.self.inside.opened.items c.self.invariant c.args.self.now c.self.view_is c.args.row c.len-count.result c.requires.row (c.len-count.ensures ∙ c.self.inside.lists.ok.0) c.in_ok-reserve.ensures.items c.push_reserved.ensures.items;
      refused = tt;
    }

pub invariant_of-self : goal.invariant_of-self
invariant_of-self g c = subst (λ l. HaveOwnLists c.self.inside.opened.items (length l)) (sym c.reserve.ensures.items) c.self.invariant

pub returns-in_err-reserve : goal.returns-in_err-reserve
returns-in_err-reserve g c =
    record {
      refused = on_err c.from_residual.result (ap (λ l. rows_of l c.self.inside.opened.items) c.reserve.ensures.items ∙ c.self.view_is);
      opened = none_done _ c.from_residual.result c.from_residual.ensures.0;
    }

pub index_mut-requires : goal.index_mut-requires
index_mut-requires g c =
    in_same _ _ _ (in_opened c.self.inside.lists.items c.self.inside.opened.items c.self.invariant c.args.self.now c.self.view_is c.args.row c.requires.row c.args.products) c.self.inside.opened.ok.0

pub overflow_cast-count : goal.overflow_cast-count
overflow_cast-count g c = number_fits _ c.if-count.false
