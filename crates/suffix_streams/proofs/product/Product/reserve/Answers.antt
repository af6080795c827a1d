use mir.Val.{bool_byte}
use Rattle.std.proofs.Common.{◌≡◌, ℕ, ◌-◌, ◌^◌, ◌<◌, ◌≤◌, min, None, Bool, true, false, IsTrue, List, length, refl, sym, ap, ◌∙◌, subst, arith, IfSome, IfNone, []}
use Rattle.std.proofs.lemmas.Bool.{false≢true}
use Rattle.take2_heap.specs.Order.{IsLeast}
use Rattle.take2_heap.specs.declared.entry.Entry.{Entry}
use Rattle.suffix_streams.specs.declared.cell.Cell.{Cell}
use Rattle.suffix_streams.specs.ProductView.{ProductView}
use Rattle.suffix_streams.specs.Offers.{offers}
use Rattle.suffix_streams.proofs.Errors.{none_done, ok_then}
use Rattle.suffix_streams.proofs.SearchCalls.{on_ok}
use Rattle.suffix_streams.proofs.product.Product.reserve.Goals as goal

room_left : (a n : ℕ) → 0 < a → n < 2 ^ 32 - 1 → 0 < min a (2 ^ 32 - 1 - n)
room_left a n some few = omega arith

room_beside : (b : Bool) (n : ℕ) → IsTrue b → bool_byte b ≤ n → 0 < n
room_beside true n later more = omega (arith, more)
room_beside false n later more = absurd (false≢true later)

few_left : {n : ℕ} {before after : List Cell} → n ≡ length before → n < 2 ^ 32 - 1 → after ≡ before → length after < 2 ^ 32 - 1
few_left e few same = subst (λ (l : List Cell). length l < 2 ^ 32 - 1) (sym same) (subst (λ k. k < 2 ^ 32 - 1) e few)

pub returns-in_err-reserve : goal.returns-in_err-reserve
returns-in_err-reserve g c =
    record {
      frontier = ap (λ (p : ProductView g.row.R.Denot). p.frontier) c.self.view_is;
      room = none_done _ c.from_residual.result c.from_residual.ensures.0;
      ranks = c.reserve.ensures.ranks ∙ ap (λ (p : ProductView g.row.R.Denot). p.ranks) c.self.view_is;
      frontier_room = none_done _ c.from_residual.result c.from_residual.ensures.0;
      found = c.reserve.ensures.cells ∙ ap (λ (p : ProductView g.row.R.Denot). p.found) c.self.view_is;
    }

pub returns : goal.returns
returns g c =
    record {
      frontier = ap (λ es. offers c.self.inside.last None es) c.reserve-2.ensures.entries ∙ ap (λ (p : ProductView g.row.R.Denot). p.frontier) c.self.view_is;
      ranks = c.reserve.ensures.ranks ∙ ap (λ (p : ProductView g.row.R.Denot). p.ranks) c.self.view_is;
      room = on_ok c.reserve-2.result (room_left _ _ c.in_ok-reserve.ensures.spare (few_left c.len.ensures c.if-len.false c.reserve.ensures.cells));
      frontier_room = ok_then c.reserve-2.result (λ more b. room_beside c.args.beside _ b more) c.reserve-2.ensures.ok;
      found = c.reserve.ensures.cells ∙ ap (λ (p : ProductView g.row.R.Denot). p.found) c.self.view_is;
    }

pub returns-then-len : goal.returns-then-len
returns-then-len g c = record { found = refl; ranks = refl; frontier = refl; room = tt; frontier_room = tt }

-- the solutions stay
found_kept : {before after : List Cell} → after ≡ before → (0 < length before) × (length before < 2 ^ 32) → (0 < length after) × (length after < 2 ^ 32)
found_kept same f = subst (λ (l : List Cell). (0 < length l) × (length l < 2 ^ 32)) (sym same) f

pub invariant_of-self : goal.invariant_of-self
invariant_of-self g c =
    let f = found_kept c.reserve.ensures.cells (c.self.invariant.0, c.self.invariant.1) in
    (f.0, f.1, c.self.invariant.2, c.self.invariant.3, c.self.invariant.4)

pub invariant_of-self-2 : goal.invariant_of-self-2
invariant_of-self-2 g c =
    let f = found_kept c.reserve.ensures.cells (c.self.invariant.0, c.self.invariant.1) in
    let same = sym c.reserve-2.ensures.entries in (
      f.0,
      f.1,
      subst (λ (es : List (Entry g.row.R.Denot Cell)). IfSome c.self.inside.last (λ e. IsLeast g.R.Rank.KEYS g.R.Rank.key e es)) same c.self.invariant.2,
      subst (λ (es : List (Entry g.row.R.Denot Cell)). IfNone c.self.inside.last (es ≡ [])) same c.self.invariant.3,
      subst (λ (es : List (Entry g.row.R.Denot Cell)). length es < 2 ^ 64) same c.self.invariant.4,
    )
