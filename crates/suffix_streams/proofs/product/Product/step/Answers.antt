use Rattle.std.proofs.Common.{◌≡◌, ℕ, ◌+◌, ◌-◌, ◌*◌, ◌^◌, ◌<◌, ◌≤◌, IsSome, min, List, [], ◌∷◌, ◌++◌, length, length-append, get_or, sym, ap, ◌∙◌, subst, arith, Option, Some, None, IfNone}
use Rattle.std.specs.List.Sorted.{IsPermutation}
use Rattle.rank_key.specs.Bits.{bit_length}
use Rattle.take2_heap.specs.Order.{IsLeast}
use Rattle.take2_heap.specs.declared.entry.Entry.{Entry}
use Rattle.suffix_streams.specs.declared.cell.Cell.{Cell}
use Rattle.suffix_streams.specs.Offers.{offers}
use Rattle.suffix_streams.specs.ProductView.{ProductView, with_rank}
use Rattle.suffix_streams.proofs.Takes.{one_moved, one_more, first_least, step_within, none_kept, none_same}
use Rattle.suffix_streams.proofs.product.Product.step.Goals as goal

spare_some : (a b n : ℕ) → min a b ≡ n → 0 < n → 0 < a
spare_some a b n e some = omega arith

found_more : {A : Type 0} (xs ys : List A) (x : A) (a n : ℕ) → ys ≡ xs ++ (x ∷ []) → min a (2 ^ 32 - 1 - length xs) ≡ n → 0 < n → (0 < length ys) × (length ys < 2 ^ 32)
found_more xs ys x a n e room some =
    let longer : length ys ≡ length xs + 1 = ap length e ∙ length-append xs (x ∷ []) in
    (omega (arith, longer), omega (arith, longer, room, some))

pub offer-requires : goal.offer-requires
offer-requires g c = record { room = subst (λ (p : ProductView g.row.R.Denot). IsSome c.args.across → 0 < p.frontier_room) (sym c.self.view_is) c.requires.frontier_room }

pub push_reserved-requires-clause-some : goal.push_reserved-requires-clause-some
push_reserved-requires-clause-some g c = c.self.invariant.0

pub push_reserved-requires-clause-spare : goal.push_reserved-requires-clause-spare
push_reserved-requires-clause-spare g c = spare_some _ _ _ (ap (λ (p : ProductView g.row.R.Denot). p.room) c.self.view_is) c.requires.room

-- the one that follows comes first
comes_first : {E : Type 0} (o : Option E) (e : E) (es : List E) (x : E) → o ≡ Some e → e ≡ get_or (offers o None es) 0 x
comes_first o e es x is = ap (λ z. get_or (offers z None es) 0 x) (sym is)

none_left : {E P : Type 0} (o : Option E) (es : List E) → o ≡ None → IfNone o (es ≡ []) → 0 < length (offers o None es) → P
none_left None es is n l = absurd (omega (arith, l, ap length n))
none_left (Some e) es is n l = cc

some_left : {E P : Type 0} (o : Option E) (e : E) (es : List E) → o ≡ Some e → length (offers o None es) ≡ 0 → P
some_left None e es is l = cc
some_left (Some x) e es is l = absurd (omega (arith, l))

pub returns-in-Some : goal.returns-in-Some
returns-in-Some g c =
    record {
      found = λ d h. c.push_reserved.ensures.cells ∙ ap (λ (p : ProductView g.row.R.Denot). p.found ++ (c.in-Some.sum.tag ∷ [])) c.self.view_is
          ∙ ap (λ (e : Entry g.row.R.Denot Cell). c.args.self.now.found ++ (e.tag ∷ [])) (comes_first c.take-self-inside.result c.in-Some.sum c.take-self-inside.new.queue.entries d c.in-Some.is);
      ranks = λ d h. c.push_reserved.ensures.ranks ∙ ap (λ (p : ProductView g.row.R.Denot). with_rank p.ranks c.in-Some.sum.rank) c.self.view_is
          ∙ ap (λ (e : Entry g.row.R.Denot Cell). with_rank c.args.self.now.ranks e.rank) (comes_first c.take-self-inside.result c.in-Some.sum c.take-self-inside.new.queue.entries d c.in-Some.is);
      ended = λ e. some_left c.take-self-inside.result c.in-Some.sum c.take-self-inside.new.queue.entries c.in-Some.is e;
      next = λ d h. first_least g.R.Rank.KEYS g.R.Rank.key c.take-self-inside.result c.take-self-inside.new.queue.entries (none_kept c.args.down c.offer.new.queue c.take-self-inside.new.queue c.take-self-inside.result c.take-self-inside.ensures.none) c.take-self-inside.ensures.least d;
      limit = one_more g.R.Rank.KEYS g.R.Rank.key c.take-self-inside.result c.take-self-inside.new.queue.entries (none_kept c.args.down c.offer.new.queue c.take-self-inside.new.queue c.take-self-inside.result c.take-self-inside.ensures.none) c.take-self-inside.ensures.limit;
      cost = subst (λ (p : ProductView g.row.R.Denot). c.take-self-inside.new.steps ≤ c.args.steps.now + 1 + 2 * bit_length (length p.frontier) + bit_length (length p.frontier + 1)) c.self.view_is
          (step_within g.R.Rank.KEYS g.R.Rank.key c.self.inside.last c.self.inside.waiting.entries c.self.invariant.3 c.args.across c.offer.new.queue.entries _ _ _ (subst (λ (p : ProductView g.row.R.Denot). 0 < length p.frontier) (sym c.self.view_is) c.requires.top) c.offer.ensures.moved c.offer.ensures.cost c.take-self-inside.ensures.cost);
      moved = λ d. subst (λ (p : ProductView g.row.R.Denot). IsPermutation (offers c.args.down c.args.across p.frontier) (get_or p.frontier 0 d ∷ offers c.take-self-inside.result None c.take-self-inside.new.queue.entries)) c.self.view_is
          (one_moved g.R.Rank.KEYS g.R.Rank.key c.self.inside.last c.self.inside.waiting.entries c.self.invariant.3 c.args.down c.args.across c.take-self-inside.result c.offer.new.queue.entries c.take-self-inside.new.queue.entries (subst (λ (p : ProductView g.row.R.Denot). 0 < length p.frontier) (sym c.self.view_is) c.requires.top) c.offer.ensures.moved c.take-self-inside.ensures.given
          (none_same c.args.down c.offer.new.queue c.take-self-inside.new.queue c.take-self-inside.result c.take-self-inside.ensures.none) d);
      least = λ d. subst (λ (p : ProductView g.row.R.Denot). IsLeast g.R.Rank.KEYS g.R.Rank.key (get_or p.frontier 0 d) p.frontier) c.self.view_is (first_least g.R.Rank.KEYS g.R.Rank.key c.self.inside.last c.self.inside.waiting.entries c.self.invariant.3 c.self.invariant.2 d);
    }

pub returns-in_default : goal.returns-in_default
returns-in_default g c =
    let none = none_kept c.args.down c.offer.new.queue c.take-self-inside.new.queue c.take-self-inside.result c.take-self-inside.ensures.none in
    record {
      ended = λ e. (ap (λ (p : ProductView g.row.R.Denot). p.found) c.self.view_is, ap (λ (p : ProductView g.row.R.Denot). p.ranks) c.self.view_is);
      next = λ d h. none_left c.take-self-inside.result c.take-self-inside.new.queue.entries c.in_default.is none h;
      ranks = λ d h. none_left c.take-self-inside.result c.take-self-inside.new.queue.entries c.in_default.is none h;
      found = λ d h. none_left c.take-self-inside.result c.take-self-inside.new.queue.entries c.in_default.is none h;
      limit = one_more g.R.Rank.KEYS g.R.Rank.key c.take-self-inside.result c.take-self-inside.new.queue.entries (none_kept c.args.down c.offer.new.queue c.take-self-inside.new.queue c.take-self-inside.result c.take-self-inside.ensures.none) c.take-self-inside.ensures.limit;
      cost = subst (λ (p : ProductView g.row.R.Denot). c.take-self-inside.new.steps ≤ c.args.steps.now + 1 + 2 * bit_length (length p.frontier) + bit_length (length p.frontier + 1)) c.self.view_is
          (step_within g.R.Rank.KEYS g.R.Rank.key c.self.inside.last c.self.inside.waiting.entries c.self.invariant.3 c.args.across c.offer.new.queue.entries _ _ _ (subst (λ (p : ProductView g.row.R.Denot). 0 < length p.frontier) (sym c.self.view_is) c.requires.top) c.offer.ensures.moved c.offer.ensures.cost c.take-self-inside.ensures.cost);
      moved = λ d. subst (λ (p : ProductView g.row.R.Denot). IsPermutation (offers c.args.down c.args.across p.frontier) (get_or p.frontier 0 d ∷ offers c.take-self-inside.result None c.take-self-inside.new.queue.entries)) c.self.view_is
          (one_moved g.R.Rank.KEYS g.R.Rank.key c.self.inside.last c.self.inside.waiting.entries c.self.invariant.3 c.args.down c.args.across c.take-self-inside.result c.offer.new.queue.entries c.take-self-inside.new.queue.entries (subst (λ (p : ProductView g.row.R.Denot). 0 < length p.frontier) (sym c.self.view_is) c.requires.top) c.offer.ensures.moved c.take-self-inside.ensures.given
          (none_same c.args.down c.offer.new.queue c.take-self-inside.new.queue c.take-self-inside.result c.take-self-inside.ensures.none) d);
      least = λ d. subst (λ (p : ProductView g.row.R.Denot). IsLeast g.R.Rank.KEYS g.R.Rank.key (get_or p.frontier 0 d) p.frontier) c.self.view_is (first_least g.R.Rank.KEYS g.R.Rank.key c.self.inside.last c.self.inside.waiting.entries c.self.invariant.3 c.self.invariant.2 d);
    }

pub invariant_of-self : goal.invariant_of-self
invariant_of-self g c =
    let f = found_more _ _ _ _ _ c.push_reserved.ensures.cells (ap (λ (p : ProductView g.row.R.Denot). p.room) c.self.view_is) c.requires.room in
    (f.0, f.1, c.take-self-inside.ensures.least, none_kept c.args.down c.offer.new.queue c.take-self-inside.new.queue c.take-self-inside.result c.take-self-inside.ensures.none, c.take-self-inside.ensures.limit)
