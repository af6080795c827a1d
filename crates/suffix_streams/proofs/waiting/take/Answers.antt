use Rattle.std.proofs.Common.{◌≡◌, ℕ, ◌<◌, ◌≤◌, Option, Some, None, IfSome, IfNone, is_some, List, ◌∷◌, length, sym, ap, ◌∙◌, arith}
use Rattle.std.specs.List.Sorted.{IsPermutation}
use Rattle.std.proofs.lemmas.List.Sorted.{length_permutation}
use Rattle.take2_heap.specs.Heap.{Heap}
use Rattle.take2_heap.specs.declared.entry.Entry.{Entry}
use Rattle.tdp_model.specs.KeyNumbers.{key_less}
use Rattle.suffix_streams.proofs.Takes.{least_left, least_before, least_replaced}
use Rattle.suffix_streams.proofs.ListEnds.{any_default}
use Rattle.suffix_streams.proofs.waiting.take.Goals as goal

both : {A : Type 0} (o : Option A) (P Q S : A → Type 0) → IfSome o P → IfSome o Q → ((a : A) → P a → Q a → S a) → IfSome o S
both None P Q S p q f = tt
both (Some a) P Q S p q f = f a p q

pub returns-in_default-next-clause-least : goal.returns-in_default-next-clause-least
returns-in_default-next-clause-least g c = both c.pop.result _ _ _ c.pop.ensures.least c.pop.ensures.permutation (λ e least moved. least_left g.R.Rank.KEYS g.R.Rank.key e c.args.queue.now.entries c.pop.new.self.entries least moved)

pub returns-then-less-clause-least : goal.returns-then-less-clause-least
returns-then-less-clause-least g c =
    let old = c.args.queue.now.entries in
    let same = c.replace_top.ensures.top ∙ any_default old 0 c.replace_top.result c.in-Some.top.now (c.peek.ensures.variant.0 (ap is_some c.in-Some.is)) ∙ sym c.in-Some.ensures.top in
    let before = ap (λ (e : Entry g.row.R.Denot g.row.T.Denot). key_less g.R.Rank.KEYS 16 (g.R.Rank.key e.rank) (g.R.Rank.key c.in-Some-next.next.rank)) same ∙ sym c.less.ensures.order ∙ c.if-less.true in
    least_replaced g.R.Rank.KEYS g.R.Rank.key c.replace_top.result c.in-Some-next.next old c.replace_top.new.self.entries c.replace_top.ensures.least before c.replace_top.ensures.permutation

pub returns-else-less-clause-least : goal.returns-else-less-clause-least
returns-else-less-clause-least g c = least_before g.R.Rank.KEYS g.R.Rank.key c.in-Some-next.next c.in-Some.top.now c.args.queue.now.entries c.in-Some.ensures.least (sym c.less.ensures.order ∙ c.if-less.false)

-- what is left is no longer
left_few : {A : Type 0} (o : Option A) (old new : List A) (n : ℕ) → IfSome o (λ e. IsPermutation old (e ∷ new)) → IfNone o (length new ≤ length old) → length old < n → length new < n
left_few None old new n p q l = omega (arith, q, l)
left_few (Some e) old new n p q l = let same = length_permutation old (e ∷ new) p in omega (arith, same, l)

none_few : {A B : Type 0} (o : Option A) (old new : B) (size : B → ℕ) → IfNone o (new ≡ old) → IfNone o (size new ≤ size old)
none_few None old new size e = let same = ap size e in omega (arith, same)
none_few (Some x) old new size e = tt

pub returns-in_default-next-clause-limit : goal.returns-in_default-next-clause-limit
returns-in_default-next-clause-limit g c = left_few c.pop.result c.args.queue.now.entries c.pop.new.self.entries _ c.pop.ensures.permutation (none_few c.pop.result c.args.queue.now c.pop.new.self (λ (h : Heap g.row.R.Denot g.row.T.Denot). length h.entries) c.pop.ensures.none) c.peek.ensures.limit

pub returns-then-less-clause-limit : goal.returns-then-less-clause-limit
returns-then-less-clause-limit g c =
    let same = length_permutation _ _ c.replace_top.ensures.permutation in
    omega (arith, same, c.peek.ensures.limit)
