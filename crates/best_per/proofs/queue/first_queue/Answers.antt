use Rattle.std.proofs.Common.{◌≡◌, ◌+◌, ◌<◌, ◌≤◌, ◌∙◌, ℕ, Bool, false, true, nat_lt, List, [], length, ap, sym, subst, arith}
use Rattle.std.specs.List.{All}
use Rattle.std.proofs.lemmas.Bool.{ltb-false, ltb-true}
use Rattle.std.proofs.lemmas.List.{get_or_past}
use Rattle.std.proofs.lemmas.Result.{IfOk-from_err}
use Rattle.std.proofs.lemmas.List.Elements.{All-nil}
use Rattle.take2_heap.specs.declared.entry.Entry.{Entry}
use Rattle.rank_key.specs.Bits.{bit_length}
use Rattle.rank_key.proofs.BitLemmas.{bit_length_is}
use Rattle.tdp_model.specs.KeyTuple.{KeyOf}
use Rattle.tdp_core.specs.TreeView.{NodeView, node_at, group_count}
use Rattle.tdp_core.specs.WellFormed.{IsFormed, IsTieFreeTree}
use Rattle.tree_dp.specs.BestRanking.{IsBestRanking}
use Rattle.best_per.specs.RootHeap.{root_len, rest_keys, IsPlace, IsQueue}
use Rattle.best_per.proofs.RootPlaces.{none_past, nothing_held}
use Rattle.best_per.proofs.Queues.{queue_begins}
use Rattle.best_per.proofs.queue.first_queue.Goals as goal

-- what a test that failed says
none_below : (n : ℕ) (b : Bool) → b ≡ nat_lt 0 n → b ≡ false → n ≤ 0
none_below n b is fails = ltb-false 0 n (sym is ∙ fails)

some_room : (n room : ℕ) → n + 1 ≤ room → 0 < room
some_room n room l = omega (arith, l)

none_besides : (a b n : ℕ) → a ≡ b + n → n ≡ 0 → a ≡ b
none_besides a b n e z = omega (arith, e, z)

one_at_most : (a n : ℕ) → a ≤ n + 1 → n ≡ 0 → a ≤ 1
one_at_most a n l z = omega (arith, l, z)

one_bit : bit_length 1 ≡ 1
one_bit = bit_length_is 1 1 (omega arith) (λ _. omega arith)

is_live : (n : ℕ) (b : Bool) → b ≡ nat_lt 0 n → b ≡ true → 0 < n
is_live n b is holds = ltb-true 0 n (sym is ∙ holds)

-- the queue over a tree without solutions
none_begins : {R : Type 0} (d : ℕ) (key : R → KeyOf d 16) (t : List (NodeView R)) (es : List (Entry R ℕ)) (spare : ℕ) → IsFormed d key t → IsTieFreeTree t → group_count t 0 ≤ 0 → es ≡ []
    → IsQueue d key t es spare × IsBestRanking t d key (rest_keys d key t es)
none_begins {R} d key t es spare formed apart dead is =
    let none : root_len t ≤ 0 = omega (arith, ap length (get_or_past (node_at t 0).groups 0 [] dead)) in
    subst (λ (xs : List (Entry R ℕ)). IsQueue d key t xs spare × IsBestRanking t d key (rest_keys d key t xs)) (sym is)
    (queue_begins d key t [] spare formed apart (All-nil (IsPlace d key t)) (λ i. omega (arith, none_past (root_len t) 0 i none)) (omega (arith, none)) (omega arith))

pub offer-requires-clause-entries : goal.offer-requires-clause-entries
offer-requires-clause-entries g c =
    let Placed : Entry g.row.R.Denot ℕ → Type 0 = IsPlace g.R.Rank.KEYS g.R.Rank.key c.args.tree.now in
    subst (All Placed) (sym (c.reserve.ensures.entries ∙ c.new-queue.ensures.entries)) (All-nil Placed)

pub returns-in_err-reserve : goal.returns-in_err-reserve
returns-in_err-reserve g c =
    record {
      queue = IfOk-from_err c.from_residual.result _ c.from_residual.ensures.0;
      best = IfOk-from_err c.from_residual.result _ c.from_residual.ensures.0;
      cost = omega arith;
    }

pub returns-then-not-live : goal.returns-then-not-live
returns-then-not-live g c =
    let dead = none_below (group_count c.args.tree.now 0) c.live.result c.live.ensures.live c.if-not-live.true in
    let both = none_begins g.R.Rank.KEYS g.R.Rank.key c.args.tree.now c.new-queue.result.entries c.new-queue.result.spare c.live.ensures.formed c.requires.tie_free dead c.new-queue.ensures.entries in
    record {
      queue = both.0;
      best = both.1;
      cost = omega arith;
    }

pub returns : goal.returns
returns g c =
    let t = c.args.tree.now in
    let empty : c.reserve.new.self.entries ≡ [] = c.reserve.ensures.entries ∙ c.new-queue.ensures.entries in
    let none : length c.reserve.new.self.entries ≡ 0 = ap (λ (es : List (Entry g.row.R.Denot ℕ)). length es) empty in
    let both = queue_begins g.R.Rank.KEYS g.R.Rank.key t c.offer.new.queue.entries c.offer.new.queue.spare c.live.ensures.formed c.requires.tie_free c.offer.ensures.entries
    (λ i. none_besides _ _ _ (c.offer.ensures.held i) (nothing_held (root_len t) c.reserve.new.self.entries i none))
    (omega (arith, c.offer.ensures.room, c.in_ok-reserve.ensures.ok, c.group_len.ensures)) (one_at_most _ _ c.offer.ensures.length none) in
    let one : bit_length (length c.reserve.new.self.entries + 1) ≡ 1 = ap (λ n. bit_length (n + 1)) none ∙ one_bit in
    record {
      queue = both.0;
      best = both.1;
      cost = omega (arith, c.offer.ensures.cost, one, c.live.ensures.formed.shaped.some_node);
    }

pub offer-requires-clause-live : goal.offer-requires-clause-live
offer-requires-clause-live g c = is_live (group_count c.args.tree.now 0) c.live.result c.live.ensures.live c.if-not-live.false

pub group_len-requires-clause-group : goal.group_len-requires-clause-group
group_len-requires-clause-group g c = is_live (group_count c.args.tree.now 0) c.live.result c.live.ensures.live c.if-not-live.false

pub offer-requires-clause-formed : goal.offer-requires-clause-formed
offer-requires-clause-formed g c = c.live.ensures.formed

pub offer-requires-clause-room : goal.offer-requires-clause-room
offer-requires-clause-room g c = some_room _ _ c.in_ok-reserve.ensures.ok
