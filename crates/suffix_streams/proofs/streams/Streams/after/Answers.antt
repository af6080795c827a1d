use Rattle.std.proofs.Common.{◌≡◌, ◌+◌, ◌*◌, ◌<◌, ◌≤◌, Result, Ok, Err, IfOk, IsSome, length, sym, ap, ◌∙◌, subst, arith}
use Rattle.rank_key.specs.Bits.{bit_length}
use Rattle.tdp_core.specs.TreeView.{parent, row_count}
use Rattle.tdp_core.specs.AnswerView.{counted}
use Rattle.tdp_core.specs.WellFormed.{IsFormed, IsTieFreeTree}
use Rattle.suffix_streams.specs.TreeStreams.{node_of, group_of, next_of, node_size, IsStreams}
use Rattle.suffix_streams.specs.Growing.{IsAnswered}
use Rattle.suffix_streams.specs.StreamsView.{StreamsView, AreKept, size_of_node}
use Rattle.suffix_streams.proofs.ViewPrefixes.{all_prefixes}
use Rattle.suffix_streams.proofs.ViewCalls.{few_kept, kept_of, call_steps, some_row, follows_of, below_few}
use Rattle.tdp_model.specs.Below.{is_below}
use Rattle.suffix_streams.proofs.SearchCosts.{subtree_within_steps}
use Rattle.suffix_streams.proofs.streams.Streams.after.Goals as goal

on_ok : {A E : Type 0} {P Q : A → Type 0} (r : Result A E) → ((a : A) → P a → Q a) → IfOk r P → IfOk r Q
on_ok (Ok a) f h = f a h
on_ok (Err e) f h = h

pub invariant_of-self : goal.invariant_of-self
invariant_of-self g c =
    let d = g.R.Rank.KEYS in
    let s = c.self.inside.solutions in
    let s' = c.after.new.self in
    let grown = few_kept d g.R.Rank.key s.tree.now c.self.invariant.formed s.entries.entries s'.entries.entries s.nodes.items s'.nodes.items c.self.inside.calls (node_of s.entries.entries c.args.entry)
    (subst (λ t. IsStreams d g.R.Rank.key t s'.entries.entries s'.nodes.items) c.after.ensures.tree c.after.ensures.formed) c.self.invariant.few c.after.ensures.queues in
    record {
      formed = subst (IsFormed d g.R.Rank.key) (sym c.after.ensures.tree) c.self.invariant.formed;
      tie_free = subst IsTieFreeTree (sym c.after.ensures.tree) c.self.invariant.tie_free;
      streams = c.after.ensures.formed;
      few = λ v r k. omega (arith, grown v r k, c.saturating_add-self-inside.ensures);
    }

pub after-requires-clause-formed : goal.after-requires-clause-formed
after-requires-clause-formed g c = c.self.invariant.streams

pub after-requires-clause-tie_free : goal.after-requires-clause-tie_free
after-requires-clause-tie_free g c = c.self.invariant.tie_free

pub after-requires-clause-entry : goal.after-requires-clause-entry
after-requires-clause-entry g c = subst (λ (v : StreamsView g.row.R.Denot). c.args.entry < length v.entries) (sym c.self.view_is) c.requires

pub returns : goal.returns
returns g c =
    let s = c.self.inside.solutions in
    record {
      tree = c.after.ensures.tree ∙ ap (λ (v : StreamsView g.row.R.Denot). v.tree) c.self.view_is;
      prefixes = all_prefixes g.R.Rank.KEYS g.R.Rank.key c.after.new.self.tree.now c.after.new.self.entries.entries c.after.new.self.nodes.items c.after.ensures.formed;
      kept =
          let new : StreamsView g.row.R.Denot = record { tree = c.after.new.self.tree.now; entries = c.after.new.self.entries.entries; nodes = c.after.new.self.nodes.items; calls = c.saturating_add-self-inside.result } in
          subst (λ (v : StreamsView g.row.R.Denot). AreKept v new) c.self.view_is (kept_of _ _ new c.after.ensures.grown.store);
      follows =
          let s' = c.after.new.self in
          let within : c.args.entry < length c.self.inside.solutions.entries.entries = subst (λ (s : StreamsView g.row.R.Denot). c.args.entry < length s.entries) (sym c.self.view_is) c.requires in
          on_ok c.after.result
          (λ o h. follows_of g.R.Rank.KEYS g.R.Rank.key (record { tree = s'.tree.now; entries = s'.entries.entries; nodes = s'.nodes.items; calls = c.saturating_add-self-inside.result }) c.args.entry o
          c.after.ensures.formed (omega (arith, within, c.after.ensures.grown.store.longer)) h)
          (subst (λ t. IfOk c.after.result (IsAnswered g.R.Rank.KEYS g.R.Rank.key t s'.entries.entries c.args.entry)) (sym c.after.ensures.tree) c.after.ensures.answer);
      known =
          λ some.
          let k = c.after.ensures.known (subst (λ (v : StreamsView g.row.R.Denot). IsSome (next_of v.entries c.args.entry)) (sym c.self.view_is) some) in
          let calls : c.saturating_add-self-inside.result ≡ counted c.args.self.now.calls = c.saturating_add-self-inside.ensures ∙ ap (λ (v : StreamsView g.row.R.Denot). counted v.calls) c.self.view_is in (
            k.0,
            ap (λ s. (let v : StreamsView g.row.R.Denot = record { tree = s.tree.now; entries = s.entries.entries; nodes = s.nodes.items; calls = c.saturating_add-self-inside.result } in v)) k.1
                ∙ ap (λ (v : StreamsView g.row.R.Denot). (let w : StreamsView g.row.R.Denot = record v { calls = c.saturating_add-self-inside.result } in w)) c.self.view_is
                ∙ ap (λ n. (let w : StreamsView g.row.R.Denot = record c.args.self.now { calls = n } in w)) calls,
            k.2,
          );
      growth =
          λ q.
          let same : node_size s.entries.entries q ≡ size_of_node c.args.self.now q = ap (λ (v : StreamsView g.row.R.Denot). size_of_node v q) c.self.view_is in
          omega (arith, c.after.ensures.grown.growth q, below_few (parent s.tree.now) (node_of s.entries.entries c.args.entry) q, same);
      calls = c.saturating_add-self-inside.ensures ∙ ap (λ (v : StreamsView g.row.R.Denot). counted v.calls) c.self.view_is;
      cost =
          let d = g.R.Rank.KEYS in
          let s = c.self.inside.solutions in
          let within : c.args.entry < length s.entries.entries = subst (λ (s : StreamsView g.row.R.Denot). c.args.entry < length s.entries) (sym c.self.view_is) c.requires in
          let owner = c.self.invariant.streams.owners c.args.entry within in
          let some = some_row d g.R.Rank.key s.tree.now c.self.invariant.formed (node_of s.entries.entries c.args.entry) (group_of s.entries.entries c.args.entry) owner.0 owner.1 in
          subst (λ (v : StreamsView g.row.R.Denot). c.after.new.steps ≤ c.args.steps.now + 20 * length v.tree * (1 + bit_length (row_count v.tree + (v.calls + 1) * length v.tree))) c.self.view_is
          (call_steps d g.R.Rank.key s.tree.now c.self.invariant.formed s.entries.entries c.after.new.self.entries.entries s.nodes.items c.after.new.self.nodes.items c.self.inside.calls c.args.entry c.args.steps.now c.after.new.steps
          some c.self.invariant.few
          (subtree_within_steps d g.R.Rank.key s.tree.now c.self.invariant.formed s.nodes.items (is_below (parent s.tree.now) (node_of s.entries.entries c.args.entry)) (node_of s.entries.entries c.args.entry) c.args.steps.now c.after.new.steps owner.0 c.after.ensures.cost));
    }
