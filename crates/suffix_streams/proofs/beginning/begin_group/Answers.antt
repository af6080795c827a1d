use Rattle.std.proofs.Common.{[], ◌∷◌, ◌++◌, ◌≡◌, ◌≢◌, ℕ, ◌+◌, ◌≤◌, None, List, length, get_or, slice_set, refl, sym, ap, ◌∙◌, subst, arith}
use Rattle.stream_store.specs.declared.linked.Linked.{Linked}
use Rattle.tdp_core.specs.TreeView.{members}
use Rattle.tdp_core.proofs.TreeFacts.{member_is_row}
use Rattle.suffix_streams.specs.declared.stream.Found.{Found}
use Rattle.suffix_streams.specs.StreamView.{StreamView, IsNextHead}
use Rattle.suffix_streams.specs.NodeStreamsView.{NodeStreamsView}
use Rattle.suffix_streams.specs.TreeStreams.{lists_of, IsHeaded}
use Rattle.suffix_streams.specs.Beginnings.{IsBegunIn}
use Rattle.suffix_streams.proofs.HeadedStreams.{next_head_more}
use Rattle.suffix_streams.proofs.BeginBegun.{headed_begun}
use Rattle.suffix_streams.proofs.BeginMade.{with_stream}
use Rattle.suffix_streams.proofs.Errors.{none_done, ok_then}
use Rattle.suffix_streams.proofs.BeginNodes.{first_best, first_member, in_more, nodes_set}
use Rattle.suffix_streams.proofs.beginning.begin_group.Given.{Over}
use Rattle.suffix_streams.proofs.beginning.begin_group.Goals.{After-add_stream}
use Rattle.suffix_streams.proofs.Numbers.{in_same}
use Rattle.suffix_streams.proofs.ListEnds.{any_default, length_behind}
use Rattle.suffix_streams.proofs.beginning.begin_group.Goals as goal

-- # What the proofs share

module _ (g : Over) where
  -- the entry that was added, and the stream that it heads
  abbrev entry : After-add_stream g → Linked (Found g.row.R.Denot)
  entry c = record { value = record { node = c.args.node; group = c.args.group; solution = c.first_solution-first.result }; next = None }

  abbrev stream : After-add_stream g → StreamView g.row.R.Denot
  stream c = record { head = c.push_reserved-head.result; queue = []; room = 0 }

  added : (c : After-add_stream g) → c.push_reserved-head.new.self.entries ≡ c.args.entries.now.entries ++ (entry c ∷ [])
  added c = c.push_reserved-head.ensures.entries ∙ ap (λ es. es ++ (entry c ∷ [])) c.reserve.ensures.entries

  head_is : (c : After-add_stream g) → c.push_reserved-head.result ≡ length c.args.entries.now.entries
  head_is c = c.push_reserved-head.ensures.id ∙ ap length c.reserve.ensures.entries

  nodes_are : (c : After-add_stream g) → c.add_stream.new.self ≡ with_stream c.index_mut.result.now (stream c)
      → (length (slice_set c.args.nodes.now.items c.args.node c.add_stream.new.self) ≡ length c.args.nodes.now.items)
      × ((q : ℕ) → q ≢ c.args.node → lists_of (slice_set c.args.nodes.now.items c.args.node c.add_stream.new.self) q ≡ lists_of c.args.nodes.now.items q)
      × (lists_of (slice_set c.args.nodes.now.items c.args.node c.add_stream.new.self) c.args.node ≡ with_stream (lists_of c.args.nodes.now.items c.args.node) (stream c))
  nodes_are c e = nodes_set g.R.Rank.KEYS g.R.Rank.key c.args.tree.now c.args.nodes.now.items c.args.node c.index_mut.result.now c.add_stream.new.self (stream c) (in_same _ _ _ c.requires.node c.requires.begun.streams.all_nodes) c.index_mut.ensures.value e

  begun : (c : After-add_stream g) → c.add_stream.new.self ≡ with_stream c.index_mut.result.now (stream c)
      → IsBegunIn g.R.Rank.KEYS g.R.Rank.key c.args.tree.now c.push_reserved-head.new.self.entries (slice_set c.args.nodes.now.items c.args.node c.add_stream.new.self) c.args.node (c.args.group + 1)
  begun c e =
      let d = g.R.Rank.KEYS in
      let key = g.R.Rank.key in
      let t = c.args.tree.now in
      let set = nodes_are c e in
      let first = c.first_solution-first.ensures.first in
      subst (λ es. IsBegunIn d key t es (slice_set c.args.nodes.now.items c.args.node c.add_stream.new.self) c.args.node (c.args.group + 1)) (sym (added c))
      (in_more d key t c.args.entries.now.entries c.args.nodes.now.items (slice_set c.args.nodes.now.items c.args.node c.add_stream.new.self) c.args.node c.args.group (c.args.group + 1) (entry c) (stream c)
      set.0 set.1 set.2 c.requires.node c.requires.group refl refl refl refl (head_is c)
      (first.1 ∙ first_best d key t c.requires.formed c.args.node c.args.group c.requires.node c.requires.group ∙ first_member d key t c.requires.formed c.args.node c.args.group c.requires.node c.requires.group)
      refl first c.requires.begun)

  heads : (c : After-add_stream g) → c.add_stream.new.self ≡ with_stream c.index_mut.result.now (stream c)
      → IsNextHead (lists_of (slice_set c.args.nodes.now.items c.args.node c.add_stream.new.self) c.args.node).streams (length c.push_reserved-head.new.self.entries)
  heads c e =
      subst (λ n. IsNextHead n.streams (length c.push_reserved-head.new.self.entries)) (sym (nodes_are c e).2)
      (next_head_more (lists_of c.args.nodes.now.items c.args.node).streams (stream c) (length c.args.entries.now.entries) (length c.push_reserved-head.new.self.entries) c.requires.heads (head_is c)
      (ap length (added c) ∙ length_behind c.args.entries.now.entries (entry c)))

pub first_solution-first-requires-clause-formed : goal.first_solution-first-requires-clause-formed
first_solution-first-requires-clause-formed g c = c.requires.formed

pub first_solution-first-requires-clause-node : goal.first_solution-first-requires-clause-node
first_solution-first-requires-clause-node g c = c.requires.node

pub first_solution-first-requires-clause-group : goal.first_solution-first-requires-clause-group
first_solution-first-requires-clause-group g c = c.requires.group

pub first_solution-first-requires-clause-member : goal.first_solution-first-requires-clause-member
first_solution-first-requires-clause-member g c = c.requires.formed.inhabited c.args.node c.args.group c.requires.node c.requires.group

pub first_solution-first-requires-clause-headed : goal.first_solution-first-requires-clause-headed
first_solution-first-requires-clause-headed g c =
    let d = g.R.Rank.KEYS in
    let key = g.R.Rank.key in
    let t = c.args.tree.now in
    let row = member_is_row d key t c.requires.formed c.args.node c.args.group 0 c.requires.node (c.requires.formed.inhabited c.args.node c.args.group c.requires.node c.requires.group) in
    subst (λ (z : List (NodeStreamsView g.row.R.Denot)). IsHeaded d key t c.args.entries.now.entries z c.args.node (get_or (members t c.args.node c.args.group) 0 0)) (sym c.as_slice.ensures.value)
    (headed_begun d key t c.requires.formed c.args.entries.now.entries c.args.nodes.now.items c.requires.begun.streams c.args.node (get_or (members t c.args.node c.args.group) 0 0) c.requires.node row c.requires.begun.behind)

pub add_stream-requires : goal.add_stream-requires
add_stream-requires g c =
    subst (λ (n : NodeStreamsView g.row.R.Denot). IsNextHead n.streams c.push_reserved-head.result)
    (any_default c.args.nodes.now.items c.args.node (record { children = []; streams = []; products = [] }) c.index_mut.result.now (in_same _ _ _ c.requires.node c.requires.begun.streams.all_nodes) ∙ sym c.index_mut.ensures.value)
    (subst (IsNextHead (lists_of c.args.nodes.now.items c.args.node).streams) (sym (c.push_reserved-head.ensures.id ∙ ap length c.reserve.ensures.entries)) c.requires.heads)

pub returns : goal.returns
returns g c =
    let at = goal.at.returns g c in
    record {
      begun = ok_then c.add_stream.result (begun g at.After-add_stream) c.add_stream.ensures;
      heads = ok_then c.add_stream.result (heads g at.After-add_stream) c.add_stream.ensures;
      cost = omega (arith, c.first_solution-first.ensures.cost, c.push_reserved-head.ensures.cost);
    }

pub index_mut-requires : goal.index_mut-requires
index_mut-requires g c = in_same _ _ _ (in_same _ _ _ c.requires.node c.requires.begun.streams.all_nodes) c.args.nodes.now.ok.0

-- the head was not added
few_steps : (s m : ℕ) → m ≤ s + 4 → m ≤ s + 5
few_steps s m h = omega arith

pub returns-in_err-reserve : goal.returns-in_err-reserve
returns-in_err-reserve g c =
    record {
      begun = none_done _ c.from_residual.result c.from_residual.ensures.0;
      heads = none_done _ c.from_residual.result c.from_residual.ensures.0;
      cost = few_steps _ _ c.first_solution-first.ensures.cost;
    }
