use Rattle.std.proofs.Common.{rules, ◌≡◌, ◌+◌, ◌≤◌, List, [], length, refl, sym, ap, ◌∙◌, subst, arith}
use Rattle.std.proofs.lemmas.Result.{IfOk-from_err}
use Rattle.stream_store.specs.declared.linked.Linked.{Linked}
use Rattle.take2_heap.specs.declared.entry.Entry.{Entry}
use Rattle.tdp_core.specs.AnswerView.{rows_of_key, counted}
use Rattle.anyk_part.specs.declared.candidate.Link.{Link}
use Rattle.anyk_part.specs.declared.candidate.Candidate.{Candidate}
use Rattle.tdp_core.specs.TreeView.{group_count, row_count}
use Rattle.tdp_core.specs.Shares.{most_steps, size_of}
use Rattle.anyk_part.specs.Regions.{PartView, rest_of, candidates_of}
use Rattle.anyk_part.proofs.NextAnswers.{part_empty, part_refused, rows_in, top_each, top_some, top_entry, top_next, top_key, answer_found, answers_end, steps_within}
use Rattle.anyk_part.proofs.Starts.{starts_at}
use Rattle.anyk_part.proofs.part.PartRanked.next.Goals as goal

pub invariant_of-self : goal.invariant_of-self
invariant_of-self g c =
    let empty : length c.self.inside.frontier.queue.entries ≤ 0 = search rules in
    (part_empty g.R.Rank.KEYS g.R.Rank.key c.self.inside.tree.now c.self.inside.frontier.links.entries c.self.inside.frontier.links.entries c.self.inside.frontier.queue.entries c.self.inside.frontier.queue.entries refl refl c.self.inside.calls c.saturating_add-self-inside.result c.self.invariant.0 empty, c.self.invariant.1)

pub returns-in_default : goal.returns-in_default
returns-in_default g c = record {
  found = tt;
  end = let t = c.self.inside.tree.now in
      let links : List (Linked Link) = c.self.inside.frontier.links.entries in
      let entries : List (Entry g.row.R.Denot Candidate) = c.self.inside.frontier.queue.entries in
      let empty : length entries ≤ 0 = search rules in
      let none : rest_of g.R.Rank.KEYS g.R.Rank.key t (candidates_of links (length t) entries) ≡ [] = answers_end g.R.Rank.KEYS g.R.Rank.key t links entries empty in
      (ap (λ (s : PartView g.row.R.Denot). rest_of g.R.Rank.KEYS g.R.Rank.key s.tree s.candidates) (sym c.self.view_is) ∙ none, none);
  refused = tt;
  counted = c.saturating_add-self-inside.ensures ∙ ap (λ (s : PartView g.row.R.Denot). counted s.calls) c.self.view_is;
  size = ap (λ (s : PartView g.row.R.Denot). size_of s.tree) c.self.view_is;
  cost = omega arith;
}

pub invariant_of-self-in_err-make_room : goal.invariant_of-self-in_err-make_room
invariant_of-self-in_err-make_room g c =
    (part_refused g.R.Rank.KEYS g.R.Rank.key c.self.inside.tree.now c.self.inside.frontier.links.entries c.make_room.new.self.links.entries c.self.inside.frontier.queue.entries c.make_room.new.self.queue.entries c.make_room.ensures.links c.make_room.ensures.entries c.self.inside.calls c.saturating_add-self-inside.result c.self.invariant.0 c.in-Some.ensures.limit c.saturating_add-self-inside.ensures, c.self.invariant.1)

pub returns-in_err-make_room-clause-counted : goal.returns-in_err-make_room-clause-counted
returns-in_err-make_room-clause-counted g c = c.saturating_add-self-inside.ensures ∙ ap (λ (s : PartView g.row.R.Denot). counted s.calls) c.self.view_is

pub returns-in_err-make_room-clause-size : goal.returns-in_err-make_room-clause-size
returns-in_err-make_room-clause-size g c = ap (λ (s : PartView g.row.R.Denot). size_of s.tree) c.self.view_is

pub prefix-chosen-requires : goal.prefix-chosen-requires
prefix-chosen-requires g c =
    let entry = top_entry g.R.Rank.KEYS g.R.Rank.key c.self.inside.tree.now c.self.inside.frontier.links.entries c.make_room.new.self.links.entries c.self.inside.frontier.queue.entries c.make_room.new.self.queue.entries c.self.inside.calls _ _
    c.make_room.ensures.links c.make_room.ensures.entries c.self.invariant.0 (c.in-Some.ensures.variant.0 refl) c.in-Some.ensures.top in
    record { count = omega (arith, entry.position, c.self.invariant.0.formed.shaped.few_nodes); chained = entry.chained }

pub divide-requires : goal.divide-requires
divide-requires g c =
    let entry = top_entry g.R.Rank.KEYS g.R.Rank.key c.self.inside.tree.now c.self.inside.frontier.links.entries c.make_room.new.self.links.entries c.self.inside.frontier.queue.entries c.make_room.new.self.queue.entries c.self.inside.calls _ _
    c.make_room.ensures.links c.make_room.ensures.entries c.self.invariant.0 (c.in-Some.ensures.variant.0 refl) c.in-Some.ensures.top in
    let long : length c.prefix-chosen.result ≡ 16 = search rules in
    let count = c.nodes.ensures.count in
    record {
      at = starts_at g.R.Rank.KEYS g.R.Rank.key c.self.inside.tree.now c.make_room.new.self.links.entries _ _ c.prefix-chosen.result c.self.invariant.0.formed (c.self.invariant.0.live (c.in-Some.ensures.variant.0 refl)) entry long c.prefix-chosen.ensures.rows;
      node = entry.position;
      entries =
          top_each g.R.Rank.KEYS g.R.Rank.key c.self.inside.tree.now c.self.inside.frontier.links.entries c.make_room.new.self.links.entries c.self.inside.frontier.queue.entries c.make_room.new.self.queue.entries c.self.inside.calls _ _
          c.make_room.ensures.links c.make_room.ensures.entries c.self.invariant.0 (c.in-Some.ensures.variant.0 refl) c.in-Some.ensures.top;
      some =
          top_some g.R.Rank.KEYS g.R.Rank.key c.self.inside.tree.now c.self.inside.frontier.links.entries c.make_room.new.self.links.entries c.self.inside.frontier.queue.entries c.make_room.new.self.queue.entries c.self.inside.calls _ _
          c.make_room.ensures.links c.make_room.ensures.entries c.self.invariant.0 (c.in-Some.ensures.variant.0 refl) c.in-Some.ensures.top;
      room = omega (arith, count, c.in_ok-make_room.ensures.room);
      link_room = omega (arith, count, c.in_ok-make_room.ensures.link_room);
      places = c.self.invariant.1;
      stands = c.in-Some.ensures.stands;
    }

pub row_numbers-rows-requires-clause-rows : goal.row_numbers-rows-requires-clause-rows
row_numbers-rows-requires-clause-rows g c = rows_in c.self.inside.tree.now c.divide.new.chosen c.divide.ensures.divided.reached

pub invariant_of-self-2 : goal.invariant_of-self-2
invariant_of-self-2 g c = (
  (top_next g.R.Rank.KEYS g.R.Rank.key c.self.inside.tree.now c.self.inside.frontier.links.entries c.make_room.new.self.links.entries c.self.inside.frontier.queue.entries c.make_room.new.self.queue.entries c.self.inside.calls _ _
      c.make_room.ensures.links c.make_room.ensures.entries c.self.invariant.0 (c.in-Some.ensures.variant.0 refl) c.in-Some.ensures.top
      c.divide.new.self.links.entries c.divide.new.self.queue.entries c.saturating_add-self-inside.result c.in-Some.ensures.least c.divide.ensures.divided.held c.divide.ensures.divided.each c.in-Some.ensures.limit c.divide.ensures.divided.few c.saturating_add-self-inside.ensures).1,
  c.self.invariant.1,
)

pub returns : goal.returns
returns g c = record {
  found = let t = c.self.inside.tree.now in
      let links : List (Linked Link) = c.self.inside.frontier.links.entries in
      let entries : List (Entry g.row.R.Denot Candidate) = c.self.inside.frontier.queue.entries in
      ap (λ (s : PartView g.row.R.Denot). rest_of g.R.Rank.KEYS g.R.Rank.key s.tree s.candidates) (sym c.self.view_is)
      ∙ answer_found g.R.Rank.KEYS g.R.Rank.key t links c.divide.new.self.links.entries entries c.divide.new.self.queue.entries _ c.row_numbers-rows.result
      (top_next g.R.Rank.KEYS g.R.Rank.key t links c.make_room.new.self.links.entries entries c.make_room.new.self.queue.entries c.self.inside.calls _ _
      c.make_room.ensures.links c.make_room.ensures.entries c.self.invariant.0 (c.in-Some.ensures.variant.0 refl) c.in-Some.ensures.top
      c.divide.new.self.links.entries c.divide.new.self.queue.entries c.saturating_add-self-inside.result c.in-Some.ensures.least c.divide.ensures.divided.held c.divide.ensures.divided.each c.in-Some.ensures.limit c.divide.ensures.divided.few c.saturating_add-self-inside.ensures).0
      (c.row_numbers-rows.ensures.numbers ∙ ap (λ k. rows_of_key g.R.Rank.KEYS 16 k)
      (top_key g.R.Rank.KEYS g.R.Rank.key t links c.make_room.new.self.links.entries entries c.make_room.new.self.queue.entries c.self.inside.calls _ _
      c.make_room.ensures.links c.make_room.ensures.entries c.self.invariant.0 (c.in-Some.ensures.variant.0 refl) c.in-Some.ensures.top c.divide.new.chosen c.divide.ensures.divided.best));
  end = tt;
  refused = tt;
  counted = c.saturating_add-self-inside.ensures ∙ ap (λ (s : PartView g.row.R.Denot). counted s.calls) c.self.view_is;
  size = ap (λ (s : PartView g.row.R.Denot). size_of s.tree) c.self.view_is;
  cost = let t = c.self.inside.tree.now in
      let entry = top_entry g.R.Rank.KEYS g.R.Rank.key t c.self.inside.frontier.links.entries c.make_room.new.self.links.entries c.self.inside.frontier.queue.entries c.make_room.new.self.queue.entries c.self.inside.calls _ _
      c.make_room.ensures.links c.make_room.ensures.entries c.self.invariant.0 (c.in-Some.ensures.variant.0 refl) c.in-Some.ensures.top in
      let few = c.self.invariant.0.few in
      let same : length c.make_room.new.self.queue.entries ≡ length c.self.inside.frontier.queue.entries = ap (λ (es : List (Entry g.row.R.Denot Candidate)). length es) c.make_room.ensures.entries in
      let all : c.row_numbers-rows.new.steps ≤ c.args.steps.now + most_steps (length t) (row_count t) (group_count t 0) c.self.inside.calls =
      steps_within (length t) (row_count t) (group_count t 0) c.self.inside.calls (length c.make_room.new.self.queue.entries) _ c.args.steps.now c.prefix-chosen.new.steps c.divide.new.steps c.row_numbers-rows.new.steps
      c.self.invariant.0.formed.shaped.some_node (c.self.invariant.0.live (c.in-Some.ensures.variant.0 refl)) (omega (arith, few, same)) (omega (arith, entry.position)) c.prefix-chosen.ensures.cost c.divide.ensures.cost c.row_numbers-rows.ensures.cost in
      subst (λ (s : PartView g.row.R.Denot). c.row_numbers-rows.new.steps ≤ c.args.steps.now + most_steps (length s.tree) (row_count s.tree) (group_count s.tree 0) s.calls) c.self.view_is all;
}

pub row_numbers-rows-requires-clause-tie_free : goal.row_numbers-rows-requires-clause-tie_free
row_numbers-rows-requires-clause-tie_free g c = c.self.invariant.0.tie_free

pub returns-in_err-make_room-clause-found : goal.returns-in_err-make_room-clause-found
returns-in_err-make_room-clause-found g c = IfOk-from_err c.from_residual.result _ c.from_residual.ensures.0

pub returns-in_err-make_room-clause-end : goal.returns-in_err-make_room-clause-end
returns-in_err-make_room-clause-end g c = IfOk-from_err c.from_residual.result _ c.from_residual.ensures.0
