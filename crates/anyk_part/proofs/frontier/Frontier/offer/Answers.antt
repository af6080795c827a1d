use Rattle.std.proofs.Common.{◌<◌, length, subst, sym, arith}
use Rattle.take2_heap.specs.declared.entry.Entry.{Entry}
use Rattle.tdp_core.specs.TreeView.{members, rows}
use Rattle.anyk_part.specs.declared.candidate.Candidate.{Candidate}
use Rattle.anyk_part.specs.Regions.{IsEntry}
use Rattle.anyk_part.proofs.Sites.{member_row, can_swap, node_small, place_small, site_begins, new_entry, held_put, entries_put, length_put}
use Rattle.anyk_part.proofs.frontier.Frontier.offer.Goals as goal

pub best-best-requires-clause-row : goal.best-best-requires-clause-row
best-best-requires-clause-row g c =
    let t = c.args.tree.now in let s = c.args.site.now in
    let near : c.args.place < length (members t s.node s.group) = c.requires.place in
    subst (λ z. z < rows t s.node) (sym c.member-row.ensures.member) (member_row g.R.Rank.KEYS g.R.Rank.key t c.args.self.now.links.entries s c.requires.site c.args.place near)

pub swap-rank-requires : goal.swap-rank-requires
swap-rank-requires g c =
    let t = c.args.tree.now in let s = c.args.site.now in
    let near : c.args.place < length (members t s.node s.group) = c.requires.place in
    let row : c.member-row.result < rows t s.node =
    subst (λ z. z < rows t s.node) (sym c.member-row.ensures.member) (member_row g.R.Rank.KEYS g.R.Rank.key t c.args.self.now.links.entries s c.requires.site c.args.place near) in
    can_swap g.R.Rank.KEYS g.R.Rank.key t c.args.self.now.links.entries s c.requires.site c.member-row.result (g.R.Rank.key c.best-best.result) row c.best-best.ensures.best

pub new-candidate-requires : goal.new-candidate-requires
new-candidate-requires g c = record {
  position = node_small g.R.Rank.KEYS g.R.Rank.key c.args.tree.now c.args.self.now.links.entries c.args.site.now c.requires.site;
  place = place_small g.R.Rank.KEYS g.R.Rank.key c.args.tree.now c.args.self.now.links.entries c.args.site.now c.requires.site c.args.place c.requires.place;
  before = site_begins g.R.Rank.KEYS g.R.Rank.key c.args.tree.now c.args.self.now.links.entries c.args.site.now c.requires.site;
}

pub returns : goal.returns
returns g c = record {
  entries = let t = c.args.tree.now in
      let s = c.args.site.now in let links = c.args.self.now.links.entries in
      let near : c.args.place < length (members t s.node s.group) = c.requires.place in
      let e : Entry g.row.R.Denot Candidate = record { rank = c.swap-rank.result; tag = c.new-candidate.result } in
      entries_put (IsEntry g.R.Rank.KEYS g.R.Rank.key t links) c.args.top_stands e c.args.self.now.queue.entries c.put.new.self.queue.entries (c.put.ensures.replaced e) c.put.ensures.pushed
      (new_entry g.R.Rank.KEYS g.R.Rank.key t links s c.requires.site c.swap-rank.result c.args.place c.member-row.result (g.R.Rank.key c.best-best.result) near c.member-row.ensures.member c.best-best.ensures.best c.swap-rank.ensures.swapped
      c.new-candidate.result c.new-candidate.ensures.parts)
      c.requires.entries;
  held = let t = c.args.tree.now in
      let s = c.args.site.now in let links = c.args.self.now.links.entries in
      let e : Entry g.row.R.Denot Candidate = record { rank = c.swap-rank.result; tag = c.new-candidate.result } in
      held_put g.R.Rank.KEYS g.R.Rank.key t links s c.requires.site c.args.top_stands e c.args.place c.new-candidate.ensures.parts c.args.self.now.queue.entries c.put.new.self.queue.entries c.requires.top (c.put.ensures.replaced e) c.put.ensures.pushed;
  links = c.put.ensures.links;
  room = c.put.ensures.room;
  length = let e : Entry g.row.R.Denot Candidate = record { rank = c.swap-rank.result; tag = c.new-candidate.result } in
      length_put c.args.top_stands e c.args.self.now.queue.entries c.put.new.self.queue.entries (c.put.ensures.replaced e) c.put.ensures.pushed;
  cost = omega (arith, c.member-row.ensures.counted, c.best-best.ensures.counted, c.swap-rank.ensures.counted, c.put.ensures.cost);
}

pub put-requires-clause-top : goal.put-requires-clause-top
put-requires-clause-top g c = c.requires.top

pub put-requires-clause-room : goal.put-requires-clause-room
put-requires-clause-room g c = c.requires.room

pub best-best-requires-clause-node : goal.best-best-requires-clause-node
best-best-requires-clause-node g c = c.requires.site.node
