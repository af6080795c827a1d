use Rattle.std.proofs.Common.{◌≡◌, ℕ, ◌+◌, ◌*◌, ◌≤◌, List, length, take, refl, sym, ◌∙◌, subst, arith}
use Rattle.std.specs.List.{All}
use Rattle.std.proofs.lemmas.Bool.{false≢true}
use Rattle.rank_key.proofs.BitLemmas.{bit_length_rises}
use Rattle.stream_store.specs.declared.linked.Linked.{Linked}
use Rattle.stream_store.specs.Entries.{Entries}
use Rattle.tdp_model.specs.Regions.{in_region}
use Rattle.tdp_core.specs.TreeView.{members}
use Rattle.anyk_part.specs.declared.candidate.Link.{Link}
use Rattle.anyk_part.specs.declared.candidate.Deviation.{Deviation}
use Rattle.anyk_part.specs.Chains.{chain}
use Rattle.anyk_part.specs.Regions.{followers, region_at, held_by, IsEntry}
use Rattle.anyk_part.specs.Walks.{IsSite}
use Rattle.anyk_part.proofs.Steps.{rows_before, group_in, place_in, node_small, none_at, row_fits, place_small, site_of, row_is, put_none, put_once, put_twice}
use Rattle.anyk_part.proofs.frontier.Frontier.choose.Goals as goal

pub group_at-group-requires : goal.group_at-group-requires
group_at-group-requires g c = record {
  rows = rows_before g.R.Rank.KEYS g.R.Rank.key c.args.tree.now c.args.total.now c.args.walk.now c.args.chosen.now c.args.self.now.links.entries c.requires.ready.at c.requires.ready.node;
  places = c.requires.places;
  node = c.requires.ready.node;
  formed = c.requires.ready.at.formed;
}

pub group_len-size-requires-clause-group : goal.group_len-size-requires-clause-group
group_len-size-requires-clause-group g c = group_in g.R.Rank.KEYS g.R.Rank.key c.args.tree.now c.args.total.now c.args.walk.now c.args.chosen.now c.args.self.now.links.entries c.requires.ready.at c.requires.ready.node c.group_at-group.result c.group_at-group.ensures.group

pub member-row-requires : goal.member-row-requires
member-row-requires g c = record {
  group = group_in g.R.Rank.KEYS g.R.Rank.key c.args.tree.now c.args.total.now c.args.walk.now c.args.chosen.now c.args.self.now.links.entries c.requires.ready.at c.requires.ready.node c.group_at-group.result c.group_at-group.ensures.group;
  place = place_in g.R.Rank.KEYS g.R.Rank.key c.args.tree.now c.args.total.now c.args.walk.now c.args.chosen.now c.args.self.now.links.entries c.requires.ready.at c.requires.ready.node c.group_at-group.result c.group_at-group.ensures.group;
  node = c.requires.ready.node;
}

pub bounds-chosen-walk : goal.bounds-chosen-walk
bounds-chosen-walk g c = omega (arith, node_small g.R.Rank.KEYS g.R.Rank.key c.args.tree.now c.args.total.now c.args.walk.now c.args.chosen.now c.args.self.now.links.entries c.requires.ready.at c.requires.ready.node, c.requires.ready.at.long)

pub overflow_mul-place : goal.overflow_mul-place
overflow_mul-place g c =
    omega (arith, place_small g.R.Rank.KEYS g.R.Rank.key c.args.tree.now c.args.total.now c.args.walk.now c.args.chosen.now c.args.self.now.links.entries c.requires.ready.at c.requires.ready.node c.group_at-group.result c.group_at-group.ensures.group)

pub overflow_add-place : goal.overflow_add-place
overflow_add-place g c =
    omega (arith, place_small g.R.Rank.KEYS g.R.Rank.key c.args.tree.now c.args.total.now c.args.walk.now c.args.chosen.now c.args.self.now.links.entries c.requires.ready.at c.requires.ready.node c.group_at-group.result c.group_at-group.ensures.group)

pub returns-then-place-size : goal.returns-then-place-size
returns-then-place-size g c = record {
  choice = let t = c.args.tree.now in
      let w = c.args.walk.now in
      let links : List (Linked Link) = c.args.self.now.links.entries in
      let here : ℕ → List ℕ → ℕ = λ place u. in_region (followers t) (region_at t (chain links w.node w.before) place) u in
      let none : (place : ℕ) → length (members t w.node c.group_at-group.result) ≤ place → (u : List ℕ) → here place u ≡ 0 =
      λ place far u. none_at g.R.Rank.KEYS g.R.Rank.key t c.args.total.now w c.args.chosen.now links c.requires.ready.at c.requires.ready.node c.group_at-group.result place c.group_at-group.ensures.group far u in
      record {
        row = row_is g.R.Rank.KEYS g.R.Rank.key t c.args.total.now w c.args.chosen.now links c.requires.ready.at c.requires.ready.node c.group_at-group.result c.member-row.result c.group_at-group.ensures.group c.member-row.ensures.member;
        put = refl;
        each = c.requires.ready.each;
        held = λ u.
            put_none w.top_stands (here (2 * w.place + 1) u) (here (2 * w.place + 2) u) (held_by t links c.args.self.now.queue.entries u) (held_by t links (take 1 c.args.self.now.queue.entries) u)
            (none (2 * w.place + 1) (omega (arith, c.group_len-size.ensures, c.if-place-size.true)) u) (none (2 * w.place + 2) (omega (arith, c.group_len-size.ensures, c.if-place-size.true)) u);
        stands = λ e. (e, refl);
        few = omega arith;
      };
  links = refl;
  room = omega arith;
  cost = omega (arith, c.group_at-group.ensures.cost, c.member-row.ensures.counted);
}

pub best-best-requires-clause-row : goal.best-best-requires-clause-row
best-best-requires-clause-row g c = row_fits g.R.Rank.KEYS g.R.Rank.key c.args.tree.now c.args.total.now c.args.walk.now c.args.chosen.now c.args.self.now.links.entries c.requires.ready.at c.requires.ready.node c.group_at-group.result c.member-row.result c.group_at-group.ensures.group c.member-row.ensures.member

pub offer-requires : goal.offer-requires
offer-requires g c = record {
  site = site_of g.R.Rank.KEYS g.R.Rank.key c.args.tree.now c.args.total.now c.args.walk.now c.args.chosen.now c.args.self.now.links.entries c.requires.ready.at c.requires.ready.node c.group_at-group.result c.member-row.result c.best-best.result c.group_at-group.ensures.group c.member-row.ensures.member c.best-best.ensures.best;
  place = omega (arith, c.group_len-size.ensures, c.if-place-size.false);
  room = omega (arith, c.requires.room);
  top = c.requires.ready.top;
  entries = c.requires.ready.each;
}

pub offer-requires-then-place-size-2 : goal.offer-requires-then-place-size-2
offer-requires-then-place-size-2 g c = record {
  site =
      let s : Deviation g.row.R.Denot = record { total = c.args.total.now; best = c.best-best.result; node = c.args.walk.now.node; group = c.group_at-group.result; row = c.member-row.result; before = c.args.walk.now.before } in
      subst (λ (l : Entries Link). IsSite g.R.Rank.KEYS g.R.Rank.key c.args.tree.now l.entries s) (sym c.offer.ensures.links)
      (site_of g.R.Rank.KEYS g.R.Rank.key c.args.tree.now c.args.total.now c.args.walk.now c.args.chosen.now c.args.self.now.links.entries c.requires.ready.at c.requires.ready.node c.group_at-group.result c.member-row.result c.best-best.result c.group_at-group.ensures.group c.member-row.ensures.member c.best-best.ensures.best);
  place = omega (arith, c.group_len-size.ensures, c.if-place-size-2.true);
  entries = subst (λ (l : Entries Link). All (IsEntry g.R.Rank.KEYS g.R.Rank.key c.args.tree.now l.entries) c.offer.new.self.queue.entries) (sym c.offer.ensures.links) c.offer.ensures.entries;
  top = λ e. absurd (false≢true e);
  room = omega (arith, c.requires.room, c.offer.ensures.room);
}

pub returns-then-place-size-2 : goal.returns-then-place-size-2
returns-then-place-size-2 g c = record {
  choice = let t = c.args.tree.now in
      let w = c.args.walk.now in
      let links : List (Linked Link) = c.args.self.now.links.entries in
      let here : ℕ → List ℕ → ℕ = λ place u. in_region (followers t) (region_at t (chain links w.node w.before) place) u in
      let next : 2 * w.place + 1 + 1 ≡ 2 * w.place + 2 = omega arith in
      record {
        row = row_is g.R.Rank.KEYS g.R.Rank.key t c.args.total.now w c.args.chosen.now links c.requires.ready.at c.requires.ready.node c.group_at-group.result c.member-row.result c.group_at-group.ensures.group c.member-row.ensures.member;
        put = refl;
        each = subst (λ (l : Entries Link). All (IsEntry g.R.Rank.KEYS g.R.Rank.key t l.entries) c.offer-then-place-size-2.new.self.queue.entries) c.offer.ensures.links c.offer-then-place-size-2.ensures.entries;
        held = λ u.
            put_twice w.top_stands (here (2 * w.place + 1) u) (here (2 * w.place + 2) u) (held_by t links c.args.self.now.queue.entries u) (held_by t links (take 1 c.args.self.now.queue.entries) u)
            (held_by t links c.offer.new.self.queue.entries u) (held_by t links c.offer-then-place-size-2.new.self.queue.entries u)
            (c.offer.ensures.held u)
            (subst (λ n. here n u + held_by t links c.offer.new.self.queue.entries u ≡ 0 + held_by t links c.offer-then-place-size-2.new.self.queue.entries u) next
            (subst (λ (l : Entries Link). in_region (followers t) (region_at t (chain l.entries w.node w.before) (2 * w.place + 1 + 1)) u + held_by t l.entries c.offer.new.self.queue.entries u ≡ 0 + held_by t l.entries c.offer-then-place-size-2.new.self.queue.entries u) c.offer.ensures.links (c.offer-then-place-size-2.ensures.held u)));
        stands = λ e. absurd (false≢true e);
        few = omega (arith, c.offer.ensures.length, c.offer-then-place-size-2.ensures.length);
      };
  links = c.offer-then-place-size-2.ensures.links ∙ c.offer.ensures.links;
  room = omega (arith, c.offer-then-place-size-2.ensures.room, c.offer.ensures.room);
  cost = let n = length c.args.self.now.queue.entries in
      let more = c.offer.ensures.length in
      let a = bit_length_rises (n + 1) (n + 2) (omega arith) in
      let b = bit_length_rises ((length c.offer.new.self.queue.entries) + 1) (n + 2) (omega (arith, more)) in
      omega (arith, a, b, c.group_at-group.ensures.cost, c.member-row.ensures.counted, c.best-best.ensures.counted, c.offer.ensures.cost, c.offer-then-place-size-2.ensures.cost);
}

pub returns-else-place-size-2 : goal.returns-else-place-size-2
returns-else-place-size-2 g c = record {
  choice = let t = c.args.tree.now in
      let w = c.args.walk.now in
      let links : List (Linked Link) = c.args.self.now.links.entries in
      let here : ℕ → List ℕ → ℕ = λ place u. in_region (followers t) (region_at t (chain links w.node w.before) place) u in
      let far : length (members t w.node c.group_at-group.result) ≤ 2 * w.place + 2 = omega (arith, c.group_len-size.ensures, c.if-place-size-2.false) in
      record {
        row = row_is g.R.Rank.KEYS g.R.Rank.key t c.args.total.now w c.args.chosen.now links c.requires.ready.at c.requires.ready.node c.group_at-group.result c.member-row.result c.group_at-group.ensures.group c.member-row.ensures.member;
        put = refl;
        each = c.offer.ensures.entries;
        held = λ u.
            put_once w.top_stands (here (2 * w.place + 1) u) (here (2 * w.place + 2) u) (held_by t links c.args.self.now.queue.entries u) (held_by t links (take 1 c.args.self.now.queue.entries) u)
            (held_by t links c.offer.new.self.queue.entries u) (c.offer.ensures.held u)
            (none_at g.R.Rank.KEYS g.R.Rank.key t c.args.total.now w c.args.chosen.now links c.requires.ready.at c.requires.ready.node c.group_at-group.result (2 * w.place + 2) c.group_at-group.ensures.group far u);
        stands = λ e. absurd (false≢true e);
        few = omega (arith, c.offer.ensures.length);
      };
  links = c.offer.ensures.links;
  room = omega (arith, c.offer.ensures.room);
  cost = let n = length c.args.self.now.queue.entries in
      let a = bit_length_rises (n + 1) (n + 2) (omega arith) in
      omega (arith, a, c.group_at-group.ensures.cost, c.member-row.ensures.counted, c.best-best.ensures.counted, c.offer.ensures.cost);
}

pub group_len-size-requires-clause-node : goal.group_len-size-requires-clause-node
group_len-size-requires-clause-node g c = c.requires.ready.node

pub best-best-requires-clause-node : goal.best-best-requires-clause-node
best-best-requires-clause-node g c = c.requires.ready.node
