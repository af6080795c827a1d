use Rattle.std.proofs.Common.{◌<◌, List, length, sym, ap, subst, arith}
use Rattle.stream_store.specs.Entries.{Entries}
use Rattle.take2_heap.specs.declared.entry.Entry.{Entry}
use Rattle.anyk_part.specs.declared.candidate.Candidate.{Candidate}
use Rattle.anyk_part.specs.declared.candidate.Link.{Link}
use Rattle.anyk_part.specs.Walks.{IsDivided}
use Rattle.anyk_part.proofs.Divisions.{all_steps, at_last, choice_few, choice_stays, choice_taken, division_init, division_next, link_room_left, node_steps, room_left, still_below}
use Rattle.anyk_part.proofs.frontier.Frontier.divide.Given.{Over}
use Rattle.anyk_part.proofs.frontier.Frontier.divide.Goals.{After-pop, Else-choice}
use Rattle.anyk_part.proofs.frontier.Frontier.divide.Goals as goal

pub loop-walk-init : goal.loop-walk-init
loop-walk-init g c =
    let some = c.nodes-last.ensures.formed.shaped.some_node in
    let count = c.nodes-last.ensures.count in
    record {
      at = c.requires.at;
      division = division_init g.R.Rank.KEYS g.R.Rank.key c.args.tree.now c.args.start c.args.self.now.links.entries c.args.self.now.queue.entries c.requires.node c.requires.stands c.requires.entries;
      below = c.requires.node;
      count = omega (arith, count, some);
      room = omega (arith, count, some, c.requires.room);
      link_room = omega (arith, count, c.requires.link_room);
      cost = omega arith;
    }

pub loop-walk-preserved : goal.loop-walk-preserved
loop-walk-preserved g c =
    let l = c.loop-walk.invariant in let more = c.advance-walk.ensures in
    let e = more.advanced in
    let below = l.below in let node = c.loop-walk.walk.node in
    let next = c.advance-walk.result.node in
    record {
      at = e.at;
      division = division_next g.R.Rank.KEYS g.R.Rank.key c.args.tree.now c.args.total.now c.args.start c.args.self.now.links.entries c.args.self.now.queue.entries c.loop-walk.walk c.advance-walk.result
          c.loop-walk.self.links.entries c.advance-walk.new.self.links.entries c.loop-walk.chosen c.loop-walk.self.queue.entries c.advance-walk.new.self.queue.entries l.at below l.division e.node e.place e.chain_is e.each e.held e.stands e.top e.few;
      below = still_below _ _ _ _ c.loop-walk-test.true e.node l.count;
      count = l.count;
      room = room_left _ _ _ _ _ c.loop-walk-test.true e.node l.room more.room;
      link_room = link_room_left _ _ _ _ _ c.loop-walk-test.true e.node l.link_room more.link_room;
      cost = node_steps c.args.start.node node next (length c.loop-walk.self.queue.entries) (length c.args.self.now.queue.entries) (length c.args.tree.now) c.args.steps.now c.loop-walk.steps c.advance-walk.new.steps
          l.division.from e.node l.division.few below l.cost more.cost;
    }

module _ (g : Over) where
  -- the division where the region is taken from the queue's top,
  taken : (c : After-pop g) → IsDivided g.R.Rank.KEYS g.R.Rank.key c.args.tree.now c.args.start c.args.self.now.links.entries c.args.self.now.queue.entries c.choose-choice.new.chosen c.choose-choice.new.self.links.entries c.pop.new.self.entries
  taken c =
      let l = c.loop-walk.invariant in
      choice_taken g.R.Rank.KEYS g.R.Rank.key c.args.tree.now c.args.total.now c.args.start c.args.self.now.links.entries c.args.self.now.queue.entries c.loop-walk.walk c.loop-walk.self.links.entries c.loop-walk.chosen c.loop-walk.self.queue.entries
      l.at l.division l.below (at_last _ _ _ c.loop-walk-test.false l.count) c.choose-choice.result c.choose-choice.new.chosen c.choose-choice.new.self.queue.entries c.choose-choice.ensures.choice c.if-choice.true c.requires.some
      c.choose-choice.new.self.links.entries (ap (λ (k : Entries Link). k.entries) c.choose-choice.ensures.links) c.pop.result c.pop.new.self.entries c.pop.ensures.variant c.pop.ensures.top c.pop.ensures.permutation

  -- and where it is no longer there
  stays : (c : Else-choice g) → IsDivided g.R.Rank.KEYS g.R.Rank.key c.args.tree.now c.args.start c.args.self.now.links.entries c.args.self.now.queue.entries c.choose-choice.new.chosen c.choose-choice.new.self.links.entries c.choose-choice.new.self.queue.entries
  stays c =
      let l = c.loop-walk.invariant in
      choice_stays g.R.Rank.KEYS g.R.Rank.key c.args.tree.now c.args.total.now c.args.start c.args.self.now.links.entries c.args.self.now.queue.entries c.loop-walk.walk c.loop-walk.self.links.entries c.loop-walk.chosen c.loop-walk.self.queue.entries
      l.at l.division l.below (at_last _ _ _ c.loop-walk-test.false l.count) c.choose-choice.result c.choose-choice.new.chosen c.choose-choice.new.self.queue.entries c.choose-choice.ensures.choice c.if-choice.false
      c.choose-choice.new.self.links.entries (ap (λ (k : Entries Link). k.entries) c.choose-choice.ensures.links)

pub returns-then-choice : goal.returns-then-choice
returns-then-choice g c =
    let l = c.loop-walk.invariant in
    let few = choice_few g.R.Rank.KEYS g.R.Rank.key c.args.tree.now c.args.total.now c.args.start c.args.self.now.links.entries c.args.self.now.queue.entries c.loop-walk.walk c.loop-walk.self.links.entries c.loop-walk.chosen c.loop-walk.self.queue.entries
    l.at l.division l.below (at_last _ _ _ c.loop-walk-test.false l.count) c.choose-choice.result c.choose-choice.new.chosen c.choose-choice.new.self.queue.entries c.choose-choice.ensures.choice in
    record {
      divided = taken g c;
      cost = all_steps c.args.start.node c.loop-walk.walk.node (length c.loop-walk.self.queue.entries) (length c.args.self.now.queue.entries) (length c.args.tree.now) c.args.steps.now c.loop-walk.steps c.choose-choice.new.steps
          l.division.from l.division.few l.below l.cost c.choose-choice.ensures.cost (length c.choose-choice.new.self.queue.entries) c.pop.new.steps few c.pop.ensures.cost;
    }

pub returns-else-choice : goal.returns-else-choice
returns-else-choice g c =
    let l = c.loop-walk.invariant in
    record {
      divided = stays g c;
      cost = all_steps c.args.start.node c.loop-walk.walk.node (length c.loop-walk.self.queue.entries) (length c.args.self.now.queue.entries) (length c.args.tree.now) c.args.steps.now c.loop-walk.steps c.choose-choice.new.steps
          l.division.from l.division.few l.below l.cost c.choose-choice.ensures.cost 0 c.choose-choice.new.steps (omega arith) (omega arith);
    }

pub advance-walk-requires : goal.advance-walk-requires
advance-walk-requires g c = record {
  places = c.requires.places;
  ready =
      let l = c.loop-walk.invariant in
      record { at = l.at; node = l.below; each = l.division.each; top = λ e. subst (λ (es : List (Entry g.row.R.Denot Candidate)). 0 < length es) (sym (c.loop-walk.invariant.division.stands e).0) c.requires.some };
  room = omega (arith, c.loop-walk.invariant.room, c.loop-walk-test.true);
  link_room = omega (arith, c.loop-walk.invariant.link_room, c.loop-walk-test.true);
}

pub choose-choice-requires : goal.choose-choice-requires
choose-choice-requires g c = record {
  places = c.requires.places;
  ready =
      let l = c.loop-walk.invariant in
      record { at = l.at; node = l.below; each = l.division.each; top = λ e. subst (λ (es : List (Entry g.row.R.Denot Candidate)). 0 < length es) (sym (c.loop-walk.invariant.division.stands e).0) c.requires.some };
  room = omega (arith, c.loop-walk.invariant.room, c.loop-walk.invariant.below, c.loop-walk.invariant.count);
}
