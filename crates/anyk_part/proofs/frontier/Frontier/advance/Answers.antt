use Rattle.std.proofs.Common.{refl, ◌≡◌, List, [], ◌∷◌, ◌++◌, length, None, ap, ◌∙◌, arith}
use Rattle.stream_store.specs.declared.linked.Linked.{Linked}
use Rattle.stream_store.specs.Entries.{Entries}
use Rattle.anyk_part.specs.declared.candidate.Link.{Link}
use Rattle.anyk_part.proofs.Steps.{at_after, chain_after, entries_after, held_after, top_after}
use Rattle.anyk_part.proofs.frontier.Frontier.advance.Goals as goal

pub choose-choice-requires : goal.choose-choice-requires
choose-choice-requires g c = record {
  places = c.requires.places;
  ready = c.requires.ready;
  room = c.requires.room;
}

pub returns : goal.returns
returns g c =
    let d = g.R.Rank.KEYS in let key = g.R.Rank.key in let t = c.args.tree.now in
    let w = c.args.walk in
    let links : List (Linked Link) = c.args.self.now.links.entries in
    let more : List (Linked Link) = c.push_reserved-last.new.self.entries in
    let before = c.args.self.now.queue.entries in let same = c.choose-choice.ensures.links in
    let choice = c.choose-choice.ensures.choice in let row = c.choose-choice.result.row in
    let rows = c.choose-choice.new.chosen in let entries = c.choose-choice.new.self.queue.entries in
    let last = c.push_reserved-last.result in
    let made : Linked Link = record { value = record { row = row; before = w.before }; next = None } in
    let grown : more ≡ links ++ (made ∷ []) = c.push_reserved-last.ensures.entries ∙ ap (λ (l : Entries Link). l.entries ++ (made ∷ [])) same in
    let named : last ≡ length links = c.push_reserved-last.ensures.id ∙ ap (λ (l : Entries Link). length l.entries) same in
    let room = ap (λ (l : Entries Link). l.spare) same in
    record {
      advanced = record {
        node = refl;
        place = refl;
        at = at_after d key t c.args.total.now w c.args.chosen.now links c.requires.ready.at c.requires.ready.node last row rows more c.choose-choice.result.top_stands choice.row choice.put grown named;
        chain_is = chain_after d key t c.args.total.now w c.args.chosen.now links c.requires.ready.at c.requires.ready.node last row more choice.row grown named;
        each = entries_after d key t w links (made ∷ []) more c.args.chosen.now before c.choose-choice.result rows entries choice grown;
        held = held_after d key t w links (made ∷ []) more c.args.chosen.now before c.choose-choice.result rows entries choice grown;
        stands = choice.stands;
        top = top_after d key t w links (made ∷ []) more c.args.chosen.now before c.choose-choice.result rows entries choice grown c.requires.ready.each;
        few = choice.few;
      };
      room = c.choose-choice.ensures.room;
      link_room = omega (arith, room, c.push_reserved-last.ensures.spare);
      cost = omega (arith, c.choose-choice.ensures.cost, c.push_reserved-last.ensures.cost);
    }
