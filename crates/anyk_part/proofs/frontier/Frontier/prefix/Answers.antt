use Rattle.std.proofs.Common.{◌≡◌, ◌-◌, ◌<◌, ◌≤◌, length, ◌++◌, drop, take, arith, refl, subst, ◌∙◌}
use Rattle.std.proofs.Math.ListN.{length-set, set}
use Rattle.anyk_part.specs.declared.candidate.Link.{Link}
use Rattle.anyk_part.specs.Chains.{chain, IsChain, link_at}
use Rattle.anyk_part.proofs.ChainLemmas.{chain_ends, chain_rest, prefix_end, prefix_start, prefix_turn}
use Rattle.anyk_part.proofs.frontier.Frontier.prefix.Given.{Over}
use Rattle.anyk_part.proofs.frontier.Frontier.prefix.Goals.{In-Some}
use Rattle.anyk_part.proofs.frontier.Frontier.prefix.Goals as goal

-- the link that is read next is in the store, and the rest of the chain is before it
rest : (g : Over) (c : In-Some g) → (0 < c.loop-before.node) × (c.in-Some.id < length c.args.self.now.links.entries) × IsChain c.args.self.now.links.entries (c.loop-before.node - 1) (link_at c.args.self.now.links.entries c.in-Some.id).before
rest g c = chain_rest c.args.self.now.links.entries c.loop-before.node c.in-Some.id (subst (λ o. IsChain c.args.self.now.links.entries c.loop-before.node o) c.in-Some.is c.loop-before.invariant.chained)

pub loop-before-init : goal.loop-before-init
loop-before-init g c =
    record {
      within = omega arith;
      long = refl;
      chained = c.requires.chained;
      rows = prefix_start (chain c.args.self.now.links.entries c.args.count c.args.last) _ c.args.count;
      cost = omega arith;
    }

pub overflow_sub-node : goal.overflow_sub-node
overflow_sub-node g c = omega (arith, (rest g (goal.at.overflow_sub-node g c).In-Some).0)

pub get-link-requires : goal.get-link-requires
get-link-requires g c = (rest g (goal.at.get-link-requires g c).In-Some).1

pub offset_bounds-chosen-node : goal.offset_bounds-chosen-node
offset_bounds-chosen-node g c = omega (arith, c.loop-before.invariant.within, c.requires.count)

pub bounds-chosen-node : goal.bounds-chosen-node
bounds-chosen-node g c = omega (arith, c.loop-before.invariant.within, c.requires.count, (rest g (goal.at.bounds-chosen-node g c).In-Some).0)

pub loop-before-smaller : goal.loop-before-smaller
loop-before-smaller g c = omega (arith, (rest g (goal.at.loop-before-smaller g c).In-Some).0)

pub loop-before-preserved : goal.loop-before-preserved
loop-before-preserved g c =
    let links = c.args.self.now.links.entries in let l = c.loop-before.invariant in
    let next = rest g (goal.at.loop-before-preserved g c).In-Some in
    let here : link_at links c.in-Some.id ≡ c.get-link.result.now = c.get-link.ensures.value _ in
    let below : c.args.count ≤ length c.loop-before.chosen = omega (arith, l.long, c.requires.count) in
    let rows = subst (λ o. chain links c.args.count c.args.last ≡ chain links c.loop-before.node o ++ drop c.loop-before.node (take c.args.count c.loop-before.chosen)) c.in-Some.is l.rows in
    record {
      within = omega (arith, l.within);
      long = length-set c.loop-before.chosen (c.loop-before.node - 1) c.get-link.result.now.row ∙ l.long;
      chained = subst (λ (k : Link). IsChain links (c.loop-before.node - 1) k.before) here next.2;
      rows = subst (λ (k : Link). chain links c.args.count c.args.last ≡ chain links (c.loop-before.node - 1) k.before ++ drop (c.loop-before.node - 1) (take c.args.count (set c.loop-before.chosen (c.loop-before.node - 1) k.row))) here
          (prefix_turn links c.loop-before.chosen (chain links c.args.count c.args.last) c.loop-before.node c.args.count c.in-Some.id next.0 l.within below rows);
      cost = omega (arith, l.cost, c.get-link.ensures.cost, next.0);
    }

pub returns-clause-rows : goal.returns-clause-rows
returns-clause-rows g c =
    let links = c.args.self.now.links.entries in let l = c.loop-before.invariant in
    prefix_end links (chain links c.args.count c.args.last) (take c.args.count c.loop-before.chosen) c.loop-before.node
    (chain_ends links c.loop-before.node (subst (λ o. IsChain links c.loop-before.node o) c.in_default.is l.chained))
    (subst (λ o. chain links c.args.count c.args.last ≡ chain links c.loop-before.node o ++ drop c.loop-before.node (take c.args.count c.loop-before.chosen)) c.in_default.is l.rows)

pub returns-clause-cost : goal.returns-clause-cost
returns-clause-cost g c = omega (arith, c.loop-before.invariant.cost)
