use Rattle.std.proofs.Common.{◌<◌, OnOk, sym, subst}
use Rattle.suffix_streams.proofs.SearchRoom.{own_product, own_change, own_found, own_ranks, own_frontier}
use Rattle.suffix_streams.proofs.solutions.make_room.Goals as goal

pub returns : goal.returns
returns g c =
    record {
      frontier =
          own_frontier c.args.nodes.now.items c.args.node c.args.row c.args.child c.index_mut.result.now c.reserve_product.new.self c.requires.node c.index_mut.ensures.value c.reserve_product.ensures.changed
          c.reserve_product.ensures.frontier;
      ranks =
          own_ranks c.args.nodes.now.items c.args.node c.args.row c.args.child c.index_mut.result.now c.reserve_product.new.self c.requires.node c.index_mut.ensures.value c.reserve_product.ensures.changed
          c.reserve_product.ensures.ranks;
      frontier_room =
          subst (λ p. OnOk c.reserve_product.result (0 < c.args.child → 0 < p.frontier_room)) (sym (own_product c.args.nodes.now.items c.args.node c.args.row c.args.child c.index_mut.result.now c.reserve_product.new.self c.requires.node c.index_mut.ensures.value c.reserve_product.ensures.changed))
          c.reserve_product.ensures.frontier_room;
      found =
          own_found c.args.nodes.now.items c.args.node c.args.row c.args.child c.index_mut.result.now c.reserve_product.new.self c.requires.node c.index_mut.ensures.value c.reserve_product.ensures.changed
          c.reserve_product.ensures.found;
      changed = own_change c.args.nodes.now.items c.args.node c.args.row c.args.child c.index_mut.result.now c.reserve_product.new.self c.requires.node c.index_mut.ensures.value c.reserve_product.ensures.changed;
      room =
          subst (λ p. OnOk c.reserve_product.result (0 < p.room)) (sym (own_product c.args.nodes.now.items c.args.node c.args.row c.args.child c.index_mut.result.now c.reserve_product.new.self c.requires.node c.index_mut.ensures.value c.reserve_product.ensures.changed))
          c.reserve_product.ensures.room;
    }
