use Rattle.std.proofs.Common.{◌<◌, length, sym, subst}
use Rattle.suffix_streams.proofs.Errors.{ok_then, err_then}
use Rattle.suffix_streams.proofs.NodeFacts.{products_set, products_kept}
use Rattle.suffix_streams.proofs.node.NodeStreams.set_products.Goals as goal

pub returns : goal.returns
returns g c =
    record {
      set = ok_then c.open.result (λ e. products_set c.self.inside.children.items _ _ c.open.new.self c.args.self.now c.self.view_is c.args.row c.args.products.items e) c.open.ensures.opened;
      refused = err_then c.open.result (λ e. products_kept c.self.inside.children.items _ _ c.open.new.self c.args.self.now c.self.view_is e) c.open.ensures.refused;
    }

pub open-requires : goal.open-requires
open-requires g c = record { row = subst (λ n. c.args.row < length n.products) (sym c.self.view_is) c.requires.row }
