use Rattle.std.proofs.Common.{◌≡◌, ◌<◌, length, get_or, sym, ap, subst, arith}
use Rattle.tdp_core.specs.AnswerView.{rows_of_key}
use Rattle.suffix_streams.specs.TreeStreams.{node_of, group_of, place_of}
use Rattle.suffix_streams.specs.Rankings.{group_list}
use Rattle.tdp_model.specs.KeyTuple.{key_none}
use Rattle.suffix_streams.proofs.Rankings.{solution_fits}
use Rattle.suffix_streams.proofs.Rows.{none_addable, none_added}
use Rattle.suffix_streams.proofs.ViewPrefixes.{entry_inside}
use Rattle.suffix_streams.specs.StreamsView.{StreamsView, entry_key}
use Rattle.suffix_streams.proofs.Costs.{subtree_few}
use Rattle.suffix_streams.proofs.streams.Streams.rows_of.Goals as goal

pub add_entry_rows-requires-clause-fits : goal.add_entry_rows-requires-clause-fits
add_entry_rows-requires-clause-fits g c =
    let d = g.R.Rank.KEYS in
    let key = g.R.Rank.key in
    let t = c.self.inside.solutions.tree.now in
    let es = c.self.inside.solutions.entries.entries in
    let n = c.self.inside.solutions.nodes.items in
    let e = c.args.entry in
    let within : e < length es = subst (λ (s : StreamsView g.row.R.Denot). e < length s.entries) (sym c.self.view_is) c.requires in
    let fits = solution_fits d key t c.self.invariant.formed (node_of es e) (group_of es e) (place_of es e) (c.self.invariant.streams.owners e within).0 (entry_inside d key t es n c.self.invariant.streams e within) in
    none_addable d (get_or (group_list d key t (node_of es e) (group_of es e)) (place_of es e) (key_none d 16)) fits.1

pub returns : goal.returns
returns g c =
    let t = c.self.inside.solutions.tree.now in
    record {
      cost =
          let same : length t ≡ length c.args.self.now.tree = ap (λ (s : StreamsView g.row.R.Denot). length s.tree) c.self.view_is in
          omega (arith, c.add_entry_rows.ensures.cost, subtree_few g.R.Rank.KEYS g.R.Rank.key t c.self.invariant.formed (node_of c.self.inside.solutions.entries.entries c.args.entry), same);
      rows =
          let d = g.R.Rank.KEYS in
          let key = g.R.Rank.key in
          let t = c.self.inside.solutions.tree.now in
          let es = c.self.inside.solutions.entries.entries in
          let e = c.args.entry in
          subst (λ (s : StreamsView g.row.R.Denot). c.add_entry_rows.new.numbers ≡ rows_of_key d 16 (entry_key d key s e)) c.self.view_is
          (none_added d (get_or (group_list d key t (node_of es e) (group_of es e)) (place_of es e) (key_none d 16)) c.add_entry_rows.new.numbers c.add_entry_rows.array_long c.add_entry_rows.ensures.added);
    }
