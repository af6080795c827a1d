use Rattle.std.proofs.Common.{◌<◌, ℕ, option_map, length, slice_index, sym, subst}
use Rattle.tdp_model.specs.KeyTuple.{KeyOf}
use Rattle.tdp_core.specs.RawView.{raw_len}
use Rattle.proof_check.specs.Levels.{IsPast, IsWay, list_at}
use Rattle.proof_check.proofs.Preparing.{start_rows}
use Rattle.std.proofs.lemmas.Result.{IfOk-weaker}
use Rattle.proof_check.proofs.choices.node_leaves_after.Goals as goal

pub with_node-requires-clause-prefixes : goal.with_node-requires-clause-prefixes
with_node-requires-clause-prefixes g c = c.requires.prefixes

pub leaves_after-good-requires-clause-ready : goal.leaves_after-good-requires-clause-ready
leaves_after-good-requires-clause-ready g c = c.requires.ready

pub leaves_after-good-requires-clause-rows : goal.leaves_after-good-requires-clause-rows
leaves_after-good-requires-clause-rows g c n q l h =
    let before = c.args.prefixes.now in let value = c.deref.ensures.value in
    subst (λ xs. slice_index (list_at xs n) q < raw_len c.args.tree.now.raw q) (sym value)
    (start_rows (raw_len c.args.tree.now.raw) c.args.join.now.count c.args.node c.args.places.now before.numbers.items
    before.starts.items c.requires.ready.node c.requires.within c.requires.prefixes n q (subst (λ xs. n < length xs) value l) h)

pub returns-in-Ok : goal.returns-in-Ok
returns-in-Ok g c = record {
  prefixes = IfOk-weaker c.leaves_after-good.result _ _ (λ good _. c.in-Ok.ensures.next) c.leaves_after-good.ensures.passed;
  passed =
      let d = g.R.Rank.KEYS in let key = g.R.Rank.key in let pairs = c.with_node.new.taken in
      IfOk-weaker c.leaves_after-good.result _ _
      (λ good after is. record {
        numbers = c.args.prefixes.now.numbers.items;
        starts = c.args.prefixes.now.starts.items;
        pairs = pairs;
        beginnings = record { prefixes = c.requires.prefixes; taken = c.in-Ok.ensures.taken };
        passed = subst (λ xs. (n i : ℕ) (k : KeyOf d 16) → IsWay c.args.join.now c.args.tree.now d key c.args.node xs pairs n i k
            → IsPast d (option_map key c.args.last.now) k) c.deref.ensures.value (after is);
      }) c.leaves_after-good.ensures.passed;
  missed =
      let pairs = c.with_node.new.taken in
      IfOk-weaker c.leaves_after-good.result _ _
      (λ good before is.
      let m = before is in
      record {
        at = c.args.node;
        node = c.requires.ready.node;
        numbers = c.args.prefixes.now.numbers.items;
        starts = c.args.prefixes.now.starts.items;
        pairs = pairs;
        beginnings = record { prefixes = c.requires.prefixes; taken = c.in-Ok.ensures.taken };
        number = m.0;
        row = m.1.0;
        rank = m.1.1.0;
        way = subst (λ xs. IsWay c.args.join.now c.args.tree.now g.R.Rank.KEYS g.R.Rank.key c.args.node xs pairs m.0 m.1.0
            m.1.1.0) c.deref.ensures.value m.1.1.1;
        early = m.1.1.2;
      }) c.leaves_after-good.ensures.missed;
}

pub returns-in-Err : goal.returns-in-Err
returns-in-Err g c = record { prefixes = tt; passed = tt; missed = tt }
