use Rattle.std.proofs.Common.{◌≡◌, ◌∙◌, ap, ap₂, sym, None, Bor, ℕ, List, map, option_map, is_some, rules, true}
use Rattle.std.proofs.lemmas.Result.{IfOk-from_err}
use Rattle.std.proofs.lemmas.List.Folds.{list_all_at, list_all-map}
use Rattle.cmd_words.specs.Pairs.{are_pairs, pair_of, pairs_of}
use Rattle.cmd_words.specs.NamedPairs.{named_pair}
use Rattle.cmd_words.proofs.Pairing.{all_more, at_all, no_fault, no_usage, pairs_more}
use Rattle.cmd_words.proofs.pairs.read_pairs.Goals as goal

pub returns-in_default : goal.returns-in_default
returns-in_default c = record {
  pairs = tt;
  all = tt;
  usage =
      let none : c.read_pair.result ≡ None = search rules in
      let pair = ap is_some (sym c.read_pair.ensures ∙ ap (option_map (λ p. (p.0.now, p.1.now))) none) in
      λ _. list_all-map (λ word. is_some (pair_of word)) (λ word. word.now) c.args.words.now
      ∙ list_all_at (λ (word : Bor (List ℕ)). is_some (pair_of word.now)) c.args.words.now c.loop-word.word-index _ c.loop-word-test.true pair;
}

pub loop-word-preserved : goal.loop-word-preserved
loop-word-preserved c =
    let kept = c.loop-word.invariant in
    let read = ap (option_map (λ p. (p.0.now, p.1.now))) (sym c.in-Some.is) ∙ c.read_pair.ensures in
    record {
      pairs = ap (map named_pair) c.in_ok-push.ensures.items ∙ pairs_more c.args.words.now c.loop-word.word-index _ c.loop-word-test.true _ read _ _ kept.pairs (ap₂ (λ a b. (a, b)) c.in_ok-table.ensures.ok c.in_ok-file.ensures.ok);
      all = all_more c.args.words.now c.loop-word.word-index _ c.loop-word-test.true _ read kept.all;
    }

pub returns : goal.returns
returns c = record {
  pairs =
      at_all (λ words. map named_pair c.loop-word.named.items ≡ pairs_of (map (λ word. word.now) words)) c.args.words.now c.loop-word.word-index c.loop-word-test.false
      c.loop-word.invariant.pairs;
  all = at_all (λ words. are_pairs (map (λ word. word.now) words) ≡ true) c.args.words.now c.loop-word.word-index c.loop-word-test.false c.loop-word.invariant.all;
  usage = λ h. no_fault c.loop-word.named _ h;
}

pub returns-in_err-table : goal.returns-in_err-table
returns-in_err-table c = record {
  pairs = IfOk-from_err c.from_residual.result _ c.from_residual.ensures.0;
  all = IfOk-from_err c.from_residual.result _ c.from_residual.ensures.0;
  usage = λ h. no_usage c.from_residual.result c.from_residual.ensures.1 h;
}

pub returns-in_err-file : goal.returns-in_err-file
returns-in_err-file c = record {
  pairs = IfOk-from_err c.from_residual-in_err-file.result _ c.from_residual-in_err-file.ensures.0;
  all = IfOk-from_err c.from_residual-in_err-file.result _ c.from_residual-in_err-file.ensures.0;
  usage = λ h. no_usage c.from_residual-in_err-file.result c.from_residual-in_err-file.ensures.1 h;
}

pub returns-in_err-push : goal.returns-in_err-push
returns-in_err-push c = record {
  pairs = IfOk-from_err c.from_residual-in_err-push.result _ c.from_residual-in_err-push.ensures.0;
  all = IfOk-from_err c.from_residual-in_err-push.result _ c.from_residual-in_err-push.ensures.0;
  usage = λ h. no_usage c.from_residual-in_err-push.result c.from_residual-in_err-push.ensures.1 h;
}
