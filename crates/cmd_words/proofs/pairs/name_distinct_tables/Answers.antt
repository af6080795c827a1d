use Rattle.std.proofs.Common.{◌≡◌, ◌∙◌, ◌-◌, sym, true, false, rules, string_bytes}
use Rattle.cmd_words.proofs.Distinct.{holds_more, distinct_more, repeats_before}
use Rattle.cmd_words.proofs.pairs.name_distinct_tables.Goals as goal

pub returns-then-not-branch : goal.returns-then-not-branch
returns-then-not-branch c =
    let kept = c.loop-at.invariant in
    let same : string_bytes c.index-named-at.result.table ≡ c.as_str.result.now = search rules in
    let added = distinct_more c.loop-at.names c.as_str.result c.args.named.now c.loop-at.at c.index-named-at.result c.loop-at-test.true kept.within c.index-named-at.is same kept.held kept.distinct in
    let none : c.in_ok-insert.field-0 ≡ false = search rules in
    sym (repeats_before (c.loop-at.at - 1) c.args.named.now (sym added ∙ sym c.in_ok-insert.ensures.added ∙ none))

pub loop-at-preserved : goal.loop-at-preserved
loop-at-preserved c =
    let kept = c.loop-at.invariant in
    let same : string_bytes c.index-named-at.result.table ≡ c.as_str.result.now = search rules in
    let added = distinct_more c.loop-at.names c.as_str.result c.args.named.now c.loop-at.at c.index-named-at.result c.loop-at-test.true kept.within c.index-named-at.is same kept.held kept.distinct in
    let one : c.in_ok-insert.field-0 ≡ true = search rules in
    record {
      within = search rules;
      distinct = sym added ∙ sym c.in_ok-insert.ensures.added ∙ one;
      held = holds_more c.loop-at.names c.as_str.result c.args.named.now c.loop-at.at c.index-named-at.result c.loop-at-test.true kept.within c.index-named-at.is same kept.held c.insert.new.self c.in_ok-insert.ensures.updates;
    }
