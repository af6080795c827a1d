use Rattle.std.proofs.Common.{◌∙◌, ◌+◌, ◌++◌, List, ℕ, ap, append-nil, drop, sym}
use Rattle.std.proofs.lemmas.List.{at_drop_more, drop_all}
use Rattle.query_parse.specs.Reading.{undoubled_from}
use Rattle.query_parse.proofs.reader.undoubled_text.Goals as goal

pub loop-byte-preserved : goal.loop-byte-preserved
loop-byte-preserved c =
    let here = at_drop_more (λ (l : List ℕ). c.loop-byte.bytes.items ++ undoubled_from c.loop-byte.second l) c.args.body.now c.loop-byte.byte-index 0 c.loop-byte-test.true in
    c.in_ok-second.ensures (drop (c.loop-byte.byte-index + 1) c.args.body.now) ∙ sym here ∙ c.loop-byte.invariant

pub returns : goal.returns
unfolding undoubled_from
returns c =
    let items = c.loop-byte.bytes.items in
    sym (append-nil items)
    ∙ ap (λ (l : List ℕ). items ++ undoubled_from c.loop-byte.second l) (sym (drop_all c.loop-byte.byte-index c.args.body.now c.loop-byte-test.false))
    ∙ c.loop-byte.invariant
