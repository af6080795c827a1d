use Rattle.std.proofs.Common.{refl}
use Rattle.query_parse.specs.Text.{first_term_text, term_text, terms_text}
use Rattle.query_parse.proofs.Listed.{one_more, rest_of, whole}
use Rattle.query_parse.proofs.writing.push_terms.Goals as goal

pub loop-term-preserved : goal.loop-term-preserved
loop-term-preserved c =
    one_more term_text c.push_first_term.new.text.items (rest_of c.args.terms.now) c.loop-term.term-index c.loop-term.text.items c.loop-term.invariant
    c.term-item.result c.push_term.new.text.items c.loop-term-test.true c.term-item.is c.in_ok-push_term.ensures

pub returns : goal.returns
unfolding terms_text
returns c =
    whole terms_text first_term_text term_text (λ y ys. refl) c.args.terms.now c.first-item.result
    c.args.text.now.items c.push_first_term.new.text.items c.loop-term.text.items c.loop-term.term-index c.in-len1-up.len_at_least c.first-item.is
    c.in_ok-push_first_term.ensures c.loop-term-test.false c.loop-term.invariant
