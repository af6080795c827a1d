use Rattle.query_select.specs.Tokens.{kind_of_word}
use Rattle.query_select.proofs.scanner.word_kind.Goals as goal

pub returns : goal.returns
unfolding kind_of_word
returns c = c.kind_among.ensures
