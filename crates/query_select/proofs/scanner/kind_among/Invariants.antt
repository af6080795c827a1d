use Rattle.std.proofs.Common.{◌≡◌, drop}
use Rattle.query_select.specs.Keywords.{kind_among}
use Rattle.query_select.proofs.scanner.kind_among.Given as goal

abbrev pub invariant-loop-keyword : goal.invariant-loop-keyword
invariant-loop-keyword l = kind_among (drop l.keyword-index l.keywords) l.word ≡ kind_among l.keywords l.word
