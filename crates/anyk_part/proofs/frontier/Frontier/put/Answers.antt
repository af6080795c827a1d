use Rattle.std.proofs.Common.{◌+◌, List, ◌∷◌, length, subst, ◌∙◌, arith}
use Rattle.std.specs.List.Sorted.{IsPermutation}
use Rattle.std.proofs.lemmas.List.{get_or_default}
use Rattle.take2_heap.specs.declared.entry.Entry.{Entry}
use Rattle.anyk_part.specs.declared.candidate.Candidate.{Candidate}
use Rattle.rank_key.proofs.BitLemmas.{bit_length_rises}
use Rattle.anyk_part.proofs.frontier.Frontier.put.Goals as goal

pub returns-then-top_stands-clause-replaced : goal.returns-then-top_stands-clause-replaced
returns-then-top_stands-clause-replaced g c =
    let old : List (Entry g.row.R.Denot Candidate) = c.args.self.now.queue.entries in
    let e : Entry g.row.R.Denot Candidate = record { rank = c.args.rank; tag = c.args.candidate } in
    λ d _. subst (λ x. IsPermutation (e ∷ old) (x ∷ c.replace_top.new.self.entries)) (c.replace_top.ensures.top ∙ get_or_default old 0 c.replace_top.result d (c.requires.top c.if-top_stands.true)) c.replace_top.ensures.permutation

pub returns-then-top_stands-clause-cost : goal.returns-then-top_stands-clause-cost
returns-then-top_stands-clause-cost g c =
    let n = length c.args.self.now.queue.entries in
    omega (arith, c.replace_top.ensures.cost, bit_length_rises n (n + 1) (omega arith))
