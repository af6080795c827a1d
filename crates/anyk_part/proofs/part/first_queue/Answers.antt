use Rattle.std.proofs.Common.{rules, ◌≡◌, ◌+◌, ◌<◌, ◌≤◌, List, [], ◌∷◌, length, subst, sym, ap, ◌∙◌, arith}
use Rattle.std.specs.List.Sorted.{IsPermutation}
use Rattle.take2_heap.specs.declared.entry.Entry.{Entry}
use Rattle.rank_key.specs.Bits.{bit_length}
use Rattle.rank_key.proofs.BitLemmas.{bit_length_is}
use Rattle.tdp_core.specs.Solutions.{IsTreeRanking}
use Rattle.tdp_core.specs.TreeView.{members, rows, group_count}
use Rattle.tdp_core.proofs.TreeFacts.{member_is_row}
use Rattle.anyk_part.specs.declared.candidate.Candidate.{Candidate}
use Rattle.anyk_part.specs.Regions.{IsPart, rest_keys, regions_of}
use Rattle.anyk_part.proofs.Beginnings.{part_first, part_none, one_alone, first_entry}
use Rattle.anyk_part.proofs.part.first_queue.Goals as goal

pub returns-then-not-live-clause-part : goal.returns-then-not-live-clause-part
returns-then-not-live-clause-part g c =
    let t = c.args.tree.now in
    let dead : group_count t 0 ≤ 0 = search rules in
    let none = part_none g.R.Rank.KEYS g.R.Rank.key t c.live.ensures.formed dead c.requires.tie_free in
    λ links. subst (λ (es : List (Entry g.row.R.Denot Candidate)). IsPart g.R.Rank.KEYS g.R.Rank.key t links es 0 × IsTreeRanking t g.R.Rank.KEYS g.R.Rank.key (rest_keys g.R.Rank.KEYS g.R.Rank.key t (regions_of links (length t) es)))
    (sym c.new-queue.ensures.entries) (none links)

pub best-best-requires-clause-row : goal.best-best-requires-clause-row
best-best-requires-clause-row g c =
    let t = c.args.tree.now in let formed = c.live.ensures.formed in
    let some : 0 < length t = omega (arith, formed.shaped.some_node) in
    let full : 0 < length (members t 0 0) = search rules in
    subst (λ r. r < rows t 0) (sym c.member-row.ensures.member) (member_is_row g.R.Rank.KEYS g.R.Rank.key t formed 0 0 0 some full)

pub returns-clause-part : goal.returns-clause-part
returns-clause-part g c =
    let t = c.args.tree.now in
    let e : Entry g.row.R.Denot Candidate = first_entry c.best-best.result in
    let live : 0 < group_count t 0 = search rules in
    let empty : c.reserve.new.self.entries ≡ [] = c.reserve.ensures.entries ∙ c.new-queue.ensures.entries in
    let whole : c.new-whole.result ≡ e.tag = c.new-whole.ensures.parts in
    let put : IsPermutation (e ∷ []) c.push_reserved.new.self.entries =
    subst (λ (k : Candidate). IsPermutation (record { rank = c.best-best.result; tag = k } ∷ []) c.push_reserved.new.self.entries) whole
    (subst (λ (es : List (Entry g.row.R.Denot Candidate)). IsPermutation (record { rank = c.best-best.result; tag = c.new-whole.result } ∷ es) c.push_reserved.new.self.entries) empty c.push_reserved.ensures.permutation) in
    let is : c.push_reserved.new.self.entries ≡ e ∷ [] = one_alone e c.push_reserved.new.self.entries put in
    λ links. subst (λ (es : List (Entry g.row.R.Denot Candidate)). IsPart g.R.Rank.KEYS g.R.Rank.key t links es 0 × IsTreeRanking t g.R.Rank.KEYS g.R.Rank.key (rest_keys g.R.Rank.KEYS g.R.Rank.key t (regions_of links (length t) es)))
    (sym is) (part_first g.R.Rank.KEYS g.R.Rank.key t c.live.ensures.formed live c.requires.tie_free links c.best-best.result c.member-row.result c.member-row.ensures.member c.best-best.ensures.best)

pub returns-clause-cost : goal.returns-clause-cost
returns-clause-cost g c =
    let formed = c.live.ensures.formed in
    let empty : length c.reserve.new.self.entries ≡ 0 = ap (λ (es : List (Entry g.row.R.Denot Candidate)). length es) (c.reserve.ensures.entries ∙ c.new-queue.ensures.entries) in
    let one : bit_length (length c.reserve.new.self.entries + 1) ≡ 1 = ap (λ n. bit_length (n + 1)) empty ∙ bit_length_is 1 1 (omega arith) (λ _. omega arith) in
    omega (arith, c.push_reserved.ensures.cost, c.best-best.ensures.counted, c.member-row.ensures.counted, one, formed.shaped.some_node)
