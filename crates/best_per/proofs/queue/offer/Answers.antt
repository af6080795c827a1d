use Rattle.std.proofs.Common.{◌<◌, ◌≤◌, ◌∙◌, ℕ, ap, sym, subst, arith}
use Rattle.std.proofs.lemmas.List.Elements.{All-cons}
use Rattle.std.proofs.lemmas.List.Sorted.{All-permutation, length_permutation, sum_by_pushed}
use Rattle.take2_heap.specs.declared.entry.Entry.{Entry}
use Rattle.tdp_core.specs.TreeView.{rows, best}
use Rattle.tdp_core.proofs.TreeFacts.{member_is_row}
use Rattle.best_per.specs.RootHeap.{root_len, holds, IsPlace}
use Rattle.best_per.proofs.RootPlaces.{none_past}
use Rattle.best_per.proofs.queue.offer.Goals as goal

pub best-best-requires-clause-row : goal.best-best-requires-clause-row
best-best-requires-clause-row g c =
    let t = c.args.tree.now in
    let near : c.args.place < root_len t = omega (arith, c.group_len.ensures, c.if-place-group_len.false) in
    subst (λ r. r < rows t 0) (sym c.member-row.ensures.member)
    (member_is_row g.R.Rank.KEYS g.R.Rank.key t c.requires.formed 0 0 c.args.place (omega (arith, c.requires.formed.shaped.some_node)) near)

pub returns-then-place-group_len : goal.returns-then-place-group_len
returns-then-place-group_len g c =
    let far : root_len c.args.tree.now ≤ c.args.place = omega (arith, c.group_len.ensures, c.if-place-group_len.true) in
    record {
      entries = c.requires.entries;
      held = λ i. omega (arith, none_past (root_len c.args.tree.now) c.args.place i far);
      room = omega arith;
      length = omega arith;
      cost = omega arith;
    }

pub returns : goal.returns
returns g c =
    let t = c.args.tree.now in
    let P : Entry g.row.R.Denot ℕ → Type 0 = IsPlace g.R.Rank.KEYS g.R.Rank.key t in
    let e : Entry g.row.R.Denot ℕ = record { rank = c.best-best.result; tag = c.args.place } in
    let own : P e = record {
      within = omega (arith, c.group_len.ensures, c.if-place-group_len.false);
      ranked = c.best-best.ensures.best ∙ ap (best t g.R.Rank.KEYS g.R.Rank.key 0) c.member-row.ensures.member;
    } in
    let n = root_len c.args.tree.now in
    record {
      entries = All-permutation P _ _ c.push_reserved.ensures.permutation (All-cons P e c.args.queue.now.entries own c.requires.entries);
      held = λ i. sum_by_pushed (λ (x : Entry g.row.R.Denot ℕ). holds n x.tag i) e c.args.queue.now.entries c.push_reserved.new.self.entries c.push_reserved.ensures.permutation;
      room = omega arith;
      length = omega (arith, length_permutation _ _ c.push_reserved.ensures.permutation);
      cost = omega arith;
    }
