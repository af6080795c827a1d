use Rattle.std.proofs.Common.{◌≡◌, ◌<◌, ◌≤◌, ℕ, ℤ, Bool, true, false, Some, List, length, get_or, nat_lt, sym, ap, subst, ◌∙◌, arith}
use Rattle.std.proofs.lemmas.Bool.Decides.{nat_tests}
use Rattle.tdp_model.specs.KeyNumbers.{numbers}
use Rattle.tdp_core.specs.AnswerView.{AnswerView, rows_of_key}
use Rattle.tdp_core.specs.TreeView.{NodeView, rows, group_count, members, best}
use Rattle.tdp_core.specs.WellFormed.{IsFormed}
use Rattle.tdp_core.proofs.TreeFacts.{member_is_row}
use Rattle.tdp_model.specs.KeyTuple.{KeyOf}
use Rattle.tree_dp.proofs.RankingHead.{none_ranked, top_ranked}
use Rattle.tree_dp.proofs.first_answer.first.Goals as goal

is_dead : (n : ℕ) (b : Bool) → b ≡ nat_lt 0 n → b ≡ false → n ≡ 0
is_dead n b e f = let test : nat_lt 0 n ≡ false = sym e ∙ f in no_less n test
  where
    no_less : (n : ℕ) → nat_lt 0 n ≡ false → n ≡ 0
    no_less n h = grind (arith, nat_tests)

first_node : (n : ℕ) → 1 ≤ n → 0 < n
first_node n some = omega (arith, some)

is_live : (n : ℕ) (b : Bool) → b ≡ nat_lt 0 n → b ≡ true → 0 < n
is_live n b e f = let test : nat_lt 0 n ≡ true = sym e ∙ f in less n test
  where
    less : (n : ℕ) → nat_lt 0 n ≡ true → 0 < n
    less n h = grind (arith, nat_tests)

-- what stands at place 0 of the root's group is a row
top_row : {R : Type 0} (d : ℕ) (key : R → KeyOf d 16) (t : List (NodeView R)) → IsFormed d key t → 0 < group_count t 0 → (row : ℕ) → row ≡ get_or (members t 0 0) 0 0 → row < rows t 0
top_row d key t formed live row is =
    let some : 0 < length t = omega (arith, formed.shaped.some_node) in
    subst (λ r. r < rows t 0) (sym is) (member_is_row d key t formed 0 0 0 some (formed.inhabited 0 0 some live))

pub best-rank-requires-clause-row : goal.best-rank-requires-clause-row
best-rank-requires-clause-row g c =
    top_row g.R.Rank.KEYS g.R.Rank.key c.args.tree.now c.live.ensures.formed (is_live (group_count c.args.tree.now 0) c.live.result c.live.ensures.live c.if-not-live.false) c.member-row.result c.member-row.ensures.member

pub best_rows-rows-requires-clause-tie_free : goal.best_rows-rows-requires-clause-tie_free
best_rows-rows-requires-clause-tie_free g c = c.requires

pub best_rows-rows-requires-clause-row : goal.best_rows-rows-requires-clause-row
best_rows-rows-requires-clause-row g c =
    top_row g.R.Rank.KEYS g.R.Rank.key c.args.tree.now c.live.ensures.formed (is_live (group_count c.args.tree.now 0) c.live.result c.live.ensures.live c.if-not-live.false) c.member-row.result c.member-row.ensures.member

pub returns-then-not-live : goal.returns-then-not-live
returns-then-not-live g c =
    record {
      none = none_ranked g.R.Rank.KEYS g.R.Rank.key c.args.tree.now c.live.ensures.formed (is_dead (group_count c.args.tree.now 0) c.live.result c.live.ensures.live c.if-not-live.true);
      head = λ ks ranking. tt;
      cost = omega arith;
    }

pub returns : goal.returns
returns g c =
    let d = g.R.Rank.KEYS in
    let key = g.R.Rank.key in
    let t = c.args.tree.now in
    let formed = c.live.ensures.formed in
    let live = is_live (group_count t 0) c.live.result c.live.ensures.live c.if-not-live.false in
    let top = best t d key 0 (get_or (members t 0 0) 0 0) in
    let rank : key c.best-rank.result ≡ top = c.best-rank.ensures.best ∙ ap (best t d key 0) c.member-row.ensures.member in
    let rows : c.best_rows-rows.result ≡ rows_of_key d 16 top = c.best_rows-rows.ensures.rows ∙ ap (λ r. rows_of_key d 16 (best t d key 0 r)) c.member-row.ensures.member in
    let seen : List ℕ → List ℤ → AnswerView = λ r k. record { rows = r; key = k } in
    record {
      none = λ ks ranking. tt;
      head = λ ks ranking. top_ranked d key t formed live ks ranking ∙ ap (λ r. Some (seen r (numbers d 16 top))) (sym rows) ∙ ap (λ k. Some (seen c.best_rows-rows.result (numbers d 16 k))) (sym rank);
      cost = omega (arith, c.member-row.ensures.counted, c.best-rank.ensures.counted, c.best_rows-rows.ensures.cost, formed.shaped.some_node);
    }

pub member-row-requires-clause-group : goal.member-row-requires-clause-group
member-row-requires-clause-group g c = is_live (group_count c.args.tree.now 0) c.live.result c.live.ensures.live c.if-not-live.false

pub member-row-requires-clause-node : goal.member-row-requires-clause-node
member-row-requires-clause-node g c = first_node _ c.live.ensures.formed.shaped.some_node

pub member-row-requires-clause-place : goal.member-row-requires-clause-place
member-row-requires-clause-place g c =
    c.live.ensures.formed.inhabited 0 0 (first_node _ c.live.ensures.formed.shaped.some_node) (member-row-requires-clause-group g c)

pub best-rank-requires-clause-node : goal.best-rank-requires-clause-node
best-rank-requires-clause-node g c = first_node _ c.live.ensures.formed.shaped.some_node
