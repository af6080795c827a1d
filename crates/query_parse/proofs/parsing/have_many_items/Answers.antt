use Rattle.std.proofs.Common.{◌≡◌, ◌<◌, ◌+◌, ℕ, List, length, drop, get_or, sym, ap, ◌∙◌, arith}
use Rattle.std.proofs.lemmas.List.{drop_more}
use Rattle.std.proofs.lemmas.Bool.Decides.{nat_tests}
use Rattle.query_select.specs.declared.select.ItemRef.{ItemRef}
use Rattle.query_select.specs.declared.select.Select.{Select}
use Rattle.query_parse.specs.Parse.{items_in}
use Rattle.query_parse.proofs.parsing.have_many_items.Goals as goal

-- the items from a branch on
items_from : (branches : List Select) (i : ℕ) (branch : Select) (items : List ItemRef) → i < length branches → branch ≡ get_or branches i branch → items ≡ branch.items
    → items_in (drop i branches) ≡ length items + items_in (drop (i + 1) branches)
items_from branches i branch items within is same =
    ap items_in (drop_more branches i branch within) ∙ ap (λ (b : Select). length b.items + items_in (drop (i + 1) branches)) (sym is)
    ∙ ap (λ (l : List ItemRef). length l + items_in (drop (i + 1) branches)) (sym same)

pub loop-branch-preserved : goal.loop-branch-preserved
loop-branch-preserved c =
    let here = items_from _ _ _ _ c.loop-branch-test.true c.branch-item.is c.as_slice-count.ensures in
    record { within = omega arith; counted = omega (arith, here) }

pub returns-then-count-spare : goal.returns-then-count-spare
returns-then-count-spare c =
    let here = items_from _ _ _ _ c.loop-branch-test.true c.branch-item.is c.as_slice-count.ensures in
    let many : 16 < items_in c.args.branches.now = omega (arith, here) in
    grind (arith, nat_tests)
