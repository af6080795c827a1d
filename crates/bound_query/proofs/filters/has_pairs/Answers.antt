use Rattle.std.proofs.Common.{◌≡◌, ◌-◌, ◌∙◌, true, false, refl, sym, get_or, ℕ}
use Rattle.anyk_model.specs.Table.{field_at, table_at}
use Rattle.bound_query.proofs.Lists.{at_any}
use Rattle.bound_query.proofs.RowTests.{texts_differ, texts_same}
use Rattle.rankings.proofs.Members.{each_all, each_further, get_member}
use Rattle.bound_query.proofs.filters.has_pairs.Goals as goal

pub returns-then-ne : goal.returns-then-ne
returns-then-ne c =
    let pairs = c.args.pairs.now in
    let i = c.loop-first.first-index in
    let x : ℕ × ℕ = get_or pairs i (0, 0) in (
      λ h. absurd (let e : false ≡ true = h in cc),
      λ known. absurd (texts_differ c.field.result.now c.field-in-loop-first.result.now (sym c.ne.ensures ∙ c.if-ne.true)
          (c.field.ensures ∙ known x (get_member pairs i (0, 0) c.loop-first-test.true) ∙ sym c.field-in-loop-first.ensures)),
    )

pub loop-first-preserved : goal.loop-first-preserved
loop-first-preserved c =
    let field = field_at (table_at c.args.tables.now c.args.table) (c.args.row - 1) in
    let pairs = c.args.pairs.now in
    let i = c.loop-first.first-index in
    let x : ℕ × ℕ = get_or pairs i (0, 0) in
    let here : field x.0 ≡ field x.1 =
    sym c.field.ensures ∙ texts_same c.field.result.now c.field-in-loop-first.result.now (sym c.ne.ensures ∙ c.if-ne.false) ∙ c.field-in-loop-first.ensures in
    each_further (λ (v : ℕ × ℕ). field v.0 ≡ field v.1) pairs i x c.loop-first-test.true (at_any pairs i (0, 0) x c.loop-first-test.true) c.loop-first.invariant here

pub returns : goal.returns
returns c =
    let field = field_at (table_at c.args.tables.now c.args.table) (c.args.row - 1) in (
      λ _. each_all (λ (v : ℕ × ℕ). field v.0 ≡ field v.1) c.args.pairs.now c.loop-first.first-index c.loop-first-test.false c.loop-first.invariant,
      λ _. refl,
    )
