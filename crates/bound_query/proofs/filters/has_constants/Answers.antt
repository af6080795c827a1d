use Rattle.std.proofs.Common.{◌≡◌, ◌+◌, ◌-◌, ◌∙◌, true, false, refl, sym, take}
use Rattle.anyk_model.specs.Table.{field_at, table_at}
use Rattle.bound_query.specs.declared.filters.Constant.{Constant}
use Rattle.bound_query.proofs.RowTests.{constants_each, constants_one, texts_differ, texts_same}
use Rattle.rankings.proofs.Members.{each_all, each_further, member_item}
use Rattle.bound_query.proofs.filters.has_constants.Goals as goal

pub returns-then-ne : goal.returns-then-ne
returns-then-ne c =
    let field = field_at (table_at c.args.tables.now c.args.table) (c.args.row - 1) in
    let x = c.constant-item.result in (
      λ h. absurd (let e : false ≡ true = h in cc),
      λ known. absurd (texts_differ c.field.result.now c.bytes.result.now (sym c.ne.ensures ∙ c.if-ne.true)
          (c.field.ensures ∙ constants_one field c.args.constants.now known x (member_item c.args.constants.now c.loop-constant.constant-index x c.loop-constant-test.true c.constant-item.is)
          ∙ sym c.bytes.ensures)),
    )

pub loop-constant-preserved : goal.loop-constant-preserved
loop-constant-preserved c =
    let field = field_at (table_at c.args.tables.now c.args.table) (c.args.row - 1) in
    let x = c.constant-item.result in
    let i = c.loop-constant.constant-index in
    let here : field x.place ≡ x.bytes =
    sym c.field.ensures ∙ texts_same c.field.result.now c.bytes.result.now (sym c.ne.ensures ∙ c.if-ne.false) ∙ c.bytes.ensures in
    constants_each field (take (i + 1) c.args.constants.now)
    (each_further (λ (y : Constant). field y.place ≡ y.bytes) c.args.constants.now i x c.loop-constant-test.true c.constant-item.is
    (constants_one field (take i c.args.constants.now) c.loop-constant.invariant) here)

pub returns : goal.returns
returns c =
    let field = field_at (table_at c.args.tables.now c.args.table) (c.args.row - 1) in (
      λ _. constants_each field c.args.constants.now (each_all (λ (y : Constant). field y.place ≡ y.bytes) c.args.constants.now c.loop-constant.constant-index c.loop-constant-test.false
          (constants_one field (take c.loop-constant.constant-index c.args.constants.now) c.loop-constant.invariant)),
      λ _. refl,
    )
