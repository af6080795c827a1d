use Rattle.std.proofs.Common.{◌≡◌, ◌∙◌, ◌∷◌, ◌++◌, [], Bool, List, true, false, ap, length, sym}
use Rattle.query_select.specs.declared.select.Select.{Select}
use Rattle.command_input.proofs.Handing.{handed_on}
use Rattle.command_input.proofs.Faults.{branches_limits, branches_read, branches_refused, one_limits, one_read, one_refused}
use Rattle.command_input.proofs.query.read_selects.Goals as goal

clash : ◌≡◌ {A = Bool} true false → ⊥
clash e = cc

pub returns-in_err-all : goal.returns-in_err-all
returns-in_err-all c =
    let e = handed_on c.from_residual.result c.in_err-all.field-0.0 c.from_residual.ensures.1 in
    rw (e, c.if-several.true) (record { parsed = branches_refused c.args.bytes.now _ c.in_err-all.ensures.sound; limits = tt; alone = λ _. tt })

pub returns-then-several : goal.returns-then-several
returns-then-several c = record {
  parsed = rw c.if-several.true (branches_read c.args.bytes.now c.in_ok-all.all _ c.in_ok-all.ensures.sound c.with_limit.ensures);
  limits = rw c.with_limit.ensures (branches_limits c.args.bytes.now c.in_ok-all.all c.in_ok-all.ensures.sound c.in_ok-all.ensures.some c.in_ok-all.ensures.filled);
  alone = λ no. absurd (clash (sym c.if-several.true ∙ no));
}

pub returns-in_err-select : goal.returns-in_err-select
returns-in_err-select c =
    let e = handed_on c.from_residual-in_err-select.result c.in_err-select.field-0.0 c.from_residual-in_err-select.ensures.1 in
    rw (e, c.if-several.false) (record { parsed = one_refused c.args.bytes.now _ c.in_err-select.ensures.sound; limits = tt; alone = λ _. tt })

pub returns : goal.returns
returns c =
    let select = c.in_ok-select.select in
    let items : c.push.new.self.items ≡ select ∷ [] = c.in_ok-push.ensures.items ∙ ap (λ (l : List Select). l ++ select ∷ []) c.new-selects.ensures.items in
    record {
      parsed = rw c.if-several.false (one_read c.args.bytes.now select _ c.in_ok-select.ensures.sound items);
      limits = rw items (one_limits c.args.bytes.now select c.in_ok-select.ensures.sound);
      alone = λ _. ap length items;
    }
