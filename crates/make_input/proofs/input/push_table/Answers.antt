use Rattle.std.proofs.Common.{◌≡◌, ◌*◌, ◌∙◌, ℕ, Global, Vec, append-nil, ap, arith, refl, sym}
use Rattle.make_input.specs.Input.{draw, rows_text, table_text}
use Rattle.make_input.proofs.Draws.{drawn, pushed, row_pushed}
use Rattle.make_input.proofs.input.push_table.Goals as goal

pub loop-row-init : goal.loop-row-init
unfolding draw rows_text
loop-row-init c = record { text = c.in_ok-text.ensures.ok ∙ sym (append-nil c.args.header.now); state = refl }

pub loop-row-preserved : goal.loop-row-preserved
loop-row-preserved c =
    let x = c.args.draws.now.last in
    let n = c.loop-row._row in
    record {
      text = row_pushed c.args.header.now _ _ c.args.modulus n x c.loop-row.draws.last c.loop-row.invariant.text c.loop-row.invariant.state c.in_ok-push_row.ensures.text;
      state = drawn x n c.loop-row.draws.last _ c.loop-row.invariant.state c.in_ok-push_row.ensures.after;
    }

pub returns : goal.returns
returns c =
    let all : c.loop-row._row ≡ c.args.rows = omega arith in
    let text = c.loop-row.invariant.text ∙ ap (λ (n : ℕ). table_text c.args.header.now c.args.modulus n c.args.draws.now.last) all in
    record {
      pushed = pushed c.args.tables.now.items c.push.new.self.items c.into_bytes.result _ _ c.in_ok-push.ensures.items (ap (λ (v : Vec ℕ Global). v.items) c.into_bytes.ensures.value) text;
      after = c.loop-row.invariant.state ∙ ap (λ (n : ℕ). draw c.args.draws.now.last (2 * n)) all;
    }
