use Rattle.std.proofs.Common.{sym, arith}
use Rattle.command_input.proofs.Shapes.{other_keys}
use Rattle.command_input.proofs.binding.have_directions.Goals as goal

pub returns-then-keys : goal.returns-then-keys
returns-then-keys c =
    let one = c.keys.ensures.keys in
    let two = c.keys-2.ensures.keys in
    let differ = c.if-keys.true in
    sym (other_keys c.args.a.now.query.order c.args.b.now.query.order (λ same. omega (arith, one, two, same, differ)))
