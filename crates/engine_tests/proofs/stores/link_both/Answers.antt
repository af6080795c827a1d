use Rattle.std.proofs.Common.{None, length, ℕ, ap, ◌∙◌}
use Rattle.std.proofs.Math.ListN.{length-set}
use Rattle.stream_store.specs.declared.linked.Linked.{Linked}
use Rattle.engine_tests.proofs.stores.link_both.Goals as goal

pub returns-then-is_none : goal.returns-then-is_none
returns-then-is_none g c =
    let any : Linked ℕ = record { value = 0; next = None } in
    ap length (c.set_next.ensures.entries any) ∙ simp length-set
