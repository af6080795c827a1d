use Rattle.std.proofs.Common.{◌≡◌, Err, rules}
use Rattle.outer_io.specs.declared.fault.PrintFault.TheVariants as fault
use Rattle.outer_io.proofs.Prints.{appends_nothing, unprinted}
use Rattle.anyk_top.proofs.plan.print_report.Goals as goal

pub returns-in_err-text : goal.returns-in_err-text
returns-in_err-text g c =
    let e : c.from_residual.result ≡ Err fault.NoMemory = search rules in
    rw e (record { printed = unprinted _ _; silent = appends_nothing _ })

pub returns : goal.returns
returns g c = record {
  printed = rw (c.deref.ensures.value, c.in_ok-text.ensures) at c.print_once.ensures.printed;
  silent = c.print_once.ensures.silent;
}
