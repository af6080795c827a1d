use Rattle.std.proofs.Common.{◌≡◌, Err, rules}
use Rattle.outer_io.proofs.Prints.{printed_stopped, printed_then}
use Rattle.command_verify.proofs.printing.print_listed.Goals as goal

pub returns-in_err-print_header : goal.returns-in_err-print_header
returns-in_err-print_header g c =
    let e : c.from_residual.result ≡ Err c.in_err-print_header.field-0.0 = search rules in
    rw e (printed_stopped _ _ _ _ c.in_err-print_header.field-0.0 c.in_err-print_header.ensures)

pub returns : goal.returns
returns g c =
    let head = c.in_ok-print_header.ensures in
    printed_then _ _ _ _ _ _ head.whole head.later c.print_records.ensures
