use Rattle.outer_io.specs.Printing.{Printed}
use Rattle.outer_io.proofs.Prints.{printed_stopped, printed_then}
use Rattle.command_output.proofs.Spending.{at_most_one}
use Rattle.command_output.proofs.UnionPacing.{paced_after}
use Rattle.outer_io.proofs.HandedOn.{handed_on}
use Rattle.command_output.proofs.union.print_union.Goals as goal

pub returns-in_err-print_union_header : goal.returns-in_err-print_union_header
returns-in_err-print_union_header g c =
    record {
      printed = handed_on (Printed _ _ _) c.from_residual.result _ c.from_residual.ensures.1 (printed_stopped _ _ _ _ _ c.in_err-print_union_header.ensures);
      bounded = at_most_one _ _;
      prompt = λ start part is_old is_new. at_most_one _ _;
    }

pub returns : goal.returns
returns g c =
    let head = c.in_ok-print_union_header.ensures in
    record {
      printed = printed_then _ _ _ _ _ _ head.whole head.later c.print_members.ensures.printed;
      bounded = c.print_members.ensures.paced.bounded;
      prompt =
          λ start part is_old is_new.
          let rest = c.print_members.ensures.printed.prefix in
          paced_after _ _ _ _ _ _ _ _ _ rest.0 c.in_ok-print_union_header.ensures.whole rest.1
          c.print_members.ensures.paced start part is_old is_new;
    }
