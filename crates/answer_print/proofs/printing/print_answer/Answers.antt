use Rattle.std.proofs.Common.{◌∙◌}
use Rattle.outer_io.specs.declared.fault.PrintFault.TheVariants as fault
use Rattle.outer_io.specs.Printing.{Printed}
use Rattle.outer_io.proofs.Prints.{unprinted}
use Rattle.outer_io.proofs.HandedOn.{handed_on, printed_as}
use Rattle.answer_print.proofs.printing.print_answer.Goals as goal

pub returns-in_err-write_line : goal.returns-in_err-write_line
returns-in_err-write_line g c =
    handed_on (Printed _ _ _) c.from_residual.result fault.NoMemory c.from_residual.ensures.1 (unprinted _ _)

pub returns : goal.returns
returns g c = printed_as _ _ _ _ _ (c.text.ensures ∙ c.in_ok-write_line.ensures) c.print.ensures
