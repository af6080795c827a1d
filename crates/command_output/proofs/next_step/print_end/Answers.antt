use Rattle.outer_io.specs.declared.fault.PrintFault.TheVariants as fault
use Rattle.outer_io.specs.Printing.{Printed}
use Rattle.outer_io.proofs.Prints.{unprinted}
use Rattle.outer_io.proofs.HandedOn.{handed_on}
use Rattle.command_output.proofs.next_step.print_end.Goals as goal

pub returns-in_err-text : goal.returns-in_err-text
returns-in_err-text g c = handed_on (Printed _ _ _) c.from_residual.result fault.NoMemory c.from_residual.ensures.1 (unprinted _ _)

pub returns-in_err-push : goal.returns-in_err-push
returns-in_err-push g c = handed_on (Printed _ _ _) c.from_residual-in_err-push.result fault.NoMemory c.from_residual-in_err-push.ensures.1 (unprinted _ _)
