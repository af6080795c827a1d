use Rattle.std.proofs.Common.{◌<◌, ◌∙◌, ℕ, List, length, map, arith}
use Rattle.std.proofs.lemmas.List.{length-map}
use Rattle.bound_query.specs.WeighedQuery.{BoundQuery}
use Rattle.outer_io.specs.declared.fault.PrintFault.TheVariants as fault
use Rattle.outer_io.specs.Printing.{Printed}
use Rattle.outer_io.proofs.Prints.{unprinted}
use Rattle.outer_io.proofs.HandedOn.{handed_on, printed_as}
use Rattle.command_output.proofs.union.print_member.Goals as goal

inside_all : (queries : List BoundQuery) (b : ℕ) → b < length (map (λ (q : BoundQuery). q.query) queries) → b < length queries
inside_all queries b h = omega (arith, h, length-map queries (λ (q : BoundQuery). q.query))

pub write_line_of-requires-clause-branch : goal.write_line_of-requires-clause-branch
write_line_of-requires-clause-branch g c = inside_all c.args.queries.now c.args.tagged.now.branch c.requires.member.branch

pub returns-in_err-write_line_of : goal.returns-in_err-write_line_of
returns-in_err-write_line_of g c =
    handed_on (Printed _ _ _) c.from_residual.result fault.NoMemory c.from_residual.ensures.1 (unprinted _ _)

pub returns : goal.returns
returns g c = printed_as _ _ _ _ _ (c.text.ensures ∙ c.in_ok-write_line_of.ensures) c.print.ensures
