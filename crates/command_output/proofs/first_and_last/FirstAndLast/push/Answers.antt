use Rattle.std.proofs.Common.{refl}
use Rattle.command_output.proofs.GivenEnds.{ends_more}
use Rattle.command_output.proofs.first_and_last.FirstAndLast.push.Goals as goal

pub returns : goal.returns
returns c = λ given answer before is. ends_more given answer c.args.rows c.args.self.now _ before is refl c.or-self.ensures refl
