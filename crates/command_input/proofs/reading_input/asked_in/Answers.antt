use Rattle.std.proofs.Common.{refl}
use Rattle.command_input.proofs.reading_input.asked_in.Goals as goal

pub returns : goal.returns
returns c = record { asked = rw (c.as_str.ensures.value, c.as_slice.ensures.value) refl; best_of = refl }
