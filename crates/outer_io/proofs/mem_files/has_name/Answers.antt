use Rattle.std.proofs.Common.{◌∙◌, ap, is_some}
use Rattle.outer_io.proofs.Places.{any_found, is_named}
use Rattle.outer_io.proofs.mem_files.has_name.Goals as goal

pub returns : goal.returns
returns c = c.is_some.ensures ∙ ap is_some c.first_named.ensures ∙ any_found (is_named c.args.name.now) c.args.files.now
