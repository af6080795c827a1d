use Rattle.std.proofs.Common.{◌≡◌, ◌++◌, map, string_bytes}
use Rattle.std.specs.List.{zip}
use Rattle.outer_io.specs.Entries.{entry_of}
use Rattle.verdict.specs.MadeFiles.{made_files}
use Rattle.command_input.proofs.generated_input.made_shelf.Given as goal

abbrev pub invariant-loop-named : goal.invariant-loop-named
invariant-loop-named l =
    map entry_of l.files.items ++ zip (map (λ n. string_bytes n.file) l.named-iterator.a.rest.now) (map (λ f. f.items) l.named-iterator.b.rest.items)
    ≡ made_files l.made.number l.made.rows
