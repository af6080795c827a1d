use Rattle.std.proofs.Common.{◌∙◌, ap, drop, map}
use Rattle.outer_io.specs.Counts.{saturating}
use Rattle.outer_io.specs.Entries.{entry_of}
use Rattle.outer_io.specs.Holding.{Holding}
use Rattle.outer_io.proofs.Places.{rest_more}
use Rattle.outer_io.proofs.mem_files.HeldFiles.read.Goals as goal

pub returns-clause-after : goal.returns-clause-after
returns-clause-after c =
    let held = c.self.inside in
    let n = c.min-count.result in
    (λ j. record {
      files = map entry_of held.files.items;
      rest = rest_more held.files.items held.«open» held.at n j;
      misses = held.misses;
      taken = c.saturating_add-self-inside.ensures j;
    })
    ∙ ap (λ (h : Holding). record { files = h.files; rest = drop n h.rest; misses = h.misses; taken = saturating h.taken n }) c.self.view_is
