use Rattle.std.proofs.Common.{◌∙◌}
use Rattle.csv.specs.Records.{cut_from}
use Rattle.csv_tables.proofs.Copied.{none_cut, none_rising, none_whole}
use Rattle.csv_tables.proofs.fields.FieldWriter.new.Goals as goal

pub invariant_of-result : goal.invariant_of-result
invariant_of-result c = record {
  rising = rw (c.new.ensures.items, c.new-2.ensures.items) none_rising;
  whole = rw (c.new.ensures.items, c.new-2.ensures.items) none_whole;
}

pub returns : goal.returns
returns c = (λ i. cut_from 0 (c.new-2.ensures.items i) c.new.result.items) ∙ none_cut c.new.result.items
