use Rattle.std.proofs.Common.{◌≡◌, ◌<◌, ◌∙◌, ℕ, List, take, length, sym, ap, arith, take_all, length-take-le}
use Rattle.csv.specs.Records.{prev}
use Rattle.csv.proofs.RecordFacts.{cut-length, cut-prefix, last-take, prev-high, rising-prefix}
use Rattle.anyk_model.specs.Table.{Fields}
use Rattle.csv_tables.proofs.fields.FieldWriter.truncate.Goals as goal

pub invariant_of-self : goal.invariant_of-self
invariant_of-self c =
    let ends = c.self.inside.ends.items in
    let bytes = c.self.inside.bytes.items in
    let start = prev 0 ends c.args.len in
    let inside : c.args.len < length ends = omega (arith, c.if-len.true, c.len.ensures, c.self.inside.ends.ok.0) in
    let is : c.start_of-end.result ≡ start = c.start_of-end.ensures ∙ ap (λ (l : List ℕ). prev 0 l c.args.len) c.deref.ensures.value in
    let size : length (take start bytes) ≡ start = length-take-le start bytes (prev-high 0 ends (length bytes) c.args.len c.self.invariant.rising) in
    record {
      rising = rw (c.truncate-then-len.ensures.items, c.truncate.ensures.items, is, size)
          (rising-prefix 0 ends (length bytes) c.args.len start c.self.invariant.rising (omega arith) (omega arith));
      whole = rw (c.truncate-then-len.ensures.items, c.truncate.ensures.items, is, size) (last-take 0 ends c.args.len inside);
    }

pub returns-then-len : goal.returns-then-len
returns-then-len c =
    let ends = c.self.inside.ends.items in
    let bytes = c.self.inside.bytes.items in
    let start = prev 0 ends c.args.len in
    let inside : c.args.len < length ends = omega (arith, c.if-len.true, c.len.ensures, c.self.inside.ends.ok.0) in
    let is : c.start_of-end.result ≡ start = c.start_of-end.ensures ∙ ap (λ (l : List ℕ). prev 0 l c.args.len) c.deref.ensures.value in
    rw (c.truncate-then-len.ensures.items, c.truncate.ensures.items, is) (
    cut-prefix 0 ends bytes (length bytes) c.args.len start c.self.invariant.rising (omega arith) (omega arith)
    ∙ ap (λ (l : Fields). take c.args.len l) c.self.view_is)

pub returns-else-len : goal.returns-else-len
returns-else-len c = sym (take_all c.args.len c.args.self.now (omega (arith, c.if-len.false, c.len.ensures, c.self.inside.ends.ok.0, ap length c.self.view_is, cut-length 0 c.self.inside.ends.items c.self.inside.bytes.items)))
