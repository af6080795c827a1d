-- Where each of the fields lies that are in one vector of bytes.
use Rattle.std.proofs.Common.{◌≡◌, ◌≤◌, ◌<◌, ◌-◌, ℕ, List, [], take, drop, length, get_or, sym, ap, ◌∙◌, arith}
use Rattle.std.proofs.lemmas.List.{get_or_default}
use Rattle.csv.specs.Records.{cut_from, prev}
use Rattle.csv.proofs.RecordFacts.{cut-length, field-bounds, field-cut, field-get}
use Rattle.anyk_model.specs.Table.{Fields}
use Rattle.table_store.specs.Fields.{ArePacked}

-- the field at a place is the bytes between its start and its end
pub field_between : (ends bytes : List ℕ) (i : ℕ) → i < length ends
    → take (get_or ends i 0 - prev 0 ends i) (drop (prev 0 ends i) bytes) ≡ get_or (cut_from 0 ends bytes) i []
field_between ends bytes i inside = sym (field-get (cut_from 0 ends bytes) i _ (field-cut 0 ends bytes i inside))

-- a field's start and end lie in order within the bytes
pub record Lies (ends bytes : List ℕ) (place start end : ℕ) : Type 0 where
  pub inside : place < length ends
  pub start_is : start ≡ prev 0 ends place
  pub end_is : end ≡ get_or ends place 0
  pub order : start ≤ end
  pub within : end ≤ length bytes

pub lies : (ends bytes read : List ℕ) (now : Fields) (place start end : ℕ) → ArePacked ends bytes → cut_from 0 ends bytes ≡ now → place < length now
    → read ≡ ends → start ≡ prev 0 read place → end ≡ get_or ends place end → Lies ends bytes place start end
lies ends bytes read now place start end packed shown below same starts ends_at =
    let inside : place < length ends = omega (arith, below, ap length shown, cut-length 0 ends bytes) in
    let start_is : start ≡ prev 0 ends place = starts ∙ ap (λ (l : List ℕ). prev 0 l place) same in
    let end_is : end ≡ get_or ends place 0 = ends_at ∙ get_or_default ends place end 0 inside in
    let f = field-bounds 0 ends (length bytes) place packed.rising inside in
    record {
      inside = inside;
      start_is = start_is;
      end_is = end_is;
      order = omega (arith, start_is, end_is, f.0);
      within = omega (arith, end_is, f.1);
    }
