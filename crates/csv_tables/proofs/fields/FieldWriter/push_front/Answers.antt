use Rattle.std.proofs.Common.{◌≡◌, ◌≤◌, ◌+◌, ◌++◌, ◌∙◌, ℕ, List, take, length, refl, ap, subst, arith}
use Rattle.std.proofs.Math.Seq.{take-append-add}
use Rattle.std.proofs.lemmas.Result.{IfOk-from_err}
use Rattle.std.specs.List.{concat}
use Rattle.csv.specs.Records.{cut_from, fields_of}
use Rattle.csv_tables.specs.Fields.{ends_from}
use Rattle.csv_tables.proofs.Copied.{Shows, same_packed, shows_more}
use Rattle.table_store.proofs.Stands.{on_err}
use Rattle.csv_tables.proofs.fields.FieldWriter.push_front.Goals as goal
use Rattle.csv_tables.proofs.fields.FieldWriter.push_front.Goals.{After-truncate}

abbrev shown : (c : After-truncate)
    → Shows c.push_ends-count.new.ends.items c.truncate.new.self.items (c.args.self.now ++ take c.push_ends-count.result.0 (fields_of c.args.row.now))
shown c =
    let ends = c.self.inside.ends.items in
    let bytes = c.self.inside.bytes.items in
    let front = take c.push_ends-count.result.0 (fields_of c.args.row.now) in
    let put = c.push_ends-count.ensures in
    let start : c.len-start.result ≡ length bytes = omega (arith, c.len-start.ensures, c.self.inside.bytes.ok.0) in
    let grown : c.push_ends-count.new.ends.items ≡ ends ++ ends_from (length bytes) front =
    put.ends ∙ (λ i. c.in_ok-reserve.ensures.items i ++ ends_from (start i) front) in
    let end : c.push_ends-count.result.1 ≡ length bytes + length (concat front) = omega (arith, put.end, start) in
    let kept : c.truncate.new.self.items ≡ bytes ++ concat front =
    c.truncate.ensures.items ∙ (λ i. take (end i) (c.in_ok-extend_from_slice.ensures.items i))
    ∙ take-append-add bytes c.as_slice-text.result.now (length (concat front))
    ∙ (λ i. bytes ++ take (length (concat front)) (c.as_slice-text.ensures i)) ∙ ap (λ (l : List ℕ). bytes ++ l) put.text in
    rw (grown, kept) (shows_more front ends bytes c.args.self.now (record {
      rising = c.self.invariant.rising;
      whole = c.self.invariant.whole;
      cut = c.self.view_is;
    }))

pub invariant_of-self-2 : goal.invariant_of-self-2
invariant_of-self-2 c = let s = shown c in record { rising = s.rising; whole = s.whole }

pub returns : goal.returns
returns c = record { added = (shown c).cut; within = c.push_ends-count.ensures.within; err = tt }

pub returns-then-start-text-gt-MAX_BYTES : goal.returns-then-start-text-gt-MAX_BYTES
returns-then-start-text-gt-MAX_BYTES c = record { added = tt; within = tt; err = λ _. c.args.self.now }

pub push_ends-count-requires-clause-size : goal.push_ends-count-requires-clause-size
push_ends-count-requires-clause-size c = subst (λ (l : List ℕ). c.len-start.result + length l ≤ 4294967295) c.as_slice-text.ensures c.if-start-text-gt-MAX_BYTES.false

pub invariant_of-self : goal.invariant_of-self
invariant_of-self c = same_packed _ _ c.self.inside.ends.items c.self.inside.bytes.items c.in_err-reserve.ensures.items refl c.self.invariant

pub returns-in_err-reserve : goal.returns-in_err-reserve
returns-in_err-reserve c =
    let r = c.from_residual.result in
    let e = c.from_residual.ensures.0 in
    record { added = IfOk-from_err r _ e; within = IfOk-from_err r _ e; err = on_err r (ap (λ (l : List ℕ). cut_from 0 l c.self.inside.bytes.items) c.in_err-reserve.ensures.items ∙ c.self.view_is) }

pub invariant_of-self-in_err-extend_from_slice : goal.invariant_of-self-in_err-extend_from_slice
invariant_of-self-in_err-extend_from_slice c = same_packed _ _ c.self.inside.ends.items c.self.inside.bytes.items c.in_ok-reserve.ensures.items c.in_err-extend_from_slice.ensures.items c.self.invariant

pub returns-in_err-extend_from_slice : goal.returns-in_err-extend_from_slice
returns-in_err-extend_from_slice c =
    let r = c.from_residual-in_err-extend_from_slice.result in
    let e = c.from_residual-in_err-extend_from_slice.ensures.0 in
    let ends = c.in_ok-reserve.ensures.items in
    let bytes = c.in_err-extend_from_slice.ensures.items in
    record { added = IfOk-from_err r _ e; within = IfOk-from_err r _ e; err = on_err r ((λ i. cut_from 0 (ends i) (bytes i)) ∙ c.self.view_is) }
