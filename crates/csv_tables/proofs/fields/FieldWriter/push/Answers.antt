use Rattle.std.proofs.Common.{◌≡◌, ◌+◌, ◌++◌, ◌∷◌, [], ◌∙◌, List, ℕ, length, refl, ap, arith}
use Rattle.csv.specs.Records.{cut_from}
use Rattle.csv_tables.proofs.Copied.{Shows, same_packed, shows_push}
use Rattle.table_store.proofs.Stands.{on_err}
use Rattle.csv_tables.proofs.Refusals.{none_on_ok}
use Rattle.csv_tables.proofs.fields.FieldWriter.push.Goals as goal
use Rattle.csv_tables.proofs.fields.FieldWriter.push.Goals.{After-push_reserved}

abbrev shown : (c : After-push_reserved) → Shows c.push_reserved.new.self.items c.extend_from_slice.new.self.items (c.args.self.now ++ c.args.field.now ∷ [])
shown c =
    let ends = c.self.inside.ends.items in
    let bytes = c.self.inside.bytes.items in
    let field = c.args.field.now in
    let start : c.len.result ≡ length bytes = omega (arith, c.len.ensures, c.self.inside.bytes.ok.0) in
    let grown : c.push_reserved.new.self.items ≡ ends ++ (length bytes + length field) ∷ [] =
    c.push_reserved.ensures.items ∙ (λ i. c.in_ok-reserve.ensures.items i ++ (start i + length field) ∷ []) in
    rw (grown, c.in_ok-extend_from_slice.ensures.items) (shows_push ends bytes c.args.self.now field (record {
      rising = c.self.invariant.rising;
      whole = c.self.invariant.whole;
      cut = c.self.view_is;
    }))

pub invariant_of-self-2 : goal.invariant_of-self-2
invariant_of-self-2 c = let s = shown c in record { rising = s.rising; whole = s.whole }

pub returns : goal.returns
returns c = record { added = (shown c).cut; err = tt }

pub returns-then-end-gt-MAX_BYTES : goal.returns-then-end-gt-MAX_BYTES
returns-then-end-gt-MAX_BYTES c = record { added = tt; err = λ _. c.args.self.now }

pub invariant_of-self : goal.invariant_of-self
invariant_of-self c = same_packed _ _ c.self.inside.ends.items c.self.inside.bytes.items c.in_err-reserve.ensures.items refl c.self.invariant

pub returns-in_err-reserve : goal.returns-in_err-reserve
returns-in_err-reserve c =
    let r = c.from_residual.result in
    let e = c.from_residual.ensures.0 in
    record { added = none_on_ok r _ e; err = on_err r (ap (λ (l : List ℕ). cut_from 0 l c.self.inside.bytes.items) c.in_err-reserve.ensures.items ∙ c.self.view_is) }

pub invariant_of-self-in_err-extend_from_slice : goal.invariant_of-self-in_err-extend_from_slice
invariant_of-self-in_err-extend_from_slice c = same_packed _ _ c.self.inside.ends.items c.self.inside.bytes.items c.in_ok-reserve.ensures.items c.in_err-extend_from_slice.ensures.items c.self.invariant

pub returns-in_err-extend_from_slice : goal.returns-in_err-extend_from_slice
returns-in_err-extend_from_slice c =
    let r = c.from_residual-in_err-extend_from_slice.result in
    let e = c.from_residual-in_err-extend_from_slice.ensures.0 in
    let ends = c.in_ok-reserve.ensures.items in
    let bytes = c.in_err-extend_from_slice.ensures.items in
    record { added = none_on_ok r _ e; err = on_err r ((λ i. cut_from 0 (ends i) (bytes i)) ∙ c.self.view_is) }
