use Rattle.std.proofs.Common.{◌≡◌, ℕ, List, Some, true, nat_eq, ap, sym, ◌∙◌, rules, tests}
use Rattle.std.specs.List.{slice_get, slice_index}
use Rattle.std.proofs.lemmas.Option.{get_or_from_slice_get}
use Rattle.std.proofs.lemmas.Result.{IfOk-from_err}
use Rattle.indexmap.specs.IndexSet.{insert_key}
use Rattle.link_index.proofs.hashed.HashedIndex.insert.Goals as goal

-- what stands at a place, if it is equal to a link
stands_at : (keys : List ℕ) (n link : ℕ) → (x : ℕ) × (slice_get keys n ≡ Some x) × (nat_eq link x ≡ true) → slice_index keys n ≡ link
stands_at keys n link h =
    let same : link ≡ h.0 = let e = h.2 in search (rules, tests) in
    get_or_from_slice_get keys n h.0 0 h.1 ∙ sym same

pub returns : goal.returns
returns g c =
    let made = c.in_ok-number.ensures in
    record {
      links = made.keys ∙ ap (λ keys. insert_key nat_eq keys c.args.link) c.self.view_is;
      within = made.within;
      stands = stands_at c.insert_full.new.self.keys c.in_ok-number.number c.args.link made.stored;
      cost = c.tick.ensures;
    }

pub returns-in_err-number : goal.returns-in_err-number
returns-in_err-number g c =
    let r = c.from_residual.result in
    let e = c.from_residual.ensures.0 in
    record { links = IfOk-from_err r _ e; within = IfOk-from_err r _ e; stands = IfOk-from_err r _ e; cost = c.tick.ensures }
