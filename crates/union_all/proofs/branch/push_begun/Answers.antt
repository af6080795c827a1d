use Rattle.std.proofs.Common.{◌∙◌, ◌++◌, ℕ, List, Option, ap, sym, length, refl}
use Rattle.std.proofs.lemmas.Result.{IfOk-from_err}
use Rattle.witness_key.specs.WitnessKey.{combinations_in}
use Rattle.union_all.specs.Merge.{first_of}
use Rattle.union_all.proofs.Heads.{next_told, none_told}
use Rattle.union_all.proofs.branch.push_begun.Goals as goal

pub invariant_of-branch : goal.invariant_of-branch
invariant_of-branch g c = λ none. none_told _ c.in_ok-first.first _ _ c.in_ok-first.ensures.end (sym c.rows_of-head.ensures ∙ none)

pub returns : goal.returns
returns g c =
    let query = c.args.query.now.query in
    let after = combinations_in query (g.E.Ranked.rest c.next.new.self) in
    let told = c.in_ok-first.ensures in
    record {
      grown =
          record {
            branch = _;
            grown = c.in_ok-push.ensures.items;
            bound = refl;
            left = ap (λ (head : Option (List ℕ)). first_of (length query.items) head ++ after) c.rows_of-head.ensures ∙ sym (next_told query _ _ c.in_ok-first.first _ _ told.found told.end);
            called = record { calls = c.next.ensures.counted; size = c.next.ensures.size };
          };
      cost = c.next.ensures.cost;
    }

pub returns-in_err-first : goal.returns-in_err-first
returns-in_err-first g c = record { grown = IfOk-from_err c.from_residual.result _ c.from_residual.ensures.0; cost = c.next.ensures.cost }

pub returns-in_err-push : goal.returns-in_err-push
returns-in_err-push g c = record { grown = IfOk-from_err c.from_residual-in_err-push.result _ c.from_residual-in_err-push.ensures.0; cost = c.next.ensures.cost }
