use Rattle.std.proofs.Common.{◌≡◌, ◌+◌, ◌++◌, ◌∷◌, [], ◌∙◌, ℕ, List, ap, subst, arith, rules}
use Rattle.std.specs.Fmt.{decimal}
use Rattle.anyk_model.specs.Output.{numbered}
use Rattle.answer_print.specs.WrittenRecords.{HasFields}
use Rattle.answer_print.proofs.Pushing.{number_more}
use Rattle.answer_print.proofs.titles.push_numbered.Goals as goal

pub loop-place-preserved : goal.loop-place-preserved
loop-place-preserved c = λ fields has.
    let title : c.as_bytes.result.now ≡ c.args.word.now ++ decimal (c.loop-place.place + 1) = search rules in
    let more = number_more (λ k. c.args.word.now ++ decimal k) fields 1 c.loop-place.place (c.loop-place.place + 1) (omega arith) in
    subst (λ (fs : List (List ℕ)). HasFields fs c.push.new.self.begun) (ap (λ (t : List ℕ). (fields ++ numbered c.args.word.now c.loop-place.place) ++ t ∷ []) title ∙ more)
    (c.in_ok-push.ensures _ (c.loop-place.invariant fields has))

pub returns : goal.returns
returns c = λ fields has.
    let all : c.loop-place.place ≡ c.args.count = search rules in
    subst (λ (n : ℕ). HasFields (fields ++ numbered c.args.word.now n) c.loop-place.records.begun) all (c.loop-place.invariant fields has)
