use Rattle.std.proofs.Common.{◌≡◌, ℕ, ◌+◌, List, [], ◌∷◌, ◌++◌, map, replicate, length, refl, ap, ◌∙◌, arith}
use Rattle.std.proofs.lemmas.List.{map-append, replicate-append-replicate}
use Rattle.std.proofs.lemmas.Result.{IfOk-from_err}
use Rattle.std.specs.HashSet.{HashSet}
use Rattle.smallvec.specs.SmallVec.{SmallVec}
use Rattle.link_index.specs.NumberedLists.{lists_in}
use Rattle.link_index.proofs.list.ListIndex.new.Goals as goal

-- a list without a length has nothing in it
nothing : {A : Type 0} (xs : List A) → length xs ≡ 0 → xs ≡ []
nothing [] e = refl
nothing (x ∷ xs) e = absurd (omega arith)

-- one empty set more
one_more : {S : Type 0} (old new : List (HashSet (SmallVec ℕ) S)) (set : HashSet (SmallVec ℕ) S) (n : ℕ) → lists_in old ≡ replicate n [] → set.keys ≡ [] → new ≡ old ++ (set ∷ [])
    → lists_in new ≡ replicate (n + 1) []
one_more old new set n before empty pushed =
    ap lists_in pushed ∙ map-append (λ s. map (λ v. v.items) s.keys) old (set ∷ []) ∙ ap (λ lists. lists ++ (map (λ v. v.items) set.keys ∷ [])) before
    ∙ ap (λ keys. replicate n [] ++ (map (λ v. v.items) keys ∷ [])) empty
    ∙ replicate-append-replicate n 1 []

pub loop-node-preserved : goal.loop-node-preserved
loop-node-preserved c =
    let set = c.with_hasher.result in
    one_more c.loop-node.sets.items c.push.new.self.items set c.loop-node._node c.loop-node.invariant (nothing set.keys c.with_hasher.ensures.len) c.in_ok-push.ensures.items

pub loop-node-init : goal.loop-node-init
loop-node-init c = ap lists_in c.new-sets.ensures.items

pub returns-in_err-push : goal.returns-in_err-push
returns-in_err-push c = IfOk-from_err c.from_residual.result _ c.from_residual.ensures.0

pub returns : goal.returns
returns c = let all : c.loop-node._node ≡ c.args.nodes = omega arith in c.loop-node.invariant ∙ ap (λ n. replicate n []) all
