use Rattle.std.proofs.Common.{◌≡◌, ℕ, List, ◌++◌, ◌∷◌, [], ap, ◌∙◌, append_assoc}
use Rattle.std.specs.Prelude.{codes, decimal}
use Rattle.plan_build.proofs.reporting.push_line.Goals as goal

in_line : (text a l b m d n e name end : List ℕ)
    → ((text ++ (a ++ (l ++ (b ++ (m ++ (d ++ (n ++ e))))))) ++ name) ++ end
    ≡ text ++ (a ++ (l ++ (b ++ (m ++ (d ++ (n ++ (e ++ (name ++ end))))))))
in_line text a l b m d n e name end = simp append_assoc

pub returns : goal.returns
returns c =
    let numbers = c.as_bytes.ensures.value ∙ c.in_ok-numbers.ensures.ok in
    let first = c.in_ok-extend_from_slice.ensures.items ∙ ap (λ bs. c.args.text.now.items ++ bs) numbers in
    let second = c.in_ok-extend_from_slice-2.ensures.items ∙ ap (λ bs. bs ++ c.args.name.now) first in
    c.in_ok-push.ensures.items ∙ ap (λ bs. bs ++ 10 ∷ []) second
    ∙ in_line c.args.text.now.items (codes "node ") (decimal c.args.number) (codes " parent ") (decimal c.args.parent) (codes " rows ")
    (decimal c.args.rows) (codes " item ") c.args.name.now (10 ∷ [])
