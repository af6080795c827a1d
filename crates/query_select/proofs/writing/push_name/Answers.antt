use Rattle.std.proofs.Common.{◌++◌, ◌∷◌, [], ◌∙◌, Bool, List, ℕ, append_assoc, ap, if◌then◌else◌, sym}
use Rattle.query_select.proofs.writing.push_name.Goals as goal

pub returns : goal.returns
returns c =
    let text = c.args.text.now.items in
    let name = c.args.name.now in
    c.in_ok-push-2.ensures.items ∙ ap (λ (l : List ℕ). l ++ 34 ∷ []) (c.in_ok-extend_from_slice-2.ensures.items ∙ ap (λ (l : List ℕ). l ++ name) c.in_ok-push.ensures.items)
    ∙ ap (λ (l : List ℕ). l ++ 34 ∷ []) (append_assoc text (34 ∷ []) name) ∙ append_assoc text (34 ∷ name) (34 ∷ [])
    ∙ ap (λ (b : Bool). text ++ (if b then name else (34 ∷ name ++ 34 ∷ []))) (sym c.if-is_bare_name.false ∙ c.is_bare_name.ensures)
