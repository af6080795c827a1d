use Rattle.std.proofs.Common.{◌≡◌, ◌<◌, ◌∙◌, sym, ap, subst, length, get_or, arith, [], List, Vec, Global, ℕ}
use Rattle.std.proofs.lemmas.List.{get_or-map, length-map}
use Rattle.bound_query.specs.Classes.{AreVariablesOf}
use Rattle.bound_query.specs.StoredParts.{lists_view}
use Rattle.bound_query.specs.WeighedQuery.{BoundQuery, variables_at}
use Rattle.bound_query.proofs.query.Query.variables_of.Goals as goal

pub returns-clause-variables : goal.returns-clause-variables
returns-clause-variables c =
    let fits = c.requires.fits.1 in
    let xs = c.self.inside.variables.of_items.items in
    let item = c.args.item in
    let shown : lists_view xs ≡ c.args.self.now.lists = ap (λ (b : BoundQuery). b.lists) c.self.view_is in
    let inside : item < length xs = omega (arith, length-map xs (λ (v : Vec (ℕ × ℕ) Global). v.items), ap length shown, fits.listed, c.requires.item) in
    let e : variables_at c.args.self.now.lists item ≡ c.as_slice.result.now =
    ap (λ (l : List (List (ℕ × ℕ))). get_or l item []) (sym shown) ∙ get_or-map (λ (v : Vec (ℕ × ℕ) Global). v.items) xs item c.index.result.now [] inside
    ∙ ap (λ (v : Vec (ℕ × ℕ) Global). v.items) (sym c.index.ensures) ∙ sym c.as_slice.ensures.value in
    subst (λ (l : List (ℕ × ℕ)). AreVariablesOf c.args.self.now.query.equalities c.args.self.now.variables item l) e (fits.lists item c.requires.item)
