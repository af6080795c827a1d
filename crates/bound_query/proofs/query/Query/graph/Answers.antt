use Rattle.std.proofs.Common.{◌≡◌, ◌≤◌, ◌∙◌, sym, ap, subst, length, arith, ℕ}
use Rattle.std.proofs.lemmas.List.{length-map}
use Rattle.std.proofs.lemmas.Result.{IfOk-weaker}
use Rattle.hyper_graph.specs.Graph.{Hypergraph}
use Rattle.std.proofs.Common.{Vec, Global}
use Rattle.bound_query.specs.Graph.{IsGraphOf}
use Rattle.bound_query.specs.StoredParts.{lists_view}
use Rattle.bound_query.specs.WeighedQuery.{BoundQuery}
use Rattle.bound_query.proofs.GraphOf.{graph_of, same_sets, sets_within}
use Rattle.bound_query.proofs.query.Query.graph.Goals as goal

pub item_sets-requires : goal.item_sets-requires
item_sets-requires c =
    let xs = c.self.inside.variables.of_items.items in
    let shown : lists_view xs ≡ c.args.self.now.lists = ap (λ (b : BoundQuery). b.lists) c.self.view_is in
    omega (
      arith,
      ap length c.as_slice.ensures.value,
      length-map xs (λ (v : Vec (ℕ × ℕ) Global). v.items),
      ap length shown,
      c.requires.fits.1.listed,
      c.items-atoms.ensures.items,
      c.items-atoms.ensures.limit,
    )

pub new-requires-clause-within : goal.new-requires-clause-within
new-requires-clause-within c =
    let now = c.args.self.now in
    let shown : lists_view c.as_slice.result.now ≡ now.lists = ap lists_view c.as_slice.ensures.value ∙ ap (λ (b : BoundQuery). b.lists) c.self.view_is in
    let count : length c.as_slice.result.now ≡ c.items-atoms.result =
    sym (length-map c.as_slice.result.now (λ (v : Vec (ℕ × ℕ) Global). v.items)) ∙ ap length shown ∙ c.requires.fits.1.listed ∙ sym c.items-atoms.ensures.items in
    let known = same_sets (lists_view c.as_slice.result.now) now.lists (length c.as_slice.result.now) c.items-atoms.result c.variables-count.result (length now.variables)
    c.in_ok-sets.sets.items c.as_slice-2.result.now shown count c.variables-count.ensures.count (sym c.as_slice-2.ensures.value) c.in_ok-sets.ensures in
    sets_within now c.requires.fits.0 c.requires.fits.1 c.items-atoms.result (length now.variables) c.as_slice-2.result.now known

pub returns : goal.returns
returns c =
    let now = c.args.self.now in
    let shown : lists_view c.as_slice.result.now ≡ now.lists = ap lists_view c.as_slice.ensures.value ∙ ap (λ (b : BoundQuery). b.lists) c.self.view_is in
    let count : length c.as_slice.result.now ≡ c.items-atoms.result =
    sym (length-map c.as_slice.result.now (λ (v : Vec (ℕ × ℕ) Global). v.items)) ∙ ap length shown ∙ c.requires.fits.1.listed ∙ sym c.items-atoms.ensures.items in
    let known = same_sets (lists_view c.as_slice.result.now) now.lists (length c.as_slice.result.now) c.items-atoms.result c.variables-count.result (length now.variables)
    c.in_ok-sets.sets.items c.as_slice-2.result.now shown count c.variables-count.ensures.count (sym c.as_slice-2.ensures.value) c.in_ok-sets.ensures in
    let some : 1 ≤ c.items-atoms.result = omega (arith, c.requires.fits.1.some, c.items-atoms.ensures.items) in
    let graph : IsGraphOf now.query (record { atoms = c.items-atoms.result; vars = c.as_slice-2.result.now }) =
    graph_of now c.requires.fits.0 c.requires.fits.1 c.items-atoms.result c.as_slice-2.result.now c.items-atoms.ensures.items some c.items-atoms.ensures.limit known in
    IfOk-weaker c.new.result (λ (g : Hypergraph). g ≡ record { atoms = c.items-atoms.result; vars = c.as_slice-2.result.now }) (λ (g : Hypergraph). IsGraphOf now.query g)
    (λ g e. subst (λ (h : Hypergraph). IsGraphOf now.query h) (sym e) graph) c.new.ensures
