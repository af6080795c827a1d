-- The hypergraph of a bound query.
use Rattle.std.proofs.Common.{◌≡◌, ◌⊎◌, ◌↔◌, ◌==◌, ◌<◌, ◌≤◌, ◌+◌, ◌*◌, ◌^◌, ◌%◌, ℕ, true, List, [], ◌∷◌, ◌++◌, length, get_or, slice_index, bit_or, refl, sym, ap, subst, ◌∙◌, inl, inr, arith, w16}
use Rattle.std.specs.List.{All}
use Rattle.std.specs.Int.{bit_at}
use Rattle.std.proofs.lemmas.Bool.{cases_eq}
use Rattle.std.proofs.lemmas.Bool.Decides.{Decides-eqb}
use Rattle.std.proofs.lemmas.Nat.Bits.{bit_at_set_other, bit_at_set_same}
use Rattle.hyper_graph.specs.Graph.{IsIn}
use Rattle.hyper_graph.proofs.Bits.{bit_from_in, in_from_bit}
use Rattle.anyk_model.specs.Table.{Table}
use Rattle.anyk_model.specs.Query.{Column}
use Rattle.bound_query.specs.Classes.{HasVariable, IsShared, variable_at}
use Rattle.bound_query.specs.Graph.{AreItemSets, IsGraphOf, IsItemSet, has_number}
use Rattle.bound_query.specs.NamedPlaces.{IsInside}
use Rattle.bound_query.specs.WeighedQuery.{BoundQuery, Fits, variables_at}
use Rattle.bound_query.proofs.Lists.{at_last, at_left, length_last, at_any}
use Rattle.bound_query.proofs.Inside.{shared_inside}
use Rattle.bound_query.proofs.Least.{at_member, shared_along}
use Rattle.rankings.proofs.Members.{any_member, member_any}

-- ---- one more item in a set

pub in_with : (set item a : ℕ) → item < 16 → IsIn (bit_or set (1 * 2 ^ item % 65536)) a ↔ (IsIn set a ⊎ (a ≡ item))
in_with set item a h = (
  λ i. elim (cases_eq a item) [
    | inl e ↦ inr e
    | inr ne ↦ inl (in_from_bit set a (sym (bit_at_set_other w16 set item h a ne) ∙ bit_from_in (bit_or set (1 * 2 ^ item % 65536)) a i))
  ],
  λ s. elim (cases_eq a item) [
    | inl e ↦ in_from_bit (bit_or set (1 * 2 ^ item % 65536)) a (ap (bit_at (bit_or set (1 * 2 ^ item % 65536))) e ∙ bit_at_set_same w16 set item h)
    | inr ne ↦ elim s [
      | inl i ↦ in_from_bit (bit_or set (1 * 2 ^ item % 65536)) a (bit_at_set_other w16 set item h a ne ∙ bit_from_in set a i)
      | inr e ↦ absurd (ne e)
    ]
  ],
)

-- ---- the sets of variables, one after another

pub sets_more : (lists : List (List (ℕ × ℕ))) (items n set : ℕ) (sets more : List ℕ) → more ≡ sets ++ set ∷ []
    → AreItemSets lists items n sets → IsItemSet lists n items set → AreItemSets lists items (n + 1) more
sets_more lists items n set sets more e known own =
    let count = known.count in
    subst (λ (l : List ℕ). AreItemSets lists items (n + 1) l) (sym e) (record {
      count = length_last sets set ∙ ap (λ (k : ℕ). k + 1) count;
      each = λ number less. elim (cases_eq number n) [
        | inl is ↦
            let last : get_or (sets ++ set ∷ []) number 0 ≡ set = ap (λ (k : ℕ). get_or (sets ++ set ∷ []) k 0) (is ∙ sym count) ∙ at_last sets set 0 in
            subst (λ (k : ℕ). IsItemSet lists number items k) (sym last) (subst (λ (k : ℕ). IsItemSet lists k items set) (sym is) own)
        | inr ne ↦
            subst (λ (k : ℕ). IsItemSet lists number items k) (sym (at_left sets set 0 number (omega (arith, less, ne, count)))) (known.each number (omega (arith, less, ne)))
      ];
    })

-- ---- the graph

pub same_sets : (lists others : List (List (ℕ × ℕ))) (n m count number : ℕ) (sets slice : List ℕ) → lists ≡ others → n ≡ m → count ≡ number → sets ≡ slice
    → AreItemSets lists n count sets → AreItemSets others m number slice
same_sets lists others n m count number sets slice p q r s h =
    subst (λ (l : List (List (ℕ × ℕ))). AreItemSets l m number slice) p (subst (λ (k : ℕ). AreItemSets lists k number slice) q
    (subst (λ (k : ℕ). AreItemSets lists n k slice) r (subst (λ (l : List ℕ). AreItemSets lists n count l) s h)))

module _ (bound : BoundQuery) (tables : List Table) (fits : Fits bound tables) where
  -- an item that has a variable exists
  item_there : (a number place : ℕ) → HasVariable bound.query.equalities bound.variables a number place → a < length bound.query.items
  item_there a number place h =
      let here : Column = record { item = a; place = place } in
      let variable = variable_at bound.variables number in
      let shared : IsShared bound.query.equalities here =
      shared_along bound.query.equalities variable here h.linked ((fits.variables.members variable).0 (at_member bound.variables number h.known)).0 in
      let i : IsInside tables bound.query.items here = shared_inside tables bound.query.items bound.query.equalities fits.within.equalities here shared in
      i.item

  number_has : (a number : ℕ) → a < length bound.query.items → has_number (variables_at bound.lists a) number ≡ true
      → (place : ℕ) × HasVariable bound.query.equalities bound.variables a number place
  number_has a number h is =
      let found = any_member (λ (p : ℕ × ℕ). p.0 == number) (variables_at bound.lists a) is in
      let same : found.0.0 ≡ number = (Decides-eqb found.0.0 number).0 found.2 in
      (found.0.1, subst (λ (n : ℕ). HasVariable bound.query.equalities bound.variables a n found.0.1) same (((fits.lists a h).members found.0).0 found.1))

  has_number_lem : (a number place : ℕ) → a < length bound.query.items → HasVariable bound.query.equalities bound.variables a number place
      → has_number (variables_at bound.lists a) number ≡ true
  has_number_lem a number place h v =
      member_any (λ (p : ℕ × ℕ). p.0 == number) (number, place) (variables_at bound.lists a) (((fits.lists a h).members (number, place)).1 v) ((Decides-eqb number number).1 refl)

  pub sets_within : (n count : ℕ) (sets : List ℕ) → AreItemSets bound.lists n count sets → All (λ set. set < 2 ^ n) sets
  sets_within n count sets known k d h =
      let l : slice_index sets k < 2 ^ n = (known.each k (omega (arith, h, known.count))).within in
      subst (λ (z : ℕ). z < 2 ^ n) (at_any sets k 0 d h) l

  pub graph_of : (n : ℕ) (sets : List ℕ) → n ≡ length bound.query.items → 1 ≤ n → n ≤ 16 → AreItemSets bound.lists n (length bound.variables) sets
      → IsGraphOf bound.query (record { atoms = n; vars = sets })
  graph_of n sets atoms some few known = record {
    is_graph = record { some = some; few = few; within = sets_within n (length bound.variables) sets known };
    atoms = atoms;
    variables = bound.variables;
    are_variables = fits.variables;
    numbered = known.count;
    has = λ v a h. (
      λ i. let m = ((known.each v h).members a).0 i in let l = m.0 in number_has a v (omega (arith, l, atoms)) m.1,
      λ p.
          let there : a < length bound.query.items = item_there a v p.0 p.1 in
          ((known.each v h).members a).1 (omega (arith, there, atoms), has_number_lem a v p.0 there p.1),
    );
  }
