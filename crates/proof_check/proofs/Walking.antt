-- What the offers of a group tell of a beginning that may be left there.
use Rattle.std.proofs.Common.{◌≡◌, ℕ, ◌+◌, ◌<◌, Option, None, Some, List, [], ◌∷◌, ◌++◌, length, length-append}
use Rattle.std.proofs.Common.{slice_get, slice_index, slice_index_or, sym, ap, subst, ◌∙◌, inl, inr, arith}
use Rattle.std.proofs.lemmas.Bool.{cases_lt}
use Rattle.std.proofs.lemmas.List.{get_or_append_left, get_or_push}
use Rattle.std.proofs.lemmas.List.Elements.{All-get_or}
use Rattle.std.proofs.lemmas.Option.{get_or_from_slice_get, slice_get_within}
use Rattle.join_tree.specs.declared.tree.JoinTree.{JoinTree}
use Rattle.tdp_model.specs.KeyTuple.{KeyOf, key_add}
use Rattle.tdp_core.specs.RawView.{raw_len}
use Rattle.proof_check.specs.BoundedRows.{BoundedView}
use Rattle.proof_check.proofs.Nodes.{all_nodes}
use Rattle.proof_check.specs.declared.open_places.OpenPlace.{OpenPlace}
use Rattle.proof_check.specs.declared.offers.Offer.{Offer}
use Rattle.proof_check.specs.Levels.{AreGroups, AreLeast, AreLists, AreOffers, CanLeave, FitSums, FitsRows, HasLow}
use Rattle.proof_check.specs.Levels.{IsFirstEarly, IsFirstPast, IsInGroup, IsLeftAfter, IsLeftBefore, IsListed, IsReady}
use Rattle.proof_check.specs.Levels.{FitsGroup, IsOfferOf, IsPairAt, list_at, own_bounds}
use Rattle.proof_check.proofs.FirstOpen.{all_past, first_past, past_not}

module _ {R : Type 0} (join : JoinTree) (tree : BoundedView R) (d : ℕ) (key : R → KeyOf d 16)
    (p : ℕ) (ready : IsReady join tree d key p) where
  pub own_size : length (own_bounds tree p) ≡ raw_len tree.raw p
  own_size =
      let nodes = all_nodes ready.bounded.query ready.bounded.tables join ready.ordered ready.long in
      ready.bounded.bounded.own_length p (omega (arith, nodes, ready.node))

  module _ (bounds : ℕ) (groups : List (List ℕ)) (are : AreGroups (own_bounds tree p) bounds groups) where
    -- the rows of a group
    pub row_in : (g m : ℕ) → g < bounds → m < length (list_at groups g)
        → IsInGroup join tree d key p g (slice_index (list_at groups g) m)
    row_in g m l h =
        let r = are.rows g m l h in
        (omega (arith, own_size, r.0), r.1)

    pub row_found : (g i : ℕ) → g < bounds → IsInGroup join tree d key p g i
        → (m : ℕ) × (m < length (list_at groups g)) × (slice_index (list_at groups g) m ≡ i)
    row_found g i l inside = are.every g i l (let size = own_size in let x = inside.0 in omega (arith, size, x)) inside.1

    pub row_fits : (g : ℕ) (k : KeyOf d 16) → g < bounds → FitsGroup join tree d key p g k
        → FitsRows join tree d key p (list_at groups g) k
    row_fits g k l fits m low h has = fits (slice_index (list_at groups g) m) low (row_in g m l h) has

  module _ (groups : List (List ℕ)) (least : List (Option R))
      (grouped : AreGroups (own_bounds tree p) (length least) groups) (last : Option (KeyOf d 16))
      (branches : List (Option (OpenPlace R))) (its : AreLeast d key (length branches) branches least)
      (lists : List (List (Offer R))) (are : AreLists join tree d key p last groups least (length least) lists) where
    -- the list of a branch's group
    pub listed : (n : ℕ) (b : OpenPlace R) → n < length branches → slice_index_or branches n None ≡ Some b
        → b.group < length least → IsListed join tree d key p last b lists
    listed n b l e h =
        let low = its.below n b l e in
        record {
          within = let c = are.count in omega (arith, c, h);
          rows = list_at groups b.group;
          inside = λ m w. row_in (length least) groups grouped b.group m h w;
          every = λ i inside. row_found (length least) groups grouped b.group i h inside;
          known = key low.0;
          less = low.2;
          offers = are.each b.group low.0 h low.1;
        }

  module _ (last : Option (KeyOf d 16)) (b : OpenPlace R) (lists : List (List (Offer R)))
      (its : IsListed join tree d key p last b lists) where
    abbrev offers : List (Offer R)
    offers = slice_index_or lists b.group []

    -- an offer is a row of the group, with its rank
    pub offer_is : (j : ℕ) (o : Offer R) → slice_get offers j ≡ Some o
        → IsInGroup join tree d key p b.group o.row × HasLow join tree d key p o.row (Some (key o.low))
    offer_is j o here =
        let all = All-get_or (IsOfferOf join tree d key p its.rows) offers j o
        (slice_get_within offers j o here) its.offers.each in
        let this = subst (IsOfferOf join tree d key p its.rows) (get_or_from_slice_get offers j o o here) all in
        (subst (IsInGroup join tree d key p b.group) this.0.2 (its.inside this.0.0 this.0.1), this.1)

    pub offers_fit : CanLeave join tree d key p b → FitSums d key b lists
    offers_fit can j o here = let this = offer_is j o here in can.1 o.row (key o.low) this.0 this.1

    module _ (pairs : List (ℕ × ℕ)) (n : ℕ) where
      abbrev IsTakenRow : ℕ → Type 0
      IsTakenRow i = (j : ℕ) × IsPairAt pairs j (n, i)

      pub left_after : IsFirstPast d key pairs n last b lists → IsLeftAfter join tree d key p pairs n last b
      left_after first i low inside new has =
          let at = its.every i inside in
          let free : IsTakenRow (slice_index its.rows at.0) → ⊥ = λ t. new (subst IsTakenRow at.2 t) in
          let its_low = subst (λ z. HasLow join tree d key p z (Some low)) (sym at.2) has in
          elim first [
            | inl taken ↦
                all_past join tree d key ready.bounded p its.rows its.known last offers its.offers pairs n (key b.base) its.less taken at.0
                low at.1 free its_low
            | inr one ↦
                first_past join tree d key ready.bounded p its.rows its.known last offers its.offers pairs n (key b.base) its.less one.0
                one.1.0 one.1.1 one.1.2 one.1.3 at.0 low at.1 free its_low
          ]

      pub left_before : IsFirstEarly d key pairs n last b lists → IsLeftBefore join tree d key p pairs n last b
      left_before first =
          let o = first.1.0 in
          let this = offer_is first.0 o first.1.1 in
          record {
            row = o.row;
            low = key o.low;
            inside = this.0;
            untaken = first.1.2;
            has_low = this.1;
            early = past_not d last (key_add d 16 (key b.base) (key o.low)) first.1.3;
          }

-- the lists of one group more
pub lists_more : {R : Type 0} (join : JoinTree) (tree : BoundedView R) (d : ℕ) (key : R → KeyOf d 16) (p : ℕ)
    (last : Option (KeyOf d 16)) (groups : List (List ℕ)) (least : List (Option R)) (g : ℕ)
    (lists : List (List (Offer R))) (new : List (Offer R)) → AreLists join tree d key p last groups least g lists
    → ((k : R) → slice_index_or least g None ≡ Some k
    → AreOffers join tree d key p (list_at groups g) (key k) last new)
    → AreLists join tree d key p last groups least (g + 1) (lists ++ new ∷ [])
lists_more join tree d key p last groups least g lists new are here = record {
  count = let c = are.count in omega (arith, c, length-append lists (new ∷ []));
  each = λ h k l e. elim (cases_lt h g) [
    | inl less ↦
        subst (AreOffers join tree d key p (list_at groups h) (key k) last)
        (sym (get_or_append_left lists (new ∷ []) [] h (omega (arith, less, are.count)))) (are.each h k less e)
    | inr far ↦
        let at : h ≡ g = omega (arith, l, far) in
        subst (AreOffers join tree d key p (list_at groups h) (key k) last)
        (sym (get_or_push lists new [] h (omega (arith, at, are.count))))
        (subst (λ z. AreOffers join tree d key p (list_at groups z) (key k) last new) (sym at)
        (here k (ap (λ z. slice_index_or least z None) (sym at) ∙ e)))
  ];
}
