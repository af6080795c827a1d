-- The first solutions of a row, and the known solutions.
use Rattle.std.proofs.Common.{◌≡◌, ℕ, zero, suc, ◌+◌, ◌<◌, ◌≤◌, List, [], ◌∷◌, length, take, get_or, refl, sym, ap, ◌∙◌, subst, arith}
use Rattle.rank_key.specs.Keys.{KeyFits}
use Rattle.take2_heap.specs.declared.entry.Entry.{Entry}
use Rattle.tdp_core.specs.TreeView.{NodeView, rows, rank, child_count, group_named}
use Rattle.tdp_core.specs.WellFormed.{IsFormed, IsTieFreeTree}
use Rattle.tdp_model.specs.KeyTuple.{KeyOf, key_add, key_none}
use Rattle.tdp_model.specs.Product.{Pair}
use Rattle.stream_store.specs.declared.linked.Linked.{Linked}
use Rattle.suffix_streams.specs.declared.cell.Cell.{Cell}
use Rattle.suffix_streams.specs.declared.stream.Found.{Found}
use Rattle.suffix_streams.specs.NodeStreamsView.{NodeStreamsView}
use Rattle.suffix_streams.specs.Rankings.{child, part_list, group_list}
use Rattle.suffix_streams.specs.Frontiers.{AreFirst, AreFirstBy, IsFrontier}
use Rattle.suffix_streams.specs.TreeStreams.{place_of, product_of, part_known, AreLefts, HasParts, IsCell}
use Rattle.suffix_streams.proofs.Rankings.{kid, named_in, own_some, own_first, group_some, part_ascends, group_ascends, sums_begin, sum_fits}
use Rattle.suffix_streams.proofs.Growth.{frontier_begins}
use Rattle.suffix_streams.proofs.ListEnds.{map_at}

taken_at : {K : Type 0} (ks : List K) (n i : ℕ) (d : K) → i < n → get_or (take n ks) i d ≡ get_or ks i d
taken_at [] zero i d l = refl
taken_at [] (suc n) i d l = refl
taken_at (k ∷ ks) zero i d l = absurd (omega arith)
taken_at (k ∷ ks) (suc n) zero d l = refl
taken_at (k ∷ ks) (suc n) (suc i) d l = taken_at ks n i d (omega arith)

-- the first members of a ranking have its keys
pub first_by_at : {X : Type 0} (d : ℕ) (key_at : X → KeyOf d 16) (xs : List X) (ks : List (KeyOf d 16)) (i : ℕ) (x : X) → AreFirstBy d key_at xs ks → i < length xs → key_at (get_or xs i x) ≡ get_or ks i (key_none d 16)
first_by_at d key_at xs ks i x p l = sym (map_at key_at xs i x (key_none d 16) l) ∙ ap (λ z. get_or z i (key_none d 16)) p.2 ∙ taken_at ks (length xs) i (key_none d 16) l

pub first_at : {R T : Type 0} (d : ℕ) (key : R → KeyOf d 16) (xs : List (Entry R T)) (ks : List (KeyOf d 16)) (i : ℕ) (x : Entry R T) → AreFirst d key xs ks → i < length xs → key (get_or xs i x).rank ≡ get_or ks i (key_none d 16)
first_at {R} {T} d key xs ks i x p l = first_by_at d (λ (e : Entry R T). key e.rank) xs ks i x p l

-- the rank of a known solution is kept
pub lefts_at : {R : Type 0} (d : ℕ) (key : R → KeyOf d 16) (t : List (NodeView R)) (nodes : List (NodeStreamsView R)) (v r c b place : ℕ) (x : R) → c ≡ suc b → AreLefts d key t nodes v r c
    → place < part_known nodes v r c → (place < length (product_of nodes v r b).ranks) × (key (get_or (product_of nodes v r b).ranks place x) ≡ get_or (part_list d key t v r c) place (key_none d 16))
lefts_at d key t nodes v r zero b place x e h l = absurd (omega arith)
lefts_at {R} d key t nodes v r (suc c) b place x e h l =
    let same : c ≡ b = omega arith in
    let within : place < length (product_of nodes v r c).ranks = omega (arith, l, h.0) in
    let at : key (get_or (product_of nodes v r c).ranks place x) ≡ get_or (part_list d key t v r (suc c)) place (key_none d 16) = first_by_at d key (product_of nodes v r c).ranks (part_list d key t v r (suc c)) place x h.1 within in
    subst (λ b. (place < length (product_of nodes v r b).ranks) × (key (get_or (product_of nodes v r b).ranks place x) ≡ get_or (part_list d key t v r (suc c)) place (key_none d 16))) same (within, at)

pub known_key : {R : Type 0} (d : ℕ) (key : R → KeyOf d 16) (t : List (NodeView R)) (nodes : List (NodeStreamsView R)) (v r c b place : ℕ) (x : R) → c ≡ suc b → AreLefts d key t nodes v r c → place < part_known nodes v r c
    → ((a : R) → x ≡ get_or (product_of nodes v r b).ranks place a) → key x ≡ get_or (part_list d key t v r c) place (key_none d 16)
known_key {R} d key t nodes v r c b place x e h l at = ap key (at x) ∙ (lefts_at d key t nodes v r c b place x e h l).1

module _ {R : Type 0} (d : ℕ) (key : R → KeyOf d 16) (t : List (NodeView R)) (formed : IsFormed d key t) (apart : IsTieFreeTree t) where
  -- the first sum is the sum of the firsts
  pub first_sum : (v r c : ℕ) → v < length t → r < rows t v → c < child_count t v → 0 < length (part_list d key t v r c)
      → (0 < length (part_list d key t v r (suc c)))
      × (get_or (part_list d key t v r (suc c)) 0 (key_none d 16) ≡ key_add d 16 (get_or (part_list d key t v r c) 0 (key_none d 16)) (get_or (group_list d key t (child t v c) (group_named t v r c)) 0 (key_none d 16)))
  first_sum v r c l row h some =
      let k : KeyOf d 16 = key_add d 16 (get_or (part_list d key t v r c) 0 (key_none d 16)) (get_or (group_list d key t (child t v c) (group_named t v r c)) 0 (key_none d 16)) in
      let e : Entry (KeyOf d 16) Pair = record { rank = k; tag = record { left = 0; right = 0 } } in
      let f : (get_or (part_list d key t v r (suc c)) 0 (key_none d 16) ≡ k)
      × IsFrontier d (λ (z : KeyOf d 16). z) (λ (p : Pair). p) (part_list d key t v r c) (group_list d key t (child t v c) (group_named t v r c)) (part_list d key t v r (suc c)) (e.tag ∷ []) (e ∷ []) =
      frontier_begins d (λ (z : KeyOf d 16). z) (part_list d key t v r c) (group_list d key t (child t v c) (group_named t v r c)) (part_list d key t v r (suc c)) (part_ascends d key t v r c) (group_ascends d key t (child t v c) (group_named t v r c)) (λ (p : Pair). p)
      e some (group_some d key t formed (child t v c) (group_named t v r c) (kid d key t formed v c h).within (named_in d key t formed v r c row h)) refl refl (sums_begin d key t formed apart v r c l h) in
      (omega (arith, f.1.prefix.1), f.0)

  pub part_some : (v r c : ℕ) → v < length t → r < rows t v → c ≤ child_count t v → 0 < length (part_list d key t v r c)
  part_some v r zero l row h = own_some d key t formed v r l
  part_some v r (suc c) l row h = (first_sum v r c l row (omega arith) (part_some v r c l row (omega arith))).0

  -- one more child's first solution is joined
  pub first_longer : (v r c : ℕ) (a b x : KeyOf d 16) → v < length t → r < rows t v → c < child_count t v → a ≡ get_or (part_list d key t v r c) 0 (key_none d 16)
      → b ≡ get_or (group_list d key t (child t v c) (group_named t v r c)) 0 (key_none d 16) → x ≡ key_add d 16 a b → x ≡ get_or (part_list d key t v r (c + 1)) 0 (key_none d 16)
  first_longer v r c a b x l row h ea eb ex =
      let n : suc c ≡ c + 1 = omega arith in
      ex ∙ ap (λ z. key_add d 16 z b) ea ∙ ap (λ z. key_add d 16 (get_or (part_list d key t v r c) 0 (key_none d 16)) z) eb ∙ sym (first_sum v r c l row h (part_some v r c l row (omega arith))).1 ∙ ap (λ m. get_or (part_list d key t v r m) 0 (key_none d 16)) n

  pub firsts_fit : (v r c : ℕ) (a b : KeyOf d 16) → v < length t → r < rows t v → c < child_count t v → a ≡ get_or (part_list d key t v r c) 0 (key_none d 16)
      → b ≡ get_or (group_list d key t (child t v c) (group_named t v r c)) 0 (key_none d 16) → KeyFits d key (key_add d 16 a b)
  firsts_fit v r c a b l row h ea eb =
      subst (λ z. KeyFits d key (key_add d 16 z b)) (sym ea) (subst (λ z. KeyFits d key (key_add d 16 (get_or (part_list d key t v r c) 0 (key_none d 16)) z)) (sym eb)
      (sum_fits d key t formed v r c 0 0 l h (part_some v r c l row (omega arith)) (group_some d key t formed (child t v c) (group_named t v r c) (kid d key t formed v c h).within (named_in d key t formed v r c row h))))

module _ {R : Type 0} (d : ℕ) (key : R → KeyOf d 16) (t : List (NodeView R)) (formed : IsFormed d key t) where
  -- without children there is only the row's own solution
  pub own_at : (nodes : List (NodeStreamsView R)) (v r c place : ℕ) (k : KeyOf d 16) → v < length t → c ≡ 0 → place < part_known nodes v r c → k ≡ rank t d key v r → k ≡ get_or (part_list d key t v r c) place (key_none d 16)
  own_at nodes v r zero place k l e p s =
      let first : 0 ≡ place = omega arith in
      s ∙ sym (own_first d key t formed v r l) ∙ ap (λ i. get_or (part_list d key t v r 0) i (key_none d 16)) first
  own_at nodes v r (suc c) place k l e p s = absurd (omega arith)

  -- what is known is in the ranking
  pub known_within : (nodes : List (NodeStreamsView R)) (v r c place : ℕ) → v < length t → AreLefts d key t nodes v r c → place < part_known nodes v r c → place < length (part_list d key t v r c)
  known_within nodes v r zero place l h p = omega (arith, own_some d key t formed v r l)
  known_within nodes v r (suc c) place l h p = omega (arith, p, h.0, h.1.1)

-- the sum of a cell fits, if x and y are the keys of its parts
pub cell_fits : {R : Type 0} (d : ℕ) (key : R → KeyOf d 16) (t : List (NodeView R)) → IsFormed d key t → (es : List (Linked (Found R))) (nodes : List (NodeStreamsView R)) (v r c : ℕ) (cell : Cell) → v < length t → HasParts d key t es nodes v r c
    → IsCell d key t es nodes v r c cell → (x y : KeyOf d 16) → x ≡ get_or (part_list d key t v r c) cell.left (key_none d 16)
    → y ≡ get_or (group_list d key t (child t v c) (group_named t v r c)) (place_of es cell.right) (key_none d 16) → KeyFits d key (key_add d 16 x y)
cell_fits {R} d key t formed es nodes v r c cell l parts known x y x_is y_is =
    let right = parts.rights cell.right known.right known.node known.group in
    subst (λ (z : KeyOf d 16). KeyFits d key (key_add d 16 z y)) (sym x_is)
    (subst (λ (z : KeyOf d 16). KeyFits d key (key_add d 16 (get_or (part_list d key t v r c) cell.left (key_none d 16)) z)) (sym y_is)
    (parts.fits cell.left (place_of es cell.right) (known_within d key t formed nodes v r c cell.left l parts.lefts known.left) right.0))
