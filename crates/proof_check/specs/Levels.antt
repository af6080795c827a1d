-- The choices at one node: the answers by how they begin, and the rows that may follow.
use Rattle.std.specs.Prelude.{◌≡◌, ◌↔◌, ◌⊎◌, ℕ, ◌+◌, ◌<◌, suc, cond, nat_le, List, [], Bool, true, false}
use Rattle.std.specs.Prelude.{Option, None, Some, option_map, length, slice_get, slice_index, slice_index_or, All, Contains}
use Rattle.std.specs.Prelude.{MatchOption, ◌≤◌, map}
use Rattle.join_tree.specs.Rerooting.{IsTree}
use Rattle.join_tree.specs.declared.tree.JoinTree.{JoinTree}
use Rattle.rank_key.specs.Keys.{KeyFits}
use Rattle.tdp_model.specs.KeyTuple.{KeyOf, key_add, key_below, key_none}
use Rattle.tdp_model.specs.KeyNumbers.{key_less}
use Rattle.tdp_model.specs.Remains.{AtMost}
use Rattle.tdp_model.specs.TreeProblem.{sum_from}
use Rattle.tdp_core.specs.RawView.{IsRawFormed, raw_len, raw_number, raw_rank}
use Rattle.proof_check.specs.BoundedRows.{BoundedView, bound_ranks, named_bound, own_bound, rank_of_bound}
use Rattle.proof_check.specs.LowBounds.{IsBoundedTree, IsLow, OfEach}
use Rattle.proof_check.specs.RowPlaces.{place_at}
use Rattle.proof_check.specs.declared.offers.Offer.{Offer}
use Rattle.proof_check.specs.declared.open_places.OpenPlace.{OpenPlace}

-- # Beginnings

-- pair k of the list
abbrev pub IsPairAt : List (ℕ × ℕ) → ℕ → ℕ × ℕ → Type 0
IsPairAt pairs k pair = (k < length pairs) × (slice_index_or pairs k (0, 0) ≡ pair)

-- two lists of places begin alike: they have the same place at each of the first p nodes
abbrev pub BeginAlike : ℕ → List ℕ → List ℕ → Type 0
BeginAlike p a b = (q : ℕ) → q < p → slice_index a q ≡ slice_index b q

-- the places of an answer, and those by which a beginning is told
abbrev pub list_at : List (List ℕ) → ℕ → List ℕ
list_at lists i = slice_index_or lists i []

-- Answers that begin alike have one number, and each number has places that begin so.
pub record ArePrefixes (p : ℕ) (places : List (List ℕ)) (numbers : List ℕ)
    (starts : List (List ℕ)) : Type 0 where
  pub count : length numbers ≡ length places
  pub within : (i : ℕ) → i < length places → slice_index numbers i < length starts
  pub begins : (i : ℕ) → i < length places
      → BeginAlike p (list_at places i) (list_at starts (slice_index numbers i))
  pub apart : (m n : ℕ) → m < length starts → n < length starts
      → BeginAlike p (list_at starts m) (list_at starts n) → m ≡ n
  pub begun : (n : ℕ) → n < length starts
      → (p ≡ 0) ⊎ ((i : ℕ) × (i < length places)
      × BeginAlike p (list_at starts n) (list_at places i))
  pub first : p ≡ 0 → 0 < length starts

-- an answer that begins with number n has row r at node p
abbrev pub IsTaken : ℕ → List (List ℕ) → List ℕ → ℕ → ℕ → Type 0
IsTaken p places numbers n r =
    (i : ℕ) × (i < length places) × (slice_index numbers i ≡ n) × (place_at places i p ≡ r)

-- The beginnings before node p, and the pairs of a beginning and its next row in an answer.
pub record AreBeginnings (p : ℕ) (places : List (List ℕ)) (numbers : List ℕ)
    (starts : List (List ℕ))
    (pairs : List (ℕ × ℕ)) : Type 0 where
  pub prefixes : ArePrefixes p places numbers starts
  pub taken : (n r : ℕ) → ((k : ℕ) × IsPairAt pairs k (n, r)) ↔ IsTaken p places numbers n r

-- the key comes after the last answer's; none does without one
abbrev pub IsPast : (d : ℕ) → Option (KeyOf d 16) → KeyOf d 16 → Type 0
IsPast d None k = ⊥
IsPast d (Some last) k = key_below d 16 last k

abbrev pub is_past : (d : ℕ) → Option (KeyOf d 16) → KeyOf d 16 → Bool
is_past d None k = false
is_past d (Some last) k = key_less d 16 last k

module _ {R : Type 0} (d : ℕ) (key : R → KeyOf d 16) where
  -- earlier offers have lesser ranks
  abbrev pub AreAscending : List (Offer R) → Type 0
  AreAscending offers =
      (i j : ℕ) (a b : Offer R) → i ≤ j → slice_get offers i ≡ Some a → slice_get offers j ≡ Some b
      → AtMost (key_below d 16) (key a.low) (key b.low)

  -- what is known for the branch can be added to the offers of its group
  abbrev pub FitSums : OpenPlace R → List (List (Offer R)) → Type 0
  FitSums b lists =
      (j : ℕ) (o : Offer R) → slice_get (slice_index_or lists b.group []) j ≡ Some o
      → KeyFits d key (key_add d 16 (key b.base) (key o.low))

  -- of these offers each before place j is taken
  abbrev pub AreTaken : List (ℕ × ℕ) → ℕ → List (Offer R) → ℕ → Type 0
  AreTaken pairs n offers j =
      (i : ℕ) → i < j → (a : Offer R) → slice_get offers i ≡ Some a
      → (k : ℕ) × IsPairAt pairs k (n, a.row)

  -- each offer is taken, or the first that is not comes after the last answer
  abbrev pub IsFirstPast : List (ℕ × ℕ) → ℕ → Option (KeyOf d 16) → OpenPlace R
      → List (List (Offer R)) → Type 0
  IsFirstPast pairs n last b lists =
      ((i : ℕ) (a : Offer R) → slice_get (slice_index_or lists b.group []) i ≡ Some a
      → (k : ℕ) × IsPairAt pairs k (n, a.row))
      ⊎ ((j : ℕ) × ((o : Offer R) × (slice_get (slice_index_or lists b.group []) j ≡ Some o)
      × AreTaken pairs n (slice_index_or lists b.group []) j
      × (is_past d last (key_add d 16 (key b.base) (key o.low)) ≡ true)))

  -- an offer that is not taken does not
  abbrev pub IsFirstEarly : List (ℕ × ℕ) → ℕ → Option (KeyOf d 16) → OpenPlace R
      → List (List (Offer R)) → Type 0
  IsFirstEarly pairs n last b lists =
      (j : ℕ) × ((o : Offer R) × (slice_get (slice_index_or lists b.group []) j ≡ Some o)
      × (((k : ℕ) × IsPairAt pairs k (n, o.row)) → ⊥)
      × (is_past d last (key_add d 16 (key b.base) (key o.low)) ≡ false))

module _ {R : Type 0} (join : JoinTree) (tree : BoundedView R) (d : ℕ) (key : R → KeyOf d 16) where
  -- the join tree is one, the tree is bounded and formed, and p is a node
  pub record IsReady (p : ℕ) : Type 0 where
    pub ordered : IsTree join.count join.atom join.parent
    pub bounded : IsBoundedTree join d key tree
    pub formed : IsRawFormed d key tree.raw
    pub long : length join.atom ≡ 16
    pub node : p < join.count

  -- # What is known before the row of node p is chosen

  -- what node q gives: the rank of its row, or that of the bound of its group if an earlier row
  -- names it
  abbrev pub base_part : ℕ → List ℕ → ℕ → Option (KeyOf d 16)
  base_part p start q =
      cond (nat_le (suc q) p) (Some (raw_rank tree.raw d key q (slice_index start q)))
      (cond (nat_le q p) (Some (key_none d 16))
      (cond (nat_le (suc (slice_index join.parent q)) p)
      (option_map (rank_of_bound tree d key q)
      (named_bound tree q (slice_index start (slice_index join.parent q))))
      (Some (key_none d 16))))

  -- Without a key, some such group has no bound; else the key is the sum of what the nodes give.
  abbrev pub IsBase : ℕ → List ℕ → Option (KeyOf d 16) → Type 0
  IsBase p start None = (q : ℕ) × (q < join.count) × (base_part p start q ≡ None)
  IsBase p start (Some k) =
      (f : ℕ → KeyOf d 16) × ((q : ℕ) → q < join.count → base_part p start q ≡ Some (f q))
      × (k ≡ sum_from (key_add d 16) (key_none d 16) f join.count 0)

  -- the bound of the group from which the row of node p is chosen
  abbrev pub IsGroupOf : ℕ → List ℕ → ℕ → Type 0
  IsGroupOf p start g =
      ((p ≡ 0) × (g ≡ 0))
      ⊎ ((0 < p) × (named_bound tree p (slice_index start (slice_index join.parent p)) ≡ Some g))

  -- where a beginning may be left at node p: for which group, and what is known then
  pub record IsOpenPlace (p : ℕ) (start : List ℕ) (branch : OpenPlace R) : Type 0 where
    pub group : IsGroupOf p start branch.group
    pub within : branch.group < length (bound_ranks tree p)
    pub base : IsBase p start (Some (key branch.base))

  -- it may not be left: the group has no bound, or one of those that are known to be open has none
  abbrev pub IsNoOpenPlace : ℕ → List ℕ → Type 0
  IsNoOpenPlace p start = ((g : ℕ) → g < length (bound_ranks tree p) → IsGroupOf p start g → ⊥)
      ⊎ IsBase p start None

  -- # The rows that may follow

  -- the rank of row i of node p with the bounds of the groups that it names, if each has one
  abbrev pub HasLow : ℕ → ℕ → Option (KeyOf d 16) → Type 0
  HasLow p i low = OfEach join d key tree
      (λ query tables c. IsLow query tables join d c p (raw_number tree.raw p i) low)

  -- row i of node p is in the group of bound g
  abbrev pub IsInGroup : ℕ → ℕ → ℕ → Type 0
  IsInGroup p g i = (i < raw_len tree.raw p) × (own_bound tree p i ≡ Some g)

  -- Row i leaves beginning n at node p, and no answer has it there: the pairs of a beginning and
  -- its next row in an answer lack it. The key is the least that may follow.
  pub record IsWay (p : ℕ) (starts : List (List ℕ)) (pairs : List (ℕ × ℕ)) (n i : ℕ)
      (k : KeyOf d 16) : Type 0 where
    pub number : n < length starts
    pub group : ℕ
    pub within : group < length (bound_ranks tree p)
    pub is_group : IsGroupOf p (list_at starts n) group
    pub base : KeyOf d 16
    pub is_base : IsBase p (list_at starts n) (Some base)
    pub row : IsInGroup p group i
    pub untaken : ((j : ℕ) × IsPairAt pairs j (n, i)) → ⊥
    pub low : KeyOf d 16
    pub has_low : HasLow p i (Some low)
    pub whole : k ≡ key_add d 16 base low

  -- with this key the rank of each row of the group fits
  abbrev pub FitsGroup : ℕ → ℕ → KeyOf d 16 → Type 0
  FitsGroup p g k =
      (i : ℕ) (low : KeyOf d 16) → IsInGroup p g i → HasLow p i (Some low)
      → KeyFits d key (key_add d 16 k low)

  -- the same of these rows
  abbrev pub FitsRows : ℕ → List ℕ → KeyOf d 16 → Type 0
  FitsRows p rows k =
      (m : ℕ) (low : KeyOf d 16) → m < length rows → HasLow p (slice_index rows m) (Some low)
      → KeyFits d key (key_add d 16 k low)

  -- the branch's group has a bound, and what is known can be added to the ranks of its rows
  abbrev pub CanLeave : ℕ → OpenPlace R → Type 0
  CanLeave p b = (b.group < length (bound_ranks tree p)) × FitsGroup p b.group (key b.base)

  -- each row of the branch's group that no answer has after the beginning comes after the last
  -- answer
  abbrev pub IsLeftAfter : ℕ → List (ℕ × ℕ) → ℕ → Option (KeyOf d 16) → OpenPlace R → Type 0
  IsLeftAfter p pairs n last b =
      (i : ℕ) (low : KeyOf d 16) → IsInGroup p b.group i → (((j : ℕ) × IsPairAt pairs j (n, i)) → ⊥)
      → HasLow p i (Some low) → IsPast d last (key_add d 16 (key b.base) low)

  -- some such row does not
  pub record IsLeftBefore (p : ℕ) (pairs : List (ℕ × ℕ)) (n : ℕ) (last : Option (KeyOf d 16))
      (b : OpenPlace R)
      : Type 0 where
    pub row : ℕ
    pub low : KeyOf d 16
    pub inside : IsInGroup p b.group row
    pub untaken : ((j : ℕ) × IsPairAt pairs j (n, row)) → ⊥
    pub has_low : HasLow p row (Some low)
    pub early : IsPast d last (key_add d 16 (key b.base) low) → ⊥

  -- # Rows in order

  -- Row i of node p has no such rank, or with `least` it comes after the last answer.
  abbrev pub IsNoOffer : ℕ → KeyOf d 16 → Option (KeyOf d 16) → ℕ → Type 0
  IsNoOffer p least last i =
      HasLow p i None ⊎ ((low : KeyOf d 16) × HasLow p i (Some low)
      × IsPast d last (key_add d 16 least low))

  -- Row i of node p has no such rank, or it is offered, or what is known for each beginning of its
  -- group, at least `least`, makes it come after the last answer.
  abbrev pub IsOffered : ℕ → KeyOf d 16 → Option (KeyOf d 16) → List (Offer R) → ℕ → Type 0
  IsOffered p least last offers i =
      HasLow p i None
      ⊎ ((o : Offer R) × Contains offers o × (o.row ≡ i))
      ⊎ ((low : KeyOf d 16) × HasLow p i (Some low) × IsPast d last (key_add d 16 least low))

  -- an offer is one of these rows, with its rank and the bounds of the groups that it names
  abbrev pub IsOfferOf : ℕ → List ℕ → Offer R → Type 0
  IsOfferOf p rows o =
      ((m : ℕ) × (m < length rows) × (slice_index rows m ≡ o.row))
      × HasLow p o.row (Some (key o.low))

  -- The offers of these rows of node p. They are in order if there is a last answer that they are
  -- compared with.
  pub record AreOffers (p : ℕ) (rows : List ℕ) (least : KeyOf d 16) (last : Option (KeyOf d 16))
      (offers : List (Offer R)) : Type 0 where
    pub each : All (IsOfferOf p rows) offers
    pub every : (m : ℕ) → m < length rows → IsOffered p least last offers (slice_index rows m)
    pub ordered : (last ≡ None) ⊎ AreAscending d key offers

  -- For each of the first groups the offers that the least of what is known for its beginnings asks
  -- for, if anything is known.
  pub record AreLists (p : ℕ) (last : Option (KeyOf d 16)) (groups : List (List ℕ))
      (least : List (Option R)) (size : ℕ) (lists : List (List (Offer R))) : Type 0 where
    pub count : length lists ≡ size
    pub each : (g : ℕ) (k : R) → g < size → slice_index_or least g None ≡ Some k
        → AreOffers p (slice_index_or groups g []) (key k) last (slice_index_or lists g [])

  -- The list of the branch's group has the offers of the group's rows that no more than what is
  -- known for the branch asks for.
  pub record IsListed (p : ℕ) (last : Option (KeyOf d 16)) (b : OpenPlace R)
      (lists : List (List (Offer R))) : Type 0 where
    pub within : b.group < length lists
    pub rows : List ℕ
    pub inside : (m : ℕ) → m < length rows → IsInGroup p b.group (slice_index rows m)
    pub every : (i : ℕ) → IsInGroup p b.group i
        → (m : ℕ) × (m < length rows) × (slice_index rows m ≡ i)
    pub known : KeyOf d 16
    pub less : AtMost (key_below d 16) known (key b.base)
    pub offers : AreOffers p rows known last (slice_index_or lists b.group [])

  -- for each beginning of the first ones whether it may be left, and how
  abbrev pub AreOpenPlaces : ℕ → List (List ℕ) → List (Option (OpenPlace R)) → Type 0
  AreOpenPlaces p starts branches =
      (n : ℕ) → n < length branches
      → MatchOption (slice_index_or branches n None) (IsNoOpenPlace p (list_at starts n))
      (IsOpenPlace p (list_at starts n))

  -- # All nodes

  -- each way to leave the answers at node p comes after the last one
  pub record IsPassedAt (places : List (List ℕ)) (last : Option (KeyOf d 16)) (p : ℕ) : Type 0 where
    pub numbers : List ℕ
    pub starts : List (List ℕ)
    pub pairs : List (ℕ × ℕ)
    pub beginnings : AreBeginnings p places numbers starts pairs
    pub passed : (n i : ℕ) (k : KeyOf d 16) → IsWay p starts pairs n i k → IsPast d last k

  -- some way to leave the answers at a node does not
  pub record IsMissedAt (places : List (List ℕ)) (last : Option (KeyOf d 16)) : Type 0 where
    pub at : ℕ
    pub node : at < join.count
    pub numbers : List ℕ
    pub starts : List (List ℕ)
    pub pairs : List (ℕ × ℕ)
    pub beginnings : AreBeginnings at places numbers starts pairs
    pub number : ℕ
    pub row : ℕ
    pub rank : KeyOf d 16
    pub way : IsWay at starts pairs number row rank
    pub early : IsPast d last rank → ⊥

-- # The least that is known

module _ {R : Type 0} (d : ℕ) (key : R → KeyOf d 16) where
  -- for each group the least that is known for one of the first m beginnings
  pub record AreLeast (m : ℕ) (branches : List (Option (OpenPlace R)))
      (least : List (Option R)) : Type 0 where
    pub below : (n : ℕ) (b : OpenPlace R) → n < m → slice_index_or branches n None ≡ Some b
        → (k : R) × (slice_index_or least b.group None ≡ Some k)
        × AtMost (key_below d 16) (key k) (key b.base)
    pub one : (g : ℕ) (k : R) → slice_index_or least g None ≡ Some k
        → (n : ℕ) × ((b : OpenPlace R) × (n < m) × (slice_index_or branches n None ≡ Some b)
        × (b.group ≡ g) × (b.base ≡ k))

  -- the lesser of what was known, if anything was, and of something else
  pub record IsLesser (known : Option R) (base now : R) : Type 0 where
    pub below : AtMost (key_below d 16) (key now) (key base)
    pub falls : (k : R) → known ≡ Some k → AtMost (key_below d 16) (key now) (key k)
    pub one : (now ≡ base) ⊎ (known ≡ Some now)

-- # The rows of each group

-- the number of the bound of each row's group, at a node
abbrev pub own_bounds : {R : Type 0} → BoundedView R → ℕ → List (Option ℕ)
own_bounds tree v = slice_index_or (map (λ b. b.own.items) tree.bounds) v []

-- The rows whose group has bound g, for each g below the count, and after them those whose group
-- has no bound.
pub record AreGroups (own : List (Option ℕ)) (bounds : ℕ) (groups : List (List ℕ)) : Type 0 where
  pub count : length groups ≡ bounds + 1
  pub rows : (g m : ℕ) → g < bounds → m < length (list_at groups g)
      → (slice_index (list_at groups g) m < length own)
      × (slice_index_or own (slice_index (list_at groups g) m) None ≡ Some g)
  pub every : (g i : ℕ) → g < bounds → i < length own → slice_index_or own i None ≡ Some g
      → (m : ℕ) × (m < length (list_at groups g)) × (slice_index (list_at groups g) m ≡ i)
