-- What stays of the first rows of a node.
use Rattle.std.proofs.Common.{◌≡◌, ℕ, suc, ◌+◌, ◌-◌, ◌*◌, ◌<◌, ◌≤◌, true, false, cond, nat_eq, List, [], ◌∷◌, ◌++◌, map, length, get_or, refl, sym, ap, subst, ◌∙◌, arith, add-one, length-append, Some}
use Rattle.std.proofs.Math.Nat.{mul-le-mul_left}
use Rattle.indexmap.specs.IndexSet.{insert_key, insert_all}
use Rattle.tdp_model.specs.NodeRows.{most_node_rows}
use Rattle.tdp_core.specs.RawView.{RawView, raw_len, raw_row_at, shape_parent}
use Rattle.tdp_core.specs.declared.parts.NodeRow.{NodeRow}
use Rattle.semi_join.specs.Reduction.{AreKept, EndsInPlaceOf, IsNumbering, has_partners, groups_named, group_link, child_nodes}
use Rattle.semi_join.proofs.FirstOnes.{kept_first, kept_more}
use Rattle.semi_join.proofs.Kids.{kids_few}
use Rattle.semi_join.proofs.Rows.{length-map}
use Rattle.semi_join.proofs.Numbering.{map_snoc, numbering_more}

pub insert_all_snoc : (ks xs : List ℕ) (x : ℕ) → insert_all nat_eq ks (xs ++ (x ∷ [])) ≡ insert_key nat_eq (insert_all nat_eq ks xs) x
insert_all_snoc ks [] x = refl
insert_all_snoc ks (y ∷ ys) x = insert_all_snoc (insert_key nat_eq ks y) ys x

-- steps of i rows, and of one more, are within those of n rows
room : (i k n m : ℕ) → i < n → k + 1 ≤ m → i * (k + 1) + (k + 1) ≤ n * m
room i k n m h l =
    let one = mul-le-mul_left (i + 1) l in
    let two : i + 1 ≤ n = omega arith in
    let three = mul-le-mul_left m two in
    omega (arith, one, three)

pub room_all : (i k n m : ℕ) → i ≤ n → k + 1 ≤ m → i * (k + 1) ≤ n * m
room_all i k n m h l =
    let one = mul-le-mul_left i l in
    let three = mul-le-mul_left m h in
    omega (arith, one, three)

-- steps for a row that stays, and for one that does not; n is the number of children
pub kept_steps : (i k n old before mid after now : ℕ) → n ≡ k → before ≤ old + i * (k + 1) → mid ≤ before + n → after ≤ mid + 1 → now ≡ after → now ≤ old + (i + 1) * (k + 1)
kept_steps i k n old before mid after now same counted found kept is = omega (arith, same, counted, found, kept, is)

pub missed_steps : (i k n old before mid now : ℕ) → n ≡ k → before ≤ old + i * (k + 1) → mid ≤ before + n → now ≡ mid → now ≤ old + (i + 1) * (k + 1)
missed_steps i k n old before mid now same counted found is = omega (arith, same, counted, found, is)

-- these are within the steps of all rows
pub steps_within : (i k rows m old now : ℕ) → i < rows → k + 1 ≤ m → now ≤ old + (i + 1) * (k + 1) → now ≤ old + rows * m
steps_within i k rows m old now h l counted = omega (arith, counted, room i k rows m h l)

numbering_none : IsNumbering [] [] []
numbering_none = record {
  size = refl;
  distinct = λ i j l k e. absurd (omega (arith, l));
  below = λ i d l. absurd (omega (arith, l));
  named = λ i l. absurd (omega (arith, l));
  used = λ n l. absurd (omega (arith, l));
  few = omega arith;
}

module _ {R : Type 0} (raw : RawView R) (v : ℕ) (later : List (List ℕ)) where
  pub kids_below_lem : v < length raw.shapes → length (child_nodes raw v) + 1 ≤ length raw.shapes
  kids_below_lem h = let few = kids_few (shape_parent raw.shapes) v (length raw.shapes - suc v) in omega (arith, few)

  -- the rows that stay of the first i, the groups that they name, the links of their groups, and the numbers of these
  pub record IsSoFar (i : ℕ) (kept : List (NodeRow R)) (named : List (List ℕ)) (links numbers : List ℕ) : Type 0 where
    pub rows : map Some kept ≡ map (raw_row_at raw v) (kept_first raw v later i)
    pub to_child : named ≡ map (groups_named raw v later) (kept_first raw v later i)
    pub names : links ≡ insert_all nat_eq [] (map (group_link raw v) (kept_first raw v later i))
    pub numbering : IsNumbering (map (group_link raw v) (kept_first raw v later i)) links numbers
    pub few : length (kept_first raw v later i) ≤ i

  -- nothing stays of no rows
  pub none_so_far : (kept : List (NodeRow R)) (named : List (List ℕ)) (links numbers : List ℕ) → kept ≡ [] → named ≡ [] → links ≡ [] → numbers ≡ [] → IsSoFar 0 kept named links numbers
  none_so_far kept named links numbers no_rows no_names no_links no_numbers = record {
    rows = ap (map Some) no_rows;
    to_child = no_names;
    names = no_links;
    numbering = subst (λ ns. IsNumbering [] links ns) (sym no_numbers) (subst (λ ks. IsNumbering [] ks []) (sym no_links) numbering_none);
    few = omega arith;
  }

  kept_true : (i : ℕ) → has_partners raw v later i ≡ true → kept_first raw v later (i + 1) ≡ kept_first raw v later i ++ (i ∷ [])
  kept_true i m = ap (kept_first raw v later) (add-one i) ∙ kept_more raw v later i ∙ ap (λ b. cond b (kept_first raw v later i ++ (i ∷ [])) (kept_first raw v later i)) m

  kept_false : (i : ℕ) → has_partners raw v later i ≡ false → kept_first raw v later (i + 1) ≡ kept_first raw v later i
  kept_false i m = ap (kept_first raw v later) (add-one i) ∙ kept_more raw v later i ∙ ap (λ b. cond b (kept_first raw v later i ++ (i ∷ [])) (kept_first raw v later i)) m

  pub drop_row : (i : ℕ) (kept : List (NodeRow R)) (named : List (List ℕ)) (links numbers : List ℕ) → IsSoFar i kept named links numbers → has_partners raw v later i ≡ false → IsSoFar (i + 1) kept named links numbers
  drop_row i kept named links numbers s m =
      let e = sym (kept_false i m) in
      record {
        rows = subst (λ ks. map Some kept ≡ map (raw_row_at raw v) ks) e s.rows;
        to_child = subst (λ ks. named ≡ map (groups_named raw v later) ks) e s.to_child;
        names = subst (λ ks. links ≡ insert_all nat_eq [] (map (group_link raw v) ks)) e s.names;
        numbering = subst (λ ks. IsNumbering (map (group_link raw v) ks) links numbers) e s.numbering;
        few = subst (λ ks. length ks ≤ i + 1) e (omega (arith, s.few));
      }

  pub keep_row_lem : (i : ℕ) (kept rows : List (NodeRow R)) (named to_child : List (List ℕ)) (links names numbers more : List ℕ) (row : NodeRow R) → IsSoFar i kept named links numbers → has_partners raw v later i ≡ true
      → raw_row_at raw v i ≡ Some row → rows ≡ kept ++ (row ∷ []) → to_child ≡ named ++ (groups_named raw v later i ∷ []) → names ≡ insert_key nat_eq links (group_link raw v i) → EndsInPlaceOf (group_link raw v i) names numbers more
      → IsSoFar (i + 1) rows to_child names more
  keep_row_lem i kept rows named to_child links names numbers more row s m at rows_are children_are names_are at_end =
      let e = sym (kept_true i m) in
      let link = group_link raw v i in
      let owns = map (group_link raw v) (kept_first raw v later i) in
      let within = subst (λ ks. at_end.0 < length ks) names_are at_end.1 in
      let found = subst (λ ks. get_or ks at_end.0 0 ≡ group_link raw v i) names_are at_end.2 in
      record {
        rows = subst (λ ks. map Some rows ≡ map (raw_row_at raw v) ks) e
            (ap (map (λ r. Some r)) rows_are ∙ map_snoc (λ r. Some r) kept row ∙ ap (λ l. l ++ (Some row ∷ [])) s.rows ∙ ap (λ x. map (raw_row_at raw v) (kept_first raw v later i) ++ (x ∷ [])) (sym at)
            ∙ sym (map_snoc (raw_row_at raw v) (kept_first raw v later i) i));
        to_child = subst (λ ks. to_child ≡ map (groups_named raw v later) ks) e
            (children_are ∙ ap (λ l. l ++ (groups_named raw v later i ∷ [])) s.to_child ∙ sym (map_snoc (groups_named raw v later) (kept_first raw v later i) i));
        names = subst (λ ks. names ≡ insert_all nat_eq [] (map (group_link raw v) ks)) e
            (names_are ∙ ap (λ ks. insert_key nat_eq ks (group_link raw v i)) s.names ∙ sym (insert_all_snoc [] (map (group_link raw v) (kept_first raw v later i)) (group_link raw v i))
            ∙ ap (insert_all nat_eq []) (sym (map_snoc (group_link raw v) (kept_first raw v later i) i)));
        numbering = subst (λ ks. IsNumbering (map (group_link raw v) ks) names more) e
            (subst (λ os. IsNumbering os names more) (sym (map_snoc (group_link raw v) (kept_first raw v later i) i))
            (subst (λ ks. IsNumbering (owns ++ (link ∷ [])) ks more) (sym names_are)
            (subst (IsNumbering (owns ++ (link ∷ [])) (insert_key nat_eq links link)) (sym at_end.3) (numbering_more owns links numbers link at_end.0 s.numbering within found))));
        few = subst (λ ks. length ks ≤ i + 1) e (omega (arith, s.few, length-append (kept_first raw v later i) (i ∷ [])));
      }

  pub few_numbers : (i : ℕ) (kept : List (NodeRow R)) (named : List (List ℕ)) (links numbers : List ℕ) → IsSoFar i kept named links numbers → length numbers ≤ i
  few_numbers i kept named links numbers s = omega (arith, s.few, s.numbering.size, length-map (group_link raw v) (kept_first raw v later i))

  pub few_links : (i : ℕ) (kept : List (NodeRow R)) (named : List (List ℕ)) (links numbers : List ℕ) → IsSoFar i kept named links numbers → length links ≤ i
  few_links i kept named links numbers s = omega (arith, s.few, s.numbering.few, length-map (group_link raw v) (kept_first raw v later i))

  -- all rows that stay, after the last one
  pub all_kept : (i : ℕ) (rows : List (NodeRow R)) (named : List (List ℕ)) (links numbers : List ℕ) → i ≡ raw_len raw v → i ≤ most_node_rows
      → IsSoFar i rows named links numbers → AreKept raw v later rows named links numbers
  all_kept i rows named links numbers all low s =
      let few = few_numbers i rows named links numbers s in
      let whole = subst (λ n. IsSoFar n rows named links numbers) all s in
      record { rows_are = whole.rows; to_child = whole.to_child; links_are = whole.names; numbering = whole.numbering; few_numbers = omega (arith, few, low) }
