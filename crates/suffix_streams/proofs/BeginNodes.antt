-- The streams of a tree are made node by node, the last one first.
use Rattle.std.proofs.Common.{◌≡◌, ◌≢◌, ℕ, suc, ◌+◌, ◌-◌, ◌<◌, None, List, [], ◌∷◌, ◌++◌, length, get_or, slice_set, sym, ap, ◌∙◌, subst, inl, inr, arith, length-set, get_or-set_same, get_or-set_other}
use Rattle.std.proofs.lemmas.Bool.{cases_lt, cases_eq}
use Rattle.stream_store.specs.declared.linked.Linked.{Linked}
use Rattle.tdp_model.specs.KeyTuple.{KeyOf, key_none}
use Rattle.tdp_model.specs.TreeProblem.{sum_from}
use Rattle.tdp_core.specs.TreeView.{NodeView, best, members, group_count, child_count, rows}
use Rattle.tdp_core.specs.WellFormed.{IsFormed}
use Rattle.tdp_core.proofs.TreeFacts.{member_is_row}
use Rattle.suffix_streams.specs.declared.stream.Found.{Found}
use Rattle.suffix_streams.specs.StreamView.{StreamView}
use Rattle.suffix_streams.specs.NodeStreamsView.{NodeStreamsView}
use Rattle.suffix_streams.specs.Rankings.{part_list, group_list}
use Rattle.suffix_streams.specs.TreeStreams.{lists_of}
use Rattle.suffix_streams.specs.Firsts.{IsFirstOf}
use Rattle.suffix_streams.specs.Beginnings.{IsEmptyNode, IsBegunFrom, IsBegunIn}
use Rattle.suffix_streams.proofs.BeginFirsts.{group_head, row_head}
use Rattle.suffix_streams.proofs.Rankings.{group_is_ranking, row_is_ranking}
use Rattle.suffix_streams.proofs.BeginMade.{with_stream, begun_none, begun_more}
use Rattle.suffix_streams.proofs.ListEnds.{any_default, at_more, get_behind, length_behind}

module _ {R : Type 0} (d : ℕ) (key : R → KeyOf d 16) (t : List (NodeView R)) (formed : IsFormed d key t) where
  -- a group's ranking begins with the first solution of its first member
  pub first_member : (q g : ℕ) → q < length t → g < group_count t q
      → get_or (part_list d key t q (get_or (members t q g) 0 0) (child_count t q)) 0 (key_none d 16) ≡ get_or (group_list d key t q g) 0 (key_none d 16)
  first_member q g l lg =
      let some = formed.inhabited q g l lg in
      (row_head d key t formed q (get_or (members t q g) 0 0) _ l (member_is_row d key t formed q g 0 l some) (row_is_ranking d key t formed q (get_or (members t q g) 0 0) l)).1
      ∙ sym (group_head d key t formed q g _ l some (group_is_ranking d key t q g l)).1

  -- this solution is the best of the member
  pub first_best : (q g : ℕ) → q < length t → g < group_count t q
      → best t d key q (get_or (members t q g) 0 0) ≡ get_or (part_list d key t q (get_or (members t q g) 0 0) (child_count t q)) 0 (key_none d 16)
  first_best q g l lg =
      sym (row_head d key t formed q (get_or (members t q g) 0 0) _ l (member_is_row d key t formed q g 0 l (formed.inhabited q g l lg)) (row_is_ranking d key t formed q (get_or (members t q g) 0 0) l)).1

module _ {R : Type 0} (d : ℕ) (key : R → KeyOf d 16) (t : List (NodeView R)) where
  pub from_none : (nodes : List (NodeStreamsView R)) → length nodes ≡ length t → ((v : ℕ) → v < length t → IsEmptyNode t v (lists_of nodes v)) → IsBegunFrom d key t [] nodes (length t)
  from_none nodes n empty = record {
    streams = begun_none d key t nodes n empty;
    behind = λ q a b. absurd (omega arith);
    before = λ q l. (empty q l).no_streams;
  }

  pub from_in : (es : List (Linked (Found R))) (nodes : List (NodeStreamsView R)) (v w : ℕ) → w ≡ v + 1 → IsBegunFrom d key t es nodes w → IsBegunIn d key t es nodes v 0
  from_in es nodes v w e b = record { streams = b.streams; behind = λ q a l. b.behind q (omega arith) l; own = ap length (b.before v (omega arith)); before = λ q l. b.before q (omega arith) }

  pub in_from : (es : List (Linked (Found R))) (nodes : List (NodeStreamsView R)) (v g : ℕ) → g ≡ group_count t v → IsBegunIn d key t es nodes v g → IsBegunFrom d key t es nodes v
  in_from es nodes v g all b = record {
    streams = b.streams;
    behind = λ q a l. elim (cases_eq q v) [
      | inl e ↦ subst (λ z. length (lists_of nodes z).streams ≡ group_count t z) (sym e) (b.own ∙ all)
      | inr n ↦ b.behind q (omega arith) l
    ];
    before = b.before;
  }

  -- one more stream of the node is made
  pub in_more : (es : List (Linked (Found R))) (nodes nodes' : List (NodeStreamsView R)) (v g w : ℕ) (e : Linked (Found R)) (s : StreamView R) → length nodes' ≡ length nodes → ((q : ℕ) → q ≢ v → lists_of nodes' q ≡ lists_of nodes q)
      → lists_of nodes' v ≡ with_stream (lists_of nodes v) s → v < length t → g < group_count t v → w ≡ g + 1 → e.value.node ≡ v → e.value.group ≡ g → e.next ≡ None → s.head ≡ length es
      → key e.value.solution.rank ≡ get_or (group_list d key t v g) 0 (key_none d 16) → s.queue ≡ [] → IsFirstOf d key t es v g 0 e.value.solution
      → IsBegunIn d key t es nodes v g → IsBegunIn d key t (es ++ (e ∷ [])) nodes' v w
  in_more es nodes nodes' v g w e s same other own l lg more en eg el at_head first empty only b = record {
    streams = begun_more d key t es nodes nodes' v e s same other own g l (sym b.own) lg en eg el at_head first empty only b.streams;
    behind = λ q a lq. ap (λ z. length z.streams) (other q (λ e. omega arith)) ∙ b.behind q a lq;
    own = ap (λ z. length z.streams) own ∙ length_behind (lists_of nodes v).streams s ∙ ap (λ z. z + 1) b.own ∙ sym more;
    before = λ q lq. ap (λ z. z.streams) (other q (λ e. omega arith)) ∙ b.before q lq;
  }

  -- # Steps

  -- the number of rows of the nodes from v
  abbrev pub rows_from : ℕ → ℕ
  rows_from v = sum_from ◌+◌ 0 (rows t) (length t - v) v

  pub rows_more : (v w : ℕ) → v < length t → w ≡ v + 1 → rows_from v ≡ rows t v + rows_from w
  unfolding sum_from
  rows_more v w l e =
      let step : length t - v ≡ suc (length t - suc v) = omega arith in
      let next : suc v ≡ w = omega arith in
      ap (λ n. sum_from ◌+◌ 0 (rows t) n v) step ∙ ap (λ z. rows t v + sum_from ◌+◌ 0 (rows t) (length t - z) z) next

  -- the nodes when one node has one more stream
  pub nodes_set : (nodes : List (NodeStreamsView R)) (v : ℕ) (n n' : NodeStreamsView R) (s : StreamView R) → v < length nodes → n ≡ get_or nodes v n → n' ≡ with_stream n s
      → (length (slice_set nodes v n') ≡ length nodes) × ((q : ℕ) → q ≢ v → lists_of (slice_set nodes v n') q ≡ lists_of nodes q) × (lists_of (slice_set nodes v n') v ≡ with_stream (lists_of nodes v) s)
  nodes_set nodes v n n' s l e e' = (
    length-set nodes v n',
    (λ q other. get_or-set_other nodes v q n' (record { children = []; streams = []; products = [] }) other),
    get_or-set_same nodes v n' (record { children = []; streams = []; products = [] }) l ∙ e' ∙ ap (λ z. with_stream z s) (e ∙ any_default nodes v n (record { children = []; streams = []; products = [] }) l),
  )

  -- one more node without streams
  pub empties_more : (nodes : List (NodeStreamsView R)) (n : NodeStreamsView R) (k : ℕ) → length nodes ≡ k → ((v : ℕ) → v < k → IsEmptyNode t v (lists_of nodes v)) → IsEmptyNode t k n
      → (v : ℕ) → v < k + 1 → IsEmptyNode t v (lists_of (nodes ++ (n ∷ [])) v)
  empties_more nodes n k e h x v l = elim (cases_lt v k) [
    | inl before ↦ subst (IsEmptyNode t v) (sym (at_more nodes n (record { children = []; streams = []; products = [] }) v (omega (arith, before, e)))) (h v before)
    | inr g ↦
        let here : v ≡ k = omega arith in
        subst (λ z. IsEmptyNode t z (lists_of (nodes ++ (n ∷ [])) z)) (sym here)
        (subst (IsEmptyNode t k) (sym (get_behind nodes n k (record { children = []; streams = []; products = [] }) (sym e))) x)
  ]
