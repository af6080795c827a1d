-- The effect of a call on the streams, as callers see it.
use Rattle.std.proofs.lemmas.List.{get_or_past}
use Rattle.std.proofs.Common.{◌≡◌, ℕ, zero, suc, ◌+◌, ◌-◌, ◌*◌, ◌^◌, ◌<◌, ◌≤◌, max, Option, Some, None, Bool, true, false, cond, nat_eq, List, [], length, get_or, sym, ap, subst, inl, inr, arith}
use Rattle.std.proofs.lemmas.Bool.{cases_lt}
use Rattle.stream_store.specs.declared.linked.Linked.{Linked}
use Rattle.rank_key.specs.Bits.{bit_length}
use Rattle.rank_key.proofs.BitLemmas.{bit_length_rises}
use Rattle.tdp_core.specs.AnswerView.{counted}
use Rattle.tdp_core.specs.TreeView.{NodeView, parent, rows, child_count, members, group_count, node_at, row_count}
use Rattle.tdp_core.specs.WellFormed.{IsFormed}
use Rattle.tdp_core.proofs.TreeFacts.{group_rows_within, term_within}
use Rattle.tdp_model.specs.Below.{ascends, is_below}
use Rattle.tdp_model.specs.KeyTuple.{KeyOf}
use Rattle.tdp_model.specs.TreeProblem.{sum_from}
use Rattle.suffix_streams.specs.declared.stream.Found.{Found}
use Rattle.suffix_streams.specs.ProductView.{ProductView}
use Rattle.suffix_streams.specs.NodeStreamsView.{NodeStreamsView, stream_at}
use Rattle.suffix_streams.specs.TreeStreams.{node_of, lists_of, products_of, product_of, IsStreams}
use Rattle.suffix_streams.specs.Growing.{IsStoreGrown, AreQueuesGrown, IsAnswered, IsWithinSteps, subtree_size}
use Rattle.suffix_streams.specs.StreamsView.{StreamsView, entry_node, entry_group, entry_place, IsEntry, AreKept, Follows}
use Rattle.suffix_streams.proofs.Stores.{open_few}
use Rattle.suffix_streams.proofs.ViewPrefixes.{entry_inside, next_linked, head_at}

-- what callers see of the head of a stream
pub head_seen : {R : Type 0} (d : ℕ) (key : R → KeyOf d 16) (s v : StreamsView R) → s ≡ v → IsStreams d key s.tree s.entries s.nodes → (q g e : ℕ) (n : NodeStreamsView R) → q < length v.tree → g < group_count v.tree q
    → n ≡ get_or s.nodes q n → e ≡ (stream_at n g).head → (e < length v.entries) × (entry_node v e ≡ q) × (entry_group v e ≡ g) × (entry_place v e ≡ 0) × IsEntry d key v e
head_seen {R} d key s v same h q g e n l lg at is =
    subst (λ (z : StreamsView R). (e < length z.entries) × (entry_node z e ≡ q) × (entry_group z e ≡ g) × (entry_place z e ≡ 0) × IsEntry d key z e) same
    (head_at d key s.tree s.entries s.nodes h q g e n (subst (λ (z : StreamsView R). q < length z.tree) (sym same) l) (subst (λ (z : StreamsView R). g < group_count z.tree q) (sym same) lg) at is)

-- a node is below another one at most once
pub below_few : (up : ℕ → ℕ) (q v : ℕ) → is_below up q v ≤ 1
unfolding ascends
below_few up q v = few v v
  where
    one_of : (b c : Bool) (x : ℕ) → x ≤ 1 → cond b 1 (cond c 0 x) ≤ 1
    one_of true c x l = omega arith
    one_of false true x l = omega arith
    one_of false false x l = l

    last_of : (b : Bool) → cond {A = ℕ} b 1 0 ≤ 1
    last_of true = omega arith
    last_of false = omega arith

    few : (f v : ℕ) → ascends up f q v ≤ 1
    few zero v = last_of (nat_eq v q)
    few (suc f) v = one_of (nat_eq v q) (nat_eq v 0) (ascends up f q (up v)) (few f (up v))

few_terms : (f : ℕ → ℕ) (n q : ℕ) → ((v : ℕ) → f v ≤ 1) → sum_from ◌+◌ 0 f n q ≤ n
unfolding sum_from
few_terms f zero q h = omega arith
few_terms f (suc n) q h = omega (arith, h q, few_terms f n (suc q) h)

module _ {R : Type 0} (d : ℕ) (key : R → KeyOf d 16) (t : List (NodeView R)) where
  pub subtree_within : (q : ℕ) → subtree_size t q ≤ length t
  subtree_within q = few_terms (is_below (parent t) q) (length t) 0 (λ v. below_few (parent t) q v)

  -- a tree with an entry has a row
  pub some_row : IsFormed d key t → (q g : ℕ) → q < length t → g < group_count t q → 1 ≤ row_count t
  some_row formed q g l lg =
      omega (arith, formed.inhabited q g l lg, group_rows_within d key t formed q g l, term_within (rows t) (length t) 0 q (omega arith) (omega arith))

  pub members_within : IsFormed d key t → (v g : ℕ) → length (members t v g) ≤ row_count t
  members_within formed v g = elim (cases_lt v (length t)) [
    | inl l ↦ omega (arith, group_rows_within d key t formed v g l, term_within (rows t) (length t) 0 v (omega arith) (omega arith))
    | inr past ↦
        let none : node_at t v ≡ record { shape = record { parent = 0; item = 0; caps = [] }; rows = []; to_child = []; groups = []; best = [] } =
        get_or_past t v (record { shape = record { parent = 0; item = 0; caps = [] }; rows = []; to_child = []; groups = []; best = [] }) past in
        let empty : length (members t v g) ≡ 0 = ap (λ n. length (get_or n.groups g [])) none in
        omega (arith, empty)
  ]

  module _ (formed : IsFormed d key t) (es es' : List (Linked (Found R))) (nodes nodes' : List (NodeStreamsView R)) where
    -- the step bound, from the number of calls
    pub call_steps : (calls e old new : ℕ) → (some : 1 ≤ row_count t) → ((v r c : ℕ) → length (product_of nodes v r c).frontier ≤ calls + 1)
        → IsWithinSteps t nodes (is_below (parent t) (node_of es e)) (λ b. 20 * subtree_size t (node_of es e) * (1 + b)) old new
        → new ≤ old + 20 * length t * (1 + bit_length (row_count t + (calls + 1) * length t))
    call_steps calls e old new some few within =
        let m = formed.shaped.some_node in
        let n : ℕ = row_count t + (calls + 1) * length t in
        let b : ℕ = bit_length n in
        let much : calls + 1 ≤ (calls + 1) * length t = product_above (calls + 1) (length t) m in
        let w = within (calls + 1) b (omega arith) (bit_length_rises (calls + 1 + 1) n (omega (arith, much, some)))
        (λ v g. bit_length_rises (length (members t v g) + 1) n (omega (arith, members_within formed v g, much))) (λ v r c h. few v r c) in
        omega (arith, w, share (subtree_size t (node_of es e)) (length t) b (subtree_within (node_of es e)))
      where
        product_above : (a k : ℕ) → 1 ≤ k → a ≤ a * k
        product_above a k l = grind arith

        share : (s k b : ℕ) → s ≤ k → 20 * s * (1 + b) ≤ 20 * k * (1 + b)
        share s k b l = grind arith

    -- in each call, queues of products get at most one more entry
    pub few_kept : (calls q : ℕ) → IsStreams d key t es' nodes' → ((v r c : ℕ) → length (product_of nodes v r c).frontier ≤ calls + 1) → AreQueuesGrown (is_below (parent t) q) nodes nodes'
        → (v r c : ℕ) → length (product_of nodes' v r c).frontier ≤ counted calls + 1
    few_kept calls q s few grown v r c = elim (cases_lt (calls + 1) (2 ^ 64 - 1 + 1)) [
      | inl more ↦
          let count : counted calls ≡ calls + 1 = omega arith in
          let top : max 1 (length (product_of nodes v r c).frontier) ≤ calls + 1 = omega (arith, few v r c) in
          omega (arith, grown v r c, below_few (parent t) q v, top, count)
      | inr full ↦
          let count : counted calls ≡ 2 ^ 64 - 1 = omega arith in
          omega (arith, count, limit)
    ]
      where
        no_product : (xs : List (List (ProductView R))) → length xs ≤ r → length (get_or (get_or xs r []) c (record { found = []; ranks = []; frontier = []; room = 0; frontier_room = 0 })).frontier ≡ 0
        no_product xs l = ap (λ (ps : List (ProductView R)). length (get_or ps c (record { found = []; ranks = []; frontier = []; room = 0; frontier_room = 0 })).frontier) (get_or_past xs r [] l)

        limit : length (product_of nodes' v r c).frontier ≤ 2 ^ 64
        limit = elim (cases_lt v (length t)) [
          | inl lv ↦ elim (cases_lt r (rows t v)) [
            | inl lr ↦ elim (cases_lt c (length (products_of nodes' v r))) [
              | inl lc ↦ let f = (s.products v r c lv lr lc).few in omega arith
              | inr past ↦ omega (arith, ap (λ (p : ProductView R). length p.frontier) (get_or_past (products_of nodes' v r) c (record { found = []; ranks = []; frontier = []; room = 0; frontier_room = 0 }) past))
            ]
            | inr past ↦ omega (arith, no_product (lists_of nodes' v).products (omega (arith, past, s.all_rows v lv, open_few (child_count t v) (rows t v))))
          ]
          | inr past ↦
              let none : lists_of nodes' v ≡ record { children = []; streams = []; products = [] } = get_or_past nodes' v (record { children = []; streams = []; products = [] }) (omega (arith, past, s.all_nodes)) in
              omega (arith, ap (λ (n : NodeStreamsView R). length (get_or (get_or n.products r []) c (record { found = []; ranks = []; frontier = []; room = 0; frontier_room = 0 })).frontier) none)
        ]

-- the entry that follows, as callers see it
pub follows_of : {R : Type 0} (d : ℕ) (key : R → KeyOf d 16) (s : StreamsView R) (e : ℕ) (o : Option ℕ) → IsStreams d key s.tree s.entries s.nodes → e < length s.entries → IsAnswered d key s.tree s.entries e o → Follows d key s e o
follows_of d key s e (Some n) streams l h =
    let r = next_linked d key s.tree s.entries s.nodes streams e n l h in
    (record { within = r.0; node = r.1; group = r.2; place = r.3 }, entry_inside d key s.tree s.entries s.nodes streams n r.0)
follows_of d key s e None streams l h = h

pub kept_of : {R : Type 0} (q : ℕ) (old new : StreamsView R) → IsStoreGrown q old.entries new.entries → AreKept old new
kept_of q old new g = record { longer = g.longer; nodes = g.nodes; groups = g.groups; places = g.places }
