-- What holds for the calls of a search.
use Rattle.std.proofs.Common.{◌≡◌, ◌≢◌, ℕ, ◌+◌, ◌*◌, ◌<◌, ◌≤◌, Result, Ok, Err, OnOk, OnErr, Option, None, IsSome, is_some, true, false, cond, nat_eq, List, [], ◌∷◌, length, get_or, sym, ap, ◌∙◌, subst, arith}
use Rattle.stream_store.specs.declared.linked.Linked.{Linked}
use Rattle.rank_key.specs.Bits.{bit_length}
use Rattle.tdp_core.specs.TreeView.{NodeView, parent, members, child_count, group_count}
use Rattle.tdp_core.specs.WellFormed.{IsFormed}
use Rattle.tdp_model.specs.Below.{is_below}
use Rattle.tdp_model.specs.KeyTuple.{KeyOf}
use Rattle.suffix_streams.specs.declared.stream.Found.{Found}
use Rattle.suffix_streams.specs.NodeStreamsView.{NodeStreamsView}
use Rattle.suffix_streams.specs.TreeStreams.{node_of, group_of, next_of, lists_of, IsStreams}
use Rattle.suffix_streams.specs.Growing.{IsGrown, AreQueuesGrown, IsWithinSteps, below_kids, kids_size}
use Rattle.suffix_streams.proofs.Stores.{node_value, group_value, next_value, store_stays}
use Rattle.suffix_streams.proofs.Costs.{kids_many}
use Rattle.suffix_streams.proofs.SearchCosts.{much, queues_below}

pub on_ok : {A E P : Type 0} (r : Result A E) → P → OnOk r P
on_ok (Ok x) p = p
on_ok (Err e) p = tt

pub on_err : {A E P : Type 0} (r : Result A E) → P → OnErr r P
on_err (Ok x) p = tt
on_err (Err e) p = p

pub not_some : {A : Type 0} {B : Type 0} (o : Option A) → o ≡ None → IsSome o → B
not_some o e h = absurd (clash h (ap is_some e))
  where
    clash : is_some o ≡ true → is_some o ≡ false → ⊥
    clash a b = cc

pub next_is : {R : Type 0} (es : List (Linked (Found R))) (i : ℕ) (o : Option ℕ) → i < length es → ((x : Linked (Found R)) → (get_or es i x).next ≡ o) → next_of es i ≡ o
next_is [] i o l h = absurd (omega arith)
next_is (e ∷ es) i o l h = next_value (e ∷ es) i e l ∙ h e

pub next_read : {R : Type 0} (es : List (Linked (Found R))) (i : ℕ) (r o : Option ℕ) → i < length es → ((x : Linked (Found R)) → (get_or es i x).next ≡ r) → r ≡ o → next_of es i ≡ o
next_read es i r o l h e = next_is es i r l h ∙ e

-- the owner of an entry that was read
pub owner_is : {R : Type 0} (es : List (Linked (Found R))) (i : ℕ) (f : Found R) → i < length es → ((x : Linked (Found R)) → (get_or es i x).value ≡ f) → (node_of es i ≡ f.node) × (group_of es i ≡ f.group)
owner_is [] i f l h = absurd (omega arith)
owner_is (e ∷ es) i f l h = (node_value (e ∷ es) i e l ∙ ap (λ v. v.node) (h e), group_value (e ∷ es) i e l ∙ ap (λ v. v.group) (h e))

pub owner_in : {R : Type 0} (d : ℕ) (key : R → KeyOf d 16) (t : List (NodeView R)) (es : List (Linked (Found R))) (nodes : List (NodeStreamsView R)) (i : ℕ) (f : Found R) → IsStreams d key t es nodes → i < length es → ((x : Linked (Found R)) → (get_or es i x).value ≡ f)
    → (f.node < length t) × (f.group < group_count t f.node)
owner_in d key t es nodes i f h l value =
    let o = owner_is es i f l value in
    let own : (node_of es i < length t) × (group_of es i < group_count t (node_of es i)) = h.owners i l in
    (omega (arith, o.0, own.0), subst (λ z. z < group_count t f.node) o.1 (subst (λ z. group_of es i < group_count t z) o.0 own.1))

-- a row was opened, and nothing more
pub opened_grown : {R : Type 0} (t : List (NodeView R)) (v : ℕ) (es es' : List (Linked (Found R))) (n m : List (NodeStreamsView R)) → es' ≡ es → ((w : ℕ) → w ≢ v → lists_of m w ≡ lists_of n w) → IsGrown (parent t) v es n es' m
opened_grown t v es es' n m e above =
    subst (λ z. IsGrown (parent t) v es n z m) (sym e) (record { store = store_stays v es; above = λ w l. above w (λ z. omega (arith, l, z)); growth = λ w. omega arith })

module _ {R : Type 0} (d : ℕ) (key : R → KeyOf d 16) (t : List (NodeView R)) (formed : IsFormed d key t) (n : List (NodeStreamsView R)) (v s0 s1 : ℕ) where
  -- the steps of a call that only opens a row
  pub opened_within : s1 ≤ s0 + 3 + 3 * child_count t v → IsWithinSteps t n (is_below (parent t) v) (λ b. 14 + 4 * b + 20 * kids_size t v (child_count t v) * (1 + b)) s0 s1
  opened_within h k b one bits few queues = omega (arith, h, kids_many d key t formed v (child_count t v) (omega arith), much (kids_size t v (child_count t v)) b)

  -- the steps of a call: s1 when the row is open, s2 after the search in it, and s3 at the end
  pub call_within : (s2 s3 : ℕ) (m : List (NodeStreamsView R)) → length m ≡ length t → AreQueuesGrown (λ w. 0) n m → s1 ≤ s0 + 3 + 3 * child_count t v
      → IsWithinSteps t m (λ w. below_kids t v (child_count t v) w + cond (nat_eq w v) 1 0) (λ b. 20 * kids_size t v (child_count t v) * (1 + b)) s1 (s2 + 3 * child_count t v)
      → ((b : ℕ) → ((u g : ℕ) → bit_length (length (members t u g) + 1) ≤ b) → s3 ≤ s2 + 11 + 4 * b)
      → IsWithinSteps t n (is_below (parent t) v) (λ b. 14 + 4 * b + 20 * kids_size t v (child_count t v) * (1 + b)) s0 s3
  call_within s2 s3 m same grown h search last k b one bits few queues =
      omega (arith, search k b one bits few (queues_below d key t formed v (child_count t v) k n m same (omega arith) one grown queues), h, last b few)
