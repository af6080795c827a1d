-- The text of a certificate over a plan of a query.
use Rattle.std.proofs.Common.{◌≡◌, ◌≤◌, ◌+◌, ◌++◌, ℕ, Bool, not, List, [], length, slice_index, sym, ap, subst, ◌∙◌}
use Rattle.std.proofs.Common.{inl, inr, arith, append_assoc}
use Rattle.std.specs.List.{flat_map}
use Rattle.std.proofs.Math.Path.{fun_ext}
use Rattle.std.proofs.lemmas.Bool.{cases_lt}
use Rattle.std.proofs.lemmas.List.{get_or_past}
use Rattle.tdp_model.specs.KeyTuple.{KeyOf}
use Rattle.tdp_core.specs.AnswerView.{AnswerView, answers_of}
use Rattle.tdp_core.specs.Solutions.{IsTreeRanking}
use Rattle.tdp_core.specs.TreeView.{NodeView, item, node_at, parent}
use Rattle.tdp_core.specs.WellFormed.{IsFormed}
use Rattle.anyk_model.specs.Table.{Table}
use Rattle.anyk_model.specs.Output.{cut}
use Rattle.anyk_model.specs.Ranking.{ranking_of}
use Rattle.bound_query.specs.WeighedQuery.{BoundQuery, Fits}
use Rattle.bound_query.specs.Shape.{HasTree, Shape}
use Rattle.bound_query.specs.Steps.{reaches}
use Rattle.witness_key.specs.WitnessKey.{combinations_in}
use Rattle.witness_key.proofs.Combinations.{ranking_tells}
use Rattle.plan_build.specs.Plan.{IsPlan, PlanView}
use Rattle.plan_build.proofs.AnswersAgree.{answers_agree}
use Rattle.proof_model.specs.Certificate.{BoundLine, Certificate}
use Rattle.proof_model.specs.Writing.{answer_text, bound_text, header_text, last_text, proof_text}
use Rattle.proof_model.specs.Laws.{IsProblem}
use Rattle.proof_model.specs.ProofTexts.{IsProofText}
use Rattle.proof_model.specs.WrittenProofs.{IsWritten}
use Rattle.proof_model.proofs.QueryItems.{as_many, few_items, tree_problem}
use Rattle.proof_write.specs.Firsts.{AreBounds}
use Rattle.proof_write.proofs.PlanProblem.{problem_with}
use Rattle.proof_write.proofs.Writes.{answer_lines, answers_text, is_written}

-- the text, part by part
pub text_parts : (bounds : List BoundLine) (list : List (List ℕ)) (ended : Bool) (one two three text : List ℕ)
    → one ≡ header_text → two ≡ one ++ flat_map (λ (b : BoundLine). bound_text b.node b.rows) bounds
    → three ≡ two ++ flat_map answer_text list → text ≡ three ++ last_text ended
    → text ≡ proof_text (record { bounds = bounds; answers = answer_lines (length bounds + 2) list; ended = ended })
text_parts bounds list ended one two three text head middle later end =
    let b = flat_map (λ (b : BoundLine). bound_text b.node b.rows) bounds in
    let a = flat_map answer_text list in
    end ∙ ap (λ l. l ++ last_text ended) (later ∙ ap (λ l. l ++ a) (middle ∙ ap (λ l. l ++ b) head))
    ∙ append_assoc (header_text ++ b) a (last_text ended) ∙ append_assoc header_text b (a ++ last_text ended)
    ∙ ap (λ l. header_text ++ (b ++ (l ++ last_text ended))) (sym (answers_text (length bounds + 2) list))

module _ {R : Type 0} (d : ℕ) (key : R → KeyOf d 16) (bound : BoundQuery) (tables : List Table)
    (fits : Fits bound tables) (plan : PlanView R)
    (is : IsPlan d key bound tables plan) (formed : IsFormed d key plan.tree) where
  abbrev shape : Shape
  shape = is.whole.shape

  hung : HasTree bound.query is.whole.shape.atoms is.whole.shape.parents
  hung = is.whole.is_shape.0.hung

  nodes_same : length plan.tree ≡ length is.whole.shape.atoms
  nodes_same = is.whole.nodes ∙ sym (as_many bound.query tables is.whole.shape.atoms is.whole.shape.parents hung)

  past_node : (v : ℕ) → length plan.tree ≤ v
      → node_at plan.tree v ≡ record {
        shape = record { parent = 0; item = 0; caps = [] };
        rows = [];
        to_child = [];
        groups = [];
        best = [];
      }
  past_node v h = get_or_past plan.tree v _ h

  parents_same : parent plan.tree ≡ slice_index is.whole.shape.parents
  parents_same = fun_ext (λ v. elim (cases_lt v (length plan.tree)) [
    | inl inside ↦ is.parents v inside
    | inr past ↦
        ap (λ (n : NodeView R). n.shape.parent) (past_node v past)
        ∙ sym (get_or_past is.whole.shape.parents v 0
        (let n = nodes_same in let a = hung.join_tree.nodes in let p = hung.join_tree.has_parents in omega
        (arith, n, a, p, past)))
  ])

  items_same : item plan.tree ≡ slice_index is.whole.shape.atoms
  items_same = fun_ext (λ v. elim (cases_lt v (length plan.tree)) [
    | inl inside ↦ is.items v inside
    | inr past ↦
        ap (λ (n : NodeView R). n.shape.item) (past_node v past)
        ∙ sym (get_or_past is.whole.shape.atoms v 0 (let n = nodes_same in omega (arith, n, past)))
  ])

  -- what holds of the tree's nodes holds of the shape's, and the other way round
  onto_shape : (F : ℕ → (ℕ → ℕ) → (ℕ → ℕ) → Type 0) → F (length plan.tree) (parent plan.tree) (item plan.tree)
      → F (length is.whole.shape.atoms) (slice_index is.whole.shape.parents) (slice_index is.whole.shape.atoms)
  onto_shape F f =
      subst (λ i. F (length is.whole.shape.atoms) (slice_index is.whole.shape.parents) i) items_same
      (subst (λ p. F (length is.whole.shape.atoms) p (item plan.tree)) parents_same
      (subst (λ n. F n (parent plan.tree) (item plan.tree)) nodes_same f))

  from_shape : (F : ℕ → (ℕ → ℕ) → (ℕ → ℕ) → Type 0)
      → F (length is.whole.shape.atoms) (slice_index is.whole.shape.parents) (slice_index is.whole.shape.atoms)
      → F (length plan.tree) (parent plan.tree) (item plan.tree)
  from_shape F f =
      subst (λ i. F (length plan.tree) (parent plan.tree) i) (sym items_same)
      (subst (λ p. F (length plan.tree) p (slice_index is.whole.shape.atoms)) (sym parents_same)
      (subst (λ n. F n (slice_index is.whole.shape.parents) (slice_index is.whole.shape.atoms)) (sym nodes_same) f))

  laws : IsProblem (problem_with bound.query tables (length plan.tree) (parent plan.tree) (item plan.tree))
  laws =
      from_shape (λ n p i. IsProblem (problem_with bound.query tables n p i))
      (tree_problem bound.query tables is.whole.shape.atoms is.whole.shape.parents hung)

  -- the engine has the answers of the ranking left
  left_ranking : (ks : List (KeyOf d 16)) → IsTreeRanking plan.tree d key ks → (rest : List AnswerView)
      → rest ≡ answers_of d ks
      → combinations_in bound.query rest ≡ ranking_of bound.query tables
  left_ranking ks ranking rest left =
      ap (combinations_in bound.query) (left
      ∙ answers_agree d bound.query tables (ranking_of bound.query tables) ks (is.whole.ranking ks ranking))
      ∙ (ranking_tells d bound.query tables
      (few_items bound.query tables is.whole.shape.atoms is.whole.shape.parents hung)).0

  pub plan_text : (ks : List (KeyOf d 16)) → IsTreeRanking plan.tree d key ks → (rest : List AnswerView)
      → rest ≡ answers_of d ks
      → (bounds : List BoundLine) → AreBounds plan.tree (length plan.tree) bounds → (ended : Bool)
      → ended ≡ not (reaches bound.query.limit (combinations_in bound.query rest))
      → (text : List ℕ) → text ≡ proof_text
      (record {
        bounds = bounds;
        answers = answer_lines (length bounds + 2)
            (cut bound.query.limit (combinations_in bound.query rest));
        ended = ended;
      })
      → IsProofText bound.query tables text
  plan_text ks ranking rest left bounds are ended early text same =
      let listed = left_ranking ks ranking rest left in
      let c : Certificate = record {
        bounds = bounds;
        answers = answer_lines (length bounds + 2)
            (cut bound.query.limit (combinations_in bound.query rest));
        ended = ended;
      } in (
        is.whole.shape,
        is.whole.is_shape,
        c,
        onto_shape (λ n p i. IsWritten (problem_with bound.query tables n p i) c
            (cut bound.query.limit (ranking_of bound.query tables)))
            (subst (λ list. IsWritten (problem_with bound.query tables (length plan.tree) (parent plan.tree)
            (item plan.tree)) c (cut bound.query.limit list)) listed
            (is_written d key bound tables plan.tree formed is.whole.reduced fits.variables is.whole.keys
            is.whole.ranks laws bounds are
            (cut bound.query.limit (combinations_in bound.query rest)) ended)),
        early ∙ ap (λ list. not (reaches bound.query.limit list)) listed,
        same,
      )
