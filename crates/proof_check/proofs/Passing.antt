-- What is told of the ways to leave the answers, told of the open choices.
use Rattle.std.proofs.Common.{◌≡◌, ◌⊎◌, ℕ, ◌-◌, ◌<◌, ◌≤◌, true, false, Option, None, Some, List, length}
use Rattle.std.proofs.Common.{is_some, option_map, refl, sym, ap, subst, ◌∙◌, inl, inr, arith}
use Rattle.std.proofs.lemmas.Bool.{false≢true}
use Rattle.anyk_model.specs.Table.{Table}
use Rattle.anyk_model.specs.Query.{Query}
use Rattle.join_tree.specs.Rerooting.{IsTree}
use Rattle.join_tree.specs.declared.tree.JoinTree.{JoinTree}
use Rattle.tdp_model.specs.KeyTuple.{KeyOf}
use Rattle.proof_model.specs.Certificate.{Certificate}
use Rattle.proof_model.specs.Problem.{Problem}
use Rattle.proof_model.specs.QueryProblem.{problem_in}
use Rattle.proof_model.specs.Valid.{IsPassed, OpenChoice, answer_key, choice_key}
use Rattle.proof_model.proofs.Wider.{wide_below}
use Rattle.proof_check.specs.BoundedRows.{BoundedView, IsBounded, query_key}
use Rattle.proof_check.specs.RowPlaces.{ArePlaced, IsLastKey}
use Rattle.proof_check.proofs.Nodes.{all_nodes}
use Rattle.proof_check.specs.Choices.{ArePassed, IsMissed}
use Rattle.proof_check.specs.Levels.{IsMissedAt, IsPassedAt, IsPast}
use Rattle.proof_check.proofs.Bridge.{choice_value, choice_way, way-choice, way_key}

-- without a last answer there is none to come after
pub none_passed : {R : Type 0} (query : Query) (tables : List Table) (join : JoinTree) (d : ℕ) (key : R → KeyOf d 16) (c : Certificate)
    (answer : Option R) → IsLastKey query tables join d c (option_map key answer) → is_some answer ≡ false → c.ended ≡ false
    → ArePassed query tables join c
none_passed query tables join d key c None last none more o =
    subst (λ b. IsPassed (problem_in query tables join) c b o) (sym more) (λ some. absurd (omega (arith, some, last)))
none_passed query tables join d key c (Some k) last none more o = absurd (false≢true (sym none))

module _ {R : Type 0} (query : Query) (tables : List Table) (join : JoinTree) (d : ℕ) (key : R → KeyOf d 16)
    (c : Certificate) (tree : BoundedView R) (few : length query.order ≤ d)
    (bounded : IsBounded query tables join d key c tree) (ordered : IsTree join.count join.atom join.parent)
    (long : length join.atom ≡ 16) (places : List (List ℕ)) (placed : ArePlaced query tables join c tree.raw places) where
  abbrev t : Problem (KeyOf (length query.order) 16)
  t = problem_in query tables join

  abbrev W : KeyOf (length query.order) 16 → KeyOf d 16
  W k = query_key query d k

  -- the last answer, with which the choices are compared; there is none if the certificate says `end`
  abbrev pub IsLimit : Option (KeyOf d 16) → Type 0
  IsLimit last =
      ((c.ended ≡ true) × (last ≡ None))
      ⊎ ((c.ended ≡ false) × ((0 < length c.answers) × (last ≡ Some (W (answer_key t c (length c.answers - 1))))))

  pub limit_from : (answer : Option R) → IsLastKey query tables join d c (option_map key answer) → is_some answer ≡ true
      → c.ended ≡ false → (last : Option (KeyOf d 16)) → last ≡ option_map key answer → IsLimit last
  limit_from None h some ended last e = absurd (false≢true some)
  limit_from (Some k) h some ended last e = inr (ended, (h.0, e ∙ ap Some h.1))

  past_passed : (last : Option (KeyOf d 16)) → IsLimit last → (o : OpenChoice t c) → IsPast d last (W (choice_key t c o))
      → IsPassed t c c.ended o
  past_passed last (inl e) o h = absurd (subst (λ z. IsPast d z (W (choice_key t c o))) e.1 h)
  past_passed last (inr e) o h =
      subst (λ b. IsPassed t c b o) (sym e.0)
      (λ some. (wide_below (length query.order) d 16 few (answer_key t c (length c.answers - 1)) (choice_key t c o)).0
      (subst (λ z. IsPast d z (W (choice_key t c o))) e.1.1 h))

  passed_past : (last : Option (KeyOf d 16)) → IsLimit last → (o : OpenChoice t c) → IsPassed t c c.ended o
      → IsPast d last (W (choice_key t c o))
  passed_past last (inl e) o h = absurd (subst (λ b. IsPassed t c b o) e.0 h)
  passed_past last (inr e) o h =
      subst (λ z. IsPast d z (W (choice_key t c o))) (sym e.1.1)
      ((wide_below (length query.order) d 16 few (answer_key t c (length c.answers - 1)) (choice_key t c o)).1
      ((subst (λ b. IsPassed t c b o) e.0 h) e.1.0))

  pub all_passed : (last : Option (KeyOf d 16)) → IsLimit last
      → ((p : ℕ) → p < join.count → IsPassedAt join tree d key places last p) → ArePassed query tables join c
  all_passed last limit each o =
      let at = each o.at (let l = o.node in omega (arith, all_nodes query tables join ordered long, l)) in
      past_passed last limit o
      (subst (IsPast d last)
      (choice_value query tables join d key c tree few bounded ordered long places placed o.at o.node at.numbers at.starts
      at.pairs at.beginnings o refl)
      (at.passed _ _ _ (choice_way query tables join d key c tree few bounded ordered long places placed o.at o.node
      at.numbers at.starts at.pairs at.beginnings o refl)))

  pub is_missed : (last : Option (KeyOf d 16)) → IsLimit last → IsMissedAt join tree d key places last
      → IsMissed query tables join c
  is_missed last limit m =
      let node : m.at < t.nodes = let l = m.node in omega (arith, all_nodes query tables join ordered long, l) in (
        way-choice query tables join d key c tree few bounded ordered long places placed m.at node m.numbers m.starts
            m.pairs m.beginnings m.number m.row m.rank m.way,
        λ passed. m.early (subst (IsPast d last)
            (sym (way_key query tables join d key c tree few bounded ordered long places placed m.at node m.numbers m.starts
            m.pairs m.beginnings m.number m.row m.rank m.way))
            (passed_past last limit _ passed)),
      )
