use Rattle.std.proofs.Common.{◌≡◌, ℕ, ◌<◌, List, length, map, take, sym, ap, subst, ◌∙◌, inl, inr, refl, arith}
use Rattle.std.proofs.lemmas.List.{length-map}
use Rattle.std.proofs.lemmas.Result.{IfErr-weaker, IfOk-from_err, IfOk-weaker}
use Rattle.anyk_model.specs.Query.{Query}
use Rattle.anyk_model.specs.Table.{Table}
use Rattle.join_tree.specs.declared.tree.JoinTree.{JoinTree}
use Rattle.bound_query.specs.Shape.{IsShape, Shape}
use Rattle.std.specs.Prelude.{Ok}
use Rattle.proof_model.specs.declared.fault.ProofFault.{ProofFault}
use Rattle.proof_model.specs.declared.fault.ProofFault.TheVariants as fault
use Rattle.proof_model.specs.declared.proof.Listed.{Listed}
use Rattle.proof_model.specs.Certificate.{AnswerLine, Certificate}
use Rattle.proof_model.specs.ProofView.{listed_view, proof_view}
use Rattle.proof_model.specs.Faults.{TellsFlaw}
use Rattle.proof_model.specs.QueryProblem.{problem_in}
use Rattle.proof_model.specs.Valid.{IsFirstFlaw, IsValid, missed}
use Rattle.proof_check.specs.Choices.{IsMissed, TellsMissed}
use Rattle.proof_check.specs.RowLists.{item_rows, list_at}
use Rattle.proof_check.proofs.Counts.{at_list}
use Rattle.proof_check.proofs.Firsts.{missed_first}
use Rattle.proof_check.proofs.Rows.{rows_at, rows_seen, tree_size}
use Rattle.proof_check.proofs.Tellings.{told_err}
use Rattle.proof_check.proofs.checking.verify.Goals as goal

-- a missed answer is told as the first flaw
told_first : (query : Query) (tables : List Table) (join : JoinTree) (c : Certificate) (shape : Shape)
    → IsShape query tables (Ok shape) → (IsMissed query tables join c → IsFirstFlaw (problem_in query tables join) c query.limit missed)
    → (told : ProofFault) → TellsMissed query tables join c told → TellsFlaw query tables join c told
told_first query tables join c shape is first told (inl e) = subst (TellsFlaw query tables join c) (sym e) tt
told_first query tables join c shape is first told (inr e) =
    subst (TellsFlaw query tables join c) (sym e.0) (shape, is, missed, refl, first e.1)

pub rows_of-requires-clause-few : goal.rows_of-requires-clause-few
rows_of-requires-clause-few g c = c.requires.ordered.few

pub rows_of-requires-clause-each : goal.rows_of-requires-clause-each
rows_of-requires-clause-each g c =
    let join = c.args.join.now in let xs = c.args.proof.now.answers.items in
    let long : length join.atom ≡ 16 = omega arith in
    let some : 0 < join.count = at_list 0 _ _ c.requires.fits.some c.requires.count in
    let each : (i : ℕ) → i < length xs → length (list_at (map (λ a. a.rows.items) xs) i) ≡ join.count = λ i l.
    ap length (rows_at xs i l)
    ∙ (c.in_ok-answers.ensures.placed.answers i (at_list _ _ _ l (length-map xs listed_view))).count
    ∙ tree_size c.args.query.now.query c.args.tables.now join c.requires.ordered long some in
    subst (λ ys. (i : ℕ) → i < length ys → length (list_at (map (λ a. a.rows.items) ys) i) ≡ join.count)
    (sym c.deref.ensures.value) each

pub returns-in-Ok : goal.returns-in-Ok
returns-in-Ok g c =
    let query = c.args.query.now.query in let tables = c.args.tables.now in
    let join = c.args.join.now in
    let cert = proof_view c.args.proof.now in
    let xs = c.args.proof.now.answers.items in let bounded = c.in_ok-tree.ensures.bounded in
    let placed = c.in_ok-answers.ensures.placed in let r = c.rows_of.result in
    let same : map (λ (a : Listed). a.rows.items) c.deref.result.now ≡ map (λ (a : AnswerLine). a.rows) (map listed_view xs) =
    ap (map (λ (a : Listed). a.rows.items)) c.deref.ensures.value ∙ sym (rows_seen xs) in
    let valid : IsValid (problem_in query tables join) cert query.limit = record {
      bounds = bounded.solutions;
      apart = bounded.apart;
      covered = placed.covered;
      answers = placed.answers;
      ascending = placed.ascending;
      count = placed.limited;
      passed = c.in-Ok.ensures.passed;
    } in
    record {
      valid = IfOk-weaker r _ _ (λ found e. valid) c.rows_of.ensures.rows;
      few = IfOk-weaker r _ _ (λ found e. (bounded.shape, bounded.is_shape)) c.rows_of.ensures.rows;
      rows = IfOk-weaker r (λ found. map (take join.count) found.items ≡ map (λ (a : Listed). a.rows.items) c.deref.result.now)
          (λ found. item_rows query found.items ≡ map (λ (a : AnswerLine). a.rows) (map listed_view xs))
          (λ found e. ap (λ n. map (take n) found.items) (sym c.requires.count) ∙ e ∙ same) c.rows_of.ensures.rows;
      fault = IfErr-weaker r (λ e. e ≡ fault.NoMemory) (TellsFlaw query tables join cert)
          (λ e is. subst (TellsFlaw query tables join cert) (sym is) tt) c.rows_of.ensures.fault;
    }

pub returns : goal.returns
returns g c =
    let query = c.args.query.now.query in let tables = c.args.tables.now in
    let join = c.args.join.now in
    let cert = proof_view c.args.proof.now in
    let bounded = c.in_ok-tree.ensures.bounded in let placed = c.in_ok-answers.ensures.placed in
    record {
      valid = tt;
      few = tt;
      rows = tt;
      fault = told_first query tables join cert bounded.shape bounded.is_shape
          (missed_first (problem_in query tables join) cert query.limit bounded.solutions bounded.apart (λ v l row is. placed.covered v row l is) placed.answers
          placed.ascending placed.limited) c.in-Err.fault c.in-Err.ensures.fault;
    }

pub returns-in_err-tree : goal.returns-in_err-tree
returns-in_err-tree g c =
    let r = c.from_residual.result in let e = c.from_residual.ensures in
    record {
      valid = IfOk-from_err r _ e.0;
      few = IfOk-from_err r _ e.0;
      rows = IfOk-from_err r _ e.0;
      fault = told_err r _ _ e.1 c.in_err-tree.ensures.fault;
    }

pub returns-in_err-answers : goal.returns-in_err-answers
returns-in_err-answers g c =
    let r = c.from_residual-in_err-answers.result in
    let e = c.from_residual-in_err-answers.ensures in
    record {
      valid = IfOk-from_err r _ e.0;
      few = IfOk-from_err r _ e.0;
      rows = IfOk-from_err r _ e.0;
      fault = told_err r _ _ e.1 c.in_err-answers.ensures.fault;
    }

pub placed_answers-requires-clause-fits : goal.placed_answers-requires-clause-fits
placed_answers-requires-clause-fits g c = c.requires.fits

pub placed_answers-requires-clause-keys : goal.placed_answers-requires-clause-keys
placed_answers-requires-clause-keys g c = c.requires.keys

pub placed_answers-requires-clause-slots : goal.placed_answers-requires-clause-slots
placed_answers-requires-clause-slots g c = c.requires.slots

pub placed_answers-requires-clause-tree : goal.placed_answers-requires-clause-tree
placed_answers-requires-clause-tree g c = c.requires.tree

pub placed_answers-requires-clause-ordered : goal.placed_answers-requires-clause-ordered
placed_answers-requires-clause-ordered g c = c.requires.ordered

pub placed_answers-requires-clause-items : goal.placed_answers-requires-clause-items
placed_answers-requires-clause-items g c = c.requires.items

pub placed_answers-requires-clause-count : goal.placed_answers-requires-clause-count
placed_answers-requires-clause-count g c = c.requires.count

pub placed_answers-requires-clause-bounded : goal.placed_answers-requires-clause-bounded
placed_answers-requires-clause-bounded g c = c.in_ok-tree.ensures.bounded

pub check_choices-requires-clause-fits : goal.check_choices-requires-clause-fits
check_choices-requires-clause-fits g c = c.requires.fits

pub check_choices-requires-clause-keys : goal.check_choices-requires-clause-keys
check_choices-requires-clause-keys g c = c.requires.keys

pub check_choices-requires-clause-slots : goal.check_choices-requires-clause-slots
check_choices-requires-clause-slots g c = c.requires.slots

pub check_choices-requires-clause-tree : goal.check_choices-requires-clause-tree
check_choices-requires-clause-tree g c = c.requires.tree

pub check_choices-requires-clause-ordered : goal.check_choices-requires-clause-ordered
check_choices-requires-clause-ordered g c = c.requires.ordered

pub check_choices-requires-clause-items : goal.check_choices-requires-clause-items
check_choices-requires-clause-items g c = c.requires.items

pub check_choices-requires-clause-count : goal.check_choices-requires-clause-count
check_choices-requires-clause-count g c = c.requires.count

pub check_choices-requires-clause-bounded : goal.check_choices-requires-clause-bounded
check_choices-requires-clause-bounded g c = c.in_ok-tree.ensures.bounded

pub check_choices-requires-clause-placed : goal.check_choices-requires-clause-placed
check_choices-requires-clause-placed g c = c.in_ok-answers.ensures.placed

pub check_choices-requires-clause-last : goal.check_choices-requires-clause-last
check_choices-requires-clause-last g c = c.in_ok-answers.ensures.last

pub bounded_tree-requires-clause-fits : goal.bounded_tree-requires-clause-fits
bounded_tree-requires-clause-fits g c = c.requires.fits

pub bounded_tree-requires-clause-keys : goal.bounded_tree-requires-clause-keys
bounded_tree-requires-clause-keys g c = c.requires.keys

pub bounded_tree-requires-clause-slots : goal.bounded_tree-requires-clause-slots
bounded_tree-requires-clause-slots g c = c.requires.slots

pub bounded_tree-requires-clause-limit : goal.bounded_tree-requires-clause-limit
bounded_tree-requires-clause-limit g c = c.requires.limit

pub bounded_tree-requires-clause-tree : goal.bounded_tree-requires-clause-tree
bounded_tree-requires-clause-tree g c = c.requires.tree

pub bounded_tree-requires-clause-ordered : goal.bounded_tree-requires-clause-ordered
bounded_tree-requires-clause-ordered g c = c.requires.ordered

pub bounded_tree-requires-clause-items : goal.bounded_tree-requires-clause-items
bounded_tree-requires-clause-items g c = c.requires.items

pub bounded_tree-requires-clause-count : goal.bounded_tree-requires-clause-count
bounded_tree-requires-clause-count g c = c.requires.count
