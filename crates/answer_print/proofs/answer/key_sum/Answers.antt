use Rattle.std.proofs.Common.{◌≡◌, ◌≤◌, ◌+◌, ◌∙◌, ◌+ℤ◌, ℕ, ℤ, List, FitsSigned, SFits, length, take, get_or, ap, arith, rules}
use mir.Syntax.{w128}
use mir.Val.{of_z, to_z}
use Rattle.std.proofs.lemmas.Int.{to_z-of_z}
use Rattle.std.proofs.lemmas.List.{length-map}
use Rattle.anyk_model.specs.Table.{Table}
use Rattle.anyk_model.specs.Query.{Query, Term, term_value}
use Rattle.bound_query.specs.StoredParts.{term_view}
use Rattle.bound_query.specs.WeighedQuery.{BoundQuery}
use Rattle.bound_query.specs.declared.bound.BoundTerm.{BoundTerm}
use Rattle.bound_query.specs.Weights.{key_at}
use Rattle.answer_print.proofs.KeySums.{HasTerm, added, added_all, added_fits, added_more, no_term, term_there}
use Rattle.answer_print.proofs.answer.key_sum.Goals as goal

-- the sum with one more term
record IsMore (query : Query) (tables : List Table) (rows : List ℕ) (terms : List Term) (n : ℕ) (sum : ℤ) : Type 0 where
  pub fits : FitsSigned w128 sum
  pub is : sum ≡ added query tables rows n terms

sum_more : (bound : BoundQuery) (tables : List Table) (rows : List ℕ) (stored : List BoundTerm) (k i : ℕ) (sum value : ℤ) → sum ≡ added bound.query tables rows i (key_at bound.query.order k).terms
    → HasTerm bound tables (key_at bound.query.order k) stored i → value ≡ term_value bound.query tables rows (term_view (get_or stored i no_term)) → SFits w128 value
    → IsMore bound.query tables rows (key_at bound.query.order k).terms (i + 1) (sum +ℤ to_z w128 (of_z w128 value))
sum_more bound tables rows stored k i sum value before t is fits =
    let terms = (key_at bound.query.order k).terms in
    let z = to_z w128 (of_z w128 value) in
    let more = added_more bound.query tables rows i terms (term_view (get_or stored i no_term)) (term_view no_term) sum z before t.same (to_z-of_z w128 value fits ∙ is) t.place in
    record { fits = added_fits bound.query tables rows (i + 1) terms (sum +ℤ z) t.range more; is = more }

pub term_value-sum-requires : goal.term_value-sum-requires
term_value-sum-requires c =
    let t = term_there c.args.query.now c.args.tables.now c.requires.fits c.args.key c.requires.key c.terms-term-items.result.now c.terms-term-items.ensures c.loop-term.term-index c.loop-term-test.true in
    record { fits = c.requires.fits; rows = c.requires.rows; inside = t.inside; small = t.small }

pub overflow_add-sum : goal.overflow_add-sum
overflow_add-sum c =
    let t = term_there c.args.query.now c.args.tables.now c.requires.fits c.args.key c.requires.key c.terms-term-items.result.now c.terms-term-items.ensures c.loop-term.term-index c.loop-term-test.true in
    (sum_more c.args.query.now c.args.tables.now (take (length c.args.query.now.query.items) c.args.rows.now) c.terms-term-items.result.now c.args.key c.loop-term.term-index
    (to_z w128 c.loop-term.sum-bits) c.term_value-sum.result c.loop-term.invariant t c.term_value-sum.ensures (search rules)).fits

pub loop-term-preserved : goal.loop-term-preserved
loop-term-preserved c =
    let t = term_there c.args.query.now c.args.tables.now c.requires.fits c.args.key c.requires.key c.terms-term-items.result.now c.terms-term-items.ensures c.loop-term.term-index c.loop-term-test.true in
    let more = sum_more c.args.query.now c.args.tables.now (take (length c.args.query.now.query.items) c.args.rows.now) c.terms-term-items.result.now c.args.key c.loop-term.term-index
    (to_z w128 c.loop-term.sum-bits) c.term_value-sum.result c.loop-term.invariant t c.term_value-sum.ensures (search rules) in
    to_z-of_z w128 _ more.fits ∙ more.is

pub returns : goal.returns
returns c =
    let query = c.args.query.now.query in
    let terms = (key_at query.order c.args.key).terms in
    let stored = c.terms-term-items in
    let all : length terms ≤ c.loop-term.term-index = omega (arith, ap length stored.ensures, length-map stored.result.now term_view) in
    c.loop-term.invariant ∙ added_all query c.args.tables.now (take (length query.items) c.args.rows.now) c.loop-term.term-index terms all
