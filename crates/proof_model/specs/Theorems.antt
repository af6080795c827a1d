-- What a certificate shows of the tree problem of a query.
use Rattle.std.specs.Prelude.{◌≡◌, ◌⊎◌, ◌↔◌, ℕ, ◌-◌, ◌<◌, ◌≤◌, false, List, length, slice_index}
use Rattle.anyk_model.specs.Table.{Table}
use Rattle.anyk_model.specs.Query.{Query}
use Rattle.anyk_model.specs.Output.{cut}
use Rattle.rankings.specs.Order.{IsRanking}
use Rattle.tdp_model.specs.KeyTuple.{KeyOf, key_add, key_below, key_none}
use Rattle.tdp_model.specs.TreeProblem.{sum_from}
use Rattle.rank_key.specs.Keys.{IsInRange}
use Rattle.bound_query.specs.WeighedQuery.{BoundQuery, Fits}
use Rattle.bound_query.specs.Shape.{HasTree}
use Rattle.proof_model.specs.Certificate.{Certificate}
use Rattle.proof_model.specs.ProofTexts.{IsProofText}
use Rattle.proof_model.specs.QueryProblem.{problem_of}
use Rattle.proof_model.specs.Laws.{IsSubtree, subtree_key}
use Rattle.proof_model.specs.FirstAnswers.{IsSolutionKey, answer_keys}
use Rattle.proof_model.specs.Parts.{HaveFewRows, IsPart}
use Rattle.proof_model.specs.Wide.{wide}
use Rattle.proof_model.specs.Full.{IsFull}
use Rattle.proof_model.specs.Valid.{IsValid, IsFirstFlaw, Begins, Flaw, Holds, answer_key}

-- there is a node, and each other one comes after its parent
pub record AreNodes (atoms parents : List ℕ) : Type 0 where
  pub some : 0 < length atoms
  pub first : (k : ℕ) → 0 < k → k < length atoms → slice_index parents k < k

-- each solution is listed, or it comes after the last answer and the certificate says `more`
abbrev pub UnlistedComeAfter : Type 0
UnlistedComeAfter =
    (query : Query) (tables : List Table) (atoms parents : List ℕ) (c : Certificate)
    → AreNodes atoms parents
    → IsValid (problem_of query tables atoms parents) c query.limit
    → (rows : ℕ → ℕ) → IsSubtree (problem_of query tables atoms parents) 0 rows
    → ((i : ℕ) × Begins (problem_of query tables atoms parents) c i rows (length atoms))
    ⊎ ((c.ended ≡ false) × (0 < length c.answers
    → (problem_of query tables atoms parents).Below
    (answer_key (problem_of query tables atoms parents) c (length c.answers - 1))
    (subtree_key (problem_of query tables atoms parents) 0 rows)))

-- the keys of the answers are those that the limit leaves of the ranking of all solutions by their
-- keys
abbrev pub AnswersAreFirst : Type 0
AnswersAreFirst =
    (query : Query) (tables : List Table) (atoms parents : List ℕ) (c : Certificate)
    → AreNodes atoms parents
    → IsValid (problem_of query tables atoms parents) c query.limit
    → (keys : List (KeyOf (length query.order) 16))
    → IsRanking (KeyOf (length query.order) 16) (key_below (length query.order) 16)
    (IsSolutionKey (problem_of query tables atoms parents)) keys
    → answer_keys (problem_of query tables atoms parents) c ≡ cut query.limit keys

-- no flaw is told of a valid certificate
abbrev pub ValidHasNoFlaw : Type 0
ValidHasNoFlaw =
    (query : Query) (tables : List Table) (atoms parents : List ℕ) (c : Certificate)
    → IsValid (problem_of query tables atoms parents) c query.limit
    → (f : Flaw) → Holds (problem_of query tables atoms parents) c query.limit f → ⊥

-- one flaw at most is the first one of a certificate
abbrev pub OneFirstFlaw : Type 0
OneFirstFlaw =
    (query : Query) (tables : List Table) (atoms parents : List ℕ) (c : Certificate) (f g : Flaw)
    → IsFirstFlaw (problem_of query tables atoms parents) c query.limit f
    → IsFirstFlaw (problem_of query tables atoms parents) c query.limit g → f ≡ g

-- a certificate that leaves nothing out is valid
abbrev pub FullIsValid : Type 0
FullIsValid =
    (query : Query) (tables : List Table) (atoms parents : List ℕ) (c : Certificate)
    → AreNodes atoms parents
    → IsFull (problem_of query tables atoms parents) c query.limit
    → IsValid (problem_of query tables atoms parents) c query.limit

-- keys with room for more sums are added and compared as the keys that they stand for
abbrev pub WideKeysAgree : Type 0
WideKeysAgree =
    (few more e : ℕ) → few ≤ more → (a b : KeyOf few e)
    → (wide few more e (key_add few e a b) ≡ key_add more e (wide few more e a) (wide few more e b))
    × (key_below more e (wide few more e a) (wide few more e b) ↔ key_below few e a b)

-- in a sum of keys of rows, at most one of each node, each sum fits 128 bits with a sign, and each
-- slot 32 bits without one
abbrev pub SumsFit : Type 0
SumsFit =
    (bound : BoundQuery) (tables : List Table) (atoms parents : List ℕ) (d : ℕ)
    → Fits bound tables → HaveFewRows tables → HasTree bound.query atoms parents
    → length bound.query.order ≤ d
    → (part : ℕ → KeyOf (length bound.query.order) 16)
    → ((q : ℕ) → q < length atoms → IsPart (problem_of bound.query tables atoms parents) q (part q))
    → IsInRange d (wide (length bound.query.order) d 16
    (sum_from (key_add (length bound.query.order) 16) (key_none (length bound.query.order) 16) part
    (length atoms) 0))

-- the text that is written for a query is one text
abbrev pub OneText : Type 0
OneText =
    (query : Query) (tables : List Table) (a b : List ℕ) → IsProofText query tables a
    → IsProofText query tables b
    → a ≡ b
