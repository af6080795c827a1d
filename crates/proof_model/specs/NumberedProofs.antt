-- Certificates that can be written and read again.
use Rattle.std.specs.Prelude.{◌≡◌, ℕ, ◌+◌, ◌<◌, List, [], ◌∷◌, length}
use Rattle.std.specs.List.{AllByRecursion}
use Rattle.proof_model.specs.Certificate.{BoundLine, AnswerLine, Certificate}

-- at most 7 digits
abbrev pub IsShort : ℕ → Type 0
IsShort n = n < 10000000

-- at least one row
abbrev pub AreRows : List ℕ → Type 0
AreRows rows = (0 < length rows) × AllByRecursion IsShort rows

-- the bounds are on the lines from number n on
abbrev pub AreBoundsFrom : ℕ → List BoundLine → Type 0
AreBoundsFrom n [] = Unit {0}
AreBoundsFrom n (b ∷ rest) = (b.line ≡ n) × IsShort b.node × AreRows b.rows
    × AreBoundsFrom (n + 1) rest

-- the answers are on the lines from number n on
abbrev pub AreAnswersFrom : ℕ → List AnswerLine → Type 0
AreAnswersFrom n [] = Unit {0}
AreAnswersFrom n (a ∷ rest) = (a.line ≡ n) × AreRows a.rows × AreAnswersFrom (n + 1) rest

-- the lines count on from the header, which is line 1
abbrev pub IsNumbered : Certificate → Type 0
IsNumbered c = AreBoundsFrom 2 c.bounds × AreAnswersFrom (2 + length c.bounds) c.answers
