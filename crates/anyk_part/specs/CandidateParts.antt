-- What contracts see of a candidate, and the numbers that it is kept as.
use Rattle.std.specs.Prelude.{◌≡◌, ℕ, ◌+◌, ◌-◌, ◌*◌, ◌/◌, ◌%◌, ◌^◌, zero, suc, Option, Some, None}
use Rattle.std.proofs.Common.{ap, ◌∙◌, refl, sym, arith}
use Rattle.anyk_part.specs.declared.candidate.Candidate.TheInside.{Inside}

-- a position, a place of the group there, and the last link of the rows before the position
pub record CandidateView : Type 0 where
  pub position : ℕ
  pub place : ℕ
  pub before : Option ℕ

-- the last link before a position, which none is before the first
abbrev pub link_before : ℕ → ℕ → Option ℕ
link_before zero id = None
link_before (suc position) id = Some id

-- the name that is kept of it
abbrev pub name_of : Option ℕ → ℕ
name_of None = 2 ^ 32 - 1
name_of (Some id) = id

-- the parts of what is kept
abbrev pub parts_of : Inside → CandidateView
parts_of c = record {
  position = c.at / 2 ^ 28;
  place = c.at % 2 ^ 28;
  before = link_before (c.at / 2 ^ 28) c.before;
}

-- how these parts are kept
abbrev pub kept_as : CandidateView → Inside
kept_as v = record { at = v.position * 2 ^ 28 + v.place; before = name_of v.before }

-- no link is named before the first position
abbrev pub IsKept : Inside → Type 0
IsKept c = c.at / 2 ^ 28 ≡ 0 → c.before ≡ 2 ^ 32 - 1

name_kept : (position id : ℕ) → (position ≡ 0 → id ≡ 2 ^ 32 - 1)
    → name_of (link_before position id) ≡ id
name_kept zero id none = sym (none refl)
name_kept (suc position) id none = refl

-- the parts of what is kept are kept as it is
pub kept_parts : (c : Inside) → IsKept c → kept_as (parts_of c) ≡ c
kept_parts c none =
    let whole : c.at / 2 ^ 28 * 2 ^ 28 + c.at % 2 ^ 28 ≡ c.at = omega arith in
    ap (λ n. record { at = n; before = name_of (link_before (c.at / 2 ^ 28) c.before) }) whole
    ∙ ap (λ n. record { at = c.at; before = n }) (name_kept (c.at / 2 ^ 28) c.before none)
