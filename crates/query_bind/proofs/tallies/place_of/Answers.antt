use Rattle.std.proofs.Common.{◌≡◌, ◌∙◌, ◌∷◌, [], take, get_or, sym, ap, subst, ◌==◌, ℕ, true, inl, inr}
use Rattle.std.proofs.lemmas.List.{map-append, take_more}
use Rattle.std.proofs.lemmas.Bool.Decides.{Decides-eqb}
use Rattle.std.proofs.lemmas.Bool.{and_from}
use Rattle.rankings.specs.Order.{IsMember}
use Rattle.query_bind.specs.Tallies.{columns_of}
use Rattle.query_bind.specs.declared.tallies.Tally.{Tally}
use Rattle.rankings.proofs.Members.{member_parts}
use Rattle.query_bind.proofs.tallies.place_of.Goals as goal

pub loop-i-preserved : goal.loop-i-preserved
loop-i-preserved c = λ m.
    let i = c.loop-i.i in
    let ys = c.args.tallies.now in
    let d : Tally = record { column = (0, 0); plus = 0; minus = 0 } in
    let y = get_or ys i d in
    let more = ap columns_of (take_more ys i d c.loop-i-test.true) ∙ map-append (λ (z : Tally). z.column) (take i ys) (y ∷ []) in
    elim (member_parts c.args.column y.column (columns_of (take i ys)) (subst (IsMember c.args.column) more m)) [
      | inl there ↦ c.loop-i.invariant there
      | inr e ↦ absurd (
          let first : (y.column.0 == c.args.column.0) ≡ true = (Decides-eqb y.column.0 c.args.column.0).1 (ap (λ (k : ℕ × ℕ). k.0) (sym e)) in
          let second : (y.column.1 == c.args.column.1) ≡ true = (Decides-eqb y.column.1 c.args.column.1).1 (ap (λ (k : ℕ × ℕ). k.1) (sym e)) in
          let hit = and_from (y.column.0 == c.args.column.0) (y.column.1 == c.args.column.1) first second in
          let ends = sym c.if-eq.false ∙ c.eq.ensures ∙ hit in
          cc)
    ]
