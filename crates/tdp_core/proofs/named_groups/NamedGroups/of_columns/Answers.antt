use Rattle.std.proofs.Common.{◌≡◌, ℕ, List, [], ◌∷◌, length, refl, sym, ap, subst, ◌∙◌, arith}
use Rattle.std.specs.List.{All}
use Rattle.std.proofs.lemmas.List.Elements.{All-head}
use Rattle.tdp_core.specs.NamedRows.{NamedView, columns_in, pieces, rows_across}
use Rattle.tdp_core.proofs.NamedPieces.{no_columns, one_column}
use Rattle.tdp_core.proofs.named_groups.NamedGroups.of_columns.Goals as goal

none : {X : Type 0} (xs : List X) → length xs ≡ 0 → xs ≡ []
none [] e = refl
none (x ∷ xs) e = absurd (omega (arith, e))

abbrev across : List (List ℕ) → ℕ → NamedView
across columns n = record { width = length columns; rows = rows_across columns n }

abbrev in_pieces : ℕ → ℕ → List ℕ → NamedView
in_pieces w n named = record { width = w; rows = pieces w n named }

without : (columns : List (List ℕ)) (named : List ℕ) (n : ℕ) → columns ≡ [] → named ≡ [] → in_pieces 0 n named ≡ across columns n
without columns named n e f = ap (in_pieces 0 n) f ∙ ap (λ ps. record { width = 0; rows = ps }) (sym (no_columns 0 n)) ∙ ap (λ cs. across cs n) (sym e)

with_one : (columns : List (List ℕ)) (named : List ℕ) (n : ℕ) → columns ≡ named ∷ [] → All (λ column. length column ≡ n) columns → in_pieces 1 n named ≡ across columns n
with_one columns named n e all =
    let long = All-head (λ column. length column ≡ n) named [] (subst (All (λ column. length column ≡ n)) e all) in
    ap (λ ps. record { width = 1; rows = ps }) (sym (one_column named 0 n (omega (arith, long)))) ∙ ap (λ cs. across cs n) (sym e)

pub returns-in-0 : goal.returns-in-0
returns-in-0 c =
    let empty = none c.args.columns.items (omega (arith, c.in-0.is, c.len.ensures, c.args.columns.ok.0)) in
    without (columns_in c.args.columns.items) c.new.result.items c.args.count (ap columns_in empty) c.new.ensures.items

pub returns-in-1 : goal.returns-in-1
returns-in-1 c = with_one (columns_in c.args.columns.items) c.only_column.result.items c.args.count c.only_column.ensures c.requires.long
