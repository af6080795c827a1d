-- Rows whose own links and whose links to children lie in lists beside them.
use Rattle.std.proofs.Common.{◌≡◌, ℕ, suc, List, [], ◌∷◌, ◌++◌, length, map, refl, sym, ap, subst, ◌∙◌, arith, length-append}
use Rattle.std.specs.List.{All}
use Rattle.std.proofs.lemmas.List.Elements.{All-map}
use Rattle.tdp_core.specs.declared.parts.NodeRow.{NodeRow}
use Rattle.tdp_core.specs.RawRows.{raw_rows, AreRawRows}

module _ {R : Type 0} where
  long : (rows : List (NodeRow R)) (owns : List ℕ) (named : List (List ℕ)) → length owns ≡ length rows → length named ≡ length rows → length (raw_rows rows owns named) ≡ length rows
  long [] owns named e f = refl
  long (row ∷ rows) [] named e f = absurd (omega (arith, e))
  long (row ∷ rows) (own ∷ owns) [] e f = absurd (omega (arith, f))
  long (row ∷ rows) (own ∷ owns) (ks ∷ named) e f = ap suc (long rows owns named (omega (arith, e)) (omega (arith, f)))

  its_rows : (rows : List (NodeRow R)) (owns : List ℕ) (named : List (List ℕ)) → length owns ≡ length rows → length named ≡ length rows → map (λ r. r.row) (raw_rows rows owns named) ≡ rows
  its_rows [] owns named e f = refl
  its_rows (row ∷ rows) [] named e f = absurd (omega (arith, e))
  its_rows (row ∷ rows) (own ∷ owns) [] e f = absurd (omega (arith, f))
  its_rows (row ∷ rows) (own ∷ owns) (ks ∷ named) e f = ap (λ l. row ∷ l) (its_rows rows owns named (omega (arith, e)) (omega (arith, f)))

  its_owns : (rows : List (NodeRow R)) (owns : List ℕ) (named : List (List ℕ)) → length owns ≡ length rows → length named ≡ length rows → map (λ r. r.own) (raw_rows rows owns named) ≡ owns
  its_owns [] [] named e f = refl
  its_owns [] (own ∷ owns) named e f = absurd (omega (arith, e))
  its_owns (row ∷ rows) [] named e f = absurd (omega (arith, e))
  its_owns (row ∷ rows) (own ∷ owns) [] e f = absurd (omega (arith, f))
  its_owns (row ∷ rows) (own ∷ owns) (ks ∷ named) e f = ap (λ l. own ∷ l) (its_owns rows owns named (omega (arith, e)) (omega (arith, f)))

  its_names : (rows : List (NodeRow R)) (owns : List ℕ) (named : List (List ℕ)) → length owns ≡ length rows → length named ≡ length rows → map (λ r. r.children) (raw_rows rows owns named) ≡ named
  its_names [] owns [] e f = refl
  its_names [] owns (ks ∷ named) e f = absurd (omega (arith, f))
  its_names (row ∷ rows) [] named e f = absurd (omega (arith, e))
  its_names (row ∷ rows) (own ∷ owns) [] e f = absurd (omega (arith, f))
  its_names (row ∷ rows) (own ∷ owns) (ks ∷ named) e f = ap (λ l. ks ∷ l) (its_names rows owns named (omega (arith, e)) (omega (arith, f)))

  module _ (rows : List (NodeRow R)) (owns : List ℕ) (named : List (List ℕ)) (formed : AreRawRows rows owns named) where
    pub rows_length : length (raw_rows rows owns named) ≡ length rows
    rows_length = long rows owns named formed.all_own formed.all_named

    -- what a reader gives of each row
    pub rows_are : map (λ r. r.row) (raw_rows rows owns named) ≡ rows
    rows_are = its_rows rows owns named formed.all_own formed.all_named

    pub owns_are : map (λ r. r.own) (raw_rows rows owns named) ≡ owns
    owns_are = its_owns rows owns named formed.all_own formed.all_named

    pub names_are : map (λ r. r.children) (raw_rows rows owns named) ≡ named
    names_are = its_names rows owns named formed.all_own formed.all_named

    -- rows that name as many links do so in their list
    pub all_wide : (n : ℕ) → All (λ r. length r.children ≡ n) (raw_rows rows owns named) → All (λ ks. length ks ≡ n) named
    all_wide n all = subst (All (λ ks. length ks ≡ n)) names_are (All-map (λ ks. length ks ≡ n) (λ r. r.children) (raw_rows rows owns named) all)

  appended : (rows : List (NodeRow R)) (owns : List ℕ) (named : List (List ℕ)) (row : NodeRow R) (own : ℕ) (more : List ℕ) → length owns ≡ length rows → length named ≡ length rows
      → raw_rows (rows ++ row ∷ []) (owns ++ own ∷ []) (named ++ more ∷ []) ≡ raw_rows rows owns named ++ record { row = row; own = own; children = more } ∷ []
  appended [] [] [] row own more e f = refl
  appended [] [] (ks ∷ named) row own more e f = absurd (omega (arith, f))
  appended [] (o ∷ owns) named row own more e f = absurd (omega (arith, e))
  appended (x ∷ rows) [] named row own more e f = absurd (omega (arith, e))
  appended (x ∷ rows) (o ∷ owns) [] row own more e f = absurd (omega (arith, f))
  appended (x ∷ rows) (o ∷ owns) (ks ∷ named) row own more e f =
      ap (λ l. record { row = x; own = o; children = ks } ∷ l) (appended rows owns named row own more (omega (arith, e)) (omega (arith, f)))

  -- one row more
  module _ (rows : List (NodeRow R)) (owns : List ℕ) (named : List (List ℕ)) (formed : AreRawRows rows owns named) (row : NodeRow R) (own : ℕ) (more : List ℕ) where
    pub rows_more : raw_rows (rows ++ row ∷ []) (owns ++ own ∷ []) (named ++ more ∷ []) ≡ raw_rows rows owns named ++ record { row = row; own = own; children = more } ∷ []
    rows_more = appended rows owns named row own more formed.all_own formed.all_named

    pub formed_rows : AreRawRows (rows ++ row ∷ []) (owns ++ own ∷ []) (named ++ more ∷ [])
    formed_rows =
        let e = formed.all_own in
        let f = formed.all_named in
        record {
          all_own = omega (arith, length-append owns (own ∷ []), length-append rows (row ∷ []), e);
          all_named = omega (arith, length-append named (more ∷ []), length-append rows (row ∷ []), f);
        }

-- lists that have the same items as before
module _ {R : Type 0} (rows rows_now : List (NodeRow R)) (owns owns_now : List ℕ) (named named_now : List (List ℕ)) (r : rows_now ≡ rows) (o : owns_now ≡ owns) (n : named_now ≡ named) where
  pub still_formed : AreRawRows rows owns named → AreRawRows rows_now owns_now named_now
  still_formed formed = record {
    all_own = ap length o ∙ formed.all_own ∙ sym (ap length r);
    all_named = ap length n ∙ formed.all_named ∙ sym (ap length r);
  }

  pub still_rows : raw_rows rows_now owns_now named_now ≡ raw_rows rows owns named
  still_rows = ap (λ l. raw_rows l owns_now named_now) r ∙ ap (λ l. raw_rows rows l named_now) o ∙ ap (raw_rows rows owns) n
