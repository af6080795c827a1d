-- What one more field changes, and many.
use Rattle.std.proofs.Common.{◌≡◌, ◌+◌, ℕ, List, [], ◌∷◌, ◌++◌, drop, length, refl, sym, ap, subst, ◌∙◌, arith, length-append, append-nil, append_assoc}
use Rattle.std.proofs.Math.Seq.{drop-append_seam}
use Rattle.std.specs.List.{concat}
use Rattle.csv.specs.Records.{Rising, cut_from, last_end}
use Rattle.csv.proofs.RecordFacts.{cut-end, cut-more, last-append, rising-end, rising-more}
use Rattle.anyk_model.specs.Table.{Fields}
use Rattle.table_store.specs.Fields.{ArePacked}
use Rattle.csv_tables.specs.Fields.{ends_from}

pub none_cut : (bytes : List ℕ) → cut_from 0 [] bytes ≡ []
unfolding cut_from
none_cut bytes = refl

pub none_rising : Rising 0 [] 0
unfolding Rising
none_rising = omega arith

pub none_whole : last_end 0 [] ≡ 0
unfolding last_end
none_whole = refl

module _ (ends bytes field : List ℕ) (rising : Rising 0 ends (length bytes)) (whole : last_end 0 ends ≡ length bytes) where
  rising_grown : Rising 0 ends (length (bytes ++ field))
  rising_grown = rising-more 0 ends (length bytes) (length (bytes ++ field)) rising (omega (arith, length-append bytes field))

  push_cut : cut_from 0 (ends ++ length (bytes ++ field) ∷ []) (bytes ++ field) ≡ cut_from 0 ends bytes ++ field ∷ []
  push_cut =
      let last : drop (last_end 0 ends) (bytes ++ field) ≡ field = ap (λ (n : ℕ). drop n (bytes ++ field)) whole ∙ drop-append_seam bytes field in
      let front = cut-more 0 ends bytes field rising in
      cut-end 0 ends (bytes ++ field) rising_grown ∙ (λ i. front i ++ last i ∷ [])

  push_rising : Rising 0 (ends ++ length (bytes ++ field) ∷ []) (length (bytes ++ field))
  push_rising = rising-end 0 ends (length (bytes ++ field)) rising_grown

  push_whole : last_end 0 (ends ++ length (bytes ++ field) ∷ []) ≡ length (bytes ++ field)
  push_whole = last-append 0 ends (length (bytes ++ field))

-- places and bytes that are the same are packed as before
pub same_packed : (a b ends bytes : List ℕ) → a ≡ ends → b ≡ bytes → ArePacked ends bytes → ArePacked a b
same_packed a b ends bytes same kept packed = subst (λ (l : List ℕ). ArePacked l b) (sym same) (subst (ArePacked ends) (sym kept) packed)

-- places and bytes that show these fields
pub record Shows (ends bytes : List ℕ) (fields : Fields) : Type 0 where
  pub rising : Rising 0 ends (length bytes)
  pub whole : last_end 0 ends ≡ length bytes
  pub cut : cut_from 0 ends bytes ≡ fields

-- the bytes of one more field, and its end
pub shows_push : (ends bytes : List ℕ) (fields : Fields) (f : List ℕ) → Shows ends bytes fields
    → Shows (ends ++ (length bytes + length f) ∷ []) (bytes ++ f) (fields ++ f ∷ [])
shows_push ends bytes fields f shows =
    rw (sym (length-append bytes f)) (record {
      rising = push_rising ends bytes f shows.rising shows.whole;
      whole = push_whole ends bytes f shows.rising shows.whole;
      cut = push_cut ends bytes f shows.rising shows.whole ∙ ap (λ (l : Fields). l ++ f ∷ []) shows.cut;
    })

-- the bytes of more fields, and their ends
pub shows_more : (more : Fields) (ends bytes : List ℕ) (fields : Fields) → Shows ends bytes fields
    → Shows (ends ++ ends_from (length bytes) more) (bytes ++ concat more) (fields ++ more)
shows_more [] ends bytes fields shows = rw (append-nil ends, append-nil bytes, append-nil fields) shows
shows_more (f ∷ more) ends bytes fields shows =
    let rest = shows_more more (ends ++ (length bytes + length f) ∷ []) (bytes ++ f) (fields ++ f ∷ []) (shows_push ends bytes fields f shows) in
    rw (
      length-append bytes f,
      append_assoc ends ((length bytes + length f) ∷ []) (ends_from (length bytes + length f) more),
      append_assoc bytes f (concat more),
      append_assoc fields (f ∷ []) more,
    ) at rest
