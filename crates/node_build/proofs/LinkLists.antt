-- The links of some rows, one row after another.
use Rattle.std.proofs.Common.{◌≡◌, ◌<◌, ◌≤◌, ◌+◌, ◌-◌, ℕ, List, [], ◌∷◌, ◌++◌, map, take, length, get_or, replicate, sym, ap, subst, ◌∙◌, inl, inr, arith, length-append}
use Rattle.std.proofs.lemmas.Bool.{cases_lt}
use Rattle.std.proofs.lemmas.List.{get_or-map, get_or-replicate, get_or_append_left, get_or_push, length-map, length-replicate, take_more}
use Rattle.anyk_model.specs.Table.{Table, field_at}
use Rattle.table_store.specs.Values.{number_of}
use Rattle.link_index.specs.NumberedLists.{AreMore, IsNumbered}
use Rattle.node_build.specs.Links.{AreLinks, IsLink, values_in}
use Rattle.node_build.proofs.Numbering.{link_kept}

pub values_length : (tables : List Table) (table : Table) (row : ℕ) (columns : List ℕ) → length (values_in tables table row columns) ≡ length columns
values_length tables table row columns = length-map columns (λ (c : ℕ). number_of tables (field_at table (row - 1) c))

-- several values are linked by the number of their list
pub listed : (lists : List (List (List ℕ))) (q n : ℕ) (values : List ℕ) → 2 ≤ length values → IsNumbered lists q n values → IsLink lists q n values
listed lists q n [] several h = absurd (omega (arith, several))
listed lists q n (value ∷ []) several h = absurd (omega (arith, several))
listed lists q n (first ∷ second ∷ rest) several h = h

module _ (q : ℕ) (tables : List Table) (table : Table) (columns : List ℕ) where
  abbrev Link : List (List (List ℕ)) → ℕ → ℕ → Type 0
  Link lists row n = IsLink lists q n (values_in tables table row columns)

  pub links_kept : (old new : List (List (List ℕ))) (rows numbers : List ℕ) → AreMore old new → AreLinks old q tables table rows columns numbers → AreLinks new q tables table rows columns numbers
  links_kept old new rows numbers more h = record { count = h.count; each = λ r l. link_kept old new q (get_or numbers r 0) (values_in tables table (get_or rows r 0) columns) more (h.each r l) }

  pub no_links : (lists : List (List (List ℕ))) (rows numbers : List ℕ) → rows ≡ [] → numbers ≡ [] → AreLinks lists q tables table rows columns numbers
  no_links lists rows numbers none empty = record { count = ap length empty ∙ sym (ap length none); each = λ r l. absurd (omega (arith, l, ap length none)) }

  linked : (lists : List (List (List ℕ))) (rows numbers : List ℕ) (row n : ℕ) → AreLinks lists q tables table rows columns numbers → Link lists row n
      → AreLinks lists q tables table (rows ++ row ∷ []) columns (numbers ++ n ∷ [])
  linked lists rows numbers row n h here =
      let long = h.count in
      record {
        count = omega (arith, long, length-append numbers (n ∷ []), length-append rows (row ∷ []));
        each = λ r l. elim (cases_lt r (length rows)) [
          | inl before ↦
              subst (λ (k : ℕ). Link lists k (get_or (numbers ++ n ∷ []) r 0)) (sym (get_or_append_left rows (row ∷ []) 0 r before))
              (subst (λ (k : ℕ). Link lists (get_or rows r 0) k) (sym (get_or_append_left numbers (n ∷ []) 0 r (omega (arith, before, long)))) (h.each r before))
          | inr past ↦
              let at : length rows ≡ r = omega (arith, past, l, length-append rows (row ∷ [])) in
              subst (λ (k : ℕ). Link lists k (get_or (numbers ++ n ∷ []) r 0)) (sym (get_or_push rows row 0 r at))
              (subst (λ (k : ℕ). Link lists row k) (sym (get_or_push numbers n 0 r (long ∙ at))) here)
        ];
      }

  pub links_more : (old new : List (List (List ℕ))) (rows numbers : List ℕ) (i n : ℕ) → AreMore old new → i < length rows → AreLinks old q tables table (take i rows) columns numbers
      → Link new (get_or rows i 0) n → AreLinks new q tables table (take (i + 1) rows) columns (numbers ++ n ∷ [])
  links_more old new rows numbers i n more inside so_far here =
      subst (λ (rs : List ℕ). AreLinks new q tables table rs columns (numbers ++ n ∷ [])) (sym (take_more rows i 0 inside))
      (linked new (take i rows) numbers (get_or rows i 0) n (links_kept old new (take i rows) numbers more so_far) here)

-- without a column each link is 0, and with one it is the value
module _ (lists : List (List (List ℕ))) (q : ℕ) (tables : List Table) (table : Table) (rows : List ℕ) where
  pub links_of_none : (columns numbers : List ℕ) → columns ≡ [] → numbers ≡ replicate (length rows) 0 → AreLinks lists q tables table rows columns numbers
  links_of_none columns numbers none zeros =
      subst (λ (cs : List ℕ). AreLinks lists q tables table rows cs numbers) (sym none)
      (subst (λ (ns : List ℕ). AreLinks lists q tables table rows [] ns) (sym zeros)
      (record { count = length-replicate (length rows) 0; each = λ r l. get_or-replicate (length rows) r 0 0 l }))

  pub links_of_one : (column : ℕ) (columns numbers : List ℕ) → columns ≡ column ∷ [] → numbers ≡ map (λ (row : ℕ). number_of tables (field_at table (row - 1) column)) rows
      → AreLinks lists q tables table rows columns numbers
  links_of_one column columns numbers one values =
      let value : ℕ → ℕ = λ row. number_of tables (field_at table (row - 1) column) in
      subst (λ (cs : List ℕ). AreLinks lists q tables table rows cs numbers) (sym one)
      (subst (λ (ns : List ℕ). AreLinks lists q tables table rows (column ∷ []) ns) (sym values)
      (record { count = length-map rows value; each = λ r l. get_or-map value rows r 0 0 l }))
