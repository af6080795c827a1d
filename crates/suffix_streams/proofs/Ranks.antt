-- The ranks that a product keeps.
use Rattle.std.proofs.Common.{◌≡◌, ℕ, ◌<◌, List, [], ◌∷◌, ◌++◌, length, get_or, refl, sym, ap, ◌∙◌, subst, arith}
use Rattle.take2_heap.specs.declared.entry.Entry.{Entry}
use Rattle.tdp_model.specs.KeyTuple.{KeyOf, key_none}
use Rattle.suffix_streams.specs.declared.cell.Cell.{Cell}
use Rattle.suffix_streams.specs.ProductView.{ProductView, with_rank}
use Rattle.suffix_streams.specs.Frontiers.{AreFirstBy}
use Rattle.suffix_streams.specs.TreeStreams.{KeepsRanks}
use Rattle.suffix_streams.proofs.State.{first_more_by, count_more}
use Rattle.suffix_streams.proofs.Growth.{one_taken}

pub rank_more : {R : Type 0} (xs : List R) (x : R) → 0 < length xs → with_rank xs x ≡ xs ++ (x ∷ [])
rank_more [] x l = absurd (omega arith)
rank_more (y ∷ xs) x l = refl

-- one more solution is kept, with its rank
pub ranks_more : {R : Type 0} (d : ℕ) (key : R → KeyOf d 16) (ks : List (KeyOf d 16)) (p q : ProductView R) (next : Entry R Cell) → q.found ≡ p.found ++ (next.tag ∷ []) → q.ranks ≡ with_rank p.ranks next.rank
    → length p.found < length ks → get_or ks (length p.found) (key_none d 16) ≡ key next.rank → KeepsRanks d key ks p → KeepsRanks d key ks q
ranks_more d key ks p q next found ranks within at h =
    let same : q.ranks ≡ p.ranks ++ (next.rank ∷ []) = ranks ∙ rank_more p.ranks next.rank h.1.0 in (
      omega (arith, ap length same, ap length found, count_more p.ranks next.rank, count_more p.found next.tag, h.0),
      subst (λ z. AreFirstBy d key z ks) (sym same)
          (first_more_by d key p.ranks next.rank ks (key_none d 16) h.1 (omega (arith, within, h.0)) (ap (λ n. get_or ks n (key_none d 16)) h.0 ∙ at)),
    )

-- the first solution is kept, with its rank
pub first_ranked : {R : Type 0} (d : ℕ) (key : R → KeyOf d 16) (ks : List (KeyOf d 16)) (p : ProductView R) (e : Entry R Cell) → p.found ≡ e.tag ∷ [] → p.ranks ≡ e.rank ∷ [] → 0 < length ks → get_or ks 0 (key_none d 16) ≡ key e.rank → KeepsRanks d key ks p
first_ranked d key ks p e found ranks some at = (
  omega (arith, ap length found, ap length ranks),
  subst (λ z. AreFirstBy d key z ks) (sym ranks) (omega arith, omega (arith, some), ap (λ k. k ∷ []) (sym at) ∙ one_taken ks (key_none d 16) some),
)
