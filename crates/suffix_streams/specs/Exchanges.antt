-- Sums with another right part in place of their own.
use Rattle.std.specs.Prelude.{◌≡◌, ℕ, Option, Some, None, List}
use Rattle.rank_key.specs.Keys.{CanSwap}
use Rattle.stream_store.specs.declared.linked.Linked.{Linked}
use Rattle.take2_heap.specs.declared.entry.Entry.{Entry}
use Rattle.tdp_model.specs.KeyTuple.{KeyOf, key_add}
use Rattle.suffix_streams.specs.declared.cell.Cell.{Cell}
use Rattle.suffix_streams.specs.declared.source.Source.{Source}
use Rattle.suffix_streams.specs.declared.stream.Found.{Found}
use Rattle.suffix_streams.specs.TreeStreams.{HasKey}

-- the rank of the sum without its right part fits, and so does it with entry n as the right part
abbrev pub CanExchange : {R : Type 0} (d : ℕ) → (R → KeyOf d 16) → List (Linked (Found R))
    → Entry R Cell → ℕ → Type 0
CanExchange d key es sum n = (old new : KeyOf d 16) → HasKey d key es sum.tag.right old
    → HasKey d key es n new → CanSwap d key (key sum.rank) old new

-- the sum with entry n as its right part, if there is one: what is left of its key without the old
-- right part is there with the new one
abbrev pub IsExchanged : {R : Type 0} (d : ℕ) → (R → KeyOf d 16) → List (Linked (Found R))
    → Entry R Cell → Option ℕ → Option (Entry R Cell) → Type 0
IsExchanged d key es sum None None = Unit {0}
IsExchanged d key es sum None (Some e) = ⊥
IsExchanged d key es sum (Some n) None = ⊥
IsExchanged d key es sum (Some n) (Some e) =
    (e.tag ≡ record { left = sum.tag.left; right = n })
    × ((rest old new : KeyOf d 16) → HasKey d key es sum.tag.right old → HasKey d key es n new
    → key sum.rank ≡ key_add d 16 rest old → key e.rank ≡ key_add d 16 rest new)

-- the solution after `top` of a row with one child, at place p, if there is one: entry n is its part
abbrev pub IsChildOffer : {R : Type 0} (d : ℕ) → (R → KeyOf d 16) → List (Linked (Found R))
    → Entry R Source → ℕ → Option ℕ → Option (Entry R Source) → Type 0
IsChildOffer d key es top p below None = IsExchanged d key es
    (record { rank = top.rank; tag = top.tag.cell }) below None
IsChildOffer d key es top p below (Some e) = (e.tag ≡ record top.tag { place = p; cell = e.tag.cell })
    × IsExchanged d key es (record { rank = top.rank; tag = top.tag.cell }) below
    (Some (record { rank = e.rank; tag = e.tag.cell }))
