-- Streams whose first entries come one after another.
use Rattle.std.proofs.Common.{◌≡◌, ℕ, zero, suc, ◌+◌, ◌<◌, List, [], ◌∷◌, ◌++◌, length, get_or, slice_set, refl, sym, ap, ◌∙◌, arith}
use Rattle.take2_heap.specs.Heap.{Heap}
use Rattle.suffix_streams.specs.declared.source.Source.{Source}
use Rattle.suffix_streams.specs.StreamView.{StreamView, headed, IsNextHead}

module _ {R : Type 0} where
  -- the stream with this head and this queue
  abbrev pub stream_at_head : ℕ → Heap R Source → StreamView R
  stream_at_head n q = record { head = n; queue = q.entries; room = q.spare }

  pub headed_none : (n : ℕ) → headed {R = R} n [] ≡ []
  unfolding headed
  headed_none n = refl

  pub headed_length : (n : ℕ) (queues : List (Heap R Source)) → length (headed n queues) ≡ length queues
  unfolding headed
  headed_length n [] = refl
  headed_length n (q ∷ queues) = ap suc (headed_length (suc n) queues)

  pub headed_at : (n : ℕ) (queues : List (Heap R Source)) (g : ℕ) (d : StreamView R) (q : Heap R Source) → g < length queues → get_or (headed n queues) g d ≡ stream_at_head (n + g) (get_or queues g q)
  unfolding headed
  headed_at n [] g d q l = absurd (omega arith)
  headed_at n (p ∷ queues) zero d q l = let here : n ≡ n + zero = omega arith in ap (λ m. stream_at_head m p) here
  headed_at n (p ∷ queues) (suc g) d q l =
      let next : suc n + g ≡ n + suc g = omega arith in
      headed_at (suc n) queues g d q (omega arith) ∙ ap (λ m. stream_at_head m (get_or queues g q)) next

  pub headed_set : (n : ℕ) (queues : List (Heap R Source)) (g : ℕ) (q : Heap R Source) → headed n (slice_set queues g q) ≡ slice_set (headed n queues) g (stream_at_head (n + g) q)
  unfolding headed
  headed_set n [] g q = refl
  headed_set n (p ∷ queues) zero q = let here : n ≡ n + zero = omega arith in ap (λ m. stream_at_head m q ∷ headed (suc n) queues) here
  headed_set n (p ∷ queues) (suc g) q =
      let next : suc n + g ≡ n + suc g = omega arith in
      ap (λ z. stream_at_head n p ∷ z) (headed_set (suc n) queues g q ∙ ap (λ m. slice_set (headed (suc n) queues) g (stream_at_head m q)) next)

  pub headed_more : (n : ℕ) (queues : List (Heap R Source)) (q : Heap R Source) → headed n (queues ++ (q ∷ [])) ≡ headed n queues ++ (stream_at_head (n + length queues) q ∷ [])
  unfolding headed
  headed_more n [] q = let here : n ≡ n + zero = omega arith in ap (λ m. stream_at_head m q ∷ []) here
  headed_more n (p ∷ queues) q =
      let next : suc n + length queues ≡ n + suc (length queues) = omega arith in
      ap (λ z. stream_at_head n p ∷ z) (headed_more (suc n) queues q ∙ ap (λ m. headed (suc n) queues ++ (stream_at_head m q ∷ [])) next)

  -- no stream is there yet
  pub next_head_none : (streams : List (StreamView R)) (n : ℕ) → length streams ≡ 0 → IsNextHead streams n
  next_head_none [] n e = tt
  next_head_none (s ∷ streams) n e = absurd (omega (arith, e))

  -- one more stream
  pub next_head_more : (streams : List (StreamView R)) (s : StreamView R) (n m : ℕ) → IsNextHead streams n → s.head ≡ n → m ≡ n + 1 → IsNextHead (streams ++ (s ∷ [])) m
  next_head_more [] s n m h e at = omega (arith, e, at)
  next_head_more (x ∷ streams) s n m h e at = omega (arith, h, at, longer streams)
    where
      longer : (xs : List (StreamView R)) → length (xs ++ (s ∷ [])) ≡ length xs + 1
      longer [] = refl
      longer (y ∷ xs) = omega (arith, longer xs)

  -- the head that comes next after those of streams with these queues
  pub next_head_is : (n : ℕ) (queues : List (Heap R Source)) (head : ℕ) → 0 < length queues → IsNextHead (headed n queues) head → head ≡ n + length queues
  unfolding headed
  next_head_is n [] head l h = absurd (omega arith)
  next_head_is n (q ∷ queues) head l h = omega (arith, h, headed_length (suc n) queues)

  -- one more stream, at the head that comes next: with it the streams begin at `first`, which is the new head if it is the first one
  pub headed_next : (n first head : ℕ) (queues : List (Heap R Source)) (q : Heap R Source) → IsNextHead (headed n queues) head → first + length queues ≡ head
      → headed first (queues ++ (q ∷ [])) ≡ headed n queues ++ (stream_at_head head q ∷ [])
  unfolding headed
  headed_next n first head [] q h at = let same : first ≡ head = omega (arith, at) in ap (λ m. stream_at_head m q ∷ []) same
  headed_next n first head (p ∷ queues) q h at =
      let same : first ≡ n = omega (arith, at, next_head_is n (p ∷ queues) head (omega arith) h) in
      ap (λ m. headed m ((p ∷ queues) ++ (q ∷ []))) same ∙ headed_more n (p ∷ queues) q
      ∙ ap (λ m. headed n (p ∷ queues) ++ (stream_at_head m q ∷ [])) (sym (next_head_is n (p ∷ queues) head (omega arith) h))
