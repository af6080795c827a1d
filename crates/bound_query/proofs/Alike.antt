-- Ear removal over the same variables removes the same ears in the same order.
use Rattle.std.proofs.Common.{◌≡◌, ℕ, zero, suc, ◌<◌, ◌≤◌, List, slice_index, inl, inr, sym, ◌∙◌, subst, arith}
use Rattle.std.proofs.lemmas.Bool.{cases_order}
use Rattle.hyper_graph.specs.Ears.{Covers, IsEar, CoversFirst}
use Rattle.hyper_graph.specs.Graph.{Hypergraph, HasVar, IsIn}
use Rattle.join_tree.specs.Removal.{IsLive, IsStep, IsRun}

-- a variable of one side is a variable of the other, and what is left on one side is left on the
-- other
pub record Within (Has Other : ℕ → ℕ → Type 0) (Live Left : ℕ → Type 0) : Type 0 where
  pub has : (v a : ℕ) → Has v a → Other v a
  pub back : (v a : ℕ) → Other v a → Has v a
  pub lives : (a : ℕ) → Live a → Left a
  pub live_back : (a : ℕ) → Left a → Live a

pub turned : (Has Other : ℕ → ℕ → Type 0) (Live Left : ℕ → Type 0) → Within Has Other Live Left → Within Other Has Left Live
turned Has Other Live Left w = record { has = w.back; back = w.has; lives = w.live_back; live_back = w.lives }

pub covers_alike : (Has Other : ℕ → ℕ → Type 0) (Live Left : ℕ → Type 0) → Within Has Other Live Left → (e f : ℕ)
    → Covers Has Live e f → Covers Other Left e f
covers_alike Has Other Live Left w e f c = record {
  live = w.lives f c.live;
  other = c.other;
  shared = λ v h l apart mine its. w.has v f (c.shared v h (w.live_back h l) apart (w.back v e mine) (w.back v h its));
}

pub ear_alike : (Has Other : ℕ → ℕ → Type 0) (Live Left : ℕ → Type 0) → Within Has Other Live Left → (e : ℕ)
    → IsEar Has Live e → IsEar Other Left e
ear_alike Has Other Live Left w e ear = record {
  live = w.lives e ear.live;
  cover = ear.cover;
  covers = covers_alike Has Other Live Left w e ear.cover ear.covers;
}

ear_of : (Has : ℕ → ℕ → Type 0) (Live : ℕ → Type 0) (e f : ℕ) → IsStep Has Live e f → IsEar Has Live e
ear_of Has Live e f s = record { live = s.live; cover = f; covers = s.cover.covers }

same_ear : (Has Other : ℕ → ℕ → Type 0) (Live Left : ℕ → Type 0) → Within Has Other Live Left → (d e f g : ℕ)
    → IsStep Has Live e f → IsStep Other Left d g → e ≡ d
same_ear Has Other Live Left w d e f g s t = elim (cases_order e d) [
  | inl same ↦ same
  | inr (inl l) ↦ absurd (s.greatest d l (ear_alike Other Has Left Live (turned Has Other Live Left w) d (ear_of Other Left d g t)))
  | inr (inr l) ↦ absurd (t.greatest e l (ear_alike Has Other Live Left w e (ear_of Has Live e f s)))
]

same_cover : (Has Other : ℕ → ℕ → Type 0) (Live Left : ℕ → Type 0) → Within Has Other Live Left → (e f g : ℕ)
    → CoversFirst Has Live e f → CoversFirst Other Left e g → f ≡ g
same_cover Has Other Live Left w e f g s t = elim (cases_order f g) [
  | inl same ↦ same
  | inr (inl l) ↦ absurd (t.least f l (covers_alike Has Other Live Left w e f s.covers))
  | inr (inr l) ↦ absurd (s.least g l (covers_alike Other Has Left Live (turned Has Other Live Left w) e g t.covers))
]

module _ (one two : Hypergraph) (p o q r : List ℕ) (m n c d : ℕ) (atoms : one.atoms ≡ two.atoms)
    (has : (v a : ℕ) → HasVar one v a → HasVar two v a) (back : (v a : ℕ) → HasVar two v a → HasVar one v a)
    (first : IsRun one p o m c) (second : IsRun two q r n d) where
  abbrev pub Same : ℕ → Type 0
  Same k = (j : ℕ) → j < k → (slice_index o j ≡ slice_index r j) × (slice_index p (slice_index o j) ≡ slice_index q (slice_index r j))

  live_to : (k a : ℕ) → Same k → IsLive one.atoms o k a → IsLive two.atoms r k a
  live_to k a same l = (subst (λ x. a < x) atoms l.0, λ j below e. l.1 j below ((same j below).0 ∙ e))

  live_from : (k a : ℕ) → Same k → IsLive two.atoms r k a → IsLive one.atoms o k a
  live_from k a same l = (subst (λ x. a < x) (sym atoms) l.0, λ j below e. l.1 j below (sym (same j below).0 ∙ e))

  within_at : (k : ℕ) → Same k → Within (HasVar one) (HasVar two) (IsLive one.atoms o k) (IsLive two.atoms r k)
  within_at k same = record { has = has; back = back; lives = λ a. live_to k a same; live_back = λ a. live_from k a same }

  ear_same : (k : ℕ) → Same k → (lm : k < m) → (ln : k < n) → slice_index o k ≡ slice_index r k
  ear_same k same lm ln = same_ear (HasVar one) (HasVar two) (IsLive one.atoms o k) (IsLive two.atoms r k) (within_at k same) (slice_index r k) (slice_index o k)
      (slice_index p (slice_index o k)) (slice_index q (slice_index r k)) (first.steps k lm) (second.steps k ln)

  cover_same : (k : ℕ) → Same k → (lm : k < m) → (ln : k < n) → slice_index p (slice_index o k) ≡ slice_index q (slice_index r k)
  cover_same k same lm ln =
      let there : CoversFirst (HasVar two) (IsLive two.atoms r k) (slice_index o k) (slice_index q (slice_index r k)) =
      subst (λ x. CoversFirst (HasVar two) (IsLive two.atoms r k) x (slice_index q (slice_index r k))) (sym (ear_same k same lm ln)) (second.steps k ln).cover in
      same_cover (HasVar one) (HasVar two) (IsLive one.atoms o k) (IsLive two.atoms r k) (within_at k same) (slice_index o k)
      (slice_index p (slice_index o k)) (slice_index q (slice_index r k)) (first.steps k lm).cover there

  extended : (k : ℕ) → Same k → k < m → k < n → Same (suc k)
  extended k same lm ln j below = elim (cases_order j k) [
    | inl here ↦ subst (λ x. (slice_index o x ≡ slice_index r x) × (slice_index p (slice_index o x) ≡ slice_index q (slice_index r x))) (sym here) (ear_same k same lm ln, cover_same k same lm ln)
    | inr (inl l) ↦ same j l
    | inr (inr l) ↦ absurd (omega arith)
  ]

  -- the same ears, each below the same atom, as long as both removals go on
  pub runs_same : (k : ℕ) → k ≤ m → k ≤ n → Same k
  runs_same zero lm ln = λ j below. absurd (omega arith)
  runs_same (suc k) lm ln = extended k (runs_same k (omega arith) (omega arith)) (omega arith) (omega arith)

  -- both stop after the same number of ears, if neither leaves an ear
  pub ends_same : ((e : ℕ) → IsEar (HasVar one) (IsIn c) e → ⊥) → ((e : ℕ) → IsEar (HasVar two) (IsIn d) e → ⊥) → m ≡ n
  ends_same stuck halted = elim (cases_order m n) [
    | inl same ↦ same
    | inr (inl l) ↦ absurd (stuck (slice_index r m) (ear_alike (HasVar two) (HasVar one) (IsLive two.atoms r m) (IsIn c)
        (record { has = back; back = has; lives = λ a h. (first.left a).1 (live_from m a (upto m (omega arith) (omega arith)) h); live_back = λ a h. live_to m a (upto m (omega arith) (omega arith)) ((first.left a).0 h) })
        (slice_index r m) (ear_of (HasVar two) (IsLive two.atoms r m) (slice_index r m) (slice_index q (slice_index r m)) (second.steps m l))))
    | inr (inr l) ↦ absurd (halted (slice_index o n) (ear_alike (HasVar one) (HasVar two) (IsLive one.atoms o n) (IsIn d)
        (record { has = has; back = back; lives = λ a h. (second.left a).1 (live_to n a (upto n (omega arith) (omega arith)) h); live_back = λ a h. live_from n a (upto n (omega arith) (omega arith)) ((second.left a).0 h) })
        (slice_index o n) (ear_of (HasVar one) (IsLive one.atoms o n) (slice_index o n) (slice_index p (slice_index o n)) (first.steps n l))))
  ]
    where
      upto : (k : ℕ) → k ≤ m → k ≤ n → Same k
      upto k lm ln = runs_same k lm ln

  -- and the same atoms are left
  pub core_same : m ≡ n → (a : ℕ) → IsIn c a → IsIn d a
  core_same e a h =
      let there : IsLive two.atoms r m a = live_to m a (runs_same m (omega arith) (omega (arith, e))) ((first.left a).0 h) in
      (second.left a).1 (subst (λ k. IsLive two.atoms r k a) e there)
