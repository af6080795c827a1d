-- The steps of the calls for answers that are printed one by one.
use Rattle.std.proofs.Common.{◌≤◌, ◌<◌, ◌+◌, [], ℕ, List, map, IfSome, Option, refl, arith}
use Rattle.std.specs.Io.KnownBytes.{Appends}
use Rattle.anyk_model.specs.Output.{cut}
use Rattle.bound_query.specs.Steps.{Paced, calls_for}
use Rattle.bound_query.proofs.Calls.{called_more, rises_from}
use Rattle.bound_query.proofs.Pacing.{calls_more, calls_same, paced}
use Rattle.outer_io.specs.SinkState.{SinkState}
use Rattle.outer_io.proofs.Prints.{appends_nothing}
use Rattle.command_output.proofs.Given.{HasPrinted}
use Rattle.command_output.proofs.Limits.{below_within}

module _ (share : List ℕ → ℕ → ℕ) (rises : (s : List ℕ) (c d : ℕ) → c ≤ d → share s c ≤ share s d) {A B : Type 0} (P : B → Type 0) (f : A → List ℕ) (seen : B → A) (list : List A)
    (limit : Option ℕ) (i : ℕ) {left : List B} {old mid : SinkState} {size : List ℕ} {calls : ℕ} {size_now : List ℕ} {calls_now before spent : ℕ}
    (h : HasPrinted P f seen list i left old mid share size calls size_now calls_now before spent) where
  -- no call was made after the last record
  pub paced_same : IfSome limit (λ n. i ≤ n) → Paced (λ n. share size (calls + n)) (map f (cut limit list)) (calls_for limit list) old.written mid.written before spent
  paced_same low =
      paced f list limit i h.given.within low (λ n. share size (calls + n)) (rises_from share rises size calls) i before spent (omega arith) (calls_same limit list i h.given.within low)
      h.called.spent old.written mid.written mid.written [] h.given.sent (appends_nothing mid.written)

  -- one call was made after the last record, and a part of the next record was written
  pub paced_next : (due after : ℕ) → IfSome limit (λ n. i < n) → due ≤ share size_now calls_now → after ≤ spent + due → (new : Option (List ℕ)) (extra : List ℕ)
      → Appends mid.written new extra → Paced (λ n. share size (calls + n)) (map f (cut limit list)) (calls_for limit list) old.written new before after
  paced_next due after below fits cost new extra part =
      let called = called_more share rises size calls i size_now size_now calls_now calls_now before spent after due h.called fits cost (omega arith) refl in
      paced f list limit i h.given.within (below_within limit i below) (λ n. share size (calls + n)) (rises_from share rises size calls) (i + 1) before after (omega arith)
      (calls_more limit list i h.given.within below) called.spent old.written mid.written new extra h.given.sent part
