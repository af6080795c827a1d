-- Members that a merge gave one by one, each printed.
use Rattle.std.proofs.Common.{◌≡◌, ◌≤◌, ◌<◌, ◌+◌, ◌∷◌, ◌++◌, [], ℕ, zero, suc, IfSome, List, Option, map, take, drop, refl, sym, ap, subst, ◌∙◌, arith}
use Rattle.std.proofs.lemmas.List.{map-id}
use Rattle.std.specs.Io.KnownBytes.{Appends}
use Rattle.anyk_model.specs.Output.{cut}
use Rattle.anyk_model.specs.Query.{Query}
use Rattle.anyk_model.specs.Table.{Table}
use Rattle.outer_io.specs.SinkState.{SinkState}
use Rattle.anyk_model.specs.TaggedRows.{Tagged}
use Rattle.union_all.specs.Merge.{IsCalled, MergeView}
use Rattle.outer_io.proofs.Prints.{appends_nothing}
use Rattle.union_all.specs.Firsts.{tagged_view}
use Rattle.union_all.specs.declared.tagged.Tagged as stored
use Rattle.command_output.proofs.Given.{HasGiven, given_more}
use Rattle.command_output.specs.UnionSteps.{AreMembers, IsMember, UnionPaced, union_steps}
use Rattle.command_output.proofs.UnionCalls.{AreCalled, called_more, none_called, steps_rise}
use Rattle.command_output.proofs.UnionPacing.{next_within, paced}

-- a member as it is
abbrev pub itself : Tagged → Tagged
itself m = m

-- the first i members were given and printed, with a call for each
pub record HasPrinted (share : List ℕ → ℕ → ℕ) (all : List Query) (tables : List Table) (f : Tagged → List ℕ)
    (first : MergeView) (i : ℕ) (now : MergeView)
    (old new : SinkState) (before spent : ℕ) : Type 0 where
  pub given : HasGiven (IsMember all tables) f itself first.rest i now.rest old new
  pub called : AreCalled share first.engines now.engines (take i first.rest) before spent
  pub queries : now.queries ≡ first.queries

-- the first i + 1 are the first i and the one after them
take_next : (xs : List Tagged) (i : ℕ) (m : Tagged) (later : List Tagged) → drop i xs ≡ m ∷ later
    → take (i + 1) xs ≡ take i xs ++ m ∷ []
take_next xs i m later e = let same : i + 1 ≡ suc i = omega arith in ap (λ n. take n xs) same ∙ by xs i e
  where
    by : (xs : List Tagged) (i : ℕ) → drop i xs ≡ m ∷ later → take (suc i) xs ≡ take i xs ++ m ∷ []
    by [] zero e = cc
    by [] (suc i) e = cc
    by (x ∷ xs) zero e = cc
    by (x ∷ xs) (suc i) e = ap (λ (l : List Tagged). x ∷ l) (by xs i e)

-- the call for the next member
pub called_next : (share : List ℕ → ℕ → ℕ) → ((s : List ℕ) (c d : ℕ) → c ≤ d → share s c ≤ share s d)
    → (first now new : MergeView) (i : ℕ) (m : Tagged) (later : List Tagged)
    (before spent after : ℕ) → map itself now.rest ≡ drop i first.rest → now.rest ≡ m ∷ later
    → AreCalled share first.engines now.engines (take i first.rest) before spent
    → IsCalled share now new m.branch spent after → AreCalled share first.engines new.engines
    (take (i + 1) first.rest) before after
called_next share rises first now new i m later before spent after rest head called one =
    subst (λ (xs : List Tagged). AreCalled share first.engines new.engines xs before after)
    (sym (take_next first.rest i m later (sym rest ∙ map-id now.rest ∙ head)))
    (called_more share rises first.engines now new (take i first.rest) m before spent after called one)

module _ (share : List ℕ → ℕ → ℕ) (rises : (s : List ℕ) (c d : ℕ) → c ≤ d → share s c ≤ share s d) (all : List Query)
    (tables : List Table) (f : Tagged → List ℕ) (first : MergeView) where
  -- before the first call
  pub none_printed : (s : SinkState) (steps : ℕ) → AreMembers all tables first.rest
      → HasPrinted share all tables f first 0 first s s steps steps
  none_printed s steps members = record {
    given = record {
      rest = map-id first.rest;
      all = members;
      within = omega arith;
      sent = appends_nothing s.written;
      later = omega arith;
    };
    called = none_called share first.engines steps;
    queries = refl;
  }

  module _ (limit : Option ℕ) (i : ℕ) (now : MergeView) (old mid : SinkState) (before spent : ℕ)
      (h : HasPrinted share all tables f first i now old mid before spent) where
    -- the steps, if no call was made after the last record
    pub paced_same : IfSome limit (λ n. i ≤ n) → UnionPaced (union_steps share first.engines) f (cut limit first.rest)
        old.written mid.written before spent
    paced_same low =
        paced f first.rest limit i h.given.within low (union_steps share first.engines)
        (λ xs ys. steps_rise share rises xs ys 0 first.engines) i before spent (omega arith) low h.called.spent
        old.written mid.written mid.written [] h.given.sent (appends_nothing mid.written)

    module _ (m : Tagged) (later : List Tagged) (next : MergeView) (after : ℕ) (head : now.rest ≡ m ∷ later)
        (one : IsCalled share now next m.branch spent after) where
      -- the steps, if one call was made after the last record, and a part of the next record was written
      pub paced_next : IfSome limit (λ n. i < n) → IfSome limit (λ n. i ≤ n)
          → (new : Option (List ℕ)) (extra : List ℕ) → Appends mid.written new extra
          → UnionPaced (union_steps share first.engines) f (cut limit first.rest) old.written new before after
      paced_next below low new extra part =
          let called = called_next share rises first now next i m later before spent after h.given.rest head h.called
          one in
          paced f first.rest limit i h.given.within low (union_steps share first.engines)
          (λ xs ys. steps_rise share rises xs ys 0 first.engines) (i + 1) before after (omega arith)
          (next_within limit i below) called.spent old.written mid.written new extra h.given.sent part

      -- the next member was given and printed
      pub printed_more : (new : SinkState) → next.rest ≡ later → Appends mid.written new.written (f m)
          → mid.faults ≤ new.faults
          → HasPrinted share all tables f first (i + 1) next old new before after
      printed_more new left sent faults = record {
        given = subst (λ (xs : List Tagged). HasGiven (IsMember all tables) f itself first.rest (i + 1) xs old new)
            (sym left)
            (given_more (IsMember all tables) f itself first.rest i m m now.rest later h.given.rest head old mid new
            h.given sent faults);
        called = called_next share rises first now next i m later before spent after h.given.rest head h.called one;
        queries = one.queries ∙ h.queries;
      }

-- what was stored of a member, seen by the same queries
pub seen_by : (now : MergeView) (t : stored.Tagged) (later : List Tagged) (all first : List Query) → now.queries ≡ first
    → first ≡ all → now.rest ≡ tagged_view now.queries t ∷ later
    → now.rest ≡ tagged_view all t ∷ later
seen_by now t later all first same is found = subst (λ (qs : List Query). now.rest ≡ tagged_view qs t ∷ later)
    (same ∙ is) found
