use Rattle.std.proofs.Common.{◌≡◌, ℕ, ◌+◌, ◌*◌, ◌<◌, ◌≤◌, Option, IfSome, IfNone, Result, Ok, Err, OnErr, Bool, true, false, nat_lt, List, length, refl, sym, ap, ◌∙◌, subst, arith}
use Rattle.std.proofs.lemmas.Bool.Decides.{nat_tests}
use Rattle.tdp_core.specs.declared.ranked.Answer.{Answer}
use Rattle.tdp_core.specs.TreeView.{NodeView, group_count}
use Rattle.suffix_streams.specs.Rankings.{group_list}
use Rattle.suffix_streams.specs.StreamsView.{entry_place, entry_key, size_of_node}
use Rattle.tdp_core.specs.Shares.{size_of, share_of}
use Rattle.tdp_core.specs.AnswerView.{counted}
use Rattle.tdp_core.specs.WellFormed.{IsFormed}
use Rattle.suffix_streams.proofs.Errors.{none_given}
use Rattle.anyk_rec.specs.RecView.{RecView, rest_of, IsRootEntry, given_of}
use Rattle.anyk_rec.proofs.Rests.{rest_none, rest_end, rest_same, rest_next, root_key, given_kept, root_kept, call_within}
use Rattle.anyk_rec.proofs.rec.RecRanked.next.Goals as goal

no_groups : (n : ℕ) (b : Bool) → b ≡ nat_lt 0 n → b ≡ false → n ≡ 0
no_groups n b e f = let h : nat_lt 0 n ≡ false = sym e ∙ f in grind (arith, nat_tests)

some_groups : (n : ℕ) (b : Bool) → b ≡ nat_lt 0 n → b ≡ true → 0 < n
some_groups n b e f = let h : nat_lt 0 n ≡ true = sym e ∙ f in grind (arith, nat_tests)

no_steps : (s n : ℕ) → s ≤ s + n
no_steps s n = omega arith

on_err : {A E P : Type 0} (r : Result A E) → P → OnErr r P
on_err (Ok x) p = tt
on_err (Err e) p = p

stays : (old n m : ℕ) → n ≡ old → m ≡ n → old ≤ m
stays old n m e f = omega arith

stays_within : (old n m : ℕ) → n ≡ old → m ≡ n → m ≤ old + 1
stays_within old n m e f = omega arith

goes_on : (old n p : ℕ) → n ≡ old → p ≡ n → old ≤ p + 1
goes_on old n p e f = omega arith

goes_within : (old n p : ℕ) → n ≡ old → p ≡ n → p + 1 ≤ old + 1
goes_within old n p e f = omega arith

pub returns-then-not-self : goal.returns-then-not-self
returns-then-not-self g c =
    record {
      found = tt;
      end =
          let s = c.self.inside.streams in
          let none : group_count s.tree 0 ≡ 0 = no_groups (group_count s.tree 0) c.self.inside.live c.self.invariant.live_is c.if-not-self.true in
          let r : RecView g.row.R.Denot = record { streams = s; given = given_of s c.self.inside.last; calls = c.self.inside.calls } in (
            ap (rest_of g.R.Rank.KEYS g.R.Rank.key) (sym c.self.view_is) ∙ rest_none g.R.Rank.KEYS g.R.Rank.key r none,
            rest_none g.R.Rank.KEYS g.R.Rank.key (record { streams = s; given = given_of s c.self.inside.last; calls = c.saturating_add-self-inside.result }) none,
          );
      refused = tt;
      counted = c.saturating_add-self-inside.ensures ∙ ap (λ (r : RecView g.row.R.Denot). counted r.calls) c.self.view_is;
      size = ap (λ (r : RecView g.row.R.Denot). size_of r.streams.tree) c.self.view_is;
      cost = no_steps _ _;
      forward = stays _ _ _ (ap (λ (r : RecView g.row.R.Denot). r.given) c.self.view_is) refl;
      moved = stays_within _ _ _ (ap (λ (r : RecView g.row.R.Denot). r.given) c.self.view_is) refl;
      growth = λ q. subst (λ (r : RecView g.row.R.Denot). size_of_node c.self.inside.streams q ≤ size_of_node r.streams q + 1) c.self.view_is (no_steps _ _);
    }

pub returns-in_err-entry : goal.returns-in_err-entry
returns-in_err-entry g c =
    record {
      found = none_given _ c.from_residual.result c.from_residual.ensures.0;
      end = none_given _ c.from_residual.result c.from_residual.ensures.0;
      refused =
          let s = c.self.inside.streams in
          let r : RecView g.row.R.Denot = record { streams = s; given = given_of s c.self.inside.last; calls = c.self.inside.calls } in
          on_err c.from_residual.result
          (rest_same g.R.Rank.KEYS g.R.Rank.key r (record { streams = c.following.new.streams; given = given_of c.following.new.streams c.self.inside.last; calls = c.saturating_add-self-inside.result })
          c.following.ensures.tree (given_kept s c.following.new.streams c.self.inside.last c.following.ensures.kept c.self.invariant.last_in)
          ∙ ap (rest_of g.R.Rank.KEYS g.R.Rank.key) c.self.view_is);
      counted = c.saturating_add-self-inside.ensures ∙ ap (λ (r : RecView g.row.R.Denot). counted r.calls) c.self.view_is;
      size = ap size_of c.following.ensures.tree ∙ ap (λ (r : RecView g.row.R.Denot). size_of r.streams.tree) c.self.view_is;
      cost =
          let s = c.self.inside.streams in
          let live : 0 < group_count s.tree 0 = some_groups (group_count s.tree 0) c.self.inside.live c.self.invariant.live_is c.if-not-self.false in
          let within = call_within s.tree s.calls c.self.inside.calls c.args.steps.now c.following.new.steps c.self.invariant.formed.shaped.some_node live c.self.invariant.few_calls c.following.ensures.cost in
          subst (λ (r : RecView g.row.R.Denot). c.following.new.steps ≤ c.args.steps.now + share_of (size_of r.streams.tree) r.calls) c.self.view_is (omega (arith, within));
      forward = stays _ _ _ (ap (λ (r : RecView g.row.R.Denot). r.given) c.self.view_is) (given_kept c.self.inside.streams c.following.new.streams c.self.inside.last c.following.ensures.kept c.self.invariant.last_in);
      moved = stays_within _ _ _ (ap (λ (r : RecView g.row.R.Denot). r.given) c.self.view_is) (given_kept c.self.inside.streams c.following.new.streams c.self.inside.last c.following.ensures.kept c.self.invariant.last_in);
      growth = λ q. subst (λ (r : RecView g.row.R.Denot). size_of_node c.following.new.streams q ≤ size_of_node r.streams q + 1) c.self.view_is (c.following.ensures.growth q);
    }

pub returns-in_default : goal.returns-in_default
returns-in_default g c =
    record {
      found = tt;
      end =
          let s = c.self.inside.streams in
          let s' = c.following.new.streams in
          let r : RecView g.row.R.Denot = record { streams = s; given = given_of s c.self.inside.last; calls = c.self.inside.calls } in
          let ended : length (group_list g.R.Rank.KEYS g.R.Rank.key s.tree 0 0) ≡ given_of s c.self.inside.last =
          subst (λ (o : Option ℕ). IfNone o (length (group_list g.R.Rank.KEYS g.R.Rank.key s.tree 0 0) ≡ given_of s c.self.inside.last)) c.in_default.is c.in_ok-entry.ensures.end in (
            ap (rest_of g.R.Rank.KEYS g.R.Rank.key) (sym c.self.view_is) ∙ rest_end g.R.Rank.KEYS g.R.Rank.key r ended,
            rest_end g.R.Rank.KEYS g.R.Rank.key (record { streams = s'; given = given_of s' c.self.inside.last; calls = c.saturating_add-self-inside.result })
                (ap (λ t. length (group_list g.R.Rank.KEYS g.R.Rank.key t 0 0)) c.following.ensures.tree ∙ ended ∙ sym (given_kept s s' c.self.inside.last c.following.ensures.kept c.self.invariant.last_in)),
          );
      refused = tt;
      counted = c.saturating_add-self-inside.ensures ∙ ap (λ (r : RecView g.row.R.Denot). counted r.calls) c.self.view_is;
      size = ap size_of c.following.ensures.tree ∙ ap (λ (r : RecView g.row.R.Denot). size_of r.streams.tree) c.self.view_is;
      cost =
          let s = c.self.inside.streams in
          let live : 0 < group_count s.tree 0 = some_groups (group_count s.tree 0) c.self.inside.live c.self.invariant.live_is c.if-not-self.false in
          let within = call_within s.tree s.calls c.self.inside.calls c.args.steps.now c.following.new.steps c.self.invariant.formed.shaped.some_node live c.self.invariant.few_calls c.following.ensures.cost in
          subst (λ (r : RecView g.row.R.Denot). c.following.new.steps ≤ c.args.steps.now + share_of (size_of r.streams.tree) r.calls) c.self.view_is (omega (arith, within));
      forward = stays _ _ _ (ap (λ (r : RecView g.row.R.Denot). r.given) c.self.view_is) (given_kept c.self.inside.streams c.following.new.streams c.self.inside.last c.following.ensures.kept c.self.invariant.last_in);
      moved = stays_within _ _ _ (ap (λ (r : RecView g.row.R.Denot). r.given) c.self.view_is) (given_kept c.self.inside.streams c.following.new.streams c.self.inside.last c.following.ensures.kept c.self.invariant.last_in);
      growth = λ q. subst (λ (r : RecView g.row.R.Denot). size_of_node c.following.new.streams q ≤ size_of_node r.streams q + 1) c.self.view_is (c.following.ensures.growth q);
    }

pub returns : goal.returns
returns g c =
    let s' = c.following.new.streams in
    let place : entry_place s' c.in-Some.entry ≡ given_of c.self.inside.streams c.self.inside.last =
    (subst (λ (o : Option ℕ). IfSome o (λ e. (entry_place s' e ≡ given_of c.self.inside.streams c.self.inside.last) × (entry_place s' e < length (group_list g.R.Rank.KEYS g.R.Rank.key c.self.inside.streams.tree 0 0)))) c.in-Some.is c.in_ok-entry.ensures.place).0 in
    record {
      found =
          let d = g.R.Rank.KEYS in
          let s = c.self.inside.streams in
          let s' = c.following.new.streams in
          let n : ℕ = given_of s c.self.inside.last in
          let e : ℕ = c.in-Some.entry in
          let r : RecView g.row.R.Denot = record { streams = s; given = n; calls = c.self.inside.calls } in
          let r' : RecView g.row.R.Denot = record { streams = s'; given = entry_place s' e + 1; calls = c.saturating_add-self-inside.result } in
          let root : IsRootEntry s' e = subst (λ (o : Option ℕ). IfSome o (IsRootEntry s')) c.in-Some.is c.in_ok-entry.ensures.entry in
          let place : (entry_place s' e ≡ n) × (entry_place s' e < length (group_list d g.R.Rank.key s.tree 0 0)) =
          subst (λ (o : Option ℕ). IfSome o (λ e. (entry_place s' e ≡ n) × (entry_place s' e < length (group_list d g.R.Rank.key s.tree 0 0)))) c.in-Some.is c.in_ok-entry.ensures.place in
          let a : Answer g.row.R.Denot = record { rows = c.rows_of.result; rank = c.rank_of.result } in
          ap (rest_of d g.R.Rank.key) (sym c.self.view_is)
          ∙ rest_next d g.R.Rank.key r r' a (entry_key d g.R.Rank.key s' e) c.following.ensures.tree (ap (λ k. k + 1) place.0) (omega (arith, place.0, place.1)) (root_key d g.R.Rank.key s s' e n root c.following.ensures.tree place.0)
          c.rank_of.ensures.rank c.rows_of.ensures.rows;
      end = tt;
      refused = tt;
      counted = c.saturating_add-self-inside.ensures ∙ ap (λ (r : RecView g.row.R.Denot). counted r.calls) c.self.view_is;
      size = ap size_of c.following.ensures.tree ∙ ap (λ (r : RecView g.row.R.Denot). size_of r.streams.tree) c.self.view_is;
      cost =
          let s = c.self.inside.streams in
          let live : 0 < group_count s.tree 0 = some_groups (group_count s.tree 0) c.self.inside.live c.self.invariant.live_is c.if-not-self.false in
          let within = call_within s.tree s.calls c.self.inside.calls c.args.steps.now c.following.new.steps c.self.invariant.formed.shaped.some_node live c.self.invariant.few_calls c.following.ensures.cost in
          let rows : c.rows_of.new.steps ≤ c.following.new.steps + 4 * length s.tree = subst (λ (t : List (NodeView g.row.R.Denot)). c.rows_of.new.steps ≤ c.following.new.steps + 4 * length t) c.following.ensures.tree c.rows_of.ensures.cost in
          subst (λ (r : RecView g.row.R.Denot). c.rank_of.new.steps ≤ c.args.steps.now + share_of (size_of r.streams.tree) r.calls) c.self.view_is (omega (arith, within, rows, c.rank_of.ensures.cost));
      forward = goes_on _ _ _ (ap (λ (r : RecView g.row.R.Denot). r.given) c.self.view_is) place;
      moved = goes_within _ _ _ (ap (λ (r : RecView g.row.R.Denot). r.given) c.self.view_is) place;
      growth = λ q. subst (λ (r : RecView g.row.R.Denot). size_of_node c.following.new.streams q ≤ size_of_node r.streams q + 1) c.self.view_is (c.following.ensures.growth q);
    }

pub invariant_of-self-in_err-entry : goal.invariant_of-self-in_err-entry
invariant_of-self-in_err-entry g c =
    record {
      formed = subst (IsFormed g.R.Rank.KEYS g.R.Rank.key) (sym c.following.ensures.tree) c.self.invariant.formed;
      live_is = c.self.invariant.live_is ∙ ap (λ (t : List (NodeView g.row.R.Denot)). nat_lt 0 (group_count t 0)) (sym c.following.ensures.tree);
      last_in = root_kept c.self.inside.streams c.following.new.streams c.self.inside.last c.following.ensures.kept c.self.invariant.last_in;
      few_calls = omega (arith, c.following.ensures.calls c.self.inside.calls c.self.invariant.few_calls, c.saturating_add-self-inside.ensures);
    }

pub invariant_of-self-in_default : goal.invariant_of-self-in_default
invariant_of-self-in_default g c =
    record {
      formed = subst (IsFormed g.R.Rank.KEYS g.R.Rank.key) (sym c.following.ensures.tree) c.self.invariant.formed;
      live_is = c.self.invariant.live_is ∙ ap (λ (t : List (NodeView g.row.R.Denot)). nat_lt 0 (group_count t 0)) (sym c.following.ensures.tree);
      last_in = root_kept c.self.inside.streams c.following.new.streams c.self.inside.last c.following.ensures.kept c.self.invariant.last_in;
      few_calls = omega (arith, c.following.ensures.calls c.self.inside.calls c.self.invariant.few_calls, c.saturating_add-self-inside.ensures);
    }

pub invariant_of-self-2 : goal.invariant_of-self-2
invariant_of-self-2 g c =
    record {
      formed = subst (IsFormed g.R.Rank.KEYS g.R.Rank.key) (sym c.following.ensures.tree) c.self.invariant.formed;
      live_is = c.self.invariant.live_is ∙ ap (λ (t : List (NodeView g.row.R.Denot)). nat_lt 0 (group_count t 0)) (sym c.following.ensures.tree);
      last_in = subst (λ (o : Option ℕ). IfSome o (IsRootEntry c.following.new.streams)) c.in-Some.is c.in_ok-entry.ensures.entry;
      few_calls = omega (arith, c.following.ensures.calls c.self.inside.calls c.self.invariant.few_calls, c.saturating_add-self-inside.ensures);
    }
