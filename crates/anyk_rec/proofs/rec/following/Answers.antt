use Rattle.std.proofs.Common.{◌≡◌, ℕ, ◌+◌, ◌-◌, ◌^◌, ◌<◌, ◌≤◌, min, Option, IfSome, IfNone, Result, Ok, Err, IfOk, length, refl, sym, ap, ◌∙◌, subst, arith}
use Rattle.suffix_streams.specs.Rankings.{group_list}
use Rattle.suffix_streams.specs.StreamsView.{entry_node, entry_place}
use Rattle.anyk_rec.specs.RecView.{IsRootEntry, given_of}
use Rattle.anyk_rec.proofs.Rests.{next_root, next_place, next_end}
use Rattle.anyk_rec.proofs.rec.following.Goals as goal

on_ok : {A E : Type 0} {P Q : A → Type 0} (r : Result A E) → ((a : A) → P a → Q a) → IfOk r P → IfOk r Q
on_ok (Ok a) f h = f a h
on_ok (Err e) f h = h

itself : (n : ℕ) → n ≤ n
itself n = omega arith

no_more : (n m : ℕ) → n ≤ n + m
no_more n m = omega arith

stays_counted : (a k : ℕ) → a ≤ k → k < 2 ^ 64 → a ≤ min (k + 1) (2 ^ 64 - 1)
stays_counted a k l fits = omega arith

counted_rises : (a b k : ℕ) → b ≡ min (a + 1) (2 ^ 64 - 1) → a ≤ k → b ≤ min (k + 1) (2 ^ 64 - 1)
counted_rises a b k e l = omega arith

pub returns-in-Some : goal.returns-in-Some
returns-in-Some g c =
    let d = g.R.Rank.KEYS in
    let key = g.R.Rank.key in
    let s = c.args.streams.now in
    let s' = c.after.new.self in
    let e : ℕ = c.in-Some.last in
    let root : IsRootEntry s e = subst (λ (o : Option ℕ). IfSome o (IsRootEntry s)) c.in-Some.is c.requires.last in
    let a = c.after.ensures in
    record {
      tree = a.tree;
      kept = a.kept;
      entry = on_ok c.after.result (next_root d key s s' e a.kept root) a.follows;
      place =
          subst (λ z. IfOk c.after.result (λ o. IfSome o (λ n. (entry_place s' n ≡ given_of s z) × (entry_place s' n < length (group_list d key s.tree 0 0))))) (sym c.in-Some.is)
          (on_ok c.after.result (next_place d key s s' e a.kept root a.tree) a.follows);
      end =
          subst (λ z. IfOk c.after.result (λ o. IfNone o (length (group_list d key s.tree 0 0) ≡ given_of s z))) (sym c.in-Some.is)
          (on_ok c.after.result (next_end d key s s' e a.kept root a.tree) a.follows);
      growth = a.growth;
      calls = λ k few fits. counted_rises _ _ _ a.calls few;
      cost = a.cost;
    }

pub returns-in-None : goal.returns-in-None
returns-in-None g c =
    let d = g.R.Rank.KEYS in
    let key = g.R.Rank.key in
    let s = c.args.streams.now in
    let e : ℕ = c.head.result in
    let h = c.head.ensures in
    let none : given_of s c.args.last ≡ 0 = ap (λ (o : Option ℕ). given_of s o) c.in-None.is in
    record {
      tree = refl;
      kept = record { longer = itself _; nodes = λ i l. refl; groups = λ i l. refl; places = λ i l. refl };
      entry = record { within = h.within; node = h.node; group = h.group };
      place = (
        h.place ∙ sym none,
        subst (λ v. entry_place s e < length (group_list d key s.tree v 0)) h.node (subst (λ k. entry_place s e < length (group_list d key s.tree (entry_node s e) k)) h.group h.entry),
      );
      end = tt;
      growth = λ q. no_more _ _;
      calls = λ k few fits. stays_counted _ _ few fits;
      cost = no_more _ _;
    }
