use Rattle.std.proofs.Common.{◌≡◌, ℕ, ◌+◌, ◌≤◌, ◌<◌, ◌-◌, [], ◌∙◌, sym, ap, subst, arith, length, get_or, map, refl, true, nat_eq, position, take, take_all}
use Rattle.std.specs.List.{list_any}
use Rattle.std.proofs.Math.ListN.{length-set}
use Rattle.std.proofs.lemmas.List.{set-get_or}
use Rattle.tdp_core.specs.NamedRows.{NamedView}
use Rattle.semi_join.specs.Reduction.{are_met, groups_met, links_of}
use Rattle.semi_join.proofs.InPlace.{ahead_more, others_more, row_more, wide_more}
use Rattle.semi_join.proofs.Rows.{few_read, found_any, length-map, links_below_at, links_read, missing_any, one_met, one_missed, one_named}
use Rattle.semi_join.proofs.node.child_groups.Goals as goal

counted_all : (before after start place count : ℕ) → before ≤ start + place → after ≡ before + 1 → place < count → after ≤ start + count
counted_all before after start place count h one l = omega (arith, h, one, l)

pub loop-place-init : goal.loop-place-init
loop-place-init g c = record {
  met = refl;
  row = refl;
  others = sym (set-get_or c.args.named.now.rows c.args.to []);
  ahead = λ k h. refl;
  wide = c.requires.wide;
  counted = omega arith;
}

pub get-link-requires-clause-row : goal.get-link-requires-clause-row
get-link-requires-clause-row g c =
    let l = c.loop-place.invariant in
    omega (arith, c.requires.from, ap length l.others, length-set c.args.named.now.rows c.args.to (get_or c.loop-place.named.rows c.args.to []))

pub get-link-requires-clause-child : goal.get-link-requires-clause-child
get-link-requires-clause-child g c =
    let l = c.loop-place.invariant in
    let inside : c.args.from < length c.loop-place.named.rows = omega (arith, c.requires.from, ap length l.others, length-set c.args.named.now.rows c.args.to (get_or c.loop-place.named.rows c.args.to [])) in
    omega (arith, l.wide c.args.from [] inside, c.loop-place-test.true)

pub overflow_sub-child : goal.overflow_sub-child
overflow_sub-child g c = let after = c.requires.after c.loop-place.place c.loop-place-test.true in omega (arith, after.0)

pub overflow_sub-child-in-loop-place : goal.overflow_sub-child-in-loop-place
overflow_sub-child-in-loop-place g c = let after = c.requires.after c.loop-place.place c.loop-place-test.true in omega (arith, after.0)

pub bounds-later-child : goal.bounds-later-child
bounds-later-child g c = (c.requires.after c.loop-place.place c.loop-place-test.true).1

pub overflow_cast-number : goal.overflow_cast-number
overflow_cast-number g c =
    let at = get_or c.args.children.now c.loop-place.place 0 - c.args.node - 1 in
    let inside = (c.requires.after c.loop-place.place c.loop-place-test.true).1 in
    let few = few_read (map links_of c.args.later.now) at c.requires.few (subst (λ n. at < n) (sym (length-map links_of c.args.later.now)) inside) in
    let is = ap length (links_read c.args.later.now at c.index-later-child.result inside c.index-later-child.is) in
    let here = found_any (nat_eq c.get-link.result) (links_of c.index-later-child.result) c.in-Some.number c.in-Some.ensures.number in
    omega (arith, few, is, here.0)

pub set-requires-clause-row : goal.set-requires-clause-row
set-requires-clause-row g c =
    let l = c.loop-place.invariant in
    omega (arith, c.requires.from, c.requires.to, ap length l.others, length-set c.args.named.now.rows c.args.to (get_or c.loop-place.named.rows c.args.to []))

pub set-requires-clause-child : goal.set-requires-clause-child
set-requires-clause-child g c =
    let l = c.loop-place.invariant in
    let inside : c.args.to < length c.loop-place.named.rows = omega (arith, c.requires.from, c.requires.to, ap length l.others, length-set c.args.named.now.rows c.args.to (get_or c.loop-place.named.rows c.args.to [])) in
    omega (arith, l.wide c.args.to [] inside, c.loop-place-test.true)

pub loop-place-preserved : goal.loop-place-preserved
loop-place-preserved g c =
    let l = c.loop-place.invariant in
    let old = c.args.named.now.rows in
    let now = c.loop-place.named.rows in
    let new = c.set.new.self.rows in
    let from = c.args.from in
    let to = c.args.to in
    let place = c.loop-place.place in
    let children = c.args.children.now in
    let later = map links_of c.args.later.now in
    let links = get_or old from [] in
    let keys = links_of c.index-later-child.result in
    let inside = (c.requires.after place c.loop-place-test.true).1 in
    let names = links_below_at children c.args.node later links c.args.later.now place c.index-later-child.result refl inside c.index-later-child.is in
    let link : c.get-link.result ≡ get_or links place 0 = c.get-link.ensures ∙ l.ahead place (omega arith) in
    let is = ap (λ (v : NamedView). v.rows) c.set.ensures in
    let there : to < length now = omega (arith, c.requires.from, c.requires.to, ap length l.others, length-set old to (get_or now to [])) in
    let found = found_any (nat_eq c.get-link.result) keys c.in-Some.number c.in-Some.ensures.number in
    record {
      met = one_met children c.args.node later links place keys names l.met (ap (λ k. list_any (nat_eq k) keys) (sym link) ∙ found.1);
      row = row_more old now new from to place c.in-Some.number (length children) is there l.others l.wide c.loop-place-test.true
          ∙ one_named children c.args.node later links place c.in-Some.number keys (take place (get_or now to [])) names l.row (c.in-Some.ensures.number ∙ ap (λ k. position (nat_eq k) keys) link);
      others = others_more old now new from to place c.in-Some.number (length children) is there l.others l.wide c.loop-place-test.true;
      ahead = λ k h. ahead_more old now new from to place c.in-Some.number (length children) is there l.others l.wide c.loop-place-test.true k h ∙ l.ahead k (omega (arith, h));
      wide = wide_more old now new from to place c.in-Some.number (length children) is there l.others l.wide c.loop-place-test.true;
      counted = omega (arith, l.counted, c.number_of.ensures.cost);
    }

pub returns-in-None : goal.returns-in-None
returns-in-None g c =
    let l = c.loop-place.invariant in
    let place = c.loop-place.place in
    let children = c.args.children.now in
    let later = map links_of c.args.later.now in
    let links = get_or c.args.named.now.rows c.args.from [] in
    let keys = links_of c.index-later-child.result in
    let inside = (c.requires.after place c.loop-place-test.true).1 in
    let names = links_below_at children c.args.node later links c.args.later.now place c.index-later-child.result refl inside c.index-later-child.is in
    let link : c.get-link.result ≡ get_or links place 0 = c.get-link.ensures ∙ l.ahead place (omega arith) in
    record {
      found = λ e. cc;
      named = λ e. cc;
      missing = λ _. one_missed children c.args.node later links place (length children) keys c.loop-place-test.true names
          (ap (λ k. list_any (nat_eq k) keys) (sym link) ∙ missing_any (nat_eq c.get-link.result) keys c.in-None.ensures.number);
      others = l.others;
      wide = l.wide;
      cost = counted_all c.loop-place.steps c.number_of.new.steps c.args.steps.now place (length children) l.counted c.number_of.ensures.cost c.loop-place-test.true;
    }

pub returns : goal.returns
returns g c =
    let l = c.loop-place.invariant in
    let children = c.args.children.now in
    let all : c.loop-place.place ≡ length children = omega arith in
    let old = c.args.named.now.rows in
    let now = c.loop-place.named.rows in
    let to = c.args.to in
    let there : to < length now = omega (arith, c.requires.from, c.requires.to, ap length l.others, length-set old to (get_or now to [])) in
    let later = map links_of c.args.later.now in
    let links = get_or old c.args.from [] in
    let wide = l.wide to [] there in
    record {
      found = λ _. subst (λ n. are_met children c.args.node later links n ≡ true) all l.met;
      named = λ _. sym (take_all c.loop-place.place (get_or now to []) (omega (arith, wide, all))) ∙ l.row ∙ ap (groups_met children c.args.node later links) all;
      missing = λ e. cc;
      others = l.others;
      wide = l.wide;
      cost = omega (arith, l.counted, all);
    }
