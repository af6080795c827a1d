use Rattle.std.proofs.Common.{◌≡◌, ◌<◌, ◌+◌, [], true, false, cond, nat_eq, map, length, take, get_or, slice_get, Some, refl, sym, ap, subst, ◌∙◌, arith}
use Rattle.std.specs.List.{All}
use Rattle.indexmap.specs.IndexSet.{insert_key}
use Rattle.tdp_core.specs.NamedRows.{NamedView}
use Rattle.semi_join.specs.Reduction.{HasPlaceOf, are_met, groups_met, links_of}
use Rattle.semi_join.proofs.InPlace.{IsTail, next_tail, tail_read, tail_set}
use Rattle.semi_join.proofs.Numbering.{inserted_few}
use Rattle.semi_join.proofs.SoFar.{IsSoFar, all_kept, kept_steps, missed_steps}
use Rattle.semi_join.proofs.Sources.{after, count, few_rows, row_goes, row_stays, some_at}
use Rattle.semi_join.proofs.node.keep_in_place.Goals as goal
use Rattle.semi_join.proofs.node.keep_in_place.Goals.{then-child_groups+in_ok-keep_row, else-child_groups}

pub child_groups-requires-clause-after : goal.child_groups-requires-clause-after
child_groups-requires-clause-after g c =
    let s = c.requires.source in
    after s.0 c.args.node c.args.later.now c.args.children.now c.args.kept.now.rows c.args.kept.now.numbers.items c.args.kept.now.to_child.rows s.1

pub keep_row-requires-clause-few : goal.keep_row-requires-clause-few
keep_row-requires-clause-few g c =
    let s = c.requires.source in
    let most = few_rows s.0 c.args.node c.args.later.now c.args.children.now c.args.kept.now.rows c.args.kept.now.numbers.items c.args.kept.now.to_child.rows s.1 in
    omega (arith, c.loop-i.invariant.few, most, c.loop-i-test.true, c.len-count.ensures)

pub loop-i-preserved : goal.loop-i-preserved
loop-i-preserved g c =
    let l = c.loop-i.invariant in
    let first = c.args.kept.now in
    let old = c.loop-i.kept in
    let node = c.args.node in
    let later = c.args.later.now in
    let children = c.args.children.now in
    let i = c.loop-i.i in
    let to = c.loop-i.to in
    let named = c.child_groups.new.named.rows in
    let s = c.requires.source in
    let whole = s.1.whole in
    let links : get_or old.to_child.rows i [] ≡ get_or first.to_child.rows i [] = tail_read i first.to_child.rows old.to_child.rows l.named [] in
    let inside : i < length first.rows = omega (arith, c.loop-i-test.true, c.len-count.ensures) in
    let in_rows : to < length old.rows = omega (arith, inside, l.front, l.rows.long) in
    let in_named : to < length old.to_child.rows = omega (arith, inside, l.front, l.named.long, whole.all_named) in
    let in_numbers : to < length old.numbers.items = omega (arith, inside, l.front, l.numbers.long, whole.all_own) in
    let made = c.child_groups.ensures in
    elim c.if-child_groups.branch [
      | then-child_groups+in_ok-keep_row w ↦
          let now = w.keep_row.new.kept in
          let put = w.in_ok-keep_row.ensures in
          let link = cond (nat_eq node 0) 0 (get_or first.numbers.items i 0) in
          let own : w.group_link_of-own.result ≡ cond (nat_eq node 0) 0 (get_or first.numbers.items i 0) =
          w.group_link_of-own.ensures ∙ ap (λ ls. cond (nat_eq node 0) 0 (get_or ls i 0)) w.deref.ensures.value
          ∙ ap (cond (nat_eq node 0) 0) (tail_read i first.numbers.items old.numbers.items l.numbers 0) in
          let here : i < length old.rows = omega (arith, inside, l.rows.long) in
          let row = some_at old.rows i here in
          let at : slice_get first.rows i ≡ Some row.0 = sym (l.rows.same i (omega arith)) ∙ row.1 in
          let rows_is = put.rows row.0 row.1 in
          let named_is : c.if-child_groups.kept.to_child.rows ≡ named = ap (λ k. k.to_child.rows) w.kept-is ∙ ap (λ (v : NamedView). v.rows) put.to_child in
          let met = subst (λ ls. are_met children node (map links_of later) ls (length children) ≡ true) links (made.found w.if-child_groups.true) in
          let groups = made.named w.if-child_groups.true ∙ ap (λ ls. groups_met children node (map links_of later) ls (length children)) links in
          let names_is = put.links ∙ ap (insert_key nat_eq (links_of old.links)) own in
          let place = subst (λ o. HasPlaceOf o (links_of now.links) to old.numbers.items now.numbers.items) own put.number in
          record {
            so_far = λ raw r.
                let base = row_stays raw node later children first.rows first.numbers.items first.to_child.rows r i to old.rows now.rows old.to_child.rows named (links_of old.links) (links_of now.links) old.numbers.items now.numbers.items row.0
                (l.so_far raw r) met at rows_is made.others groups names_is place in_rows in_named in_numbers in
                let moved = subst (λ t. IsSoFar raw node (map links_of later) (i + 1) (take t now.rows) (take t named) (links_of now.links) (take t now.numbers.items)) (sym w.to-is) base in
                let kept = subst (λ k. IsSoFar raw node (map links_of later) (i + 1) (take c.if-child_groups.to k.rows) (take c.if-child_groups.to named) (links_of k.links) (take c.if-child_groups.to k.numbers.items)) (sym w.kept-is) moved in
                subst (λ ns. IsSoFar raw node (map links_of later) (i + 1) (take c.if-child_groups.to c.if-child_groups.kept.rows) (take c.if-child_groups.to ns) (links_of c.if-child_groups.kept.links)
                (take c.if-child_groups.to c.if-child_groups.kept.numbers.items)) (sym named_is) kept;
            front = omega (arith, w.to-is, l.front);
            rows = tail_set i first.rows old.rows l.rows to row.0 c.if-child_groups.kept.rows l.front (ap (λ k. k.rows) w.kept-is ∙ rows_is);
            numbers = tail_set i first.numbers.items old.numbers.items l.numbers to put.number.0 c.if-child_groups.kept.numbers.items l.front (ap (λ k. k.numbers.items) w.kept-is ∙ put.number.3);
            named = tail_set i first.to_child.rows old.to_child.rows l.named to (get_or named to []) c.if-child_groups.kept.to_child.rows l.front (named_is ∙ made.others);
            wide = subst (All (λ ks. length ks ≡ length children)) (sym named_is) made.wide;
            few = let more = inserted_few (links_of old.links) (links_of c.if-child_groups.kept.links) w.group_link_of-own.result i (ap (λ k. links_of k.links) w.kept-is ∙ put.links) l.few in omega (arith, more);
            counted = kept_steps i (length children) (length children) c.args.steps.now c.loop-i.steps c.child_groups.new.steps w.keep_row.new.steps c.if-child_groups.steps refl l.counted made.cost put.cost w.steps-is;
          }
      | else-child_groups w ↦
          let named_is : c.if-child_groups.kept.to_child.rows ≡ named = ap (λ k. k.to_child.rows) w.kept-is in
          let missed = subst (λ ls. are_met children node (map links_of later) ls (length children) ≡ false) links (made.missing w.if-child_groups.false) in
          record {
            so_far = λ raw r.
                let base = row_goes raw node later children first.rows first.numbers.items first.to_child.rows r i to old.rows old.to_child.rows named (links_of old.links) old.numbers.items (l.so_far raw r) missed made.others in
                let moved = subst (λ t. IsSoFar raw node (map links_of later) (i + 1) (take t old.rows) (take t named) (links_of old.links) (take t old.numbers.items)) (sym w.to-is) base in
                subst (λ k. IsSoFar raw node (map links_of later) (i + 1) (take c.if-child_groups.to k.rows) (take c.if-child_groups.to k.to_child.rows) (links_of k.links) (take c.if-child_groups.to k.numbers.items)) (sym w.kept-is) moved;
            front = omega (arith, w.to-is, l.front);
            rows = next_tail i first.rows c.if-child_groups.kept.rows (subst (IsTail i first.rows) (sym (ap (λ k. k.rows) w.kept-is)) l.rows);
            numbers = next_tail i first.numbers.items c.if-child_groups.kept.numbers.items (subst (IsTail i first.numbers.items) (sym (ap (λ k. k.numbers.items) w.kept-is)) l.numbers);
            named = tail_set i first.to_child.rows old.to_child.rows l.named to (get_or named to []) c.if-child_groups.kept.to_child.rows l.front (named_is ∙ made.others);
            wide = subst (All (λ ks. length ks ≡ length children)) (sym named_is) made.wide;
            few = omega (arith, l.few, ap (λ k. length (links_of k.links)) w.kept-is);
            counted = missed_steps i (length children) (length children) c.args.steps.now c.loop-i.steps c.child_groups.new.steps c.if-child_groups.steps refl l.counted made.cost w.steps-is;
          }
    ]

pub returns-clause-kept : goal.returns-clause-kept
returns-clause-kept g c raw s =
    let l = c.loop-i.invariant in
    let first = c.args.kept.now in
    let later = map links_of c.args.later.now in
    let all : c.loop-i.i ≡ length first.rows = omega (arith, c.loop-i-test.false, c.len-count.ensures) in
    let of_raw = count raw c.args.node c.args.later.now c.args.children.now first.rows first.numbers.items first.to_child.rows s in
    let few = few_rows raw c.args.node c.args.later.now c.args.children.now first.rows first.numbers.items first.to_child.rows s in
    let to = c.loop-i.to in
    let kept = l.so_far raw s in
    let rows = c.truncate.ensures in
    let numbers = c.truncate-2.ensures.items in
    let named = ap (λ (v : NamedView). v.rows) c.truncate-3.ensures in
    all_kept raw c.args.node later c.loop-i.i c.truncate.new.self c.truncate-3.new.self.rows (links_of c.loop-i.kept.links) c.truncate-2.new.self.items
    (omega (arith, all, of_raw)) (omega (arith, all, few))
    (subst (λ ks. IsSoFar raw c.args.node later c.loop-i.i ks c.truncate-3.new.self.rows (links_of c.loop-i.kept.links) c.truncate-2.new.self.items) (sym rows)
    (subst (λ ks. IsSoFar raw c.args.node later c.loop-i.i (take to c.loop-i.kept.rows) ks (links_of c.loop-i.kept.links) c.truncate-2.new.self.items) (sym named)
    (subst (λ ks. IsSoFar raw c.args.node later c.loop-i.i (take to c.loop-i.kept.rows) (take to c.loop-i.kept.to_child.rows) (links_of c.loop-i.kept.links) ks) (sym numbers) kept)))
