use Rattle.std.proofs.Common.{◌≡◌, [], length, sym, subst, ◌∙◌, arith}
use Rattle.std.proofs.lemmas.List.{get_or_default}
use Rattle.proof_check.specs.PrefixNumbers.{IsAdding}
use Rattle.proof_check.specs.Levels.{list_at}
use Rattle.proof_check.proofs.Beginnings.{AreAdded, next_prefixes, none_added, one_added, taken_pairs}
use Rattle.proof_check.proofs.prefixes.Prefixes.with_node.Goals as goal

pub loop-i-init : goal.loop-i-init
loop-i-init c =
    let p = c.args.node in let places = c.args.places.now in
    let numbers = c.args.self.now.numbers.items in
    subst (λ ps. AreAdded p places numbers 0 ps c.new.result.items c.new-2.result.items) (sym c.requires.empty)
    (subst (λ xs. AreAdded p places numbers 0 [] xs c.new-2.result.items) (sym c.new.ensures.items)
    (subst (λ xs. AreAdded p places numbers 0 [] [] xs) (sym c.new-2.ensures.items) (none_added p places numbers)))

pub loop-i-preserved : goal.loop-i-preserved
loop-i-preserved c =
    one_added c.args.node c.args.places.now c.args.self.now.numbers.items c.loop-i.i c.loop-i.taken c.add.new.taken
    c.loop-i.next.numbers.items c.add.new.self.numbers.items c.loop-i.next.starts.items c.add.new.self.starts.items
    c.loop-i.invariant
    (subst (λ b. IsAdding c.args.node (list_at c.args.places.now c.loop-i.i) b c.loop-i.taken c.add.new.taken
    c.loop-i.next.numbers.items c.add.new.self.numbers.items c.loop-i.next.starts.items c.add.new.self.starts.items)
    (c.index.ensures ∙ get_or_default c.args.self.now.numbers.items c.loop-i.i c.index.result.now 0
    (let e = c.requires.prefixes.count in let l = c.loop-i-test.true in omega (arith, e, l))) c.in_ok-add.ensures.added)

pub returns : goal.returns
returns c = record {
  next =
      let p = c.args.node in let places = c.args.places.now in
      let numbers = c.args.self.now.numbers.items in
      let done : c.loop-i.i ≡ length places = omega arith in
      next_prefixes p places numbers c.args.self.now.starts.items c.requires.prefixes c.loop-i.taken
      c.loop-i.next.numbers.items c.loop-i.next.starts.items
      (subst (λ k. AreAdded p places numbers k c.loop-i.taken c.loop-i.next.numbers.items c.loop-i.next.starts.items) done
      c.loop-i.invariant);
  taken =
      let p = c.args.node in let places = c.args.places.now in
      let numbers = c.args.self.now.numbers.items in
      let done : c.loop-i.i ≡ length places = omega arith in
      taken_pairs p places numbers c.args.self.now.starts.items c.requires.prefixes c.loop-i.taken
      c.loop-i.next.numbers.items c.loop-i.next.starts.items
      (subst (λ k. AreAdded p places numbers k c.loop-i.taken c.loop-i.next.numbers.items c.loop-i.next.starts.items) done
      c.loop-i.invariant);
}
