use Rattle.std.proofs.Common.{◌<◌, ℕ, List, length, subst, sym}
use Rattle.std.proofs.Math.ListN.{set}
use Rattle.link_index.specs.NumberedLists.{AreMore, IsNumbered, lists_in}
use Rattle.link_index.proofs.ListNumbering.{put_more, put_number, there_too}
use Rattle.link_index.proofs.list.ListIndex.number_of.Goals as goal

pub returns-clause-more : goal.returns-clause-more
returns-clause-more g c =
    let sets = c.self.inside.sets.items in
    let inside : c.args.node < length sets = there_too sets c.args.node c.args.self.now c.self.view_is c.requires in
    subst (λ (old : List (List (List ℕ))). AreMore old (lists_in (set sets c.args.node c.insert_full.new.self))) c.self.view_is
    (put_more sets c.args.node c.index_mut.result.now c.insert_full.new.self c.args.values inside c.index_mut.ensures.value c.in_ok-place.ensures.keys)

pub returns-clause-number : goal.returns-clause-number
returns-clause-number g c =
    let sets = c.self.inside.sets.items in
    let made = c.in_ok-place.ensures in
    let inside : c.args.node < length sets = there_too sets c.args.node c.args.self.now c.self.view_is c.requires in
    subst (λ (n : ℕ). IsNumbered (lists_in (set sets c.args.node c.insert_full.new.self)) c.args.node n c.args.values.items) (sym c.in-Ok.ensures.1)
    (put_number sets c.args.node c.index_mut.result.now c.insert_full.new.self c.args.values inside c.index_mut.ensures.value made.keys c.in_ok-place.place made.index made.within)
