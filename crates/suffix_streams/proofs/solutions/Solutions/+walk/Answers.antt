use Rattle.std.proofs.Common.{◌≡◌, ◌≢◌, ℕ, ◌+◌, ◌-◌, ◌*◌, ◌<◌, ◌≤◌, suc, length, get_or, refl, sym, ap, ◌∙◌, subst, arith}
use Rattle.tdp_core.specs.TreeView.{parent, rows, number, child_count, group_named, rank}
use Rattle.tdp_core.proofs.Children.{kids_below_most}
use Rattle.tdp_model.specs.KeyTuple.{key_add, key_none}
use Rattle.tdp_model.specs.Product.{pair_key}
use Rattle.suffix_streams.specs.Rankings.{child, part_list, group_list}
use Rattle.suffix_streams.specs.TreeStreams.{IsKnownPart, IsSumOf, node_of, group_of, place_of, pair_of}
use Rattle.suffix_streams.specs.Growing.{subtree_size, kids_size}
use Rattle.suffix_streams.proofs.Rankings.{kid}
use Rattle.suffix_streams.proofs.Costs.{kids_smaller, kids_size_more}
use Rattle.suffix_streams.proofs.Heads.{lists_at}
use Rattle.suffix_streams.proofs.Firsts.{own_at}
use Rattle.suffix_streams.specs.RowNumbers.{AreAddable, AreAdded}
use Rattle.suffix_streams.proofs.Rows.{left_addable, right_addable, both_added}
use Rattle.suffix_streams.proofs.PartRows.{IsSolvedAt, known_own, solved_at}
use Rattle.suffix_streams.proofs.solutions.Solutions.+walk.Given.{Over}
use Rattle.suffix_streams.proofs.solutions.Solutions.+walk.Goals.{add_entry_rows-After-child_count-count, add_entry_rows-After-get-found, add_part_rows-After-part_cell-cell, add_sum_rows-After-add_part_rows}
use Rattle.suffix_streams.proofs.Numbers.{same_few, kids_few}
use Rattle.suffix_streams.proofs.solutions.Solutions.+walk.Goals as goal

-- # Numbers

some_is : (n : ℕ) → n ≢ 0 → 1 ≤ n
some_is n some = omega arith

last_is : (n : ℕ) → n ≢ 0 → n - 1 + 1 ≡ n
last_is n some = omega arith

last_below : (n m : ℕ) → n ≢ 0 → n ≤ m → n - 1 < m
last_below n m some few = omega arith

below_last : (k n : ℕ) → n ≡ suc k → k < n
below_last k n e = omega arith

before_is : (k n : ℕ) → k < n → k ≤ n
before_is k n l = omega arith

next_is : (k : ℕ) → suc k ≡ k + 1
next_is k = omega arith

kids_last : (count kids : ℕ) → count ≡ kids → count ≢ 0 → kids ≡ suc (count - 1)
kids_last count kids e some = omega arith

-- # What gets smaller with each call

entry_smaller : (t n v w count : ℕ) → 64 * (n - w) + 63 ≡ t → w ≡ v → count ≤ 16 → 64 * (n - v) + 2 * (count - 1) + 1 < t
entry_smaller t n v w count h e few = omega arith

part_smaller : (t n v count : ℕ) → 64 * (n - v) + 2 * count ≡ t → count ≢ 0 → 64 * (n - v) + 2 * (count - 1) + 1 < t
part_smaller t n v count h some = omega arith

sum_smaller : (t n v child : ℕ) → 64 * (n - v) + 2 * child + 1 ≡ t → 64 * (n - v) + 2 * child < t
sum_smaller t n v child h = omega arith

below_smaller : (t n v w u p child : ℕ) → 64 * (n - v) + 2 * child + 1 ≡ t → w ≡ u → p < u → p ≡ v → u < n → 64 * (n - w) + 63 < t
below_smaller t n v w u p child h e above is within = omega arith

-- # Steps: k, m and sub are the sizes of what is below

own_within : (s s1 k sub sub' : ℕ) → s1 ≡ s + 1 → k + 1 ≤ sub → sub' ≡ sub → s1 + 1 ≤ s + 4 * sub'
own_within s s1 k sub sub' read smaller same = omega arith

sum_within : (s s1 s2 k k' sub sub' : ℕ) → s1 ≡ s + 1 → s2 ≤ s1 + 4 * k' → k' ≡ k → k + 1 ≤ sub → sub' ≡ sub → s2 + 1 ≤ s + 4 * sub'
sum_within s s1 s2 k k' sub sub' read sum e smaller same = omega arith

both_within : (s s1 s2 k sub sub' m m' : ℕ) → s1 ≤ s + 1 + 4 * k → s2 + 1 ≤ s1 + 4 * sub' → sub' ≡ sub → m ≡ k + sub → m ≡ m' → s2 ≤ s + 4 * m'
both_within s s1 s2 k sub sub' m m' left right same sum e = omega arith

part_within : (s s1 s2 m m' : ℕ) → s1 ≤ s + 1 → s2 ≤ s1 + 4 * m' → m' ≡ m → s2 ≤ s + 1 + 4 * m
part_within s s1 s2 m m' read sum e = omega arith

none_within : (s n : ℕ) → s ≤ s + 1 + n
none_within s n = omega arith

-- # What the proofs share about an entry

module _ (g : Over) (t : ℕ) where
  solved_of : (c : add_entry_rows-After-get-found g t) → IsSolvedAt g.R.Rank.KEYS g.R.Rank.key c.args.self.now.tree.now c.args.self.now.entries.entries c.args.self.now.nodes.items c.args.entry c.get-found.result.now.node c.get-found.result.now.solution.tag
  solved_of c = solved_at g.R.Rank.KEYS g.R.Rank.key c.args.self.now.tree.now c.args.self.now.entries.entries c.args.self.now.nodes.items c.requires.formed c.args.entry c.get-found.result.now c.requires.entry c.get-found.ensures.value

  kids_of : (c : add_entry_rows-After-child_count-count g t) → (s : IsSolvedAt g.R.Rank.KEYS g.R.Rank.key c.args.self.now.tree.now c.args.self.now.entries.entries c.args.self.now.nodes.items c.args.entry c.get-found.result.now.node c.get-found.result.now.solution.tag) → c.child_count-count.result ≡ child_count c.args.self.now.tree.now c.get-found.result.now.node
  kids_of c s =
      let inside : c.get-found.result.now.node < length c.args.self.now.nodes.items = omega (arith, s.node, c.requires.formed.all_nodes) in
      c.child_count-count.ensures ∙ ap (λ m. length m.children) (sym (lists_at c.args.self.now.nodes.items c.get-found.result.now.node c.index.result.now c.index.ensures inside)) ∙ c.requires.formed.all_children c.get-found.result.now.node s.node

  row_of : (c : add_entry_rows-After-child_count-count g t) → (s : IsSolvedAt g.R.Rank.KEYS g.R.Rank.key c.args.self.now.tree.now c.args.self.now.entries.entries c.args.self.now.nodes.items c.args.entry c.get-found.result.now.node c.get-found.result.now.solution.tag) → c.get-found.result.now.solution.tag.row < rows c.args.self.now.tree.now c.get-found.result.now.node
  row_of c s = s.row

  number_of : (c : add_entry_rows-After-child_count-count g t) → (s : IsSolvedAt g.R.Rank.KEYS g.R.Rank.key c.args.self.now.tree.now c.args.self.now.entries.entries c.args.self.now.nodes.items c.args.entry c.get-found.result.now.node c.get-found.result.now.solution.tag) → c.get-found.result.now.solution.tag.number ≡ number c.args.self.now.tree.now c.get-found.result.now.node c.get-found.result.now.solution.tag.row
  number_of c s = s.number_is

  -- the key of the entry's solution, by its row
  key_of : (c : add_entry_rows-After-child_count-count g t) → (s : IsSolvedAt g.R.Rank.KEYS g.R.Rank.key c.args.self.now.tree.now c.args.self.now.entries.entries c.args.self.now.nodes.items c.args.entry c.get-found.result.now.node c.get-found.result.now.solution.tag)
      → get_or (part_list g.R.Rank.KEYS g.R.Rank.key c.args.self.now.tree.now c.get-found.result.now.node c.get-found.result.now.solution.tag.row (child_count c.args.self.now.tree.now c.get-found.result.now.node)) s.place (key_none g.R.Rank.KEYS 16)
      ≡ get_or (group_list g.R.Rank.KEYS g.R.Rank.key c.args.self.now.tree.now (node_of c.args.self.now.entries.entries c.args.entry) (group_of c.args.self.now.entries.entries c.args.entry)) (place_of c.args.self.now.entries.entries c.args.entry) (key_none g.R.Rank.KEYS 16)
  key_of c s = s.same

  -- the parts of the entry's solution
  own_parts : (c : add_entry_rows-After-child_count-count g t) → (s : IsSolvedAt g.R.Rank.KEYS g.R.Rank.key c.args.self.now.tree.now c.args.self.now.entries.entries c.args.self.now.nodes.items c.args.entry c.get-found.result.now.node c.get-found.result.now.solution.tag)
      → (k : ℕ) → child_count c.args.self.now.tree.now c.get-found.result.now.node ≡ suc k → IsSumOf g.R.Rank.KEYS g.R.Rank.key c.args.self.now.tree.now c.args.self.now.entries.entries c.args.self.now.nodes.items c.get-found.result.now.node c.get-found.result.now.solution.tag.row k s.place c.get-found.result.now.solution.tag.cell
  own_parts c s k kids = s.parts k kids

  -- without children it is the row's own solution
  own_is : (c : add_entry_rows-After-child_count-count g t) → (s : IsSolvedAt g.R.Rank.KEYS g.R.Rank.key c.args.self.now.tree.now c.args.self.now.entries.entries c.args.self.now.nodes.items c.args.entry c.get-found.result.now.node c.get-found.result.now.solution.tag) → c.child_count-count.result ≡ 0
      → rank c.args.self.now.tree.now g.R.Rank.KEYS g.R.Rank.key c.get-found.result.now.node c.get-found.result.now.solution.tag.row
      ≡ get_or (group_list g.R.Rank.KEYS g.R.Rank.key c.args.self.now.tree.now (node_of c.args.self.now.entries.entries c.args.entry) (group_of c.args.self.now.entries.entries c.args.entry)) (place_of c.args.self.now.entries.entries c.args.entry) (key_none g.R.Rank.KEYS 16)
  own_is c s zero =
      let d = g.R.Rank.KEYS in
      let key = g.R.Rank.key in
      let tree = c.args.self.now.tree.now in
      let n = c.args.self.now.nodes.items in
      let f = c.get-found.result.now in
      let kids = kids_of c s in
      let none : child_count tree f.node ≡ 0 = omega (arith, kids, zero) in
      let known = known_own d key tree c.args.self.now.entries.entries n c.requires.formed f.node c.get-found.result.now.solution.tag.row (child_count tree f.node) s.place none (s.known (λ one. omega (arith, one, none))) in
      own_at d key tree c.requires.formed.tree n f.node c.get-found.result.now.solution.tag.row (child_count tree f.node) s.place (rank tree d key f.node c.get-found.result.now.solution.tag.row) s.node none known refl ∙ key_of c s

  -- with children it is the sum of its parts
  sum_is : (c : add_entry_rows-After-child_count-count g t) → (s : IsSolvedAt g.R.Rank.KEYS g.R.Rank.key c.args.self.now.tree.now c.args.self.now.entries.entries c.args.self.now.nodes.items c.args.entry c.get-found.result.now.node c.get-found.result.now.solution.tag) → (k : ℕ) → child_count c.args.self.now.tree.now c.get-found.result.now.node ≡ suc k
      → pair_key (key_add g.R.Rank.KEYS 16) (key_none g.R.Rank.KEYS 16) (part_list g.R.Rank.KEYS g.R.Rank.key c.args.self.now.tree.now c.get-found.result.now.node c.get-found.result.now.solution.tag.row k)
      (group_list g.R.Rank.KEYS g.R.Rank.key c.args.self.now.tree.now (child c.args.self.now.tree.now c.get-found.result.now.node k) (group_named c.args.self.now.tree.now c.get-found.result.now.node c.get-found.result.now.solution.tag.row k)) (pair_of c.args.self.now.entries.entries c.get-found.result.now.solution.tag.cell)
      ≡ get_or (group_list g.R.Rank.KEYS g.R.Rank.key c.args.self.now.tree.now (node_of c.args.self.now.entries.entries c.args.entry) (group_of c.args.self.now.entries.entries c.args.entry)) (place_of c.args.self.now.entries.entries c.args.entry) (key_none g.R.Rank.KEYS 16)
  sum_is c s k kids =
      let more : k + 1 ≡ child_count c.args.self.now.tree.now c.get-found.result.now.node = omega (arith, kids) in
      sym (own_parts c s k kids).sum
      ∙ ap (λ z. get_or (part_list g.R.Rank.KEYS g.R.Rank.key c.args.self.now.tree.now c.get-found.result.now.node c.get-found.result.now.solution.tag.row z) s.place (key_none g.R.Rank.KEYS 16)) more ∙ key_of c s

  -- the key of a solution is the sum of its parts
  part_is : (c : add_part_rows-After-part_cell-cell g t) → c.args.part.child - 1 + 1 ≡ c.args.part.child
      → pair_key (key_add g.R.Rank.KEYS 16) (key_none g.R.Rank.KEYS 16) (part_list g.R.Rank.KEYS g.R.Rank.key c.args.self.now.tree.now c.args.part.node c.args.part.row (c.args.part.child - 1))
      (group_list g.R.Rank.KEYS g.R.Rank.key c.args.self.now.tree.now (child c.args.self.now.tree.now c.args.part.node (c.args.part.child - 1)) (group_named c.args.self.now.tree.now c.args.part.node c.args.part.row (c.args.part.child - 1))) (pair_of c.args.self.now.entries.entries c.part_cell-cell.result)
      ≡ get_or (part_list g.R.Rank.KEYS g.R.Rank.key c.args.self.now.tree.now c.args.part.node c.args.part.row c.args.part.child) c.args.place (key_none g.R.Rank.KEYS 16)
  part_is c more =
      sym c.part_cell-cell.ensures.sum.sum
      ∙ ap (λ z. get_or (part_list g.R.Rank.KEYS g.R.Rank.key c.args.self.now.tree.now c.args.part.node c.args.part.row z) c.args.place (key_none g.R.Rank.KEYS 16)) more

pub add_entry_rows-index-requires : goal.add_entry_rows-index-requires
add_entry_rows-index-requires g t c =
    let s = solved_at g.R.Rank.KEYS g.R.Rank.key c.args.self.now.tree.now c.args.self.now.entries.entries c.args.self.now.nodes.items c.requires.formed c.args.entry c.get-found.result.now c.requires.entry c.get-found.ensures.value in
    omega (arith, s.node, c.requires.formed.all_nodes)

pub add_entry_rows-add_own_row-requires-clause-node : goal.add_entry_rows-add_own_row-requires-clause-node
add_entry_rows-add_own_row-requires-clause-node g t c =
    let at = goal.at.add_entry_rows-add_own_row-requires-clause-node g t c in
    (solved_of g t at.After-get-found).node

pub add_entry_rows-add_own_row-requires-clause-row : goal.add_entry_rows-add_own_row-requires-clause-row
add_entry_rows-add_own_row-requires-clause-row g t c =
    let at = goal.at.add_entry_rows-add_own_row-requires-clause-row g t c in
    row_of g t at.After-child_count-count (solved_of g t at.After-get-found)

pub add_entry_rows-add_own_row-requires-clause-number : goal.add_entry_rows-add_own_row-requires-clause-number
add_entry_rows-add_own_row-requires-clause-number g t c =
    let at = goal.at.add_entry_rows-add_own_row-requires-clause-number g t c in
    number_of g t at.After-child_count-count (solved_of g t at.After-get-found)

pub add_entry_rows-add_own_row-requires-clause-fits : goal.add_entry_rows-add_own_row-requires-clause-fits
add_entry_rows-add_own_row-requires-clause-fits g t c =
    let at = goal.at.add_entry_rows-add_own_row-requires-clause-fits g t c in
    subst (AreAddable g.R.Rank.KEYS c.args.numbers.now) (sym (own_is g t at.After-child_count-count (solved_of g t at.After-get-found) (omega (arith, c.if-count-eq0.true)))) c.requires.fits

pub add_entry_rows-returns-then-count-eq0 : goal.add_entry_rows-returns-then-count-eq0
add_entry_rows-returns-then-count-eq0 g t c =
    let at = goal.at.add_entry_rows-returns-then-count-eq0 g t c in
    record {
      added = subst (λ k. AreAdded g.R.Rank.KEYS c.args.numbers.now k c.add_own_row.new.numbers) (own_is g t at.After-child_count-count (solved_of g t at.After-get-found) (omega (arith, c.if-count-eq0.true))) c.add_own_row.ensures.added;
      cost =
          let tree = c.args.self.now.tree.now in
          let s = solved_of g t at.After-get-found in
          let kids = kids_of g t at.After-child_count-count s in
          own_within _ _ _ _ _ c.get-found.ensures.cost
          (kids_smaller g.R.Rank.KEYS g.R.Rank.key tree c.requires.formed.tree c.get-found.result.now.node c.child_count-count.result s.node (same_few _ _ kids)) (ap (λ v. subtree_size tree v) s.owner);
    }

pub add_entry_rows-add_sum_rows-requires : goal.add_entry_rows-add_sum_rows-requires
add_entry_rows-add_sum_rows-requires g t c κs within =
    let at = goal.at.add_entry_rows-add_sum_rows-requires g t c in
    let tree = c.args.self.now.tree.now in
    let f = c.get-found.result.now in
    let s = solved_of g t at.After-get-found in
    let kids = kids_of g t at.After-child_count-count s in
    let last : child_count tree f.node ≡ suc (c.child_count-count.result - 1) = kids_last _ _ kids c.if-count-eq0.false in (
      entry_smaller _ _ _ _ _ c.decreases s.owner (kids_few _ _ _ _ kids (kids_below_most (parent tree) f.node (length tree)) c.requires.formed.tree.shaped.few_nodes),
      (
        within.0,
        (
          within.1.0,
          (
            within.1.1,
            (
              c.requires.formed,
              (
                c.requires.tie_free,
                (
                  s.node,
                  (
                    row_of g t at.After-child_count-count s,
                    (
                      number_of g t at.After-child_count-count s,
                      (
                        below_last _ _ last,
                        (
                          (s.place, own_parts g t at.After-child_count-count s (c.child_count-count.result - 1) last),
                          subst (AreAddable g.R.Rank.KEYS c.args.numbers.now) (sym (sum_is g t at.After-child_count-count s (c.child_count-count.result - 1) last)) c.requires.fits,
                        ),
                      ),
                    ),
                  ),
                ),
              ),
            ),
          ),
        ),
      ),
    )

pub add_entry_rows-returns-else-count-eq0 : goal.add_entry_rows-returns-else-count-eq0
add_entry_rows-returns-else-count-eq0 g t c =
    let at = goal.at.add_entry_rows-returns-else-count-eq0 g t c in
    let s = solved_of g t at.After-get-found in
    let kids = kids_of g t at.After-child_count-count s in
    record {
      added =
          let last : child_count c.args.self.now.tree.now c.get-found.result.now.node ≡ suc (c.child_count-count.result - 1) = kids_last _ _ kids c.if-count-eq0.false in
          subst (λ k. AreAdded g.R.Rank.KEYS c.args.numbers.now k c.add_sum_rows.new.numbers) (sum_is g t at.After-child_count-count s (c.child_count-count.result - 1) last) c.add_sum_rows.ensures.added;
      cost =
          let tree = c.args.self.now.tree.now in
          let f = c.get-found.result.now in
          sum_within _ _ _ _ _ _ _ c.get-found.ensures.cost c.add_sum_rows.ensures.cost (ap (λ k. kids_size tree f.node k) (last_is _ c.if-count-eq0.false))
          (kids_smaller g.R.Rank.KEYS g.R.Rank.key tree c.requires.formed.tree f.node c.child_count-count.result s.node (same_few _ _ kids)) (ap (λ v. subtree_size tree v) s.owner);
    }

-- # The rows of a row's solution with its first children

pub add_part_rows-add_own_row-requires-clause-number : goal.add_part_rows-add_own_row-requires-clause-number
add_part_rows-add_own_row-requires-clause-number g t c = c.requires.number

pub add_part_rows-add_own_row-requires-clause-fits : goal.add_part_rows-add_own_row-requires-clause-fits
add_part_rows-add_own_row-requires-clause-fits g t c =
    let known = known_own g.R.Rank.KEYS g.R.Rank.key c.args.self.now.tree.now c.args.self.now.entries.entries c.args.self.now.nodes.items c.requires.formed c.args.part.node c.args.part.row c.args.part.child c.args.place (omega arith) c.requires.place in
    subst (AreAddable g.R.Rank.KEYS c.args.numbers.now)
    (sym (own_at g.R.Rank.KEYS g.R.Rank.key c.args.self.now.tree.now c.requires.formed.tree c.args.self.now.nodes.items c.args.part.node c.args.part.row c.args.part.child c.args.place (rank c.args.self.now.tree.now g.R.Rank.KEYS g.R.Rank.key c.args.part.node c.args.part.row) c.requires.node (omega arith) known refl))
    c.requires.fits

pub add_part_rows-add_sum_rows-requires : goal.add_part_rows-add_sum_rows-requires
add_part_rows-add_sum_rows-requires g t c κs within =
    let at = goal.at.add_part_rows-add_sum_rows-requires g t c in
    let more = last_is c.args.part.child c.if-count-eq0.false in
    let fits = subst (AreAddable g.R.Rank.KEYS c.args.numbers.now) (sym (part_is g t at.After-part_cell-cell more)) c.requires.fits in
    (part_smaller _ _ _ _ c.decreases c.if-count-eq0.false, (within.0, (within.1.0, (within.1.1, (c.requires.formed, (c.requires.tie_free, (c.requires.node, (c.requires.row, (c.requires.number, (last_below _ _ c.if-count-eq0.false c.requires.count, ((c.args.place, c.part_cell-cell.ensures.sum), fits)))))))))))

-- # The rows of a sum

pub add_sum_rows-add_part_rows-requires : goal.add_sum_rows-add_part_rows-requires
add_sum_rows-add_part_rows-requires g t c κs within =
    let d = g.R.Rank.KEYS in
    let key = g.R.Rank.key in
    let tree = c.args.self.now.tree.now in
    let es = c.args.self.now.entries.entries in
    let x = c.args.cell.now in
    let fits = left_addable d c.args.numbers.now (get_or (part_list d key tree c.args.part.node c.args.part.row c.args.part.child) x.left (key_none d 16))
    (get_or (group_list d key tree (child tree c.args.part.node c.args.part.child) (group_named tree c.args.part.node c.args.part.row c.args.part.child)) (place_of es x.right) (key_none d 16)) c.requires.fits in
    (sum_smaller _ _ _ _ c.decreases, (within.0, (within.1.0, (within.1.1, (c.requires.formed, (c.requires.tie_free, (c.requires.node, (c.requires.row, (c.requires.number, (before_is _ _ c.requires.child, (c.requires.parts.1.left, fits)))))))))))

module _ (g : Over) (t : ℕ) where
  -- the key of the right part, by its entry
  right_is : (c : add_sum_rows-After-add_part_rows g t) → get_or (group_list g.R.Rank.KEYS g.R.Rank.key c.args.self.now.tree.now (node_of c.args.self.now.entries.entries c.args.cell.now.right) (group_of c.args.self.now.entries.entries c.args.cell.now.right)) (place_of c.args.self.now.entries.entries c.args.cell.now.right) (key_none g.R.Rank.KEYS 16)
      ≡ get_or (group_list g.R.Rank.KEYS g.R.Rank.key c.args.self.now.tree.now (child c.args.self.now.tree.now c.args.part.node c.args.part.child) (group_named c.args.self.now.tree.now c.args.part.node c.args.part.row c.args.part.child)) (place_of c.args.self.now.entries.entries c.args.cell.now.right) (key_none g.R.Rank.KEYS 16)
  right_is c =
      let d = g.R.Rank.KEYS in
      let key = g.R.Rank.key in
      let tree = c.args.self.now.tree.now in
      let es = c.args.self.now.entries.entries in
      let cell = c.requires.parts.1 in
      let x = c.args.cell.now in
      ap (λ q. get_or (group_list d key tree q (group_of es x.right)) (place_of es x.right) (key_none d 16)) cell.node
      ∙ ap (λ m. get_or (group_list d key tree (child tree c.args.part.node c.args.part.child) m) (place_of es x.right) (key_none d 16)) cell.group

pub add_sum_rows-add_entry_rows-requires : goal.add_sum_rows-add_entry_rows-requires
add_sum_rows-add_entry_rows-requires g t c κs within =
    let at = goal.at.add_sum_rows-add_entry_rows-requires g t c in
    let d = g.R.Rank.KEYS in
    let key = g.R.Rank.key in
    let tree = c.args.self.now.tree.now in
    let es = c.args.self.now.entries.entries in
    let cell = c.requires.parts.1 in
    let x = c.args.cell.now in
    let k = kid d key tree c.requires.formed.tree c.args.part.node c.args.part.child c.requires.child in
    let above = c.requires.formed.tree.shaped.parents_first (child tree c.args.part.node c.args.part.child) k.some k.within in
    let fits = right_addable d c.args.numbers.now (get_or (part_list d key tree c.args.part.node c.args.part.row c.args.part.child) x.left (key_none d 16))
    (get_or (group_list d key tree (child tree c.args.part.node c.args.part.child) (group_named tree c.args.part.node c.args.part.row c.args.part.child)) (place_of es x.right) (key_none d 16)) c.add_part_rows.new.numbers c.requires.fits c.add_part_rows.ensures.added in
    (below_smaller _ _ _ _ _ _ _ c.decreases cell.node above k.parent_is k.within, (within.0, (within.1.0, (within.1.1, (c.requires.formed, (c.requires.tie_free, (cell.right, subst (AreAddable d c.add_part_rows.new.numbers) (sym (right_is g t at.After-add_part_rows)) fits)))))))

pub add_sum_rows-returns : goal.add_sum_rows-returns
add_sum_rows-returns g t c =
    let tree = c.args.self.now.tree.now in
    record {
      added =
          let at = goal.at.add_sum_rows-returns g t c in
          let d = g.R.Rank.KEYS in
          let key = g.R.Rank.key in
          let tree = c.args.self.now.tree.now in
          let es = c.args.self.now.entries.entries in
          let x = c.args.cell.now in
          both_added d c.args.numbers.now (get_or (part_list d key tree c.args.part.node c.args.part.row c.args.part.child) x.left (key_none d 16))
          (get_or (group_list d key tree (child tree c.args.part.node c.args.part.child) (group_named tree c.args.part.node c.args.part.row c.args.part.child)) (place_of es x.right) (key_none d 16)) c.add_part_rows.new.numbers c.add_entry_rows.new.numbers c.add_part_rows.ensures.added
          (subst (λ k. AreAdded d c.add_part_rows.new.numbers k c.add_entry_rows.new.numbers) (right_is g t at.After-add_part_rows) c.add_entry_rows.ensures.added);
      cost =
          let cell = c.requires.parts.1 in
          both_within _ _ _ _ _ _ _ _ c.add_part_rows.ensures.cost c.add_entry_rows.ensures.cost (ap (λ v. subtree_size tree v) cell.node)
          (kids_size_more g.R.Rank.KEYS g.R.Rank.key tree c.requires.formed.tree c.args.part.node c.args.part.child) (ap (λ k. kids_size tree c.args.part.node k) (next_is c.args.part.child));
    }

pub add_part_rows-part_cell-cell-requires-clause-formed : goal.add_part_rows-part_cell-cell-requires-clause-formed
add_part_rows-part_cell-cell-requires-clause-formed g t c =
    c.requires.formed

pub add_part_rows-part_cell-cell-requires-clause-tie_free : goal.add_part_rows-part_cell-cell-requires-clause-tie_free
add_part_rows-part_cell-cell-requires-clause-tie_free g t c =
    c.requires.tie_free

pub add_part_rows-part_cell-cell-requires-clause-node : goal.add_part_rows-part_cell-cell-requires-clause-node
add_part_rows-part_cell-cell-requires-clause-node g t c =
    c.requires.node

pub add_part_rows-part_cell-cell-requires-clause-row : goal.add_part_rows-part_cell-cell-requires-clause-row
add_part_rows-part_cell-cell-requires-clause-row g t c =
    c.requires.row

pub add_part_rows-part_cell-cell-requires-clause-child : goal.add_part_rows-part_cell-cell-requires-clause-child
add_part_rows-part_cell-cell-requires-clause-child g t c =
    last_below _ _ c.if-count-eq0.false c.requires.count

pub add_part_rows-part_cell-cell-requires-clause-place : goal.add_part_rows-part_cell-cell-requires-clause-place
add_part_rows-part_cell-cell-requires-clause-place g t c =
    let more : c.args.part.child ≡ c.args.part.child - 1 + 1 = sym (last_is _ c.if-count-eq0.false) in
    subst (λ z. IsKnownPart c.args.self.now.nodes.items c.args.part.node c.args.part.row z c.args.place) more c.requires.place

pub add_part_rows-add_own_row-requires-clause-formed : goal.add_part_rows-add_own_row-requires-clause-formed
add_part_rows-add_own_row-requires-clause-formed g t c =
    c.requires.formed.tree

pub add_part_rows-add_own_row-requires-clause-node : goal.add_part_rows-add_own_row-requires-clause-node
add_part_rows-add_own_row-requires-clause-node g t c =
    c.requires.node

pub add_part_rows-add_own_row-requires-clause-row : goal.add_part_rows-add_own_row-requires-clause-row
add_part_rows-add_own_row-requires-clause-row g t c =
    c.requires.row

pub add_entry_rows-add_own_row-requires-clause-formed : goal.add_entry_rows-add_own_row-requires-clause-formed
add_entry_rows-add_own_row-requires-clause-formed g t c =
    c.requires.formed.tree

pub add_part_rows-returns-then-count-eq0 : goal.add_part_rows-returns-then-count-eq0
add_part_rows-returns-then-count-eq0 g t c =
    record {
      added =
          let known = known_own g.R.Rank.KEYS g.R.Rank.key c.args.self.now.tree.now c.args.self.now.entries.entries c.args.self.now.nodes.items c.requires.formed c.args.part.node c.args.part.row c.args.part.child c.args.place (omega arith) c.requires.place in
          subst (λ k. AreAdded g.R.Rank.KEYS c.args.numbers.now k c.add_own_row.new.numbers)
          (own_at g.R.Rank.KEYS g.R.Rank.key c.args.self.now.tree.now c.requires.formed.tree c.args.self.now.nodes.items c.args.part.node c.args.part.row c.args.part.child c.args.place (rank c.args.self.now.tree.now g.R.Rank.KEYS g.R.Rank.key c.args.part.node c.args.part.row) c.requires.node (omega arith) known refl)
          c.add_own_row.ensures.added;
      cost = none_within _ _;
    }

pub add_part_rows-returns-else-count-eq0 : goal.add_part_rows-returns-else-count-eq0
add_part_rows-returns-else-count-eq0 g t c =
    record {
      cost =
          part_within _ _ _ _ _ c.part_cell-cell.ensures.cost c.add_sum_rows.ensures.cost (ap (λ z. kids_size c.args.self.now.tree.now c.args.part.node z) (last_is _ c.if-count-eq0.false));
      added =
          let at = goal.at.add_part_rows-returns-else-count-eq0 g t c in
          let more = last_is c.args.part.child c.if-count-eq0.false in
          subst (λ k. AreAdded g.R.Rank.KEYS c.args.numbers.now k c.add_sum_rows.new.numbers) (part_is g t at.After-part_cell-cell more) c.add_sum_rows.ensures.added;
    }
