-- Lines, computed.
use Rattle.std.proofs.Common.{◌≡◌, ◌∷◌, [], None, Some, codes, refl}
use Rattle.std.specs.Fmt.{digits}
use Rattle.hyper_graph.specs.Items.{items_below, items_of}
use Rattle.refusals.specs.Reason.{BadBound, BadWeight, BranchShape, Cyclic, DuplicateName, LimitRange, WeakBound, line_of}

triangle : items_of 7 ≡ 1 ∷ 2 ∷ 3 ∷ []
unfolding items_below
triangle = refl

some_items : items_of 32788 ≡ 3 ∷ 5 ∷ 16 ∷ []
unfolding items_below
some_items = refl

cyclic_line : line_of (Cyclic None (1 ∷ 2 ∷ 16 ∷ [])) ≡ codes "anyk: cyclic query: items 1 2 16\n"
unfolding digits
cyclic_line = refl

weight_line : line_of (BadWeight None 1 2 3) ≡ codes "anyk: item 1: row 2: column 3: not a weight\n"
unfolding digits
weight_line = refl

branch_line : line_of (BadWeight (Some 2) 1 2 3) ≡ codes "anyk: branch 2: item 1: row 2: column 3: not a weight\n"
unfolding digits
branch_line = refl

shape_line : line_of (BranchShape 2) ≡ codes "anyk: branch 2: shape differs\n"
unfolding digits
shape_line = refl

name_line : line_of (DuplicateName (codes "R") 2) ≡ codes "anyk: table R: column 2: name used twice\n"
unfolding digits
name_line = refl

limit_line : line_of (LimitRange 24) ≡ codes "anyk: limit at byte 24 out of range\n"
unfolding digits
limit_line = refl

bound_line : line_of (BadBound 3) ≡ codes "anyk: proof line 3: no solution\n"
unfolding digits
bound_line = refl

node_line : line_of (WeakBound 2) ≡ codes "anyk: proof node 2: bound missing or too high\n"
unfolding digits
node_line = refl
