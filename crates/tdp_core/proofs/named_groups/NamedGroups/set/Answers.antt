use Rattle.std.proofs.Common.{◌<◌, ◌+◌, ◌*◌, [], length, get_or, sym, ap, subst, ◌∙◌, arith}
use Rattle.std.proofs.Math.ListN.{set}
use Rattle.tdp_core.specs.NamedRows.{NamedView}
use Rattle.tdp_core.proofs.NamedPieces.{below_width, piece_set, pieces_length, piece_within}
use Rattle.tdp_core.proofs.named_groups.NamedGroups.set.Goals as goal

pub overflow_mul-place : goal.overflow_mul-place
overflow_mul-place c =
    let t = c.self.inside in
    let inside : c.args.row < t.count = omega (arith, c.requires.row, pieces_length t.width t.count t.named.items, ap (λ v. length v.rows) c.self.view_is) in
    let some = subst (λ v. c.args.child < length (get_or v.rows c.args.row [])) (sym c.self.view_is) c.requires.child in
    let within : c.args.row * t.width + c.args.child < length t.named.items = piece_within t.width t.count t.named.items c.self.invariant c.args.row inside c.args.child some in
    let room = t.named.ok.0 in
    omega (arith, within, room)

pub overflow_add-place : goal.overflow_add-place
overflow_add-place c =
    let t = c.self.inside in
    let inside : c.args.row < t.count = omega (arith, c.requires.row, pieces_length t.width t.count t.named.items, ap (λ v. length v.rows) c.self.view_is) in
    let some = subst (λ v. c.args.child < length (get_or v.rows c.args.row [])) (sym c.self.view_is) c.requires.child in
    let within : c.args.row * t.width + c.args.child < length t.named.items = piece_within t.width t.count t.named.items c.self.invariant c.args.row inside c.args.child some in
    let room = t.named.ok.0 in
    omega (arith, within, room)

pub index_mut-requires : goal.index_mut-requires
index_mut-requires c =
    let t = c.self.inside in
    let inside : c.args.row < t.count = omega (arith, c.requires.row, pieces_length t.width t.count t.named.items, ap (λ v. length v.rows) c.self.view_is) in
    let some = subst (λ v. c.args.child < length (get_or v.rows c.args.row [])) (sym c.self.view_is) c.requires.child in
    let within : c.args.row * t.width + c.args.child < length t.named.items = piece_within t.width t.count t.named.items c.self.invariant c.args.row inside c.args.child some in
    let room = t.named.ok.0 in
    omega (arith, within, room)

pub returns : goal.returns
returns c =
    let t = c.self.inside in
    let i = c.args.row in
    let inside : i < t.count = omega (arith, c.requires.row, pieces_length t.width t.count t.named.items, ap (λ v. length v.rows) c.self.view_is) in
    let some = subst (λ v. c.args.child < length (get_or v.rows i [])) (sym c.self.view_is) c.requires.child in
    let wide = below_width t.width t.count t.named.items c.self.invariant i inside c.args.child some in
    ap (λ ps. record { width = t.width; rows = ps }) (piece_set t.width t.count t.named.items i c.args.child c.args.group inside wide)
    ∙ ap (λ (v : NamedView). record { width = v.width; rows = set v.rows i (set (get_or v.rows i []) c.args.child c.args.group) }) c.self.view_is
