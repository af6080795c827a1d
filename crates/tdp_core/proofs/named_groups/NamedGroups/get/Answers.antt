use Rattle.std.proofs.Common.{◌<◌, ◌+◌, ◌*◌, [], length, get_or, sym, ap, subst, ◌∙◌, arith}
use Rattle.std.proofs.lemmas.List.{get_or_default}
use Rattle.tdp_core.proofs.NamedPieces.{pieces_length, piece_read, piece_within}
use Rattle.tdp_core.proofs.named_groups.NamedGroups.get.Goals as goal

pub overflow_mul-row : goal.overflow_mul-row
overflow_mul-row c =
    let t = c.self.inside in
    let inside : c.args.row < t.count = omega (arith, c.requires.row, pieces_length t.width t.count t.named.items, ap (λ v. length v.rows) c.self.view_is) in
    let some = subst (λ v. c.args.child < length (get_or v.rows c.args.row [])) (sym c.self.view_is) c.requires.child in
    let within : c.args.row * t.width + c.args.child < length t.named.items = piece_within t.width t.count t.named.items c.self.invariant c.args.row inside c.args.child some in
    let room = t.named.ok.0 in
    omega (arith, within, room)

pub overflow_add-row : goal.overflow_add-row
overflow_add-row c =
    let t = c.self.inside in
    let inside : c.args.row < t.count = omega (arith, c.requires.row, pieces_length t.width t.count t.named.items, ap (λ v. length v.rows) c.self.view_is) in
    let some = subst (λ v. c.args.child < length (get_or v.rows c.args.row [])) (sym c.self.view_is) c.requires.child in
    let within : c.args.row * t.width + c.args.child < length t.named.items = piece_within t.width t.count t.named.items c.self.invariant c.args.row inside c.args.child some in
    let room = t.named.ok.0 in
    omega (arith, within, room)

pub index-requires : goal.index-requires
index-requires c =
    let t = c.self.inside in
    let inside : c.args.row < t.count = omega (arith, c.requires.row, pieces_length t.width t.count t.named.items, ap (λ v. length v.rows) c.self.view_is) in
    let some = subst (λ v. c.args.child < length (get_or v.rows c.args.row [])) (sym c.self.view_is) c.requires.child in
    let within : c.args.row * t.width + c.args.child < length t.named.items = piece_within t.width t.count t.named.items c.self.invariant c.args.row inside c.args.child some in
    let room = t.named.ok.0 in
    omega (arith, within, room)

pub returns : goal.returns
returns c =
    let t = c.self.inside in
    let inside : c.args.row < t.count = omega (arith, c.requires.row, pieces_length t.width t.count t.named.items, ap (λ v. length v.rows) c.self.view_is) in
    let some = subst (λ v. c.args.child < length (get_or v.rows c.args.row [])) (sym c.self.view_is) c.requires.child in
    let within : c.args.row * t.width + c.args.child < length t.named.items = piece_within t.width t.count t.named.items c.self.invariant c.args.row inside c.args.child some in
    let read = piece_read t.width t.count t.named.items c.self.invariant c.args.row inside c.args.child some in
    c.index.ensures ∙ get_or_default t.named.items (c.args.row * t.width + c.args.child) c.index.result.now 0 within ∙ read
    ∙ ap (λ v. get_or (get_or v.rows c.args.row []) c.args.child 0) c.self.view_is
