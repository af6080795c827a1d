use Rattle.std.proofs.Common.{◌<◌, [], length, get_or, sym, ap, ◌∙◌, arith}
use Rattle.tdp_core.proofs.NamedPieces.{piece_width, pieces_length}
use Rattle.tdp_core.proofs.named_groups.NamedGroups.push_first_or_next.Goals as goal
use Rattle.tdp_core.proofs.named_groups.NamedGroups.push_first_or_next.Goals.{then-self-eq0, else-self-eq0}

pub push-requires-clause-width : goal.push-requires-clause-width
push-requires-clause-width c =
    elim c.if-self-eq0.branch [
      | then-self-eq0 w ↦ sym (ap (λ v. v.width) w.self-is)
      | else-self-eq0 w ↦
          let t = c.self.inside in
          let some : 0 < t.count = omega (arith, w.if-self-eq0.false) in
          let rows : 0 < length c.args.self.now.rows = omega (arith, some, pieces_length t.width t.count t.named.items, ap (λ v. length v.rows) c.self.view_is) in
          let first = piece_width t.width t.count t.named.items c.self.invariant 0 some in
          sym (c.requires.same 0 [] rows) ∙ ap (λ v. length (get_or v.rows 0 [])) (sym c.self.view_is) ∙ first ∙ ap (λ v. v.width) c.self.view_is ∙ sym (ap (λ v. v.width) w.self-is)
    ]
