use Rattle.std.proofs.Common.{◌≡◌, ◌+◌, ◌++◌, ◌∷◌, [], length, sym, ap, ◌∙◌, arith, length-append}
use Rattle.tdp_core.specs.NamedRows.{pieces}
use Rattle.tdp_core.proofs.NamedPieces.{pieces_length, pieces_more}
use Rattle.tdp_core.proofs.named_groups.NamedGroups.push.Goals as goal

pub overflow_add-self : goal.overflow_add-self
overflow_add-self c =
    let t = c.self.inside in
    omega (arith, c.requires.few, pieces_length t.width t.count t.named.items, ap (λ v. length v.rows) c.self.view_is)

pub invariant_of-self-2 : goal.invariant_of-self-2
invariant_of-self-2 c =
    let t = c.self.inside in
    let more = c.args.groups.now in
    let wide : length more ≡ t.width = c.requires.width ∙ sym (ap (λ v. v.width) c.self.view_is) in
    let n : c.push_each.new.list.items ≡ t.named.items ++ more = c.push_each.ensures ∙ ap (λ l. l ++ more) c.reserve.ensures.items in
    omega (arith, ap length n, length-append t.named.items more, wide, c.self.invariant)

pub returns-clause-ok : goal.returns-clause-ok
returns-clause-ok c =
    let t = c.self.inside in
    let more = c.args.groups.now in
    let wide : length more ≡ t.width = c.requires.width ∙ sym (ap (λ v. v.width) c.self.view_is) in
    let n : c.push_each.new.list.items ≡ t.named.items ++ more = c.push_each.ensures ∙ ap (λ l. l ++ more) c.reserve.ensures.items in
    ap (λ l. record { width = t.width; rows = pieces t.width (t.count + 1) l }) n
    ∙ ap (λ ps. record { width = t.width; rows = ps }) (pieces_more t.width t.count t.named.items more c.self.invariant wide)
    ∙ ap (λ v. record { width = v.width; rows = v.rows ++ more ∷ [] }) c.self.view_is
