use Rattle.std.proofs.Common.{◌++◌, ◌∷◌, [], replicate, ap, ◌∙◌, arith}
use Rattle.std.proofs.lemmas.List.{replicate-append-replicate}
use Rattle.tdp_core.proofs.raw_tree.empty_rows.Goals as goal

pub loop-alloc-preserved : goal.loop-alloc-preserved
loop-alloc-preserved g c =
    let l = c.loop-alloc.invariant in
    let long = c.push_reserved.ensures.len in
    record {
      empty =
          c.push_reserved.ensures.items
          ∙ ap (λ xs. xs ++ c.new.result ∷ []) l.empty
          ∙ ap (λ x. replicate c.loop-alloc.rows.len [] ++ x ∷ []) c.new.ensures
          ∙ replicate-append-replicate c.loop-alloc.rows.len 1 []
          ∙ ap (λ n. replicate n []) (omega (arith, long));
      within = omega (arith, long, c.loop-alloc-test.true);
      room = omega (arith, l.room, c.push_reserved.ensures.capacity);
    }

pub push_reserved-requires : goal.push_reserved-requires
push_reserved-requires g c = omega (arith, c.loop-alloc.invariant.room, c.loop-alloc-test.true)

pub returns : goal.returns
returns g c = c.loop-alloc.invariant.empty ∙ ap (λ n. replicate n []) (omega (arith, c.loop-alloc.invariant.within, c.loop-alloc-test.false))
