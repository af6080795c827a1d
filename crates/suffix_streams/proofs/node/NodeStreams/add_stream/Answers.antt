use Rattle.std.proofs.Common.{◌≡◌, ℕ, ◌+◌, List, [], ◌∷◌, ◌++◌, sym, ap, ◌∙◌, subst, arith}
use Rattle.suffix_streams.specs.StreamView.{StreamView, headed, IsNextHead}
use Rattle.suffix_streams.specs.NodeStreamsView.{NodeStreamsView}
use Rattle.suffix_streams.proofs.HeadedStreams.{stream_at_head, headed_next, next_head_is}
use Rattle.suffix_streams.proofs.node.NodeStreams.add_stream.Given.{Over}
use Rattle.suffix_streams.proofs.node.NodeStreams.add_stream.Goals.{After-add, After-push_reserved}
use Rattle.suffix_streams.proofs.node.NodeStreams.add_stream.Goals as goal

next_at : (f n m h : ℕ) → n ≡ m → h ≡ f + m → h ≡ f + n
next_at f n m h e is = omega arith

begins_at : (f n m h : ℕ) → n ≡ m → f + n ≡ h → f + m ≡ h
begins_at f n m h e is = omega arith

module _ (g : Over) where
  -- the head comes next
  next : (c : After-push_reserved g) → IsNextHead (headed c.self.inside.heads.first c.self.inside.streams.items) c.args.head
  next c = subst (λ (n : NodeStreamsView g.row.R.Denot). IsNextHead n.streams c.args.head) (sym c.self.view_is) c.requires

  -- its queue is empty
  empty : (c : After-add g) → stream_at_head c.args.head c.new.result ≡ record { head = c.args.head; queue = []; room = 0 }
  empty c =
      ap (λ es. (let s : StreamView g.row.R.Denot = record { head = c.args.head; queue = es; room = c.new.result.spare } in s)) c.new.ensures.entries
      ∙ ap (λ n. (let s : StreamView g.row.R.Denot = record { head = c.args.head; queue = []; room = n } in s)) c.new.ensures.spare

  streams : (c : After-add g) → IsNextHead (headed c.self.inside.heads.first c.self.inside.streams.items) c.args.head
      → headed c.add.new.self.first c.push_reserved.new.self.items ≡ headed c.self.inside.heads.first c.self.inside.streams.items ++ (record { head = c.args.head; queue = []; room = 0 } ∷ [])
  streams c before =
      ap (λ qs. headed c.add.new.self.first qs) (c.push_reserved.ensures.items ∙ ap (λ qs. qs ++ (c.new.result ∷ [])) c.in_ok-reserve.ensures.items)
      ∙ headed_next c.self.inside.heads.first c.add.new.self.first c.args.head c.self.inside.streams.items c.new.result before (begins_at _ _ _ _ c.self.invariant c.add.ensures.last)
      ∙ ap (λ s. headed c.self.inside.heads.first c.self.inside.streams.items ++ (s ∷ [])) (empty c)

pub add-requires : goal.add-requires
add-requires g c = record {
  next = λ some. next_at _ _ _ _ c.self.invariant (next_head_is c.self.inside.heads.first c.self.inside.streams.items c.args.head (omega (arith, some, c.self.invariant)) (next g (goal.at.add-requires g c).After-push_reserved));
}

pub returns : goal.returns
returns g c =
    let at = goal.at.returns g c in
    let s : StreamView g.row.R.Denot = record { head = c.args.head; queue = []; room = 0 } in
    ap (λ (z : List (StreamView g.row.R.Denot)). (let n : NodeStreamsView g.row.R.Denot = record { children = c.self.inside.children.items; streams = z; products = c.self.inside.products } in n)) (streams g at.After-add (next g at.After-push_reserved))
    ∙ ap (λ (n : NodeStreamsView g.row.R.Denot). (let m : NodeStreamsView g.row.R.Denot = record n { streams = n.streams ++ (s ∷ []) } in m)) c.self.view_is
