use Rattle.std.proofs.Common.{◌≡◌, ◌<◌, Some, length, get_or, ap, sym, arith, subst, ◌∙◌}
use Rattle.std.proofs.Math.ListN.{set}
use Rattle.std.proofs.SliceLists.{any-default}
use Rattle.std.specs.Vec.{vec_len, vec_capacity, with_item}
use Rattle.stream_store.specs.declared.linked.Linked.{Linked}
use Rattle.stream_store.specs.Buckets.{joined}
use Rattle.stream_store.specs.Entries.{Entries}
use Rattle.stream_store.proofs.Buckets.{stands, found, length_joined, joined_written, AreFilled-written, whole_room_set}
use Rattle.stream_store.proofs.store.Store.set_next.Goals as goal

pub index_mut-bucket-requires : goal.index_mut-bucket-requires
index_mut-bucket-requires g c =
    let inside = c.self.inside in
    let spot = c.location_of-spot.result in
    let told = c.location_of-spot.ensures in
    let was = ap (λ (s : Entries g.row.T.Denot). length s.entries) c.self.view_is in
    let all = length_joined 16 inside.len inside.buckets.items c.self.invariant.0 in
    let id = c.id.view_is in
    let long = inside.buckets.ok.0 in
    let place = stands c.id.inside.place spot.bucket spot.offset told.at told.within in
    let here = (found 16 inside.len inside.buckets.items c.id.inside.place spot.bucket spot.offset place (omega arith) c.self.invariant.0).bucket in
    omega arith

pub index_mut-requires : goal.index_mut-requires
index_mut-requires g c =
    let inside = c.self.inside in
    let spot = c.location_of-spot.result in
    let told = c.location_of-spot.ensures in
    let was = ap (λ (s : Entries g.row.T.Denot). length s.entries) c.self.view_is in
    let all = length_joined 16 inside.len inside.buckets.items c.self.invariant.0 in
    let id = c.id.view_is in
    let place = stands c.id.inside.place spot.bucket spot.offset told.at told.within in
    let here = found 16 inside.len inside.buckets.items c.id.inside.place spot.bucket spot.offset place (omega arith) c.self.invariant.0 in
    subst (λ b. spot.offset < b.len) (sym c.index_mut-bucket.ensures.value) (here.offset c.index_mut-bucket.result.now)

pub invariant_of-self : goal.invariant_of-self
invariant_of-self g c =
    let inside = c.self.inside in
    let bs = inside.buckets.items in
    let spot = c.location_of-spot.result in
    let told = c.location_of-spot.ensures in
    let was = ap (λ (s : Entries g.row.T.Denot). length s.entries) c.self.view_is in
    let all = length_joined 16 inside.len bs c.self.invariant.0 in
    let id = c.id.view_is in
    let place = stands c.id.inside.place spot.bucket spot.offset told.at told.within in
    let here = found 16 inside.len bs c.id.inside.place spot.bucket spot.offset place (omega arith) c.self.invariant.0 in
    let bucket = c.index_mut-bucket.result.now in
    let linked : Linked g.row.T.Denot = record { value = c.index_mut.result.now.value; next = Some c.args.to } in
    let written = with_item bucket spot.offset linked in
    let old = c.index_mut-bucket.ensures.value ∙ any-default bs spot.bucket bucket written here.bucket in (
      AreFilled-written 16 inside.len bs spot.bucket written here.bucket c.self.invariant.0 (ap (λ b. vec_len b) old) (ap (λ b. vec_capacity b) old),
      c.self.invariant.1 ∙ sym (whole_room_set 16 bs spot.bucket written),
      c.self.invariant.2,
      c.self.invariant.3,
      c.self.invariant.4,
    )

pub returns-clause-entries : goal.returns-clause-entries
returns-clause-entries g c = λ d.
    let inside = c.self.inside in
    let bs = inside.buckets.items in
    let spot = c.location_of-spot.result in
    let told = c.location_of-spot.ensures in
    let was = ap (λ (s : Entries g.row.T.Denot). length s.entries) c.self.view_is in
    let all = length_joined 16 inside.len bs c.self.invariant.0 in
    let id = c.id.view_is in
    let at = c.id.inside.place in
    let place = stands at spot.bucket spot.offset told.at told.within in
    let here = found 16 inside.len bs at spot.bucket spot.offset place (omega arith) c.self.invariant.0 in
    let bucket = c.index_mut-bucket.result.now in
    let value = c.index_mut-bucket.ensures.value in
    let within = subst (λ b. spot.offset < b.len) (sym value) (here.offset bucket) in
    let long = bucket.ok.0 in
    let entry = c.index_mut.result.now in
    let linked : Linked g.row.T.Denot = record { value = entry.value; next = Some c.args.to } in
    let written = with_item bucket spot.offset linked in
    let old = value ∙ any-default bs spot.bucket bucket written here.bucket in
    let is = subst (λ b. get_or (joined bs) at d ≡ get_or b.items spot.offset d) (sym value) (here.is bucket d) in
    let same = is ∙ any-default bucket.items spot.offset d entry (omega arith) ∙ sym c.index_mut.ensures.value in
    rw (← c.self.view_is, ← id) (
    joined_written 16 inside.len bs at spot.bucket spot.offset written linked place (omega arith) c.self.invariant.0 (ap (λ b. set b.items spot.offset linked) old)
    ∙ ap (λ (e : Linked g.row.T.Denot). set (joined bs) at (record { value = e.value; next = Some c.args.to })) (sym same)
    )
