use Rattle.std.proofs.Common.{ℕ, ◌+◌, ◌<◌, None, [], ◌∷◌, ◌++◌, ap, sym, arith, subst, ◌∙◌}
use Rattle.std.proofs.SliceLists.{any-default}
use Rattle.std.specs.Vec.{vec_len, vec_capacity}
use Rattle.stream_store.specs.Entries.{Entries}
use Rattle.stream_store.proofs.Buckets.{stands, next, length_joined, joined_pushed, AreFilled-pushed, whole_room_set}
use Rattle.stream_store.proofs.store.Store.push_reserved.Goals as goal

pub index_mut-bucket-requires : goal.index_mut-bucket-requires
index_mut-bucket-requires g c =
    let inside = c.self.inside in
    let spot = c.location_of-spot.result in
    let told = c.location_of-spot.ensures in
    let was = ap (λ (s : Entries g.row.T.Denot). s.spare) c.self.view_is in
    let total = c.self.invariant.1 in
    let long = inside.buckets.ok.0 in
    let place = stands inside.len spot.bucket spot.offset told.at told.within in
    let here = (next 16 inside.len inside.buckets.items spot.bucket spot.offset place (omega arith) c.self.invariant.0).bucket in
    omega arith

pub push_reserved-requires : goal.push_reserved-requires
push_reserved-requires g c =
    let inside = c.self.inside in
    let spot = c.location_of-spot.result in
    let told = c.location_of-spot.ensures in
    let was = ap (λ (s : Entries g.row.T.Denot). s.spare) c.self.view_is in
    let total = c.self.invariant.1 in
    let place = stands inside.len spot.bucket spot.offset told.at told.within in
    let here = next 16 inside.len inside.buckets.items spot.bucket spot.offset place (omega arith) c.self.invariant.0 in
    let bucket = c.index_mut-bucket.result.now in
    let within = place.within in
    let offset = here.offset bucket in
    let capacity = here.capacity bucket in
    subst (λ b. vec_len b < vec_capacity b) (sym c.index_mut-bucket.ensures.value) (omega arith)

pub invariant_of-self : goal.invariant_of-self
invariant_of-self g c =
    let inside = c.self.inside in
    let bs = inside.buckets.items in
    let spot = c.location_of-spot.result in
    let told = c.location_of-spot.ensures in
    let was = ap (λ (s : Entries g.row.T.Denot). s.spare) c.self.view_is in
    let total = c.self.invariant.1 in
    let place = stands inside.len spot.bucket spot.offset told.at told.within in
    let here = next 16 inside.len bs spot.bucket spot.offset place (omega arith) c.self.invariant.0 in
    let bucket = c.index_mut-bucket.result.now in
    let value = c.index_mut-bucket.ensures.value in
    let pushed = c.push_reserved.new.self in
    let put = c.push_reserved.ensures in
    let len = put.len ∙ ap (λ b. vec_len b + 1) value ∙ ap (λ (n : ℕ). n + 1) (here.offset bucket) in
    let capacity = put.capacity ∙ ap (λ b. vec_capacity b) value ∙ here.capacity bucket in (
      AreFilled-pushed 16 inside.len bs spot.bucket spot.offset pushed place (omega arith) c.self.invariant.0 len capacity,
      total ∙ sym (whole_room_set 16 bs spot.bucket pushed),
      omega arith,
      c.self.invariant.3,
      c.self.invariant.4,
    )

pub returns-clause-id : goal.returns-clause-id
returns-clause-id g c = rw (← c.self.view_is) (sym (length_joined 16 c.self.inside.len c.self.inside.buckets.items c.self.invariant.0))

pub returns-clause-entries : goal.returns-clause-entries
returns-clause-entries g c =
    let inside = c.self.inside in
    let bs = inside.buckets.items in
    let spot = c.location_of-spot.result in
    let told = c.location_of-spot.ensures in
    let was = ap (λ (s : Entries g.row.T.Denot). s.spare) c.self.view_is in
    let total = c.self.invariant.1 in
    let place = stands inside.len spot.bucket spot.offset told.at told.within in
    let here = next 16 inside.len bs spot.bucket spot.offset place (omega arith) c.self.invariant.0 in
    let bucket = c.index_mut-bucket.result.now in
    let pushed = c.push_reserved.new.self in
    let old = c.index_mut-bucket.ensures.value ∙ any-default bs spot.bucket bucket pushed here.bucket in
    let items = c.push_reserved.ensures.items ∙ ap (λ b. b.items ++ record { value = c.args.value; next = None } ∷ []) old in
    rw (← c.self.view_is) (joined_pushed 16 inside.len bs spot.bucket spot.offset pushed (record { value = c.args.value; next = None }) place (omega arith) c.self.invariant.0 items)
