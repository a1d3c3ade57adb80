use Rattle.std.proofs.Common.{sym, vec_len, vec_capacity}
use Rattle.mrapi_shmem.proofs.Stores.{IsStore-without, room_for_one}
use Rattle.mrapi_shmem.proofs.Segments.delete.Goals as goal

pub push_reserved-requires : goal.push_reserved-requires
push_reserved-requires c =
    room_for_one c.self.inside.pool c.args.s.0 c.in-Some.segment (vec_len c.self.inside.spare) (vec_capacity c.self.inside.spare) c.self.invariant
    (sym c.in-Some.ensures.value)

pub invariant_of-self : goal.invariant_of-self
invariant_of-self c =
    rw c.in-Some.ensures.removed
    (IsStore-without c.self.inside.pool c.args.s.0 c.in-Some.segment (vec_len c.self.inside.spare) (vec_len c.push_reserved.new.self)
    (vec_capacity c.self.inside.spare) (vec_capacity c.push_reserved.new.self) c.self.invariant
    (sym c.in-Some.ensures.value) c.push_reserved.ensures.len c.push_reserved.ensures.capacity)
