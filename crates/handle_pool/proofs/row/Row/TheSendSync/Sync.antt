-- A row may be shared by threads where its items may: a `&` to it only reads the items and the bounds.
use Rattle.handle_pool.proofs.Names.{length, ftrue, Keyless, Array, IsSync, Common, array_sync, struct_sync, sendable, RattleType, Ptr, block_ptr, null_ptr, block_of, count_of, in_block, lent_at, shape, to, the_row}
use Rattle.handle_pool.specs.contracts.row.Row as C

-- where items lie is known to every thread
place_is_known : (at : Ptr) → Keyless (in_block at ftrue)
place_is_known null_ptr = tt
place_is_known (block_ptr b o) = tt

-- what a `&` to items reads is no thread's own, where these may be shared
items_are_shared : (R : RattleType) → IsSync R → (at : Ptr) (x : R.Denot) → Common (lent_at R at x)
items_are_shared R may at x κ = (place_is_known at, may.shared x (block_of at) (count_of at) κ)

pub sync : (X : RattleType) → IsSync X → IsSync (the_row X)
sync X may =
    let O = C.the_type X in
    record {
      shared = λ d b o κ. (
        (struct_sync (shape O) (search sendable, tt)).shared (to O d) b o κ,
        ((tt, tt), items_are_shared (Array X (length d.items)) (array_sync X (length d.items) may) d.at d.items κ),
      );
    }
