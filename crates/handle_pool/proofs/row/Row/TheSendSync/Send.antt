-- A row may go to another thread where its items may: its block is owned by it alone, and any thread may give it back.
use Rattle.handle_pool.proofs.Names.{◌-◌, ◌*◌, length, array_of, type_size, Keyless, Array, IsSend, AllSend, Quiet, array_send, owning_send, part_keyless, struct_send, sendable, Exit, unchanged, leaves, hidden, under, full_share, RattleType, Ptr, block_ptr, null_ptr, lies_at, room_for, ◌+ₚ◌, shape, fields, to, exits_of, Ty, the_row}
use Rattle.std.proofs.Crossing.{frees}
use Rattle.handle_pool.specs.contracts.row.Row as C

-- where a row goes, it leaves nothing behind that a reference could still show
exits_keep_none : {D X : Type 0} (view : D → X) (e : Exit X) → Quiet e → Quiet (hidden (under view e))
exits_keep_none view unchanged none = λ d w. tt
exits_keep_none view (leaves L l S s r) none = λ d. none (view d)

-- the memory of a row is no thread's own: neither its items, where these may cross, ..
items_cross : (R : RattleType) → IsSend R → (at : Ptr) (x : R.Denot) → Keyless (lies_at R full_share at x)
items_cross R may null_ptr x = tt
items_cross R may (block_ptr b o) x = part_keyless R may full_share x b o

-- .. nor the bytes that no item fills yet
spare_crosses : (τ : Ty) (at : Ptr) → Keyless (room_for τ at)
spare_crosses τ null_ptr = tt
spare_crosses τ (block_ptr b o) = tt

pub send : (X : RattleType) → IsSend X → IsSend (the_row X)
send X may =
    let O = C.the_type X in
    let all : AllSend (fields O) = (search sendable, tt) in
    owning_send O all
    (λ d. (
      (tt, tt),
      (
        items_cross (Array X (length d.items)) (array_send X (length d.items) may) d.at d.items,
        (
          spare_crosses (array_of X (d.room - length d.items)) (d.at +ₚ length d.items * type_size X),
          frees.frees (record { memory = record { seal = tt } }) (array_of X d.room) d.at,
        ),
      ),
    ))
    (λ k. exits_keep_none (to O) (exits_of k (fields O)) ((struct_send (shape O) all).leaving k))
