-- A handle goes to another thread as a box with its node does.
use mir.Raw.{raw}
use base.Shift.{Keyless}
use denote.Memory.{lone}
use denote.RawPtr.{Ptr}
use Rattle.std.specs.Global.{Global}
use Rattle.node_handle.specs.Owning.{held_owns}
use denote.Struct.Struct.{exits_of}
use denote.Struct.Owning.{shape, fields, to}
use denote.Param.Send.{IsSend, AllSend, owning_send, struct_send, sendable}
use Rattle.std.specs.Prelude.{Option, Some, None}
use Rattle.std.proofs.Crossing as heap
use Rattle.std_alloc.proofs.SendSync.{quiet, lies}
use Rattle.std_heap.proofs.Global.TheSendSync as handle
use Rattle.node_handle.specs.contracts.held.Held as Held
use Rattle.node_handle.proofs.held.Held.TheSendSync.{the_send as held_send}
use Rattle.node_handle.specs.contracts.handle.NodeHandle.{the_row, the_type}

crosses : (alloc : Global) (at : Ptr) (held : Option Held.the_row.Denot) → Keyless (held_owns alloc at held)
crosses alloc at None = tt
crosses alloc at (Some n) = (lies Held.the_row held_send at n, heap.frees.frees alloc (raw (lone Held.the_row.mir)) at)

pub send : IsSend the_row
send =
    let all : AllSend (fields the_type) = (search sendable, (handle.the_field_send, tt)) in
    owning_send the_type all (λ d. crosses d.alloc d.at d.held)
    (λ k. quiet (to the_type) (exits_of k (fields the_type)) ((struct_send (shape the_type) all).leaving k))
