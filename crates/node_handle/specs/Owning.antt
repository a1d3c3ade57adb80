-- What a handle owns.
use base.Fml.{Fml, ftrue}
use denote.RawPtr.{Ptr}
use Rattle.std.specs.Prelude.{Option, Some, None}
use Rattle.std.specs.Coded.{Coded, coded_option}
use Rattle.std.specs.Box.Ownership.{box_owns}
use Rattle.std.specs.Global.{Global}
use Rattle.std_heap.specs.contracts.GlobalAllocator.TheImpl.{ghosts}
use Rattle.node_handle.specs.contracts.held.Held.{the_row}

-- nothing, or what a box with this owns
abbrev pub held_owns : Global → Ptr → Option the_row.Denot → Fml
held_owns alloc at None = ftrue
held_owns alloc at (Some n) = box_owns (ghosts.dealloc_token alloc) the_row at n

abbrev pub held_coded : Coded (Option the_row.Denot)
held_coded = coded_option the_row.coded
