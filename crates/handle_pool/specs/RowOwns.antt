-- What a row of items in one block owns and lends.
use Rattle.std.specs.Prelude.{ℕ, ◌+◌, ◌-◌, ◌*◌, ◌^◌, ◌<◌, List, length}
use Rattle.std.specs.Mem.{type_size}
use Rattle.std.specs.Allocator.{array_of}
use base.Fraction.{full_share}
use base.Fml.{Fml, Lft, fsep, flt}
use mir.Syntax.{Ty}
use Rattle.std.specs.contracts.impls.GlobalAllocator.TheImpl.{ghosts}
use denote.RattleType.{RattleType}
use denote.Array.{Array}
use denote.Sharing.{said, beside}
use denote.RawPtr.{Ptr, ◌+ₚ◌, lies_at, room_for}
use denote.Struct.Lending.{lent_at}

-- the right to give a block for a type back to the heap
abbrev pub chunk : Ty → Ptr → Fml
chunk = ghosts.dealloc_token (record { memory = record { seal = tt } })

module _ (X : RattleType) where
  -- so many items fit into one block
  abbrev pub FitsBlock : ℕ → Type 0
  FitsBlock n = n * type_size X < 2 ^ 63

  -- so many items are no more than the block has room for, and that fits
  abbrev pub bounds : ℕ → List X.Denot → Fml
  bounds n xs = fsep (flt (length xs) (n + 1)) (flt (n * type_size X) (2 ^ 63))

  -- the items lie at the start of a block for n of them, the rest of it may hold anything, and the block may be given back
  abbrev pub row_owns : Ptr → ℕ → List X.Denot → Fml
  row_owns p n xs =
      fsep (bounds n xs)
      (fsep (lies_at (Array X (length xs)) full_share p xs)
      (fsep (room_for (array_of X (n - length xs)) (p +ₚ length xs * type_size X)) (chunk (array_of X n) p)))

  -- what a `&` to it holds: the bounds, and the items
  abbrev pub row_lent : Ptr → ℕ → List X.Denot → Lft → Fml
  row_lent p n xs = beside (said (bounds n xs)) (lent_at (Array X (length xs)) p xs)
