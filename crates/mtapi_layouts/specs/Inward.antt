-- Handles of layout two, as callers see them, and of layout one, as the pools have them.
use Rattle.std.specs.Prelude.{ℕ, ◌≤◌, ◌%◌, ◌^◌, ◌<◌}
use Rattle.mtapi_values.specs.declared.handles.ObjectKind.{ObjectKind}
use Rattle.mtapi_values.specs.Layouts.{inner}
pub use Rattle.mtapi_renaming.specs.Renaming.{or_zero}

-- a handle as callers see it, as the pool of this kind has it; 0 where it names another kind
abbrev pub inward : ObjectKind → ℕ → ℕ
inward k h = or_zero (inner k h)

-- a handle of layout two names this kind
abbrev pub NamesThisKind : ObjectKind → ℕ → Type 0
NamesThisKind k h = 1 ≤ inward k h

-- a pool's handle leaves room for the number of a kind
abbrev pub HasKindRoom : ℕ → Type 0
HasKindRoom h = h % 2 ^ 32 < 2 ^ 24
