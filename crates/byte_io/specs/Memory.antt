-- A source and a sink in memory, as contracts see them.
use Rattle.std.specs.Prelude.{ℕ, ◌==◌, List, Bool}
use Rattle.std.specs.List.{list_any}
use Rattle.byte_io.specs.declared.Failed.{Failed}

-- a source in memory: the bytes left, the most that it gives a call, the calls that fail, the calls and the faults so far
pub record SourceState : Type 0 where
  pub left : List ℕ
  pub most : ℕ
  pub fails : List ℕ
  pub calls : ℕ
  pub faults : ℕ

-- a sink in memory: the bytes held, its room, the most that it takes a call, the calls that fail, the calls and the faults so far
pub record SinkState : Type 0 where
  pub bytes : List ℕ
  pub room : ℕ
  pub most : ℕ
  pub fails : List ℕ
  pub calls : ℕ
  pub faults : ℕ

-- the list names this call
abbrev pub names_call : List ℕ → ℕ → Bool
names_call fails call = list_any (λ n. n == call) fails

-- the one value of `Failed`
abbrev pub failed : Failed
failed = record {}
