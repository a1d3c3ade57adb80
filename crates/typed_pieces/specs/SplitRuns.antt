-- What a run of work that splits says of its nodes, one for each level.
use Rattle.std.specs.Prelude.{◌≡◌, ◌<◌, ◌+◌, ℕ, List, [], ◌∷◌, All, length, map, sum_by, Vec}
use Rattle.std.specs.declared.alloc.Global.{Global}
use Rattle.mtapi_values.specs.Attributes.{NodeSettings}
use Rattle.typed_pieces.specs.Runs.{HasRunAll}
use Rattle.typed_pieces.specs.Levels.{AreOpen}
use Rattle.typed_pieces.specs.declared.level.Pending.{Pending}
use Rattle.typed_pieces.specs.declared.split_run.LevelRun.{LevelRun}
use Rattle.typed_pieces.specs.declared.split_failure.SplitFailure.{SplitFailure}
use Rattle.typed_pieces.specs.declared.split_failure.SplitFailure.TheVariants as failure
use Rattle.typed_pieces.specs.declared.unfinished.Unfinished.{Unfinished}

-- the node of each level has run all pieces of the level
abbrev pub HaveRun : NodeSettings → List LevelRun → Type 0
HaveRun settings levels = All (λ level. HasRunAll settings level.pieces level.journal) levels

-- how many pieces these levels have in all
abbrev pub pieces_of_levels : List LevelRun → ℕ
pieces_of_levels levels = sum_by (λ level. level.pieces) levels

-- at each of these levels as many pieces have run as stand in it
abbrev pub AreLevelsCounted : {D J : Type 0} → List LevelRun → List (Vec (Pending D J) Global) → Type 0
AreLevelsCounted levels waiting = map (λ level. level.pieces) levels ≡ map (λ level. length level.items) waiting

-- These are the levels of the work of this root: the root alone, then its parts, then the parts of these and so on, until none has parts. Each piece
-- keeps what it promises, if its parts do, and as many have run at each level as it has.
pub record AreLevelsOf {P D J : Type 0} (promise : P → D → Type 0) (joined : J → List D → D → Type 0) (root : P) (levels : List LevelRun) : Type 0 where
  pub waiting : List (Vec (Pending D J) Global)
  pub waits : AreOpen promise joined (root ∷ []) waiting []
  pub counts : AreLevelsCounted levels waiting

-- the pieces of a level gave no results, and P says why; or Q holds of how many pieces had run and how many parts these had
abbrev pub SplitFails : SplitFailure → (Unfinished → Type 0) → (ℕ → ℕ → Type 0) → Type 0
SplitFails (failure.Run unfinished) P Q = P unfinished
SplitFails (failure.Limit before parts) P Q = Q before parts

-- So many pieces of this root have run, level by level, each of which keeps what it promises if its parts do; and those of the last level have
-- so many parts, with which there would be more than so many pieces in all.
pub record IsOver {P D J : Type 0} (promise : P → D → Type 0) (joined : J → List D → D
    → Type 0) (settings : NodeSettings) (root : P) (most before parts : ℕ) : Type 0 where
  pub levels : List LevelRun
  pub waiting : List (Vec (Pending D J) Global)
  pub next : List P
  pub ran : HaveRun settings levels
  pub waits : AreOpen promise joined (root ∷ []) waiting next
  pub counts : AreLevelsCounted levels waiting
  pub had_run : pieces_of_levels levels ≡ before
  pub many : length next ≡ parts
  pub over : most < before + parts
