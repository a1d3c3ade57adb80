-- Worked rows of work that splits, with values that all differ: a piece is a number and promises three times itself, and a join gives a number and
-- the sum of the results. What is wrong in one place is refused.
use Rattle.std.specs.Prelude.{◌≡◌, ◌+◌, ◌*◌, ℕ, List, [], ◌∷◌, Vec}
use Rattle.std.specs.declared.alloc.Global.{Global}
use Rattle.mtapi_values.specs.Attributes.{NodeSettings}
use Rattle.node_journals.specs.declared.entries.Journal.{Journal}
use Rattle.typed_pieces.specs.Runs.{HasRunAll}
use Rattle.typed_pieces.specs.Split.{AllKept}
use Rattle.typed_pieces.specs.Levels.{AreOpen, GivesResult, Waits}
use Rattle.typed_pieces.specs.SplitRuns.{AreLevelsCounted, AreLevelsOf, IsOver}
use Rattle.typed_pieces.specs.declared.level.Pending.{Pending}
use Rattle.typed_pieces.specs.declared.level.Pending.TheVariants.{Done, Joins}
use Rattle.typed_pieces.specs.declared.split_run.LevelRun.{LevelRun}

abbrev pub IsTriple : ℕ → ℕ → Type 0
IsTriple piece result = result ≡ 3 * piece

abbrev pub total_of : List ℕ → ℕ
total_of [] = 0
total_of (n ∷ ns) = n + total_of ns

abbrev pub AddsUp : ℕ → List ℕ → ℕ → Type 0
AddsUp join results result = result ≡ join + total_of results

abbrev pub AreTriples : List ℕ → Type 0
AreTriples results = AllKept IsTriple (4 ∷ 11 ∷ 7 ∷ []) results

-- each result stands at the place of its piece, and there are no others
pub record WorkedResults : Type 0 where
  pub kept : AreTriples (12 ∷ 33 ∷ 21 ∷ [])
  pub first : AreTriples (13 ∷ 33 ∷ 21 ∷ []) → ⊥
  pub last : AreTriples (12 ∷ 33 ∷ 22 ∷ []) → ⊥
  pub moved : AreTriples (33 ∷ 12 ∷ 21 ∷ []) → ⊥
  pub fewer : AreTriples (12 ∷ 33 ∷ []) → ⊥
  pub more : AreTriples (12 ∷ 33 ∷ 21 ∷ 5 ∷ []) → ⊥

-- what has come of the pieces 4, 11, 13 and 9
abbrev pub came : List (Pending ℕ ℕ)
came = Done 12 ∷ Joins 2 12 ∷ Joins 1 18 ∷ Done 27 ∷ []

abbrev pub Wait : List ℕ → List (Pending ℕ ℕ) → List ℕ → Type 0
Wait = Waits IsTriple AddsUp

-- 11 waits for 2 and 5, and 13 for 7
pub record WorkedWaits : Type 0 where
  pub wait : Wait (4 ∷ 11 ∷ 13 ∷ 9 ∷ []) came (2 ∷ 5 ∷ 7 ∷ [])
  pub another_result : Wait (4 ∷ 11 ∷ 13 ∷ 9 ∷ []) (Done 10 ∷ Joins 2 12 ∷ Joins 1 18 ∷ Done 27 ∷ []) (2 ∷ 5 ∷ 7 ∷ []) → ⊥
  pub another_join : Wait (4 ∷ 11 ∷ 13 ∷ 9 ∷ []) (Done 12 ∷ Joins 2 10 ∷ Joins 1 18 ∷ Done 27 ∷ []) (2 ∷ 5 ∷ 7 ∷ []) → ⊥
  pub counts_moved : Wait (4 ∷ 11 ∷ 13 ∷ 9 ∷ []) (Done 12 ∷ Joins 1 12 ∷ Joins 2 18 ∷ Done 27 ∷ []) (2 ∷ 5 ∷ 7 ∷ []) → ⊥
  pub fewer_came : Wait (4 ∷ 11 ∷ 13 ∷ 9 ∷ []) (Done 12 ∷ Joins 2 12 ∷ Joins 1 18 ∷ []) (2 ∷ 5 ∷ 7 ∷ []) → ⊥
  pub pieces_moved : Wait (11 ∷ 4 ∷ 13 ∷ 9 ∷ []) came (2 ∷ 5 ∷ 7 ∷ []) → ⊥
  pub fewer_pieces : Wait (4 ∷ 11 ∷ 13 ∷ []) came (2 ∷ 5 ∷ 7 ∷ []) → ⊥
  pub parts_moved : Wait (4 ∷ 11 ∷ 13 ∷ 9 ∷ []) came (5 ∷ 7 ∷ 2 ∷ []) → ⊥
  pub fewer_parts : Wait (4 ∷ 11 ∷ 13 ∷ 9 ∷ []) came (2 ∷ 5 ∷ []) → ⊥
  pub more_parts : Wait (4 ∷ 11 ∷ 13 ∷ 9 ∷ []) came (2 ∷ 5 ∷ 7 ∷ 3 ∷ []) → ⊥

-- where the results of the parts that are left are 6, 15 and 21
abbrev pub Give : Pending ℕ ℕ → ℕ → List ℕ → Type 0
Give pending = GivesResult AddsUp pending (6 ∷ 15 ∷ 21 ∷ [])

-- one that is done takes none of them, and one that joins the first ones, as many as it has parts
pub record WorkedGives : Type 0 where
  pub done : Give (Done 12) 12 (6 ∷ 15 ∷ 21 ∷ [])
  pub joins : Give (Joins 2 12) 33 (21 ∷ [])
  pub another_result : Give (Done 12) 13 (6 ∷ 15 ∷ 21 ∷ []) → ⊥
  pub takes_one : Give (Done 12) 12 (15 ∷ 21 ∷ []) → ⊥
  pub takes_more : Give (Joins 2 12) 54 (21 ∷ []) → ⊥
  pub takes_last : Give (Joins 2 12) 48 (21 ∷ []) → ⊥
  pub drops_part : Give (Joins 2 12) 27 (21 ∷ []) → ⊥
  pub leaves_all : Give (Joins 2 12) 33 (6 ∷ 15 ∷ 21 ∷ []) → ⊥
  pub leaves_none : Give (Joins 2 12) 33 [] → ⊥

abbrev pub Waiting : Type 0
Waiting = Vec (Pending ℕ ℕ) Global

-- three levels of the root 40, of one, four and three pieces
pub record AreThree (a b c : Waiting) : Type 0 where
  pub first : a.items ≡ Joins 4 9 ∷ []
  pub second : b.items ≡ came
  pub third : c.items ≡ Done 6 ∷ Done 15 ∷ Done 21 ∷ []

abbrev pub Open : ℕ → List Waiting → List ℕ → Type 0
Open root = AreOpen IsTriple AddsUp (root ∷ [])

-- the parts of a level are the pieces of the next, from the root down
pub record WorkedLevels (a b c : Waiting) : Type 0 where
  pub none : Open 40 [] (40 ∷ [])
  pub two : Open 40 (a ∷ b ∷ []) (2 ∷ 5 ∷ 7 ∷ [])
  pub all : Open 40 (a ∷ b ∷ c ∷ []) []
  pub another_root : Open 41 (a ∷ []) (4 ∷ 11 ∷ 13 ∷ 9 ∷ []) → ⊥
  pub none_open : Open 40 [] [] → ⊥
  pub without_first : Open 40 (b ∷ c ∷ []) [] → ⊥
  pub without_second : Open 40 (a ∷ c ∷ []) [] → ⊥
  pub without_third : Open 40 (a ∷ b ∷ []) [] → ⊥
  pub moved : Open 40 (a ∷ c ∷ b ∷ []) [] → ⊥

abbrev pub run : ℕ → Journal → LevelRun
run pieces journal = record { pieces = pieces; journal = journal }

abbrev pub Levels : List LevelRun → Type 0
Levels = AreLevelsOf IsTriple AddsUp 40

abbrev pub Over : NodeSettings → ℕ → ℕ → ℕ → Type 0
Over settings = IsOver IsTriple AddsUp settings 40

-- Each level has run as many pieces as it has. After five of the root 40 have run, three more are too many if there may be seven.
pub record WorkedRuns (settings : NodeSettings) (i j k : Journal) (a b c : Waiting) : Type 0 where
  pub counted : AreLevelsCounted (run 1 i ∷ run 4 j ∷ run 3 k ∷ []) (a ∷ b ∷ c ∷ [])
  pub one_more : AreLevelsCounted (run 1 i ∷ run 5 j ∷ run 3 k ∷ []) (a ∷ b ∷ c ∷ []) → ⊥
  pub one_less : AreLevelsCounted (run 1 i ∷ run 4 j ∷ run 2 k ∷ []) (a ∷ b ∷ c ∷ []) → ⊥
  pub counts_moved : AreLevelsCounted (run 1 i ∷ run 3 k ∷ run 4 j ∷ []) (a ∷ b ∷ c ∷ []) → ⊥
  pub level_left_out : AreLevelsCounted (run 1 i ∷ run 4 j ∷ []) (a ∷ b ∷ c ∷ []) → ⊥
  pub levels : Levels (run 1 i ∷ run 4 j ∷ run 3 k ∷ [])
  pub no_levels : Levels [] → ⊥
  pub two_roots : Levels (run 2 i ∷ run 4 j ∷ run 3 k ∷ []) → ⊥
  pub over : Over settings 7 5 3
  pub over_at_once : Over settings 0 0 1
  pub as_many : Over settings 8 5 3 → ⊥
  pub none_ran : Over settings 0 0 2 → ⊥

pub record WorkedPieces : Type 0 where
  pub results : WorkedResults
  pub waits : WorkedWaits
  pub gives : WorkedGives
  pub levels : (a b c : Waiting) → AreThree a b c → WorkedLevels a b c
  pub runs : (settings : NodeSettings) (i j k : Journal) (a b c : Waiting) → HasRunAll settings 1 i → HasRunAll settings 4 j → AreThree a b c
      → WorkedRuns settings i j k a b c
