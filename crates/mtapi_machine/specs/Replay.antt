-- A check of a history by computing. The law is that a list is legal exactly where its replay is the list itself.
use Rattle.std.specs.Prelude.{Bool, true, ◌&&◌, nat_le, List, length}
use Rattle.history.specs.Replay.{replay_rows as replay_of}
pub use Rattle.history.specs.Replay.{answer_of_row}
use Rattle.action_fn.specs.Answers.{Answered, is_pure, answer_of}
use Rattle.mtapi_machine.specs.declared.ops.Op.{Op}
use Rattle.mtapi_machine.specs.declared.ops.Op.TheVariants.{Finish}
use Rattle.mtapi_machine.specs.State.{State}
use Rattle.mtapi_machine.specs.Legal.{NodeEntry, node}

-- a `finish` is of a pure kind, with at most 16 arguments
abbrev pub is_sound : Op → Bool
is_sound (Finish task done) = is_pure done.kind && nat_le (length done.args) 16
is_sound _ = true

-- a `finish` with the end that it should have
abbrev pub corrected : Op → Op
corrected (Finish task done) = let d : Answered = record done { end = answer_of done.kind done.args } in Finish task d
corrected op = op

-- the history as the machine makes it, up to an entry that no reply answers
unfoldable pub replay : State → List NodeEntry → List NodeEntry
unfolding replay_of
replay = replay_of node is_sound corrected
