-- Where a list of entries isn't legal any more, by computing.
use Rattle.std.specs.Prelude.{◌≡◌, ◌↔◌, ℕ, ◌+◌, ◌≤◌, ◌<◌, Bool, true, false, ◌&&◌, ◌==◌, nat_lt, nat_le, List, [], ◌∷◌, length, take, Option, Some, None, option_map, if◌then◌else◌}
use Rattle.std.specs.Bool.{beq}
use Rattle.std.specs.Ordering.{int_eq}
use Rattle.std.specs.Cmp.Lexicographic.{pointwise}
use Rattle.mtapi_values.specs.Statuses.{mtapi_number, mrapi_number}
use Rattle.mtapi_values.specs.declared.ends.TaskEnd.{TaskEnd}
use Rattle.mtapi_renaming.specs.Names.{Completed, Cancelled, Failed, Done, Fails, kind_number, Terms, Op, Finish, Reply, Ok, Handle, Number, Ended, Given, Pending, Picked, Idle, Stop, Mtapi, Mrapi, State, opening, seats, NodeEntry, row_of, next, Fits, Legal}
use Rattle.action_fn.specs.declared.finished.ActEnd.{ActEnd}
use Rattle.action_fn.specs.Answers.{is_pure, answer_of}
use Rattle.mtapi_machine.specs.declared.replies.Reply.TheVariants.{Asked}
use Rattle.mtapi_machine.specs.Replay.{answer_of_row}

-- two ends of a task are the same
abbrev pub same_end : TaskEnd → TaskEnd → Bool
same_end (Completed a) (Completed b) = pointwise int_eq a b
same_end Cancelled Cancelled = true
same_end (Failed a) (Failed b) = mtapi_number a == mtapi_number b
same_end _ _ = false

-- two answers of an action are the same
abbrev pub same_act : ActEnd → ActEnd → Bool
same_act (Done a) (Done b) = pointwise int_eq a b
same_act (Fails a) (Fails b) = mtapi_number a == mtapi_number b
same_act _ _ = false

-- two replies are the same
abbrev pub same_reply : Reply → Reply → Bool
same_reply Ok Ok = true
same_reply (Handle a) (Handle b) = a == b
same_reply (Number a) (Number b) = int_eq a b
same_reply (Ended a) (Ended b) = same_end a b
same_reply (Given t a) (Given u b) = (t.0 == u.0) && same_end a b
same_reply Pending Pending = true
same_reply (Picked t a k xs) (Picked u b j ys) = (t.0 == u.0) && (a.0 == b.0) && (kind_number k == kind_number j) && pointwise int_eq xs ys
same_reply Idle Idle = true
same_reply Stop Stop = true
same_reply (Asked a) (Asked b) = beq a b
same_reply (Mtapi a) (Mtapi b) = mtapi_number a == mtapi_number b
same_reply (Mrapi a) (Mrapi b) = mrapi_number a == mrapi_number b
same_reply _ _ = false

-- a `finish` brings what its kind answers
abbrev pub is_honest : Op → Bool
is_honest (Finish t done) = is_pure done.kind && nat_le (length done.args) 16 && same_act done.end (answer_of done.kind done.args)
is_honest op = true

-- the row gives this reply
abbrev pub is_answer : Option Reply → Reply → Bool
is_answer None r = false
is_answer (Some x) r = same_reply r x

-- the entry may come next
abbrev pub may_come : State → NodeEntry → Bool
may_come s e = nat_lt e.who (seats s) && is_honest e.op && is_answer (answer_of_row (row_of s e)) e.reply

-- the number of the first entry that may not come next in its turn, from 1
unfoldable pub first_illegal : State → List NodeEntry → Option ℕ
first_illegal s [] = None
first_illegal s (e ∷ es) = if may_come s e then option_map (λ n. n + 1) (first_illegal (next s e) es) else Some 1

-- n is the least number such that the first n entries aren't legal
pub record IsLeastIllegal (terms : Terms) (L : List NodeEntry) (n : ℕ) : Type 0 where
  pub some : 1 ≤ n
  pub within : n ≤ length L
  pub before : (m : ℕ) → m < n → Legal terms (take m L)
  pub illegal : Legal terms (take n L) → ⊥

-- a list is legal exactly where it has no such entry, and else the entry is the least of this kind
pub record IsDecided (terms : Terms) (L : List NodeEntry) : Type 0 where
  pub legal : Legal terms L ↔ (first_illegal (opening terms) L ≡ None)
  pub illegal : (n : ℕ) → first_illegal (opening terms) L ≡ Some n → IsLeastIllegal terms L n

abbrev pub ListsAreJudged : Type 0
ListsAreJudged = (terms : Terms) (L : List NodeEntry) → Fits terms → IsDecided terms L
