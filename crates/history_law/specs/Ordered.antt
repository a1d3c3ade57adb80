-- The runs of an ordered queue.
use Rattle.std.specs.Prelude.{◌≡◌, ℕ, Bool, true, false, ◌==◌, ◌&&◌, List, ◌∷◌, ◌++◌, IsSome}
use Rattle.history_law.specs.Names.{Op, TaskEnqueue, QueueCreate, Pick, Reply, Picked, Terms, NodeEntry, after, end_at}
use Rattle.history_law.specs.Words.{some_entry, is_this_handle}

-- the entry makes this queue, as an ordered one
abbrev pub asks_ordered : Op → Bool
asks_ordered (QueueCreate id job priority limit ordered retain) = ordered
asks_ordered _ = false

abbrev pub makes_ordered : ℕ → NodeEntry → Bool
makes_ordered q e = asks_ordered e.op && is_this_handle q e.reply

-- the entry puts this task into the queue
abbrev pub puts_this_into : ℕ → Op → Bool
puts_this_into q (TaskEnqueue x args cores detached group) = x.0 == q
puts_this_into q _ = false

abbrev pub puts_task : ℕ → ℕ → NodeEntry → Bool
puts_task q h e = puts_this_into q e.op && is_this_handle h e.reply

-- the entry picks this task
abbrev pub is_pick_of : Op → Bool
is_pick_of Pick = true
is_pick_of _ = false

abbrev pub is_picked : ℕ → Reply → Bool
is_picked h (Picked t a k args) = t.0 == h
is_picked h _ = false

abbrev pub picks_task : ℕ → NodeEntry → Bool
picks_task h e = is_pick_of e.op && is_picked h e.reply

-- the task had ended after the entries before, and is picked by none of those behind
pub record HasRunOnce (terms : Terms) (before behind : List NodeEntry) (h : ℕ) : Type 0 where
  pub ended : IsSome (end_at (after terms before).tasks h)
  pub never : some_entry (picks_task h) behind ≡ false

-- Of two tasks that were put into an ordered queue, where the second one is picked the first one has run: it has ended, and isn't picked
-- then or later. So what is picked of the two begins in the order in which they were put, and the runs don't overlap.
abbrev pub RunsInOrder : Terms → List NodeEntry → ℕ → Type 0
RunsInOrder terms es q =
    (Z A B C D : List NodeEntry) (o x y z : NodeEntry) (a b : ℕ) → es ≡ (Z ++ o ∷ (A ++ x ∷ (B ++ y ∷ C))) ++ z ∷ D → makes_ordered q o ≡ true
    → puts_task q a x ≡ true → puts_task q b y ≡ true → picks_task b z ≡ true
    → HasRunOnce terms (Z ++ o ∷ (A ++ x ∷ (B ++ y ∷ C))) (z ∷ D) a
