-- The ends that entries tell.
use Rattle.std.specs.Prelude.{◌≡◌, ℕ, ◌==◌, List, ◌∷◌, ◌++◌, Option, Some, None, if◌then◌else◌}
use Rattle.history_law.specs.Names.{TaskEnd, Op, TaskLook, AnyLook, Finish, WatchEnd, TallyEnd, Reply, Ok, Given, Terms, task_end, NodeEntry, after, end_at}
use Rattle.mtapi_machine.specs.declared.replies.Reply.TheVariants.{Ended}

-- the end in a reply; the one that is given with this task; this end, where the reply is Ok
abbrev pub end_told : Reply → Option TaskEnd
end_told (Ended e) = Some e
end_told _ = None

abbrev pub given_told : ℕ → Reply → Option TaskEnd
given_told h (Given t e) = if t.0 == h then Some e else None
given_told h _ = None

abbrev pub done_told : TaskEnd → Reply → Option TaskEnd
done_told e Ok = Some e
done_told e _ = None

-- the end of this task that an entry tells: a look at it or at a group, or its worker, when it ends it
abbrev pub told_by : ℕ → Op → Reply → Option TaskEnd
told_by h (TaskLook t last) r = if t.0 == h then end_told r else None
told_by h (AnyLook g last) r = given_told h r
told_by h (Finish t done) r = if t.0 == h then done_told (task_end done.end) r else None
told_by h (WatchEnd t) r = if t.0 == h then end_told r else None
told_by h (TallyEnd t) r = if t.0 == h then end_told r else None
told_by h _ r = None

abbrev pub tells : ℕ → NodeEntry → Option TaskEnd
tells h e = told_by h e.op e.reply

-- the end that an entry tells is the one in the record of the task at the end of the list
abbrev pub TellsItsEnd : Terms → List NodeEntry → ℕ → Type 0
TellsItsEnd terms es h = (P Q : List NodeEntry) (x : NodeEntry) (e : TaskEnd) → es ≡ P ++ x ∷ Q → tells h x ≡ Some e → end_at (after terms es).tasks h ≡ Some e
