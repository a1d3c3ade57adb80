-- The rows of the ops on groups.
use Rattle.std.specs.Prelude.{ℕ, Bool, not, List, [], ◌∷◌, Option, Some, None, if◌then◌else◌}
use Rattle.mtapi_machine.specs.Names.{MtapiStatus, live_of, any_listed, TaskState, Ended, new_group, is_member, is_unended_member, Ending, endings, first_fault, in_no_group}
use Rattle.mtapi_values.specs.declared.statuses.MtapiStatus.TheVariants as m
use Rattle.mtapi_machine.specs.declared.replies.Reply.{Reply}
use Rattle.mtapi_machine.specs.declared.replies.Reply.TheVariants.{Ok, Given, Mtapi}
use Rattle.mtapi_machine.specs.State.{State, tasks, groups}
use Rattle.mtapi_machine.specs.Moves.{Groups, notes, leaves, frees_members, lets_members_go, makes, removes}
use Rattle.mtapi_machine.specs.Row.{Row, unless, gives, never, not_yet, mtapi, mtapi_open, on, chosen, creates}

-- a new group has no members
abbrev pub group_create : State → Reply → Row
group_create s r = mtapi_open s (creates groups s r (λ h. makes Groups h new_group))

-- its members leave it and become detached
abbrev pub group_delete : State → ℕ → Row
group_delete s g = mtapi_open s (on groups s g (λ x. gives Ok (lets_members_go g ∷ removes Groups g ∷ [])))

-- Ok, or the first fault
abbrev pub verdict : Option MtapiStatus → Reply
verdict None = Ok
verdict (Some c) = Mtapi c

-- all members have ended: they are freed, and the reply tells of the first in the order of ends that wasn't completed
abbrev pub all_look : State → ℕ → Bool → Row
all_look s g last = mtapi s (on groups s g (λ x.
    if any_listed (is_unended_member g) s.tasks then not_yet last (Mtapi m.Timeout)
    else gives (verdict (first_fault (endings g (live_of s.tasks)))) (frees_members g ∷ [])))

-- a member gives its end, leaves the group and stops being live
abbrev pub gives_end : ℕ → TaskState → Row
gives_end h (Ended e n) = gives (Given (record { 0 = h }) e) (notes h in_no_group ∷ leaves h ∷ [])
gives_end h _ = never

-- the first in the order of ends is given; none has ended yet
abbrev pub gives_first : State → Bool → List Ending → Row
gives_first s last [] = not_yet last (Mtapi m.Timeout)
gives_first s last (e ∷ es) = chosen tasks s e.task (λ x. gives_end e.task x.state)

-- the member that ended first
abbrev pub any_look : State → ℕ → Bool → Row
any_look s g last = mtapi s (on groups s g (λ x.
    unless (not (any_listed (is_member g) s.tasks)) (Mtapi m.GroupCompleted) (gives_first s last (endings g (live_of s.tasks)))))
