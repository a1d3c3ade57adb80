-- Worked rows of a group's members, each decided by computing.
use Rattle.std.specs.Prelude.{◌≡◌, ℕ, Some, None}
use Rattle.group_core.specs.Members.{Members, no_members, with_member, with_ended, without_first, counts_of, first_ended}

-- two tasks, by their handles: the first has the lower slot
abbrev pub worked_first_task : ℕ
worked_first_task = 4294967296

abbrev pub second_task : ℕ
second_task = 4294967297

-- both are members, and the first entered first
abbrev pub both_members : Members
both_members = with_member second_task (with_member worked_first_task no_members)

-- the second ended first
abbrev pub second_ended : Members
second_ended = with_ended second_task both_members

abbrev pub both_ended : Members
both_ended = with_ended worked_first_task second_ended

-- Members are handed out in the order of their ends, whatever their slots are and however they entered; each once.
pub record WorkedMembers : Type 0 where
  pub none_has_ended : first_ended (Some both_members) ≡ None
  pub counts_of_both : counts_of both_members ≡ (2, 0)
  pub counts_of_one : counts_of second_ended ≡ (2, 1)
  pub first_that_ended : first_ended (Some both_ended) ≡ Some second_task
  pub next_that_ended : first_ended (Some (without_first both_ended)) ≡ Some worked_first_task
  pub counts_of_next : counts_of (without_first both_ended) ≡ (1, 1)
  pub all_handed_out : without_first (without_first both_ended) ≡ no_members
