-- The names that the proofs of this crate cite of lower crates and of its own specs/, passed on from one place. Declares nothing.
pub use Rattle.std.proofs.Common.{Bool, IsSome, IsTrue, List, None, Option, Some, [], ap, false, inl, inr, length, refl, replicate, set, slice_get, subst, suc, sym, true, zero, ℕ, ◌++◌, ◌<◌, ◌↔◌, ◌∙◌, ◌∷◌, ◌≡◌, ◌≤◌}
pub use Rattle.std.proofs.lemmas.Bool.{cases_eq, false≢true}
pub use Rattle.group_core.specs.Members.{AreGroups, GroupTable, IsUnendedMember, LiveAreUsed, Members, NoMemberAt, and_ended, members_in, no_members, of_unended, rest_of, group_table_of, with_ended, with_member, without_first, without_first_unended}
pub use Rattle.handle_pool.specs.Slots.{Inserts, IsFull, Slot, Slots, changed, free_slot, generation_of, live_count, slot_of, slot_value, used_slot, with_value, without}
pub use Rattle.linked_places.proofs.HandleLemmas.{has-first, list_at-set_other, list_at-set_same, stands-either, stands-has, stands_cases}
pub use Rattle.linked_places.proofs.LinkedLemmas.{alone, stands-without}
pub use Rattle.linked_places.specs.Lists.{HandleLists, NowhereAt, has_handle, list_at, stands_at, with_list, without_handle}
