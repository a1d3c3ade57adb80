-- The names that the proofs of this crate cite of lower crates and of its own specs/, passed on from one place. Declares nothing.
pub use Rattle.std.proofs.Common.{Bool, List, None, Option, Some, [], ap, arith, bit_or, cond, eq-eqb, eqb-true, false, inl, inr, length, length-set, refl, replicate, slice_get, subst, suc, sym, true, zero, ℕ, ◌%◌, ◌++◌, ◌+◌, ◌<◌, ◌∙◌, ◌∷◌, ◌≡◌, ◌≢◌, ◌≤◌}
pub use Rattle.std.proofs.lemmas.Bool.{and_from, and_parts, cases_Bool, cases_eq, false≢true, or_right}
pub use Rattle.std.proofs.lemmas.Bool.Decides.{nat_tests}
pub use Rattle.std.specs.Prelude.{IsSome, ◌==◌, ◌||◌}
pub use Rattle.handle_pool.specs.Slots.{Inserts, Slot, Slots, changed, free_slot, generation_of, max_of, put, slot_after, slot_of, slot_value, used_slot, value_at, with_value, without}
pub use Rattle.handle_pool.specs.Walks.{NoneLive, SomeLive}
pub use Rattle.job_table.specs.Answers.{Covers, Passes, runs_job_on}
pub use Rattle.job_table.specs.Cover.{AreListed, CoversBefore, IsUnionBefore, NoneBefore, cover_with, list_of_job, mask_of}
pub use Rattle.linked_places.proofs.NextLemmas.{has-index, index-has}
pub use Rattle.linked_places.specs.Lists.{HandleLists, NowhereAt, has_handle, list_at, stands_at, with_list, without_handle}
pub use Rattle.mtapi_objects.specs.Actions.{Action, has_enabled_job, has_job, with_enabled}
pub use Rattle.std.proofs.lemmas.Option.{none-some, same_Some}
