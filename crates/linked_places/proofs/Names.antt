-- The names that the proofs of this crate cite of lower crates and of its own specs/, passed on from one place. Declares nothing.
pub use Rattle.std.proofs.Common.{Bool, List, None, Option, Some, [], add-one, ap, arith, cond, count_by, eqb, false, fold, get_or, inl, inr, is_none, length, length-append, length-set, map, refl, replicate, set, slice_get, subst, suc, sym, true, vec_capacity, vec_len, zero, ℕ, ◌*◌, ◌++◌, ◌+◌, ◌<◌, ◌^◌, ◌↔◌, ◌∙◌, ◌∷◌, ◌≡◌, ◌≢◌, ◌≤◌, ◌⊎◌}
pub use Rattle.std.proofs.lemmas.Bool.{cases_Bool, cases_eq, false≢true, or_parts}
pub use Rattle.std.proofs.lemmas.Bool.Decides.{eqb_tells, nat_tests}
pub use Rattle.std.proofs.lemmas.List.{append-nil, get_or-set_other, get_or-set_same, get_or_past, length-map, length-replicate}
pub use Rattle.std.proofs.lemmas.Option.{get_or_from_slice_get, same_Some, slice_get_read, slice_get_within}
pub use Rattle.std.specs.Option.{option_map, option_or}
pub use Rattle.std.specs.Prelude.{if◌then◌else◌, ◌==◌, ◌||◌}
pub use Rattle.handle_pool.proofs.ListReads.{set-set, slice_get-set_cases, slice_get-set_other, slice_get-set_same}
pub use Rattle.handle_pool.specs.Slots.{Inserts, IsFull, Slot, Slots, free_slot, generation_of, is_live, is_retired, slot_after, slot_of, slot_value, used_at, used_slot, value_at, with_value, without}
pub use Rattle.linked_places.specs.Links.{AreApart, IsBelow, IsLinked, IsList, IsChain, ends_with, ends_without, first_of, followed_at, following_at, linked_handles, last_of, link_of, links_followed, links_following, links_with, links_without, walk}
pub use Rattle.linked_places.specs.Lists.{HandleLists, NowhereAt, has_handle, list_at, stands_at, with_list, without_handle}
pub use Rattle.linked_places.specs.declared.Ends.{Ends}
pub use Rattle.linked_places.specs.declared.Link.{Link}
pub use Rattle.linked_places.specs.declared.TheConstants.{NO_ENDS, NO_LINK}
