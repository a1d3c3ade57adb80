-- The names that the proofs of this crate cite of lower crates and of its own specs/, passed on from one place. Declares nothing.
pub use Rattle.std.proofs.Common.{Bool, IsSome, List, MutBor, None, Option, Result, Some, [], ap, arith, cond, count_by, false, get_or, inl, inr, length, length-set, map, not, refl, replicate, set, slice_get, subst, suc, sym, true, zero, ℕ, ◌%◌, ◌&&◌, ◌*◌, ◌++◌, ◌+◌, ◌-◌, ◌/◌, ◌<◌, ◌^◌, ◌↔◌, ◌∙◌, ◌∷◌, ◌≡◌, ◌≢◌, ◌≤◌, ◌⊎◌}
pub use Rattle.std.proofs.RawLayout.{as_raw, as_written}
pub use Rattle.std.proofs.VecSteps.Shapes.{after, arm_body, head}
pub use Rattle.std.proofs.lemmas.Bool.{and_parts, cases_Bool, cases_eq, cases_lt, eq-eqb, eqb-true, ne_eqb}
pub use Rattle.std.proofs.lemmas.Bool.Decides.{eqb_tells, nat_tests}
pub use Rattle.std.proofs.lemmas.List.{append-nil, append_assoc, get_or-map, length-append, length-map, length-replicate, length_push, map-set, map_push, set-append_left}
pub use Rattle.std.proofs.lemmas.List.Folds.{sum_by-replicate}
pub use Rattle.std.proofs.lemmas.List.Sums.{sum_by-cons, sum_by-set, sum_by_push}
pub use Rattle.std.proofs.lemmas.Option.{get_or_from_slice_get, same_Some, slice_get-map, slice_get_within}
pub use Rattle.std.proofs.ptr.Rows.{apart, one_below, times_below}
pub use Rattle.std.proofs.raw_atomic.Walks.{proved, proved_at}
pub use Rattle.std.specs.Allocator.{array_of, block_if_ok}
pub use Rattle.std.specs.Mem.{type_size}
pub use Rattle.std.specs.Option.{option_map}
pub use Rattle.std.specs.Prelude.{nat_le, ◌==◌}
pub use base.Fml.{Fml, GName, Incl-trans, Lft, Share, fauth, fbor, fhide, flft, fobor, fobs, froom, fsep, ftrue}
pub use base.Fraction.{full_share}
pub use base.Logic.{emp, ent, ex, fst∗, guard, id⊢, never, sep}
pub use base.Shift.{Keyless}
pub use contract.BorrowLft.{meet_⊑_left, ◌⊑◌}
pub use contract.Monad.{fact, fact_i}
pub use contract.Running.{tables}
pub use denote.Array.{Array, Array-row_laws}
pub use denote.Builtin.{RefOf, unit, usize}
pub use denote.Exit.{Exit, hidden, leaves, no, unchanged, under, yes}
pub use denote.Follow.{Part, follows, lends_Part}
pub use denote.Index.{others, place_is, puts, row, takes, whole_in, whole_out}
pub use denote.Laws.{Is, Typed, shows}
pub use denote.Memory.{cell_at, hidden_shr, mem, part_at, shares}
pub use denote.Param.{layout, layouts, param}
pub use denote.Param.Laws.{Laws, param_laws}
pub use denote.Param.Send.{AllSend, Common, IsSend, IsSync, Quiet, array_send, array_sync, owning_send, part_keyless, sendable, struct_send, struct_sync}
pub use denote.Plain.{uint_Makes, uint_Tells, uint_vals}
pub use denote.RattleType.{RattleType, Valss}
pub use denote.RawPtr.{InBlock, Ptr, RawPtr, block_of, block_ptr, count_of, in_a_block, in_block, lies_at, null_ptr, ptr_row_laws, ptr_val, room_for, ◌+ₚ◌}
pub use denote.Ref.{MutRef, ShrRef, mut_Tells, mut_vals, shr_Tells, shr_vals}
pub use denote.Signature.{plain}
pub use denote.Slice.{MutSlice, slice_val}
pub use denote.Steps.{closes, heard, nothing, only, opens, owned, peeks}
pub use denote.Struct.Lending.{Lends-both, Lends-first, Lends-lies, Lends-said, in_block_says, lent_at, lent_at_shr_laws, lent_out, of_Lends}
pub use denote.Struct.Owning.{fields, shape, to}
pub use denote.Struct.Struct.{Struct, Struct-Makes, Struct-row_laws, exits_of, within}
pub use denote.Triple.Call.{calls_at, calls_at_last}
pub use denote.Triple.Spec.{triple_of}
pub use denote.Triple.Table.{framed}
pub use denote.Triple.Walked.{Goes-dropped, Goes-ref, Goes-spent_ref, Stays, ends_at, says, stay_dropped, stay_ref, walk_of}
pub use lib.Dec.{T, lit<}
pub use mir.MapTy.{inst_fn}
pub use mir.Syntax.{Fn, Ty, a_type, named, ty_array, ty_unit, w64}
pub use mir.Val.{Val, WT, has_ty, of_list, vcons, vint, vnil, vptr, vstruct, vunit}
pub use prog.Capped.{capped_fits, capped_is}
pub use prog.Memory.{align, capped, size}
pub use prog.RawLaws.{align-raw, size-raw}
pub use prog.Wp.{Env, Wp, WpFn, after_seq, at_return}
pub use seplogic.Ra.Ura.{Ura}
pub use types.ByLocal.{alloc_all, env, free_all, get, get_in, get_tag, lands_as, lands_last, look_at, pass_all, sets, sets_last, through}
pub use types.Kit.{ !, Goal, Item, Seq, Soaks, Step, any_q, at_ret, await, check, done, drop, feq_i, feq_l, fjoin, flt_i, flt_l, fpack, fpick, frame, fsplit, fsplit3, given, group, join, keep, later, learn, move, pick, prop, qed, raw, regoal, rewrite, show, some, split, split3, step, suffices, use0, use1, use2, ‵, ◌$◌, ◌∵◌, ◌⊛◌}
pub use types.Logic.{Logic, sem}
pub use types.Part.{agg, look_in, sub, whole}
pub use types.Run.{addr, align_word, and_then, assigns_last, bin, blocks, enter, exec, first, fld, init, lit, load, look, no_more, of_opd, returns, size_lit, size_word, stop, switches_on, unit_lit}
pub use Rattle.handle_pool.specs.Issued.{Listed, any_listed, any_live, count_listed, first_handle, gone, how_many, live_object, lookup, retire, update, with_fields}
pub use Rattle.handle_pool.specs.Place.{HasGeneration, HasValue, IsFree, IsFreeList, IsSound, slot_in, used_in, value_in, with_value_at, with_value_in}
pub use Rattle.handle_pool.specs.RowLends.{with_item, with_items}
pub use Rattle.handle_pool.specs.RowOwns.{bounds, chunk}
pub use Rattle.handle_pool.specs.Slots.{Inserts, IsFull, Slot, Slots, changed, free_slot, generation_of, is_live, is_retired, live_count, max_of, retired_count, slot_after, slot_of, slot_value, used_at, used_slot, value_at, with_value, without}
pub use Rattle.handle_pool.specs.Stands.{Distinct, HadTurn, SlotStands, Stands}
pub use Rattle.handle_pool.specs.Walks.{HasLive, NoneBelow, NoneLive, OneEach, SomeLive, count_in, value_passes}
pub use Rattle.handle_pool.specs.contracts.row.Row.{the_row}
pub use Rattle.handle_pool.specs.declared.places.Place.{Place}
pub use Rattle.handle_pool.specs.declared.places.Place.TheVariants.{Free, Live, Retired}
pub use Rattle.handle_pool.specs.declared.row.Row.{Row}
unfoldable pub use denote.Memory.{part_of}
unfoldable pub use Rattle.handle_pool.specs.Issued.{change, change_all, is_full, issue, issued_at, listed, live_of, may_issue, retired}
unfoldable pub use Rattle.handle_pool.specs.Place.{fresh}
