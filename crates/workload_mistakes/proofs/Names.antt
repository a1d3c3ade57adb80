-- The names that several proof files cite, from one place.
pub use Rattle.number_text.proofs.Pieces.{after_len, left_len}
pub use Rattle.number_text.specs.Lists.{between, pieces_of}
pub use Rattle.std.proofs.Common.{Bool, Err, List, None, Ok, Option, Some, [], ap, append_assoc, arith, false, inl, inr, length, refl, suc, sym, true, zero, ℕ, ◌++◌, ◌+◌, ◌-◌, ◌<◌, ◌||◌, ◌∙◌, ◌∷◌, ◌≡◌, ◌≤◌}
pub use Rattle.std.specs.List.{flat_map, join_with_byte}
pub use Rattle.std.specs.Prelude.{IfSome, codes, if◌then◌else◌, insert, is_some, replicate, ◌==◌, ◌↔◌}
pub use Rattle.workload_file.specs.declared.faults.Cause.{Cause}
pub use Rattle.workload_mistakes.specs.Mending.{mended_text, mended, read_for}
pub use Rattle.workload_mistakes.specs.Page.{AreMistakes, Explains, in_order, mistake_text, page_text}
pub use Rattle.workload_mistakes.specs.Told.{AreFaulty, IsTextWorkload, ends, fault_of_mistake, has_end}
pub use Rattle.workload_mistakes.specs.declared.mistakes.Mistake.{Mistake}
