-- The names that several proof files cite, from one place.
pub use Rattle.generated_workload.specs.Generated.{all_cores, binding_at, first_statements, generated_settings, last_statement, task_deed, generated_task_name, task_statement}
pub use Rattle.generated_workload.specs.Text.{first_lines, generated_text, final_line, node_words, start_words, task_words}
pub use Rattle.number_text.proofs.Parsing.{own}
pub use Rattle.number_text.proofs.Writing.{list_written, within_written}
pub use Rattle.number_text.specs.Lists.{between, led, list_of, list_text}
pub use Rattle.std.proofs.Common.{Bool, Err, List, None, Ok, Result, Some, [], ap, append_assoc, arith, cond, eqb, false, inl, inr, length, map, pos, refl, rules, subst, suc, sym, true, zero, ℕ, ℤ, ◌%◌, ◌*◌, ◌++◌, ◌+◌, ◌<◌, ◌^◌, ◌||◌, ◌∙◌, ◌∷◌, ◌≡◌, ◌≤◌}
pub use Rattle.std.proofs.lemmas.Bool.{and_from, and_parts, cases_Bool, eq-eqb, le-leb, le-ltb, leb-true, lt-leb, lt-ltb, ne_eqb, or_parts}
pub use Rattle.std.proofs.lemmas.Fmt.{decimal_digit, decimal_injective, digits_decimal, length-decimal-le}
pub use Rattle.std.proofs.lemmas.List.{append-nil, length-append, length-map, map-append}
pub use Rattle.std.specs.Char.{is_ascii_digit}
pub use Rattle.std.specs.Fmt.{decimal}
pub use Rattle.std.specs.List.{AllByRecursion, join_with_byte, list_all, list_any, position_or_len}
pub use Rattle.std.specs.Prelude.{FitsSigned, IfOk, IsTrue, Option, codes, drop, nat_le, position}
pub use Rattle.workload_file.proofs.Facts.{IsRead, bind_ok, ok_is, states}
pub use Rattle.workload_file.proofs.Invariant.{Below, any_push, begins_push, below_push, node_settings, push_statement, rise_push}
pub use Rattle.workload_file.proofs.Phrases.{all_append, is_inner, is_word, led_length, line_printable, printable_lacks, words_again}
pub use Rattle.workload_file.specs.Changes.{change_of, settings_by, values_in}
pub use Rattle.workload_file.specs.Formed.{AllFit, AreStatements, IsBoundAt, IsNew, IsStatement, Rise, WellFormed, begins, statement_lines}
pub use Rattle.workload_file.specs.Names.{bound_at, is_called, use_in}
pub use Rattle.workload_file.specs.Table.{fields, naming}
pub use Rattle.workload_file.specs.Written.{line_text}
pub use Rattle.workload_file.specs.declared.reading.LineEffect.{LineEffect}
pub use Rattle.workload_file.specs.declared.reading.Reading.{Reading}
pub use Rattle.workload_file.specs.declared.values.OptionValue.{OptionValue}
pub use Rattle.workload_file.specs.declared.workload.Statement.{Statement}
