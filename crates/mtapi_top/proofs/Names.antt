-- The names that the proofs of this crate cite of lower crates and of its own specs/, passed on from one place. Declares nothing.
pub use Rattle.std.proofs.Common.{Bool, List, None, Option, Some, [], ap, arith, cond, false, inl, inr, length, pos, refl, subst, suc, sym, true, zero, ℕ, ◌%◌, ◌++◌, ◌+◌, ◌<◌, ◌∙◌, ◌∷◌, ◌≡◌, ◌≤◌, ◌⊎◌}
pub use Rattle.std.specs.Io.KnownBytes.{Appends, IsAtEnd}
pub use Rattle.std.specs.List.{AllByRecursion, flat_map, join_with_byte, list_any}
pub use Rattle.std.specs.Prelude.{Err, IfOk, IfSome, Ok, Result, codes, is_some, nat_le, nat_lt, not, option_and_then, ◌&&◌, ◌*◌, ◌+ℤ◌, ◌/◌, ◌==◌, ◌||◌}
pub use Rattle.byte_io.specs.Causes.{AppendsFront, Rose, TakesAtMost}
pub use Rattle.generated_workload.specs.Generated.{all_cores, first_statements, generated_settings, last_statement, start_deed, task_deed, task_statement}
pub use Rattle.journal_check.specs.Verdicts.{IsLegal, IsVerdict, terms_of_journal}
pub use Rattle.journal_check.specs.declared.verdicts.Verdict.{Verdict}
pub use Rattle.journal_text.proofs.Splits.{same_split}
pub use Rattle.journal_text.specs.Journals.{entry_lines, head_for, lines_text}
pub use Rattle.mtapi_machine.specs.Legal.{Legal, NodeEntry}
pub use Rattle.mtapi_machine.specs.State.{opening, terms_with}
pub use Rattle.mtapi_top.specs.Check.{Channels, Checks, FirstPartFails, IsInput, IsRefusedInput, IsUnjudged, LastPartFails}
pub use Rattle.mtapi_top.specs.Command.{Ends, HasRead, IsRefused, IsTold, IsWorkload, Outside, has_line, status_of, verdict_status}
pub use Rattle.mtapi_top.specs.Ended.{HasEnded, IsPastReading, IsReadFor, StartsNothing}
pub use Rattle.mtapi_top.specs.Headline.{IsLoadOf, IsRead, IsReadAgain, IsTextTwo, RanWorkload, output}
pub use Rattle.mtapi_top.specs.Settled.{GeneratedIsSettled, IsPlainOutput, generated_summary}
pub use Rattle.mtapi_top.specs.Words.{InRange, asked_by_words, judges, reads_workload, texts}
pub use Rattle.mtapi_top.specs.declared.ends.End.{End}
pub use Rattle.mtapi_top.specs.declared.ends.Outcome.{Outcome}
pub use Rattle.mtapi_top.specs.declared.words.Asked.{Asked}
pub use Rattle.mtapi_values.specs.declared.handles.Layout.{Layout}
pub use Rattle.mtapi_values.specs.declared.handles.Layout.TheVariants.{Two}
pub use Rattle.node_journals.specs.declared.entries.Journal.{Journal}
pub use Rattle.workload_runners.specs.RunJournals.{IsRun, terms_for}
pub use Rattle.settled_runs.specs.Plain.{action_in, actions_in, plain_report, queue_in}
pub use Rattle.settled_runs.specs.Settled.{both, fault_in, has_new_id, has_room, is_action_deed, makes_group, makes_task, deed_puts_into, serves}
pub use Rattle.workload_file.specs.Formed.{MainFirst, WellFormed}
pub use Rattle.workload_file.specs.Loading.{Loads, ReadsClean}
pub use Rattle.workload_file.specs.Reading.{workload_of}
pub use Rattle.workload_file.specs.declared.workload.Part.{Part}
pub use Rattle.workload_file.specs.declared.workload.Workload.{Workload}
unfoldable pub use Rattle.generated_workload.specs.Generated.{generated, generated_tasks}
unfoldable pub use Rattle.journal_text.specs.Journals.{journal_text}
unfoldable pub use Rattle.settled_runs.specs.Plain.{plain_end, plain_fault, task_in}
unfoldable pub use Rattle.settled_runs.specs.Settled.{
  are_settled,
  has_different_ids,
  has_one_kind_a_job,
  have_one_fault_a_group,
  is_settled,
  is_settled_deed,
  keep_limits,
}
