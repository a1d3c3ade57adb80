use Rattle.std.proofs.Common.{◌∙◌}
use Rattle.journal_text.proofs.Reading.{text_spelled}
use Rattle.journal_text.proofs.Steps.{journal_none, journal_headless, journal_fails, journal_read, fails_from}
use Rattle.journal_text.proofs.journals.journal_of.Goals as goal

pub returns-in_default-clause-value : goal.returns-in_default-clause-value
returns-in_default-clause-value c =
    let only = rw c.in_default.is at c.cut_at.ensures.parts in
    fails_from c.no_line.result _ (journal_none c.args.bytes.now c.cut_at.result.0.now only ∙ c.no_line.ensures)

pub returns-in-Err-clause-value : goal.returns-in-Err-clause-value
returns-in-Err-clause-value c =
    let first = rw c.in-Some.is at c.cut_at.ensures.parts in
    journal_headless c.in-Err.error c.args.bytes.now c.cut_at.result.0.now c.in-Some.rest.now first c.in-Err.ensures.value

pub returns-in-Ok-entries_from : goal.returns-in-Ok-entries_from
returns-in-Ok-entries_from c =
    let first = rw c.in-Some.is at c.cut_at.ensures.parts in
    let read = journal_read c.args.bytes.now c.cut_at.result.0.now c.in-Some.rest.now c.in-Ok.head c.in-Ok-entries_from.entries first c.in-Ok.ensures.value
    c.in-Ok-entries_from.ensures in
    record { value = read; same = text_spelled c.args.bytes.now _ read }

pub returns-in-Err-entries_from-clause-value : goal.returns-in-Err-entries_from-clause-value
returns-in-Err-entries_from-clause-value c =
    let first = rw c.in-Some.is at c.cut_at.ensures.parts in
    journal_fails c.in-Err-entries_from.error c.args.bytes.now c.cut_at.result.0.now c.in-Some.rest.now c.in-Ok.head first c.in-Ok.ensures.value
    c.in-Err-entries_from.ensures
