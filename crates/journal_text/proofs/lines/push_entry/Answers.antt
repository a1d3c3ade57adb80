use Rattle.journal_text.specs.Lines.{seat_text, entry_texts, entry_text}
use Rattle.journal_text.proofs.Pieces.{words_joined}
use Rattle.journal_text.proofs.lines.push_entry.Goals as goal

pub returns-clause-text : goal.returns-clause-text
unfolding entry_text
returns-clause-text c =
    let h = c.args.head.now in
    let e = c.args.entry.now in
    words_joined c.push_words.result _ _ c.push_words.new.out.items (seat_text h.settings.workers e.who) (entry_texts h.layout e c.args.skipped)
    (rw c.workers.ensures.value at c.in_ok-push_seat.ensures) c.push_words.ensures.text
