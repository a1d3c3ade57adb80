use Rattle.journal_text.proofs.Names.{[], ◌∷◌, ◌++◌, codes, op_texts, reply_texts, skipped_texts}
use Rattle.journal_text.proofs.Pieces.{words_two}
use Rattle.journal_text.proofs.lines.push_words.Goals as goal

pub returns-clause-text : goal.returns-clause-text
returns-clause-text c =
    let e = c.args.entry.now in
    let r = c.push_skipped.result in
    let new = c.push_skipped.new.out.items in
    let ops = op_texts c.args.layout e.op in
    let replies = reply_texts c.args.layout e.reply in
    let skipped = skipped_texts c.args.skipped in
    let one = words_two r _ _ new replies skipped c.in_ok-push_reply.ensures.text c.push_skipped.ensures in
    let two = words_two r _ _ new (codes "->" ∷ []) (replies ++ skipped) c.in_ok-push_word.ensures one in
    words_two r _ _ new ops (codes "->" ∷ (replies ++ skipped)) c.in_ok-push_op.ensures.text two
