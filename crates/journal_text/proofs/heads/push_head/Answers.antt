use Rattle.journal_text.proofs.Names.{[], ◌∷◌, ◌++◌, codes, version, first_texts, last_texts, head_text}
use Rattle.journal_text.proofs.Pieces.{words_two, words_joined}
use Rattle.journal_text.proofs.heads.push_head.Goals as goal

pub returns : goal.returns
unfolding head_text
returns c =
    let h = c.args.head.now in
    let r = c.push_last.result in
    let new = c.push_last.new.out.items in
    let one = words_two r _ _ new (first_texts h) (last_texts h) c.in_ok-push_first.ensures c.push_last.ensures in
    let two = words_two r _ _ new (version h.layout ∷ []) (first_texts h ++ last_texts h) (rw c.version.ensures at c.in_ok-push_word.ensures) one in
    words_joined r _ _ new (codes "mtapi-journal") (version h.layout ∷ (first_texts h ++ last_texts h)) c.in_ok-extend_from_slice.ensures.items two
