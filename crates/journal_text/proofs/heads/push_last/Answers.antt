use Rattle.journal_text.proofs.Names.{[], ◌∷◌, codes, setting_text}
use Rattle.journal_text.proofs.Pieces.{words_two}
use Rattle.journal_text.proofs.heads.push_last.Goals as goal

pub returns : goal.returns
returns c =
    let s = c.args.head.now.settings in
    let r = c.push_setting-4.result in
    let new = c.push_setting-4.new.out.items in
    let queues = setting_text (codes "queues=") s.queues in
    let objects = setting_text (codes "objects=") s.objects in
    let priorities = setting_text (codes "priorities=") s.priorities in
    let generations = setting_text (codes "generations=") s.generations in
    let one = words_two r _ _ new (priorities ∷ []) (generations
    ∷ []) (rw c.priorities.ensures.value at c.in_ok-push_setting-3.ensures) (rw c.generations.ensures.value at c.push_setting-4.ensures) in
    let two = words_two r _ _ new (objects ∷ []) (priorities ∷ generations ∷ []) (rw c.objects.ensures.value at c.in_ok-push_setting-2.ensures) one in
    words_two r _ _ new (queues ∷ []) (objects ∷ priorities ∷ generations ∷ []) (rw c.queues.ensures.value at c.in_ok-push_setting.ensures) two
