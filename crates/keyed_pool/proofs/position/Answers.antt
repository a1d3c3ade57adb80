use Rattle.std.proofs.Common.{rules}
use Rattle.std.proofs.lemmas.List.Sorted.{answers_always}
use Rattle.keyed_pool.specs.declared.IndexEntry.{IndexEntry}
use Rattle.keyed_pool.proofs.EntryLemmas.{searched}
use Rattle.keyed_pool.proofs.position.Goals as goal

pub returns : goal.returns
returns c =
    let said = c.binary_search_by_key.ensures in
    searched c.args.entries.now c.args.id c.binary_search_by_key.result said.bound
    (said.position (λ (e : IndexEntry). e.id) (answers_always _ _ _ (λ f a r g called. search rules)))
