use Rattle.node_handle.proofs.counted.CountedNode.into_journal.Goals as goal

-- a list that the node stands for is one that the node inside stands for
pub returns : goal.returns
returns c = record { none = c.into_journal.ensures.none; lost = c.into_journal.ensures.lost; kept = λ L counts. c.into_journal.ensures.kept L counts.stands }
