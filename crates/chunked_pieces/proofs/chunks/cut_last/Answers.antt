use Rattle.std.proofs.Common.{rules}
use Rattle.chunked_pieces.proofs.Cuts.{cut_whole}
use Rattle.chunked_pieces.proofs.chunks.cut_last.Goals as goal

pub returns-clause-whole : goal.returns-clause-whole
returns-clause-whole g c =
    cut_whole c.saturating_sub-left.result c.args.items.now.items c.split_off.new.self.items c.in_ok-last.last c.args.chunks.now.items
    c.push_front.new.self.items (search rules) (search rules) (search rules)
