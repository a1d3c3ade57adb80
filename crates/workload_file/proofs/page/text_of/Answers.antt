use Rattle.workload_file.proofs.Cited.{◌≡◌, [], flat_map, if_any, node_text, lines_of_part, canonical}
use Rattle.workload_file.proofs.Again.{canonical_short, canonical_again}
use Rattle.workload_file.proofs.Phrases.{more_lines}
use Rattle.workload_file.proofs.page.text_of.Goals as goal

pub returns : goal.returns
returns c =
    let node = rw c.new.ensures.items at c.in_ok-lay_node.ensures.text in
    let all = more_lines [] c.lay_node.new.page.text.items c.lay_parts.new.page.text.items 1 c.lay_node.new.page.line
    (if_any c.args.load.now.node_line (node_text c.args.load.now.settings))
    (flat_map lines_of_part c.as_slice.result.now) node c.in_ok-lay_node.ensures.line c.in_ok-lay_parts.ensures.text in
    let whole : c.lay_parts.new.page.text.items ≡ canonical c.args.load.now = rw c.as_slice.ensures at all in
    record {
      canonical = whole;
      again = λ bytes e. rw whole (canonical_again bytes c.args.load.now e);
      short = λ bytes e. rw whole (canonical_short bytes c.args.load.now e);
    }
