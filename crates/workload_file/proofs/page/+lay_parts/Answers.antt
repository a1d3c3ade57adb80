use Rattle.workload_file.proofs.Cited.{sym, append-nil, flat_map, lines_of_part, on_ok, rest_of}
use Rattle.workload_file.proofs.Phrases.{more_lines, more_last, parts_split, none_below, laid_none}
use Rattle.workload_file.proofs.page.+lay_parts.Goals as goal

pub returns-in-empty-clause-text : goal.returns-in-empty-clause-text
returns-in-empty-clause-text t c = rw (none_below c.args.parts.now c.in-empty.len_below, laid_none c.args.page.now.line)
    (sym (append-nil c.args.page.now.text.items))

pub returns-in_ok-lay_part-in-len1-up-clause-text : goal.returns-in_ok-lay_part-in-len1-up-clause-text
returns-in_ok-lay_part-in-len1-up-clause-text t c =
    let split = parts_split c.args.parts.now c.part-item.result c.in-len1-up.len_at_least c.part-item.is in
    rw split (on_ok c.lay_parts.result _ _ (λ e. more_lines c.args.page.now.text.items c.lay_part.new.page.text.items c.lay_parts.new.page.text.items
    c.args.page.now.line c.lay_part.new.page.line (lines_of_part c.part-item.result)
    (flat_map lines_of_part (rest_of c.args.parts.now)) c.in_ok-lay_part-in-len1-up.ensures.text c.in_ok-lay_part-in-len1-up.ensures.line e)
    c.lay_parts.ensures.text)

pub returns-in_ok-lay_part-in-len1-up-clause-line : goal.returns-in_ok-lay_part-in-len1-up-clause-line
returns-in_ok-lay_part-in-len1-up-clause-line t c =
    let split = parts_split c.args.parts.now c.part-item.result c.in-len1-up.len_at_least c.part-item.is in
    rw split (on_ok c.lay_parts.result _ _ (λ e. more_last c.args.page.now.line c.lay_part.new.page.line c.lay_parts.new.page.line
    (lines_of_part c.part-item.result) (flat_map lines_of_part (rest_of c.args.parts.now)) c.in_ok-lay_part-in-len1-up.ensures.line e)
    c.lay_parts.ensures.line)
