use Rattle.std.specs.Fmt.{decimal}
use Rattle.number_text.proofs.Slices.{on_ok, list_more}
use Rattle.number_text.proofs.cores.push_numbers.Goals as goal

pub returns-in_ok-push_number-in-len1-up : goal.returns-in_ok-push_number-in-len1-up
returns-in_ok-push_number-in-len1-up c =
    on_ok c.push_more.result _ _ (λ e. list_more decimal 0 c.args.out.now.items c.push_number.new.out.items c.push_more.new.out.items c.args.numbers.now
    c.in-len1-up.len_at_least c.in_ok-push_number-in-len1-up.ensures e) c.push_more.ensures
