use Rattle.std.proofs.Common.{rules, get_or, pos}
use Rattle.std.proofs.lemmas.Int.{to_z-of_z}
use Rattle.std.specs.Int.{w64}
use Rattle.std.specs.Prelude.{FitsSigned}
use Rattle.std.specs.Fmt.{signed_decimal}
use Rattle.number_text.proofs.Slices.{on_ok, list_more}
use Rattle.number_text.proofs.lists.push_list.Goals as goal

pub returns-in_ok-push_whole-in-len1-up : goal.returns-in_ok-push_whole-in-len1-up
returns-in_ok-push_whole-in-len1-up c =
    let fits : FitsSigned w64 (get_or c.args.numbers.now 0 (pos 0)) = search rules in
    let first = rw (to_z-of_z w64 (get_or c.args.numbers.now 0 (pos 0)) fits) at c.in_ok-push_whole-in-len1-up.ensures in
    on_ok c.push_more.result _ _ (λ e. list_more signed_decimal
    (pos 0) c.args.out.now.items c.push_whole.new.out.items c.push_more.new.out.items c.args.numbers.now c.in-len1-up.len_at_least first e)
    c.push_more.ensures
