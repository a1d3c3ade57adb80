use Rattle.workload_file.proofs.Cited.{◌++◌, append_assoc, sym, ap, Spelled, bound_words, used_words, options_words, on_ok}
use Rattle.workload_file.proofs.Phrases.{words_more, led_more}
use Rattle.workload_file.proofs.page.push_statement.Goals as goal

pub returns : goal.returns
returns c =
    let bound = bound_words c.args.statement.now.name in
    let used = used_words c.args.before.now c.in_ok-word.place in
    let out = c.args.out.now.items in
    let first = c.extend_from_slice.new.self.items in
    let names = led_more first c.push_bound.new.out.items c.push_used.new.out.items bound used c.in_ok-push_bound.ensures c.in_ok-push_used.ensures in
    let options = options_words c.args.before.now c.fields.result.now c.deref.result.now in
    let all = on_ok c.push_options.result _ _
    (λ e. words_more out first c.push_options.new.out.items c.text.result.now ((bound ++ used)
    ++ options) c.in_ok-extend_from_slice.ensures.items
    (led_more first c.push_used.new.out.items c.push_options.new.out.items (bound ++ used) options names e)) c.push_options.ensures in
    let values = ap (λ (s : Spelled). s.values) (sym c.in_ok-word.ensures) in
    let place = ap (λ (s : Spelled). s.place) (sym c.in_ok-word.ensures) in
    let word = ap (λ (s : Spelled). s.word) (sym c.in_ok-word.ensures) in
    rw (append_assoc bound used options, c.text.ensures, c.fields.ensures, c.deref.ensures.value, values, place, word) at all
