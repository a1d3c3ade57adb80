use Rattle.workload_file.proofs.Cited.{◌∙◌, not-false, Result, Ok, Err}
use Rattle.std.specs.Prelude.{IfOk}
use Rattle.workload_file.specs.Texts.{texts_of_words}
use Rattle.workload_file.proofs.Placed.{values_read}
use Rattle.workload_file.proofs.grammar.first_met.Goals as goal

pub late_met-requires-clause-values : goal.late_met-requires-clause-values
late_met-requires-clause-values c =
    let given = c.in_ok-placed.ensures.given (not-false _ c.if-not-placed.false) in
    let read = rw c.deref.ensures.value at c.in_ok-read_values.ensures in
    c.deref-2.ensures.value ∙ values_read c.args.r.now.said.current.statements c.args.word
    (texts_of_words c.args.options.now) c.place_texts.new.given.items c.fields.result.now c.read_values.new.values.items c.fields.ensures given read

if_ok : {T E : Type 0} (r : Result T E) (Q : T → Type 0) (P : Type 0) → P → IfOk r (λ t. Q t → P)
if_ok (Ok t) Q P p = λ q. p
if_ok (Err e) Q P p = tt

pub returns-clause-values : goal.returns-clause-values
returns-clause-values c =
    let given = c.in_ok-placed.ensures.given (not-false _ c.if-not-placed.false) in
    let read = rw c.deref.ensures.value at c.in_ok-read_values.ensures in
    if_ok c.late_met.result _ _ (values_read c.args.r.now.said.current.statements c.args.word
    (texts_of_words c.args.options.now) c.place_texts.new.given.items c.fields.result.now c.read_values.new.values.items c.fields.ensures given read)
