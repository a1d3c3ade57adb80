use Rattle.workload_mistakes.proofs.Names.{List, ℕ, arith, sym, ap, ◌∙◌, inl, inr, Cause, mended, ends}
use Rattle.workload_mistakes.proofs.Faults.{after_one, one_told, none_of_some, none_left, none_too_long, ended_by}
use Rattle.workload_mistakes.proofs.search.mistakes_of.Goals as goal

pub returns-in-Workload-clause-none : goal.returns-in-Workload-clause-none
returns-in-Workload-clause-none c =
    none_left c.reading.told.items c.args.bytes.now c.reading.text.items c.reading.invariant.each c.reading.invariant.text
    (rw c.deref.ensures.value at c.in-Workload.ensures)

pub returns-in-TooLong-clause-none : goal.returns-in-TooLong-clause-none
returns-in-TooLong-clause-none c =
    none_too_long c.reading.told.items c.args.bytes.now c.reading.text.items c.reading.invariant.each c.reading.invariant.text c.requires
    (rw c.deref.ensures.value at c.in-TooLong.ensures)

pub returns-then-is_last-clause-each : goal.returns-then-is_last-clause-each
returns-then-is_last-clause-each c =
    let m = c.in_ok-mistake-in-Faulty in
    rw c.in_ok-push-in-Faulty.ensures.items (one_told c.reading.told.items m.mistake c.in-Faulty.line c.in-Faulty.cause c.args.bytes.now c.reading.text.items
    c.reading.invariant.each c.reading.invariant.text (rw c.deref.ensures.value at c.in-Faulty.ensures) m.ensures.line m.ensures.cause)

pub returns-then-is_last-clause-none : goal.returns-then-is_last-clause-none
returns-then-is_last-clause-none c =
    none_of_some c.push.new.self.items c.args.bytes.now (omega (arith, c.in_ok-push-in-Faulty.ensures.len)) (returns-then-is_last-clause-each c)

pub reading-preserved : goal.reading-preserved
reading-preserved c =
    let m = c.in_ok-mistake-in-Faulty in
    let told = c.reading.told.items in
    let same = c.deref-in-Faulty-3.ensures.value ∙ c.reading.invariant.text in
    record {
      few = omega (arith, c.in_ok-push-in-Faulty.ensures.len);
      each = rw c.in_ok-push-in-Faulty.ensures.items (one_told told m.mistake c.in-Faulty.line c.in-Faulty.cause c.args.bytes.now c.reading.text.items
          c.reading.invariant.each c.reading.invariant.text (rw c.deref.ensures.value at c.in-Faulty.ensures) m.ensures.line m.ensures.cause);
      text = rw c.in_ok-push-in-Faulty.ensures.items (c.in_ok-text-in-Faulty.ensures ∙ ap (λ (t : List ℕ). mended m.mistake t) same
          ∙ sym (after_one told m.mistake c.args.bytes.now));
    }

pub returns-clause-none : goal.returns-clause-none
returns-clause-none c = none_of_some c.reading.told.items c.args.bytes.now (omega arith) c.reading.invariant.each

pub returns-in-TooLong-clause-cut : goal.returns-in-TooLong-clause-cut
returns-in-TooLong-clause-cut c = λ e. inr (inr (rw (c.deref.ensures.value, c.reading.invariant.text) at c.in-TooLong.ensures))

pub returns-then-is_last-clause-cut : goal.returns-then-is_last-clause-cut
returns-then-is_last-clause-cut c =
    let m = c.in_ok-mistake-in-Faulty in
    let end = ap (λ (cause : Cause). ends cause) m.ensures.cause ∙ sym c.is_last.ensures ∙ c.if-is_last.true in
    λ e. inr (inl (rw c.in_ok-push-in-Faulty.ensures.items (ended_by c.reading.told.items m.mistake end)))

pub returns-clause-cut : goal.returns-clause-cut
returns-clause-cut c = λ e. inl (omega arith)
