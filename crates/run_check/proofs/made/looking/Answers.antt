use Rattle.run_check.proofs.Names.{◌∙◌, ◌+◌, refl, sym, ap, subst, ℕ, is_pending}
use Rattle.run_check.specs.Takes.{Decides}
use Rattle.run_check.proofs.Fronts.{alone, behind_kept, no_front}
use Rattle.run_check.proofs.made.looking.Goals as goal

pub returns-then-decides-clause-some : goal.returns-then-decides-clause-some
returns-then-decides-clause-some c = rw c.reply-then-decides.ensures (alone c.args.wanted c.args.timeout c.args.lines.now c.line-item.result
    c.in-len1-up.len_at_least c.line-item.is (c.if-decides.ensures.0 refl))

pub returns-then-decides-2-clause-some : goal.returns-then-decides-2-clause-some
returns-then-decides-2-clause-some c =
    let d = c.deciding-item.result in
    let decides = subst (λ (n : ℕ). Decides c.args.wanted c.args.timeout (n + 1) d) (c.from.ensures ∙ c.beside.ensures) (c.if-decides-2.ensures.0 refl) in
    rw c.reply-then-decides-2.ensures (behind_kept c.args.wanted c.args.timeout c.args.lines.now c.line-item.result d c.in-len1-up.len_at_least c.line-item.is
    c.in-len1-up-rest.len_at_least c.deciding-item.is (sym (c.if-not-is_pending.ensures ∙ ap is_pending c.reply.ensures))
    (sym c.op.ensures ∙ (c.if-not-same_op.ensures.same refl ∙ c.op-else-not-waits.ensures)) (sym c.if-not-waits.ensures) decides)

pub returns-else-decides-2-clause-none : goal.returns-else-decides-2-clause-none
returns-else-decides-2-clause-none c = λ rest r t.
    let d = c.deciding-item.result in
    no_front c.args.wanted c.args.timeout c.args.lines.now c.line-item.result d rest r c.in-len1-up.len_at_least c.line-item.is
    c.in-len1-up-rest.len_at_least c.deciding-item.is (sym (c.if-not-is_pending.ensures ∙ ap is_pending c.reply.ensures))
    (λ e. absurd (let x = c.if-decides-2.ensures.1 (subst (λ (n : ℕ). Decides c.args.wanted c.args.timeout (n + 1) d) (sym (c.from.ensures
    ∙ c.beside.ensures)) e) in cc)) t
