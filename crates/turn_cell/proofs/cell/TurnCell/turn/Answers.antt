use Rattle.turn_cell.proofs.Names.{◌≡◌, ℕ, List, [], ◌∷◌, ◌++◌, sym, subst, refl, ◌∙◌, ap, Me, Entry, Part, part_entry}
use Rattle.turn_cell.proofs.OnePart.{one_part}
use Rattle.turn_cell.proofs.cell.TurnCell.turn.Goals as goal

by_number : {P Q : Type 0} (F : Entry P Q → Type 0) (n k : ℕ) (op : P) (reply : Q) → k ≡ n → F (record { who = n; op = op; reply = reply })
    → F (record { who = k; op = op; reply = reply })
by_number F n k op reply e f = subst (λ (n : ℕ). F (record { who = n; op = op; reply = reply })) (sym e) f

for_any : {O T P Q : Type 0} (F : Part T P Q → Type 0) (m : Me O (List (Part T P Q))) (p q : Part T P Q) (c : List (ℕ × O)) → m ≡ (p ∷ [], c) → m ≡ (q ∷ [], c)
    → F p → F q
for_any {O} {T} {P} {Q} F m p q c is also f = subst F (one_part p q (ap (λ (m : Me O (List (Part T P Q))). m.0) (sym is ∙ also))) f

pub pass-requires-clause-holds : goal.pass-requires-clause-holds
pass-requires-clause-holds g c = let h = c.requires.holds in (
  h.0,
  h.1,
  c.args.op,
  h.2,
  h.3,
  c.apply-reply.ensures.terms ∙ (ap g.O.Object.terms c.deref_mut.ensures.value ∙ h.5),
  by_number (λ e. g.O.Object.stands c.apply-reply.new.self (h.0.seen ++ e ∷ [])) c.args.number h.0.number c.args.op c.apply-reply.result h.4
      (c.apply-reply.ensures.stands h.0.seen (subst (λ o. g.O.Object.stands o h.0.seen) (sym c.deref_mut.ensures.value) h.6)),
  c.requires.argument,
  refl,
)

pub returns-clause-replied : goal.returns-clause-replied
returns-clause-replied g c = (
  c.apply-reply.result,
  refl,
  (λ p is. c.pass.ensures.passed p c.args.op is c.requires.argument),
  λ p is.
      let h = c.requires.holds in
      let stood = by_number (λ e. g.O.Object.stands c.apply-reply.new.self (h.0.seen ++ e ∷ [])) c.args.number h.0.number c.args.op c.apply-reply.result h.4
      (c.apply-reply.ensures.stands h.0.seen (subst (λ o. g.O.Object.stands o h.0.seen) (sym c.deref_mut.ensures.value) h.6)) in
      let lawful = subst (λ t. g.O.Object.legal t (h.0.seen ++ part_entry h.0 c.args.op c.apply-reply.result ∷ [])) (c.apply-reply.ensures.terms
      ∙ (ap g.O.Object.terms c.deref_mut.ensures.value ∙ h.5)) (g.met.O.Object.stands_legal c.apply-reply.new.self _ stood) in
      for_any (λ p. g.O.Object.legal p.terms (p.seen ++ part_entry p c.args.op c.apply-reply.result ∷ [])) c.args.token.now.me h.0 p _ h.2 is lawful,
)
