use Rattle.turn_cell.proofs.Names.{arith, ◌≡◌, ◌^◌, ◌<◌, ℕ, false, List, [], ◌∷◌, Option, refl, sym, ap, ◌∙◌, subst, Me, Part, Idle, after_draw}
use Rattle.std.specs.Prelude.{min}
use Rattle.std.proofs.Math.Nat.{min-le_right}
use Rattle.turn_cell.proofs.OnePart.{one_part, drawn_start, drawn_hit, drawn_miss}
use Rattle.turn_cell.proofs.Keeps.{draws}
use Rattle.turn_cell.proofs.cell.TurnCell.draw.Goals as goal

module _ {O T P Q : Type 0} where
  starts : (m : Me (Option O) (List (Part T P Q))) (q : Part T P Q) (n : ℕ) → m ≡ (q ∷ [], []) → q.stage ≡ Idle → q.shown ≡ n → (p : Part T P Q)
      → m ≡ (p ∷ [], []) → m ≡ (after_draw p n false ∷ [], [])
  starts m q n is idle shown p e = let same = one_part q p (ap (λ (m : Me (Option O) (List (Part T P Q))). m.0) (sym is ∙ e)) in
      e ∙ ap (λ (x : Part T P Q). (x ∷ [], []))
      (drawn_start p n (subst (λ (x : Part T P Q). x.stage ≡ Idle) same idle) (subst (λ (x : Part T P Q). x.shown ≡ n) same shown))

  to : (m : Me (Option O) (List (Part T P Q))) (p q : Part T P Q) → m ≡ (p ∷ [], []) → p ≡ q → m ≡ (q ∷ [], [])
  to m p q e s = e ∙ ap (λ (x : Part T P Q). (x ∷ [], [])) s

low : (found guess : ℕ) → guess ≡ min found 4611686018427387903 → guess < 2 ^ 62
low found guess e = let a = min-le_right found 4611686018427387903 in omega arith

pub loop-init : goal.loop-init
loop-init g c = let w = c.requires.idle in record { own = refl; shown = starts _ w.0 _ w.1 w.2 w.3 }

pub compare_exchange-found-requires : goal.compare_exchange-found-requires
compare_exchange-found-requires g c = let w = c.requires.idle in (
  c.loop.invariant.own ∙ (c.requires.own ∙ sym (ap (λ w. w.id) c.self.view_is)),
  (let n = c.self.invariant.0 in omega arith),
  draws _ _ _ _ _ _ _ _ (after_draw w.0 c.loop.shown false) _ (c.loop.invariant.shown w.0 w.1) refl (low c.peek.result c.min-guess.result c.min-guess.ensures),
)

pub returns-then-found-guess-clause-drawn : goal.returns-then-found-guess-clause-drawn
returns-then-found-guess-clause-drawn g c = (
  low c.peek.result c.min-guess.result c.min-guess.ensures,
  λ p e. to _ _ _
      (c.compare_exchange-found.ensures.2 (after_draw p c.loop.shown false) (c.loop.invariant.shown p e)) (drawn_hit p _ _ c.if-found-guess.true),
)

pub loop-preserved : goal.loop-preserved
loop-preserved g c = record {
  own = c.compare_exchange-found.ensures.0 ∙ c.loop.invariant.own;
  shown = λ p e. to _ _ _ (c.compare_exchange-found.ensures.2 (after_draw p c.loop.shown false) (c.loop.invariant.shown p e))
      (drawn_miss p _ _ c.if-found-guess.false);
}
