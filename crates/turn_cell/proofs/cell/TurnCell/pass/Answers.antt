use Rattle.turn_cell.proofs.Names.{arith, sym, ap, ◌≡◌, [], ◌∷◌, Option, None, Some, ◌∙◌, Me, rest}
use Rattle.std.specs.Box.{box_value}
use Rattle.turn_cell.proofs.Keeps.{passes}
use Rattle.turn_cell.proofs.cell.TurnCell.pass.Goals as goal

put : {O V : Type 0} (m m' : Me (Option O) V) (v : V) (x y : Option O) → m ≡ (v, (0, x) ∷ []) → m' ≡ (m.0, (0, y) ∷ rest m.1) → m' ≡ (v, (0, y) ∷ [])
put {O} {V} m m' v x y was now = now ∙ ap (λ (m : Me (Option O) V). (m.0, (0, y) ∷ rest m.1)) was

pub fetch_add-requires : goal.fetch_add-requires
fetch_add-requires g c = let h = c.requires.holds in (
  c.exchange-none.ensures.0 ∙ (c.requires.own ∙ sym (ap (λ w. w.id) c.self.view_is)),
  (let n = c.self.invariant.0 in omega arith),
  passes _ _ _ _ _ _ _ h.0 h.1 h.2 c.args.reply.now c.args.object g.B.GhostArgument.argument g.C.GhostArgument.argument _
      (λ b. g.met.O.Object.stands_legal (box_value b)) h.7 h.8 h.4 h.5 h.6 (put _ _ _ None (Some c.args.object) h.3 c.exchange-none.ensures.3),
)
