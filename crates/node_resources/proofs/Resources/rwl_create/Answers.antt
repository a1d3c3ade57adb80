use Rattle.node_resources.proofs.Names.{refl, sym, ◌∙◌, subst, ErrRwlExists, ErrRwlLimit, new_rwl, rwl_create_refusals, keyed_rwls, Rwls, ResourceTable, ResourcesStand, the_view}
use Rattle.mtapi_machine.specs.declared.ops.Op.TheVariants as op
use Rattle.node_resources.proofs.KindSteps.{kind_does}
use Rattle.node_resources.proofs.RowLemmas.{as_was, past, past_open, creates_does, refuses_within}
use Rattle.node_resources.proofs.Resources.rwl_create.Goals as goal
use Rattle.node_resources.proofs.Resources.rwl_create.Goals.{in-Ok, in-Err}

pub returns : goal.returns
returns c s a v =
    let t = subst (λ (t : ResourceTable). ResourcesStand s t) (sym c.self.view_is) v in
    let p = c.self.inside.rwls in
    let x = new_rwl c.args.id c.args.limit in
    let g = sym c.in_default.is ∙ c.open_refusal.ensures in
    elim c.match-create.branch [
      | in-Ok w ↦
          kind_does Rwls tt s c.args.who (op.RwlCreate c.args.id c.args.limit) _ (the_view c.self.inside) t c.match-create.result c.create.new.self w.result-is
          (past_open Rwls s c.args.gate c.args.who a _ _ _ g
          (past Rwls s (rwl_create_refusals c.args.limit) _ _ _ w.in-Ok.ensures.in_range
          (creates_does Rwls s keyed_rwls p t.rwls x c.args.id w.in-Ok.rwl.0 c.create.new.self refl w.in-Ok.ensures.new_id w.in-Ok.ensures.room
          w.in-Ok.ensures.made a.layout)))
      | in-Err w ↦
          kind_does Rwls tt s c.args.who (op.RwlCreate c.args.id c.args.limit) _ (the_view c.self.inside) t c.match-create.result c.create.new.self w.result-is
          (past_open Rwls s c.args.gate c.args.who a _ _ _ g
          (as_was Rwls s _ _ p c.create.new.self w.in-Err.ensures.unchanged
          (refuses_within Rwls s keyed_rwls p t.rwls
          (rwl_create_refusals c.args.limit) ErrRwlExists ErrRwlLimit refl refl x c.args.id w.in-Err.status refl w.in-Err.ensures.refused)))
    ]
