use Rattle.node_resources.proofs.Names.{◌≡◌, ℕ, ◌≤◌, [], replicate, sym, ◌∙◌, ap, arith, Slots, free_slot, Holds}
use Rattle.mtapi_values.specs.Attributes.{NodeSettings}
use Rattle.node_resources.proofs.HoldsLemmas.{holds_new}
use Rattle.node_resources.proofs.Resources.init.Goals as goal

fresh : {T : Type 0} (p : Slots T) (size turns max generations : ℕ) → size ≡ max → turns ≡ generations → 1 ≤ generations → max ≤ 256
    → p.generations ≡ generations → p.slots ≡ replicate max (free_slot 1) → Holds size turns p []
fresh p size turns max generations m g once few a b =
    holds_new size turns p (omega (arith, g, once)) (omega (arith, m, few)) (a ∙ sym g) (b ∙ ap (λ n. replicate n (free_slot 1)) (sym m))

pub returns : goal.returns
returns c t e =
    let m = ap (λ (n : NodeSettings). n.objects) e ∙ sym c.objects-max.ensures.value in
    let g = ap (λ (n : NodeSettings). n.generations) e ∙ sym c.generations-generations.ensures.value in
    let once = c.generations-generations.ensures.range.0 in
    let few = c.objects-max.ensures.range.1 in
    record {
      mutexes = fresh c.in_ok-new.field-0 t.settings.objects t.settings.generations _ _ m g once few c.in_ok-new.ensures.generations c.in_ok-new.ensures.slots;
      sems = fresh c.in_ok-new-2.field-0 t.settings.objects t.settings.generations _ _ m g once few c.in_ok-new-2.ensures.generations
          c.in_ok-new-2.ensures.slots;
      rwls = fresh c.in_ok-new-3.field-0 t.settings.objects t.settings.generations _ _ m g once few c.in_ok-new-3.ensures.generations
          c.in_ok-new-3.ensures.slots;
      segments = fresh c.in_ok-new-4.field-0 t.settings.objects t.settings.generations _ _ m g once few c.in_ok-new-4.ensures.generations
          c.in_ok-new-4.ensures.slots;
    }
