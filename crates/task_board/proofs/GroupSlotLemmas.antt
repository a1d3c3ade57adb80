-- Members don't show in the slots of the groups.
use Rattle.task_board.proofs.Names.{◌≡◌, ℕ, Option, Some, None, refl, ap, ◌∙◌, option_map, Slots, slot_value, put, changed, new_group, Members, LiveAreUsed, without_members}
use Rattle.task_board.proofs.MappedLemmas.{mapped-same}

pub members-unseen : (p : Slots Members) (g : ℕ) (f : Members → Members) → LiveAreUsed p → without_members (changed p g f) ≡ without_members p
members-unseen p g f used = by_found (slot_value p g) refl
  where
    by_found : (o : Option Members) → slot_value p g ≡ o → without_members (changed p g f) ≡ without_members p
    by_found None e = ap (λ (o : Option Members). without_members (put p g (option_map f o))) e
    by_found (Some m) e = ap (λ (o : Option Members). without_members (put p g (option_map f o))) e ∙ mapped-same new_group p g m (used g m e) (f m)
