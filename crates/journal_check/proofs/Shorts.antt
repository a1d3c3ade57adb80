-- The entry that stands at a place of a list in little room.
use Rattle.std.proofs.Common.{◌≡◌, ℕ, ◌<◌, List, length, get_or, map, ◌∙◌, sym, ap, subst, arith}
use Rattle.std.proofs.lemmas.List.{get_or-map, length-map}
use Rattle.journal_check.proofs.Names.{NodeEntry}
use Rattle.node_journals.specs.Shorts.{entry_of}
use Rattle.node_journals.specs.declared.shorts.ShortEntry.{ShortEntry}

pub full_room : (xs : List ShortEntry) (i : ℕ) → i < length xs → i < length (map entry_of xs)
full_room xs i room = omega (arith, length-map xs entry_of)

pub full_at : (xs : List ShortEntry) (i : ℕ) (x : ShortEntry) (e : NodeEntry) → i < length xs → x ≡ get_or xs i x → e ≡ entry_of x
    → e ≡ get_or (map entry_of xs) i e
full_at xs i x e room at is =
    subst (λ (y : NodeEntry). y ≡ get_or (map entry_of xs) i y) (sym is) (ap entry_of at ∙ sym (get_or-map entry_of xs i x (entry_of x) room))

pub few_in_full : (xs : List ShortEntry) → length xs < 4294967295 → length (map entry_of xs) < 4294967295
few_in_full xs few = omega (arith, length-map xs entry_of)
