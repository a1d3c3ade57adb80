-- Handles: none is used again, and in layout two none names objects of two kinds.
use Rattle.std.specs.Prelude.{◌≡◌, ℕ, ◌≤◌, true, false, ◌==◌, List, ◌++◌}
use Rattle.history_law.specs.Names.{ObjectKind, Two, Terms, NodeEntry, after}
use Rattle.mtapi_values.specs.declared.handles.Layout.{Layout}
use Rattle.mtapi_values.specs.Layouts.{object_number}
use Rattle.history_law.specs.Words.{some_entry, times, is_live_object, issues}

-- what holds of a handle after entries that came behind its end: it isn't live, and none of them issued it
pub record StaysGone (terms : Terms) (before N : List NodeEntry) (k : ObjectKind) (h : ℕ) : Type 0 where
  pub dead : is_live_object k h (after terms (before ++ N)) ≡ false
  pub none : some_entry (issues k h) N ≡ false

-- a handle that was live after P, and isn't any more after the entries M, stays gone over all entries N that follow
abbrev pub NeverAgain : Terms → List NodeEntry → ObjectKind → ℕ → Type 0
NeverAgain terms es k h =
    (P M N R : List NodeEntry) → es ≡ (P ++ M) ++ (N ++ R) → is_live_object k h (after terms P) ≡ true → is_live_object k h (after terms (P ++ M)) ≡ false
    → StaysGone terms (P ++ M) N k h

-- in layout two no handle was issued to an object of the one kind and to one of the other: neither do the lists of the state have it in
-- both, nor did entries issue it to both
pub record NamesOneKind (terms : Terms) (es : List NodeEntry) (a b : ObjectKind) (h : ℕ) : Type 0 where
  pub lists : 1 ≤ times a h (after terms es) → 1 ≤ times b h (after terms es) → ⊥
  pub entries : some_entry (issues a h) es ≡ true → some_entry (issues b h) es ≡ true → ⊥

abbrev pub NotInBoth : Layout → Terms → List NodeEntry → ObjectKind → ObjectKind → ℕ → Type 0
NotInBoth layout terms es a b h = layout ≡ Two → (object_number a == object_number b) ≡ false → NamesOneKind terms es a b h
