-- Words on lists of entries.
use Rattle.std.specs.Prelude.{◌≡◌, ℕ, ◌==◌, cond, List, [], ◌∷◌, ◌++◌}
use Rattle.history.specs.declared.entries.Entry.{Entry}

-- the first list begins with the second one
abbrev pub StartsWith : {A : Type 0} → List A → List A → Type 0
StartsWith {A} xs ys = (more : List A) × (xs ≡ ys ++ more)

module _ {Op Reply : Type 0} where
  -- the seat `who` asked this and was answered that
  abbrev pub entry : ℕ → Op → Reply → Entry Op Reply
  entry who op reply = record { who = who; op = op; reply = reply }

  -- the entries that the seat `who` made, in their order
  abbrev pub entries_of : ℕ → List (Entry Op Reply) → List (Entry Op Reply)
  entries_of who [] = []
  entries_of who (e ∷ l) = cond (e.who == who) (e ∷ entries_of who l) (entries_of who l)

  -- the later list is the earlier one, then what others added, and then this entry at its end
  abbrev pub Extends : List (Entry Op Reply) → Entry Op Reply → List (Entry Op Reply) → Type 0
  Extends before e after = (between : List (Entry Op Reply)) × (after ≡ (before ++ between) ++ e ∷ [])
