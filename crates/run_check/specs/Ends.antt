-- How a run ends.
use Rattle.std.specs.Prelude.{◌≡◌, ℕ, ◌<◌, ◌≤◌, List, [], ◌∷◌, ◌++◌}
use Rattle.std.specs.Prelude.{◌⊎◌}
use Rattle.history.specs.Histories.{entry, entries_of}
use Rattle.mtapi_machine.specs.declared.ops.Op.TheVariants as ops
use Rattle.mtapi_machine.specs.declared.replies.Reply.TheVariants as replies
use Rattle.mtapi_machine.specs.Legal.{NodeEntry}

-- main closes by this entry, or has closed before and the entry is no further caller's
abbrev pub StaysClosed : ℕ → Type 0 → NodeEntry → Type 0
StaysClosed main closed e = (e ≡ entry main ops.Close replies.Ok) ⊎ (closed × (e.who ≤ main))

-- main closes in these entries, and no further caller has one behind that
pub record Closes (main : ℕ) (es : List NodeEntry) : Type 0 where
  pub before : List NodeEntry
  pub behind : List NodeEntry
  pub closes : es ≡ before ++ entry main ops.Close replies.Ok ∷ behind
  pub callers_ended : (who : ℕ) → main < who → entries_of who behind ≡ []
