-- The text of a journal behind a handle, and its pieces.
use Rattle.std.specs.Prelude.{◌≡◌, ℕ, false, true, List, [], ◌++◌, length, take, drop, Option, Some, None, Result, Ok, Err}
use Rattle.std.specs.Global.{Vec}
use Rattle.std.specs.declared.alloc.AllocError.{AllocError}
use Rattle.node_journals.specs.declared.entries.Journal.{Journal}
use Rattle.journal_text.specs.Journals.{journal_text}
use Rattle.node_handle.specs.declared.counted.CountedNode.{CountedNode}
use Rattle.node_handle.specs.declared.held.Held.TheVariants.{Text}
use Rattle.node_handle.specs.declared.handle.NodeHandle.{NodeHandle}
use Rattle.node_handle.specs.declared.journals.JournalEnd.{JournalEnd}
use Rattle.node_handle.specs.declared.journals.JournalEnd.TheVariants as ended
use Rattle.node_handle.specs.Turns.{IsJournalOf, terms_counted}

-- the bytes are the text of the node's journal
pub record IsTextOf (n : CountedNode) (bytes : List ℕ) : Type 0 where
  pub journal : Journal
  pub is_journal : IsJournalOf n journal
  pub text : bytes ≡ journal_text journal

-- the text of the journal is given where one is kept, unless memory is short
abbrev pub TextGiven : CountedNode → Result (Option (Vec ℕ)) AllocError → Type 0
TextGiven n (Ok (Some text)) = ((terms_counted n).keeps ≡ true) × IsTextOf n text.items
TextGiven n (Ok None) = (terms_counted n).keeps ≡ false
TextGiven n (Err e) = (terms_counted n).keeps ≡ true

-- the calls of a node end so, with this text: that of its journal, or an empty one
abbrev pub EndsWith : CountedNode → Vec ℕ → JournalEnd → Type 0
EndsWith n text (ended.Text long) = ((terms_counted n).keeps ≡ true) × IsTextOf n text.items × (long ≡ length text.items)
EndsWith n text ended.NoJournal = ((terms_counted n).keeps ≡ false) × (text.items ≡ [])
EndsWith n text ended.Memory = ((terms_counted n).keeps ≡ true) × (text.items ≡ [])

-- the handle holds this text
pub record HoldsText (h : NodeHandle) (bytes : List ℕ) : Type 0 where
  pub text : Vec ℕ
  pub holds : h.held ≡ Some (Text text)
  pub same : text.items ≡ bytes

-- the calls of a node have ended so, and the handle holds the text
pub record HasEndedAs (n : CountedNode) (end : JournalEnd) (new : NodeHandle) : Type 0 where
  pub text : Vec ℕ
  pub holds : new.held ≡ Some (Text text)
  pub ends : EndsWith n text end

-- the bytes from this place on, so many at most
abbrev pub piece : List ℕ → ℕ → ℕ → List ℕ
piece bytes from room = take room (drop from bytes)

-- the items, and behind them what stood there
abbrev pub written_over : {A : Type 0} → List A → List A → List A
written_over items old = items ++ drop (length items) old
