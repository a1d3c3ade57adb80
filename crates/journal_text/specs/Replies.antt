-- The replies as words: the word of each reply, the shapes of its fields in order, and their values.
use Rattle.std.specs.Prelude.{ℕ, List, [], ◌∷◌, codes, Option, Some, None}
use Rattle.std.specs.{List.find, Str.bytes_eq}
use Rattle.mtapi_machine.specs.declared.replies.Reply.{Reply}
use Rattle.journal_text.specs.{declared.reply_words.ReplyWord.ReplyWord, declared.values.Status.Status, declared.values.Shape.Shape}
use Rattle.journal_text.specs.{declared.values.Value.Value, declared.reply_words.TheConstants.REPLY_WORDS}

-- the word of a reply, and the shapes of its fields
unfoldable pub reply_row : ReplyWord → List ℕ × List Shape
reply_row ReplyWord.Ok = (codes "ok", [])
reply_row ReplyWord.Handle = (codes "handle", Shape.Handle ∷ [])
reply_row ReplyWord.Number = (codes "number", Shape.Whole ∷ [])
reply_row ReplyWord.Ended = (codes "ended", Shape.End ∷ [])
reply_row ReplyWord.Given = (codes "given", Shape.Handle ∷ Shape.End ∷ [])
reply_row ReplyWord.Pending = (codes "pending", [])
reply_row ReplyWord.Picked = (codes "picked", Shape.Handle ∷ Shape.Handle ∷ Shape.Kind ∷ Shape.Args ∷ [])
reply_row ReplyWord.Idle = (codes "idle", [])
reply_row ReplyWord.Stop = (codes "stop", [])
reply_row ReplyWord.Asked = (codes "asked", Shape.Flag ∷ [])
reply_row ReplyWord.Status = (codes "status", Shape.Status ∷ [])

-- the reply that a text names
unfoldable pub reply_word_of : List ℕ → Option ReplyWord
reply_word_of text = find (λ w. bytes_eq (reply_row w).0 text) REPLY_WORDS

-- a reply's word, and the values of its fields
unfoldable pub reply_spelled : Reply → ReplyWord × List Value
reply_spelled Reply.Ok = (ReplyWord.Ok, [])
reply_spelled (Reply.Handle h) = (ReplyWord.Handle, Value.Handle h ∷ [])
reply_spelled (Reply.Number z) = (ReplyWord.Number, Value.Whole z ∷ [])
reply_spelled (Reply.Ended e) = (ReplyWord.Ended, Value.End e ∷ [])
reply_spelled (Reply.Given task e) = (ReplyWord.Given, Value.Handle task.0 ∷ Value.End e ∷ [])
reply_spelled Reply.Pending = (ReplyWord.Pending, [])
reply_spelled (Reply.Picked task action kind args) = (ReplyWord.Picked, Value.Handle task.0 ∷ Value.Handle action.0 ∷ Value.Kind kind ∷ Value.Args args ∷ [])
reply_spelled Reply.Idle = (ReplyWord.Idle, [])
reply_spelled Reply.Stop = (ReplyWord.Stop, [])
reply_spelled (Reply.Asked b) = (ReplyWord.Asked, Value.Flag b ∷ [])
reply_spelled (Reply.Mtapi s) = (ReplyWord.Status, Value.Status (Status.Mtapi s) ∷ [])
reply_spelled (Reply.Mrapi s) = (ReplyWord.Status, Value.Status (Status.Mrapi s) ∷ [])

-- a status as a reply
abbrev pub status_reply : Status → Reply
status_reply (Status.Mtapi s) = Reply.Mtapi s
status_reply (Status.Mrapi s) = Reply.Mrapi s

-- the reply of a word with these values
unfoldable pub reply_of : ReplyWord → List Value → Option Reply
reply_of ReplyWord.Ok [] = Some Reply.Ok
reply_of ReplyWord.Handle (Value.Handle h ∷ []) = Some (Reply.Handle h)
reply_of ReplyWord.Number (Value.Whole z ∷ []) = Some (Reply.Number z)
reply_of ReplyWord.Ended (Value.End e ∷ []) = Some (Reply.Ended e)
reply_of ReplyWord.Given (Value.Handle task ∷ Value.End e ∷ []) = Some (Reply.Given (record { 0 = task }) e)
reply_of ReplyWord.Pending [] = Some Reply.Pending
reply_of ReplyWord.Picked (Value.Handle task ∷ Value.Handle action ∷ Value.Kind kind ∷ Value.Args args ∷ []) =
    Some (Reply.Picked (record { 0 = task }) (record { 0 = action }) kind args)
reply_of ReplyWord.Idle [] = Some Reply.Idle
reply_of ReplyWord.Stop [] = Some Reply.Stop
reply_of ReplyWord.Asked (Value.Flag b ∷ []) = Some (Reply.Asked b)
reply_of ReplyWord.Status (Value.Status s ∷ []) = Some (status_reply s)
reply_of _ _ = None
