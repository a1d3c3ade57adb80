-- The lines of entries.
use Rattle.std.specs.Prelude.{ℕ, ◌+◌, ◌-◌, ◌==◌, ◌&&◌, not, nat_lt, Bool, true, false, List, [], ◌∷◌, ◌++◌, codes, drop, Option, Some, None, if◌then◌else◌}
use Rattle.std.specs.{List.join_with_byte, Str.bytes_eq, Fmt.decimal}
use Rattle.mtapi_values.specs.{declared.kinds.Kind.Kind, declared.handles.Layout.Layout}
use Rattle.mtapi_machine.specs.{Legal.NodeEntry, declared.ops.Op.Op, declared.replies.Reply.Reply}
use Rattle.number_text.specs.Lists.{between, ◌>>=◌}
use Rattle.number_text.specs.Numbers.{number, number_within}
use Rattle.journal_text.specs.{Replies.reply_row, Replies.reply_spelled, Replies.reply_word_of, Replies.reply_of, declared.heads.Head.Head}
use Rattle.journal_text.specs.{Values.values_words, Values.values_onto, Values.Found, Ops.op_row, Ops.op_spelled, Ops.op_word_of, Ops.op_of}

-- ---- written

-- a worker by w and its number, a caller by c and its number behind the workers
abbrev pub seat_text : ℕ → ℕ → List ℕ
seat_text workers who = if nat_lt who workers then 119 ∷ decimal who else 99 ∷ decimal (who - workers)

-- an op's word and those of its fields
abbrev pub op_texts : Layout → Op → List (List ℕ)
op_texts layout o = (op_row (op_spelled o).0).0 ∷ values_words layout (op_spelled o).1

-- a reply's word and those of its fields
abbrev pub reply_texts : Layout → Reply → List (List ℕ)
reply_texts layout r = (reply_row (reply_spelled r).0).0 ∷ values_words layout (reply_spelled r).1

-- how many entries of the seat were left out, where some were
abbrev pub skipped_texts : ℕ → List (List ℕ)
skipped_texts n = if nat_lt 0 n then codes "after" ∷ decimal n ∷ [] else []

-- the words of an entry behind its seat
abbrev pub entry_texts : Layout → NodeEntry → ℕ → List (List ℕ)
entry_texts layout e n = op_texts layout e.op ++ codes "->" ∷ (reply_texts layout e.reply ++ skipped_texts n)

-- the line of an entry: words with single spaces between them
unfoldable pub entry_text : Head → NodeEntry → ℕ → List ℕ
entry_text head e n = join_with_byte 32 (seat_text head.settings.workers e.who ∷ entry_texts head.layout e n)

-- ---- read

-- the seat that a word may be: a number behind a letter
unfoldable pub seat_of : Head → List ℕ → Option ℕ
seat_of head [] = None
seat_of head (b ∷ bs) = do
  n ← number_within 0 255 bs
  Some (if b == 119 then n else head.settings.workers + n)

-- the op that words may begin with
unfoldable pub op_from : List (List ℕ) → Found Op
op_from [] = None
op_from (w ∷ ws) = do
  word ← op_word_of w
  values ← values_onto [] (op_row word).1 ws
  o ← op_of word values.0
  Some (o, values.1)

-- the reply that words may begin with
unfoldable pub reply_from : List (List ℕ) → Found Reply
reply_from [] = None
reply_from (w ∷ ws) = do
  word ← reply_word_of w
  values ← values_onto [] (reply_row word).1 ws
  r ← reply_of word values.0
  Some (r, values.1)

-- the number behind a reply
unfoldable pub skipped_from : List (List ℕ) → Option ℕ
skipped_from [] = Some 0
skipped_from (w ∷ []) = None
skipped_from (w ∷ n ∷ ws) = number n

-- the entry of a seat that words may be, and its number
unfoldable pub entry_by : ℕ → List (List ℕ) → Option (NodeEntry × ℕ)
entry_by who ws = do
  o ← op_from ws
  r ← reply_from (drop 1 o.1)
  n ← skipped_from r.1
  Some (record { who = who; op = o.0; reply = r.0 }, n)

-- the same, with the seat before it
unfoldable pub entry_from : Head → List (List ℕ) → Option (NodeEntry × ℕ)
entry_from head [] = None
entry_from head (w ∷ ws) = seat_of head w >>= λ who. entry_by who ws

-- text 1 has no word and no kind of a tally
abbrev pub is_tally_op : Op → Bool
is_tally_op (Op.TallyLock task) = true
is_tally_op (Op.TallyRead task) = true
is_tally_op (Op.TallyWrite task value) = true
is_tally_op (Op.TallyEnd task) = true
is_tally_op (Op.ActionCreate job Kind.Tally cores) = true
is_tally_op _ = false

abbrev pub is_tally_reply : Reply → Bool
is_tally_reply (Reply.Picked task action Kind.Tally args) = true
is_tally_reply _ = false

-- the text of this layout has the entry's words, and there is its seat
abbrev pub has_words : Layout → NodeEntry → Bool
has_words Layout.One e = not (is_tally_op e.op) && not (is_tally_reply e.reply)
has_words Layout.Two e = true

abbrev pub is_seated : Head → NodeEntry → Bool
is_seated head e = nat_lt e.who (head.settings.workers + head.callers)

-- the entry whose line this is, and its number
abbrev pub if_spelled : Head → List ℕ → NodeEntry × ℕ → Option (NodeEntry × ℕ)
if_spelled head line x = if has_words head.layout x.0 && is_seated head x.0 && bytes_eq (entry_text head x.0 x.1) line then Some x else None

unfoldable pub entry_of_line : Head → List ℕ → Option (NodeEntry × ℕ)
entry_of_line head line = entry_from head (between 32 line) >>= if_spelled head line
