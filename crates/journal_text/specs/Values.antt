-- The values of fields as words, and the values that words may be. Reading takes more than is written: what was read is written
-- again and compared, so that each value has one spelling.
use Rattle.std.specs.Prelude.{ℕ, ℤ, Bool, List, [], ◌∷◌, ◌++◌, codes, Option, Some, None, option_map, if◌then◌else◌}
use Rattle.std.specs.{List.find, List.flat_map, Str.bytes_eq, Fmt.decimal, Fmt.signed_decimal}
use Rattle.mtapi_values.specs.{declared.handles.Layout.Layout, declared.statuses.MtapiStatus.MtapiStatus}
use Rattle.mtapi_values.specs.{declared.statuses.MrapiStatus.MrapiStatus, declared.ends.TaskEnd.TaskEnd, Kinds.kind_word, Kinds.kind_named}
use Rattle.mtapi_values.specs.Statuses.{mtapi_name, mrapi_name, mtapi_all, mrapi_all}
use Rattle.number_text.specs.Lists.{list_of, list_text, ◌>>=◌}
use Rattle.number_text.specs.Numbers.{number, number_within, whole_number}
use Rattle.journal_text.specs.{declared.values.Status.Status, declared.values.Shape.Shape, declared.values.Value.Value}
use Rattle.journal_text.specs.Handles.{handle_text, handle_of_word}

-- ---- written

-- 1 for yes and 0 for no
abbrev pub flag_text : Bool → List ℕ
flag_text b = if b then codes "1" else codes "0"

-- numbers with commas, and - where there is none
abbrev pub args_text : List ℤ → List ℕ
args_text [] = codes "-"
args_text (z ∷ zs) = list_text (z ∷ zs)

-- a handle, and - where there is none
abbrev pub group_text : Layout → Option ℕ → List ℕ
group_text layout None = codes "-"
group_text layout (Some h) = handle_text layout h

-- how a task ended
abbrev pub end_words : TaskEnd → List (List ℕ)
end_words (TaskEnd.Completed zs) = codes "completed" ∷ args_text zs ∷ []
end_words TaskEnd.Cancelled = codes "cancelled" ∷ []
end_words (TaskEnd.Failed s) = codes "error" ∷ mtapi_name s ∷ []

-- the name of a status
abbrev pub status_name : Status → List ℕ
status_name (Status.Mtapi s) = mtapi_name s
status_name (Status.Mrapi s) = mrapi_name s

-- a value as one word, or an end as one or two
unfoldable pub value_words : Layout → Value → List (List ℕ)
value_words layout (Value.Number n) = decimal n ∷ []
value_words layout (Value.Whole z) = signed_decimal z ∷ []
value_words layout (Value.Flag b) = flag_text b ∷ []
value_words layout (Value.Kind k) = kind_word k ∷ []
value_words layout (Value.Cores mask) = decimal mask.0 ∷ []
value_words layout (Value.Args zs) = args_text zs ∷ []
value_words layout (Value.Handle h) = handle_text layout h ∷ []
value_words layout (Value.Group group) = group_text layout group ∷ []
value_words layout (Value.End e) = end_words e
value_words layout (Value.Status s) = status_name s ∷ []

-- the words of values, one after the other
abbrev pub values_words : Layout → List Value → List (List ℕ)
values_words layout values = flat_map (value_words layout) values

-- ---- read

-- the status of MTAPI that a word names
unfoldable pub mtapi_of : List ℕ → Option MtapiStatus
mtapi_of text = find (λ s. bytes_eq (mtapi_name s) text) mtapi_all

-- the status of MRAPI that a word names
unfoldable pub mrapi_of : List ℕ → Option MrapiStatus
mrapi_of text = find (λ s. bytes_eq (mrapi_name s) text) mrapi_all

-- the status that a word names
abbrev pub status_from : Option MtapiStatus → Option MrapiStatus → Option Status
status_from (Some s) other = Some (Status.Mtapi s)
status_from None other = option_map Status.Mrapi other

unfoldable pub status_of_word : List ℕ → Option Status
status_of_word text = status_from (mtapi_of text) (mrapi_of text)

-- the list that a word may be
unfoldable pub args_of : List ℕ → Option (List ℤ)
args_of text = if bytes_eq text (codes "-") then Some [] else list_of text

-- the handle that a word may be, or none
unfoldable pub group_of : List ℕ → Option (Option ℕ)
group_of text = if bytes_eq text (codes "-") then Some None else option_map Some (handle_of_word text)

-- a value, and the words behind it
abbrev pub Found : Type 0 → Type 0
Found A = Option (A × List (List ℕ))

-- the value that one word was
abbrev pub one : {A B : Type 0} → (A → B) → List (List ℕ) → Option A → Found B
one f ws None = None
one f ws (Some a) = Some (f a, ws)

-- what stands behind the first word of an end
unfoldable pub completed_of : List (List ℕ) → Found TaskEnd
completed_of [] = None
completed_of (w ∷ ws) = one TaskEnd.Completed ws (args_of w)

unfoldable pub failed_of : List (List ℕ) → Found TaskEnd
failed_of [] = None
failed_of (w ∷ ws) = one TaskEnd.Failed ws (mtapi_of w)

-- the end that words may be
unfoldable pub end_of_words : List ℕ → List (List ℕ) → Found TaskEnd
end_of_words w ws =
    if bytes_eq w (codes "completed") then completed_of ws
    else (if bytes_eq w (codes "error") then failed_of ws
    else Some (TaskEnd.Cancelled, ws))

-- an end as a value
abbrev pub end_value : Found TaskEnd → Found Value
end_value None = None
end_value (Some x) = Some (Value.End x.0, x.1)

-- the value of this shape that one word may be
unfoldable pub word_value : Shape → List ℕ → Option Value
word_value Shape.Number w = option_map Value.Number (number_within 0 4294967295 w)
word_value Shape.Whole w = option_map Value.Whole (whole_number w)
word_value Shape.Flag w = Some (Value.Flag (bytes_eq w (codes "1")))
word_value Shape.Kind w = option_map Value.Kind (kind_named w)
word_value Shape.Cores w = option_map (λ n. Value.Cores (record { 0 = n })) (number w)
word_value Shape.Args w = option_map Value.Args (args_of w)
word_value Shape.Handle w = option_map Value.Handle (handle_of_word w)
word_value Shape.Group w = option_map Value.Group (group_of w)
word_value Shape.End w = None
word_value Shape.Status w = option_map Value.Status (status_of_word w)

-- the value of this shape that words may begin with
abbrev pub value_from : Shape → List ℕ → List (List ℕ) → Found Value
value_from Shape.End w ws = end_value (end_of_words w ws)
value_from s w ws = one (λ v. v) ws (word_value s w)

unfoldable pub value_of_words : Shape → List (List ℕ) → Found Value
value_of_words s [] = None
value_of_words s (w ∷ ws) = value_from s w ws

-- values of these shapes, behind those in front
unfoldable pub values_onto : List Value → List Shape → List (List ℕ) → Found (List Value)
values_onto prefix [] ws = Some (prefix, ws)
values_onto prefix (s ∷ ss) ws = value_of_words s ws >>= λ x. values_onto (prefix ++ x.0 ∷ []) ss x.1
