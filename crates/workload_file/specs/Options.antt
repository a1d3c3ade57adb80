-- The options of a statement: the words `key=value` behind its name.
use Rattle.std.specs.Prelude.{ℕ, List, [], ◌∷◌, ◌==◌, ◌&&◌, ◌||◌, Bool, false, Option, is_some}
use Rattle.std.specs.List.{find, list_any, before_first, after_first}
use Rattle.std.specs.Option.{option_map}
use Rattle.std.specs.Str.{bytes_eq}
use Rattle.workload_file.specs.declared.table.Key.{Key}
use Rattle.workload_file.specs.declared.table.Field.{Field}
use Rattle.workload_file.specs.Table.{key_text}

-- what stands before the first =
abbrev pub key_of : List ℕ → List ℕ
key_of word = before_first (λ b. b == 61) word

-- what stands behind the first =
abbrev pub value_of : List ℕ → List ℕ
value_of word = after_first (λ b. b == 61) word

-- the option of a statement that a word gives
abbrev pub field_of : List Field → List ℕ → Option Field
field_of fields word = find (λ f. bytes_eq (key_text f.key) (key_of word)) fields

-- a word with = and a key of the statement
abbrev pub is_known : List Field → List ℕ → Bool
is_known fields word = list_any (λ b. b == 61) word && is_some (field_of fields word)

-- the word is this key, = and a value
abbrev pub opens : List ℕ → List ℕ → Bool
opens word key = list_any (λ b. b == 61) word && bytes_eq key (key_of word)

-- two words with one key
unfoldable pub has_twice : List (List ℕ) → Bool
has_twice [] = false
has_twice (word ∷ words) = list_any (λ w. bytes_eq (key_of w) (key_of word)) words || has_twice words

-- a word gives this option
abbrev pub gives_option : Key → List (List ℕ) → Bool
gives_option key words = list_any (λ w. bytes_eq (key_of w) (key_text key)) words

-- the text of an option, where it is given
unfoldable pub text_of : Key → List (List ℕ) → Option (List ℕ)
text_of key words = option_map value_of (find (λ w. bytes_eq (key_of w) (key_text key)) words)
