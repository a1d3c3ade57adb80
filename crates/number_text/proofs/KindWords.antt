-- A text is the word of the kind that it names, and of no other.
use Rattle.std.proofs.Common.{◌≡◌, ◌↔◌, ℕ, List, true, Option, Some, None, refl}
use Rattle.std.specs.Prelude.{nat_le}
use Rattle.std.specs.List.{list_all}
use Rattle.std.specs.Str.{IsUtf8}
use Rattle.mtapi_values.specs.declared.kinds.Kind.{Kind}
use Rattle.mtapi_values.specs.declared.kinds.Kind.TheVariants as kind
use Rattle.mtapi_values.specs.Kinds.{kind_word, kind_named}
use Rattle.mtapi_values.proofs.NameLemmas.{known_by_name}
use Rattle.mtapi_values.proofs.ValueTables.{kind_finds_each}
use Rattle.number_text.proofs.Names.{unnamed_exact}

kind_plain : (k : Kind) → list_all (λ b. nat_le b 127) (kind_word k) ≡ true
kind_plain kind.Add = refl
kind_plain _ = refl

-- what is no text is the word of no kind
pub kind_utf8 : (text : List ℕ) → (IsUtf8 text → ⊥) → None ≡ kind_named text
unfolding kind_named
kind_utf8 text h = unnamed_exact kind_finds_each text kind_plain h

-- what a search for a kind finds has the word, and is found by it
pub kind_known : (text : List ℕ) (r : Option Kind) → r ≡ kind_named text → (k : Kind) → (r ≡ Some k) ↔ (text ≡ kind_word k)
unfolding kind_named
kind_known text r e k = known_by_name kind_finds_each text r e k
