-- Lists of numbers as texts, and texts that are cut at a byte.
use Rattle.std.specs.Prelude.{ℕ, ℤ, ◌==◌, nat_le, List, [], ◌∷◌, ◌++◌, length, map, Option, Some, None, if◌then◌else◌}
use Rattle.std.specs.List.{slice_split, join_with_byte}
use Rattle.std.specs.Fmt.{signed_decimal}
use denote.Ref.{Bor}
use Rattle.number_text.specs.Numbers.{whole_number}

-- the texts between such bytes
abbrev pub between : ℕ → List ℕ → List (List ℕ)
between byte text = slice_split (λ b. b == byte) text

-- the pieces of a rest
abbrev pub pieces_of : ℕ → Option (Bor (List ℕ)) → List (List ℕ)
pieces_of byte None = []
pieces_of byte (Some rest) = between byte rest.now

-- goes on with the value, where there is one
infixl 10 ◌>>=◌
abbrev pub ◌>>=◌ : {A B : Type 0} → Option A → (A → Option B) → Option B
None >>= f = None
(Some x) >>= f = f x

-- each text is a number of i64
unfoldable pub wholes : List (List ℕ) → Option (List ℤ)
wholes [] = Some []
wholes (text ∷ texts) = do
  z ← whole_number text
  zs ← wholes texts
  Some (z ∷ zs)

-- 1 to 16 numbers with commas
unfoldable pub list_of : List ℕ → Option (List ℤ)
list_of text = if nat_le (length (between 44 text)) 16 then wholes (between 44 text) else None

-- texts with commas between them
abbrev pub with_commas : List (List ℕ) → List ℕ
with_commas texts = join_with_byte 44 texts

-- numbers with commas
abbrev pub list_text : List ℤ → List ℕ
list_text zs = with_commas (map signed_decimal zs)

-- each text behind this byte
abbrev pub led : ℕ → List (List ℕ) → List ℕ
led byte [] = []
led byte (text ∷ texts) = byte ∷ (text ++ led byte texts)
