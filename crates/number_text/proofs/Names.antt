-- The value that a text names is the one with this name.
use Rattle.std.proofs.Common.{◌≡◌, ◌↔◌, ℕ, ◌<◌, List, [], ◌∷◌, true, Option, Some, None, refl, sym, subst, ◌∙◌, arith, get_or, zero, suc}
use Rattle.std.specs.Prelude.{nat_le}
use Rattle.std.specs.List.{list_all}
use Rattle.std.specs.Str.{IsUtf8}
use Rattle.std.proofs.lemmas.Bool.{and_parts, leb-true}
use Rattle.std.proofs.lemmas.Str.{IsUtf8-from_ascii}
use Rattle.mtapi_values.proofs.NameLemmas.{FindsEach, found_by, known_by_name}

exact_as : {X : Type 0} {name : X → List ℕ} {all : List X} (each : FindsEach name all) (text : List ℕ) (r o : Option X)
    → ((x : X) → (r ≡ Some x) ↔ (text ≡ name x)) → found_by name all text ≡ o → r ≡ o
exact_as each text r (Some x) h e = (h x).1 ((known_by_name each text _ refl x).0 e)
exact_as each text None None h e = refl
exact_as each text (Some x) None h e = absurd (let found = (known_by_name each text _ refl x).1 ((h x).0 refl) in let both = sym e ∙ found in cc)

-- what has these names is what a search finds
pub named_exact : {X : Type 0} {name : X → List ℕ} {all : List X} (each : FindsEach name all) (text : List ℕ) (r : Option X)
    → ((x : X) → (r ≡ Some x) ↔ (text ≡ name x)) → r ≡ found_by name all text
named_exact each text r h = exact_as each text r _ h refl

ascii_at : (text : List ℕ) (i : ℕ) → list_all (λ b. nat_le b 127) text ≡ true → get_or text i 0 < 128
ascii_at [] i h = omega arith
ascii_at (b ∷ bs) zero h = let both = and_parts (nat_le b 127) (list_all (λ b. nat_le b 127) bs) h in let le = leb-true b 127 both.0 in omega arith
ascii_at (b ∷ bs) (suc i) h = ascii_at bs i (and_parts (nat_le b 127) (list_all (λ b. nat_le b 127) bs) h).1

none_as : {X : Type 0} {name : X → List ℕ} {all : List X} (each : FindsEach name all) (text : List ℕ) (o : Option X)
    → ((x : X) → list_all (λ b. nat_le b 127) (name x) ≡ true) → (IsUtf8 text → ⊥) → found_by name all text ≡ o → None ≡ o
none_as {name = name} each text (Some x) plain h e =
    absurd (h (subst IsUtf8 (sym ((known_by_name each text _ refl x).0 e)) (IsUtf8-from_ascii (name x) (λ i. ascii_at (name x) i (plain x)))))
none_as each text None plain h e = refl

-- what is no text has no plain name
pub unnamed_exact : {X : Type 0} {name : X → List ℕ} {all : List X} (each : FindsEach name all) (text : List ℕ)
    → ((x : X) → list_all (λ b. nat_le b 127) (name x) ≡ true) → (IsUtf8 text → ⊥) → None ≡ found_by name all text
unnamed_exact each text plain h = none_as each text _ plain h refl
