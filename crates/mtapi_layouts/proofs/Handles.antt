-- Handles of layout two as the pools have them, and back.
use Rattle.mtapi_layouts.proofs.Names.{◌≡◌, ℕ, ◌+◌, ◌*◌, ◌/◌, ◌%◌, ◌^◌, ◌<◌, ◌≤◌, true, sym, arith, ◌==◌, eqb-true, eq-eqb, ObjectKind, object_number, named_kind, outer, slot_of, generation_of, inward, NamesThisKind, HasKindRoom, nat_tests}

record NamesKind (k : ObjectKind) (h : ℕ) : Type 0 where
  names : (named_kind h == object_number k) ≡ true
  is : h ≡ inward k h + object_number k * 2 ^ 24

names_kind : (k : ObjectKind) (h : ℕ) → NamesThisKind k h → NamesKind k h
names_kind k h some = grind (arith, nat_tests)

-- in the place of the kind it has the number of this kind
pub named-kind : (k : ObjectKind) (h : ℕ) → NamesThisKind k h → (named_kind h == object_number k) ≡ true
named-kind k h some = (names_kind k h some).names

-- 0 names nothing, and stays
pub inward-zero : (k : ObjectKind) → inward k 0 ≡ 0
inward-zero k = grind (arith, nat_tests)

-- no two handles that name the kind become one
pub inward-one : (k : ObjectKind) (a b : ℕ) → NamesThisKind k a → inward k a ≡ inward k b → a ≡ b
inward-one k a b some e = omega (arith, (names_kind k a some).is, (names_kind k b (omega arith)).is, e)

split : (h x n : ℕ) → h ≡ x + n * 2 ^ 24 → h / 2 ^ 24 % 256 ≡ n → (x / 2 ^ 32 ≡ h / 2 ^ 32) × (h % 2 ^ 32 ≡ x % 2 ^ 32 + n * 2 ^ 24)
split h x n e k = (omega arith, omega arith)

-- the generation stays, and the slot goes up by the number of the kind
pub inward-parts : (k : ObjectKind) (h : ℕ) → NamesThisKind k h
    → (generation_of (inward k h) ≡ generation_of h) × (slot_of h ≡ slot_of (inward k h) + object_number k * 2 ^ 24)
inward-parts k h some = let n = names_kind k h some in split h (inward k h) (object_number k) n.is (eqb-true (named_kind h) (object_number k) n.names)

-- a handle that names the kind, turned inwards and outwards again
pub outer-inward : (k : ObjectKind) (h : ℕ) → NamesThisKind k h → outer k (inward k h) ≡ h
outer-inward k h some = sym (names_kind k h some).is

number-small : (k : ObjectKind) → object_number k < 256
number-small k = grind (arith, nat_tests)

names-sum : (h n : ℕ) → h % 2 ^ 32 < 2 ^ 24 → n < 256 → (h + n * 2 ^ 24) / 2 ^ 24 % 256 ≡ n
names-sum h n small few = omega arith

pub outer-names : (k : ObjectKind) (h : ℕ) → HasKindRoom h → (named_kind (outer k h) == object_number k) ≡ true
outer-names k h room = eq-eqb (named_kind (outer k h)) (object_number k) (names-sum h (object_number k) room (number-small k))

-- a pool's handle, turned outwards and inwards again
pub inward-outer : (k : ObjectKind) (h : ℕ) → HasKindRoom h → inward k (outer k h) ≡ h
inward-outer k h room = grind (arith, nat_tests, outer-names k h room)

-- a handle that names the kind leaves room for its number once it is turned inwards
pub inward-room : (k : ObjectKind) (h : ℕ) → NamesThisKind k h → HasKindRoom (inward k h)
inward-room k h some = grind (arith, nat_tests, (names_kind k h some).is, (names_kind k h some).names)

-- a handle that has a generation, and the number of the kind in its place, names the kind
pub names-of : (k : ObjectKind) (h : ℕ) → (named_kind h == object_number k) ≡ true → 1 ≤ generation_of h → NamesThisKind k h
names-of k h e once = grind (arith, nat_tests, number-small k)
