-- Entries in the order of their ids, after an insert and a removal, and what a search finds among them.
use Rattle.std.proofs.Common.{◌≡◌, ◌≢◌, ◌⊎◌, inl, inr, ℕ, ◌+◌, ◌-◌, ◌<◌, ◌≤◌, List, length, Result, Ok, Err, sym, ap, ◌∙◌, arith}
use Rattle.std.specs.List.{Contains, insert, remove}
use Rattle.std.specs.List.Sorted.{IsSearchInRange, IsBinarySearchResult, IsNonDecreasingBy}
use Rattle.std.specs.Ordering.{nat_cmp, ordering_index}
use Rattle.std.specs.Prelude.{slice_index_or}
use Rattle.std.proofs.lemmas.Bool.{cases_eq, cases_lt}
use Rattle.std.proofs.lemmas.Bool.Decides.{nat_tests}
use Rattle.std.proofs.lemmas.Cmp.{ranked}
use Rattle.std.proofs.lemmas.List.Edits.{length-insert, get_or-insert_below, get_or-insert_at, get_or-insert_above, length-remove, get_or-remove_below, get_or-remove_above}
use Rattle.keyed_pool.specs.Index.{AreRising, Locates}
use Rattle.keyed_pool.specs.declared.IndexEntry.{IndexEntry}

module _ (xs : List IndexEntry) (rising : AreRising xs) where
  -- two places with one id are one place
  pub same_place : (a b : ℕ) (d : IndexEntry) → a < length xs → b < length xs → (slice_index_or xs a d).id ≡ (slice_index_or xs b d).id → a ≡ b
  same_place a b d within too same = grind (arith, nat_tests)

  comparisons_rise : (id : ℕ) → IsNonDecreasingBy (λ (e : IndexEntry). ordering_index (nat_cmp e.id id)) xs
  comparisons_rise id i j d order within = grind (arith, nat_tests)

-- what a binary search by the id finds
pub searched : (xs : List IndexEntry) (id : ℕ) (r : Result ℕ ℕ) → IsSearchInRange r (length xs)
    → IsBinarySearchResult (λ (e : IndexEntry). nat_cmp e.id id) xs r → Locates xs id r
searched xs id (Ok place) within equal = (within, λ d. ranked _ id _ (sym (equal d)))
searched xs id (Err place) within parted = (
  within,
  λ rising. (
    λ k d below. ranked _ id _ (sym ((parted (comparisons_rise xs rising id)).0 k d (omega arith) below)),
    λ k d above inside. ranked _ id _ (sym ((parted (comparisons_rise xs rising id)).1 k d above inside)),
  ),
)

module _ (xs : List IndexEntry) (place : ℕ) (y : IndexEntry) (within : place ≤ length xs) where
  pub contains-new : Contains (insert xs place y) y
  contains-new = (place, omega (arith, length-insert xs place y within), get_or-insert_at xs place y y within)

  pub contains-old : (x : IndexEntry) → Contains xs x → Contains (insert xs place y) x
  contains-old x there =
      elim (cases_lt there.0 place) [
        | inl below ↦ (there.0, omega (arith, there.1, length-insert xs place y within), get_or-insert_below xs place y x there.0 below within ∙ there.2)
        | inr above ↦ (there.0 + 1, omega (arith, there.1, length-insert xs place y within), get_or-insert_above xs place y x there.0 above within ∙ there.2)
      ]

  -- what stands at a place then
  data Stands (k : ℕ) (d : IndexEntry) : Type 0 where
    New : k ≡ place → slice_index_or (insert xs place y) k d ≡ y → Stands k d
    Below : k < place → slice_index_or (insert xs place y) k d ≡ slice_index_or xs k d → Stands k d
    Above : (j : ℕ) → k ≡ j + 1 → place ≤ j → slice_index_or (insert xs place y) k d ≡ slice_index_or xs j d → Stands k d

  stands : (k : ℕ) (d : IndexEntry) → Stands k d
  stands k d =
      elim (cases_eq k place) [
        | inl here ↦ New here (ap (λ n. slice_index_or (insert xs place y) n d) here ∙ get_or-insert_at xs place y d within)
        | inr differs ↦ elim (cases_lt k place) [
          | inl below ↦ Below below (get_or-insert_below xs place y d k below within)
          | inr above ↦ higher (k - 1) (omega arith) (omega arith)
        ]
      ]
    where
      higher : (j : ℕ) → k ≡ j + 1 → place ≤ j → Stands k d
      higher j next above = Above j next above (ap (λ n. slice_index_or (insert xs place y) n d) next ∙ get_or-insert_above xs place y d j above within)

  pub contained : (x : IndexEntry) → Contains (insert xs place y) x → (x ≡ y) ⊎ Contains xs x
  contained x there = by_place (stands there.0 x)
    where
      by_place : Stands there.0 x → (x ≡ y) ⊎ Contains xs x
      by_place (New here is) = inl (sym there.2 ∙ is)
      by_place (Below below is) = inr (there.0, omega (arith, below, within), sym is ∙ there.2)
      by_place (Above j next above is) = inr (j, omega (arith, next, there.1, length-insert xs place y within), sym is ∙ there.2)

  pub rising-insert : AreRising xs → ((k : ℕ) (d : IndexEntry) → k < place → (slice_index_or xs k d).id < y.id)
      → ((k : ℕ) (d : IndexEntry) → place ≤ k → k < length xs → y.id < (slice_index_or xs k d).id) → AreRising (insert xs place y)
  rising-insert rising lower higher a b d below inside = grind (arith, nat_tests, stands a d, stands b d, length-insert xs place y within)

module _ (xs : List IndexEntry) (place : ℕ) (within : place < length xs) where
  -- what is left stood at another place
  pub kept : (x : IndexEntry) → Contains (remove xs place) x → (k : ℕ) × (k < length xs) × (k ≢ place) × (slice_index_or xs k x ≡ x)
  kept x there =
      elim (cases_lt there.0 place) [
        | inl below ↦ (
          there.0,
          omega (arith, below, within),
          λ same. absurd (omega (arith, same, below)),
          sym
              (get_or-remove_below xs place x there.0 below within) ∙ there.2,
        )
        | inr above ↦ (
          there.0 + 1,
          omega (arith, there.1, length-remove xs place within),
          λ same. absurd (omega (arith, same, above)),
          sym
              (get_or-remove_above xs place x there.0 above within) ∙ there.2,
        )
      ]

  pub contains-left : (x : IndexEntry) (k : ℕ) → k < length xs → k ≢ place → slice_index_or xs k x ≡ x → Contains (remove xs place) x
  contains-left x k inside differs is =
      elim (cases_lt k place) [
        | inl below ↦ (k, omega (arith, below, within, length-remove xs place within), get_or-remove_below xs place x k below within ∙ is)
        | inr above ↦ lower (k - 1) (omega arith) (omega arith)
      ]
    where
      lower : (j : ℕ) → k ≡ j + 1 → place ≤ j → Contains (remove xs place) x
      lower j next above = (
        j,
        omega (arith, next, inside, length-remove xs place within),
        get_or-remove_above xs place x j above within
            ∙ ap (λ n. slice_index_or xs n x) (sym next) ∙ is,
      )
