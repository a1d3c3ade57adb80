-- How the levels of a bitmap hang together.
use Rattle.std.specs.Prelude.{◌≡◌, ℕ, ◌*◌, ◌≤◌, List, length, not}
use Rattle.ready_index.specs.Bits.{has_bit, is_empty_word}

-- the upper set has a number exactly where the lower one's word of this number has a bit
abbrev pub Summarizes : List ℕ → List ℕ → Type 0
Summarizes upper lower = (word : ℕ) → has_bit upper word ≡ not (is_empty_word lower word)

-- the three levels of a bitmap
pub record AreLevels (bits summary top : List ℕ) : Type 0 where
  pub words : Summarizes summary bits
  pub summaries : Summarizes top summary
  pub summary_room : length bits ≤ 64 * length summary
  pub top_room : length summary ≤ 64
  pub one_top : length top ≡ 1
