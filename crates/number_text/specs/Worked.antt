-- Worked texts: lists of numbers, sets of cores, and numbers of a range. Each is found by computing.
use Rattle.std.specs.Prelude.{◌≡◌, pos, negsuc, [], ◌∷◌, codes, Some, None}
use Rattle.number_text.specs.Numbers.{number_within, whole_number}
use Rattle.number_text.specs.Lists.{list_of, list_text}
use Rattle.number_text.specs.Cores.{cores_in_text, cores_text}

pub record WorkedNumbers : Type 0 where
  -- commas stand between the numbers of a list, and a minus before one that isn't 0
  pub list : list_of (codes "31,-2,0,9") ≡ Some (pos 31 ∷ negsuc 1 ∷ pos 0 ∷ pos 9 ∷ [])
  pub list_written : list_text (pos 31 ∷ negsuc 1 ∷ pos 0 ∷ pos 9 ∷ []) ≡ codes "31,-2,0,9"
  pub no_numbers : list_of [] ≡ None
  pub not_zero : whole_number (codes "-0") ≡ None
  -- the cores of a set ascend, from 0 to 63
  pub cores : cores_in_text (codes "0,2,63") ≡ Some 9223372036854775813
  pub cores_written : cores_text 9223372036854775813 ≡ codes "0,2,63"
  pub descending : cores_in_text (codes "2,1") ≡ None
  pub repeated : cores_in_text (codes "2,2") ≡ None
  pub no_core : cores_in_text (codes "64") ≡ None
  -- both ends of a range are in it
  pub least : number_within 3 7 (codes "3") ≡ Some 3
  pub greatest : number_within 3 7 (codes "7") ≡ Some 7
  pub below : number_within 3 7 (codes "2") ≡ None
  pub above : number_within 3 7 (codes "8") ≡ None
