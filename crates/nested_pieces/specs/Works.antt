-- Work that has run: pieces, each with its result, and how this came of the results of its parts.
use Rattle.std.specs.Prelude.{◌≡◌, ◌+◌, ℕ, suc, List, [], ◌∷◌}
use Rattle.typed_pieces.specs.Split.{JoinsTo}
use Rattle.nested_pieces.specs.declared.parts.Counted.{Counted}

-- pieces that have run: none; or one that gave this result, and others; or one that has split, what joined, the result, its parts, and others
pub data Works (P D J : Type 0) : Type 0 where
  NoneRan : Works P D J
  Gave : P → D → Works P D J → Works P D J
  Joined : P → J → D → Works P D J → Works P D J → Works P D J

module _ {P D J : Type 0} where
  -- the pieces, without the parts of those that have split
  abbrev pub pieces_in : Works P D J → List P
  pieces_in NoneRan = []
  pieces_in (Gave p d others) = p ∷ pieces_in others
  pieces_in (Joined p join d parts others) = p ∷ pieces_in others

  -- their results
  abbrev pub results_in : Works P D J → List D
  results_in NoneRan = []
  results_in (Gave p d others) = d ∷ results_in others
  results_in (Joined p join d parts others) = d ∷ results_in others

  -- how many pieces there are, parts and their parts too
  abbrev pub how_many_pieces : Works P D J → ℕ
  how_many_pieces NoneRan = 0
  how_many_pieces (Gave p d others) = suc (how_many_pieces others)
  how_many_pieces (Joined p join d parts others) = suc (how_many_pieces parts + how_many_pieces others)

  -- A piece gave a result that it promises; or it has split, so that it promises what its join gives of results that its parts promise, and its
  -- result is what the join gave, once, of the results of all its parts, in their order.
  abbrev pub HasWorked : (P → D → Type 0) → (J → List D → D → Type 0) → Works P D J → Type 0
  HasWorked promise joined NoneRan = Unit {0}
  HasWorked promise joined (Gave p d others) = promise p d × HasWorked promise joined others
  HasWorked promise joined (Joined p join d parts others) =
      JoinsTo promise joined p (pieces_in parts) join × joined join (results_in parts) d
      × HasWorked promise joined parts × HasWorked promise joined others

-- this piece alone has run, with all its parts and theirs, so many pieces; and this is its result
pub record IsWorkOf {P D J : Type 0} (promise : P → D → Type 0) (joined : J → List D → D → Type 0) (piece : P) (count : ℕ) (result : D) : Type 0 where
  pub works : Works P D J
  pub pieces : pieces_in works ≡ piece ∷ []
  pub results : results_in works ≡ result ∷ []
  pub counts : how_many_pieces works ≡ count
  pub worked : HasWorked promise joined works

-- the same of a result that is counted
abbrev pub Came : {P D J : Type 0} → (P → D → Type 0) → (J → List D → D → Type 0) → P → Counted D → Type 0
Came promise joined piece c = IsWorkOf promise joined piece c.pieces c.result
