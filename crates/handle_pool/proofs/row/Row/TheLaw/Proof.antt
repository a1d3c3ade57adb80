-- A `&` to a row lends the bound on its size and its items, and not the room after them. Assumes `Logic`.
use Rattle.handle_pool.proofs.Names.{ℕ, ◌-◌, ◌*◌, List, [], ◌++◌, length, sym, subst, type_size, array_of, full_share, Fml, Incl-trans, fsep, meet_⊑_left, Array, Array-row_laws, Laws, RattleType, Ptr, ◌+ₚ◌, lies_at, room_for, lent_at, lent_at_shr_laws, Lends-lies, Lends-said, Lends-first, Lends-both, of_Lends, bounds, chunk}
use denote.ArrayMemory.{Single}
use denote.Param.Shared.{copy_shared}
use denote.Sharing.{said}
use denote.SharingLaws.{said_shr_laws, beside_shr_laws}
use denote.Shares.{Shares-less, Shares-Array}
use denote.Struct.Field.{RawPtr-field}
use denote.Struct.Laws.{RawPtr-copy}
use Rattle.handle_pool.specs.contracts.row.Row as C
use Rattle.handle_pool.proofs.row.Row.TheLaw.Statement.{statement}

module _ (X : RattleType) (p : Ptr) (n : ℕ) (xs : List X.Denot) where
  abbrev small : Fml
  small = bounds X n xs

  abbrev lies : Fml
  lies = lies_at (Array X (length xs)) full_share p xs

  abbrev spare : Fml
  spare = fsep (room_for (array_of X (n - length xs)) (p +ₚ length xs * type_size X)) (chunk (array_of X n) p)

pub shares : (X : RattleType) (L : Laws X) → statement X L
shares X L =
    of_Lends (C.struct X) (C.the_codes X.Denot X.coded) (C.the_heap X) (C.the_lent X)
    (λ d p. beside_shr_laws (said (small X d.at d.room d.items)) (lent_at (Array X (length d.items)) d.at d.items)
    (said_shr_laws (small X d.at d.room d.items) (tt, tt))
    (lent_at_shr_laws (Array X (length d.items)) (Array-row_laws X L.shr_laws (length d.items)) d.at d.items))
    (copy_shared RawPtr-field RawPtr-copy, tt)
    (λ M 𝓤 𝓛 d p.
    let l = (C.the_row X).lives in
    let items = lent_at (Array X (length d.items)) d.at d.items in
    let alive = Shares-less 𝓛 X X.lives l (Incl-trans (meet_⊑_left (X.lives ++ []) _) (meet_⊑_left X.lives [])) (L.shares 𝓛) in
    Lends-both 𝓛 (small X d.at d.room d.items) (fsep (lies X d.at d.room d.items) (spare X d.at d.room d.items)) (said (small X d.at d.room d.items)) items l
    (Lends-said 𝓛 (small X d.at d.room d.items) (tt, tt) l)
    (Lends-first 𝓛 (lies X d.at d.room d.items) (spare X d.at d.room d.items) items l
    (Lends-lies 𝓛 (Array X (length d.items)) l d.at d.items (Shares-Array 𝓛 X (subst Single (sym L.one) tt) (length d.items) l alive d.items))))
