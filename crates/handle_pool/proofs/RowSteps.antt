-- What a row owns is taken apart and made, and a `&mut` to a row is opened. Assumes `Logic`.
use Rattle.handle_pool.proofs.Names.{◌≡◌, ℕ, ◌+◌, ◌-◌, ◌*◌, ◌<◌, ◌^◌, List, [], ◌∷◌, length, refl, sym, ap, ◌∙◌, Fml, fsep, Lft, GName, Share, fauth, fbor, flft, fobor, fobs, froom, full_share, id⊢, Array, Is, Typed, shows, cell_at, mem, part_at, layout, param, Laws, param_laws, RattleType, Ptr, block_ptr, in_a_block, lies_at, room_for, ◌+ₚ◌, opens, peeks, shape, Struct, Ty, ty_array, T, Val, WT, has_ty, size, Ura, Goal, Item, Seq, Soaks, Step, step, ‵, ◌$◌, flt_i, flt_l, fjoin, fsplit, move, rewrite, Logic, chunk, Row}
use mir.Raw.{raw as bare}
use types.SemTy.{Body}
use Rattle.handle_pool.specs.contracts.row.Row as C
use Rattle.handle_pool.proofs.row.Row.TheLaws.{lowers}

module _ (X : RattleType) where
  abbrev pub R : RattleType
  R = param 0 X

  abbrev pub RowOf : RattleType
  RowOf = C.the_row R

  -- the one data field, as a plain struct
  abbrev pub Words : RattleType
  Words = Struct (shape (C.the_type R))

  abbrev pub sz : ℕ
  sz = size (layout X)

  -- the word that says where the block is, and the right to give the block back
  abbrev pub Held : Row X.Denot → List Val → Fml
  Held d us = fsep (Words.own_val (d.at, tt) us) (chunk (bare (ty_array (layout X) d.room)) d.at)

  -- the items from the start of a block, and the room after so many of them
  abbrev pub Items : List X.Denot → ℕ → ℕ → Fml
  Items xs b o = part_at (Array R (length xs)) full_share xs b o

  abbrev pub Spare : ℕ → ℕ → ℕ → ℕ → Fml
  Spare n k b o = froom (bare (ty_array (layout X) (n - k))) b (o + k * sz)

-- what is typed as one value is one
pub one_value : (τ : Ty) (vs : List Val) → Typed (τ ∷ []) vs → (v : Val) × (vs ≡ v ∷ []) × (T (has_ty τ v) × WT v)
one_value τ [] t = absurd t
one_value τ (v ∷ []) t = (v, refl, t.0)
one_value τ (v ∷ w ∷ vs) t = absurd t.1

module _ (X : RattleType) (L : Laws X) where
  abbrev pub word : Row X.Denot → ℕ → ℕ → Val
  word d b o = (lowers (R X) (param_laws 0 X L)).lowered (record d { at = block_ptr b o })

module _ (X : RattleType) (L : Laws X) {M : Type 1} {𝓤 : Ura M} {𝓛 : Logic 𝓤} {K : Type 0} {Γ : List (Item 𝓤)} {G : Goal 𝓤 𝓛.H} where
  -- what a row owns, taken apart: the items, the room after them, and the word
  pub row_had : K → (d : Row X.Denot) (us : List Val)
      → ((b o : ℕ) → d.at ≡ block_ptr b o → us ≡ word X L d b o ∷ [] → length d.items < d.room + 1 → d.room * sz X < 2 ^ 63
      → Seq K 𝓛 (‵ (Items X d.items b o) ∷ ‵ (Spare X d.room (length d.items) b o) ∷ ‵ (Held X d us) ∷ Γ) G)
      → Seq K 𝓛 (‵ ((RowOf X).own_val d us) ∷ Γ) G
  row_had t d us k =
      peeks t (RowOf X) (Is (RowOf X)) (shows 𝓛 (RowOf X)) d us
      (λ is. fsplit t $ move t (1 ∷ []) $ fsplit t $ fsplit t $ flt_l t
      (λ le. flt_l t (λ fit. fsplit t $ move t (1 ∷ []) $ fsplit t $ move t (3 ∷ 1 ∷ []) $ fjoin t $ move t (2 ∷ 1 ∷ 0 ∷ []) $
      in_a_block t d.at (λ p. lies_at (Array (R X) (length d.items)) full_share p d.items) (id⊢ 𝓤 _) (λ b o e.
      rewrite t 1 (λ (p : Ptr). ‵ (room_for (bare (ty_array (layout X) (d.room - length d.items))) (p +ₚ length d.items * sz X))) e refl $
      k b o e ((lowers (R X) (param_laws 0 X L)).val_is d us is
      ∙ ap (λ (p : Ptr). (lowers (R X) (param_laws 0 X L)).lowered (record d { at = p }) ∷ []) e) le fit))))

  -- and made again, with other items
  pub row_made : K → (d : Row X.Denot) (ys : List X.Denot) (us : List Val) (b o : ℕ) → d.at ≡ block_ptr b o → length ys < d.room + 1 → d.room * sz X < 2 ^ 63
      → Step K 𝓛 (‵ ((RowOf X).own_val (record d { items = ys }) us) ∷ Γ) G (‵ (Items X ys b o) ∷ ‵ (Spare X d.room (length ys) b o) ∷ ‵ (Held X d us) ∷ Γ) G
  row_made t d ys us b o e le fit = step (λ s.
      rewrite t 0 (λ (p : Ptr). ‵ (lies_at (Array (R X) (length ys)) full_share p ys)) (sym e) refl $
      rewrite t 1 (λ (p : Ptr). ‵ (room_for (bare (ty_array (layout X) (d.room - length ys))) (p +ₚ length ys * sz X))) (sym e) refl $
      move t (2 ∷ []) $ fsplit t $ move t (1 ∷ 3 ∷ []) $ move t (1 ∷ 0 ∷ []) $ fjoin t $ move t (2 ∷ 0
      ∷ []) $ fjoin t $ flt_i t (d.room * sz X) (2 ^ 63) fit $ flt_i t (length ys) (d.room + 1) le $ fjoin t $ fjoin t $ move t (1 ∷ 0 ∷ []) $ fjoin t $ s)

module _ (X : RattleType) (L : Laws X) {M : Type 1} {𝓤 : Ura M} {𝓛 : Logic 𝓤} {K : Type 0} {Γ : List (Item 𝓤)} {G : Goal 𝓤 𝓛.H} where
  -- [the items; the room after them; the word; the row's cell; the open borrow; what is seen of it, in two entries]
  pub row_opens : K → Soaks G → {κ : Lft} {q : Share} {γ : GName} (d : Row X.Denot) (rb ro : ℕ)
      → ((us : List Val) (b o : ℕ) → d.at ≡ block_ptr b o → us ≡ word X L d b o ∷ [] → length d.items < d.room + 1 → d.room * sz X < 2 ^ 63
      → Seq K 𝓛 (‵ (Items X d.items b o) ∷ ‵ (Spare X d.room (length d.items) b o) ∷ ‵ (Held X d us)
      ∷ ‵ (cell_at full_share (RowOf X).mir (word X L d b o ∷ []) rb ro)
      ∷ ‵ (fobor κ q (Body (mem (RowOf X)) rb ro γ)) ∷ ‵ (fobs γ ((RowOf X).coded.code d)) ∷ ‵ (fauth γ ((RowOf X).coded.code d)) ∷ Γ) G)
      → Seq K 𝓛 (‵ (fobs γ ((RowOf X).coded.code d)) ∷ ‵ (fbor κ (Body (mem (RowOf X)) rb ro γ)) ∷ ‵ (flft κ q) ∷ Γ) G
  row_opens t z d rb ro k =
      opens t z (RowOf X) {h = d} rb ro (λ us. move t (1 ∷ []) $ row_had X L t d us (λ b o e is le fit.
      rewrite t 3 (λ (ws : List Val). ‵ (cell_at full_share (RowOf X).mir ws rb ro)) is refl $ k us b o e is le fit))
