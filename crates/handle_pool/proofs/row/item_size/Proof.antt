-- `item_size` gives the size of a type parameter as a word. Assumes `Logic`.
use Rattle.handle_pool.proofs.Names.{[], ◌∷◌, refl, proved, flft, ftrue, ◌⊑◌, fact, usize, layout, layouts, uint_Makes, RattleType, nothing, owned, Stays, walk_of, says, ends_at, inst_fn, Fn, a_type, w64, vint, capped_fits, capped, size, alloc_all, pass_all, free_all, look_at, sets, ‵, raw, ◌⊛◌, ◌$◌, ◌∵◌, !, qed, done, move, keep, split, join, suffices, enter, of_opd, returns, size_word}
use Rattle.handle_pool.specs.contracts.row.item_size as f
use Rattle.handle_pool.proofs.row.item_size.Statement.{statement}
use Rattle.handle_pool.proofs.row.item_size.Code as code

module _ (X : RattleType) where
  abbrev fn' : Fn
  fn' = inst_fn (layouts (a_type ∷ []) (X, tt)) code.function

  abbrev stayed : Stays (f.ended X).signature.params (f.ended X).kept
  stayed = tt

pub item_size_spec : {M : Type 1} → statement M
item_size_spec 𝓤 𝓛 𝓜 𝓡 wired X L =
    let c = f.clauses X 𝓛 𝓜.mem 𝓡.returns in let W = walk_of 𝓛 (f.ended X) (stayed X) c in
    proved 𝓛 (f.ended X) (stayed X) c 𝓜 𝓡 tt
    (f.Key.name (layouts (a_type ∷ []) (X, tt))) (fn' X) (code.unfolded 𝓤 𝓛.H 𝓜 𝓡 wired (X, tt))
    (λ κs. tt) (λ κs. tt) (λ κs qs bounds a _ are.
    let y : W.Ghost = ((κs, qs, bounds, a, tt), tt) in
    let n = capped (size (layout X)) in let fits = capped_fits (size (layout X)) in
    qed 𝓛 (((‵ (flft κs.0 qs.0) ⊛ ‵ ftrue) ⊛ ‵ ftrue) ∷ (raw (fact 𝓤 (κs.0 ⊑ X.lives)) ⊛ ‵ ftrue) ∷ []) ∵
    split ! $ split ! $ keep ! (0 ∷ []) $
    enter ! _ _ _ _ _ $ alloc_all ! (λ l. pass_all ! refl tt $
    sets ! (of_opd ! (size_word !)) refl (tt, record { fits = fits }) $
    returns ! (look_at ! 0 refl) $ free_all ! refl $
    suffices ! _ (ends_at 𝓛 (f.ended X) (stayed X) c y (vint w64 n) n tt tt) $ says ! refl $
    owned ! usize _ (uint_Makes 𝓛 w64) n _ (refl, fits) $ nothing ! $ nothing ! $ move ! (3 ∷ 0 ∷ []) $ join ! $ done !))
