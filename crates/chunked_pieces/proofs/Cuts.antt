-- Items that are cut into chunks, and results of chunks that are joined.
use Rattle.std.proofs.Common.{◌≡◌, ℕ, suc, ◌+◌, ◌-◌, ◌*◌, ◌<◌, ◌≤◌, List, [], ◌∷◌, ◌++◌, Result, Ok, Err, take, drop, map, length, refl, sym, ap, subst, ◌∙◌, arith, append_assoc, All}
use Rattle.std.specs.Global.{Vec}
use Rattle.std.proofs.lemmas.List.{append-nil, map-append, take-append-drop}
use Rattle.std.proofs.lemmas.Grind.{flat_map-append}
use Rattle.std.specs.Prelude.{IfOk}
use Rattle.std.specs.List.{AllZip, flat_map}
use Rattle.chunked_pieces.specs.Chunks.{items_of, AreJoined}

-- what holds of each of some items and results holds of one pair more
pub zip_more : {T D : Type 0} (R : T → D → Type 0) (xs rest : List T) (x : T) (ds : List D) (d : D)
    → ((more : List D) → AllZip R (x ∷ rest) more → AllZip R xs (ds ++ more)) → R x d → (more : List D) → AllZip R rest more
    → AllZip R xs ((ds ++ d ∷ []) ++ more)
zip_more R xs rest x ds d so r more all = subst (AllZip R xs) (sym (append_assoc ds (d ∷ []) more)) (so (d ∷ more) (r, all))

pub zip_end : {T D : Type 0} (R : T → D → Type 0) (xs rest : List T) (ds : List D) → length rest ≡ 0
    → ((more : List D) → AllZip R rest more → AllZip R xs (ds ++ more)) → AllZip R xs ds
zip_end R xs [] ds none so = subst (AllZip R xs) (append-nil ds) (so [] tt)
zip_end R xs (x ∷ rest) ds none so = absurd (omega arith)

-- one more chunk has results
joined_more : {D E : Type 0} (before : List (Result (Vec D) E)) (all : List D) (v : Vec D) → AreJoined before all
    → AreJoined (before ++ Ok v ∷ []) (all ++ v.items)
joined_more before all v j = (
  j.0 ++ v ∷ [],
  ap (λ l. l ++ Ok v ∷ []) j.1 ∙ sym (map-append Ok j.0 (v ∷ [])),
  ap (λ l. l ++ v.items) j.2 ∙ (ap (λ l. items_of j.0 ++ l) (sym (append-nil v.items)) ∙ sym (flat_map-append (λ chunk. chunk.items) j.0 (v ∷ []))),
)

pub joined_step : {D E : Type 0} (results before rest left : List (Result (Vec D) E)) (all more : List D) (r : Result (Vec D) E) (v : Vec D)
    → before ++ rest ≡ results → AreJoined before all → rest ≡ r ∷ left → r ≡ Ok v → more ≡ all ++ v.items
    → (now : List (Result (Vec D) E)) × (now ++ left ≡ results) × AreJoined now more
joined_step results before rest left all more r v so j next is grown = (
  before ++ Ok v ∷ [],
  append_assoc before (Ok v ∷ []) left ∙ (ap (λ x. before ++ x ∷ left) (sym is) ∙ (ap (λ l. before ++ l) (sym next) ∙ so)),
  subst (AreJoined (before ++ Ok v ∷ [])) (sym grown) (joined_more before all v j),
)

-- the last items are a chunk before the others
pub cut_whole : {T : Type 0} (n : ℕ) (xs left : List T) (v : Vec T) (chunks more : List (Vec T)) → left ≡ take n xs → v.items ≡ drop n xs → more ≡ v ∷ chunks
    → left ++ items_of more ≡ xs ++ items_of chunks
cut_whole n xs left v chunks more first last is =
    ap (λ l. left ++ items_of l) is
    ∙ (ap (λ l. left ++ (l ++ items_of chunks)) last
    ∙ (ap (λ l. l ++ (drop n xs ++ items_of chunks)) first
    ∙ (sym (append_assoc (take n xs) (drop n xs) (items_of chunks)) ∙ ap (λ l. l ++ items_of chunks) (take-append-drop n xs))))
