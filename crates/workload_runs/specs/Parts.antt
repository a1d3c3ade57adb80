-- What a part of a workload makes, its statements and the replies to them, in whichever way the entries of a seat are told: by the
-- lines of a journal, by the turns of a history, or by the entries themselves.
use Rattle.std.specs.Prelude.{◌≡◌, ℕ, suc, Bool, List, [], ◌∷◌, ◌++◌}
use Rattle.std.specs.List.{list_any}
use Rattle.workload_file.specs.Deeds.{is_begin}
use Rattle.workload_file.specs.declared.workload.Statement.{Statement}
use Rattle.workload_file.specs.declared.workload.Part.{Part}
use Rattle.mtapi_machine.specs.declared.replies.Reply.{Reply}
use Rattle.mtapi_machine.specs.Row.{handle_of}
use Rattle.workload_runs.specs.Calls.{Call, call_of}

-- one of the statements is `begin`
unfoldable pub has_begin : List Statement → Bool
has_begin statements = list_any (λ s. is_begin s.deed) statements

-- The statements in order, where the earlier ones bound these handles, made just this, and came to these replies, one for each: the
-- front was made by the first statement's call, which came to the first reply, and so on. Each statement binds the handle of its reply.
unfoldable pub Carried : {E : Type 0} → (Call → List E → Reply → Type 0) → List ℕ → List Statement → List E → List Reply → Type 0
Carried {E} made bound [] es [] = es ≡ []
Carried {E} made bound [] es (r ∷ rs) = ⊥
Carried {E} made bound (s ∷ ss) es [] = ⊥
Carried {E} made bound (s ∷ ss) es (r ∷ rs) =
    (front : List E) × (rest : List E) × (es ≡ front ++ rest) × made (call_of bound s.deed) front r × Carried made (bound ++ handle_of r ∷ []) ss rest rs

-- a way to tell what a seat makes
pub record Form (E : Type 0) : Type 1 where
  -- what a call makes, and the reply to which it comes
  pub made : Call → List E → Reply → Type 0
  -- what main makes before its statements, where one of them is `begin` or none
  pub head : Bool → List E
  -- what main makes behind them
  pub tail : List E
  -- what a further caller makes before its own
  pub entrance : List E → Type 0

-- main made this: its statements in order, with these replies, between the head and the tail
pub record MainRan {E : Type 0} (form : Form E) (statements : List Statement) (es : List E) (replies : List Reply) : Type 0 where
  pub body : List E
  pub is : es ≡ form.head (has_begin statements) ++ (body ++ form.tail)
  pub carried : Carried form.made [] statements body replies

-- a further caller made this: it entered, and then its statements in order, with these replies
pub record CallerRan {E : Type 0} (form : Form E) (statements : List Statement) (es : List E) (replies : List Reply) : Type 0 where
  pub front : List E
  pub body : List E
  pub entered : form.entrance front
  pub is : es ≡ front ++ body
  pub carried : Carried form.made [] statements body replies

-- the further callers, from this seat on, made these parts in order, each with the replies of its own
unfoldable pub CallersRan : {E : Type 0} → Form E → (ℕ → List E) → ℕ → List Part → List (List Reply) → Type 0
CallersRan form made who [] [] = Unit {0}
CallersRan form made who [] (rs ∷ rss) = ⊥
CallersRan form made who (p ∷ ps) [] = ⊥
CallersRan form made who (p ∷ ps) (rs ∷ rss) = CallerRan form p.statements (made who) rs × CallersRan form made (suc who) ps rss

-- the first part is main's, and the further callers have the others
abbrev pub PartsRan : {E : Type 0} → Form E → (ℕ → List E) → ℕ → List Part → List (List Reply) → Type 0
PartsRan form made main (p ∷ ps) (rs ∷ rss) = MainRan form p.statements (made main) rs × CallersRan form made (suc main) ps rss
PartsRan form made main _ _ = ⊥
