-- A list is legal exactly where its replay is the list itself.
use Rattle.history.proofs.Replay as of
use Rattle.mtapi_machine.proofs.Names.{◌≡◌, ℕ, ◌≤◌, Bool, true, false, List, refl, arith, nat_le, ◌&&◌, nat_tests, Op, Finish, TaskHandle, Answered, State, NodeEntry, node, IsHonest, LegalFrom, is_sound, corrected, replay}
pub use Rattle.history.proofs.Row.{answer-allowed}

-- a finish is honest exactly where correcting leaves it
finish_same : (t u : TaskHandle) (d e : Answered) → Finish t d ≡ Finish u e → d ≡ e
finish_same t u d e h = cc

both : (a b : Bool) → a ≡ true → b ≡ true → (a && b) ≡ true
both a b h k = (λ i. h i && k i)

parts : (a b : Bool) → (a && b) ≡ true → (a ≡ true) × (b ≡ true)
parts true b h = (refl, h)
parts false b h = absurd (cc)

at_most : (a b : ℕ) → a ≤ b → nat_le a b ≡ true
at_most a b h = grind (arith, nat_tests)

pub is_at_most : (a b : ℕ) → nat_le a b ≡ true → a ≤ b
is_at_most a b h = grind (arith, nat_tests)

sound_if : (op : Op) → IsHonest op → (is_sound op ≡ true) × (corrected op ≡ op)
sound_if op e1 = grind (arith, nat_tests, both, at_most)

honest_if : (op : Op) → is_sound op ≡ true → corrected op ≡ op → IsHonest op
honest_if op e1 e2 = grind (arith, nat_tests, parts, is_at_most, finish_same)

-- the law: a list is legal exactly where its replay is the list itself
pub replay_if : (s : State) (L : List NodeEntry) → LegalFrom s L → replay s L ≡ L
unfolding LegalFrom replay
replay_if = of.replay_if node is_sound corrected sound_if honest_if

pub legal_if : (s : State) (L : List NodeEntry) → replay s L ≡ L → LegalFrom s L
unfolding LegalFrom replay
legal_if = of.legal_if node is_sound corrected sound_if honest_if
