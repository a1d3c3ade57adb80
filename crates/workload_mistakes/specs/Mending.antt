-- The text in which a faulty line is mended.
use Rattle.std.specs.Prelude.{ℕ, ◌+◌, ◌==◌, if◌then◌else◌, List, [], ◌∷◌, ◌++◌, length, take, drop, replicate, codes}
use Rattle.std.specs.List.{join_with_byte}
use Rattle.number_text.specs.Lists.{between}
use Rattle.workload_mistakes.specs.declared.mistakes.Meant.{Meant}
use Rattle.workload_mistakes.specs.declared.mistakes.Meant.TheVariants as meant
use Rattle.workload_mistakes.specs.declared.mistakes.Part.{Part}
use Rattle.workload_mistakes.specs.declared.mistakes.Mend.{Mend}
use Rattle.workload_mistakes.specs.declared.mistakes.Mend.TheVariants as mend
use Rattle.workload_mistakes.specs.declared.mistakes.Mistake.{Mistake}

-- the line that binds a name to what was meant
abbrev pub binding_line : Meant → List ℕ → List ℕ
binding_line meant.Nothing name = []
binding_line meant.Node name = codes "node"
binding_line meant.Begin name = codes "begin"
binding_line meant.Caller name = codes "caller " ++ name
binding_line meant.Action name = codes "action " ++ (name ++ codes " job=1 kind=add")
binding_line meant.Task name = codes "start " ++ (name ++ codes " job=1")
binding_line meant.Group name = codes "group " ++ name
binding_line meant.Queue name = codes "queue_get " ++ (name ++ codes " id=0")
binding_line meant.Mutex name = codes "mutex_get " ++ (name ++ codes " id=0")
binding_line meant.Sem name = codes "sem_get " ++ (name ++ codes " id=0")
binding_line meant.Rwl name = codes "rwl_get " ++ (name ++ codes " id=0")
binding_line meant.Shmem name = codes "shmem_get " ++ (name ++ codes " id=0")

-- what may stand in for a word: options that the reader takes, and letters that are a name
unfoldable pub usual_text : List ℕ
usual_text = codes " job=1 kind=add timeout=nowait id=0 key=0 limit=1 mode=reader cells=1 cell=0 value=0 abcdefghijklmnopqrstuvwxyzabcdefghijklmno"

-- a part of a text
abbrev pub part_in : Part → List ℕ → List ℕ
part_in p text = take p.long (drop p.from text)

-- the line with spaces in place of a part
abbrev pub blanked : Part → List ℕ → List ℕ
blanked p line = take p.from line ++ (replicate p.long 32 ++ drop p.long (drop p.from line))

-- the line with a text over what stands from a place on
abbrev pub over : ℕ → List ℕ → List ℕ → List ℕ
over at put line = take at line ++ (put ++ drop (length put) (drop at line))

-- what is read in place of a faulty line
abbrev pub read_for : Mend → List ℕ → List ℕ
read_for (mend.Line meant name) line = binding_line meant (part_in name line)
read_for (mend.Word word at usual) line = over at (part_in usual usual_text) (blanked word line)

-- the lines from this number on, with another one at a number
unfoldable pub with_line : ℕ → ℕ → (List ℕ → List ℕ) → List (List ℕ) → List (List ℕ)
with_line at number mend [] = []
with_line at number mend (line ∷ lines) = (if at == number then mend line else line) ∷ with_line (at + 1) number mend lines

-- the text with something read in place of the faulty line, and every other line as it was
abbrev pub mended : Mistake → List ℕ → List ℕ
mended m text = join_with_byte 10 (with_line 1 m.line (read_for m.mend) (between 10 text))

-- the text with each of these lines mended, the first first
abbrev pub mended_text : List Mistake → List ℕ → List ℕ
mended_text [] text = text
mended_text (m ∷ ms) text = mended_text ms (mended m text)
