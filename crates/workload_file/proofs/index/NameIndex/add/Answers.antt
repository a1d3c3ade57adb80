use Rattle.workload_file.proofs.Cited.{◌≡◌, ℕ, List, sym, ◌∙◌, Option, None, subst}
use Rattle.workload_file.specs.Indexed.{key_of, place_at}
use Rattle.workload_file.proofs.Places.{bytes_are, name_short, put, none_is}
use Rattle.workload_file.proofs.index.NameIndex.add.Goals as goal

pub key_of-key-requires : goal.key_of-key-requires
key_of-key-requires c = record { short = name_short c.args.name.now c.requires.name }

pub returns-clause-names : goal.returns-clause-names
returns-clause-names c = λ fresh other.
    let name : List ℕ = c.args.name.now in
    let place_in : List ℕ → Option ℕ = λ text. place_at c.args.self.now (key_of text) in
    let at_key = none_is _ _ c.is_none.ensures fresh in
    let none : place_in name ≡ None = rw (sym c.key_of-key.ensures.value) (sym c.in_ok-before.ensures.before ∙ at_key) in
    rw (c.in_ok-before.ensures.updates (key_of other), c.key_of-key.ensures.value)
    (put name other c.args.place (place_in other) c.requires.name (λ t. subst (λ text. place_in text ≡ None) (bytes_are name other t) none))
