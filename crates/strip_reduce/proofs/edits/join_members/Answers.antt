use Rattle.std.proofs.Common.{◌≡◌, ℕ, ◌<◌, List, [], ◌++◌, length, map, refl, get_or, set, Vec, Global, sym, ap, ◌∙◌, arith}
use Rattle.std.specs.List.{remove}
use Rattle.std.proofs.lemmas.List.{map-set, get_or-map}
use Rattle.std.proofs.lemmas.List.Edits.{get_or-remove_below}
use Rattle.strip_reduce.specs.Steps.{joined}
use Rattle.strip_reduce.proofs.Removed.{map-remove}
use Rattle.strip_reduce.proofs.edits.join_members.Goals as goal

lists_joined : (lists rest : List (Vec ℕ Global)) (a b : ℕ) (first later both : Vec ℕ Global) → a < b → b < length lists
    → rest ≡ remove lists b → first ≡ get_or rest a first → later ≡ get_or lists b later → both.items ≡ first.items ++ later.items
    → map (λ list. list.items) (set rest a both)
    ≡ joined (map (λ list. list.items) lists) a b (get_or (map (λ list. list.items) lists) a [] ++ get_or (map (λ list. list.items) lists) b [])
lists_joined lists rest a b first later both rise below left is_first is_later joins =
    let at_a : get_or (map (λ (list : Vec ℕ Global). list.items) lists) a [] ≡ first.items =
    get_or-map (λ (list : Vec ℕ Global). list.items) lists a first [] (omega arith)
    ∙ ap (λ (list : Vec ℕ Global). list.items) (sym (is_first ∙ ap (λ (xs : List (Vec ℕ Global)). get_or xs a first) left ∙ get_or-remove_below lists b first a rise below)) in
    let at_b : get_or (map (λ (list : Vec ℕ Global). list.items) lists) b [] ≡ later.items =
    get_or-map (λ (list : Vec ℕ Global). list.items) lists b later [] below ∙ ap (λ (list : Vec ℕ Global). list.items) (sym is_later) in
    map-set (λ (list : Vec ℕ Global). list.items) rest a both
    ∙ ap (λ (xs : List (List ℕ)). set xs a both.items) (ap (map (λ (list : Vec ℕ Global). list.items)) left ∙ map-remove (λ (list : Vec ℕ Global). list.items) lists b)
    ∙ ap (set (remove (map (λ (list : Vec ℕ Global). list.items) lists) b) a) (joins ∙ rw (at_a, at_b) refl)

pub returns : goal.returns
returns c =
    lists_joined c.args.members.now.items c.remove-later.new.self.items c.args.a c.args.b c.index_mut.result.now c.remove-later.result c.extend_from_slice.new.self
    c.requires.places (omega arith) c.remove-later.ensures.items c.index_mut.ensures.value c.remove-later.ensures.value
    (c.in_ok-extend_from_slice.ensures.items ∙ ap (λ (xs : List ℕ). c.index_mut.result.now.items ++ xs) c.deref.ensures.value)
