-- What contracts see of a list of workers or parts, one of which was written.
use Rattle.std.proofs.Common.{◌≡◌, ℕ, zero, suc, ◌<◌, ◌∷◌, replicate, Bool, true, false, List, length, map, get_or, set, refl, sym, ap, ◌∙◌, subst}
use Rattle.std.specs.Prelude.{if◌then◌else◌}
use Rattle.std.proofs.lemmas.List.{length-map, map-set, get_or-map}
use Rattle.strip_world.specs.declared.state.Part.{Part}
use Rattle.strip_world.specs.declared.state.Worker.{Worker}
use Rattle.strip_world.specs.World.{PartData, WorkerData, no_part, no_worker}
use Rattle.strip_world.specs.Shown.{part_data, worker_data}

-- one of a list that is seen by f was written, by what it was
written : {X Y : Type 0} (f : X → Y) (xs : List X) (i : ℕ) (old new : X) (none : Y) (change : Y → Y) → i < length (map f xs)
    → old ≡ get_or xs i old → f new ≡ change (f old) → map f (set xs i new) ≡ set (map f xs) i (change (get_or (map f xs) i none))
written f xs i old new none change lt is became =
    let there : get_or (map f xs) i none ≡ f old = get_or-map f xs i old none (subst (λ (n : ℕ). i < n) (length-map xs f) lt) ∙ ap f (sym is) in
    map-set f xs i new ∙ ap (set (map f xs) i) (became ∙ ap change (sym there))

pub worker_written : (workers : List Worker) (who : ℕ) (old new : Worker) (change : WorkerData → WorkerData) → who < length (map worker_data workers)
    → old ≡ get_or workers who old → worker_data new ≡ change (worker_data old)
    → map worker_data (set workers who new) ≡ set (map worker_data workers) who (change (get_or (map worker_data workers) who no_worker))
worker_written workers who old new change lt is became = written worker_data workers who old new no_worker change lt is became

pub part_written : (parts : List Part) (part : ℕ) (old new : Part) (change : PartData → PartData) → part < length (map part_data parts)
    → old ≡ get_or parts part old → part_data new ≡ change (part_data old)
    → map part_data (set parts part new) ≡ set (map part_data parts) part (change (get_or (map part_data parts) part no_part))
part_written parts part old new change lt is became = written part_data parts part old new no_part change lt is became

-- a choice whose test is known
pub chosen : {X : Type 0} (b : Bool) (x y : X) → b ≡ true → x ≡ (if b then x else y)
chosen true x y is = refl
chosen false x y is = absurd (let e : false ≡ true = is in cc)

pub passed_over : {X : Type 0} (b : Bool) (x y : X) → b ≡ false → y ≡ (if b then x else y)
passed_over true x y is = absurd (let e : true ≡ false = is in cc)
passed_over false x y is = refl

pub map-replicate : {X Y : Type 0} (f : X → Y) (n : ℕ) (x : X) → map f (replicate n x) ≡ replicate n (f x)
map-replicate f zero x = refl
map-replicate f (suc n) x = λ i. f x ∷ map-replicate f n x i
