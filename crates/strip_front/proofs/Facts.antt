-- What holds of a layer of a film.
use Rattle.std.proofs.Common.{◌≡◌, ◌≢◌, ℕ, suc, ◌^◌, ◌<◌, ◌≤◌, true, length, All, Contains}
use Rattle.std.specs.List.{AllPairs}
use Rattle.strip_mask.specs.Set.{has}
use Rattle.strip_model.specs.declared.kind.Kind.{Kind}
use Rattle.strip_model.specs.Film.{FilmData}
use Rattle.strip_film.specs.Path.{PathData, extended}
use Rattle.strip_film.specs.Rules.{IsOpen}
use Rattle.strip_rule.specs.Rule.{open_firsts}
use Rattle.strip_lines.specs.Lines.{rules_of}
use Rattle.strip_front.specs.Layers.{layer}

-- its paths are open ones of so many scenes, no two of which leave the same, few, and some where the film has so many scenes; each open
-- path of so many scenes leaves what one of them leaves, and pays no less; and each goes on from a path of the layer before
pub record LayerFacts (kind : Kind) (film : FilmData) (depth : ℕ) : Type 0 where
  pub is_open : All (IsOpen (rules_of kind film)) (layer film depth)
  pub long : All (λ path. length path.scenes ≡ depth) (layer film depth)
  pub apart : AllPairs (λ a b. a.rest ≢ b.rest) (layer film depth)
  pub few : length (layer film depth) ≤ 64 ^ depth
  pub some : depth ≤ length film.casts → 0 < length (layer film depth)
  pub least : (path : PathData) → IsOpen (rules_of kind film) path → length path.scenes ≡ depth
      → (other : PathData) × Contains (layer film depth) other × (other.rest ≡ path.rest) × (other.paid ≤ path.paid)
  pub goes_on : (before : ℕ) → depth ≡ suc before → (path : PathData) → Contains (layer film depth) path
      → (shorter : PathData) × Contains (layer film before) shorter × (scene : ℕ) × (has (open_firsts film shorter.rest) scene ≡ true)
      × (path ≡ extended film shorter scene)
