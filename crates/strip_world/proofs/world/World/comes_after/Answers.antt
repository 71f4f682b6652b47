use Rattle.std.proofs.Common.{◌≡◌, ℕ, ◌<◌, Some, List, length, sym, ap, ◌∙◌, subst, arith}
use Rattle.std.specs.Option.{option_map}
use Rattle.std.proofs.lemmas.List.{get_or-map, length-map}
use Rattle.strip_mask.proofs.Below.{LiesBelow-full}
use Rattle.strip_model.specs.Film.{FilmData}
use Rattle.strip_film.specs.Film.{LiesIn, all_scenes}
use Rattle.strip_film.specs.Finish.{Remained}
use Rattle.strip_film.specs.Path.{IsPath}
use Rattle.strip_film.specs.Shown.{path_data}
use Rattle.strip_world.specs.declared.state.Part.{Part}
use Rattle.strip_world.specs.Shown.{part_data}
use Rattle.strip_world.specs.World.{PartData, WorldData, no_part, part_at}
use Rattle.strip_world.proofs.world.World.comes_after.Goals as goal

pub is_earlier-requires-clause-lies : goal.is_earlier-requires-clause-lies
is_earlier-requires-clause-lies g c =
    subst (LiesIn g.B.Bounds.film)
    (ap all_scenes (sym (ap (λ (w : WorldData). w.search.film) c.self.view_is ∙ c.requires.search.0)) ∙ sym c.all.ensures)
    (LiesBelow-full (length g.B.Bounds.film.casts))

pub is_earlier-requires-clause-first : goal.is_earlier-requires-clause-first
is_earlier-requires-clause-first g c =
    let inside = c.self.inside in
    let within : c.args.part < length inside.parts.items
    = omega (arith, c.requires.part, ap (λ (w : WorldData). length w.parts) c.self.view_is, length-map inside.parts.items part_data) in
    let last : (part_at c.args.self.now c.args.part).last ≡ Some (path_data c.in-Some.last)
    = ap (λ (w : WorldData). (part_at w c.args.part).last) (sym c.self.view_is)
    ∙ ap (λ (p : PartData). p.last) (get_or-map part_data inside.parts.items c.args.part c.index.result.now no_part within)
    ∙ ap (λ (p : Part). option_map path_data p.last) (sym c.index.ensures) ∙ ap (option_map path_data) c.in-Some.is in
    let own : IsPath g.B.Bounds.film (path_data c.in-Some.last)
    = subst (λ (film : FilmData). IsPath film (path_data c.in-Some.last)) c.requires.search.0
    ((c.requires.sound.parts c.args.part c.requires.part).own (path_data c.in-Some.last) last) in
    subst (λ (scenes : List ℕ). Remained g.B.Bounds.film c.all.result.0 scenes) (sym c.scenes.ensures)
    (subst (λ (set : ℕ). Remained g.B.Bounds.film set (path_data c.in-Some.last).scenes)
    (ap all_scenes (sym (ap (λ (w : WorldData). w.search.film) c.self.view_is ∙ c.requires.search.0)) ∙ sym c.all.ensures) own.remained)
