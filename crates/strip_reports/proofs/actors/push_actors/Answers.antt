use Rattle.std.proofs.Common.{◌≡◌, ◌==◌, Bool, false, if◌then◌else◌, List, ℕ, [], ◌++◌, length, codes, append_assoc, sym, ap, ◌∙◌}
use Rattle.std.proofs.lemmas.Bool.{cond-false}
use Rattle.std.proofs.lemmas.Result.{on_ok_weaker}
use Rattle.strip_reports.specs.Days.{crews_of}
use Rattle.strip_model.specs.FilmOf.{film_of}
use Rattle.strip_reports.specs.Actors.{actors_table}
use Rattle.strip_reports.proofs.actors.push_actors.Goals as goal

headed : (none : Bool) (old head table before new : List ℕ) → none ≡ false → before ≡ old ++ head → new ≡ before ++ table
    → new ≡ old ++ (if none then [] else head ++ table)
headed none old head table before new some begun made =
    made ∙ ap (λ text. text ++ table) begun ∙ append_assoc old head table ∙ ap (λ part. old ++ part) (sym (cond-false none [] (head ++ table) some))

pub returns : goal.returns
returns c =
    let inst = c.args.inst.now in
    let before = c.extend_from_slice.new.self.items in
    let some = ap (λ n. n == 0) (sym c.actors.ensures.count) ∙ sym c.is_empty.ensures ∙ c.if-is_empty.false in
    let table = ap (λ crews. before ++ actors_table inst crews) (c.deref.ensures.value ∙ c.in_ok-crews.ensures.crews) in
    on_ok_weaker c.push_table.result (λ is.
    headed (length inst.actors == 0) c.args.page.now.items (codes "<h2>Actors</h2>\n") (actors_table inst (crews_of (film_of inst) c.args.order.now))
    before c.push_table.new.page.items some c.in_ok-extend_from_slice.ensures.items (is ∙ table)) c.push_table.ensures
