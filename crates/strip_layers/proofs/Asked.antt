-- What is asked of paths, once it is answered.
use Rattle.std.proofs.Common.{◌≡◌, ℕ, ◌<◌, ◌++◌, All, drop, get_or, length, List, inl, inr, take, sym, ap, ◌∙◌, subst, append-nil, arith}
use Rattle.std.proofs.lemmas.Bool.{cases_Bool}
use Rattle.std.proofs.lemmas.List.{drop_all, take_all}
use Rattle.strip_model.specs.declared.kind.Kind.{Kind}
use Rattle.strip_model.specs.Film.{FilmData}
use Rattle.strip_film.specs.declared.shared.Line.{Line}
use Rattle.strip_film.specs.Film.{LiesIn}
use Rattle.strip_film.specs.Path.{PathData}
use Rattle.strip_bound.specs.Bounds.{bound}
use Rattle.strip_lines.specs.Lines.{rules_of}
use Rattle.strip_lines.proofs.Grown.{known-static}
use Rattle.strip_lines.specs.Parts.{no_task}
use Rattle.strip_layers.specs.declared.ask.Ask.{Ask}
use Rattle.strip_layers.specs.Asks.{AreAnswered, IsAnswer, Suffices}
use Rattle.strip_layers.specs.Search.{AskedIsTrue}
use Rattle.strip_layers.specs.Walked.{AreAsksFor, AreLooked, IsAskFor, IsLooked}

-- what a list has after it was written through a slice of its own length
pub written : (len : ℕ) (items more : List Ask) → len ≡ length items → length more ≡ length items → take len (more ++ drop (length more) items) ≡ more
written len items more len_is more_is =
    ap (λ (xs : List Ask). take len (more ++ xs)) (drop_all (length more) items (omega (arith, more_is)))
    ∙ ap (take len) (append-nil more)
    ∙ take_all len more (omega (arith, len_is, more_is))

module _ (kind : Kind) (film : FilmData) (lines : List Line) (limit : ℕ) (path : PathData) (ask answer : Ask) (asked : IsAskFor kind film lines limit path ask)
    (is : IsAnswer kind film ask answer) where
  looked_from : IsLooked kind film lines limit path answer
  looked_from = elim (cases_Bool ask.is_known) [
    | inl known_is ↦ record {
      set = is.set ∙ asked.set;
      need = is.need ∙ asked.need;
      most = omega (arith, is.known known_is, asked.most known_is);
      reaches = elim (asked.reaches known_is) [
        | inl enough ↦ inl (omega (arith, enough, is.known known_is, is.need))
        | inr line ↦ inr (inr line)
      ];
    }
    | inr unknown ↦ (let suffices : Suffices kind film ask.set ask.need answer.value = is.asked unknown in record {
      set = is.set ∙ asked.set;
      need = is.need ∙ asked.need;
      most = omega (arith, suffices.most, ap (bound kind film) asked.set, known-static (rules_of kind film) lines path.rest);
      reaches = elim suffices.reaches [
        | inl enough ↦ inl (omega (arith, enough, is.need))
        | inr whole ↦ inr (inl (whole ∙ ap (bound kind film) asked.set))
      ];
    })
  ]

  true_from : AskedIsTrue kind film answer
  true_from unknown =
      let suffices : Suffices kind film ask.set ask.need answer.value = is.asked (sym is.is_known ∙ unknown) in
      subst (λ (q : ℕ). Suffices kind film q answer.need answer.value) (sym is.set)
      (subst (λ (n : ℕ). Suffices kind film ask.set n answer.value) (sym is.need) suffices)

module _ (kind : Kind) (film : FilmData) (lines : List Line) (limit : ℕ) (paths : List PathData) (asks answers : List Ask)
    (asked : AreAsksFor kind film lines limit paths asks) where
  pub asks_lie : All (λ path. LiesIn film path.rest) paths → All (λ ask. LiesIn film ask.set) asks
  asks_lie lie place d within =
      let here : place < length paths = omega (arith, within, asked.0) in
      subst (LiesIn film) (sym (asked.1 place no_task d here).set) (lie place no_task here)

  module _ (are : AreAnswered kind film asks answers) where
    pub looked_all : AreLooked kind film lines limit paths answers
    looked_all = (
      are.count ∙ asked.0,
      λ place p d within.
          looked_from kind film lines limit (get_or paths place p) (get_or asks place d) (get_or answers place d) (asked.1 place p d within)
          (are.each place d (omega (arith, within, asked.0))),
    )

    pub true_all : All (AskedIsTrue kind film) answers
    true_all place d within =
        let here : place < length asks = omega (arith, within, are.count) in
        true_from kind film lines limit (get_or paths place no_task) (get_or asks place d) (get_or answers place d)
        (asked.1 place no_task d (omega (arith, here, asked.0))) (are.each place d here)
