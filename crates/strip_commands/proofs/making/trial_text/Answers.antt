use Rattle.std.proofs.Common.{◌∙◌, ℕ, List, [], ◌∷◌, ◌++◌, codes, ap}
use Rattle.strip_text.specs.Rows.{csv_row}
use Rattle.strip_answer.proofs.Given.{of_ok}
use Rattle.strip_commands.proofs.making.trial_text.Goals as goal

pub returns : goal.returns
returns c =
    let number = c.as_bytes.ensures.value ∙ c.in_ok-number.ensures.ok in
    let scenes = c.as_bytes-2.ensures.value ∙ c.in_ok-scenes.ensures.ok in
    let actors = c.as_bytes-3.ensures.value ∙ c.in_ok-actors.ensures.ok in
    let classes = c.as_bytes-4.ensures.value ∙ c.in_ok-classes.ensures.ok in
    let cost = c.as_bytes-5.ensures.value ∙ c.in_ok-cost.ensures.ok in
    let bound = c.as_bytes-6.ensures.value ∙ c.in_ok-bound.ensures.ok in
    let lines = c.as_bytes-7.ensures.value ∙ c.in_ok-lines.ensures.ok in
    let fields = codes "trial" ∷ c.as_bytes.result.now ∷ c.as_bytes-2.result.now ∷ c.as_bytes-3.result.now ∷ c.as_bytes-4.result.now
    ∷ c.status_word.result.now ∷ c.as_bytes-5.result.now ∷ c.as_bytes-6.result.now ∷ c.as_bytes-7.result.now ∷ codes "accepted" ∷ [] in
    let text = c.in_ok-push.ensures ∙ ap (λ (front : List ℕ). front ++ csv_row fields) c.new-text.ensures
    ∙ (λ i. csv_row (codes "trial" ∷ number i ∷ scenes i ∷ actors i ∷ classes i ∷ c.status_word.ensures i ∷ cost i ∷ bound i ∷ lines i ∷ codes "accepted" ∷ [])) in
    of_ok _ _ c.into_bytes.result (λ bytes is. is ∙ text) c.into_bytes.ensures
