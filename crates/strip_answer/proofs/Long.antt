-- Files that are too long.
use Rattle.std.proofs.Common.{◌≡◌, ◌+◌, ◌<◌, ◌≤◌, ℕ, leb, List, length, replicate, Option, None, Some, Err, refl, arith}
use Rattle.std.proofs.lemmas.Bool.{cond-false, cond-true, le-leb, lt-leb}
use Rattle.std.proofs.lemmas.List.{length-replicate}
use Rattle.strip_io.specs.Counts.{CameAtLeast}
use Rattle.strip_model.specs.Data.{InstanceData}
use Rattle.strip_instance.specs.Text.{says as film_says}
use Rattle.strip_proof.specs.Text.{says as plan_says}
use Rattle.strip_io.specs.Files.{FilesData}
use Rattle.strip_answer.specs.Input.{HasInput}
use Rattle.strip_answer.specs.Said.{film_of_says, film_said, plan_of_says, plan_said, too_long_told}

-- where a text is told it is too long, and where it isn't told there is such a text
long_text : (limit : ℕ) (told : Option (List ℕ)) → ((bytes : List ℕ) → told ≡ Some bytes → limit < length bytes)
    → (text : List ℕ) × ((bytes : List ℕ) → told ≡ Some bytes → text ≡ bytes) × (limit < length text)
long_text limit None long =
    (replicate {A = ℕ} (limit + 1) 0, (λ bytes same. absurd (never bytes same)), omega (arith, length-replicate {A = ℕ} (limit + 1) 0))
  where
    never : (bytes : List ℕ) → None ≡ Some bytes → ⊥
    never bytes same = cc
long_text limit (Some text) long = (text, (λ bytes same. some_same bytes same), long text refl)
  where
    some_same : (bytes : List ℕ) → Some text ≡ Some bytes → text ≡ bytes
    some_same bytes same = cc

-- a file that is too long has a text of which all holds that holds of texts too long
pub long_input : (name : List ℕ) (limit : ℕ) (before after : FilesData) (P : List ℕ → Type 0)
    → ((bytes : List ℕ) → before.bytes name ≡ Some bytes → limit < length bytes) → CameAtLeast (limit + 1) (before.came name) (after.came name)
    → ((text : List ℕ) → limit < length text → P text) → HasInput name limit before after P
long_input name limit before after P long came holds =
    let text = long_text limit (before.bytes name) long in
    record {
      text = text.0;
      told = text.1;
      came = λ short. absurd (omega (arith, short, text.2));
      too_many = λ more. came;
      holds = holds text.0 text.2;
    }

pub long_film : (text : List ℕ) → 1_048_576 < length text → film_said text ≡ Err (Some too_long_told)
long_film text long = cond-false (leb (length text) 1_048_576) (film_of_says (film_says text)) (Err (Some too_long_told)) (lt-leb (length text) 1_048_576 long)

pub long_plan : (inst : InstanceData) (text : List ℕ) → 1_073_741_824 < length text → plan_said inst text ≡ Err (Some too_long_told)
long_plan inst text long =
    cond-false (leb (length text) 1_073_741_824) (plan_of_says (plan_says inst text)) (Err (Some too_long_told)) (lt-leb (length text) 1_073_741_824 long)

pub short_film : (text : List ℕ) → length text ≤ 1_048_576 → film_said text ≡ film_of_says (film_says text)
short_film text short = cond-true (leb (length text) 1_048_576) (film_of_says (film_says text)) (Err (Some too_long_told)) (le-leb (length text) 1_048_576 short)
