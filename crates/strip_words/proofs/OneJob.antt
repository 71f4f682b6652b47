-- Words name one job, of any kind.
use Rattle.std.proofs.Common.{◌≡◌, ◌≢◌, Bool, true, false, bytes_eq, List, [], ◌∷◌, ap, sym, subst, ◌∙◌, refl, codes}
use Rattle.strip_words.specs.Words.{Word}
use Rattle.strip_words.specs.Solve.{SolveData}
use Rattle.strip_words.specs.Plans.{PlanFilesData}
use Rattle.strip_words.specs.Gen.{GenData, TrialData}
use Rattle.strip_words.specs.Jobs.{JobData, Solve, Price, Arrange, Check, Convert, Dood, Sheet, Board, Gen, Trial, NameJob, NameNoJob}
use Rattle.strip_words.proofs.Solving.{solve_once}
use Rattle.strip_words.proofs.Filming.{file_once}
use Rattle.strip_words.proofs.Planning.{files_once}
use Rattle.strip_words.proofs.Made.{gen_once, trial_once}

-- the word of the job's command
abbrev pub word_of : JobData → Word
word_of (Solve job) = codes "solve"
word_of (Price file) = codes "price"
word_of (Arrange files) = codes "arrange"
word_of (Check files) = codes "check"
word_of (Convert files) = codes "convert"
word_of (Dood files) = codes "dood"
word_of (Sheet files) = codes "sheet"
word_of (Board files) = codes "board"
word_of (Gen film) = codes "gen"
word_of (Trial job) = codes "trial"

-- words that name a job begin with its command's
pub begins_so : (words : List Word) (job : JobData) → NameJob words job → (later : List Word) × (words ≡ word_of job ∷ later)
begins_so words (Solve job) (items, rest, spelled, says) = (_, spelled.spelled)
begins_so words (Price file) (items, rest, spelled, says) = (_, spelled.spelled)
begins_so words (Arrange files) (items, rest, spelled, says) = (_, spelled.spelled)
begins_so words (Check files) (items, rest, spelled, says) = (_, spelled.spelled)
begins_so words (Convert files) (items, rest, spelled, says) = (_, spelled.spelled)
begins_so words (Dood files) (items, rest, spelled, says) = (_, spelled.spelled)
begins_so words (Sheet files) (items, rest, spelled, says) = (_, spelled.spelled)
begins_so words (Board files) (items, rest, spelled, says) = (_, spelled.spelled)
begins_so words (Gen film) (items, rest, spelled, says) = (_, spelled.spelled)
begins_so words (Trial job) (items, rest, spelled, says) = (_, spelled.spelled)

first_same : (a b : Word) (xs ys : List Word) → a ∷ xs ≡ b ∷ ys → a ≡ b
first_same a b xs ys same = cc

pub begins_with : (words : List Word) (job : JobData) (word : Word) (later : List Word) → words ≡ word ∷ later → NameJob words job → word_of job ≡ word
begins_with words job word later is named =
    first_same (word_of job) word (begins_so words job named).0 later (sym (begins_so words job named).1 ∙ is)

-- ---- a job whose command has this word is one of this command

-- one of two types, by a test
abbrev pub IfTrue : Bool → Type 0 → Type 0 → Type 0
IfTrue true this other = this
IfTrue false this other = other

-- there is a command with this word, and the job is one of it
abbrev pub IsOf : Word → JobData → Type 0
IsOf word job =
    IfTrue (bytes_eq word (codes "solve")) ((said : SolveData) × (job ≡ Solve said))
    (IfTrue (bytes_eq word (codes "price")) ((file : Word) × (job ≡ Price file))
    (IfTrue (bytes_eq word (codes "arrange")) ((files : PlanFilesData) × (job ≡ Arrange files))
    (IfTrue (bytes_eq word (codes "check")) ((files : PlanFilesData) × (job ≡ Check files))
    (IfTrue (bytes_eq word (codes "convert")) ((files : PlanFilesData) × (job ≡ Convert files))
    (IfTrue (bytes_eq word (codes "dood")) ((files : PlanFilesData) × (job ≡ Dood files))
    (IfTrue (bytes_eq word (codes "sheet")) ((files : PlanFilesData) × (job ≡ Sheet files))
    (IfTrue (bytes_eq word (codes "board")) ((files : PlanFilesData) × (job ≡ Board files))
    (IfTrue (bytes_eq word (codes "gen")) ((film : GenData) × (job ≡ Gen film))
    (IfTrue (bytes_eq word (codes "trial")) ((said : TrialData) × (job ≡ Trial said))
    ⊥)))))))))

is_of_its_own : (job : JobData) → IsOf (word_of job) job
is_of_its_own (Solve job) = (job, refl)
is_of_its_own (Price file) = (file, refl)
is_of_its_own (Arrange files) = (files, refl)
is_of_its_own (Check files) = (files, refl)
is_of_its_own (Convert files) = (files, refl)
is_of_its_own (Dood files) = (files, refl)
is_of_its_own (Sheet files) = (files, refl)
is_of_its_own (Board files) = (files, refl)
is_of_its_own (Gen film) = (film, refl)
is_of_its_own (Trial job) = (job, refl)

is_of : (word : Word) (job : JobData) → word_of job ≡ word → IsOf word job
is_of word job same = subst (λ word. IsOf word job) same (is_of_its_own job)

-- ---- words name one job

-- two jobs that the same words name are the same if `make` makes each job of the first's command, and the words
-- say what of
same_job : {A : Type 0} (make : A → JobData) (words : List Word) (said : A) (b : JobData)
    → (IsOf (word_of (make said)) b → (other : A) × (b ≡ make other))
    → ((said other : A) → NameJob words (make said) → NameJob words (make other) → said ≡ other)
    → NameJob words (make said) → NameJob words b → make said ≡ b
same_job make words said b only once one two =
    let begins = begins_so words (make said) one in
    let is = only (is_of (word_of (make said)) b (begins_with words b (word_of (make said)) begins.0 begins.1 two)) in
    ap make (once said is.0 one (subst (NameJob words) is.1 two)) ∙ sym is.1

pub one_job : (words : List Word) (a b : JobData) → NameJob words a → NameJob words b → a ≡ b
one_job words (Solve job) b one two = same_job Solve words job b (λ is. is) (solve_once words) one two
one_job words (Price file) b one two = same_job Price words file b (λ is. is) (file_once (codes "price") words) one two
one_job words (Arrange files) b one two = same_job Arrange words files b (λ is. is) (files_once (codes "arrange") words) one two
one_job words (Check files) b one two = same_job Check words files b (λ is. is) (files_once (codes "check") words) one two
one_job words (Convert files) b one two = same_job Convert words files b (λ is. is) (files_once (codes "convert") words) one two
one_job words (Dood files) b one two = same_job Dood words files b (λ is. is) (files_once (codes "dood") words) one two
one_job words (Sheet files) b one two = same_job Sheet words files b (λ is. is) (files_once (codes "sheet") words) one two
one_job words (Board files) b one two = same_job Board words files b (λ is. is) (files_once (codes "board") words) one two
one_job words (Gen film) b one two = same_job Gen words film b (λ is. is) (gen_once words) one two
one_job words (Trial job) b one two = same_job Trial words job b (λ is. is) (trial_once words) one two

module _ (words later : List Word) (word : Word) (begins : words ≡ word ∷ later) where
  -- words that begin with a command's word name no job if `make` makes each job of this command, and they name none of these
  pub none_of : {A : Type 0} (make : A → JobData) → ((job : JobData) → IsOf word job → (said : A) × (job ≡ make said))
      → ((said : A) → ¬ NameJob words (make said)) → NameNoJob words
  none_of make only none job names =
      let is = only job (is_of word job (begins_with words job word later begins names)) in
      none is.0 (subst (NameJob words) is.1 names)

  -- words that begin with none of the commands' words name no job
  pub no_command : word ≢ codes "solve" → word ≢ codes "price" → word ≢ codes "arrange" → word ≢ codes "check" → word ≢ codes "convert"
      → word ≢ codes "dood" → word ≢ codes "sheet" → word ≢ codes "board" → word ≢ codes "gen" → word ≢ codes "trial" → NameNoJob words
  no_command solve price arrange check convert dood sheet board gen trial job names = no_other job (sym (begins_with words job word later begins names))
    where
      no_other : (job : JobData) → word ≢ word_of job
      no_other (Solve job) = solve
      no_other (Price file) = price
      no_other (Arrange files) = arrange
      no_other (Check files) = check
      no_other (Convert files) = convert
      no_other (Dood files) = dood
      no_other (Sheet files) = sheet
      no_other (Board files) = board
      no_other (Gen film) = gen
      no_other (Trial job) = trial

pub no_words : (words : List Word) → words ≡ [] → NameNoJob words
no_words words is job names = never (begins_so words job names).0 (word_of job) (sym is ∙ (begins_so words job names).1)
  where
    never : (later : List Word) (word : Word) → ¬ ([] ≡ word ∷ later)
    never later word same = cc
