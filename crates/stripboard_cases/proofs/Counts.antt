-- Cases counted, file after file.
use Rattle.std.proofs.Common.{◌≡◌, ℕ, ◌+◌, ◌-◌, ◌^◌, ◌<◌, ◌≤◌, min, Bool, true, false, List, [], ◌∷◌, ◌++◌, length, All, Option, Some, None, IfSome, arith, refl, sym, ap, ◌∙◌, append_assoc, String, Global, string_bytes, take, get_or, subst, Result, Ok, Err, OnOk}
use Rattle.std.specs.Option.{option_map}
use Rattle.std.proofs.lemmas.List.{append-nil, map_more, take_all}
use Rattle.std.proofs.lemmas.List.Elements.{All-more, All-nil, All-push}
use Rattle.strip_io.specs.Sink.{Took}
use Rattle.strip_words.specs.Shown.{texts}
use Rattle.stripboard_cases.specs.declared.case.Case.{Case}
use Rattle.stripboard_cases.specs.declared.case.Cases.{Cases}
use Rattle.stripboard_cases.specs.declared.case.Given.{Given}
use Rattle.stripboard_cases.specs.CaseRows.{HasEachCase}
use Rattle.stripboard_cases.specs.Runs.{IsCaseMet}
use Rattle.stripboard_cases.specs.Judged.{AreMet, AreRead, IsCounted, IsReadFrom, cases_in, is_any_unread}

cases_push : (files : List (Option Cases)) (file : Option Cases) → cases_in (files ++ file ∷ []) ≡ cases_in files + cases_in (file ∷ [])
cases_push [] file = omega arith
cases_push (None ∷ later) file = cases_push later file
cases_push (Some cases ∷ later) file = omega (arith, cases_push later file)

unread_pushed : (files : List (Option Cases)) → is_any_unread (files ++ None ∷ []) ≡ true
unread_pushed [] = refl
unread_pushed (None ∷ later) = refl
unread_pushed (Some cases ∷ later) = unread_pushed later

read_pushed : (files : List (Option Cases)) (cases : Cases) → is_any_unread (files ++ Some cases ∷ []) ≡ is_any_unread files
read_pushed [] cases = refl
read_pushed (None ∷ later) cases = refl
read_pushed (Some first ∷ later) cases = read_pushed later cases

pub count_none : IsCounted [] 0 0 false
count_none = record {
  counted = omega arith;
  few = omega arith;
  met = λ none. All-nil (λ file. IfSome file AreMet);
  unread = refl;
}

pub count_unread : (files : List (Option Cases)) (cases differ : ℕ) (is_unread : Bool) → IsCounted files cases differ is_unread → IsCounted (files ++ None ∷ []) cases differ true
count_unread files cases differ is_unread is = record {
  counted = omega (arith, is.counted, cases_push files None);
  few = is.few;
  met = λ none. All-push (λ file. IfSome file AreMet) files None (is.met none) tt;
  unread = sym (unread_pushed files);
}

pub count_read : (files : List (Option Cases)) (read : Cases) (cases differ cases_now differ_now : ℕ) (is_unread is_unread_now : Bool)
    → cases_now ≡ min (cases + length read.cases.items) (2 ^ 64 - 1) → (differ ≤ cases → differ_now ≤ cases_now) → (differ_now ≡ 0 → differ ≡ 0) → (differ_now ≡ 0 → AreMet read)
    → is_unread_now ≡ is_unread → IsCounted files cases differ is_unread → IsCounted (files ++ Some read ∷ []) cases_now differ_now is_unread_now
count_read files read cases differ cases_now differ_now is_unread is_unread_now counted few earlier met same is = record {
  counted = omega (arith, counted, is.counted, cases_push files (Some read));
  few = few is.few;
  met = λ none. All-push (λ file. IfSome file AreMet) files (Some read) (is.met (earlier none)) (met none);
  unread = same ∙ is.unread ∙ sym (read_pushed files read);
}

-- a text is taken where its parts are
pub took_more : (a b c : Option (List ℕ)) (first next : List ℕ) → Took a b first → Took b c next → Took a c (first ++ next)
took_more None b c first next took more = more ∙ ap (option_map (λ (t : List ℕ). t ++ next)) took
took_more (Some t) b c first next took more = more ∙ ap (option_map (λ (t : List ℕ). t ++ next)) took ∙ ap Some (append_assoc t first next)

pub took_none : (a : Option (List ℕ)) → Took a a []
took_none None = refl
took_none (Some text) = ap Some (sym (append-nil text))

pub read_from : (told : Option (List ℕ)) (text : List ℕ) (cases : Cases) → ((bytes : List ℕ) → told ≡ Some bytes → text ≡ bytes) → HasEachCase text cases → IsReadFrom told cases
read_from None text cases same each = (text, tt, each)
read_from (Some bytes) text cases same each = (text, same bytes refl, each)

read_pushed_behind : (told : List ℕ → Option (List ℕ)) (names : List (List ℕ)) (files : List (Option Cases)) (name : List ℕ) (file : Option Cases) → AreRead told names files
    → IfSome file (IsReadFrom (told name)) → AreRead told (names ++ name ∷ []) (files ++ file ∷ [])
read_pushed_behind told [] [] name file are is = (is, tt)
read_pushed_behind told (first ∷ names) (one ∷ files) name file are is = (are.0, read_pushed_behind told names files name file are.1 is)
read_pushed_behind told [] (one ∷ files) name file are is = absurd are
read_pushed_behind told (first ∷ names) [] name file are is = absurd are

pub read_more : (told : List ℕ → Option (List ℕ)) (words : List (String Global)) (i : ℕ) (word : String Global) (files : List (Option Cases)) (file : Option Cases) → i < length words
    → word ≡ get_or words i word → AreRead told (texts (take i words)) files → IfSome file (IsReadFrom (told (string_bytes word))) → AreRead told (texts (take (i + 1) words)) (files ++ file ∷ [])
read_more told words i word files file within is are one =
    let names : texts (take (i + 1) words) ≡ texts (take i words) ++ string_bytes word ∷ [] =
    map_more string_bytes words i word within ∙ ap (λ (w : String Global). texts (take i words) ++ string_bytes w ∷ []) (sym is) in
    subst (λ (n : List (List ℕ)). AreRead told n (files ++ file ∷ [])) (sym names) (read_pushed_behind told (texts (take i words)) files (string_bytes word) file are one)

pub met_more : (shared given : List Given) (all cases : List Case) (i : ℕ) (case : Case) → cases ≡ all → given ≡ shared → i < length cases → case ≡ get_or cases i case
    → All (IsCaseMet shared) (take i all) → IsCaseMet given case → All (IsCaseMet shared) (take (i + 1) all)
met_more shared given all cases i case same as_given within is are met =
    let inside : i < length all = subst (λ (list : List Case). i < length list) same within in
    let at : case ≡ get_or all i case = is ∙ ap (λ (list : List Case). get_or list i case) same in
    All-more (IsCaseMet shared) all i case inside are (subst (λ (x : Case). IsCaseMet shared x) at (subst (λ (files : List Given). IsCaseMet files case) as_given met))

pub met_all : (shared : List Given) (all : List Case) (n : ℕ) → length all ≤ n → All (IsCaseMet shared) (take n all) → All (IsCaseMet shared) all
met_all shared all n most are = subst (All (IsCaseMet shared)) (take_all n all most) are

pub on_ok : {T E P Q : Type 0} (result : Result T E) → (P → Q) → OnOk result P → OnOk result Q
on_ok (Ok x) gives holds = gives holds
on_ok (Err e) gives holds = tt
