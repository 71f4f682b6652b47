-- Files at hand: one that is held anew, and a source that is filled with them.
use Rattle.std.proofs.Common.{◌≡◌, ◌≢◌, ◌↔◌, ℕ, zero, suc, ◌+◌, ◌<◌, ◌++◌, ◌∷◌, [], true, false, Bool, not, List, Option, Some, None, length, take, get_or, String, Global, string_bytes, Contains, arith, refl, sym, subst, ap, ◌∙◌, inl, inr}
use Rattle.std.specs.List.{filter}
use Rattle.std.specs.Option.{is_some, option_map}
use Rattle.std.specs.Str.{bytes_eq}
use Rattle.std.proofs.lemmas.Bool.{cases_Bool}
use Rattle.std.proofs.lemmas.List.Elements.{All-contains, All-contains_itself, All-filter, All-take, Contains-append_left, Contains-push, Contains-push_cases, filter_passes}
use Rattle.std.proofs.lemmas.List.{take_more}
use Rattle.std.proofs.lemmas.Slice.Eq.{bytes_eq-Decides}
use Rattle.strip_io.specs.Held.{HeldFile, found, bytes_of, faults_of, held_data, is_held}
use Rattle.stripboard_cases.specs.declared.case.Base.{Base}
use Rattle.stripboard_cases.specs.declared.case.Base.TheVariants.{Within}
use Rattle.stripboard_cases.specs.declared.case.Held.{Held}
use Rattle.stripboard_cases.specs.Met.{IsHeld}
use Rattle.stripboard_cases.specs.AtHand.{AreApart, HasBytes, IsNowHeld, IsSource}

passed : {X : Type 0} (p : X → Bool) (xs : List X) (x : X) (k : ℕ) → k < length xs → get_or xs k x ≡ x → p x ≡ true → Contains (filter p xs) x
passed p [] x k within is passes = absurd (omega (arith, within))
passed p (y ∷ ys) x zero within is passes =
    rw (ap p is ∙ passes) (zero, omega arith, is)
passed p (y ∷ ys) x (suc k) within is passes =
    let later : Contains (filter p ys) x = passed p ys x k (omega arith) is passes in
    elim (cases_Bool (p y)) [
      | inl is_so ↦ rw is_so (suc later.0, omega (arith, later.1), later.2)
      | inr is_not ↦ rw is_not later
    ]

was_there : {X : Type 0} (p : X → Bool) (xs : List X) (x : X) → Contains (filter p xs) x → Contains xs x
was_there p xs x there = All-contains (Contains xs) (filter p xs) x (All-filter p (Contains xs) xs (All-contains_itself xs)) there

abbrev pub is_other : List ℕ → Held → Bool
is_other name held = not (bytes_eq (string_bytes held.name) name)

is_other_passes : (name : List ℕ) (held : Held) → string_bytes held.name ≢ name → is_other name held ≡ true
is_other_passes name held apart = elim (cases_Bool (bytes_eq (string_bytes held.name) name)) [
  | inl is ↦ absurd (apart ((bytes_eq-Decides (string_bytes held.name) name).0 is))
  | inr not_it ↦ ap not not_it
]

is_other_says : (name : List ℕ) (held : Held) → is_other name held ≡ true → string_bytes held.name ≢ name
is_other_says name held passes same =
    let is : bytes_eq (string_bytes held.name) name ≡ true = (bytes_eq-Decides (string_bytes held.name) name).1 same in
    let falls : false ≡ true = sym (ap not is) ∙ passes in
    cc

-- the others are kept, and the new one stands behind them
pub now_held : (before after : List Held) (held : Held) (name bytes : List ℕ) → after ≡ filter (is_other name) before ++ held ∷ []
    → string_bytes held.name ≡ name → held.bytes.items ≡ bytes → IsNowHeld name bytes before after
now_held before after held name bytes is named has =
    let kept = filter (is_other name) before in
    subst (λ (list : List Held). IsNowHeld name bytes before list) (sym is) (record {
      held = (held, Contains-push kept held, named, has);
      alone = λ other there. elim (Contains-push_cases kept held there.0 there.1) [
        | inl earlier ↦ absurd (is_other_says name there.0 (All-contains (λ x. is_other name x ≡ true) kept there.0 (filter_passes (is_other name) before) earlier) there.2)
        | inr same ↦ sym there.3 ∙ ap (λ (file : Held). file.bytes.items) (sym same) ∙ has
      ];
      others = λ other text apart. (
        (λ there. elim (Contains-push_cases kept held there.0 there.1) [
          | inl earlier ↦ (there.0, was_there (is_other name) before there.0 earlier, there.2, there.3)
          | inr same ↦ absurd (apart (sym there.2 ∙ ap (λ (file : Held). string_bytes file.name) (sym same) ∙ named))
        ]),
        (λ there.
            let passes = is_other_passes name there.0 (λ same. apart (sym there.2 ∙ same)) in
            (there.0, Contains-append_left kept (held ∷ []) there.0 (passed (is_other name) before there.0 there.1.0 there.1.1 there.1.2 passes), there.2, there.3)),
      );
    })

pub apart_now : (name bytes : List ℕ) (before after : List Held) → AreApart before → IsNowHeld name bytes before after → AreApart after
apart_now name bytes before after apart now = record {
  same = λ other one two first second. elim (cases_Bool (bytes_eq other name)) [
    | inl is ↦
        let at : other ≡ name = (bytes_eq-Decides other name).0 is in
        now.alone one (subst (λ (n : List ℕ). IsHeld after n one) at first) ∙ sym (now.alone two (subst (λ (n : List ℕ). IsHeld after n two) at second))
    | inr is_not ↦
        let differs : other ≢ name = λ same. let is_so : bytes_eq other name ≡ true = (bytes_eq-Decides other name).1 same in let falls : false ≡ true = sym is_not ∙ is_so in cc in
        apart.same other one two ((now.others other one differs).0 first) ((now.others other two differs).0 second)
  ];
}

pub apart_none : AreApart []
apart_none = record { same = λ name one other there. absurd (omega (arith, there.1.1)) }

-- a name is held where its bytes are told
held_told : (files : List HeldFile) (name : List ℕ) (there : Option HeldFile) → found files name ≡ there → is_some there ≡ true → (bytes : List ℕ) × (bytes_of files name ≡ Some bytes)
held_told files name None is held = absurd (let falls : false ≡ true = held in cc)
held_told files name (Some file) is held = (file.bytes, ap (option_map (λ (f : HeldFile). f.bytes)) is)

told_held : (files : List HeldFile) (name bytes : List ℕ) (there : Option HeldFile) → found files name ≡ there → option_map (λ (f : HeldFile). f.bytes) there ≡ Some bytes → is_held files name ≡ true
told_held files name bytes None is told = absurd (cc)
told_held files name bytes (Some file) is told = ap is_some is

source_by : (files : List Held) (source : List HeldFile) → ((name bytes : List ℕ) → (bytes_of source name ≡ Some bytes) ↔ IsHeld files name bytes) → ((name : List ℕ) → faults_of source name ≡ 0)
    → IsSource files (held_data source)
source_by files source told unread = record {
  told = told;
  held = λ name. (
    (λ held. let some = held_told source name (found source name) refl held in (some.0, (told name some.0).0 some.1)),
    (λ some. told_held source name some.0 (found source name) refl ((told name some.0).1 some.1)),
  );
  unread = unread;
}

pub source_none : IsSource [] (held_data [])
source_none = source_by [] [] (λ name bytes. ((λ told. absurd (cc)), (λ there. absurd (omega (arith, there.1.1))))) (λ name. refl)

pub source_push : (seen : List Held) (held : Held) (before after : List HeldFile) → AreApart (seen ++ held ∷ []) → IsSource seen (held_data before)
    → bytes_of after (string_bytes held.name) ≡ Some held.bytes.items
    → ((other : List ℕ) → other ≢ string_bytes held.name → bytes_of after other ≡ bytes_of before other)
    → ((other : List ℕ) → faults_of after other ≡ faults_of before other) → IsSource (seen ++ held ∷ []) (held_data after)
source_push seen held before after apart is told others counts =
    let here : IsHeld (seen ++ held ∷ []) (string_bytes held.name) held.bytes.items = (held, Contains-push seen held, refl, refl) in
    source_by (seen ++ held ∷ []) after (λ name bytes. elim (cases_Bool (bytes_eq name (string_bytes held.name))) [
      | inl is_so ↦
          let at : name ≡ string_bytes held.name = (bytes_eq-Decides name (string_bytes held.name)).0 is_so in (
            (λ says.
                let same : held.bytes.items ≡ bytes = let both : Some held.bytes.items ≡ Some bytes = sym told ∙ ap (bytes_of after) (sym at) ∙ says in cc in
                (held, Contains-push seen held, sym at, same)),
            (λ there.
                ap (bytes_of after) at ∙ told ∙ ap Some (apart.same (string_bytes held.name) held.bytes.items bytes here (subst (λ (n : List ℕ). IsHeld (seen ++ held ∷ []) n bytes) at there))),
          )
      | inr is_not ↦
          let differs : name ≢ string_bytes held.name = λ same. let is_it : bytes_eq name (string_bytes held.name) ≡ true = (bytes_eq-Decides name (string_bytes held.name)).1 same in let falls : false ≡ true = sym is_not ∙ is_it in cc in (
            (λ says.
                let earlier = (is.told name bytes).0 (sym (others name differs) ∙ says) in
                (earlier.0, Contains-append_left seen (held ∷ []) earlier.0 earlier.1, earlier.2, earlier.3)),
            (λ there. elim (Contains-push_cases seen held there.0 there.1) [
              | inl earlier ↦ others name differs ∙ (is.told name bytes).1 (there.0, earlier, there.2, there.3)
              | inr same ↦ absurd (differs (sym there.2 ∙ ap (λ (file : Held). string_bytes file.name) (sym same)))
            ]),
          )
    ]) (λ name. counts name ∙ is.unread name)

pub apart_take : (files : List Held) (n : ℕ) → AreApart files → AreApart (take n files)
apart_take files n apart = record {
  same = λ name one other first second. apart.same name one other (within name one first) (within name other second);
}
  where
    within : (name bytes : List ℕ) → IsHeld (take n files) name bytes → IsHeld files name bytes
    within name bytes there = (there.0, All-contains (Contains files) (take n files) there.0 (All-take (Contains files) n files (All-contains_itself files)) there.1, there.2, there.3)

pub source_more : (files : List Held) (i : ℕ) (held : Held) (before after : List HeldFile) → AreApart files → i < length files → held ≡ get_or files i held
    → IsSource (take i files) (held_data before) → bytes_of after (string_bytes held.name) ≡ Some held.bytes.items
    → ((other : List ℕ) → other ≢ string_bytes held.name → bytes_of after other ≡ bytes_of before other)
    → ((other : List ℕ) → faults_of after other ≡ faults_of before other) → IsSource (take (i + 1) files) (held_data after)
source_more files i held before after apart within at is told others counts =
    let more : take (i + 1) files ≡ take i files ++ held ∷ [] = take_more files i held within ∙ ap (λ (file : Held). take i files ++ file ∷ []) (sym at) in
    subst (λ (list : List Held). IsSource list (held_data after)) (sym more)
    (source_push (take i files) held before after (subst AreApart more (apart_take files (i + 1) apart)) is told others counts)

pub within_held : (files : List Held) (base : Base) (of : String Global) (row : ℕ) (rows bytes whole : List ℕ) → base ≡ Within of row → IsHeld files (string_bytes of) whole
    → HasBytes files base rows bytes
within_held files base of row rows bytes whole is held = subst (λ (b : Base). HasBytes files b rows bytes) (sym is) (whole, held)
