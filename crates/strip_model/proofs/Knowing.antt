-- What is known of pairs, with a pair more.
use Rattle.std.proofs.Common.{◌≡◌, ◌↔◌, ℕ, ◌+◌, ◌<◌, ◌≤◌, ◌⊎◌, Bool, true, false, ◌||◌, ◌&&◌, eqb, List, [], ◌∷◌, ◌++◌, length, get_or, set, replicate, Contains, refl, sym, ap, ◌∙◌, subst, arith, inl, inr}
use Rattle.std.proofs.lemmas.Bool.{cases_eq, or_cases, and_parts}
use Rattle.std.proofs.lemmas.Bool.Decides.{nat_tests}
use Rattle.std.proofs.lemmas.List.{get_or-replicate, get_or-set_same, get_or-set_other, length-set}
use Rattle.std.proofs.lemmas.List.Elements.{Contains-append_left, Contains-push, Contains-push_cases}
use Rattle.strip_model.specs.declared.befores.Befores.{Befores}
use Rattle.strip_model.specs.declared.pair.Pair.{Pair}
use Rattle.strip_model.specs.declared.scene_set.SceneSet.{SceneSet}
use Rattle.strip_model.specs.Befores.{Knows, has_scene, no_scenes, stands_to, leads_to}
use Rattle.strip_model.specs.Pairs.{Precedes, Leads}
use Rattle.strip_mask.proofs.Lists.{contains_none}
use Rattle.std.proofs.Math.Bool.{or-false, or-true}
use Rattle.strip_model.proofs.Leads.{no_chain, Reaches, LeadsBy, leads-push, leads_by_known}

-- the set at this place
abbrev pub set_at : List SceneSet → ℕ → SceneSet
set_at sets place = get_or sets place no_scenes

pub stands_to-is : (befores : Befores) (from to : ℕ) → stands_to befores from to ≡ has_scene (set_at befores.standing from) to
unfolding stands_to
stands_to-is befores from to = refl

pub leads_to-is : (befores : Befores) (from to : ℕ) → leads_to befores from to ≡ has_scene (set_at befores.leading from) to
unfolding leads_to
leads_to-is befores from to = refl

-- nothing is known of no pairs
pub knows_none : (none : SceneSet) → ((scene : ℕ) → has_scene none scene ≡ false) → Knows (record { standing = replicate 200 none; leading = replicate 200 none }) []
knows_none none empty = record {
  stands = λ from to small _. (
    λ yes. absurd (let not : stands_to (record { standing = replicate 200 none; leading = replicate 200 none }) from to ≡ false
        = stands_to-is (record { standing = replicate 200 none; leading = replicate 200 none }) from to ∙ not_there from to small in cc),
    λ there. absurd (contains_none (record { first = from; then = to }) there),
  );
  leads = λ from to small _. (
    λ yes. absurd (let not : leads_to (record { standing = replicate 200 none; leading = replicate 200 none }) from to ≡ false
        = leads_to-is (record { standing = replicate 200 none; leading = replicate 200 none }) from to ∙ not_there from to small in cc),
    λ leads. absurd (no_chain from leads.0 to leads.1),
  );
}
  where
    not_there : (from to : ℕ) → from < 200 → has_scene (set_at (replicate 200 none) from) to ≡ false
    not_there from to small = ap (λ (one : SceneSet). has_scene one to) (get_or-replicate 200 from none no_scenes small) ∙ empty to

-- ---- a pair more

or_holds : (a b : Bool) (A B : Type 0) → (a ≡ true) ↔ A → (b ≡ true) ↔ B → ((a || b) ≡ true) ↔ (A ⊎ B)
or_holds a b A B one other = (
  λ yes. elim (or_cases a b yes) [ inl is ↦ inl (one.0 is) | inr is ↦ inr (other.0 is) ],
  λ fact. elim fact [ inl is ↦ rw (one.1 is) refl | inr is ↦ rw (other.1 is) (or-true a) ],
)

and_holds : (a b : Bool) (A B : Type 0) → (a ≡ true) ↔ A → (b ≡ true) ↔ B → ((a && b) ≡ true) ↔ (A × B)
and_holds a b A B one other = (
  λ yes. (let parts = and_parts a b yes in (one.0 parts.0, other.0 parts.1)),
  λ fact. rw (one.1 fact.0, other.1 fact.1) refl,
)

tie_holds : (a b : ℕ) → (eqb a b ≡ true) ↔ (a ≡ b)
tie_holds a b = (λ yes. grind (arith, nat_tests), λ same. grind (arith, nat_tests))

-- with the pair more, by the marks
abbrev pub leads_by : Befores → Pair → ℕ → ℕ → Bool
leads_by befores pair from to =
    leads_to befores from to || ((eqb from pair.first || leads_to befores from pair.first) && (eqb pair.then to || leads_to befores pair.then to))

module _ (pairs : List Pair) (pair : Pair) (before : Befores) (first_small : pair.first < 200) (then_small : pair.then < 200) (knows : Knows before pairs) where
  pub leads_by_holds : (from to : ℕ) → from < 200 → to < 200 → (leads_by before pair from to ≡ true) ↔ LeadsBy pairs pair from to
  leads_by_holds from to from_small to_small = or_holds (leads_to before from to) _ (Leads pairs from to) (Reaches pairs from pair.first × Reaches pairs pair.then to) (knows.leads from to from_small to_small)
      (and_holds (eqb from pair.first || leads_to before from pair.first) (eqb pair.then to || leads_to before pair.then to) (Reaches pairs from pair.first) (Reaches pairs pair.then to)
      (or_holds (eqb from pair.first) (leads_to before from pair.first) (from ≡ pair.first) (Leads pairs from pair.first) (tie_holds from pair.first) (knows.leads from pair.first from_small first_small))
      (or_holds (eqb pair.then to) (leads_to before pair.then to) (pair.then ≡ to) (Leads pairs pair.then to) (tie_holds pair.then to) (knows.leads pair.then to then_small to_small)))

  -- the pair stands now, and of where scenes lead to either nothing changed or all that the pair tells
  module _ (after : Befores)
      (stands : (from to : ℕ) → to < 200 → stands_to after from to ≡ ((eqb pair.first from && eqb pair.then to) || stands_to before from to)) where
    stands_more : (from to : ℕ) → from < 200 → to < 200 → (stands_to after from to ≡ true) ↔ Precedes (pairs ++ pair ∷ []) from to
    stands_more from to from_small to_small =
        let held : (((eqb pair.first from && eqb pair.then to) || stands_to before from to) ≡ true) ↔ (((pair.first ≡ from) × (pair.then ≡ to)) ⊎ Precedes pairs from to)
        = or_holds (eqb pair.first from && eqb pair.then to) (stands_to before from to) ((pair.first ≡ from) × (pair.then ≡ to)) (Precedes pairs from to)
        (and_holds (eqb pair.first from) (eqb pair.then to) (pair.first ≡ from) (pair.then ≡ to) (tie_holds pair.first from) (tie_holds pair.then to)) (knows.stands from to from_small to_small) in (
          λ yes. elim (held.0 (sym (stands from to to_small) ∙ yes)) [
            | inl same ↦ subst (Contains (pairs ++ pair ∷ [])) (λ i. record { first = same.0 i; then = same.1 i }) (Contains-push pairs pair)
            | inr there ↦ Contains-append_left pairs (pair ∷ []) (record { first = from; then = to }) there
          ],
          λ there. stands from to to_small ∙ held.1 (elim (Contains-push_cases pairs pair (record { first = from; then = to }) there) [
            | inl earlier ↦ inr earlier
            | inr same ↦ inl (ap (λ (p : Pair). p.first) same, ap (λ (p : Pair). p.then) same)
          ]),
        )

    pub knows_led_on : ((from to : ℕ) → from < 200 → to < 200 → leads_to after from to ≡ leads_by before pair from to) → Knows after (pairs ++ pair ∷ [])
    knows_led_on made = record {
      stands = stands_more;
      leads = λ from to from_small to_small. (let held = leads_by_holds from to from_small to_small in let push = leads-push pairs pair from to in (
        λ yes. push.1 (held.0 (sym (made from to from_small to_small) ∙ yes)),
        λ leads. made from to from_small to_small ∙ held.1 (push.0 leads),
      ));
    }

    pub knows_nothing_new : Leads pairs pair.first pair.then → ((from to : ℕ) → leads_to after from to ≡ leads_to before from to) → Knows after (pairs ++ pair ∷ [])
    knows_nothing_new known same = record {
      stands = stands_more;
      leads = λ from to from_small to_small. (let held = knows.leads from to from_small to_small in let push = leads-push pairs pair from to in (
        λ yes. push.1 (inl (held.0 (sym (same from to) ∙ yes))),
        λ leads. same from to ∙ held.1 (leads_by_known pairs pair from to known (push.0 leads)),
      ));
    }

-- the marks of standing pairs, with one more
pub stands-set : (before : Befores) (pair : Pair) (made : SceneSet) (leading : List SceneSet) (from to : ℕ) → pair.first < length before.standing
    → has_scene made to ≡ (eqb pair.then to || has_scene (set_at before.standing pair.first) to)
    → stands_to (record { standing = set before.standing pair.first made; leading = leading }) from to ≡ ((eqb pair.first from && eqb pair.then to) || stands_to before from to)
stands-set before pair made leading from to room is =
    stands_to-is (record { standing = set before.standing pair.first made; leading = leading }) from to ∙ rw (stands_to-is before from to) (elim (cases_eq from pair.first) [
      | inl same ↦ rw same (ap (λ (one : SceneSet). has_scene one to) (get_or-set_same before.standing pair.first made no_scenes room) ∙ is
          ∙ (let tie : eqb pair.first pair.first ≡ true = grind (arith, nat_tests) in rw tie refl))
      | inr other ↦ ap (λ (one : SceneSet). has_scene one to) (get_or-set_other before.standing pair.first from made no_scenes other)
          ∙ (let tie : eqb pair.first from ≡ false = grind (arith, nat_tests) in rw tie refl)
    ])

-- the pair is marked as one that stands, behind what was marked of where scenes lead to
module _ (pairs : List Pair) (pair : Pair) (before middle : Befores) (made : SceneSet) (first_small : pair.first < 200) (then_small : pair.then < 200) (knows : Knows before pairs)
    (size : length middle.standing ≡ 200) (same : middle.standing ≡ before.standing)
    (is : (to : ℕ) → to < 256 → has_scene made to ≡ (eqb pair.then to || has_scene (set_at middle.standing pair.first) to)) where
  stands_after : (from to : ℕ) → to < 200 → stands_to (record { standing = set middle.standing pair.first made; leading = middle.leading }) from to
      ≡ ((eqb pair.first from && eqb pair.then to) || stands_to before from to)
  stands_after from to small = stands-set middle pair made middle.leading from to (omega arith) (is to (omega arith))
      ∙ ap (λ (b : Bool). (eqb pair.first from && eqb pair.then to) || b)
      (stands_to-is middle from to ∙ ap (λ (sets : List SceneSet). has_scene (set_at sets from) to) same ∙ sym (stands_to-is before from to))

  pub added_new : ((from to : ℕ) → from < 200 → to < 200 → leads_to middle from to ≡ leads_by before pair from to)
      → Knows (record { standing = set middle.standing pair.first made; leading = middle.leading }) (pairs ++ pair ∷ [])
  added_new led = knows_led_on pairs pair before first_small then_small knows (record { standing = set middle.standing pair.first made; leading = middle.leading }) stands_after
      (λ from to from_small to_small. leads_to-is (record { standing = set middle.standing pair.first made; leading = middle.leading }) from to ∙ sym (leads_to-is middle from to) ∙ led from to from_small to_small)

  pub added_known : middle.leading ≡ before.leading → Leads pairs pair.first pair.then
      → Knows (record { standing = set middle.standing pair.first made; leading = middle.leading }) (pairs ++ pair ∷ [])
  added_known kept known = knows_nothing_new pairs pair before first_small then_small knows (record { standing = set middle.standing pair.first made; leading = middle.leading }) stands_after known
      (λ from to. leads_to-is (record { standing = set middle.standing pair.first made; leading = middle.leading }) from to
      ∙ ap (λ (sets : List SceneSet). has_scene (set_at sets from) to) kept ∙ sym (leads_to-is before from to))

-- ---- scene after scene

or_twice : (a b d : Bool) → ((a || (b && d)) || d) ≡ (a || d)
or_twice true b d = refl
or_twice false true true = refl
or_twice false true false = refl
or_twice false false d = refl

-- of the scenes before this one, those that lead to the first scene lead on
pub record AreLedOn (turn first : ℕ) (later : SceneSet) (before now : List SceneSet) : Type 0 where
  pub done : (from to : ℕ) → from < turn → to < 256
      → has_scene (set_at now from) to ≡ (has_scene (set_at before from) to || (has_scene (set_at before from) first && has_scene later to))
  pub to_do : (from : ℕ) → turn ≤ from → set_at now from ≡ set_at before from
  pub size : length now ≡ 200

module _ (turn first : ℕ) (later : SceneSet) (before now : List SceneSet) (in_range : turn < 200) (are : AreLedOn turn first later before now) where
  pub led_on-more : (made : SceneSet) → has_scene (set_at now turn) first ≡ true
      → ((to : ℕ) → to < 256 → has_scene made to ≡ (has_scene (set_at now turn) to || has_scene later to)) → AreLedOn (turn + 1) first later before (set now turn made)
  led_on-more made behind is = record {
    done = λ from to lt small. elim (cases_eq from turn) [
      | inl same ↦ rw same (ap (λ (one : SceneSet). has_scene one to) (get_or-set_same now turn made no_scenes (omega (arith, are.size))) ∙ is to small
          ∙ rw (are.to_do turn (omega arith)) (let so : has_scene (set_at before turn) first ≡ true
          = subst (λ (one : SceneSet). has_scene one first ≡ true) (are.to_do turn (omega arith)) behind in rw so refl))
      | inr other ↦ ap (λ (one : SceneSet). has_scene one to) (get_or-set_other now turn from made no_scenes other) ∙ are.done from to (omega arith) small
    ];
    to_do = λ from le. get_or-set_other now turn from made no_scenes (omega arith) ∙ are.to_do from (omega arith);
    size = simp length-set are.size;
  }

  pub led_on-same : has_scene (set_at now turn) first ≡ false → AreLedOn (turn + 1) first later before now
  led_on-same free = record {
    done = λ from to lt small. elim (cases_eq from turn) [
      | inl same ↦ rw same (rw (are.to_do turn (omega arith)) (let so : has_scene (set_at before turn) first ≡ false
          = subst (λ (one : SceneSet). has_scene one first ≡ false) (are.to_do turn (omega arith)) free in rw so (sym (or-false (has_scene (set_at before turn) to)))))
      | inr other ↦ are.done from to (omega arith) small
    ];
    to_do = λ from le. are.to_do from (omega arith);
    size = are.size;
  }

-- and at last the first scene itself
pub led_on-all : (pair : Pair) (later made : SceneSet) (before : Befores) (standing now : List SceneSet) (from to : ℕ) → pair.first < 200 → from < 200 → to < 200
    → AreLedOn 200 pair.first later before.leading now
    → ((other : ℕ) → other < 256 → has_scene later other ≡ (eqb pair.then other || has_scene (set_at before.leading pair.then) other))
    → ((other : ℕ) → other < 256 → has_scene made other ≡ (has_scene (set_at now pair.first) other || has_scene later other))
    → leads_to (record { standing = standing; leading = set now pair.first made }) from to ≡ leads_by before pair from to
led_on-all pair later made before standing now from to first_small from_small to_small are is made_is =
    leads_to-is (record { standing = standing; leading = set now pair.first made }) from to
    ∙ rw (leads_to-is before from to, leads_to-is before from pair.first, leads_to-is before pair.then to) (by_cases (is to (omega arith)))
  where
    by_cases : has_scene later to ≡ (eqb pair.then to || has_scene (set_at before.leading pair.then) to)
        → has_scene (set_at (set now pair.first made) from) to ≡ (has_scene (set_at before.leading from) to
        || ((eqb from pair.first || has_scene (set_at before.leading from) pair.first) && (eqb pair.then to || has_scene (set_at before.leading pair.then) to)))
    by_cases later_is = rw (sym later_is) (elim (cases_eq from pair.first) [
      | inl same ↦ rw same (ap (λ (one : SceneSet). has_scene one to) (get_or-set_same now pair.first made no_scenes (omega (arith, are.size))) ∙ made_is to (omega arith)
          ∙ rw (are.done pair.first to first_small (omega arith)) (let tie : eqb pair.first pair.first ≡ true = grind (arith, nat_tests) in
          rw tie (or_twice (has_scene (set_at before.leading pair.first) to) (has_scene (set_at before.leading pair.first) pair.first) (has_scene later to))))
      | inr other ↦ ap (λ (one : SceneSet). has_scene one to) (get_or-set_other now pair.first from made no_scenes other) ∙ are.done from to from_small (omega arith)
          ∙ (let tie : eqb from pair.first ≡ false = grind (arith, nat_tests) in rw tie refl)
    ])
