-- The prices of a day, by who is here of the newcomers.
use Rattle.std.proofs.Common.{◌≡◌, ◌≢◌, ℕ, ◌+◌, ◌^◌, ◌<◌, Bool, true, false, not, ◌&&◌, cond, min, List, [], ◌∷◌, slice_index, refl, sym, ap, ◌∙◌, arith}
use Rattle.std.proofs.lemmas.Bool.{false≢true, false_from_ne_true}
use Rattle.strip_mask.specs.Set.{has, meet, minus, sum_over}
use Rattle.strip_mask.proofs.ByMembers.{has-minus, same_has}
use Rattle.strip_group.specs.Group.{GroupData}
use Rattle.strip_group.specs.Places.{pick}
use Rattle.strip_arrivals.specs.Arrivals.{actors_of, mates}
use Rattle.strip_arrivals.specs.Company.{AreMates, ArePrices, AreRates, IsCompany, staying}
use Rattle.strip_arrivals.specs.Gross.{gross_price, least_paid}
use Rattle.strip_group.proofs.Places.{actor_there, has_from_pick}
use Rattle.strip_arrivals.proofs.Waits.{nobody_waits, one_waits, two_wait}

-- those of a group at some places are those who haven't left
pub still_picked : (group places : ℕ) → minus group (minus group (pick group places)) ≡ pick group places
still_picked group places = same_has (minus group (minus group (pick group places))) (pick group places) (λ i.
    has-minus group (minus group (pick group places)) i ∙ ap (λ b. has group i && not b) (has-minus group (pick group places) i)
    ∙ kept (has group i) (has (pick group places) i) (λ there. let found = has_from_pick group places i there in ap (has group) (sym found.3) ∙ actor_there group found.0 found.1))
  where
    kept : (g p : Bool) → (p ≡ true → g ≡ true) → (g && not (g && not p)) ≡ p
    kept true true within = refl
    kept true false within = refl
    kept false true within = absurd (false≢true (within refl))
    kept false false within = refl

-- what is paid where one is here and doesn't work
off_one : (b : Bool) (paid last : ℕ) → b ≡ false → cond {A = ℕ} b (cond {A = ℕ} b 0 paid) (min (cond {A = ℕ} b 0 paid) last) ≡ min last paid
off_one true paid last is = absurd (false≢true (sym is))
off_one false paid last is = omega arith

-- and where he does
on_one : (b : Bool) (paid last : ℕ) → b ≡ true → cond {A = ℕ} b (cond {A = ℕ} b 0 paid) (min (cond {A = ℕ} b 0 paid) last) ≡ 0
on_one true paid last is = refl
on_one false paid last is = absurd (false≢true is)

-- the least where two are here, by who of them works
abbrev of_two : Bool → Bool → ℕ → ℕ → ℕ → ℕ → ℕ
of_two f s first second last all =
    cond {A = ℕ} s (cond {A = ℕ} f 0 first + cond {A = ℕ} s 0 second)
    (cond {A = ℕ} f (min (cond {A = ℕ} f 0 first + cond {A = ℕ} s 0 second) (cond {A = ℕ} f 0 first + last))
    (min (min (cond {A = ℕ} f 0 first + cond {A = ℕ} s 0 second) (cond {A = ℕ} f 0 first + last)) all))

-- both work
both_on : (f s : Bool) (first second last all : ℕ) → f ≡ true → s ≡ true → of_two f s first second last all ≡ 0
both_on true true first second last all is is_too = omega arith
both_on false s first second last all is is_too = absurd (false≢true is)
both_on true false first second last all is is_too = absurd (false≢true is_too)

-- the first works
first_on : (f s : Bool) (first second last all : ℕ) → f ≡ true → s ≡ false → of_two f s first second last all ≡ min last second
first_on true false first second last all is is_too = omega arith
first_on false s first second last all is is_too = absurd (false≢true is)
first_on true true first second last all is is_too = absurd (false≢true (sym is_too))

-- the second works
second_on : (f s : Bool) (first second last all : ℕ) → f ≡ false → s ≡ true → of_two f s first second last all ≡ first
second_on false true first second last all is is_too = omega arith
second_on true s first second last all is is_too = absurd (false≢true (sym is))
second_on false false first second last all is is_too = absurd (false≢true is_too)

-- neither works
none_on : (f s : Bool) (first second last all : ℕ) → f ≡ false → s ≡ false → of_two f s first second last all ≡ min all (first + min last second)
none_on false false first second last all is is_too = omega arith
none_on true s first second last all is is_too = absurd (false≢true (sym is))
none_on false true first second last all is is_too = absurd (false≢true (sym is_too))

module _ (film : GroupData) (set group newcomers : ℕ) (known : IsCompany film set group newcomers) (count : ℕ) (rates : ℕ → ℕ) (are_rates : AreRates film group count rates)
    (coming gone : ℕ) where
  -- what those of the group who are here get, and what is paid at least for those who came
  priced : (here : List ℕ) (these places price least : ℕ) → places < 2 ^ count → price ≡ rates places + least
      → least ≡ least_paid film set (staying group coming here gone places) these
      → price ≡ gross_price film set group (staying group coming here gone places) these
  priced here these places price least lt is for_least =
      let stay : rates places ≡ sum_over film.holds (minus group (minus group (pick group places)))
      = are_rates places lt ∙ ap (sum_over film.holds) (sym (still_picked group places)) in
      is ∙ (λ i. stay i + for_least i)

  -- with nothing beside
  nothing_more : (places : ℕ) → rates places ≡ rates places + 0
  nothing_more places = omega arith

  -- a newcomer is below 64
  small : (actor : ℕ) → has newcomers actor ≡ true → actor < 64
  small actor newcomer = omega (arith, known.known_newcomers actor newcomer, known.limits.actor_count)

  -- no newcomer is here
  pub price_alone : (these : ℕ) → ArePrices film set group count coming [] gone these rates
  price_alone these places lt =
      priced [] these places (rates places) 0 lt (nothing_more places) (nobody_waits film set (minus group (pick group places)) coming gone these)

  module _ (one : ℕ) (is_one : has newcomers one ≡ true) where
    -- what one is paid at least
    least_one : (these last places : ℕ) → last ≡ sum_over film.holds (meet (minus group (pick group places)) (mates film set (actors_of (one ∷ []))))
        → cond {A = ℕ} (has these one) (cond {A = ℕ} (has these one) 0 (slice_index film.holds one)) (min (cond {A = ℕ} (has these one) 0 (slice_index film.holds one)) last)
        ≡ least_paid film set (staying group coming (one ∷ []) gone places) these
    least_one these last places is =
        one_waits film set (minus group (pick group places)) coming gone one these last (cond {A = ℕ} (has these one) 0 (slice_index film.holds one)) (small one is_one) refl is

    -- one is here, and works there
    pub price_with : (these : ℕ) → has these one ≡ true → ArePrices film set group count coming (one ∷ []) gone these rates
    price_with these works places lt =
        let last : ℕ = sum_over film.holds (meet (minus group (pick group places)) (mates film set (actors_of (one ∷ [])))) in
        priced (one ∷ []) these places (rates places) 0 lt (nothing_more places)
        (sym (on_one (has these one) (slice_index film.holds one) last works) ∙ least_one these last places refl)

    -- he doesn't
    pub price_without : (these : ℕ) (mates prices : ℕ → ℕ) → (has these one ≡ true → ⊥) → AreMates film set group count (one ∷ []) mates
        → ((places : ℕ) → places < 2 ^ count → prices places ≡ rates places + min (mates places) (slice_index film.holds one))
        → ArePrices film set group count coming (one ∷ []) gone these prices
    price_without these mates prices off are_mates is places lt =
        priced (one ∷ []) these places (prices places) (min (mates places) (slice_index film.holds one)) lt (is places lt)
        (sym (off_one (has these one) (slice_index film.holds one) (mates places) (false_from_ne_true (has these one) off)) ∙ least_one these (mates places) places (are_mates places lt))

    module _ (other : ℕ) (is_other : has newcomers other ≡ true) (apart : one ≢ other) where
      -- what two are paid at least
      least_two : (these last all places : ℕ) → last ≡ sum_over film.holds (meet (minus group (pick group places)) (mates film set (actors_of (other ∷ []))))
          → all ≡ sum_over film.holds (meet (minus group (pick group places)) (mates film set (actors_of (one ∷ other ∷ []))))
          → of_two (has these one) (has these other) (slice_index film.holds one) (slice_index film.holds other) last all
          ≡ least_paid film set (staying group coming (one ∷ other ∷ []) gone places) these
      least_two these last all places is_last is_all =
          two_wait film set (minus group (pick group places)) coming gone one other these last all (cond {A = ℕ} (has these one) 0 (slice_index film.holds one))
          (cond {A = ℕ} (has these other) 0 (slice_index film.holds other)) (small one is_one) (small other is_other) apart refl refl is_last is_all

      -- what those get who wait for the second, and those who wait for both
      abbrev last_of : ℕ → ℕ
      last_of places = sum_over film.holds (meet (minus group (pick group places)) (mates film set (actors_of (other ∷ []))))

      abbrev all_of : ℕ → ℕ
      all_of places = sum_over film.holds (meet (minus group (pick group places)) (mates film set (actors_of (one ∷ other ∷ []))))

      -- two are here, and both work there
      pub price_both : (these : ℕ) → has these one ≡ true → has these other ≡ true → ArePrices film set group count coming (one ∷ other ∷ []) gone these rates
      price_both these works works_too places lt =
          priced (one ∷ other ∷ []) these places (rates places) 0 lt (nothing_more places)
          (sym (both_on (has these one) (has these other) (slice_index film.holds one) (slice_index film.holds other) (last_of places) (all_of places) works works_too)
          ∙ least_two these (last_of places) (all_of places) places refl refl)

      -- the first works there
      pub price_first : (these : ℕ) (mates prices : ℕ → ℕ) → has these one ≡ true → (has these other ≡ true → ⊥) → AreMates film set group count (other ∷ []) mates
          → ((places : ℕ) → places < 2 ^ count → prices places ≡ rates places + min (mates places) (slice_index film.holds other))
          → ArePrices film set group count coming (one ∷ other ∷ []) gone these prices
      price_first these mates prices works off are_mates is places lt =
          priced (one ∷ other ∷ []) these places (prices places) (min (mates places) (slice_index film.holds other)) lt (is places lt)
          (sym (first_on (has these one) (has these other) (slice_index film.holds one) (slice_index film.holds other) (mates places) (all_of places) works
          (false_from_ne_true (has these other) off))
          ∙ least_two these (mates places) (all_of places) places (are_mates places lt) refl)

      -- the second does
      pub price_second : (these : ℕ) (prices : ℕ → ℕ) → (has these one ≡ true → ⊥) → has these other ≡ true
          → ((places : ℕ) → places < 2 ^ count → prices places ≡ rates places + slice_index film.holds one)
          → ArePrices film set group count coming (one ∷ other ∷ []) gone these prices
      price_second these prices off works is places lt =
          priced (one ∷ other ∷ []) these places (prices places) (slice_index film.holds one) lt (is places lt)
          (sym (second_on (has these one) (has these other) (slice_index film.holds one) (slice_index film.holds other) (last_of places) (all_of places)
          (false_from_ne_true (has these one) off) works)
          ∙ least_two these (last_of places) (all_of places) places refl refl)

      -- neither does
      pub price_neither : (these : ℕ) (mates mates_both prices : ℕ → ℕ) → (has these one ≡ true → ⊥) → (has these other ≡ true → ⊥)
          → AreMates film set group count (other ∷ []) mates → AreMates film set group count (one ∷ other ∷ []) mates_both
          → ((places : ℕ) → places < 2 ^ count
          → prices places ≡ rates places + min (mates_both places) (slice_index film.holds one + min (mates places) (slice_index film.holds other)))
          → ArePrices film set group count coming (one ∷ other ∷ []) gone these prices
      price_neither these mates mates_both prices off off_too are_mates are_both is places lt =
          priced (one ∷ other ∷ []) these places (prices places)
          (min (mates_both places) (slice_index film.holds one + min (mates places) (slice_index film.holds other))) lt (is places lt)
          (sym (none_on (has these one) (has these other) (slice_index film.holds one) (slice_index film.holds other) (mates places) (mates_both places)
          (false_from_ne_true (has these one) off) (false_from_ne_true (has these other) off_too))
          ∙ least_two these (mates places) (mates_both places) places (are_mates places lt) (are_both places lt))
