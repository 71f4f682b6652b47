-- Each step on a queue keeps its rule.
use Rattle.std.proofs.Common.{◌≡◌, ℕ, ◌+◌, ◌-◌, ◌<◌, ◌≤◌, false, true≢false, List, [], ◌∷◌, ◌++◌, Option, Some, None, set, inl, inr, refl, sym, ap, ◌∙◌, subst, append_assoc, arith}
use Rattle.std.proofs.lemmas.Bool.{or_cases}
use mathlib.Core.Option.{some}
use lib.ListN.{get_elem?}
use Rattle.crossbeam_deque.specs.Tasks.{Pushes, Takes, Forks, Merges, Learns}
use Rattle.crossbeam_deque.proofs.Lists.{set_else}
use Rattle.strip_steal.specs.declared.share.Share.{Share}
use Rattle.strip_steal.specs.Rule.{AreInOrder, Fits, IsQueue, first_share, full_weight, numbers_in, times, weight_of}
use Rattle.strip_steal.specs.Steps.{AreCounted, HasPut, HasTaken, HasTakenOne, IsClosed, joined, lightened, split_off, spent_share, with_taken}
use Rattle.strip_steal.proofs.Numbers.{none_behind, order-both, order-entries, numbers_in-append, times-append, times-entries}
use Rattle.strip_steal.proofs.Shares.{each_one, each_pushed, each_put, no_other, put_here, total-alone, total-one, total-push, total-put}

-- ---- the start

pub begins : IsQueue [] (first_share ∷ [])
begins = record {
  put = [];
  gone = [];
  all = refl;
  whole = omega arith;
  fits = each_one (λ u. 0 < u.weight → Fits [] [] [] u) first_share (λ _. record { put = refl; ended = λ is. absurd (true≢false (sym is)); order = λ _. tt });
  spent = each_one (λ u. u.weight ≡ 0 → u.taken ≡ []) first_share (λ _. refl);
  balance = λ number. omega arith;
}

-- ---- an entry is put

pub puts : (port : ℕ) (v : Share) (entry : Option ℕ) → v.weight ≡ full_weight → v.ended ≡ false → Pushes IsQueue port v (entry ∷ []) (HasPut v (entry ∷ []))
puts port v entry heavy still items shares k at =
    let w : Share = record v { put = v.put ++ entry ∷ [] } in
    let mine = k.fits port v at (omega (arith, heavy)) in
    let Now : Share → Type 0 = λ u. 0 < u.weight → Fits (k.put ++ entry ∷ []) k.gone (items ++ entry ∷ []) u in (
      w,
      record {
        put = k.put ++ entry ∷ [];
        gone = k.gone;
        all = sym (append_assoc k.gone items (entry ∷ [])) ∙ ap (λ l. l ++ entry ∷ []) k.all;
        whole = (let put = total-put weight_of shares port v w at in omega (arith, put, k.whole));
        fits = each_put Now shares port w
            (λ j u apart there some_. absurd (no_other shares port j v u at (k.whole ∙ sym heavy) apart there some_))
            (λ _. record {
              put = ap (λ l. l ++ entry ∷ []) mine.put;
              ended = λ is. absurd (true≢false (sym is ∙ still));
              order = mine.order;
            });
        spent = each_put (λ u. u.weight ≡ 0 → u.taken ≡ []) shares port w (λ j u _ there. k.spent j u there) (λ none. absurd (omega (arith, none, heavy)));
        balance = λ number. (let put = total-put (λ u. times number u.taken) shares port v w at in omega (arith, put, k.balance number));
      },
      refl,
    )

-- ---- an entry is taken

taken-weight : (v : Share) (x : Option ℕ) → (with_taken v x).weight ≡ v.weight
taken-weight v None = refl
taken-weight v (Some n) = refl

taken-times : (v : Share) (x : Option ℕ) (number : ℕ) → times number (with_taken v x).taken ≡ times number v.taken + times number (numbers_in (x ∷ []))
taken-times v None number = omega arith
taken-times v (Some n) number = times-append number v.taken (n ∷ [])

-- what others know still fits
others_fit : (put gone items : List (Option ℕ)) (x : Option ℕ) (u : Share) → Fits put gone (x ∷ items) u → Fits put (gone ++ x ∷ []) items u
others_fit put gone items x u fits = record {
  put = fits.put;
  ended = λ is. none_behind x items (fits.ended is);
  order = λ is. order-entries u.taken gone (x ∷ []) (fits.order is);
}

taker_fits : (put gone items : List (Option ℕ)) (x : Option ℕ) (v : Share) → gone ++ x ∷ items ≡ put → IsClosed v.put → Fits put gone (x ∷ items) v
    → Fits put (gone ++ x ∷ []) items (with_taken v x)
taker_fits put gone items None v all closed fits = record {
  put = fits.put;
  ended = λ _. closed gone items (all ∙ sym fits.put);
  order = λ is. order-entries v.taken gone (None ∷ []) (fits.order is);
}
taker_fits put gone items (Some n) v all closed fits = record {
  put = fits.put;
  ended = λ is. none_behind (Some n) items (fits.ended is);
  order = λ is. subst (AreInOrder (v.taken ++ n ∷ [])) (sym (numbers_in-append gone (Some n ∷ []))) (order-both v.taken (numbers_in gone) n (fits.order is));
}

few_of : (items : List (Option ℕ)) (shares : List Share) (k : IsQueue items shares) (id : ℕ) (u : Share) → get_elem? shares id ≡ some u → (number : ℕ)
    → times number u.taken ≤ times number (numbers_in k.put)
few_of items shares k id u at number =
    let one = total-one (λ (s : Share). times number s.taken) shares id u at in
    let parts = times-entries number k.gone items in
    let whole : times number (numbers_in (k.gone ++ items)) ≡ times number (numbers_in k.put) = ap (λ l. times number (numbers_in l)) k.all in
    omega (arith, one, k.balance number, parts, whole)

after_take : (port : ℕ) (v : Share) (x : Option ℕ) (items : List (Option ℕ)) (shares : List Share) → 0 < v.weight → IsClosed v.put → IsQueue (x ∷ items) shares
    → get_elem? shares port ≡ some v → IsQueue items (set shares port (with_taken v x))
after_take port v x items shares heavy closed k at =
    let w : Share = with_taken v x in record {
      put = k.put;
      gone = k.gone ++ x ∷ [];
      all = append_assoc k.gone (x ∷ []) items ∙ k.all;
      whole = (let put = total-put weight_of shares port v w at in omega (arith, put, k.whole, taken-weight v x));
      fits = each_put (λ u. 0 < u.weight → Fits k.put (k.gone ++ x ∷ []) items u) shares port w
          (λ j u _ there some_. others_fit k.put k.gone items x u (k.fits j u there some_))
          (λ _. taker_fits k.put k.gone items x v k.all closed (k.fits port v at heavy));
      spent = each_put (λ u. u.weight ≡ 0 → u.taken ≡ []) shares port w (λ j u _ there. k.spent j u there)
          (λ none. absurd (omega (arith, none, heavy, taken-weight v x)));
      balance = λ number. (
          let put = total-put (λ (u : Share). times number u.taken) shares port v w at in
          omega (arith, put, k.balance number, taken-times v x number, times-entries number k.gone (x ∷ [])));
    }

has_taken : (port : ℕ) (v : Share) (x : Option ℕ) (items : List (Option ℕ)) (shares : List Share) → 0 < v.weight → IsClosed v.put → IsQueue (x ∷ items) shares
    → get_elem? shares port ≡ some v → HasTaken v x (with_taken v x)
unfolding after_take
has_taken port v x items shares heavy closed k at =
    let w : Share = with_taken v x in
    let next = after_take port v x items shares heavy closed k at in
    let mine = k.fits port v at heavy in
    let all : k.gone ++ x ∷ items ≡ v.put = k.all ∙ sym mine.put in
    let fits = taker_fits k.put k.gone items x v k.all closed mine in record {
      only = refl;
      few = λ number. subst (λ l. times number w.taken ≤ times number (numbers_in l)) (sym mine.put)
          (few_of items (set shares port w) next port w (put_here shares port v w at) number);
      order = λ is. subst (λ l. AreInOrder w.taken (numbers_in l)) (append_assoc k.gone (x ∷ []) items ∙ all)
          (order-entries w.taken (k.gone ++ x ∷ []) items (fits.order (joined_none v x ∙ is)));
    }
  where
    joined_none : (v : Share) (x : Option ℕ) → (with_taken v x).has_joined ≡ v.has_joined
    joined_none v None = refl
    joined_none v (Some n) = refl

pub takes : (port : ℕ) (v : Share) → 0 < v.weight → IsClosed v.put → Takes IsQueue port v 1 (HasTakenOne v)
takes port v heavy closed [] items shares some_ one k at = absurd (omega (arith, some_))
takes port v heavy closed (x ∷ []) items shares some_ one k at =
    (with_taken v x, after_take port v x items shares heavy closed k at, has_taken port v x items shares heavy closed k at)
takes port v heavy closed (x ∷ y ∷ xs) items shares some_ one k at = absurd (omega (arith, one))

-- ---- a look

pub counts : (port : ℕ) (v : Share) → 0 < v.weight → Learns IsQueue port v (λ items. AreCounted v)
counts port v heavy items shares k at = let mine = k.fits port v at heavy in record {
  few = λ number. subst (λ l. times number v.taken ≤ times number (numbers_in l)) (sym mine.put) (few_of items shares k port v at number);
  each = λ full ended number. (
      let alone = total-alone (λ (u : Share). times number u.taken) shares port v at (k.whole ∙ sym full)
      (λ j u there none. ap (times number) (k.spent j u there none)) in
      let parts = times-entries number k.gone items in
      let none_left : times number (numbers_in items) ≡ 0 = ap (times number) (mine.ended ended) in
      let whole : times number (numbers_in (k.gone ++ items)) ≡ times number (numbers_in v.put) = ap (λ l. times number (numbers_in l)) (k.all ∙ sym mine.put) in
      omega (arith, alone, k.balance number, parts, none_left, whole));
}

-- ---- a pass gives weight to a new one, and takes in another

pub forks : (port : ℕ) (v : Share) → 2 ≤ v.weight → Forks IsQueue port v (lightened v) (split_off v)
forks port v enough items shares k at =
    let heavy : 0 < v.weight = omega (arith, enough) in
    let mine = k.fits port v at heavy in
    let left : 0 < v.weight - 1 = omega (arith, enough) in
    let changed : List Share = set shares port (lightened v) in record {
      put = k.put;
      gone = k.gone;
      all = k.all;
      whole = (
          let put = total-put weight_of shares port v (lightened v) at in
          let push = total-push weight_of changed (split_off v) in omega (arith, put, push, enough, k.whole));
      fits = each_pushed (λ u. 0 < u.weight → Fits k.put k.gone items u) changed (split_off v)
          (each_put (λ u. 0 < u.weight → Fits k.put k.gone items u) shares port (lightened v) (λ j u _ there. k.fits j u there)
          (λ _. record { put = mine.put; ended = mine.ended; order = mine.order }))
          (λ _. record { put = mine.put; ended = λ is. absurd (true≢false (sym is)); order = λ _. tt });
      spent = each_pushed (λ u. u.weight ≡ 0 → u.taken ≡ []) changed (split_off v)
          (each_put (λ u. u.weight ≡ 0 → u.taken ≡ []) shares port (lightened v) (λ j u _ there. k.spent j u there) (λ none. absurd (omega (arith, none, left))))
          (λ _. refl);
      balance = λ number. (
          let put = total-put (λ (u : Share). times number u.taken) shares port v (lightened v) at in
          let push = total-push (λ (u : Share). times number u.taken) changed (split_off v) in omega (arith, put, push, k.balance number));
    }

pub merges : (port : ℕ) (v : Share) (other : ℕ) (w : Share) → 0 < v.weight → 0 < w.weight → Merges IsQueue port v other w (joined v w) spent_share
merges port v other w heavy heavier items shares k at apart there =
    let both : Share = joined v w in
    let mine = k.fits port v at heavy in
    let changed : List Share = set shares port both in
    let at_other : get_elem? shares other ≡ some w = sym (set_else shares port other both apart) ∙ there in
    let theirs = k.fits other w at_other heavier in record {
      put = k.put;
      gone = k.gone;
      all = k.all;
      whole = (
          let first = total-put weight_of shares port v both at in
          let second = total-put weight_of changed other w spent_share there in omega (arith, first, second, k.whole));
      fits = each_put (λ u. 0 < u.weight → Fits k.put k.gone items u) changed other spent_share
          (λ j u _ place. each_put (λ s. 0 < s.weight → Fits k.put k.gone items s) shares port both (λ i s _ found. k.fits i s found)
          (λ _. record {
            put = mine.put;
            ended = λ is. elim (or_cases v.ended w.ended is) [
              | inl one ↦ mine.ended one
              | inr other ↦ theirs.ended other
            ];
            order = λ is. absurd (true≢false is);
          }) j u place)
          (λ some_. absurd (omega (arith, some_)));
      spent = each_put (λ u. u.weight ≡ 0 → u.taken ≡ []) changed other spent_share
          (λ j u _ place. each_put (λ s. s.weight ≡ 0 → s.taken ≡ []) shares port both (λ i s _ found. k.spent i s found)
          (λ none. absurd (omega (arith, none, heavy))) j u place)
          (λ _. refl);
      balance = λ number. (
          let first = total-put (λ (u : Share). times number u.taken) shares port v both at in
          let second = total-put (λ (u : Share). times number u.taken) changed other w spent_share there in
          omega (arith, first, second, times-append number v.taken w.taken, k.balance number));
    }
