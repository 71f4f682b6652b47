-- The events of worker 0 are the calls of its hand.
use Rattle.std.proofs.Common.{◌≡◌, ◌↔◌, ℕ, zero, suc, ◌+◌, ◌<◌, min, max, true, false, eqb, ltb, leb, Option, Some, None, Ok, List, [], ◌∷◌, ◌++◌}
use Rattle.std.proofs.Common.{length, slice_set, Contains, inl, inr, refl, sym, ap, ◌∙◌, subst, arith}
use Rattle.std.proofs.lemmas.Bool.{cases_lt, cond_both, cond-true, cond-false, lt-ltb, le-ltb, le-leb}
use Rattle.std.proofs.lemmas.Bool.Decides.{eqb_tells}
use Rattle.std.proofs.lemmas.List.{length-append, length-set, get_or_past, get_or-set_same, get_or-set_other}
use Rattle.std.proofs.Math.Seq.{get_or-append_seam}
use Rattle.std.proofs.lemmas.List.Elements.{All-contains}
use Rattle.strip_film.specs.declared.shared.Known.{Known}
use Rattle.strip_film.specs.declared.shared.Line.{Line as LineOf}
use Rattle.strip_film.specs.declared.shared.Noted.{Noted}
use Rattle.strip_film.specs.declared.shared.Listed.{Listed}
use Rattle.strip_film.specs.declared.shared.Listed.TheVariants.{Line, Spent}
use Rattle.strip_film.specs.declared.shared.Probe.{Probe}
use Rattle.strip_film.specs.declared.shared.Probe.TheVariants.{Hit, Miss}
use Rattle.strip_film.specs.Path.{PathData, IsComplete}
use Rattle.strip_film.specs.Shown.{CursorData}
use Rattle.strip_lines.specs.Lines.{GrowTo, line_at, no_line}
use Rattle.strip_lines.proofs.Grown.{added-grows, grow_self, raised-grows}
use Rattle.strip_lines.specs.Paths.{ComesAfter}
use Rattle.strip_hand.specs.Hand.{HandData, IsHand, IsRecord, Knows, RecordData}
use Rattle.strip_hand.specs.Calls.{Claims, Enlists, IsFound, MakesLine, MayEnlist, MayRaise, Notes, Probes, Raises, Tells}
use Rattle.strip_hand.specs.Search.{search_rules}
use Rattle.strip_world.specs.World.{PartData, WorkerData, WorldData, no_part, no_worker, home_stripe, part_at, worker_at}
use Rattle.strip_world.specs.Allowed.{WorkerMayEnlist}
use Rattle.strip_world.specs.Hand.{IsOwned, hand_data, own_record, record_by}
use Rattle.strip_world.specs.Sound.{IsSound}
use Rattle.strip_world.specs.Steps.{IsNoted, answer_of, claim_reply, claimed, enlist_reply, enlisted, found, looked, new_line, offered, probed, raised_in, with_worker}
use Rattle.strip_world.proofs.True.{least_is_paid}
use Rattle.strip_world.proofs.Claims.{sound_claimed}
use Rattle.strip_world.proofs.Lines.{sound_enlisted, sound_raised}
use Rattle.strip_world.proofs.Table.{sound_noted}
use Rattle.strip_world.proofs.Workers.{sound_looked, sound_offered, sound_probed}
use Rattle.strip_table.specs.Bucket.{IsBucket, find_in}
use Rattle.strip_table.specs.Home.{bucket_of, stripe_of}
use Rattle.strip_table.specs.Stripe.{home}
use Rattle.strip_table.proofs.Homes.{bucket_below, stripe_below}

-- ---- records

-- a part with a record is claimed by worker 0, and the record is what it has
record_tells : (claimer : Option ℕ) (part : PartData) (entry : RecordData) → record_by claimer part ≡ Some entry
    → (claimer ≡ Some 0) × (entry ≡ record { last = part.last; number = part.number })
record_tells None part entry is = absurd (let e : None ≡ Some entry = is in cc)
record_tells (Some zero) part entry is = (refl, (let e : Some (record { last = part.last; number = part.number }) ≡ Some entry = is in cc))
record_tells (Some (suc who)) part entry is = absurd (let e : None ≡ Some entry = is in cc)

-- it is one of the world's
part_known : (world : WorldData) (part : ℕ) → (part_at world part).claimer ≡ Some 0 → part < length world.parts
part_known world part claimed = elim (cases_lt part (length world.parts)) [
  | inl within ↦ within
  | inr past ↦ absurd (let none : part_at world part ≡ no_part = get_or_past world.parts part no_part past in
      let nobody : (part_at world part).claimer ≡ None = ap (λ (p : PartData). p.claimer) none in cc)
]

-- what is found of a set in a bucket is the entry of it
abbrev pub FindsEntries : Type 0
FindsEntries = (buckets number : ℕ) (bucket : List Known) (set : ℕ) (entry : Known) → IsBucket buckets number bucket
    → (find_in bucket set ≡ Some entry) ↔ (Contains bucket entry × (entry.set ≡ set))

hit_tells : (entry : Option Known) (known : Known) → answer_of entry ≡ Hit known → entry ≡ Some known
hit_tells None known is = absurd (let e : Miss ≡ Hit known = is in cc)
hit_tells (Some entry) known is = (let e : Hit entry ≡ Hit known = is in cc)

module _ (world : WorldData) (owned : IsOwned world) where
  abbrev sound : IsSound world
  sound = owned.sound

  is_record : (part : ℕ) (entry : RecordData) → own_record (part_at world part) ≡ Some entry → IsRecord world.search part entry
  is_record part entry is =
      let tells = record_tells (part_at world part).claimer (part_at world part) entry is in
      let within : part < length world.parts = part_known world part tells.0 in
      let known : part < suc (length world.search.tasks) = omega (arith, within, sound.part_count) in
      subst (IsRecord world.search part) (sym tells.1) (record {
        known = known;
        lies = (sound.parts part within).last;
        share = sound.counts.shares part known;
      })

  pub limits : IsHand (hand_data world)
  limits = record {
    film = sound.film;
    tasks = sound.tasks;
    told = (sound.workers 0 no_worker owned.one).no_more;
    few = sound.few;
    lines = sound.lines;
    records = is_record;
  }

  -- ---- what stays sound

  -- a sound world with as many workers
  owned_by : (after : WorldData) → IsSound after → length after.workers ≡ length world.workers → IsOwned after
  owned_by after is long = record { sound = is; one = omega (arith, owned.one, long) }

  same_count : (worker : WorkerData) → length (slice_set world.workers 0 worker) ≡ length world.workers
  same_count worker = length-set world.workers 0 worker

  pub owned_looked : IsOwned (looked world 0)
  owned_looked = owned_by (looked world 0) (sound_looked world 0 owned.one sound) (same_count _)

  pub owned_offered : (path : PathData) → IsComplete world.search.film path → IsOwned (offered world 0 path)
  owned_offered path complete = owned_by (offered world 0 path) (sound_offered world 0 owned.one sound path complete) (same_count _)

  pub owned_claimed : IsOwned (claimed world 0)
  owned_claimed =
      owned_by (claimed world 0) (sound_claimed world 0 owned.one sound)
      (cond_both (ltb world.next (length world.parts)) _ world (λ (w : WorldData). length w.workers ≡ length world.workers) (λ left. refl) (λ none. refl))

  pub owned_raised : (line bound : ℕ) → MayRaise (hand_data world) line bound → IsOwned (raised_in world line bound)
  owned_raised line bound may =
      owned_by (raised_in world line bound) (sound_raised world line bound sound (record { known = may.there; justified = may.justified })) refl

  pub owned_probed : (set : ℕ) → IsOwned (probed world 0 set)
  owned_probed set = owned_by (probed world 0 set) (sound_probed world 0 owned.one sound set) (same_count _)

  pub owned_noted : (known : Known) (after : WorldData) (answer : Noted) → Knows world.lines known → IsNoted world 0 known after answer → IsOwned after
  owned_noted known after answer may noted =
      owned_by after (sound_noted world 0 known after answer owned.one sound may noted)
      (ap (λ (w : WorldData). length w.workers) noted.others ∙ same_count _)

  -- ---- the least cost

  -- the hand where worker 0 and the least cost are others
  hand_with : (worker : WorkerData) (least : ℕ)
      → hand_data (with_worker (record world { least = least }) 0 worker)
      ≡ record (hand_data world) { told = worker.told; probe = worker.probe; note = worker.note }
  hand_with worker least =
      let here : worker_at (with_worker (record world { least = least }) 0 worker) 0 ≡ worker = get_or-set_same world.workers 0 worker no_worker owned.one in
      λ i. record {
        search = world.search;
        told = (here i).told;
        lines = world.lines;
        records = λ part. own_record (part_at world part);
        probe = (here i).probe;
        note = (here i).note;
        refusals = 0;
        ended = leb (length world.parts) world.next;
      }

  pub looks : Tells (hand_data world) world.least (hand_data (looked world 0))
  looks = record {
    only = hand_with (record (worker_at world 0) { told = world.least }) world.least;
    no_more = (sound.workers 0 no_worker owned.one).no_less;
    no_less = least_is_paid world sound;
  }

  pub offers : (path : PathData) → IsComplete world.search.film path → Tells (hand_data world) (min world.least path.paid) (hand_data (offered world 0 path))
  offers path complete = record {
    only = hand_with _ (min world.least path.paid);
    no_more = (let most = (sound.workers 0 no_worker owned.one).no_less in omega (arith, most));
    no_less = λ pay optimum. least_is_paid (offered world 0 path) (sound_offered world 0 owned.one sound path complete) pay optimum;
  }

  -- ---- claims

  module _ (left : world.next < length world.parts) where
    abbrev mine : PartData
    mine = record (part_at world world.next) { claimer = Some 0 }

    abbrev taken : WorldData
    taken = record world { next = world.next + 1; parts = slice_set world.parts world.next mine }

    here : part_at taken world.next ≡ mine
    here = get_or-set_same world.parts world.next mine no_part left

    free : ((part_at world world.next).claimer ≡ None) × ((part_at world world.next).last ≡ None) × ((part_at world world.next).number ≡ 0)
    free = (sound.parts world.next left).free (omega arith)

    claims_next : Claims (hand_data world) (Some world.next) (hand_data taken)
    claims_next = (
      refl,
      omega (arith, left, sound.part_count),
      ap (λ c. record_by c (part_at world world.next)) free.0,
      ap own_record here ∙ (λ i. Some (record { last = free.1 i; number = free.2 i })),
      λ other apart. ap own_record (get_or-set_other world.parts world.next other mine no_part apart),
    )

  pub claims : Claims (hand_data world) (claim_reply world) (hand_data (claimed world 0))
  claims = elim (cases_lt world.next (length world.parts)) [
    | inl left ↦ (
        let is : ltb world.next (length world.parts) ≡ true = lt-ltb world.next (length world.parts) left in
        subst (λ (r : Option ℕ). Claims (hand_data world) r (hand_data (claimed world 0)))
        (sym (cond-true (ltb world.next (length world.parts)) (Some world.next) None is))
        (subst (λ (w : WorldData). Claims (hand_data world) (Some world.next) (hand_data w))
        (sym (cond-true (ltb world.next (length world.parts)) (taken left) world is)) (claims_next left)))
    | inr none ↦ (
        let is : ltb world.next (length world.parts) ≡ false = le-ltb world.next (length world.parts) none in
        subst (λ (r : Option ℕ). Claims (hand_data world) r (hand_data (claimed world 0)))
        (sym (cond-false (ltb world.next (length world.parts)) (Some world.next) None is))
        (subst (λ (w : WorldData). hand_data w ≡ record (hand_data world) { ended = true })
        (sym (cond-false (ltb world.next (length world.parts)) _ world is))
        (λ i. record (hand_data world) { ended = le-leb (length world.parts) world.next none i })))
  ]

  -- ---- lines

  module _ (cursor : CursorData) (path : PathData) (bound : ℕ) (may : MayEnlist (hand_data world) cursor path bound) where
    abbrev was : RecordData
    was = record { last = cursor.last; number = may.stands.0 }

    abbrev part : PartData
    part = part_at world cursor.task

    tells : (part.claimer ≡ Some 0) × (was ≡ record { last = part.last; number = part.number })
    tells = record_tells part.claimer part was may.stands.1

    pub same_last : cursor.last ≡ (part_at world cursor.task).last
    same_last = ap (λ (r : RecordData). r.last) tells.1

    pub may_enlist : WorkerMayEnlist world 0 cursor.task path
    may_enlist = record {
      known = part_known world cursor.task tells.0;
      claimed = tells.0;
      is_open = may.is_open;
      lies = may.lies;
      later = subst (λ (last : Option PathData). ComesAfter (search_rules world.search) last path) same_last may.later;
      some = may.some;
      below = omega (arith, may.below, may.static_bound);
      through = may.through;
    }

    pub owned_enlisted : IsOwned (enlisted world cursor.task path)
    owned_enlisted =
        owned_by (enlisted world cursor.task path) (sound_enlisted world 0 cursor.task path owned.one sound may_enlist)
        (cond_both (eqb (length world.lines) world.search.nodes) world _ (λ (w : WorldData). length w.workers ≡ length world.workers) (λ full. refl) (λ room. refl))

    abbrev entry : PartData
    entry = record (part_at world cursor.task) { last = Some path; number = (part_at world cursor.task).number + 1 }

    abbrev listed : WorldData
    listed = record world { lines = world.lines ++ new_line world path ∷ []; parts = slice_set world.parts cursor.task entry }

    makes_line : MakesLine (hand_data world) cursor path bound (length world.lines) (hand_data listed) (record { task = cursor.task; last = Some path })
    makes_line = record {
      only = λ i. record {
        search = world.search;
        told = (worker_at world 0).told;
        lines = listed.lines;
        records = λ part. own_record (part_at listed part);
        probe = (worker_at world 0).probe;
        note = (worker_at world 0).note;
        refusals = 0;
        ended = leb (length-set world.parts cursor.task entry i) world.next;
      };
      grow = added-grows world.lines (new_line world path);
      fresh = omega arith;
      there = omega (arith, length-append world.lines (new_line world path ∷ []));
      made = get_or-append_seam world.lines (new_line world path) [] no_line ∙ (λ i. record { set = path.rest; bound = sym may.static_bound i });
      counted = (
        (part_at world cursor.task).number,
        (λ i. record_by (tells.0 i) (part_at world cursor.task)) ∙ (λ i. Some (record { last = sym same_last i; number = (part_at world cursor.task).number })),
        ap own_record (get_or-set_same world.parts cursor.task entry no_part may_enlist.known) ∙ (λ i. record_by (tells.0 i) entry),
      );
      others = λ other apart. ap own_record (get_or-set_other world.parts cursor.task other entry no_part apart);
      moved = refl;
    }

    -- the cursor afterwards
    abbrev pub cursor_then : Listed → CursorData
    cursor_then (Line line) = record { task = cursor.task; last = Some path }
    cursor_then (Spent count) = cursor

    abbrev pub Enlisting : Listed → WorldData → Type 0
    Enlisting reply after = Enlists (hand_data world) cursor path bound (Ok reply) (hand_data after) (cursor_then reply)

    pub enlists : Enlisting (enlist_reply world) (enlisted world cursor.task path)
    enlists = elim (eqb_tells (length world.lines) world.search.nodes) [
      | inl full ↦ (
          subst (λ (r : Listed). Enlisting r (enlisted world cursor.task path)) (sym (cond-true (eqb (length world.lines) world.search.nodes) _ _ full.0))
          (subst (λ (w : WorldData). Enlisting (Spent (length world.lines)) w) (sym (cond-true (eqb (length world.lines) world.search.nodes) world _ full.0))
          (record { only = refl; grow = grow_self world.lines; counted = refl; full = full.1 }, refl)))
      | inr room ↦ (
          subst (λ (r : Listed). Enlisting r (enlisted world cursor.task path)) (sym (cond-false (eqb (length world.lines) world.search.nodes) _ _ room.0))
          (subst (λ (w : WorldData). Enlisting (Line (length world.lines)) w) (sym (cond-false (eqb (length world.lines) world.search.nodes) world _ room.0))
          makes_line))
    ]

  pub raises : (line bound : ℕ) → MayRaise (hand_data world) line bound
      → Raises (hand_data world) line bound (Ok (record {})) (hand_data (raised_in world line bound))
  raises line bound may =
      let here : line_at (raised_in world line bound).lines line ≡ record { set = (line_at world.lines line).set; bound = max (line_at world.lines line).bound bound }
      = get_or-set_same world.lines line _ no_line may.there in
      (refl, raised-grows world.lines line bound may.there, omega (arith, ap (λ (l : LineOf). l.bound) here))

  -- ---- the table

  -- what is found of a set in the table is of this set, and names a line
  found_tells : FindsEntries → (set : ℕ) (known : Known) → found world set ≡ Hit known → (known.set ≡ set) × Knows world.lines known
  found_tells finds set known is =
      let stripe = sound.stripes (stripe_of set) (stripe_below set) in
      let place = bucket_of set (length (home_stripe world set)) in
      let within : place < length (home_stripe world set) = bucket_below (length (home_stripe world set)) set stripe.stripe.some in
      let stands = (finds (length (home_stripe world set)) place (home (home_stripe world set) set) set known (stripe.stripe.buckets place within)).0
      (hit_tells (find_in (home (home_stripe world set) set) set) known is) in
      (stands.1, All-contains (Knows world.lines) (home (home_stripe world set) set) known (stripe.entries place within) stands.0)

  is_found : (set : ℕ) (after : HandData) (answer : Probe) → after.lines ≡ world.lines
      → ((known : Known) → answer ≡ Hit known → (known.set ≡ set) × Knows world.lines known) → IsFound after set answer
  is_found set after Miss same hit = record {}
  is_found set after (Hit known) same hit = ((hit known refl).0, subst (λ (lines : List LineOf). Knows lines known) (sym same) (hit known refl).1)

  pub probes : FindsEntries → (set : ℕ) → Probes (hand_data world) set (Ok (found world set)) (hand_data (probed world 0 set))
  probes finds set = (
    hand_with (record (worker_at world 0) { probe = Some (record { set = set; answer = found world set }) }) world.least,
    grow_self world.lines,
    is_found set (hand_data (probed world 0 set)) (found world set) refl (found_tells finds set),
  )

  pub notes : (known : Known) (after : WorldData) (answer : Noted) → IsNoted world 0 known after answer
      → Notes (hand_data world) known (Ok answer) (hand_data after)
  notes known after answer noted =
      let same : hand_data after ≡ hand_data (with_worker world 0 (record (worker_at world 0) { note = Some known }))
      = ap hand_data noted.others in
      let lines : after.lines ≡ world.lines = ap (λ (w : WorldData). w.lines) noted.others in (
        same ∙ hand_with (record (worker_at world 0) { note = Some known }) world.least
            ∙ (λ i. record (hand_data world) { lines = sym lines i; note = Some known }),
        subst (GrowTo world.lines) (sym lines) (grow_self world.lines),
      )
