-- The events of transactions and snapshots keep a held value held.
use Rattle.std.proofs.Common.{◌≡◌, ◌≢◌, ◌≤◌, ◌+◌, ◌-◌, ℕ, Bool, true, false, ◌||◌, cond, ◌⊎◌, List, Option, Some, None, is_some, Contains, ◌==◌, nat_le, refl, sym, ap, subst, ◌∙◌, arith, inl, inr}
use Rattle.std.specs.Option.{option_map_or}
use Rattle.std.proofs.lemmas.Bool.{cases_eq}
use Rattle.std.proofs.lemmas.Bool.Decides.{nat_tests}
use Rattle.std.proofs.lemmas.Option.{same_Some}
use Rattle.xact_status.specs.declared.Xact.TheVariants.{Committed, Aborted}
use Rattle.xact_status.specs.Xacts.{Xacts, IsAssigned, next_xid, is_running, is_committed, commit_number, commit_count, after_assign, after_commit, after_abort}
use Rattle.xact_status.proofs.Numbers.{number_assign, number_commit, number_abort}
use Rattle.xact_status.proofs.Events.{running_assign, running_set, committed_assign, committed_commit, committed_abort, some_number}
use Rattle.snapshot_registry.specs.Snapshots.{Snaps, is_protected, after_take, after_share, after_release}
use Rattle.snapshot_registry.specs.Laws.{IsRegistryOf, is_committed_by}
use Rattle.xact_status.specs.declared.Stamp.{Stamp}
use Rattle.xact_status.specs.Versions.{counts_for, is_current}
use Rattle.value_holders.specs.Stamps.{Runs, IsSoundStamp, has_ended}
use Rattle.value_holders.specs.Holders.{Holders, AreSound, Protects, AreEnded, AreEndedBy, IsChunkHeld, IsHeld, AreGiven, IsPartOf}
use Rattle.value_holders.specs.Laws.{EventsKeepHeld, AreEndedStay}
use Rattle.value_holders.proofs.Tests.{clash, not_true, test, runs_uncommitted, counts_cases, counts_own, counts_committed, ended_by_whom, ended_from, ended_for_all, current_parts, current_from, protected_running, current_is_protected}
use Rattle.value_holders.proofs.Later.{IsLater, committed_later, later_assign, later_commit, later_abort, later_take, later_share, later_release}

-- what every event keeps, whichever it is
module _ {K : Type 0} (old new : Xacts) (before after : Snaps) (later : IsLater old new before after) (holders : Holders K) (sound : AreSound old holders) where
  -- what counts goes on to
  counts_later : (own : Option ℕ) (xid : ℕ) → counts_for old own xid ≡ true → counts_for new own xid ≡ true
  counts_later None xid counts = committed_later old new before after later xid counts
  counts_later (Some mine) xid counts = elim (counts_cases old mine xid counts) [
    | inl same ↦ subst (λ x. counts_for new (Some mine) x ≡ true) same (counts_own new mine)
    | inr committed ↦ counts_committed new (Some mine) xid (committed_later old new before after later xid committed)
  ]

  ended_later : (own : Option ℕ) (stamp : Stamp) → has_ended old own stamp ≡ true → has_ended new own stamp ≡ true
  ended_later own stamp ended =
      let by = ended_by_whom old own stamp ended in
      ended_from new own stamp by.0 by.1 (counts_later own by.0 by.2)

  -- who protects the value did so before
  protects_before : (place : K) (stamp : Stamp) → Protects new after holders place stamp → Protects old before holders place stamp
  protects_before place stamp protects = record {
    there = protects.there;
    protected = later.protected stamp.inserter stamp.ender (sound.each place stamp protects.there).given protects.protected;
  }

  pub sound_later : AreSound new holders
  sound_later = record {
    each = λ place stamp is.
        let was = sound.each place stamp is in
        record {
          given = later.given stamp.inserter was.given;
          own_end = λ xid runs. was.own_end xid (later.runs stamp.inserter was.given runs);
        };
  }

  pub are_ended_later : (xid : ℕ) → AreEnded old before holders xid → AreEnded new after holders xid
  are_ended_later xid ended = record { each = λ place stamp protects. ended_later (Some xid) stamp (ended.each place stamp (protects_before place stamp protects)) }

  -- a number that is at most another stays so
  by_later : (number xid : ℕ) → is_committed_by old number xid ≡ true → is_committed_by new number xid ≡ true
  by_later number xid by = of_number (commit_number old xid) refl by
    where
      of_number : (o : Option ℕ) → commit_number old xid ≡ o → option_map_or (λ its. nat_le its number) o false ≡ true → is_committed_by new number xid ≡ true
      of_number None is e = absurd (cc)
      of_number (Some its) is e = ap (λ o. option_map_or (λ n. nat_le n number) o false) (later.numbers xid its is) ∙ e

  are_ended_by_later : (number : ℕ) → AreEndedBy old before holders number → AreEndedBy new after holders number
  are_ended_by_later number ended = record { each = λ place stamp protects. of_ender stamp.ender (ended.each place stamp (protects_before place stamp protects)) }
    where
      of_ender : (o : Option ℕ) → option_map_or (is_committed_by old number) o false ≡ true → option_map_or (is_committed_by new number) o false ≡ true
      of_ender None e = e
      of_ender (Some ender) e = by_later number ender e

  -- a value stays held where at most one holder is there for each transaction, and its chunks' enders ran before and had their numbers, or ended after all holders
  pub held_later : (chunks : List Stamp) → IsHeld old before holders chunks
      → ((own : Option ℕ) (place other : K) (stamp its : Stamp) → Runs new own → holders place ≡ Some stamp → holders other ≡ Some its → is_current new own stamp ≡ true → is_current new own its ≡ true → place ≡ other)
      → ((chunk : Stamp) (xid : ℕ) → Contains chunks chunk → chunk.ender ≡ Some xid → is_running new xid ≡ true → is_running old xid ≡ true)
      → ((chunk : Stamp) (xid number : ℕ) → Contains chunks chunk → chunk.ender ≡ Some xid → commit_number new xid ≡ Some number → (commit_number old xid ≡ Some number) ⊎ AreEndedBy new after holders number)
      → IsHeld new after holders chunks
  held_later chunks held one_current runs numbers = record {
    sound = sound_later;
    one_current = one_current;
    one_world = λ place other stamp its running is protects.
        let was = held.one_world place other stamp its (later.runs stamp.inserter (sound.each place stamp is).given running) is (protects_before other its protects) in
        elim was [
          | inl own ↦ inl own
          | inr ended ↦ inr (committed_later old new before after later its.inserter ended.0, ended_later (Some stamp.inserter) its ended.1)
        ];
    each_chunk = λ chunk among.
        let was = held.each_chunk chunk among in
        record {
          ending = λ xid is running. are_ended_later xid (was.ending xid is (runs chunk xid among is running));
          ended = λ xid number is has. elim (numbers chunk xid number among is has) [
            | inl had ↦ are_ended_by_later number (was.ended xid number is had)
            | inr after_all ↦ after_all
          ];
          put = λ place stamp protects. elim (was.put place stamp (protects_before place stamp protects)) [
            | inl own ↦ inl own
            | inr committed ↦ inr (committed_later old new before after later chunk.inserter committed)
          ];
        };
  }

-- where no transaction changes, what is there stays
held_snaps : {K : Type 0} (xacts : Xacts) (before after : Snaps) (holders : Holders K) (chunks : List Stamp) → IsLater xacts xacts before after → IsHeld xacts before holders chunks → IsHeld xacts after holders chunks
held_snaps xacts before after holders chunks later held = held_later xacts xacts before after later holders held.sound chunks held held.one_current
    (λ chunk xid among is runs. runs) (λ chunk xid number among is has. inl has)

-- what is there for a transaction is there for none, or was inserted by it
same_current : (old new : Xacts) (own : Option ℕ) (stamp : Stamp) → ((xid : ℕ) → is_committed new xid ≡ is_committed old xid) → is_current new own stamp ≡ true → is_current old own stamp ≡ true
same_current old new own stamp same current =
    let parts = current_parts new own stamp current in
    current_from old own stamp (sym (counts stamp.inserter) ∙ parts.0) (not_true (has_ended old own stamp) (λ ended.
    let by = ended_by_whom old own stamp ended in
    clash (has_ended new own stamp) (ended_from new own stamp by.0 by.1 (counts by.0 ∙ by.2)) parts.1))
  where
    counts : (xid : ℕ) → counts_for new own xid ≡ counts_for old own xid
    counts xid = ap (λ b. option_map_or (λ mine. mine == xid) own false || b) (same xid)

-- a start
held_assign : {K : Type 0} (xacts : Xacts) (snaps : Snaps) (session : ℕ) (holders : Holders K) (chunks : List Stamp) → IsRegistryOf xacts snaps → AreGiven xacts chunks → IsHeld xacts snaps holders chunks → IsHeld (after_assign xacts session) snaps holders chunks
held_assign {K} xacts snaps session holders chunks registry given held =
    let later = later_assign xacts snaps session registry in
    held_later xacts new snaps snaps later holders held.sound chunks held one_current
    (λ chunk xid among is runs. later.runs xid (given.each chunk xid among is) runs)
    (λ chunk xid number among is has. inl (sym (number_assign xacts session xid) ∙ has))
  where
    new : Xacts
    new = after_assign xacts session

    -- what is there for the new transaction is there for none
    for_none : (place : K) (stamp : Stamp) → holders place ≡ Some stamp → is_current new (Some (next_xid xacts)) stamp ≡ true → is_current xacts None stamp ≡ true
    for_none place stamp is current =
        let parts = current_parts new (Some (next_xid xacts)) stamp current in
        same_current xacts new None stamp (committed_assign xacts session) (current_from new None stamp
        (elim (counts_cases new (next_xid xacts) stamp.inserter parts.0) [
          | inl same ↦ absurd (omega (arith, same, (held.sound.each place stamp is).given.below_next))
          | inr committed ↦ committed
        ])
        (not_true (has_ended new None stamp) (λ ended. clash (has_ended new (Some (next_xid xacts)) stamp) (ended_for_all new (Some (next_xid xacts)) stamp ended) parts.1)))

    one_current : (own : Option ℕ) (place other : K) (stamp its : Stamp) → Runs new own → holders place ≡ Some stamp → holders other ≡ Some its → is_current new own stamp ≡ true → is_current new own its ≡ true → place ≡ other
    one_current None place other stamp its runs is is_too current current_too =
        held.one_current None place other stamp its tt is is_too (same_current xacts new None stamp (committed_assign xacts session) current) (same_current xacts new None its (committed_assign xacts session) current_too)
    one_current (Some xid) place other stamp its runs is is_too current current_too = elim (running_assign xacts session xid runs) [
      | inl next ↦ held.one_current None place other stamp its tt is is_too
          (for_none place stamp is (subst (λ x. is_current new (Some x) stamp ≡ true) next current))
          (for_none other its is_too (subst (λ x. is_current new (Some x) its ≡ true) next current_too))
      | inr ran ↦ held.one_current (Some xid) place other stamp its ran is is_too (same_current xacts new (Some xid) stamp (committed_assign xacts session) current) (same_current xacts new (Some xid) its (committed_assign xacts session) current_too)
    ]

-- an abort
held_abort : {K : Type 0} (xacts : Xacts) (snaps : Snaps) (over : ℕ) (holders : Holders K) (chunks : List Stamp) → is_running xacts over ≡ true → IsRegistryOf xacts snaps → IsHeld xacts snaps holders chunks → IsHeld (after_abort xacts over) snaps holders chunks
held_abort {K} xacts snaps over holders chunks running registry held =
    held_later xacts new snaps snaps (later_abort xacts snaps over running registry) holders held.sound chunks held one_current
    (λ chunk xid among is runs. (running_set xacts over Aborted refl running xid runs).1)
    (λ chunk xid number among is has. inl (sym (number_abort xacts over running xid) ∙ has))
  where
    new : Xacts
    new = after_abort xacts over

    ran : (own : Option ℕ) → Runs new own → Runs xacts own
    ran None runs = tt
    ran (Some xid) runs = (running_set xacts over Aborted refl running xid runs).1

    one_current : (own : Option ℕ) (place other : K) (stamp its : Stamp) → Runs new own → holders place ≡ Some stamp → holders other ≡ Some its → is_current new own stamp ≡ true → is_current new own its ≡ true → place ≡ other
    one_current own place other stamp its runs is is_too current current_too =
        held.one_current own place other stamp its (ran own runs) is is_too (same_current xacts new own stamp (committed_abort xacts over running) current) (same_current xacts new own its (committed_abort xacts over running) current_too)

-- a commit: what is there for none was there for the transaction, and its ends come after all before
held_commit : {K : Type 0} (xacts : Xacts) (snaps : Snaps) (over : ℕ) (holders : Holders K) (chunks : List Stamp) → is_running xacts over ≡ true → IsRegistryOf xacts snaps → IsHeld xacts snaps holders chunks → IsHeld (after_commit xacts over) snaps holders chunks
held_commit {K} xacts snaps over holders chunks running registry held =
    held_later xacts new snaps snaps later holders held.sound chunks held one_current
    (λ chunk xid among is runs. (running_set xacts over (Committed (commit_count xacts + 1)) refl running xid runs).1)
    numbers
  where
    new : Xacts
    new = after_commit xacts over

    later : IsLater xacts new snaps snaps
    later = later_commit xacts snaps over running registry

    -- what has committed now had committed, or is the transaction
    had_committed : (xid : ℕ) → is_committed new xid ≡ true → (xid ≡ over) ⊎ (is_committed xacts xid ≡ true)
    had_committed xid committed = elim (cases_eq xid over) [
      | inl same ↦ inl same
      | inr differ ↦ inr (sym (another xid over (is_committed xacts xid) differ) ∙ sym (committed_commit xacts over running xid) ∙ committed)
    ]
      where
        another : (m n : ℕ) (b : Bool) → m ≢ n → cond (m == n) true b ≡ b
        another m n b differ = grind (arith, nat_tests)

    over_committed : is_committed new over ≡ true
    over_committed = committed_commit xacts over running over ∙ here over (is_committed xacts over)
      where
        here : (n : ℕ) (b : Bool) → cond (n == n) true b ≡ true
        here n b = grind (arith, nat_tests)

    -- so what counts for another now counted for it or for the transaction
    counted : (xid other : ℕ) → counts_for new (Some xid) other ≡ true → (counts_for xacts (Some xid) other ≡ true) ⊎ (other ≡ over)
    counted xid other counts = elim (counts_cases new xid other counts) [
      | inl same ↦ inl (subst (λ x. counts_for xacts (Some xid) x ≡ true) same (counts_own xacts xid))
      | inr committed ↦ elim (had_committed other committed) [
        | inl ended ↦ inr ended
        | inr had ↦ inl (counts_committed xacts (Some xid) other had)
      ]
    ]

    -- an end that counted for another, or for the transaction, counts now for both
    ended_now : (own : Option ℕ) (stamp : Stamp) → has_ended xacts own stamp ≡ true → has_ended new own stamp ≡ true
    ended_now own stamp ended = ended_later xacts new snaps snaps later holders held.sound own stamp ended

    ended_by_over : (own : Option ℕ) (stamp : Stamp) → has_ended xacts (Some over) stamp ≡ true → has_ended new own stamp ≡ true
    ended_by_over own stamp ended =
        let by = ended_by_whom xacts (Some over) stamp ended in
        ended_from new own stamp by.0 by.1 (counts_committed new own by.0 (elim (counts_cases xacts over by.0 by.2) [
          | inl same ↦ subst (λ x. is_committed new x ≡ true) same over_committed
          | inr committed ↦ committed_later xacts new snaps snaps later by.0 committed
        ]))

    -- what is there for another now, and was inserted by what counted for it, was there for it
    for_it : (own : Option ℕ) (stamp : Stamp) → counts_for xacts own stamp.inserter ≡ true → is_current new own stamp ≡ true → is_current xacts own stamp ≡ true
    for_it own stamp inserted current = current_from xacts own stamp inserted (not_true (has_ended xacts own stamp) (λ ended. clash (has_ended new own stamp) (ended_now own stamp ended) (current_parts new own stamp current).1))

    -- and what counted for the transaction has inserted was there for the transaction
    for_over : (own : Option ℕ) (stamp : Stamp) → counts_for xacts (Some over) stamp.inserter ≡ true → is_current new own stamp ≡ true → is_current xacts (Some over) stamp ≡ true
    for_over own stamp inserted current = current_from xacts (Some over) stamp inserted (not_true (has_ended xacts (Some over) stamp) (λ ended. clash (has_ended new own stamp) (ended_by_over own stamp ended) (current_parts new own stamp current).1))

    counts_over : (xid : ℕ) → xid ≡ over → counts_for xacts (Some over) xid ≡ true
    counts_over xid same = subst (λ x. counts_for xacts (Some over) x ≡ true) (sym same) (counts_own xacts over)

    -- what another transaction has inserted and what this one has inserted are not both there for the other
    apart : (xid : ℕ) (place other : K) (stamp its : Stamp) → is_running xacts xid ≡ true → stamp.inserter ≡ xid → its.inserter ≡ over → xid ≢ over → holders place ≡ Some stamp → holders other ≡ Some its → ⊥
    apart xid place other stamp its runs inserted its_over differ is is_too =
        elim (held.one_world place other stamp its (ap (is_running xacts) inserted ∙ runs) is (record { there = is_too; protected = protected_running xacts snaps its.inserter its.ender (ap (is_running xacts) its_over ∙ running) })) [
          | inl same ↦ differ (sym inserted ∙ sym same ∙ its_over)
          | inr ended ↦ runs_uncommitted xacts over running (sym (ap (is_committed xacts) its_over) ∙ ended.0)
        ]

    -- the inserter of what is there for another now: the other, the transaction, or one that had committed
    who : (xid : ℕ) (stamp : Stamp) → is_current new (Some xid) stamp ≡ true → (stamp.inserter ≡ xid) ⊎ ((stamp.inserter ≡ over) ⊎ (is_committed xacts stamp.inserter ≡ true))
    who xid stamp current = elim (counts_cases new xid stamp.inserter (current_parts new (Some xid) stamp current).0) [
      | inl same ↦ inl (sym same)
      | inr committed ↦ inr (had_committed stamp.inserter committed)
    ]

    one_current : (own : Option ℕ) (place other : K) (stamp its : Stamp) → Runs new own → holders place ≡ Some stamp → holders other ≡ Some its → is_current new own stamp ≡ true → is_current new own its ≡ true → place ≡ other
    one_current None place other stamp its runs is is_too current current_too =
        held.one_current (Some over) place other stamp its running is is_too (for_over None stamp (inserted stamp current) current) (for_over None its (inserted its current_too) current_too)
      where
        inserted : (one : Stamp) → is_current new None one ≡ true → counts_for xacts (Some over) one.inserter ≡ true
        inserted one there = elim (had_committed one.inserter (current_parts new None one there).0) [
          | inl same ↦ counts_over one.inserter same
          | inr committed ↦ counts_committed xacts (Some over) one.inserter committed
        ]
    one_current (Some xid) place other stamp its runs is is_too current current_too =
        let before = running_set xacts over (Committed (commit_count xacts + 1)) refl running xid runs in
        elim (who xid stamp current) [
          | inl own ↦ elim (who xid its current_too) [
            | inl own_too ↦ both_its (counts_its stamp (inl own)) (counts_its its (inl own_too)) before.1
            | inr other_two ↦ elim other_two [
              | inl its_over ↦ absurd (apart xid place other stamp its before.1 own its_over before.0 is is_too)
              | inr committed ↦ both_its (counts_its stamp (inl own)) (counts_its its (inr committed)) before.1
            ]
          ]
          | inr two ↦ elim two [
            | inl by_over ↦ elim (who xid its current_too) [
              | inl own_too ↦ absurd (apart xid other place its stamp before.1 own_too by_over before.0 is_too is)
              | inr other_two ↦ elim other_two [
                | inl its_over ↦ both_over (counts_over stamp.inserter by_over) (counts_over its.inserter its_over)
                | inr committed ↦ both_over (counts_over stamp.inserter by_over) (counts_committed xacts (Some over) its.inserter committed)
              ]
            ]
            | inr committed ↦ elim (who xid its current_too) [
              | inl own_too ↦ both_its (counts_its stamp (inr committed)) (counts_its its (inl own_too)) before.1
              | inr other_two ↦ elim other_two [
                | inl its_over ↦ both_over (counts_committed xacts (Some over) stamp.inserter committed) (counts_over its.inserter its_over)
                | inr committed_too ↦ both_its (counts_its stamp (inr committed)) (counts_its its (inr committed_too)) before.1
              ]
            ]
          ]
        ]
      where
        counts_its : (one : Stamp) → (one.inserter ≡ xid) ⊎ (is_committed xacts one.inserter ≡ true) → counts_for xacts (Some xid) one.inserter ≡ true
        counts_its one (inl same) = subst (λ x. counts_for xacts (Some xid) x ≡ true) (sym same) (counts_own xacts xid)
        counts_its one (inr committed) = counts_committed xacts (Some xid) one.inserter committed

        both_its : counts_for xacts (Some xid) stamp.inserter ≡ true → counts_for xacts (Some xid) its.inserter ≡ true → is_running xacts xid ≡ true → place ≡ other
        both_its inserted inserted_too ran = held.one_current (Some xid) place other stamp its ran is is_too (for_it (Some xid) stamp inserted current) (for_it (Some xid) its inserted_too current_too)

        both_over : counts_for xacts (Some over) stamp.inserter ≡ true → counts_for xacts (Some over) its.inserter ≡ true → place ≡ other
        both_over inserted inserted_too = held.one_current (Some over) place other stamp its running is is_too (for_over (Some xid) stamp inserted current) (for_over (Some xid) its inserted_too current_too)

    -- the commit's number is above those of all that had committed
    by_over : (xid : ℕ) → counts_for xacts (Some over) xid ≡ true → is_committed_by new (commit_count xacts + 1) xid ≡ true
    by_over xid counts = elim (counts_cases xacts over xid counts) [
      | inl same ↦ subst (λ x. is_committed_by new (commit_count xacts + 1) x ≡ true) same (of_number over (commit_count xacts + 1) (number_commit xacts over running over ∙ here over (commit_number xacts over)) (omega arith))
      | inr committed ↦
          let number = some_number xacts xid committed in
          of_number xid number.0 (later.numbers xid number.0 number.1) (omega (arith, registry.numbered.at_most_count xid number.0 number.1))
    ]
      where
        here : (n : ℕ) (o : Option ℕ) → cond (n == n) (Some (commit_count xacts + 1)) o ≡ Some (commit_count xacts + 1)
        here n o = grind (arith, nat_tests)

        at_most : (m n : ℕ) → m ≤ n → nat_le m n ≡ true
        at_most m n le = grind (arith, nat_tests)

        of_number : (z n : ℕ) → commit_number new z ≡ Some n → n ≤ commit_count xacts + 1 → is_committed_by new (commit_count xacts + 1) z ≡ true
        of_number z n has le = ap (λ o. option_map_or (λ its. nat_le its (commit_count xacts + 1)) o false) has ∙ at_most n (commit_count xacts + 1) le

    numbers : (chunk : Stamp) (xid number : ℕ) → Contains chunks chunk → chunk.ender ≡ Some xid → commit_number new xid ≡ Some number → (commit_number xacts xid ≡ Some number) ⊎ AreEndedBy new snaps holders number
    numbers chunk xid number among is has = elim (cases_eq xid over) [
      | inl same ↦
          let last : commit_count xacts + 1 ≡ number = same_Some (commit_count xacts + 1) number (sym (number_commit xacts over running xid ∙ here xid over (commit_number xacts xid) same) ∙ has) in
          let ended = (held.each_chunk chunk among).ending over (is ∙ ap Some same) running in
          inr (subst (AreEndedBy new snaps holders) last (record {
            each = λ place stamp protects.
                let by = ended_by_whom xacts (Some over) stamp (ended.each place stamp (protects_before xacts new snaps snaps later holders held.sound place stamp protects)) in
                ap (λ o. option_map_or (is_committed_by new (commit_count xacts + 1)) o false) by.1 ∙ by_over by.0 by.2;
          }))
      | inr differ ↦ inl (sym (number_commit xacts over running xid ∙ there xid over (commit_number xacts xid) differ) ∙ has)
    ]
      where
        here : (m n : ℕ) (o : Option ℕ) → m ≡ n → cond (m == n) (Some (commit_count xacts + 1)) o ≡ Some (commit_count xacts + 1)
        here m n o same = grind (arith, nat_tests)

        there : (m n : ℕ) (o : Option ℕ) → m ≢ n → cond (m == n) (Some (commit_count xacts + 1)) o ≡ o
        there m n o differ = grind (arith, nat_tests)

pub events_keep_held : {K : Type 0} → EventsKeepHeld K
events_keep_held = record {
  assigned = held_assign;
  committed = held_commit;
  aborted = held_abort;
  taken = λ xacts snaps holders chunks. held_snaps xacts snaps (after_take snaps xacts) holders chunks (later_take xacts snaps);
  shared = λ xacts snaps id holders chunks. held_snaps xacts snaps (after_share snaps id) holders chunks (later_share xacts snaps id);
  released = λ xacts snaps id holders chunks. held_snaps xacts snaps (after_release snaps id) holders chunks (later_release xacts snaps id);
}

pub are_ended_stay : {K : Type 0} → AreEndedStay K
are_ended_stay = record {
  assigned = λ xacts snaps session xid holders registry sound. are_ended_later xacts (after_assign xacts session) snaps snaps (later_assign xacts snaps session registry) holders sound xid;
  committed = λ xacts snaps over xid holders running registry sound. are_ended_later xacts (after_commit xacts over) snaps snaps (later_commit xacts snaps over running registry) holders sound xid;
  aborted = λ xacts snaps over xid holders running registry sound. are_ended_later xacts (after_abort xacts over) snaps snaps (later_abort xacts snaps over running registry) holders sound xid;
  taken = λ xacts snaps xid holders sound. are_ended_later xacts xacts snaps (after_take snaps xacts) (later_take xacts snaps) holders sound xid;
  shared = λ xacts snaps id xid holders sound. are_ended_later xacts xacts snaps (after_share snaps id) (later_share xacts snaps id) holders sound xid;
  released = λ xacts snaps id xid holders sound. are_ended_later xacts xacts snaps (after_release snaps id) (later_release xacts snaps id) holders sound xid;
  pruned = λ xacts snaps old new xid part ended. record { each = λ place stamp protects. ended.each place stamp (record { there = part.each place stamp protects.there; protected = protects.protected }) };
}
