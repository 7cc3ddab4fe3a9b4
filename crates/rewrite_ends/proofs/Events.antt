-- Starts and ends of transactions, and calls on the registry of snapshots, keep what holds of a rewrite.
use Rattle.std.proofs.Common.{ℕ, ◌≡◌, ◌-◌, ◌+◌, inl, inr, true, List, Some, None, slice_set, refl, arith}
use Rattle.slot_page.specs.declared.line.Tid.{Tid}
use Rattle.slot_page.specs.Pages.{item_in}
use Rattle.xact_status.specs.Xacts.{Xacts, is_running, commit_count, after_assign, after_commit, after_abort}
use Rattle.xact_status.specs.declared.Xact.{Xact}
use Rattle.xact_status.specs.declared.Xact.TheVariants.{Committed, Aborted}
use Rattle.xact_status.specs.Xacts.{session_of}
use Rattle.xact_status.proofs.Events.{assigned_assign, assigned_set, running_assign, running_set}
use Rattle.snapshot_registry.specs.Snapshots.{Snaps, after_take, after_share, after_release}
use Rattle.row_versions.specs.declared.version.Version.{Version}
use Rattle.row_versions.specs.Relations.{Pages}
use Rattle.value_holders.proofs.Later.{IsLater, committed_later, later_assign, later_commit, later_abort, later_take, later_share, later_release}
use Rattle.value_holders.proofs.Tests.{not_true, clash}
use Rattle.table_state.specs.declared.table.Table.{Table}
use Rattle.rewrite_facts.specs.Copies.{AreVisited, Copied}
use Rattle.rewrite_facts.specs.Holds.{RewriteHolds}
use Rattle.rewrite_facts.specs.Rewrites.{Rewriting}
use Rattle.rewrite_ends.specs.Quiet.{AreQuiet, IsOver}
use Rattle.rewrite_ends.specs.Laws.{EventsKeep}
use Rattle.rewrite_ends.proofs.Chosen.{IsQuiet, chosen_protected, protected_chosen}

-- a version of a table whose versions are quiet
pub quiet_at : (xacts : Xacts) (pages : Pages) (tid : Tid) (version : Version) → AreQuiet xacts pages → item_in pages tid ≡ Some version → IsQuiet xacts version
quiet_at xacts pages tid version quiet there = record { inserter = quiet.inserter tid version there; ender = λ xid ended. quiet.ender tid version xid there ended }

-- ---- what is chosen was chosen

-- the visited versions have their copies as before
visited_later : (was now : Xacts) (before after : Snaps) (pages : Pages) (place : Tid) (copies : List Copied) → IsLater was now before after → AreQuiet was pages → AreVisited was before pages place copies → AreVisited now after pages place copies
visited_later was now before after pages place copies later quiet visited = record {
  each = λ tid version there earlier chosen.
      let still = quiet_at was pages tid version quiet there in
      visited.each tid version there earlier (protected_chosen was before version still (later.protected version.inserter version.ender still.inserter.given (chosen_protected now after version chosen)));
}

-- nothing else of a rewrite asks for statuses or snapshots
hold_later : (was now : Xacts) (before after : Snaps) (old : Table) (r : Rewriting) → IsLater was now before after → AreQuiet was old.rows.pages → RewriteHolds was before old r → RewriteHolds now after old r
hold_later was now before after old r later quiet holds = record {
  copies = holds.copies;
  rows = holds.rows;
  order = holds.order;
  visited = visited_later was now before after old.rows.pages r.place holds.copies later quiet holds.visited;
  made = holds.made;
  inserted = record {
    each = λ copy held. committed_later was now before after later copy.was.inserter (holds.inserted.each copy held);
    under_way = λ inserter is. committed_later was now before after later inserter (holds.inserted.under_way inserter is);
  };
  relation = holds.relation;
  shared = holds.shared;
  chunks = holds.chunks;
  stage = holds.stage;
}

-- ---- what is over stays over

over_assign : (xacts : Xacts) (session xid : ℕ) → IsOver xacts xid → IsOver (after_assign xacts session) xid
over_assign xacts session xid over = record {
  given = assigned_assign xacts session xid over.given;
  ended = not_true (is_running (after_assign xacts session) xid) (λ runs. elim (running_assign xacts session xid runs) [
    | inl new ↦ omega (arith, new, over.given.below_next)
    | inr ran ↦ clash (is_running xacts xid) ran over.ended
  ]);
}

over_set : (xacts : Xacts) (ended xid : ℕ) (xact : Xact) → session_of xact ≡ None → is_running xacts ended ≡ true → IsOver xacts xid → IsOver (slice_set xacts (ended - 3) xact) xid
over_set xacts ended xid xact none runs over = record {
  given = assigned_set xacts (ended - 3) xid xact over.given;
  ended = not_true (is_running (slice_set xacts (ended - 3) xact) xid) (λ still. clash (is_running xacts xid) (running_set xacts ended xact none runs xid still).1 over.ended);
}

-- so are the transactions that versions name
quiet_by : (was now : Xacts) (pages : Pages) → ((xid : ℕ) → IsOver was xid → IsOver now xid) → AreQuiet was pages → AreQuiet now pages
quiet_by was now pages over quiet = record {
  inserter = λ tid version there. over version.inserter (quiet.inserter tid version there);
  ender = λ tid version xid there ended. over xid (quiet.ender tid version xid there ended);
}

pub quiet_commit : (xacts : Xacts) (x : ℕ) (pages : Pages) → is_running xacts x ≡ true → AreQuiet xacts pages → AreQuiet (after_commit xacts x) pages
quiet_commit xacts x pages runs = quiet_by xacts (after_commit xacts x) pages (λ xid. over_set xacts x xid (Committed (commit_count xacts + 1)) refl runs)

pub events_keep : EventsKeep
events_keep = record {
  assigned = λ xacts snaps session old r registry. hold_later xacts (after_assign xacts session) snaps snaps old r (later_assign xacts snaps session registry);
  committed = λ xacts snaps x old r runs registry. hold_later xacts (after_commit xacts x) snaps snaps old r (later_commit xacts snaps x runs registry);
  aborted = λ xacts snaps x old r runs registry. hold_later xacts (after_abort xacts x) snaps snaps old r (later_abort xacts snaps x runs registry);
  taken = λ xacts snaps old r. hold_later xacts xacts snaps (after_take snaps xacts) old r (later_take xacts snaps);
  shared = λ xacts snaps id old r. hold_later xacts xacts snaps (after_share snaps id) old r (later_share xacts snaps id);
  released = λ xacts snaps id old r. hold_later xacts xacts snaps (after_release snaps id) old r (later_release xacts snaps id);
  quiet_assigned = λ xacts session pages. quiet_by xacts (after_assign xacts session) pages (over_assign xacts session);
  quiet_committed = quiet_commit;
  quiet_aborted = λ xacts x pages runs. quiet_by xacts (after_abort xacts x) pages (λ xid. over_set xacts x xid Aborted refl runs);
}
