-- The names that several of these proofs cite, passed on from one place.
pub use Rattle.lane_rings.specs.Lane.{HasConfirmation, IsWhole, Lane, all_sent, closed_lane, items, receiver_lane}
pub use Rattle.lane_rings.specs.Lane.{sender_lane, sent, taken, waiting}
pub use Rattle.lane_rings.specs.declared.item.Item.{Item}
pub use Rattle.lane_rings.specs.declared.sender.Closed.{Closed}
pub use Rattle.lane_rings.specs.declared.sender.Sender.{Sender}
pub use Rattle.register_records.specs.Entries.{AreNumberedFrom, Fields, HasAllEntries, HasEntries, HasFirstEntries}
pub use Rattle.register_records.specs.Entries.{HasNoHeader, HasTooMany, IsNotSealed, Numbered, Reading, body_of}
pub use Rattle.register_records.specs.Entries.{record_limit}
pub use Rattle.register_records.specs.Seen.{entry_seen}
pub use Rattle.register_records.specs.TableStates.{is_of_table}
pub use Rattle.register_records.specs.Views.{given_of, layout_of, reading_of, reads_by, text_of}
pub use Rattle.register_records.specs.declared.ends.Cause.{Cause}
pub use Rattle.register_records.specs.declared.ends.SourceEnd.{SourceEnd}
pub use Rattle.register_records.specs.declared.entries.Entry.{Entry}
pub use Rattle.register_records.specs.declared.rows.Row.{Row}
pub use Rattle.register_records.specs.declared.setups.Setup.{Setup}
pub use Rattle.register_records.specs.declared.tables.Table.{Table}
pub use Rattle.register_run.specs.Carried.{carried}
pub use Rattle.register_run.specs.private.Carried.{AreDealt, AreOfAllTaken, AreOfTaken, HasEnd, HasEnded, WereDealt}
pub use Rattle.register_run.specs.Carried.{row_entries, rows_carried}
pub use Rattle.register_run.specs.private.Carried.{dealt}
pub use Rattle.register_run.specs.private.Cases.{Case, case, case_of, cases, end_of, ended_case, output_of, ran_of}
pub use Rattle.register_run.specs.Histories.{AreOfMachine, HaveHistories, IsMachineWithTable}
pub use Rattle.register_run.specs.private.Histories.{Carries}
pub use Rattle.register_run.specs.JoinedThreads.{AreOfLanes}
pub use Rattle.register_run.specs.private.JoinedThreads.{HasPassed, HasSent, IsConverting, IsGiven, IsNotOfOutput}
pub use Rattle.register_run.specs.private.JoinedThreads.{IsOfGiven, IsOfThreads, MaySend, Sends, is_of_reading}
pub use Rattle.register_run.specs.private.JoinedThreads.{speaks_of_text}
pub use Rattle.register_run.specs.private.Popped.{AreOpen, HasLooked, HasLookedAt, HasPopped, IsInTurn, popped}
pub use Rattle.register_run.specs.private.Popped.{popped_from}
pub use Rattle.register_run.specs.private.Stripes.{AnyTook, AreSameStripes, AreStaffed, HasPassedOn, HavePassedOn}
pub use Rattle.register_run.specs.private.Stripes.{IsRowNext}
pub use Rattle.register_run.specs.Stripes.{feeding_lane}
pub use Rattle.register_run.specs.private.Stripes.{IsSameStripe, StartWithRow, StripeTook, start_fault_cause}
pub use Rattle.register_run.specs.Stripes.{stripe_setup}
pub use Rattle.register_run.specs.Worlds.{World, numbers}
pub use Rattle.register_run.specs.declared.ended_sources.Findings.{Findings}
pub use Rattle.register_run.specs.declared.reading.Sent.{Sent}
pub use Rattle.register_run.specs.declared.reports.Ran.{Ran}
pub use Rattle.register_run.specs.declared.stripes.Stripe.{Stripe}
pub use Rattle.std.proofs.Common.{All, Bool, Err, IfOk, IfSome, List, None, Ok, OnErr, OnOk, Option, Result, Some, []}
pub use Rattle.std.proofs.Common.{ap, append-nil, append_assoc, arith, false, get_or, inl, inr, is_err, leb-true}
pub use Rattle.std.proofs.Common.{length, length-append, length-set, map, refl, replicate, rules, set, subst, suc, sym}
pub use Rattle.std.proofs.Common.{true, vec_capacity, vec_len, zero, ℕ, ◌++◌, ◌+◌, ◌<◌, ◌∙◌, ◌∷◌, ◌≡◌, ◌≢◌, ◌≤◌, ◌⊎◌}
pub use Rattle.std.proofs.Math.Logic.{∥∥₁_elim, ∥∥₁_map, ∥∥₁_prop}
pub use Rattle.std.proofs.Props.{props}
pub use Rattle.std.proofs.lemmas.Bool.{and_parts, cases_eq, false_from_ne_true}
pub use Rattle.std.proofs.lemmas.List.{get_or-map, length-map, length-replicate, length_push, map-append}
pub use Rattle.std.proofs.lemmas.List.{replicate-append-replicate}
pub use Rattle.std.proofs.lemmas.Slice.Zip.{AllZip-long}
pub use Rattle.std.specs.List.{AllZip, Contains}
pub use Rattle.std.specs.Vec.Iter.{into_iter_items, into_iter_len}
pub use Rattle.lane_rings.specs.Machine.{Actor, start, turn}
