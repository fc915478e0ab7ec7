use Rattle.std.proofs.Common.{rules, ◌∙◌, sym, ap, arith, map, slice_set, true, Bor, List, ℕ, [], ◌∷◌, ◌≡◌, ◌==◌, Bool}
use Rattle.std.proofs.Common.{length, refl}
use Rattle.sheets.proofs.Common.{named_by}
use Rattle.std.proofs.lemmas.List.{map-append}
use Rattle.std.proofs.lemmas.List.Elements.{All-append}
use Rattle.std.proofs.lemmas.Iterator.Consumers.{YieldsList-end, YieldsList-turn}
use Rattle.written_dates.specs.Calendars.{place}
use Rattle.sheets.specs.NameLists.{IsCalendar}
use Rattle.std.proofs.lemmas.Bool.Decides.{nat_tests}
use Rattle.std.proofs.lemmas.Option.{none-some}
use Rattle.sheets.proofs.NameListLemmas.{named_more, names_of_split}
use Rattle.sheets.proofs.name_calendars.calendars_said.Goals as goal

pub returns-in_err-calendar_named-clause-none : goal.returns-in_err-calendar_named-clause-none
returns-in_err-calendar_named-clause-none c none =
    let split = c.split-name-items.ensures in
    let names = names_of_split c.args.field.now _ _ c.into_iter-name-iterator.ensures.into_iter_gives split.text
    split.has_more split.pattern in
    let turn = YieldsList-turn names c.names.yielded _ c.names.yielded_by _ _ c.in-Some.name c.in-Some.is
    c.next.ensures.steps in
    (_, _, turn.0, sym turn.1, λ (calendar, is). let some = (c.calendar_named.ensures calendar).1 is in search rules)

pub names-preserved : goal.names-preserved
names-preserved c =
    let is = (c.calendar_named.ensures c.in_ok-calendar_named.field-0).0 (search rules) in
    let whole = map-append (λ (name : Bor (List ℕ)). name.now) c.names.yielded (c.in-Some.name ∷ []) in (
      tt,
      tt,
      c.with-calendars.ensures
          ∙ ap (λ held. slice_set held (place c.in_ok-calendar_named.field-0) true) c.names.invariant.2
          ∙ named_more (map (λ name. name.now) c.names.yielded) c.in-Some.name.now _ is ∙ ap named_by (sym whole),
      rw whole (All-append IsCalendar _ _ c.names.invariant.3 (grind arith)),
    )

pub returns-clause-some : goal.returns-clause-some
returns-clause-some c =
    let split = c.split-name-items.ensures in
    let names = names_of_split c.args.field.now _ _ c.into_iter-name-iterator.ensures.into_iter_gives split.text
    split.has_more split.pattern in
    let all = YieldsList-end names c.names.yielded _ c.names.yielded_by _ _ c.in-None.is c.next.ensures.steps in
    record {
      everywhere = λ e. absurd (search rules);
      named = λ n. rw (sym all.0) c.names.invariant.2;
      known = λ n. rw (sym all.0) c.names.invariant.3;
    }

no_byte : (field : List ℕ) (none : Bool) → none ≡ (length field == 0) → none ≡ true → field ≡ []
no_byte [] none is h = refl
no_byte (b ∷ field) none is h = grind (arith, nat_tests)

pub returns-then-is_empty : goal.returns-then-is_empty
returns-then-is_empty c =
    let none = no_byte c.args.field.now _ c.is_empty.ensures c.if-is_empty.true in
    record {
      some = record { everywhere = λ _. refl; named = λ some. absurd (some none); known = λ some. absurd (some none) };
      none = λ e. absurd (none-some _ (sym e));
    }

pub names-init : goal.names-init
names-init c = (tt, tt, refl, λ k d lt. absurd (omega arith))

pub returns-in_err-calendar_named-clause-some : goal.returns-in_err-calendar_named-clause-some
returns-in_err-calendar_named-clause-some c = rw c.from_residual.ensures tt

pub returns-clause-none : goal.returns-clause-none
returns-clause-none c = λ e. absurd (none-some _ (sym e))
