use Rattle.std.proofs.Common.{◌≡◌, ◌≤◌, ◌<◌, ◌∙◌, ◌==◌, ℕ, Bool, List, ap, arith, false, length, nat_lt, refl, subst}
use Rattle.std.proofs.Common.{sym, take, true, Err, Ok}
use Rattle.sheets.proofs.Common.{asked_targets, SheetChoice}
use Rattle.date_texts.specs.declared.target.Target.{Target}
use Rattle.register_records.specs.SetupRules.{NamesTwice}
use Rattle.register_records.specs.declared.setups.Setup.{Setup}
use Rattle.register_records.specs.declared.setups.SetupFault.{SetupFault}
use Rattle.std.proofs.lemmas.Bool.{true≢false}
use Rattle.std.proofs.lemmas.Bool.Decides.{nat_tests}
use Rattle.sheets.specs.Choices.{AsksOnce, HasDates, asks_twice, column_limit}
use Rattle.sheets.proofs.choices.setup_of.Goals as goal

dated : (choice : SheetChoice) (none : Bool) → none ≡ (length choice.dates.now == 0) → none ≡ false
    → length choice.dates.now ≤ 8 → HasDates choice
dated choice none is some few = record { some = grind (arith, nat_tests); few = grind (arith, nat_tests) }

few_columns : (n : ℕ) → n ≤ 18 → nat_lt column_limit n ≡ false
few_columns n few = grind (arith, nat_tests)

many_columns : (n : ℕ) → 18 < n → nat_lt column_limit n ≡ true
many_columns n many = grind (arith, nat_tests)

pub returns-then-choice-gt-MAX_COLUMNS-clause-fault : goal.returns-then-choice-gt-MAX_COLUMNS-clause-fault
returns-then-choice-gt-MAX_COLUMNS-clause-fault c = (
  dated c.args.choice.now _ c.is_empty.ensures c.if-is_empty.false c.if-choice-gt-MAX_DATES.false,
  many_columns _ c.if-choice-gt-MAX_COLUMNS.true,
)

pub returns-then-asks_twice-clause-fault : goal.returns-then-asks_twice-clause-fault
returns-then-asks_twice-clause-fault c = (
  dated c.args.choice.now _ c.is_empty.ensures c.if-is_empty.false c.if-choice-gt-MAX_DATES.false,
  few_columns _ c.if-choice-gt-MAX_COLUMNS.false,
  λ once. true≢false (sym c.if-asks_twice.true ∙ c.asks_twice.ensures ∙ once.day),
)

asks_once : (choice : SheetChoice) (twice : Bool) (targets : List Target) → length choice.columns.now ≤ 18
    → twice ≡ asks_twice choice.columns.now → twice ≡ false → targets ≡ asked_targets choice.columns.now
    → ¬ (NamesTwice targets) → AsksOnce choice
asks_once choice twice targets few is off same other = record {
  few = few_columns _ few;
  day = sym is ∙ off;
  targets = subst (λ (asked : List Target). ¬ (NamesTwice asked)) same other;
}

no_fault : (setup : Setup) (fault : SetupFault) → Ok setup ≡ Err fault → ⊥
no_fault setup fault e = cc

not_false : (b : Bool) → (b ≡ false → ⊥) → b ≡ true
not_false true other = refl
not_false false other = absurd (other refl)

pub returns-then-choice-each-clause-fault : goal.returns-then-choice-each-clause-fault
returns-then-choice-each-clause-fault c =
    let made = c.in-Ok.ensures in
    let once : ¬ (NamesTwice (take c.asked_targets-count.result.1 c.asked_targets-count.result.0))
    = λ twice. no_fault _ _ (made.twice.1 twice) in (
      dated c.args.choice.now _ c.is_empty.ensures c.if-is_empty.false c.if-choice-gt-MAX_DATES.false,
      asks_once c.args.choice.now _ _ c.if-choice-gt-MAX_COLUMNS.false c.asks_twice.ensures c.if-asks_twice.false
          c.asked_targets-count.ensures.value once,
      not_false _ (λ off. no_fault _ _ (made.delimiter.1 (once, refl, off))),
      rw c.added_each-each.ensures at c.if-choice-each.true,
    )

pub returns-clause-good : goal.returns-clause-good
returns-clause-good c =
    let made = c.in-Ok.ensures in
    let once : ¬ (NamesTwice (take c.asked_targets-count.result.1 c.asked_targets-count.result.0))
    = λ twice. no_fault _ _ (made.twice.1 twice) in (
      record {
        dated = dated c.args.choice.now _ c.is_empty.ensures c.if-is_empty.false c.if-choice-gt-MAX_DATES.false;
        once = asks_once c.args.choice.now _ _ c.if-choice-gt-MAX_COLUMNS.false c.asks_twice.ensures
            c.if-asks_twice.false c.asked_targets-count.ensures.value once;
        delimited = not_false _ (λ off. no_fault _ _ (made.delimiter.1 (once, refl, off)));
        headed = rw c.added_each-each.ensures at c.if-choice-each.false;
      },
      made.value.0 ∙ c.asked_targets-count.ensures.value,
    )

pub returns-in-Err-TargetTwice-clause-fault : goal.returns-in-Err-TargetTwice-clause-fault
returns-in-Err-TargetTwice-clause-fault c = (
  dated c.args.choice.now _ c.is_empty.ensures c.if-is_empty.false c.if-choice-gt-MAX_DATES.false,
  few_columns _ c.if-choice-gt-MAX_COLUMNS.false,
  λ once. once.targets (subst NamesTwice c.asked_targets-count.ensures.value
      (c.in-Err-TargetTwice.ensures.twice.0 (ap (λ (fault : SetupFault). Err fault) c.in-Err-TargetTwice.field-0-is))),
)
