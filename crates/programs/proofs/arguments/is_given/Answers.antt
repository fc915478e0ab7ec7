-- The flag's text is `true`, or none or another.
use Rattle.std.proofs.Common.{rules, ◌≡◌, Bool, true, false, Option, Some, None, ap, arith, codes, refl, ◌↔◌, unwrap_or}
use Rattle.std.specs.Str.Parse.{ParsesBool}
use Rattle.std.proofs.lemmas.Slice.Eq.{bytes_eq-Decides}
use Rattle.clap.proofs.WalkLemmas.{one_text-rows}
use Rattle.clap.specs.Words.{ReadsOne, Text}
use Rattle.programs.specs.Rules.{is_set}
use Rattle.programs.proofs.arguments.is_given.Goals as goal

-- a flag that is given exactly where its text is `true` is set as its text says
set_by_text : (b : Bool) (text : Option Text) → ((b ≡ true) ↔ (text ≡ Some (codes "true"))) → b ≡ is_set text
set_by_text b text is = grind (arith, bytes_eq-Decides)

flag_read : (E : Type 0) (text : Option Text) (read : Option Bool) → (text ≡ None → read ≡ None)
    → ((t : Text) → text ≡ Some t → ReadsOne {T = Bool} {E = E} ParsesBool t read)
    → (unwrap_or read false ≡ true) ↔ (text ≡ Some (codes "true"))
flag_read E None None none some = (λ e. absurd (cc), λ e. absurd (cc))
flag_read E None (Some b) none some = let e = none refl in absurd (cc)
flag_read E (Some t) None none some = grind (arith, some t refl)
flag_read E (Some t) (Some true) none some = (λ e. ap (λ (x : Text). Some x) (some t refl), λ e. refl)
flag_read E (Some t) (Some false) none some = search rules

pub returns : goal.returns
returns c = search (rules, one_text-rows, flag_read, set_by_text)
