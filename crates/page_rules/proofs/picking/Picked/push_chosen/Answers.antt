use Rattle.std.proofs.Common.{◌^◌, ◌≤◌, arith, [], get_or, subst, ◌∙◌, ◌++◌, ℕ, List, append-nil, ap, length, map, refl, sym, take, take_all}
use Rattle.std.specs.List.{concat}
use Rattle.std.proofs.lemmas.List.{get_or-map, length-map}
use Rattle.register_records.proofs.StepLemmas.{passed_on}
use Rattle.sheets.proofs.SendingLemmas.{no_value}
use Rattle.csv.specs.Records.{fields_of}
use Rattle.register_records.specs.Entries.{Fields}
use Rattle.sheets.specs.Sheets.{chosen}
use Rattle.page_rules.proofs.PickLemmas.{one_chosen, one_more_bytes, one_more_length}
use Rattle.page_rules.proofs.picking.Picked.push_chosen.Goals as goal

pub places-init : goal.places-init
places-init c =
    record { bytes = sym (append-nil _); lengths = sym (append-nil _); records = refl; widest = refl }

pub places-preserved : goal.places-preserved
places-preserved c =
    let inv = c.places.invariant in
    let old = c.args.self.now in
    let now = c.places.self in
    let fields = fields_of c.args.record.now in
    let before = chosen (take c.places.place-index c.args.places.now) fields in
    let next = sym (one_chosen c.args.places.now fields c.places.place-index c.places-test.true) in
    let pushed = c.in_ok-push.ensures in
    let kept = c.push.ensures.kept in
    record {
      bytes = one_more_bytes old.bytes.items now.bytes.items c.push.new.self.bytes.items before _ inv.bytes
          (rw c.field_at.ensures at pushed.bytes) ∙ ap (λ (all : Fields). old.bytes.items ++ concat all) next;
      lengths = one_more_length old.lengths.items now.lengths.items c.push.new.self.lengths.items before _ inv.lengths
          (rw c.field_at.ensures at pushed.lengths) ∙ ap (λ (all : Fields). old.lengths.items ++ map length all) next;
      records = kept.0 ∙ inv.records;
      widest = kept.1 ∙ inv.widest;
    }

pub returns : goal.returns
returns c =
    let inv = c.places.invariant in
    let old = c.args.self.now in
    let fields = fields_of c.args.record.now in
    let all = take_all c.places.place-index c.args.places.now c.places-test.false in
    record {
      bytes = inv.bytes ∙ ap (λ (places : List ℕ). old.bytes.items ++ concat (chosen places fields)) all;
      lengths = inv.lengths ∙ ap (λ (places : List ℕ). old.lengths.items ++ map length (chosen places fields)) all;
      long = tt;
      kept = (inv.records, inv.widest);
    }

pub returns-in_err-push : goal.returns-in_err-push
returns-in_err-push c =
    let inv = c.places.invariant in
    let kept = c.push.ensures.kept in
    let fields = fields_of c.args.record.now in
    let places = c.args.places.now in
    let i = c.places.place-index in
    let field : ℕ → List ℕ = λ place. get_or fields place [] in
    let here = field (get_or places i 0) in
    let is = c.from_residual.ensures.1 in
    record {
      bytes = no_value c.from_residual.result _ _ is;
      lengths = no_value c.from_residual.result _ _ is;
      long = passed_on _ _ _ is (λ e. (
        i,
        here,
        omega (arith, length-map places field, c.places-test.true),
        get_or-map field places i 0 here c.places-test.true,
        subst (λ (f : List ℕ). 2 ^ 32 ≤ length f) c.field_at.ensures (c.in_err-push.ensures.long e),
      ));
      kept = (kept.0 ∙ inv.records, kept.1 ∙ inv.widest);
    }
