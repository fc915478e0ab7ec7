use Rattle.std.proofs.Common.{◌≡◌, ◌∙◌, ◌++◌, ◌∷◌, [], ℕ, ap, arith, get_or, Global, List, map, rules, String, subst}
use Rattle.sheet_app.proofs.Common.{AllZip, string_bytes, place_name, IsOfOutputs}
use Rattle.std.proofs.lemmas.List.{take_all}
use Rattle.sheet_app.specs.FileSheets.{IsMadeFor}
use Rattle.sheet_app.proofs.FaultLemmas.{handed, of_more, of_value}
use Rattle.sheet_app.proofs.NameLemmas.{noted_more}
use Rattle.sheet_app.proofs.RegisterLemmas.{made_more}
use Rattle.sheet_app.proofs.file_sheets.make_registers.Goals as goal

pub endings-preserved : goal.endings-preserved
endings-preserved g c =
    let item = c.ending-item.result in
    let there : item ≡ get_or c.args.endings.now c.endings.ending-index item = search rules in
    let text : c.as_str.result.now ≡ string_bytes (get_or c.args.endings.now c.endings.ending-index item)
    = c.as_str.ensures.value ∙ ap string_bytes there in
    let pushed : c.push.new.self.items ≡ c.endings.outputs.items ++ c.in_ok-output.output ∷ [] = search rules in
    record {
      made = made_more (λ (ending : List ℕ) output. IsMadeFor g.W.Output (g.P.FileStore.is_made c.args.store.now)
          c.args.file.now ending output) string_bytes c.args.endings.now c.endings.ending-index item
          c.endings.outputs.items c.push.new.self.items c.in_ok-output.output c.endings-test.true pushed
          c.endings.invariant.made (rw text at c.in_ok-output.ensures.made);
      noted = noted_more (λ (ending : String Global). c.args.file.now ++ string_bytes ending) c.args.endings.now
          c.endings.ending-index item (map place_name c.args.taken.now.items) (map place_name c.endings.taken.items)
          (map place_name c.make_output.new.taken.items) c.endings-test.true c.endings.invariant.noted
          (rw text at c.in_ok-output.ensures.noted);
      placed = noted_more (λ (ending : String Global). c.args.file.now ++ string_bytes ending) c.args.endings.now
          c.endings.ending-index item (map place_name c.args.places.now.items) (map place_name c.endings.places.items)
          (map place_name c.make_output.new.places.items) c.endings-test.true c.endings.invariant.placed
          (rw text at c.in_ok-output.ensures.placed);
      apart = λ before. c.in_ok-output.ensures.apart (c.endings.invariant.apart before);
    }

pub returns-in_err-output-clause-missing : goal.returns-in_err-output-clause-missing
returns-in_err-output-clause-missing g c =
    let item = c.ending-item.result in
    let endings = c.args.endings.now in
    let name = λ (ending : String Global). c.args.file.now ++ string_bytes ending in
    let there : item ≡ get_or endings c.endings.ending-index item = search rules in
    let text : c.args.file.now ++ c.as_str.result.now ≡ name (get_or endings c.endings.ending-index item)
    = ap (λ (ending : List ℕ). c.args.file.now ++ ending) (c.as_str.ensures.value ∙ ap string_bytes there) in
    let fault = c.in_err-output.field-0.0 in
    handed (IsOfOutputs (map name endings)) c.from_residual.result fault c.from_residual.ensures.1
    (of_more (name (get_or endings c.endings.ending-index item) ∷ []) (map name endings) fault
    (of_value name endings c.endings.ending-index item c.endings-test.true)
    (subst (λ (one : List ℕ). IsOfOutputs (one ∷ []) fault) text c.in_err-output.ensures.missing))

pub returns-clause-made : goal.returns-clause-made
returns-clause-made g c =
    subst (λ (endings : List (String Global)). AllZip (IsMadeFor g.W.Output (g.P.FileStore.is_made c.args.store.now)
    c.args.file.now) (map string_bytes endings) c.endings.outputs.items)
    (take_all c.endings.ending-index c.args.endings.now (omega (arith, c.endings-test.false))) c.endings.invariant.made

pub returns-clause-noted : goal.returns-clause-noted
returns-clause-noted g c =
    c.endings.invariant.noted ∙ ap (λ (endings : List (String Global)). map place_name c.args.taken.now.items
    ++ map (λ (ending : String Global). c.args.file.now ++ string_bytes ending) endings)
    (take_all c.endings.ending-index c.args.endings.now (omega (arith, c.endings-test.false)))

pub returns-clause-placed : goal.returns-clause-placed
returns-clause-placed g c =
    c.endings.invariant.placed ∙ ap (λ (endings : List (String Global)). map place_name c.args.places.now.items
    ++ map (λ (ending : String Global). c.args.file.now ++ string_bytes ending) endings)
    (take_all c.endings.ending-index c.args.endings.now (omega (arith, c.endings-test.false)))

pub returns-clause-apart : goal.returns-clause-apart
returns-clause-apart g c = c.endings.invariant.apart
