use Rattle.std.proofs.Common.{rules, ◌≡◌, ◌∙◌, ◌++◌, ◌+◌, ◌∷◌, [], is_ok, ap, sym, append_assoc, Ok, true, List}
use Rattle.std.proofs.Common.{append-nil, false, subst}
use Rattle.sheets.proofs.Common.{Fields, fields_of, left_of}
use Rattle.register_records.proofs.StepLemmas.{passed_on}
use Rattle.sheets.proofs.SendingLemmas.{no_value}
use Rattle.std.proofs.lemmas.Slice.Zip.{all_zipped_more}
use Rattle.sheets.specs.NameLists.{IsFaultOf, IsLine, IsListOf}
use Rattle.sheets.proofs.NameListLemmas.{first_fault}
use Rattle.sheets.proofs.name_lists.NameList.add_lines.Goals as goal

pub returns-in_err-line-clause-fault : goal.returns-in_err-line-clause-fault
returns-in_err-line-clause-fault c =
    let (header, before, is, are, text) = c.records.invariant.lines in
    let yes : c.in_ok-read_next-2.field-0 ≡ true = search rules in
    let found = c.read_next-in-records.ensures.found (c.in_ok-read_next-2.was ∙ ap Ok yes) in
    let fault = rw c.in_err-line.was at c.line_of.ensures.fault in
    let first = first_fault header before _ _ _ _ _ is are (ap (λ n. n + 1) (search rules)) fault in
    let all : IsFaultOf (left_of c.args.records.now) c.in_err-line.field-0.0 =
    rw (text ∙ ap (λ rest. header ∷ before ++ rest) found) first in
    search rules

pub records-preserved : goal.records-preserved
records-preserved c =
    let (header, before, is, are, text) = c.records.invariant.lines in
    let yes : c.in_ok-read_next-2.field-0 ≡ true = search rules in
    let found = c.read_next-in-records.ensures.found (c.in_ok-read_next-2.was ∙ ap Ok yes) in
    let line = rw c.in_ok-line.was at c.line_of.ensures.line in
    let ok : is_ok c.push.result ≡ true = search rules in
    let items = rw ok at c.push.ensures.items in
    record {
      reading = c.read_next-in-records.ensures.reading (c.in_ok-read_next-2.was ∙ ap Ok yes);
      lines = (
        header,
        before ++ fields_of c.read_next-in-records.new.record ∷ [],
        is,
        rw items (all_zipped_more IsLine before _ _ _ are line),
        text ∙ ap (λ rest. header ∷ before ++ rest) found ∙ ap (λ rest. header ∷ rest) (sym (append_assoc before _ _)),
      );
    }

pub returns-in_err-read_next : goal.returns-in_err-read_next
returns-in_err-read_next c =
    let is = c.from_residual.ensures.1 in
    record { list = no_value c.from_residual.result _ _ is; fault = passed_on _ _ _ is tt }

pub returns-in_err-read_next-2 : goal.returns-in_err-read_next-2
returns-in_err-read_next-2 c =
    let is = c.from_residual-in_err-read_next-2.ensures.1 in
    record { list = no_value c.from_residual-in_err-read_next-2.result _ _ is; fault = passed_on _ _ _ is tt }

pub returns-then-not-branch-2 : goal.returns-then-not-branch-2
returns-then-not-branch-2 c =
    let (header, before, is, are, text) = c.records.invariant.lines in
    let no : c.in_ok-read_next-2.field-0 ≡ false = search rules in
    let none = c.read_next-in-records.ensures.none (c.in_ok-read_next-2.was ∙ ap Ok no) in
    let whole = text ∙ ap (λ (rest : List Fields). header ∷ before ++ rest) none
    ∙ ap (λ (rest : List Fields). header ∷ rest) (append-nil before) in
    record {
      list = subst (λ (records : List Fields). IsListOf records c.records.self.lines.items) (sym whole) (is, are);
      fault = tt;
    }
