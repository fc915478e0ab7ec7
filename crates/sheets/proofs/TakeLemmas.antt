-- Records that are noted, and whose lines are made, one after the other.
use Rattle.std.proofs.Common.{◌≡◌, ◌∙◌, ◌++◌, ◌+◌, ℕ, List, [], ◌∷◌, Some, ap, append-nil, append_assoc}
use Rattle.std.proofs.Common.{arith, inl, inr, length, length-append, refl, subst, sym, ◌⊎◌, slice_get}
use Rattle.std.proofs.lemmas.List.{get_or_append_left, get_or_push, length_push}
use Rattle.std.proofs.lemmas.Option.{gets}
use Rattle.sheets.proofs.Common.{Fields, Waits, HasNotes, AreRegisterWriters, Takes, line_of_entry, RecordRead}
use Rattle.sheets.proofs.Common.{SheetChoice, LineWriter, EntryLine}
use Rattle.register_records.specs.declared.outputs.Output as outputs
use Rattle.sheets.specs.Registers.{register_head}
use Rattle.sheets.specs.private.SheetReadings.{entry_maker}
use Rattle.sheets.specs.declared.sheet_writers.SheetWriters.{SheetWriters}
use Rattle.sheets.proofs.EachLemmas.{each_more, each_none}
use Rattle.sheets.proofs.LineWriterLemmas.{gathers_more, gathers_none}

module _ {M W : Type 0} (o : outputs.Ghosts W) (line : M → SheetChoice → RecordRead → Fields) (choice : SheetChoice)
  where
    pub takes_none : (reads : List RecordRead) (writers : SheetWriters M) (output : W) (files : List W) → reads ≡ []
        → Takes o line choice reads writers writers output output files files
    takes_none reads writers output files none =
        record {
          notes = λ done most h. subst (λ (all : List RecordRead). HasNotes choice all most writers.notes)
              (sym (ap (λ (xs : List RecordRead). done ++ xs) none ∙ append-nil done)) h;
          sheet = gathers_none o line choice reads writers.sheet output none;
          registers = each_none o line_of_entry choice reads writers.registers.items files none;
        }

    pub takes_more : (reads all : List RecordRead) (one : RecordRead) (old mid new : SheetWriters M) (before middle after
        : W)
        (given between written : List W) → all ≡ reads ++ one ∷ [] → Takes o line choice reads old mid before middle
        given between → Takes o line choice (one ∷ []) mid new middle after between written
        → Takes o line choice all old new before after given written
    takes_more reads all one old mid new before middle after given between written is a b =
        record {
          notes = λ done most h. subst (λ (xs : List RecordRead). HasNotes choice xs most new.notes)
              (append_assoc done reads (one ∷ []) ∙ ap (λ (xs : List RecordRead). done ++ xs) (sym is))
              (b.notes (done ++ reads) most (a.notes done most h));
          sheet = gathers_more o line choice reads all one old.sheet mid.sheet new.sheet before middle after is a.sheet
              b.sheet;
          registers = each_more o line_of_entry choice reads all one _ _ _ _ _ _ is a.registers b.registers;
        }

-- one writer of a register more
pub appended : {X : Type 0} (xs : List X) (x y : X) (place : ℕ) → slice_get (xs ++ x ∷ []) place ≡ Some y
    → (slice_get xs place ≡ Some y) ⊎ ((place ≡ length xs) × (x ≡ y))
appended xs x y place e = grind (arith, gets, get_or_append_left, get_or_push, length_push)

pub no_writers : (d columns : ℕ) (writers : List (LineWriter EntryLine)) → writers ≡ []
    → AreRegisterWriters d columns 0 writers
no_writers d columns [] e = record { counted = refl; each = λ place writer there. absurd (cc) }
no_writers d columns (x ∷ xs) e = absurd (cc)

pub one_writer_more : (d columns count : ℕ) (old new : List (LineWriter EntryLine)) (writer : LineWriter EntryLine)
    → AreRegisterWriters d columns count old → new ≡ old ++ writer ∷ [] → writer.maker ≡ entry_maker columns count
    → Waits d (register_head ∷ []) writer → AreRegisterWriters d columns (count + 1) new
one_writer_more d columns count old new writer h is placed waits =
    record {
      counted = omega (arith, ap length is, length-append old (writer ∷ []), h.counted);
      each = λ place other there.
          elim (appended old writer other place (ap (λ (xs : List (LineWriter EntryLine)). slice_get xs place) (sym is)
          ∙ there)) [
            | inl found ↦ h.each place other found
            | inr last ↦
                subst (λ (x : LineWriter EntryLine). (x.maker ≡ entry_maker columns place)
                × Waits d (register_head ∷ []) x) last.1
                (placed ∙ ap (entry_maker columns) (sym h.counted ∙ sym last.0), waits)
          ];
    }
