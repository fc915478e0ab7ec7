-- What a writer of lines holds, one line after the other.
use Rattle.std.proofs.Common.{◌≡◌, ◌∙◌, ◌++◌, ℕ, List, [], ◌∷◌, None, Option, Some, ap, inl, inr, is_some, refl, subst}
use Rattle.std.proofs.Common.{sym, true, IsErrAnd, append-nil, append_assoc, map, ◌⊎◌, Err, IfErr, Ok, Result, false}
use Rattle.sheets.proofs.Common.{AreLines, Finishes, Produced, ending_of, records_text, Fields, Gathers, Makes}
use Rattle.sheets.proofs.Common.{Waits, RecordRead, SheetChoice, LineWriter, SheetLines, SheetCause}
use Rattle.std.specs.Io.KnownBytes.{Appends}
use Rattle.sheets.specs.private.Produced.{Agrees, lacks_memory}
use Rattle.register_records.specs.declared.outputs.Output as outputs
use Rattle.std.proofs.KnownBytes.{Appends-nil}
use Rattle.std.proofs.lemmas.List.{map-append}
use Rattle.sheets.specs.private.LineWriters.{Holds, Stands, WaitsBy, Writes}
use Rattle.sheets.specs.private.Sending.{Ends, HasFront, HasMade}
use Rattle.sheets.specs.declared.sheet_ends.SheetCause.TheVariants as cause
use Rattle.sheets.proofs.SendingLemmas.{front_made, front_more}

module _ {W : Type 0} (o : outputs.Ghosts W) (d : ℕ) (given : W) where
  -- after a fault, more lines change nothing
  pub stands_longer : (output : W) (lines : SheetLines) (made more : List Fields) (fault : Option SheetCause)
      → is_some fault ≡ true → Stands o d given output lines made fault → Stands o d given output lines (made ++ more)
      fault
  stands_longer output lines made more None is h = absurd (cc)
  stands_longer output lines made more (Some cause.NoMemory) is h = (front_more d _ _ made more h.0, h.1)
  stands_longer output lines made more (Some cause.SinkFault) is h = h
  stands_longer output lines made more (Some other) is h = absurd h

  -- a fault is met
  pub stands_stopped : (before after : W) (lines next : SheetLines) (made more : List Fields) (c : SheetCause)
      → Stands o d given before lines made None → Ends {A = Unit {0}} o (Err c) before after
      → Stands o d given after next (made ++ more) (Some c)
  stands_stopped before after lines next made more cause.NoMemory h ends = (
    subst (λ (w : W). HasFront d (o.contents given) (o.contents w) (made ++ more)) (sym (ends.memory refl))
        (front_more d _ _ made more (front_made d _ _ lines made [] h.0)),
    ap o.has_failed (ends.memory refl) ∙ h.1,
  )
  stands_stopped before after lines next made more cause.SinkFault h ends = ends.sink refl
  stands_stopped before after lines next made more other h ends =
      elim ends.causes [ inl is ↦ absurd (cc) | inr is ↦ absurd (cc) ]

-- no more lines are made
module _ {W : Type 0} (o : outputs.Ghosts W) (d : ℕ) (given : W) where
  pub stands_cut : (output : W) (lines : SheetLines) (made more : List Fields) → Stands o d given output lines made None
      → Stands o d given output lines (made ++ more) (Some cause.NoMemory)
  stands_cut output lines made more h = (front_more d _ _ made more (front_made d _ _ lines made [] h.0), h.1)

  -- what the output has come to: by a fault, and where all was sent
  pub produced_fault : (output : W) (lines : SheetLines) (made : List Fields) (c : SheetCause)
      → Stands o d given output lines made (Some c) → o.own_mark output ≡ o.own_mark given
      → Produced o given output (ending_of {A = Unit {0}} (Err c)) (AreLines {A = Unit {0}} d made (Err c))
  produced_fault output lines made cause.NoMemory h mark = ((_, (h.0.0, refl), h.0.1), h.1, mark)
  produced_fault output lines made cause.SinkFault h mark = (h, mark)
  produced_fault output lines made other h mark = absurd h

  pub produced_passed : (output : W) (made : List Fields) (c : SheetCause) (result : Result (Unit {0}) SheetCause)
      → IsErrAnd result (λ e. e ≡ c)
      → Produced o given output (ending_of {A = Unit {0}} (Err c)) (AreLines {A = Unit {0}} d made (Err c))
      → Produced o given output (ending_of result) (AreLines d made result)
  produced_passed output made c (Ok v) is h = absurd is
  produced_passed output made c (Err e) is h =
      subst (λ (x : SheetCause). Produced o given output (ending_of {A = Unit {0}} (Err x))
      (AreLines {A = Unit {0}} d made (Err x))) (sym is) h

  pub produced_sent : (output : W) (made : List Fields) (read : Result (Unit {0}) SheetCause)
      → lacks_memory read ≡ false → IfErr read (λ c. (c ≡ cause.NoMemory) ⊎ (c ≡ cause.TooManyRecords))
      → Appends (o.contents given) (o.contents output) (records_text d made) → o.is_flushed output ≡ true
      → o.has_failed output ≡ o.has_failed given → o.own_mark output ≡ o.own_mark given
      → Produced o given output (ending_of read) (AreLines d made read)
  produced_sent output made (Ok v) goes causes gained flushed good mark = ((_, refl, gained), flushed, good, mark)
  produced_sent output made (Err cause.NoMemory) goes causes gained flushed good mark = absurd (cc)
  produced_sent output made (Err cause.TooManyRecords) goes causes gained flushed good mark =
      ((_, refl, gained), good, mark)
  produced_sent output made (Err cause.SinkFault) goes causes gained flushed good mark =
      elim causes [ inl is ↦ absurd (cc) | inr is ↦ absurd (cc) ]
  produced_sent output made (Err cause.NoNames) goes causes gained flushed good mark =
      elim causes [ inl is ↦ absurd (cc) | inr is ↦ absurd (cc) ]

-- how the lines of an output came out, by a fault of their writer, as they were read, and by one of sending
pub agrees_fault : {W : Type 0} (o : outputs.Ghosts W) (d : ℕ) (given output : W) (lines : SheetLines) (made : List
    Fields) (c : SheetCause) (read : Result (Unit {0}) SheetCause) → Stands o d given output lines made (Some c)
    → Agrees read (Err c)
agrees_fault o d given output lines made cause.NoNames read h = absurd h
agrees_fault o d given output lines made cause.TooManyRecords read h = absurd h
agrees_fault o d given output lines made c read h =
    record { all = tt; many = λ e. absurd (cc); named = λ e. cc }

pub agrees_read : (read : Result (Unit {0}) SheetCause)
    → IfErr read (λ c. (c ≡ cause.NoMemory) ⊎ (c ≡ cause.TooManyRecords)) → Agrees read read
agrees_read (Ok v) causes = record { all = refl; many = λ e. e; named = λ e. cc }
agrees_read (Err c) causes =
    record {
      all = tt;
      many = λ e. e;
      named = λ e. elim causes [ inl is ↦ cc (e, is) | inr is ↦ cc (e, is) ];
    }

pub agrees_stopped : (read result : Result (Unit {0}) SheetCause) (c : SheetCause) → IsErrAnd result (λ e. e ≡ c)
    → (c ≡ cause.NoMemory) ⊎ (c ≡ cause.SinkFault) → Agrees read result
agrees_stopped read (Ok v) c is causes = absurd is
agrees_stopped read (Err e) c is causes =
    record {
      all = tt;
      many = λ there. elim causes [
        | inl which ↦ absurd (cc (there, is, which))
        | inr which ↦ absurd (cc (
          there,
          is,
          which,
        ))
      ];
      named = λ there. elim causes [ inl which ↦ cc (there, is, which) | inr which ↦ cc (there, is, which) ];
    }

-- no line, and lines behind others
module _ {M W : Type 0} (o : outputs.Ghosts W) where
  pub makes_none : (lines : List Fields) (writer : LineWriter M) (output : W) → lines ≡ []
      → Makes o lines writer writer output output
  makes_none lines writer output e =
      record {
        maker = refl;
        delimiter = refl;
        holds = λ given made h. subst (Holds o given output writer) (sym (ap (λ xs. made ++ xs) e ∙ append-nil made)) h;
      }

  pub makes_both : (xs ys all : List Fields) (old mid new : LineWriter M) (before middle after : W) → all ≡ xs ++ ys
      → Makes o xs old mid before middle → Makes o ys mid new middle after → Makes o all old new before after
  makes_both xs ys all old mid new before middle after e a b =
      record {
        maker = b.maker ∙ a.maker;
        delimiter = b.delimiter ∙ a.delimiter;
        holds = λ given made h.
            subst (Holds o given after new) (append_assoc made xs ys ∙ ap (λ zs. made ++ zs) (sym e))
            (b.holds given (made ++ xs) (a.holds given made h));
      }

  -- after a fault no more lines are made, and one that is met ends them
  pub makes_after : (lines : List Fields) (writer : LineWriter M) (output : W) → is_some writer.fault ≡ true
      → Makes o lines writer writer output output
  makes_after lines writer output is =
      record {
        maker = refl;
        delimiter = refl;
        holds = λ given made h.
            record {
              stands = stands_longer o writer.sender.delimiter given output writer.sender.lines made lines writer.fault
                  is h.stands;
              mark = h.mark;
            };
      }

  pub makes_stopped : (line : Fields) (old new : LineWriter M) (before after : W) (c : SheetCause) → old.fault ≡ None
      → Writes o line old new before after (Err c)
      → Makes o (line ∷ []) old (record { maker = new.maker; sender = new.sender; fault = Some c }) before after
  makes_stopped line old new before after c none wrote =
      record {
        maker = wrote.maker;
        delimiter = wrote.delimiter;
        holds = λ given made h.
            record {
              stands = subst (λ (d : ℕ). Stands o d given after new.sender.lines (made ++ line ∷ []) (Some c))
                  (sym wrote.delimiter)
                  (stands_stopped o old.sender.delimiter given before after old.sender.lines new.sender.lines made
                  (line ∷ []) c (subst (Stands o old.sender.delimiter given before old.sender.lines made) none h.stands)
                  wrote.output);
              mark = wrote.output.marked ∙ h.mark;
            };
      }

  -- how an output is finished: after a fault, for want of memory, and by one of sending
  pub finishes_fault : (read : Result (Unit {0}) SheetCause) (writer : LineWriter M) (output : W) (c : SheetCause)
      → writer.fault ≡ Some c → Finishes o read writer output output (Err c)
  finishes_fault read writer output c is given made h =
      let stands = subst (Stands o writer.sender.delimiter given output writer.sender.lines made) is h.stands in (
        produced_fault o writer.sender.delimiter given output writer.sender.lines made c stands h.mark,
        agrees_fault o writer.sender.delimiter given output writer.sender.lines made c read stands,
      )

  pub finishes_stopped : (read result : Result (Unit {0}) SheetCause) (writer : LineWriter M) (before after : W)
      (c : SheetCause) → writer.fault ≡ None → Ends {A = Unit {0}} o (Err c) before after
      → IsErrAnd result (λ e. e ≡ c) → Finishes o read writer before after result
  finishes_stopped read result writer before after c none ends is given made h =
      let d = writer.sender.delimiter in
      let stands = subst (λ (xs : List Fields). Stands o d given after writer.sender.lines xs (Some c)) (append-nil made)
      (stands_stopped o d given before after writer.sender.lines writer.sender.lines made [] c
      (subst (Stands o d given before writer.sender.lines made) none h.stands) ends) in (
        produced_passed o d given after made c result is
            (produced_fault o d given after writer.sender.lines made c stands (ends.marked ∙ h.mark)),
        agrees_stopped read result c is ends.causes,
      )

  -- the lines of one record more
  pub gathers_none : (line : M → SheetChoice → RecordRead → Fields) (choice : SheetChoice) (reads : List RecordRead)
      (writer : LineWriter M) (output : W) → reads ≡ [] → Gathers o line choice reads writer writer output output
  gathers_none line choice reads writer output e = makes_none _ writer output (ap (map (line writer.maker choice)) e)

  pub gathers_more : (line : M → SheetChoice → RecordRead → Fields) (choice : SheetChoice) (reads all : List RecordRead)
      (one : RecordRead) (old mid new : LineWriter M) (before middle after : W) → all ≡ reads ++ one ∷ []
      → Gathers o line choice reads old mid before middle → Gathers o line choice (one ∷ []) mid new middle after
      → Gathers o line choice all old new before after
  gathers_more line choice reads all one old mid new before middle after e a b =
      makes_both _ _ _ old mid new before middle after
      (ap (map (line old.maker choice)) e ∙ map-append (line old.maker choice) reads (one ∷ [])
      ∙ ap (λ (m : M). map (line old.maker choice) reads ++ line m choice one ∷ []) (sym a.maker)) a b

pub no_fault : (fault : Option SheetCause) → is_some fault ≡ false → fault ≡ None
no_fault None e = refl
no_fault (Some c) e = absurd (cc)

pub no_other : (fault : Option SheetCause) → ((c : SheetCause) → fault ≡ Some c → ⊥) → fault ≡ None
no_other None never = refl
no_other (Some c) never = absurd (never c refl)

pub memory_is : (read : Result (Unit {0}) SheetCause) → lacks_memory read ≡ true → read ≡ Err cause.NoMemory
memory_is (Err cause.NoMemory) e = refl
memory_is read e = absurd (cc)

-- what waits is held
waits_stand : {W : Type 0} (o : outputs.Ghosts W) (output : W) (d : ℕ) (made : List Fields) (lines : SheetLines)
    (fault : Option SheetCause) → WaitsBy d made lines fault → Stands o d output output lines made fault
waits_stand o output d made lines None waits = (waits (o.contents output), refl)
waits_stand o output d made lines (Some cause.NoMemory) waits = ((0, Appends-nil _), refl)
waits_stand o output d made lines (Some other) waits = absurd waits

pub holds_waiting : {M W : Type 0} (o : outputs.Ghosts W) (output : W) (writer : LineWriter M) (d : ℕ) (made : List
    Fields) → Waits d made writer → Holds o output output writer made
holds_waiting o output writer d made waits =
    record {
      stands = subst (λ (n : ℕ). Stands o n output output writer.sender.lines made writer.fault) (sym waits.by)
          (waits_stand o output d made writer.sender.lines writer.fault waits.waits);
      mark = refl;
    }

pub waits_none : {M : Type 0} (writer : LineWriter M) (d : ℕ) → writer.sender.delimiter ≡ d → writer.fault ≡ None
    → ((begun : Option (List ℕ)) → HasMade d begun begun writer.sender.lines [] []) → Waits d [] writer
waits_none writer d by none has =
    record { by = by; waits = subst (WaitsBy d [] writer.sender.lines) (sym none) has }
