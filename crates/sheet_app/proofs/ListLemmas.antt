-- Items that are moved from the front of one list to the end of another.
use Rattle.std.proofs.Common.{◌≡◌, ◌++◌, ◌∷◌, [], List, All, append_assoc, arith, length, map, subst, sym, ◌∙◌}
use Rattle.std.proofs.Common.{ℕ, ap, ap₂, refl, ◌<◌, ◌+◌, Bool, get_or, take, true, ◌==◌}
use Rattle.sheet_app.proofs.Common.{Bor, AllZip, Text, NameLine, Task, IsNewSheet, ending_of, names_ending, sheet_name}
use Rattle.std.specs.declared.io.traits.Read as reads
use Rattle.std.proofs.lemmas.List.{map-append, map_more, take-map}
use Rattle.std.proofs.lemmas.Slice.Zip.{all_zipped_more}
use Rattle.std.proofs.lemmas.List.Elements.{All-cons, All-nil, All-push, All-head, All-tail}
use Rattle.register_records.specs.declared.outputs.Output as outputs
use Rattle.sheet_app.specs.EndedSheets.{IsEndedSheet, ended_name}
use Rattle.sheet_app.specs.private.EndedSheets.{IsEndOf}
use Rattle.sheet_app.specs.FileSheets.{register_endings}
use Rattle.sheet_app.specs.declared.converting.EndedSheet.{EndedSheet}
use Rattle.sheet_app.specs.declared.file_sheets.FileSheet.{FileSheet}

-- one more, where each is made into another, and both have one name
pub made_more : {X Y Z : Type 0} (f : X → Z) (h : Y → Z) (all : List Z) (done new : List X) (one : X)
    (left rest : List Y) (item : Y)
    → new ≡ done ++ one ∷ [] → f one ≡ h item → left ≡ item ∷ rest → map f done ++ map h left ≡ all
    → map f new ++ map h rest ≡ all
made_more f h all done new one left rest item n s l e = rw (n, map-append, append_assoc, s) (rw l at e)

-- what holds of each item of a list holds of each of one more
pub each_more : {X : Type 0} (P : X → Type 0) (xs new : List X) (x : X) → new ≡ xs ++ x ∷ [] → All P xs → P x
    → All P new
each_more P xs new x n each one = subst (All P) (sym n) (All-push P xs x each one)

-- what holds of each item that is left holds of the first
pub first_of_left : {X : Type 0} (P : X → Type 0) (left rest : List X) (x : X) → left ≡ x ∷ rest → All P left → P x
first_of_left P left rest x l each = All-head P x rest (subst (All P) l each)

-- with one item more, and its end
pub zip_more : {X Y : Type 0} (R : X → Y → Type 0) (all xs left rest : List X) (ys new : List Y) (x : X) (y : Y)
    → new ≡ ys ++ y ∷ [] → left ≡ x ∷ rest → xs ++ left ≡ all → AllZip R xs ys → R x y
    → (taken : List X) × (taken ++ rest ≡ all) × AllZip R taken new
zip_more R all xs left rest ys new x y n s e zip one =
    (xs ++ x ∷ [], rw append_assoc (rw s at e), rw n (all_zipped_more R xs ys x y zip one))

-- the sheets that were made have ended
pub ends_named : {R W : Type 0} (r : reads.Ghosts R) (o : outputs.Ghosts W) (IsNamed : Text → Type 0) (task : Task)
    (lines : List NameLine) (sheets : List (FileSheet R W)) (ended : List (EndedSheet W))
    → AllZip (IsEndOf r o IsNamed task lines) sheets ended → map ended_name ended ≡ map sheet_name sheets
ends_named r o IsNamed task lines [] [] zip = refl
ends_named r o IsNamed task lines (sheet ∷ sheets) (end ∷ ended) zip =
    ap₂ (λ (n : Text) (ns : List Text). n ∷ ns) zip.0.named (ends_named r o IsNamed task lines sheets ended zip.1)
ends_named r o IsNamed task lines sheets ended zip = absurd zip

pub ends_all : {R W : Type 0} (r : reads.Ghosts R) (o : outputs.Ghosts W) (IsOpened : Text → R → Type 0)
    (IsMade : Text → ℕ → W → Type 0) (IsNamed : Text → Type 0) (task : Task) (lines : List NameLine)
    (sheets : List (FileSheet R W)) (ended : List (EndedSheet W))
    → All (IsNewSheet o IsOpened IsMade task (register_endings task)) sheets
    → AllZip (IsEndOf r o IsNamed task lines) sheets ended
    → All (IsEndedSheet r o IsOpened IsMade IsNamed task lines) ended
ends_all r o IsOpened IsMade IsNamed task lines [] [] new zip = All-nil (IsEndedSheet r o IsOpened IsMade IsNamed task lines)
ends_all r o IsOpened IsMade IsNamed task lines (sheet ∷ sheets) (end ∷ ended) new zip =
    let New = IsNewSheet o IsOpened IsMade task (register_endings task) in
    let one = All-head New sheet sheets new in
    let name = zip.0.named in
    All-cons (IsEndedSheet r o IsOpened IsMade IsNamed task lines) end ended (record {
      source = sheet.source;
      opened = rw name one.opened;
      given = sheet.output;
      output = rw name one.output;
      new = sheet.registers.items;
      registers = rw name one.registers;
      converted = zip.0.converted;
      names = λ all. subst (All IsNamed) (one.places ∙ ap (λ (file : Text). names_ending (ending_of task) (λ ending. ending)
          (register_endings task) file) (sym name)) (zip.0.names all);
    }) (ends_all r o IsOpened IsMade IsNamed task lines sheets ended (All-tail New sheet sheets new) zip.1)
ends_all r o IsOpened IsMade IsNamed task lines sheets ended new zip = absurd zip

-- one more, of the name at its index
pub named_more : {X : Type 0} (f : X → Text) (names : List (Bor Text)) (done new : List X) (one : X) (i : ℕ) (d : Bor Text)
    → new ≡ done ++ one ∷ [] → f one ≡ (get_or names i d).now → i < length names
    → map f done ≡ take i (map (λ (n : Bor Text). n.now) names)
    → map f new ≡ take (i + 1) (map (λ (n : Bor Text). n.now) names)
named_more f names done new one i d n s within e =
    let text : Bor Text → Text = λ n. n.now in
    rw (n, map-append, e, s, take-map text i names, take-map text (i + 1) names, map_more text names i d within) refl

-- there are no names exactly where nothing is named
is_none : (n : ℕ) (b : Bool) → b ≡ (n == 0) → b ≡ true → n ≡ 0
is_none n b e is = grind (arith, e, is)

pub no_names : (files : List (Bor Text)) (n : ℕ) (b : Bool) → n ≡ length files → b ≡ (n == 0) → b ≡ true
    → map (λ (file : Bor Text). file.now) files ≡ []
no_names [] n b many e is = refl
no_names (file ∷ files) n b many e is = absurd (omega (arith, many, is_none n b e is))

pub some_names : (files : List (Bor Text)) → map (λ (file : Bor Text). file.now) files ≡ [] → length files ≡ 0
some_names [] none = refl
some_names (file ∷ files) none = absurd (cc)
