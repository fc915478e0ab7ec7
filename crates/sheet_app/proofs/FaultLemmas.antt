-- Which file a fault names.
use Rattle.std.proofs.Common.{◌≡◌, ◌++◌, ◌<◌, ◌∙◌, ◌∷◌, [], ℕ, List, arith, get_or, inl, length, map, subst, suc, sym}
use Rattle.std.proofs.Common.{zero, Contains, Err, IfErr, IsErrAnd, Ok, Result, flat_map}
use Rattle.sheet_app.proofs.Common.{string_bytes, Text, Task, IsOfOutputs}
use Rattle.std.proofs.lemmas.List.{get_or-map, length-map}
use Rattle.std.proofs.lemmas.List.Elements.{Contains-append_left, Contains-append_right, Contains-get_or}
use Rattle.sheet_app.specs.FileSheets.{outputs_of}
use Rattle.sheet_app.specs.ProgramFaults.{IsFaultOfFiles}
use Rattle.sheet_app.specs.private.SheetViews.{IsOfInputs}
use Rattle.sheet_app.specs.declared.file_sheets.FileFault.{FileFault}
use Rattle.sheet_app.specs.declared.file_sheets.FileFault.TheVariants as file_fault

-- a fault that is handed on
pub handed : {A E : Type 0} (Q : E → Type 0) (result : Result A E) (fault : E) → IsErrAnd result (λ why. why ≡ fault)
    → Q fault → IfErr result Q
handed Q (Ok a) fault on is = absurd on
handed Q (Err why) fault on is = subst Q (sym on) is

-- it is of more outputs too
pub of_more : (names more : List Text) (fault : FileFault) → ((name : Text) → Contains names name → Contains more name)
    → IsOfOutputs names fault → IsOfOutputs more fault
of_more names more (file_fault.CannotOpen file) within is = absurd is
of_more names more (file_fault.CannotMake name) within is = within _ is
of_more names more file_fault.OutOfMemory within is = tt

pub is_only : (one name : Text) → Contains (one ∷ []) name → one ≡ name
is_only one name (zero, within, e) = e
is_only one name (suc k, within, e) = absurd (omega (arith, within))

-- the value of an item is one of all, behind another too
pub of_value : {X : Type 0} (f : X → Text) (xs : List X) (i : ℕ) (d : X) → i < length xs
    → (name : Text) → Contains (f (get_or xs i d) ∷ []) name → Contains (map f xs) name
of_value f xs i d within name one =
    let long : i < length (map f xs) = rw (length-map xs f) within in
    subst (Contains (map f xs)) (get_or-map f xs i d [] within ∙ is_only (f (get_or xs i d)) name one)
    (Contains-get_or (map f xs) i [] long)

pub behind : (first : Text) (names : List Text) (name : Text) → Contains names name → Contains (first ∷ names) name
behind first names name is = Contains-append_right (first ∷ []) names name is

-- one of the list of an item is one of those of all
pub of_list : {X : Type 0} (f : X → List Text) (xs : List X) (i : ℕ) (d : X) → i < length xs
    → (name : Text) → Contains (f (get_or xs i d)) name → Contains (flat_map f xs) name
of_list f [] i d within name is = absurd (omega (arith, within))
of_list f (x ∷ xs) zero d within name is = Contains-append_left (f x) (flat_map f xs) name is
of_list f (x ∷ xs) (suc i) d within name is =
    Contains-append_right (f x) (flat_map f xs) name (of_list f xs i d (omega (arith, within)) name is)

pub of_left : {Y : Type 0} (h : Y → List Text) (all names : List Text) (left rest : List Y) (item : Y)
    → left ≡ item ∷ rest → names ++ flat_map h left ≡ all → (name : Text) → Contains (h item) name → Contains all name
of_left h all names left rest item l e name is =
    subst (λ (xs : List Text). Contains xs name) e (Contains-append_right names (flat_map h left) name
    (rw l (Contains-append_left (h item) (flat_map h rest) name is)))

-- the files of a task
pub of_inputs : (task : Task) (names : List Text) (fault : FileFault) → names ≡ task.files → IsOfInputs names fault
    → IsFaultOfFiles task fault
of_inputs task names (file_fault.CannotOpen file) same is = inl (subst (λ (xs : List Text). Contains xs file.now) same is)
of_inputs task names (file_fault.CannotMake name) same is = absurd is
of_inputs task names file_fault.OutOfMemory same is = tt

pub of_outputs : (task : Task) (names : List Text) (fault : FileFault) → names ≡ outputs_of task → IsOfOutputs names fault
    → IsFaultOfFiles task fault
of_outputs task names (file_fault.CannotOpen file) same is = absurd is
of_outputs task names (file_fault.CannotMake name) same is =
    subst (λ (xs : List Text). Contains xs (string_bytes name)) same is
of_outputs task names file_fault.OutOfMemory same is = tt
