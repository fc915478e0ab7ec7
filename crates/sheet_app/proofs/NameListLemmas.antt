-- Lists of names, one behind the other.
use Rattle.std.proofs.Common.{◌≡◌, ◌<◌, ◌+◌, ◌++◌, ◌∷◌, [], List, ℕ, append-nil, append_assoc, get_or, length, map}
use Rattle.std.proofs.Common.{refl, subst, take, Contains}
use Rattle.sheet_app.proofs.Common.{Bor, Text, NameLine}
use Rattle.std.proofs.lemmas.List.{get_or-map, length-map, map_push, take_more}
use Rattle.std.proofs.lemmas.List.Elements.{Contains-get_or}
use Rattle.std.specs.declared.io.traits.Read as reads
use Rattle.sheet_app.specs.Answers.{AreListsIn, IsListIn}

abbrev text : Bor (List ℕ) → List ℕ
text file = file.now

-- a file at a place is one of all
pub one_of_files : (files : List (Bor (List ℕ))) (i : ℕ) (d : Bor (List ℕ)) → i < length files
    → Contains (map text files) (get_or files i d).now
one_of_files files i d within =
    let long : i < length (map text files) = rw (length-map files text) within in
    subst (Contains (map text files)) (get_or-map text files i d [] within) (Contains-get_or (map text files) i [] long)

-- one file more
one_list_more : {R : Type 0} (r : reads.Ghosts R) (IsOpened : Text → R → Type 0) (files : List Text) (file : Text)
    (own lines : List NameLine) → AreListsIn r IsOpened files own → IsListIn r IsOpened file lines
    → AreListsIn r IsOpened (files ++ file ∷ []) (own ++ lines)
one_list_more r IsOpened [] file own lines is one = (lines, [], one, refl, rw (is, append-nil lines) refl)
one_list_more r IsOpened (f ∷ fs) file own lines (first, others, of_first, of_others, e) one = (
  first,
  others ++ lines,
  of_first,
  one_list_more r IsOpened fs file others lines of_others one,
  rw (e, append_assoc first others lines) refl,
)

pub one_file_more : {R : Type 0} (r : reads.Ghosts R) (IsOpened : Text → R → Type 0) (files : List (Bor (List ℕ)))
    (i : ℕ) (d : Bor (List ℕ)) (own lines all : List NameLine) → i < length files
    → AreListsIn r IsOpened (map text (take i files)) own → IsListIn r IsOpened (get_or files i d).now lines
    → all ≡ own ++ lines → AreListsIn r IsOpened (map text (take (i + 1) files)) all
one_file_more r IsOpened files i d own lines all lt is one gained =
    rw (gained, take_more files i d lt, map_push text (take i files) (get_or files i d)) (
    one_list_more r IsOpened (map text (take i files)) (get_or files i d).now own lines is one)
