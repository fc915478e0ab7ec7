-- Arguments mean one thing at most.
use Rattle.std.proofs.Common.{◌≡◌, ◌∙◌, List, [], ◌∷◌, sym, ap, refl, subst, arith, rules, inl, inr, Option, Some, None}
use Rattle.std.specs.Prelude.{⊤, IfSome, IsSomeAnd}
use Rattle.clap.specs.Values.{kind_of}
use Rattle.clap.specs.Words.{App, IsAmong, Row, Text, fault_of, found_of, matches_of, rows_of}
use Rattle.clap.specs.declared.error.Error.{Error}
use Rattle.clap.specs.declared.error.kind.ErrorKind.{ErrorKind}
use Rattle.clap.specs.declared.parser.matches.ArgMatches.{ArgMatches}
use Rattle.clap.specs.declared.error.kind.ErrorKind.TheVariants.{DisplayHelp, DisplayVersion}
use Rattle.programs.specs.Faults.{Fault, fault_of_error, usage}
use Rattle.programs.specs.Meanings.{AllPass, AreTaken, Check, CommandLine, FailFirst, IsFaultOf, Mean, MeanJust, Meaning}
use Rattle.programs.specs.Meanings.{file_check, help, option_check, usage_check, version, work, wrong}
use Rattle.programs.specs.Requests.{AreRead, AreUnread}
use Rattle.programs.specs.declared.requests.Request.{Request}
use Rattle.programs.specs.declared.requests.Request.TheVariants.{Convert, Help, Version}
use Rattle.programs.specs.declared.request_faults.RequestFault.{RequestFault}
use Rattle.programs.specs.declared.request_faults.RequestFault.TheVariants.{OutOfMemory, Refused, Usage}
use Rattle.programs.proofs.FileLemmas.{fit_no_fault, one_file_fault}

-- a check finds one fault at most, and none where it passes
pub record IsSound (check : Check) : Type 0 where
  pub one : (fault other : Fault) → check.fails fault → check.fails other → fault ≡ other
  pub none : (fault : Fault) → check.passes → check.fails fault → ⊥

abbrev pub AreSound : List Check → Type 0
AreSound [] = ⊤
AreSound (check ∷ checks) = IsSound check × AreSound checks

-- and so do checks in order
first_fault : (checks : List Check) → AreSound checks → (fault other : Fault) → FailFirst checks fault
    → FailFirst checks other → fault ≡ other
first_fault [] sound fault other x y = absurd x
first_fault (check ∷ later) sound fault other (inl x) (inl y) = sound.0.one fault other x y
first_fault (check ∷ later) sound fault other (inl x) (inr y) = absurd (sound.0.none fault y.0 x)
first_fault (check ∷ later) sound fault other (inr x) (inl y) = absurd (sound.0.none other x.0 y)
first_fault (check ∷ later) sound fault other (inr x) (inr y) = first_fault later sound.1 fault other x.1 y.1

no_fault : (checks : List Check) → AreSound checks → AllPass checks → (fault : Fault) → FailFirst checks fault → ⊥
no_fault [] sound pass fault x = x
no_fault (check ∷ later) sound pass fault (inl x) = sound.0.none fault pass.0 x
no_fault (check ∷ later) sound pass fault (inr x) = no_fault later sound.1 pass.1 fault x.1

pub sound_option : {A : Type 0} (value_of : Text → Option A) (what : Text) (value : Option Text)
    → IsSound (option_check value_of what value)
sound_option value_of what value = search rules

pub sound_files : (files : List Text) → IsSound (file_check files)
sound_files files = search (rules, one_file_fault, fit_no_fault)

-- a fault that a check finds is one that the checks find
pub found_first : (found : Option Fault) (fails : Fault → Type 0) (checks : List Check) → IfSome found fails
    → ((fault : Fault) → fails fault → FailFirst checks fault) → IfSome found (FailFirst checks)
found_first found fails checks is first = grind arith

pub if_some : (found : Option Fault) (fails : Fault → Type 0) → IsSomeAnd found fails → IfSome found fails
if_some found fails is = grind arith

-- what a command line has to show: arguments have one kind of fault at most, the checks are sound, and what is asked for
-- is one thing
pub record IsClear {T : Type 0} (line : CommandLine T) : Type 0 where
  pub kinds : (arguments : List Text) (k l : ErrorKind) → IsAmong k (fault_of line.command arguments)
      → IsAmong l (fault_of line.command arguments) → k ≡ l
  pub sound : (found : List Row) → AreSound (line.checks found)
  pub one : (found : List Row) (task other : T) → line.asks found task → line.asks found other → task ≡ other

module _ {T : Type 0} (line : CommandLine T) (arguments : List Text) where
  module _ (clear : IsClear line) where
    not_taken : (kind : ErrorKind) → AreTaken line arguments → IsAmong kind (fault_of line.command arguments) → ⊥
    not_taken kind taken among = subst (IsAmong kind) taken among

    sound_usage : IsSound (usage_check line arguments)
    sound_usage = record {
      one = λ fault other is same. is.1
          ∙ ap (λ kind. usage kind) (clear.kinds arguments is.0 same.0 is.2 same.2) ∙ sym same.1;
      none = λ fault taken is. not_taken is.0 taken is.2;
    }

    all_sound : AreSound (usage_check line arguments ∷ line.checks (matches_of line.command arguments))
    all_sound = (sound_usage, clear.sound (matches_of line.command arguments))

    help_no_fault : (fault : Fault) → Mean line arguments help → IsFaultOf line arguments fault → ⊥
    help_no_fault fault asks (inl is) = is.3 (clear.kinds arguments is.0 DisplayHelp is.2 asks)
    help_no_fault fault asks (inr is) = not_taken DisplayHelp is.0 asks

    version_no_fault : (fault : Fault) → Mean line arguments version → IsFaultOf line arguments fault → ⊥
    version_no_fault fault asks (inl is) = is.4 (clear.kinds arguments is.0 DisplayVersion is.2 asks)
    version_no_fault fault asks (inr is) = not_taken DisplayVersion is.0 asks

    help_no_version : Mean line arguments help → Mean line arguments version → ⊥
    help_no_version asks other =
        let same : DisplayHelp ≡ DisplayVersion = clear.kinds arguments DisplayHelp DisplayVersion asks other in cc

    work_no_fault : (task : T) (fault : Fault) → Mean line arguments (work task) → ¬ IsFaultOf line arguments fault
    work_no_fault task fault asks = grind (arith, no_fault, all_sound)

    one_meaning : (meaning other : Meaning T) → Mean line arguments meaning → Mean line arguments other
        → other ≡ meaning
    one_meaning help help x y = refl
    one_meaning version version x y = refl
    one_meaning (work task) (work other) x y = grind arith
    one_meaning (wrong fault) (wrong other) x y =
        ap (λ f. wrong f)
        (first_fault (usage_check line arguments ∷ line.checks (matches_of line.command arguments)) all_sound other fault y x)
    one_meaning meaning other x y =
        absurd (search (rules, help_no_version, not_taken, help_no_fault, version_no_fault, work_no_fault))

    -- what the arguments mean is all that they mean
    mean_just : (meaning : Meaning T) → Mean line arguments meaning → MeanJust line arguments meaning
    mean_just meaning means other =
        (λ e. subst (Mean line arguments) (sym e) means, λ m. one_meaning meaning other means m)

    -- so they mean what is read of them, by a command that is the line's, or what is wrong where they are not read
    module _ (app : App) (is_its : app ≡ line.command) where
      usage_just : (error : Error) → AreUnread app arguments (Usage error)
          → MeanJust line arguments (wrong (usage (kind_of error)))
      usage_just error unread =
          let is = subst (λ (a : App). AreUnread a arguments (Usage error)) is_its unread in
          mean_just (wrong (usage (kind_of error))) (inl (kind_of error, refl, is.0, is.1, is.2))

      pub unread_just : (error : RequestFault) → AreUnread app arguments error
          → IfSome (fault_of_error error) (λ fault. MeanJust line arguments (wrong fault))
      unread_just OutOfMemory unread = tt
      unread_just (Usage error) unread = usage_just error unread
      unread_just (Refused what word) unread = absurd unread

      module _ (found : Request ArgMatches) (read : AreRead app arguments found) where
        read_as : (other : Request ArgMatches) → found ≡ other → AreRead line.command arguments other
        read_as other is =
            subst (λ (a : App). AreRead a arguments other) is_its
            (subst (λ (r : Request ArgMatches). AreRead app arguments r) is read)

        pub help_just : found ≡ Help → MeanJust line arguments help
        help_just is = mean_just help (read_as Help is)

        pub version_just : found ≡ Version → MeanJust line arguments version
        version_just is = mean_just version (read_as Version is)

        -- a fault that a check of their values finds, or what these ask for
        module _ (matches : ArgMatches) (is : found ≡ Convert matches) where
          pub fault_just : (fault : Option Fault) → IfSome fault (FailFirst (line.checks (rows_of (found_of matches))))
              → IfSome fault (λ f. MeanJust line arguments (wrong f))
          fault_just None fails = tt
          fault_just (Some fault) fails =
              let taken = read_as (Convert matches) is in
              mean_just (wrong fault)
              (inr (taken.0, subst (λ (rows : List Row). FailFirst (line.checks rows) fault) taken.1 fails))

          pub work_just : (task : T) → AllPass (line.checks (rows_of (found_of matches)))
              → line.asks (rows_of (found_of matches)) task → MeanJust line arguments (work task)
          work_just task pass asks =
              let taken = read_as (Convert matches) is in
              let all = subst (λ (rows : List Row). AllPass (line.checks rows) × line.asks rows task) taken.1 (pass, asks) in
              mean_just (work task) (taken.0, all.0, all.1)
