-- Arguments have one kind of fault at most, where the command has no subcommand.
use Rattle.std.proofs.Common.{rules, ◌≡◌, ◌∙◌, inl, inr, ℕ, zero, suc, List, [], ◌∷◌, Bool, true, false, Option, Some}
use Rattle.std.proofs.Common.{None, refl, sym, if◌then◌else◌}
use Rattle.std.specs.Option.{option_map_or}
use Rattle.std.specs.Prelude.{⊤, length, drop, encode_utf8}
use Rattle.clap.specs.Words.{IsAmong, Kinds, Rule, Row, Shape, Text}
use Rattle.clap.specs.Kinds.{or_else, request_kinds, values_kinds}
use Rattle.clap.specs.Walk.{Held, Step, Waiting, Walk, arg_by_id, arg_by_long, idle, value}
use Rattle.clap.specs.Faults.{action_fault, built_fault, bundle_step_fault, default_fault, defaults_fault}
use Rattle.clap.specs.Faults.{entered_fault, flag_word_fault, flags_fault, level_fault, long_fault, option_fault}
use Rattle.clap.specs.Faults.{react_fault, settle_fault, short_fault, step_fault, stray_fault, turn_fault, use_fault}
use Rattle.clap.specs.Faults.{walk_fault, word_fault}
use Rattle.clap.specs.declared.builder.action.ArgAction.{ArgAction}
use Rattle.clap.specs.declared.builder.action.ArgAction.TheVariants.{Set, Count}
use Rattle.clap.specs.declared.builder.value_parser.ValueParser.{ValueParser}
use Rattle.clap.specs.declared.error.kind.ErrorKind.{ErrorKind}

-- there is one kind at most
abbrev pub IsLone : Kinds → Type 0
IsLone [] = ⊤
IsLone (k ∷ []) = ⊤
IsLone (k ∷ l ∷ ks) = ⊥

lone_or : (a b : Kinds) → IsLone a → IsLone b → IsLone (or_else a b)
lone_or [] b x y = y
lone_or (k ∷ ks) b x y = x

lone_if : (b : Bool) (x y : Kinds) → IsLone x → IsLone y → IsLone (if b then x else y)
lone_if true x y p q = p
lone_if false x y p q = q

lone_option : {X : Type 0} (f : X → Kinds) (o : Option X) → ((x : X) → IsLone (f x)) → IsLone (option_map_or f o [])
lone_option f None h = tt
lone_option f (Some x) h = h x

-- ---- one use of an argument

lone_values : (i : Bool) (p : ValueParser) (values : List Text) → IsLone (values_kinds i p values)
lone_values i p [] = tt
lone_values i p (v ∷ vs) = search (rules, lone_or, lone_if, lone_values i p vs)

lone_request : (action : ArgAction) → IsLone (request_kinds action)
lone_request Set = tt
lone_request action = tt

lone_action : (action : ArgAction) (again : Bool) (a : Rule) (values : List Text) (rows : List Row)
    → IsLone (action_fault action again a values rows)
lone_action Count again a [] rows = search (rules, lone_if)
lone_action action again a values rows = search (rules, lone_or, lone_if, lone_values)

lone_use : (again : Bool) (a : Rule) (values : List Text) (rows : List Row) → IsLone (use_fault again a values rows)
lone_use again a values rows = search (rules, lone_or, lone_if, lone_action)

-- ---- the walk

module _ (c : List Rule) (again : Bool) where
  lone_settle : (h : Held) → IsLone (settle_fault c again h)
  lone_settle h = lone_option _ h.pending (λ p. lone_option _ (arg_by_id c p.0) (λ a. lone_use again a p.1 h.rows))

  lone_react : (a : Rule) (values : List Text) (h : Held) → IsLone (react_fault c again a values h)
  lone_react a values h = search (rules, lone_or, lone_settle, lone_use)

  lone_optional : (a : Rule) (v : Option Text) (h : Held) → IsLone (option_fault c again a v h)
  lone_optional a (Some v) h = lone_react a (v ∷ []) h
  lone_optional a None h = lone_settle h

  lone_long : (found : Option Rule) (v : Option Text) (h : Held) → IsLone (long_fault c again found v h)
  lone_long None v h = tt
  lone_long (Some a) v h = search (rules, lone_if, lone_optional, lone_react)

  lone_short : (found : Option Rule) (rest : Text) (h : Held) (onward : Held → Kinds) → ((g : Held) → IsLone (onward g))
      → IsLone (short_fault c again found rest h onward)
  lone_short None rest h onward lone = tt
  lone_short (Some a) rest h onward lone = search (rules, lone_if, lone_optional, lone_or, lone_react)

  lone_bundle_step : (x : Option ℕ) (flags : Text) (skip : ℕ) (h : Held) (onward : Text → ℕ → Held → Kinds)
      → ((f : Text) (s : ℕ) (g : Held) → IsLone (onward f s g))
      → IsLone (bundle_step_fault c again x flags skip h onward)
  lone_bundle_step None flags skip h onward lone = tt
  lone_bundle_step (Some x) flags zero h onward lone = search (rules, lone_short)
  lone_bundle_step (Some x) flags (suc skip) h onward lone = lone (drop (length (encode_utf8 x)) flags) skip h

  lone_flags : (k : ℕ) (flags : Text) (skip : ℕ) (h : Held) → IsLone (flags_fault c again k flags skip h)
  unfolding flags_fault
  lone_flags zero flags skip h = tt
  lone_flags (suc k) flags skip h = search (rules, lone_bundle_step, lone_flags k)

  lone_flag_word : (split : Option (Text × Option Text)) (word : Text) (h : Held)
      → IsLone (flag_word_fault c again split word h)
  lone_flag_word (Some p) word h = lone_long (arg_by_long c p.0) p.1 h
  lone_flag_word None word h = search (rules, lone_option, lone_flags)

module _ (s : Shape) (leaf : s.is_leaf ≡ true) where
  lone_word : (trails : Bool) (waiting : Waiting) (word : Text) (h : Held)
      → IsLone (word_fault s [] trails waiting word h)
  lone_word true waiting word h = tt
  lone_word false idle word h = search (rules, lone_if, lone_flag_word)
  lone_word false waiting word h = search (rules, lone_if, lone_flag_word)

  lone_stray : IsLone (stray_fault s)
  lone_stray = rw leaf tt

  lone_step : (position : ℕ) (h : Held) (step : Step) → IsLone (step_fault s position h step)
  lone_step position h value = search (rules, lone_stray, lone_if, lone_settle)
  lone_step position h step = tt

  lone_turn : (w : Walk) (word : Text) → IsLone (turn_fault s [] w word)
  lone_turn w word = search (rules, lone_if, lone_or, lone_word, lone_step)

  lone_walk : (arguments : List Text) (w : Walk) → IsLone (walk_fault s [] w arguments)
  unfolding walk_fault
  lone_walk [] w = tt
  lone_walk (word ∷ rest) w = lone_or (turn_fault s [] w word) _ (lone_turn w word) (lone_walk rest _)

  -- ---- after the walk

  lone_default : (rows : List Row) (a : Rule) → IsLone (default_fault rows a)
  lone_default rows a = search (rules, lone_if, lone_or, lone_request, lone_values)

  lone_defaults : (rules : List Rule) (rows : List Row) → IsLone (defaults_fault rows rules)
  unfolding defaults_fault
  lone_defaults [] rows = tt
  lone_defaults (a ∷ rest) rows = lone_or (default_fault rows a) _ (lone_default rows a) (lone_defaults rest _)

  lone_level : (h : Held) (arguments : List Text) (below : Bool) → IsLone (level_fault s [] h arguments below [])
  lone_level h arguments below = search (rules, lone_or, lone_if, lone_walk, lone_settle, lone_defaults)

  lone_below : (stop : Option (Text × List Text)) → entered_fault (record { top = s; subs = [] }) stop ≡ []
  lone_below None = refl
  lone_below (Some p) = refl

  pub lone_app : (h : Held) (arguments : List Text) → IsLone (built_fault (record { top = s; subs = [] }) h arguments)
  lone_app h arguments = search (rules, lone_below, lone_level)

pub one_of : (kinds : Kinds) (k l : ErrorKind) → IsLone kinds → IsAmong k kinds → IsAmong l kinds → k ≡ l
one_of [] k l lone p q = absurd p
one_of (x ∷ []) k l lone (inl p) (inl q) = p ∙ sym q
one_of (x ∷ []) k l lone (inl p) (inr q) = absurd q
one_of (x ∷ []) k l lone (inr p) q = absurd p
one_of (x ∷ y ∷ xs) k l lone p q = absurd lone
