-- From the sources that have ended, each by itself, to the lists of a report. What is known of their threads.
use Rattle.std.proofs.Common.{◌↔◌}
use Rattle.register_run.proofs.Common.{rules, ◌≡◌, ◌∙◌, ap, refl, sym, subst, List, [], ◌∷◌, ◌++◌, map, length}
use Rattle.register_run.proofs.Common.{append_assoc, append-nil, arith, true, All, ◌⊎◌, ◌≤◌, ◌<◌, ℕ, zero, suc, inl}
use Rattle.register_run.proofs.Common.{inr, replicate, Err, IfSome, leb-true, Case, case, AreOfMachine, map-append}
use Rattle.register_run.proofs.Common.{Setup, SourceEnd, layout_of, reading_of, Stripe, Ran, case_of, end_of}
use Rattle.register_run.proofs.Common.{ended_case, output_of, ran_of, IsMachineWithTable, cases, and_parts, Cause}
use Rattle.register_run.proofs.Common.{stripe_setup, is_of_table, AreStaffed, Findings}
use Rattle.std.proofs.lemmas.List.Elements.{All-cons}
use Rattle.std.specs.declared.io.traits.Read as reads
use Rattle.register_records.specs.Sources.{is_whole_end, IfWhole, IfBroken, cause_number}
use Rattle.register_records.specs.declared.ends.Note.{Note}
use Rattle.register_records.specs.declared.outputs.Output as outputs
use Rattle.register_records.specs.declared.ends.Cause.TheVariants as cause
use Rattle.register_records.specs.declared.ends.SourceEnd.TheVariants as end
use Rattle.register_run.specs.declared.reports.Report.{Report}
use Rattle.register_run.specs.declared.reports.Verdict.TheVariants.{Complete}
use Rattle.register_run.specs.declared.ended_sources.EndedSource.{EndedSource}
use Rattle.register_run.specs.declared.running_sources.RunningSource.{RunningSource}
use Rattle.register_run.specs.Headline.{AtEachPlace, IsSourceEnd}
use Rattle.register_run.specs.Reports.{IsReport, IsReportOfMachine, IsReportOfThreads}
use Rattle.register_run.specs.Threads.{AreThreads, HasRing, AreThreadsOf}
use Rattle.register_run.specs.MetCauses.{IsLowest, IsMet}
use Rattle.register_run.specs.private.MetCauses.{HasMetNone}
use Rattle.register_run.proofs.HistoryLemmas.{staff}
use Rattle.register_run.proofs.EndedSourceLemmas.{thread_outcome}

module _ {R W : Type 0} {o : outputs.Ghosts W} where
  -- one more running source
  pub start_more : (setup : Setup) (all : List (Case R W)) (running_sources new : List (RunningSource R W o))
      (running_source : RunningSource R W o) (left rest : List R) (outs more : List W) (source : R) (output : W)
      → new ≡ running_sources ++ running_source ∷ [] → case_of running_source ≡ case source output setup
      → left ≡ source ∷ rest → outs ≡ output ∷ more
      → map case_of running_sources ++ cases setup left outs ≡ all → map case_of new ++ cases setup rest more ≡ all
  start_more setup all running_sources new running_source left rest outs more source output n s l m h =
      rw (n, map-append, append_assoc, s) (rw (l, m) at h)

  pub start_end : (setup : Setup) (all : List (Case R W)) (running_sources : List (RunningSource R W o)) (left : List R)
      (outs : List W) → length left ≡ 0
      → map case_of running_sources ++ cases setup left outs ≡ all → map case_of running_sources ≡ all
  start_end setup all running_sources [] outs e h = sym (append-nil (map case_of running_sources)) ∙ h
  start_end setup all running_sources (source ∷ left) outs e h = absurd (omega arith)

  pub start_begin : (setup : Setup) (left sources : List R) (outs outputs : List W) → left ≡ sources → outs ≡ outputs
      → (running_sources : List (RunningSource R W o)) → running_sources ≡ []
      → map case_of running_sources ++ cases setup left outs ≡ cases setup sources outputs
  start_begin setup left sources outs outputs l m running_sources n = rw (l, m, n) refl

-- what is known of a source
abbrev pub Known : {R W : Type 0} → reads.Ghosts R → outputs.Ghosts W → Setup → R → W → W → SourceEnd → Type 0
Known r o setup source before after e =
    (e ≡ end.Broken cause.BadHeader → after ≡ before)
    × ∥ IsSourceEnd o (reading_of setup) (layout_of setup) (r.remaining source) before after e ∥₁

-- so many outputs are handed back as were handed in, and so many ends as sources
pub lengths_of : {R W : Type 0} (Holds : R → W → W → SourceEnd → Type 0) (sources : List R) (given written : List W)
    (ends : List SourceEnd) → AtEachPlace Holds sources given written ends
    → (length written ≡ length given) × (length ends ≡ length sources)
lengths_of Holds [] [] [] [] h = (refl, refl)
lengths_of Holds (r ∷ rs) (g ∷ gs) (w ∷ ws) (e ∷ es) h = search (rules, lengths_of Holds rs gs ws es h.1)
lengths_of Holds sources given written ends h = absurd h

abbrev stripes_in : Ran → List Stripe
stripes_in ran = ran.stripes.value.items

module _ {R W : Type 0} {r : reads.Ghosts R} {o : outputs.Ghosts W} (setup : Setup) where
  -- what is known of all sources, one by one
  record AreKnown (all : List (EndedSource R W r o)) (sources : List R) (given : List W) : Type 0 where
    places : AtEachPlace (Known r o setup) sources given (map output_of all) (map end_of all)
    marks : map o.own_mark (map output_of all) ≡ map o.own_mark given
    setups : map (λ ran. ran.setup.value) (map ran_of all) ≡ map (λ source. setup) sources
    machine : AreOfMachine r o setup sources given (map output_of all) (map end_of all)
        (map stripes_in (map ran_of all))
    threads : AreThreads setup (map end_of all) (map ran_of all)

  are_known : (all : List (EndedSource R W r o)) (sources : List R) (given : List W) → length sources ≡ length given
      → map ended_case all ≡ cases setup sources given → AreKnown all sources given
  are_known [] [] [] len is = record { places = tt; marks = refl; setups = refl; machine = tt; threads = tt }
  are_known (one ∷ rest) (x ∷ xs) (y ∷ ys) len is =
      let first : ended_case one ≡ case x y setup = cc in let others : map ended_case rest ≡ cases setup xs ys = cc in
      let known = are_known rest xs ys (omega arith) others in
      let mark : o.own_mark one.output ≡ o.own_mark y = one.marked ∙ ap (λ (k : Case R W). o.own_mark k.output) first in
      let same : one.ran.setup.value ≡ setup = ap (λ (k : Case R W). k.setup) first in record {
        places = (
          subst (λ (k : Case R W). Known r o k.setup k.source k.output one.output one.end) first
              (one.untouched, one.source_end),
          known.places,
        );
        marks = ap (λ m. m ∷ map o.own_mark (map output_of rest)) mark ∙ ap (λ ms. o.own_mark y ∷ ms) known.marks;
        setups =
            ap (λ s. s ∷ map (λ ran. ran.setup.value) (map ran_of rest)) same ∙ ap (λ ss. setup ∷ ss) known.setups;
        machine = (
          subst (λ (k : Case R W). ∥ IfWhole one.end (λ count refused journal.
              IsMachineWithTable (r.remaining k.source) k.setup (o.contents k.output) (o.contents one.output) count
              (stripes_in one.ran)) ∥₁) first one.machine,
          known.machine,
        );
        threads = (
          subst (λ (k : Case R W). ∥ AreThreadsOf k.setup one.end one.ran ∥₁) first one.threads,
          known.threads,
        );
      }
  are_known all (x ∷ xs) [] len is = absurd (omega (arith, len))
  are_known all sources given len is = absurd (omega (arith, len, ap length is))

  module _ (all : List (EndedSource R W r o)) (sources : List R) (given : List W) (len : length sources ≡ length given)
      (is : map ended_case all ≡ cases setup sources given) where
    known : AreKnown all sources given
    known = are_known all sources given len is

    pub reported : (report : Report W) → report.outputs.items ≡ map output_of all
        → report.ends.items ≡ map end_of all → report.ran.items ≡ map ran_of all
        → ((report.verdict ≡ Complete) ↔ All (λ e. is_whole_end e ≡ true) report.ends.items)
        → IsReport r o setup sources given report × IsReportOfMachine r o setup sources given report
        × IsReportOfThreads setup report
    reported report wrote ends by verdict = (
      record {
        places = rw (wrote, ends) known.places;
        marks = ap (map o.own_mark) wrote ∙ known.marks;
        by_setup = ap (map (λ ran. ran.setup.value)) by ∙ known.setups;
        verdict = verdict;
      },
      rw (wrote, ends, by) known.machine,
      rw (ends, by) known.threads,
    )

-- ---- what is known of the threads of a source, by how it ended

some_stripe : (setup : Setup) → 0 < setup.stripes
some_stripe setup = grind (arith, leb-true, and_parts)

-- stripes that were started by a setup have its ring
rings_of : (setup : Setup) (stripes : List Stripe) (n : ℕ) → map stripe_setup stripes ≡ replicate n setup
    → All (HasRing setup.ring) stripes
rings_of setup [] n is = λ k d below. absurd (omega (arith, below))
rings_of setup (stripe ∷ stripes) zero is = absurd (cc)
rings_of setup (stripe ∷ stripes) (suc n) is =
    let first : stripe_setup stripe ≡ setup = cc in let others : map stripe_setup stripes ≡ replicate n setup = cc in
    let ring : stripe.setup.value.ring ≡ setup.ring = ap (λ (s : Setup). s.ring) first in
    All-cons (HasRing setup.ring) stripe stripes (stripe.room ∙ ring, stripe.room_for_rows ∙ ring)
    (rings_of setup stripes n others)

module _ (setup : Setup) (met : Findings) (journal : List Note)
    (of_table : IfSome met.fault (λ f. is_of_table f ≡ true)) where
  low_end : (e : SourceEnd) (c : Cause) → cause_number c ≤ 2 → met.sent.outcome ≡ Err c
      → IfWhole e (HasMetNone met journal) → IfBroken e (IsLowest (IsMet met))
      → (e ≡ end.Broken cause.NoMemory) ⊎ (e ≡ end.Broken cause.NoThread)
  low_end e c low outcome whole lowest = grind arith

  pub threads_of : (ran : Ran) (e : SourceEnd) → ran.findings.value ≡ met
      → AreStaffed setup met.sent.outcome ran.stripes.value.items
      → IfWhole e (HasMetNone met journal) → IfBroken e (IsLowest (IsMet met)) → AreThreadsOf setup e ran
  threads_of ran e is_met (inl (staffed, started)) whole lowest =
      search (rules, staff, rings_of, some_stripe, thread_outcome)
  threads_of ran e is_met (inr (none, why)) whole lowest = record {
    stripes = λ some. absurd (some none);
    rings = subst (All (HasRing setup.ring)) (sym none) (λ k d below. absurd (omega (arith, below)));
    none = λ is. elim why [
      | inl outcome ↦ low_end e cause.NoMemory (omega arith) outcome whole lowest
      | inr outcome ↦ low_end e cause.NoThread (omega arith) outcome whole lowest
    ];
    unstarted = λ is. none;
    lowest = subst (λ m. IfBroken e (IsLowest (IsMet m))) (sym is_met) lowest;
  }
