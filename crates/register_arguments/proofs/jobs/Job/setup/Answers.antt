-- What a job asks for fits a setup, which has what is written, or else what fits.
use Rattle.std.proofs.Common.{rules, ◌≡◌, ◌∙◌, ap, length, map, refl, true}
use Rattle.std.specs.Prelude.{unwrap_or}
use Rattle.std.proofs.lemmas.List.{length-map}
use Rattle.register_records.specs.SetupRules.{is_ring_size, is_stripe_count}
use Rattle.register_arguments.specs.Fittings.{fitting_for}
use Rattle.register_arguments.proofs.SetupLemmas.{no_fault, or_fits, separates}
use Rattle.register_arguments.proofs.jobs.Job.setup.Goals as goal

pub unreachable-requires : goal.unreachable-requires
unreachable-requires c =
    let job = c.args.self.now in
    let fit = c.fitting-fit.result in
    let ring : is_ring_size c.unwrap_or-ring.result ≡ true
    = rw c.unwrap_or-ring.ensures (or_fits is_ring_size job.ring fit.ring job.ring_fits fit.ring_fits) in
    let stripes : is_stripe_count c.unwrap_or-stripes.result ≡ true
    = rw c.unwrap_or-stripes.ensures (or_fits is_stripe_count job.stripes fit.stripes job.stripes_fit fit.stripes_fit) in
    search (rules, no_fault, separates)

pub returns : goal.returns
returns c =
    let fields = c.in-Ok.ensures.value in
    let job = c.args.self.now in
    let files : length (map (λ file. file.now) job.files.items) ≡ c.len.result = search (rules, length-map) in
    let ring : c.fitting-fit.result.ring ≡ (fitting_for c.args.processors (length (map (λ file. file.now) job.files.items))).ring
    = rw files c.fitting-fit.ensures.ring in
    let stripes : c.fitting-fit.result.stripes
    ≡ (fitting_for c.args.processors (length (map (λ file. file.now) job.files.items))).stripes
    = rw files c.fitting-fit.ensures.stripes in (
      rw (fields.2, fields.4, c.byte-byte.ensures) refl,
      rw (fields.0, fields.2, fields.4, c.byte-byte.ensures, c.as_slice.ensures.value) refl,
      fields.1 ∙ c.unwrap_or-ring.ensures ∙ ap (unwrap_or job.ring) ring,
      fields.3 ∙ c.unwrap_or-stripes.ensures ∙ ap (unwrap_or job.stripes) stripes,
    )
