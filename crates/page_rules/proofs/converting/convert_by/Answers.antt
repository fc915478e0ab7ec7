use Rattle.std.proofs.Common.{◌≡◌, ◌∙◌, length, sym, ap}
use Rattle.register_records.specs.Views.{layout_of, reading_of}
use Rattle.page_rules.specs.private.Conversions.{sound_part}
use Rattle.page_rules.specs.Rooms.{with_front}
use Rattle.page_rules.proofs.RoomLemmas.{header_put, if_broken, many_put, nothing_put, part_put, sealed_put}
use Rattle.page_rules.proofs.RoomLemmas.{whole_put}
use Rattle.page_rules.proofs.converting.convert_by.Goals as goal

pub returns : goal.returns
returns c =
    let end = c.convert_source-end.result in
    let made = c.into_inner-made.result.items in
    let room : c.copy_if_fits-length.new.room ≡ with_front (sound_part end made) c.args.room.now =
    rw (c.sound_part.ensures, c.as_slice.ensures.value) at c.copy_if_fits-length.ensures.room in
    let count : c.copy_if_fits-length.result ≡ length (sound_part end made) =
    rw (c.sound_part.ensures, c.as_slice.ensures.value) at c.copy_if_fits-length.ensures.count in
    record {
      whole = whole_put (reading_of c.args.setup.now) (layout_of c.args.setup.now) c.args.text.now end made _ _ _ room count
          (rw (c.new-output.ensures.inner, c.bytes_for.ensures, sym c.into_inner-made.ensures)
          at c.convert_source-end.ensures.whole);
      numbers = c.convert_source-end.ensures.numbers;
      part = part_put (reading_of c.args.setup.now) (layout_of c.args.setup.now) c.args.text.now end made _ _ _ room count
          (rw (c.new-output.ensures.inner, c.bytes_for.ensures, sym c.into_inner-made.ensures)
          at c.convert_source-end.ensures.part);
      no_memory = nothing_put end made _ _ _ room count;
      bad_header = header_put (reading_of c.args.setup.now) (layout_of c.args.setup.now) c.args.text.now end made _ _ _ room count
          (if_broken end _ _ (λ cause h bad. let (same, none) = h bad in (
            ap (λ o. o.items) c.into_inner-made.ensures ∙ ap (λ o. o.inner.items) same
                ∙ ap (λ o. o.items) c.new-output.ensures.inner ∙ c.bytes_for.ensures,
            none,
          )) c.convert_source-end.ensures.bad_header);
      too_many = many_put (reading_of c.args.setup.now) (layout_of c.args.setup.now) c.args.text.now end made _ _ _ room count
          (rw (c.new-output.ensures.inner, c.bytes_for.ensures, sym c.into_inner-made.ensures)
          at c.convert_source-end.ensures.too_many);
      not_sealed = sealed_put (reading_of c.args.setup.now) (layout_of c.args.setup.now) c.args.text.now end made _ _ _ room count
          (rw (c.new-output.ensures.inner, c.bytes_for.ensures, sym c.into_inner-made.ensures)
          at c.convert_source-end.ensures.not_sealed);
      never = c.convert_source-end.ensures.never;
    }
