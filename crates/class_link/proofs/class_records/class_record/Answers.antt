use Rattle.std.proofs.Common.{refl}
use Rattle.class_link.proofs.class_records.class_record.Goals as goal

pub returns : goal.returns
returns c =
    rw (
      c.in_ok-from_slice.ensures,
      c.name_at.ensures,
      c.number_or_first.ensures,
      c.name_at-2.ensures,
      c.in_ok-numbers_at.ensures,
      c.as_slice.ensures,
      c.in_ok-numbers.ensures,
      c.len.ensures,
      c.in_ok-numbers-2.ensures,
      c.len-2.ensures,
      c.initialiser_from.ensures,
      c.as_slice-2.ensures,
      c.in_ok-mentions.ensures,
      c.slots-slots.ensures.gives,
    ) refl
