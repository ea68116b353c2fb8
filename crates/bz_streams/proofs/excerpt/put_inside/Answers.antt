use Rattle.std.proofs.Common.{append_assoc}
use Rattle.bz_streams.proofs.excerpt.put_inside.Goals as goal

pub returns : goal.returns
returns c =
    rw (
      c.put-7.ensures.items,
      c.put-6.ensures.items,
      c.put-5.ensures.items,
      c.put-4.ensures.items,
      c.put-3.ensures.items,
      c.put-2.ensures.items,
      c.put.ensures.items,
      c.as_bytes.ensures.value,
      c.as_bytes-2.ensures.value,
      c.format.ensures.text,
      c.format-2.ensures.text,
    )
    (simp append_assoc)
